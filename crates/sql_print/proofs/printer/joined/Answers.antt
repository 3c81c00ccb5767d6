use Rattle.sql_print.proofs.Joins.{join_step}
use Rattle.sql_print.proofs.printer.joined.Goals as goal

pub tokens-preserved : goal.tokens-preserved
tokens-preserved c = join_step c.args.tokens.now c.tokens.token-index c.token-item.result c.tokens.out c.put_gap.new.out c.put_token.new.out c.tokens.tight c.is_dot-dot.result c.tokens-test.true c.token-item.is c.tokens.invariant.0 c.tokens.invariant.1 c.is_dot-dot.ensures c.in_ok-put_gap.ensures c.in_ok-put_token.ensures
