use Rattle.std.proofs.Common.{◌≡◌, take}
use Rattle.sql_print.specs.Writing.{joined_tokens}
use Rattle.sql_print.proofs.Joins.{tight_after}
use Rattle.sql_print.proofs.printer.joined.Given as goal

abbrev pub invariant-tokens : goal.invariant-tokens
invariant-tokens l = (l.out ≡ joined_tokens (take l.token-index l.tokens)) × (l.tight ≡ tight_after (take l.token-index l.tokens))
