use Rattle.std.proofs.Common.{◌≡◌, false, drop, get_or, Some, sym, ap, ◌∙◌}
use Rattle.dl_base.specs.Blank.{is_blank}
use Rattle.sql_lex.specs.Scan.{front, scan}
use Rattle.sql_lex.proofs.Steps.{lexeme_step, rest_is}
use Rattle.sql_lex.proofs.lexer.scan.Goals as goal

-- the lexeme that was found joins the list
pub bytes-preserved : goal.bytes-preserved
bytes-preserved c =
    let bs = c.args.text.now in
    let found : front (drop c.bytes.at bs) ≡ Some (c.in-Some.kind, c.in-Some.len) = ap front (sym (rest_is c.bytes.at bs)) ∙ sym (rw c.in-Some.is at c.in_ok-kind.ensures.exact) in
    let within = rw c.in-Some.is at c.in_ok-kind.ensures.within in
    let blank : is_blank (get_or bs c.bytes.at 0) ≡ false = sym c.is_blank.ensures ∙ c.if-is_blank.false in
    rw c.in_ok-push.ensures.ok (lexeme_step c.bytes.list bs (scan 0 1 bs) c.bytes.at c.bytes-test.true c.in-Some.kind c.in-Some.len blank found within.0 c.bytes.invariant)
