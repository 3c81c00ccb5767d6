use Rattle.std.proofs.Common.{ℕ, List, ◌++◌, ◌∷◌, [], take, get_or, sym, ap, ◌∙◌, append_assoc}
use Rattle.sql_lex.specs.Spelling.{doubled}
use Rattle.sql_print.proofs.Joins.{doubled_step}
use Rattle.sql_print.proofs.writing.put_doubled.Goals as goal

pub bytes-preserved : goal.bytes-preserved
bytes-preserved c =
    let xs = c.args.bytes.now in
    let i = c.bytes.byte-index in
    let old = c.args.out.now in
    let b = doubled (get_or xs i 0 ∷ []) in
    c.in_ok-put_literal_byte.ensures ∙ ap (λ (y : List ℕ). y ++ b) c.bytes.invariant ∙ append_assoc old (doubled (take i xs)) b ∙ ap (λ (y : List ℕ). old ++ y) (sym (doubled_step xs i 0 c.bytes-test.true))
