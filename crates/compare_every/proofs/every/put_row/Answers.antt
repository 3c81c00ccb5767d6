use Rattle.std.proofs.Common.{◌≡◌, ℕ, List, Some, sym, ap, ◌∙◌, arith}
use Rattle.std.specs.BTreeMap.{get}
use Rattle.std.specs.Cmp.Lexicographic.{slice_cmp}
use Rattle.std.specs.Option.{option_copied}
use Rattle.std.specs.Ordering.{nat_cmp}
use Rattle.meaning_settling.specs.Settling.{link_key}
use Rattle.compare_every.proofs.Rows.{kept-row}
use Rattle.std.proofs.lemmas.Grind.{common_steps}
use Rattle.compare_every.proofs.every.put_row.Goals as goal

pub returns-in-Some : goal.returns-in-Some
returns-in-Some c n =
    let found : get (slice_cmp nat_cmp) c.args.rows.now (link_key c.args.link.now.link) ≡ Some c.in-Some.field-0.now =
    ap (λ (q : List ℕ). get (slice_cmp nat_cmp) c.args.rows.now q) (sym c.number_of.ensures) ∙ sym c.get.ensures.value ∙ ap option_copied c.in-Some.is in
    kept-row (get (slice_cmp nat_cmp) c.args.rows.now) (link_key c.args.link.now.link) n c.in-Some.field-0.now c.args.link.now found

pub returns-in-None : goal.returns-in-None
returns-in-None c = grind (arith, common_steps)
