use Rattle.std.proofs.Common.{List, ℕ, subst, sym}
use Rattle.std.specs.Result.{is_ok}
use Rattle.db_changes.specs.Touched.{Touched}
use Rattle.db_changes.proofs.Numbers.{Gap, Held, held-insert}
use Rattle.db_changes.proofs.touched.TouchedRows.insert.Goals as goal

pub invariant_of-self-2 : goal.invariant_of-self-2
invariant_of-self-2 c =
    let held = c.self.inside.entries.items in
    subst Held (sym {A = Touched} c.insert.ensures.items)
    (held-insert (is_ok c.insert.result) held c.in_ok-copy.field-0 c.args.numbers c.args.index c.self.invariant c.requires.rise
    (subst (λ (ts : Touched). Gap ts c.in_ok-copy.field-0 c.args.index) (sym c.self.view_is) (subst (λ (n : List ℕ). Gap c.args.self.now n c.args.index) (sym c.in_ok-copy.ensures) c.requires.place)))
