use Rattle.std.proofs.Common.{◌≡◌, ◌++◌, ◌∷◌, [], ℕ, List, is_some, sym, ap, ◌∙◌}
use Rattle.std.specs.FinMap as maps
use Rattle.fm_branch.proofs.TableLaws.{named-less, once-less, still-there, taken_back}
use Rattle.fm_branch.specs.Table.{Numbered, Table, are_once}
use Rattle.meaning_areas.specs.Commits.{has_number}
use Rattle.fm_branch.proofs.table.BranchTable.take_back.Goals as goal

pub invariant_of-self-2 : goal.invariant_of-self-2
invariant_of-self-2 c =
    let txs = c.pop.new.self.items in
    let table : Table = maps.from_entries c.self.inside.entries.entries in
    let is : c.self.inside.prepared.items ≡ txs ++ c.in-Some.tx ∷ [] = c.in-Some.ensures.items in
    let once = sym (ap (λ (l : List ℕ). are_once l) is) ∙ c.self.invariant.1 in (
      λ q.
          named-less txs c.in-Some.tx once table (λ p. sym (ap (λ (l : List ℕ). has_number p l) is) ∙ c.self.invariant.0 p) q
          ∙ ap (λ (t : Table). is_some (maps.get t q)) (sym c.remove.ensures),
      once-less txs c.in-Some.tx once,
    )

pub returns-clause-back : goal.returns-clause-back
returns-clause-back c before tx b new put =
    let txs = c.pop.new.self.items in
    let table : Table = maps.from_entries c.self.inside.entries.entries in
    let is : c.self.inside.prepared.items ≡ txs ++ c.in-Some.tx ∷ [] = c.in-Some.ensures.items in
    let was : ◌≡◌ {A = Numbered} (record { table = table; prepared = txs ++ c.in-Some.tx ∷ [] }) c.args.self.now =
    (λ i. record { table = table; prepared = sym is i }) ∙ c.self.view_is in
    (λ i. record { table = c.remove.ensures i; prepared = txs })
    ∙ taken_back before tx b new table txs c.in-Some.tx (was ∙ put)

pub returns-clause-fewer : goal.returns-clause-fewer
returns-clause-fewer c tx b there =
    let table : Table = maps.from_entries c.self.inside.entries.entries in
    sym (ap (λ (n : Numbered). maps.get n.table tx) c.self.view_is)
    ∙ still-there table c.in-Some.tx tx b (ap (λ (t : Table). maps.get t tx) (sym c.remove.ensures) ∙ there)
