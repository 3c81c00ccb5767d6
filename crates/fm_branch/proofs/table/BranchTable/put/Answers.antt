use Rattle.std.proofs.Common.{◌++◌, ◌∷◌, [], ℕ, List, is_some, ap, sym, ◌∙◌}
use Rattle.std.specs.FinMap as maps
use Rattle.fm_branch.proofs.TableLaws.{named-more, new-number, once-more}
use Rattle.fm_branch.specs.Table.{Numbered, Table, are_once}
use Rattle.meaning_areas.specs.Commits.{has_number}
use Rattle.fm_branch.proofs.table.BranchTable.put.Goals as goal

pub invariant_of-self-2 : goal.invariant_of-self-2
invariant_of-self-2 c =
    let txs = c.self.inside.prepared.items in
    let table : Table = maps.from_entries c.self.inside.entries.entries in
    let more = c.push.ensures ∙ ap (λ (l : List ℕ). l ++ c.args.tx ∷ []) c.in_ok-reserve.ensures.items in
    let new = new-number txs table c.args.tx c.self.invariant.0 (ap (λ (n : Numbered). maps.get n.table c.args.tx) c.self.view_is ∙ c.requires) in (
      λ q.
          ap (λ (l : List ℕ). has_number q l) more ∙ named-more txs table c.args.tx c.args.entry c.self.invariant.0 q
          ∙ ap (λ (t : Table). is_some (maps.get t q)) (sym c.in_ok-insert.ensures.ok),
      ap (λ (l : List ℕ). are_once l) more ∙ once-more txs c.args.tx c.self.invariant.1 new,
    )
