use Rattle.std.proofs.Common.{ℕ, ◌-◌, ◌/◌, ◌≤◌, [], List, length, ap, min, subst, sym, ◌∙◌, arith}
use Rattle.dl_base.specs.Limits.{most_tables}
use Rattle.meaning_areas.specs.Commits.{tables_after}
use Rattle.db_store.proofs.Ending.{log_few, room_same}
use Rattle.db_store.proofs.Room.{more_room, on_ok, room_for}
use Rattle.db_store.specs.Log.{AllCommitted, commits_from, open_branches}
use Rattle.db_store.specs.Store.{Database}
use Rattle.db_store.specs.declared.log.Entry.{Entry}
use Rattle.std.proofs.lemmas.Grind.{common_steps}
use Rattle.db_store.proofs.store.Store.make_room.Goals as goal

pub invariant_of-self : goal.invariant_of-self
invariant_of-self c =
    let e = c.make_room.ensures in
    let inv = c.self.invariant in (
      inv.0,
      e.tables ∙ inv.1 ∙ ap (λ (l : List (ℕ × Entry)). tables_after [] (commits_from 1 [] l)) (sym e.log),
      subst (λ (l : List (ℕ × Entry)). AllCommitted (commits_from 1 [] l)) (sym e.log) inv.2,
      room_same c.self.inside.log.entries c.make_room.new.log.entries c.self.inside.ended.numbers c.make_room.new.ended.numbers c.self.inside.ended.spare c.make_room.new.ended.spare e.log e.ended e.spare_ended inv.3,
    )

pub returns-clause-room : goal.returns-clause-room
returns-clause-room c =
    let e = c.make_room.ensures in
    on_ok c.make_room.result e.room_log e.room_tables e.room_ended (λ log tables ended.
    room_for c.args.commits c.make_room.new.log.spare c.make_room.new.tables.spare c.make_room.new.ended.spare (open_branches c.make_room.new.ended.numbers (commits_from 1 [] c.make_room.new.log.entries))
    (length c.self.inside.log.entries) log tables ended
    (subst (λ (l : List (ℕ × Entry)). open_branches c.make_room.new.ended.numbers (commits_from 1 [] l) ≤ length c.self.inside.log.entries) (sym e.log) (log_few c.self.inside.log.entries c.make_room.new.ended.numbers)))

pub returns-clause-spare : goal.returns-clause-spare
returns-clause-spare c =
    let e = c.make_room.ensures in
    let spare = min (min c.make_room.new.log.spare (c.make_room.new.tables.spare / most_tables)) in
    subst (λ (n : ℕ). n ≤ spare (c.make_room.new.ended.spare - open_branches c.make_room.new.ended.numbers (commits_from 1 [] c.make_room.new.log.entries))) (ap (λ (x : Database). x.spare) c.self.view_is)
    (subst (λ (l : List (ℕ × Entry)). min (min c.self.inside.log.spare (c.self.inside.tables.spare / most_tables)) (c.self.inside.ended.spare - open_branches c.self.inside.ended.numbers (commits_from 1 [] c.self.inside.log.entries)) ≤ spare (c.make_room.new.ended.spare - open_branches c.make_room.new.ended.numbers (commits_from 1 [] l))) (sym e.log)
    (subst (λ (ms : List ℕ). min (min c.self.inside.log.spare (c.self.inside.tables.spare / most_tables)) (c.self.inside.ended.spare - open_branches c.self.inside.ended.numbers (commits_from 1 [] c.self.inside.log.entries)) ≤ spare (c.make_room.new.ended.spare - open_branches ms (commits_from 1 [] c.self.inside.log.entries))) (sym e.ended)
    (more_room c.self.inside.log.spare c.self.inside.tables.spare c.make_room.new.log.spare c.make_room.new.tables.spare c.self.inside.ended.spare c.make_room.new.ended.spare (open_branches c.self.inside.ended.numbers (commits_from 1 [] c.self.inside.log.entries)) e.spare_log e.spare_tables e.spare_ended)))

pub returns-clause-same : goal.returns-clause-same
returns-clause-same c = grind (arith, common_steps)
