use Rattle.std.proofs.Common.{ℕ, ◌-◌, ◌/◌, ◌≤◌, [], ap, min, rules, subst, arith}
use Rattle.dl_base.specs.Limits.{most_tables}
use Rattle.db_store.proofs.Ending.{can_end, end_keeps, end_less, end_room}
use Rattle.db_store.proofs.Room.{spare_end}
use Rattle.db_store.specs.Log.{commits_from, open_branches}
use Rattle.db_store.specs.Store.{Database}
use Rattle.std.proofs.lemmas.Grind.{common_steps}
use Rattle.db_store.proofs.store.Store.ended.Goals as goal

pub put-requires-clause-room : goal.put-requires-clause-room
put-requires-clause-room g c =
    let r = c.args.self.now.rows in
    end_room r c.self.inside.opening (commits_from 1 [] c.self.inside.log.entries) c.self.inside.ended.numbers (ap (λ (x : Database). x.rows) c.self.view_is) c.args.tx (can_end r c.args.tx c.requires.taken)
    c.self.inside.ended.spare c.self.invariant.3

pub invariant_of-self : goal.invariant_of-self
invariant_of-self g c =
    let r = c.args.self.now.rows in (
      search rules,
      c.self.invariant.1,
      c.self.invariant.2,
      end_keeps r c.self.inside.opening (commits_from 1 [] c.self.inside.log.entries) c.self.inside.ended.numbers (ap (λ (x : Database). x.rows) c.self.view_is) c.args.tx (can_end r c.args.tx c.requires.taken)
          c.put.new.self.numbers c.self.inside.ended.spare c.put.new.self.spare c.put.ensures.numbers c.self.invariant.3 c.put.ensures.spare,
    )

pub returns-in-Ok-clause-spare : goal.returns-in-Ok-clause-spare
returns-in-Ok-clause-spare g c =
    let r = c.args.self.now.rows in
    let cs = commits_from 1 [] c.self.inside.log.entries in
    let ended = c.self.inside.ended.numbers in
    let room = min c.self.inside.log.spare (c.self.inside.tables.spare / most_tables) in
    let later = open_branches c.put.new.self.numbers cs in
    let less = end_less r c.self.inside.opening cs ended (ap (λ (x : Database). x.rows) c.self.view_is) c.args.tx (can_end r c.args.tx c.requires.taken) c.put.new.self.numbers c.put.ensures.numbers in
    subst (λ (n : ℕ). n ≤ min room (c.put.new.self.spare - later)) (ap (λ (x : Database). x.spare) c.self.view_is)
    (spare_end room c.self.inside.ended.spare c.put.new.self.spare (open_branches ended cs) later c.put.ensures.spare less)

pub returns-in-Err-clause-err : goal.returns-in-Err-clause-err
returns-in-Err-clause-err g c = grind (arith, common_steps)

pub returns-in-Err-clause-does : goal.returns-in-Err-clause-does
returns-in-Err-clause-does g c = grind (arith, common_steps)

pub write-requires : goal.write-requires
write-requires g c = grind (arith, common_steps)

pub returns-in-Ok-clause-same : goal.returns-in-Ok-clause-same
returns-in-Ok-clause-same g c = grind (arith, common_steps)

pub returns-in-Ok-clause-rows : goal.returns-in-Ok-clause-rows
returns-in-Ok-clause-rows g c = grind (arith, common_steps)

pub returns-in-Ok-clause-does : goal.returns-in-Ok-clause-does
returns-in-Ok-clause-does g c = grind (arith, common_steps)
