use Rattle.std.proofs.Common.{ℕ, ◌+◌, ◌-◌, ◌*◌, ◌/◌, ◌≤◌, [], ap, min, rules, subst, sym, arith}
use Rattle.dl_base.specs.Limits.{most_tables}
use Rattle.db_store.proofs.Committing.{body_leads, commits_committed, commits_with, handles_few, handles_new}
use Rattle.db_store.proofs.Ending.{commit_more}
use Rattle.db_store.proofs.Room.{room_commit, room_log, room_tables, spare_commit}
use Rattle.db_replay.specs.Applying.{new_in}
use Rattle.db_store.specs.Log.{commits_from, open_branches}
use Rattle.db_store.specs.Store.{Database}
use Rattle.std.proofs.lemmas.Grind.{common_steps}
use Rattle.db_store.proofs.store.Store.commit.Goals as goal

pub enter-requires-clause-new : goal.enter-requires-clause-new
enter-requires-clause-new g c =
    handles_new c.args.self.now.rows c.args.made c.self.inside.log.entries c.self.inside.opening c.self.inside.ended.numbers (ap (λ (x : Database). x.rows) c.self.view_is) c.requires.taken
    c.self.inside.tables.tables c.len.result c.parts-body.result.1 c.self.invariant.1 c.len.ensures.commits c.parts-body.ensures.handles c.parts-body.ensures.order

pub enter-requires-clause-room_tables : goal.enter-requires-clause-room_tables
enter-requires-clause-room_tables g c =
    let few = handles_few c.args.self.now.rows c.args.made c.self.inside.log.entries c.self.inside.opening c.self.inside.ended.numbers (ap (λ (x : Database). x.rows) c.self.view_is) c.requires.taken
    c.self.inside.tables.tables c.len.result c.parts-body.result.1 c.self.invariant.1 c.len.ensures.commits c.parts-body.ensures.handles (c.args.made.rooms * most_tables) c.parts-body.ensures.few in
    let room = c.self.inside.ended.spare - open_branches c.self.inside.ended.numbers (commits_from 1 [] c.self.inside.log.entries) in
    room_tables c.args.made.rooms (new_in c.parts-body.result.1) c.self.inside.log.spare c.self.inside.tables.spare room few
    (subst (λ (n : ℕ). c.args.made.rooms ≤ n) (sym (ap (λ (x : Database). x.spare) c.self.view_is)) c.requires.room)

pub enter-requires-clause-room_log : goal.enter-requires-clause-room_log
enter-requires-clause-room_log g c =
    let room = c.self.inside.ended.spare - open_branches c.self.inside.ended.numbers (commits_from 1 [] c.self.inside.log.entries) in
    room_log c.args.made.rooms c.self.inside.log.spare c.self.inside.tables.spare room c.parts-body.ensures.some
    (subst (λ (n : ℕ). c.args.made.rooms ≤ n) (sym (ap (λ (x : Database). x.spare) c.self.view_is)) c.requires.room)

pub returns-in-Ok-clause-rows : goal.returns-in-Ok-clause-rows
returns-in-Ok-clause-rows g c =
    commits_with c.args.self.now.rows c.args.made c.self.inside.log.entries c.self.inside.opening c.self.inside.ended.numbers (ap (λ (x : Database). x.rows) c.self.view_is) c.requires.taken
    c.self.inside.tables.tables c.len.result c.parts-body.result.1 c.self.invariant.1 c.len.ensures.commits c.parts-body.ensures.handles
    c.tx-tx.result c.branch-branch.result (commits_from 1 [] c.enter.new.log.entries) c.enter.ensures.commits c.tx-tx.ensures c.branch-branch.ensures

pub returns-in-Ok-clause-spare : goal.returns-in-Ok-clause-spare
returns-in-Ok-clause-spare g c =
    let few = handles_few c.args.self.now.rows c.args.made c.self.inside.log.entries c.self.inside.opening c.self.inside.ended.numbers (ap (λ (x : Database). x.rows) c.self.view_is) c.requires.taken
    c.self.inside.tables.tables c.len.result c.parts-body.result.1 c.self.invariant.1 c.len.ensures.commits c.parts-body.ensures.handles (c.args.made.rooms * most_tables) c.parts-body.ensures.few in
    let now = min c.enter.new.log.spare (c.enter.new.tables.spare / most_tables) in
    let spare = c.self.inside.ended.spare in
    let ended = c.self.inside.ended.numbers in
    let before = open_branches ended (commits_from 1 [] c.self.inside.log.entries) in
    let after = open_branches ended (commits_from 1 [] c.enter.new.log.entries) in
    subst (λ (n : ℕ). n ≤ min now (spare - after) + c.args.made.rooms) (ap (λ (x : Database). x.spare) c.self.view_is)
    (spare_commit c.args.made.rooms (new_in c.parts-body.result.1) c.self.inside.log.spare c.self.inside.tables.spare c.enter.new.log.spare c.enter.new.tables.spare spare before after
    c.parts-body.ensures.some few c.enter.ensures.spare_log c.enter.ensures.spare_tables (commit_more c.self.inside.log.entries c.enter.new.log.entries ended _ c.enter.ensures.commits))

pub invariant_of-self : goal.invariant_of-self
invariant_of-self g c =
    let was = min c.self.inside.log.spare (c.self.inside.tables.spare / most_tables) in
    let spare = c.self.inside.ended.spare in
    let ended = c.self.inside.ended.numbers in
    let before = open_branches ended (commits_from 1 [] c.self.inside.log.entries) in
    let after = open_branches ended (commits_from 1 [] c.enter.new.log.entries) in
    let room = subst (λ (n : ℕ). c.args.made.rooms ≤ n) (sym (ap (λ (x : Database). x.spare) c.self.view_is)) c.requires.room in (
      search rules,
      c.enter.ensures.at,
      commits_committed c.args.self.now.rows c.args.made c.self.inside.log.entries c.self.inside.opening ended (ap (λ (x : Database). x.rows) c.self.view_is) c.requires.taken
          c.self.inside.tables.tables c.len.result c.parts-body.result.1 c.self.invariant.1 c.len.ensures.commits c.parts-body.ensures.handles
          c.tx-tx.result c.branch-branch.result (commits_from 1 [] c.enter.new.log.entries) c.enter.ensures.commits c.self.invariant.2,
      room_commit c.args.made.rooms was spare before after c.parts-body.ensures.some room (commit_more c.self.inside.log.entries c.enter.new.log.entries ended _ c.enter.ensures.commits),
    )

pub returns-in-Ok-clause-same : goal.returns-in-Ok-clause-same
returns-in-Ok-clause-same g c = grind (arith, common_steps)

pub returns-in-Err-clause-spelled : goal.returns-in-Err-clause-spelled
returns-in-Err-clause-spelled g c = grind (arith, common_steps)

pub returns-in-Err-clause-does : goal.returns-in-Err-clause-does
returns-in-Err-clause-does g c = grind (arith, common_steps)

pub returns-in-Ok-clause-spelled : goal.returns-in-Ok-clause-spelled
returns-in-Ok-clause-spelled g c = grind (arith, common_steps)

pub enter-requires-clause-body : goal.enter-requires-clause-body
enter-requires-clause-body g c =
    body_leads c.args.self.now.rows c.args.made c.self.inside.log.entries c.self.inside.opening c.self.inside.ended.numbers (ap (λ (x : Database). x.rows) c.self.view_is) c.requires.taken
    c.self.inside.tables.tables c.len.result c.parts-body.result.1 c.self.invariant.1 c.len.ensures.commits c.parts-body.ensures.handles c.parts-body.result.0 c.parts-body.ensures.changes

pub enter-requires-clause-none : goal.enter-requires-clause-none
enter-requires-clause-none g c = grind (arith, common_steps)

pub returns-in-Ok-clause-value : goal.returns-in-Ok-clause-value
returns-in-Ok-clause-value g c = grind (arith, common_steps)

pub write-requires : goal.write-requires
write-requires g c = grind (arith, common_steps)

pub returns-in-Ok-clause-does : goal.returns-in-Ok-clause-does
returns-in-Ok-clause-does g c = grind (arith, common_steps)

pub enter-requires-clause-at : goal.enter-requires-clause-at
enter-requires-clause-at g c = grind (arith, common_steps)

pub returns-in-Err-clause-err : goal.returns-in-Err-clause-err
returns-in-Err-clause-err g c = grind (arith, common_steps)
