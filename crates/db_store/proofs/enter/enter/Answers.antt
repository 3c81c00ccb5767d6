use Rattle.std.proofs.Common.{◌≡◌, ◌+◌, ℕ, List, Some, is_none, length, ap, sym, ◌∙◌}
use Rattle.db_changes.specs.Made.{changes_in}
use Rattle.db_replay.specs.Changes.{applied}
use Rattle.meaning_areas.specs.Commits.{with_table_changes}
use Rattle.meaning_tables.specs.Tables.{Tables}
use Rattle.db_store.proofs.HistoryLaws.{after_all}
use Rattle.db_store.proofs.LogLaws.{all_committed, none_yet}
use Rattle.db_store.specs.declared.log.Entry.{Entry}
use Rattle.db_store.proofs.enter.enter.Goals as goal

pub push-requires-clause-new : goal.push-requires-clause-new
push-requires-clause-new c = none_yet c.args.tx c.args.log.now.entries (ap is_none c.requires.none)

pub returns-clause-commits : goal.returns-clause-commits
returns-clause-commits c =
    let was = c.args.tables.now.tables in
    let entry : Entry = record { branch = c.args.branch; body = c.from_vec.result } in
    let same : c.from_vec.result ≡ c.args.body = c.from_vec.ensures ∙ c.into_vec.ensures in
    let leads : with_table_changes (length c.args.log.now.entries + 1) was (changes_in c.from_vec.result) ≡ Some (applied was c.args.changes) =
    ap (λ (b : List ℕ). with_table_changes (length c.args.log.now.entries + 1) was (changes_in b)) same ∙ c.requires.body in
    all_committed c.args.log.now.entries c.push.new.self.entries c.args.tx entry was (applied was c.args.changes) c.push.ensures.entries c.requires.at leads

pub returns-clause-at : goal.returns-clause-at
returns-clause-at c =
    let was = c.args.tables.now.tables in
    let entry : Entry = record { branch = c.args.branch; body = c.from_vec.result } in
    let same : c.from_vec.result ≡ c.args.body = c.from_vec.ensures ∙ c.into_vec.ensures in
    let leads : with_table_changes (length c.args.log.now.entries + 1) was (changes_in c.from_vec.result) ≡ Some (applied was c.args.changes) =
    ap (λ (b : List ℕ). with_table_changes (length c.args.log.now.entries + 1) was (changes_in b)) same ∙ c.requires.body in
    after_all c.args.log.now.entries c.push.new.self.entries c.args.tx entry was c.apply_all.new.tables.tables c.push.ensures.entries c.requires.at
    (leads ∙ ap (λ (ts : Tables). Some ts) (sym c.apply_all.ensures.tables))
