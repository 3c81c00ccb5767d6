use Rattle.std.proofs.Common.{◌*◌, ◌≤◌, ◌++◌, ℕ, List, drop, length, take, sym, ap, ◌∙◌, subst, arith}
use Rattle.std.specs.Int.{to_be_bytes, w64}
use Rattle.dl_base.specs.Limits.{most_tables}
use Rattle.dl_codec.specs.Rows.{rows_record}
use Rattle.db_changes.specs.Handles.{NewLast}
use Rattle.db_changes.specs.Made.{Making, changes_in, record_of}
use Rattle.db_changes.proofs.Spelled.{changes_read, is_long, other_fits, other_number}
use Rattle.db_replay.specs.Applying.{new_in}
use Rattle.std.proofs.lemmas.Grind.{common_steps}
use Rattle.db_changes.proofs.made.Made.parts.Goals as goal

pub numbered-requires : goal.numbered-requires
numbered-requires c =
    let m = c.self.inside in
    subst (λ (bytes : List ℕ). 17 ≤ length bytes) (sym c.self.invariant.body) (is_long m.tx 0 m.branch (changes_in m.body))

pub returns-clause-body : goal.returns-clause-body
returns-clause-body c =
    let m = c.self.inside in
    c.numbered.ensures ∙ ap (λ (bytes : List ℕ). take 9 bytes ++ to_be_bytes w64 c.args.number ++ drop 17 bytes) c.self.invariant.body
    ∙ other_number m.tx 0 c.args.number m.branch (changes_in m.body)
    ∙ ap (λ (s : Making). rows_record.spelling (record_of s c.args.number)) c.self.view_is

pub returns-clause-fits : goal.returns-clause-fits
returns-clause-fits c =
    let m = c.self.inside in
    subst (λ (s : Making). rows_record.fits (record_of s c.args.number)) c.self.view_is (other_fits m.tx 0 c.args.number m.branch (changes_in m.body) c.ranges.number.fits c.self.invariant.fits)

pub returns-clause-few : goal.returns-clause-few
returns-clause-few c = subst (λ (s : Making). new_in s.handles ≤ s.rooms * most_tables) c.self.view_is c.self.invariant.few

pub returns-clause-some : goal.returns-clause-some
returns-clause-some c = subst (λ (s : Making). 1 ≤ s.rooms) c.self.view_is c.self.invariant.some

pub returns-clause-order : goal.returns-clause-order
returns-clause-order c = subst (λ (s : Making). NewLast s.handles) c.self.view_is c.self.invariant.order

pub returns-clause-changes : goal.returns-clause-changes
returns-clause-changes c =
    let m = c.self.inside in
    let changes = changes_in m.body in
    changes_read c.rows_records_have_one_spelling.ensures m.tx c.args.number m.branch changes c.numbered.result
    (c.numbered.ensures ∙ ap (λ (bytes : List ℕ). take 9 bytes ++ to_be_bytes w64 c.args.number ++ drop 17 bytes) c.self.invariant.body ∙ other_number m.tx 0 c.args.number m.branch changes)
    (other_fits m.tx 0 c.args.number m.branch changes c.ranges.number.fits c.self.invariant.fits)
    ∙ ap (λ (s : Making). s.changes) c.self.view_is

pub returns-clause-handles : goal.returns-clause-handles
returns-clause-handles c = grind (arith, common_steps)
