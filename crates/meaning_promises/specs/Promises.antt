-- Votes, decisions and the records that they write; which numbers of transactions are new; and what a refusal may change.
use Rattle.std.specs.Prelude.{◌≡◌, ◌==◌, ℕ, ◌<◌, Bool, false, List, [], ◌∷◌, ◌++◌, map, Option, Some, None}
use Rattle.std.specs.FinMap as maps
use Rattle.dl_base.specs.declared.answer.Answer.TheVariants as answers
use Rattle.dl_base.specs.declared.answer.Refusal.{Refusal}
use Rattle.dl_base.specs.declared.answer.Refusal.TheVariants as reasons
use Rattle.dl_base.specs.declared.statement.Stmt.{Stmt}
use Rattle.dl_base.specs.declared.step.Phase.{Phase}
use Rattle.dl_base.specs.declared.step.Step.{Step}
use Rattle.dl_base.specs.declared.step.Step.TheVariants as steps
use Rattle.dl_base.specs.declared.value.LinkRow.{LinkRow}
use Rattle.dl_codec.specs.declared.links.LinksRecord.TheVariants as links_records
use Rattle.dl_codec.specs.declared.rows.RowsRecord.TheVariants as rows_records
use Rattle.meaning_areas.specs.Branches.{Branch}
use Rattle.meaning_areas.specs.Commits.{Commit}
use Rattle.meaning_areas.specs.Lists.{Folds, Written, in_links, in_rows}
use Rattle.meaning_areas.specs.Stands.{IsCommit, past}
use Rattle.meaning_merge.specs.Merging.{commit_changes}
use Rattle.meaning_merge.specs.Touching.{In}
use Rattle.meaning_tables.specs.Links.{gives, links, takes}
use Rattle.meaning_tables.specs.Tables.{Tables}
use Rattle.meaning_system.specs.Claims.{version_of, with_names}
use Rattle.meaning_system.specs.Machine.{step}
use Rattle.meaning_system.specs.Sql.{named_by}
use Rattle.meaning_system.specs.State.{State, Txn, has_links, is_active, is_decided, is_left, is_prepared, moved_of, tables_of, txn_of}
use Rattle.meaning_system.specs.Writes.{taken_by}

-- A VOTE: a Prepare that is answered Done, and the transaction of its session
pub record IsVote (s : State) (session tx : ℕ) (t : Txn) : Type 0 where
  pub answer : (step s (steps.Prepare session)).0 ≡ answers.Done
  pub whose : txn_of s session ≡ Some (tx, t)

-- A DECISION: a Decide that is answered with a commit, and the transaction of its session
pub record IsDecision (s : State) (session tx : ℕ) (t : Txn) (c : ℕ) : Type 0 where
  pub answer : (step s (steps.Decide session)).0 ≡ answers.Committed c
  pub whose : txn_of s session ≡ Some (tx, t)

-- the record of a vote: the links that the transaction gives, and those that it takes, none of them to be filled
abbrev pub vote_record : ℕ → Txn → Written
vote_record tx t = in_links (links_records.Prepared tx (gives t.base t.copy) (map (taken_by false) (takes t.base t.copy)))

-- the record of a decision: the number of the commit, whether there was a vote with links, and the changes of tables
abbrev pub decision_record : ℕ → Txn → ℕ → Written
decision_record tx t c = in_rows (rows_records.Commit tx c (has_links (moved_of t)) (commit_changes t.base t.copy))

-- WHETHER A STEP MAY END a transaction that has voted: Decide, Finish and Rollback of its session, and Resolve where no session has it

abbrev pub has_txn : ℕ → Option ℕ → Bool
has_txn tx None = false
has_txn tx (Some own) = own == tx

abbrev pub may_end : State → Step → ℕ → Bool
may_end s (steps.Decide session) tx = has_txn tx (maps.get s.sessions session)
may_end s (steps.Finish session) tx = has_txn tx (maps.get s.sessions session)
may_end s (steps.Rollback session) tx = has_txn tx (maps.get s.sessions session)
may_end s steps.Resolve tx = is_left s tx
may_end s _ tx = false

-- A NUMBER IS NEW: each transaction number that there is lies below it
pub record IsNew (n : ℕ) (f : Folds) (s : State) : Type 0 where
  -- those of commits, of transactions that have not ended, and of branches in Links
  pub commits : (c : Commit) → IsCommit c s.commits → c.tx < n
  pub transactions : (tx : ℕ) (t : Txn) → maps.get s.txs tx ≡ Some t → tx < n
  pub branches : (tx : ℕ) (b : Branch) → maps.get f.links.table tx ≡ Some b → tx < n
  -- and those in the numbers of links: of the tables after each commit, and of what is not decided yet
  pub links_of_commits : (k : ℕ) (tables : Tables) (l : LinkRow) → past [] s.commits k ≡ Some tables → In l (links tables) → l.link.tx < n
  pub links_of_copies : (tx : ℕ) (t : Txn) (l : LinkRow) → maps.get s.txs tx ≡ Some t → is_decided t.phase ≡ false → In l (links t.copy) → l.link.tx < n

-- A STEP DRAWS A NUMBER: a Begin is answered with it, or a Restore makes a commit that has it
abbrev pub Draws : State → Step → ℕ → Type 0
Draws s (steps.Begin session) n = (step s (steps.Begin session)).0 ≡ answers.Begun n
Draws s (steps.Restore t) n = (commit : Commit) × ((step s (steps.Restore t)).1.commits ≡ s.commits ++ commit ∷ []) × (commit.tx ≡ n)
Draws s _ n = ⊥

-- WHETHER A STEP MAY CHANGE SOMETHING THOUGH IT IS REFUSED: a statement of an active transaction, and a Decide of a prepared one

abbrev pub has_phase : (Phase → Bool) → Option (ℕ × Txn) → Bool
has_phase test None = false
has_phase test (Some e) = test e.1.phase

abbrev pub may_change : State → Step → Bool
may_change s (steps.Statement session stmt) = has_phase is_active (txn_of s session)
may_change s (steps.Decide session) = has_phase is_prepared (txn_of s session)
may_change s _ = false

-- a transaction that has named the tables of a statement too
abbrev pub naming : Txn → Stmt → Txn
naming t stmt = record t { named = with_names t.named (named_by stmt) }

-- THE CONFLICT of a transaction: a table, the version that the transaction saw, and the present one
abbrev pub IsConflict : State → Txn → Refusal → Type 0
IsConflict s t why = (name : List ℕ) × (why ≡ reasons.Conflict name (version_of t.base name) (version_of (tables_of s) name))
