-- THE LAW OF SERIAL WRITERS: what a transaction commits is what its statements make, one after the other, of the tables after the
-- commit before it.
use Rattle.std.specs.Prelude.{◌≡◌, ℕ, ◌+◌, ◌-◌, ◌^◌, ◌<◌, ◌==◌, ◌&&◌, Bool, true, false, not, if◌then◌else◌, List, [], ◌∷◌, ◌++◌, filter, map, Option, Some, None}
use Rattle.std.specs.List.{All}
use Rattle.dl_base.specs.declared.answer.Answer.{Answer}
use Rattle.dl_base.specs.declared.answer.Answer.TheVariants as answers
use Rattle.dl_base.specs.declared.statement.Stmt.{Stmt}
use Rattle.dl_base.specs.declared.step.Step.{Step}
use Rattle.dl_base.specs.declared.step.Step.TheVariants as steps
use Rattle.meaning_areas.specs.Commits.{Commit}
use Rattle.meaning_areas.specs.Stands.{past}
use Rattle.meaning_merge.specs.Merging.{as_version}
use Rattle.meaning_sql.specs.declared.Context.{Context}
use Rattle.meaning_system.specs.Machine.{run, step}
use Rattle.meaning_system.specs.Sql.{Evaluated, named_by}
use Rattle.meaning_system.specs.State.{State, Txn, context_of, is_active, txn_of}
use Rattle.meaning_tables.specs.Tables.{Tables}
use Rattle.meaning_serial.specs.Freely.{evaluated_freely, is_left_out}

-- ---- what a transaction said

-- A statement of a transaction: what it was evaluated with (the settings, the moment and the transaction's number) and its answer.
pub record Said : Type 0 where
  pub stmt : Stmt
  pub context : Context
  pub answer : Answer

-- a statement is that of the transaction which its session has, while this is active
abbrev pub said_by : State → Stmt → Answer → Option (ℕ × Txn) → ℕ → List Said
said_by s stmt answer None tx = []
said_by s stmt answer (Some e) tx = if (e.0 == tx) && is_active e.1.phase then record { stmt = stmt; context = context_of s tx; answer = answer } ∷ [] else []

abbrev pub said_in : State → Step → ℕ → List Said
said_in s (steps.Statement session stmt) tx = said_by s stmt (step s (steps.Statement session stmt)).0 (txn_of s session) tx
said_in s _ tx = []

-- the statements of a transaction in a run, in order
abbrev pub said : State → List Step → ℕ → List Said
said s [] tx = []
said s (x ∷ xs) tx = said_in s x tx ++ said (step s x).1 xs tx

-- the tables that statements name
abbrev pub names_in : List Said → List (List ℕ)
names_in [] = []
names_in (x ∷ xs) = named_by x.stmt ++ names_in xs

-- ---- the same statements once more

abbrev pub standing : List Said → List Said
standing xs = filter (λ x. not (is_left_out x.answer)) xs

-- tables and next link number after some statements, and what they answered
pub record Replay : Type 0 where
  pub tables : Tables
  pub next : ℕ
  pub answers : List Answer

abbrev pub behind : Evaluated → Replay → Replay
behind e rest = record { tables = rest.tables; next = rest.next; answers = e.answer ∷ rest.answers }

-- each on what the one before it made
abbrev pub replay : Tables → ℕ → List Said → Replay
replay tables k [] = record { tables = tables; next = k; answers = [] }
replay tables k (x ∷ xs) =
    let e = evaluated_freely tables x.stmt x.context k in
    behind e (replay e.tables e.next xs)

abbrev pub without_versions : Tables → Tables
without_versions tables = map (λ t. (t.0, as_version 0 t.1)) tables

-- from some tables statements give again what they answered
abbrev pub AnswerAgain : Tables → List Said → Type 0
AnswerAgain tables xs = (replay tables 1 (standing xs)).answers ≡ map (λ x. x.answer) (standing xs)

-- ---- the writers of a run

-- A transaction that committed, and the number of its commit.
pub record Writer : Type 0 where
  pub commit : ℕ
  pub tx : ℕ

abbrev pub writer_by : Answer → Option (ℕ × Txn) → List Writer
writer_by (answers.Committed number) (Some e) = record { commit = number; tx = e.0 } ∷ []
writer_by _ _ = []

abbrev pub writers_in : State → Step → List Writer
writers_in s (steps.Decide session) = writer_by (step s (steps.Decide session)).0 (txn_of s session)
writers_in s _ = []

-- in order of commit
abbrev pub writers : State → List Step → List Writer
writers s [] = []
writers s (x ∷ xs) = writers_in s x ++ writers (step s x).1 xs

-- ONE WRITER: on the tables after the commit before its own, its statements give the answers that they gave, and they lead to the
-- tables after its commit, but for versions
pub record Serial (commits : List Commit) (w : Writer) (xs : List Said) : Type 0 where
  pub before : Tables
  pub after : Tables
  pub was : past [] commits (w.commit - 1) ≡ Some before
  pub is : past [] commits w.commit ≡ Some after
  pub answers : AnswerAgain before xs
  pub tables : without_versions (replay before 1 (standing xs)).tables ≡ without_versions after

-- ALL WRITERS of a run
abbrev pub AreSerial : State → List Step → Type 0
AreSerial s xs = All (λ (w : Writer). Serial (run s xs).1.commits w (said s xs w.tx)) (writers s xs)

-- a step with an answer by which it adds a commit; one of a restore is of no transaction that said anything
abbrev pub adds_commit : Step → Answer → Bool
adds_commit (steps.Decide session) (answers.Committed number) = true
adds_commit (steps.Restore target) (answers.Restored number lost) = true
adds_commit _ _ = false

-- a number is left to draw before each step
abbrev pub MayDraw : State → List Step → Type 0
MayDraw s [] = Unit {0}
MayDraw s (x ∷ xs) = (s.drawn + 1 < 2 ^ 32) × MayDraw (step s x).1 xs
