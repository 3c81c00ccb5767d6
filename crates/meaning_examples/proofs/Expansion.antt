-- The steps that a line takes, one behind the answers of another, and its answer.
use Rattle.std.proofs.Common.{◌≡◌, ◌+◌, ◌^◌, ℕ, List, [], ◌∷◌, map, replicate, codes, Option, Some, None, refl}
use Rattle.hex.specs.Hex.{decode_pairs}
use Rattle.dl_base.specs.Path.{path_test}
use Rattle.dl_base.specs.declared.answer.Answer.{Answer}
use Rattle.dl_base.specs.declared.answer.Answer.TheVariants as answers
use Rattle.dl_base.specs.declared.answer.Refusal.TheVariants as reasons
use Rattle.dl_base.specs.declared.file.FileCmd.{FileCmd}
use Rattle.dl_base.specs.declared.file.FileWhat.{FileWhat}
use Rattle.dl_base.specs.declared.file.FileWhat.TheVariants as whats
use Rattle.dl_base.specs.declared.statement.Stmt.{Stmt}
use Rattle.dl_base.specs.declared.statement.Stmt.TheVariants as statements
use Rattle.dl_base.specs.declared.step.Phase.{Phase}
use Rattle.dl_base.specs.declared.step.Phase.TheVariants.{Active, Prepared, Decided}
use Rattle.dl_base.specs.declared.step.Step.TheVariants as steps
use Rattle.dl_base.specs.declared.step.Target.TheVariants as targets
use Rattle.dl_base.specs.declared.value.LinkNo.{LinkNo}
use Rattle.dl_token.specs.Tokens.{begins_with_token, read_token}
use Rattle.fs_command.specs.declared.line.FileLine.TheVariants as asked
use Rattle.meaning_script.specs.Expansion.{Then, does, given, answered, silent, expansion, session, statement, alone, behind_statement, behind_prepare, behind_decide, commit, commit_behind, goes_on, file, read_of, system, archive, backup, backup_from, backup_behind, crash_both}
use Rattle.meaning_script.specs.declared.kind.Line.{Line}
use Rattle.meaning_script.specs.declared.kind.Line.TheVariants as lines
use Rattle.meaning_script.specs.declared.kind.Order.{Order}
use Rattle.meaning_script.specs.declared.kind.Order.TheVariants as orders
use Rattle.meaning_script.specs.declared.kind.Sentence.{Sentence}
use Rattle.meaning_script.specs.declared.kind.Sentence.TheVariants as sentences
use Rattle.meaning_script.specs.declared.next.ActorState.{ActorState}

-- answers of steps
abbrev begun : Answer
begun = answers.Begun (2 ^ 32 + 2)

abbrev done : Answer
done = answers.Done

abbrev committed : Answer
committed = answers.Committed 2

abbrev refused : Answer
refused = answers.Refused reasons.NoTransaction

abbrev archived : Answer
archived = answers.Archived 1

-- what a line of session 2 comes to, in a phase or outside a transaction, behind the answers of its steps so far
abbrev Row : Type 0
Row = Option Phase × List Answer

abbrev says : Sentence → List Row → List Then
says sentence rows = map (λ r. expansion (lines.Session (codes "A") sentence) (record { session = 2; phase = r.0; last = None }) r.1 []) rows

abbrev drop_t : Stmt
drop_t = statements.DropTable (codes "t")

-- ---- a statement

-- by itself: Begin, Statement, Prepare, Decide and Finish; it is answered as its Statement was
alone_well : says (sentences.Sql drop_t) ((None, []) ∷ (Some Active, begun ∷ []) ∷ (Some Active, begun ∷ done ∷ []) ∷ (Some Prepared, begun ∷ done ∷ done ∷ []) ∷ (Some Decided, begun ∷ done ∷ done ∷ committed ∷ []) ∷ (None, begun ∷ done ∷ done ∷ committed ∷ done ∷ []) ∷ [])
    ≡ does (steps.Begin 2)
    ∷ does (steps.Statement 2 drop_t)
    ∷ does (steps.Prepare 2)
    ∷ does (steps.Decide 2)
    ∷ does (steps.Finish 2)
    ∷ given 1
    ∷ []
unfolding expansion session statement alone behind_statement behind_prepare behind_decide
alone_well = refl

-- its Statement or its Prepare is refused: a Rollback follows, and the answer is the refusal
alone_refused : says (sentences.Sql drop_t) ((Some Active, begun ∷ refused ∷ []) ∷ (None, begun ∷ refused ∷ done ∷ []) ∷ (Some Active, begun ∷ done ∷ refused ∷ []) ∷ (None, begun ∷ done ∷ refused ∷ done ∷ []) ∷ [])
    ≡ does (steps.Rollback 2)
    ∷ given 1
    ∷ does (steps.Rollback 2)
    ∷ given 2
    ∷ []
unfolding expansion session statement alone behind_statement behind_prepare behind_decide
alone_refused = refl

-- its Decide drops the transaction, or is refused: nothing follows
alone_dropped : says (sentences.Sql drop_t) ((None, begun ∷ done ∷ done ∷ done ∷ []) ∷ (None, begun ∷ done ∷ done ∷ refused ∷ []) ∷ []) ≡ given 1 ∷ given 3 ∷ []
unfolding expansion session statement alone behind_decide
alone_dropped = refl

-- in a transaction it is one step, whatever that is answered
in_a_transaction : says (sentences.Sql drop_t) ((Some Active, []) ∷ (Some Active, done ∷ []) ∷ (Some Active, refused ∷ []) ∷ []) ≡ does (steps.Statement 2 drop_t) ∷ given 0 ∷ given 0 ∷ []
unfolding expansion session statement
in_a_transaction = refl

-- ---- BEGIN, ROLLBACK and COMMIT

-- one step, in a transaction too, where the step is refused
begin : says (sentences.Sql statements.Begin) ((None, []) ∷ (Some Active, begun ∷ []) ∷ (Some Active, []) ∷ []) ≡ does (steps.Begin 2) ∷ given 0 ∷ does (steps.Begin 2) ∷ []
unfolding expansion session
begin = refl

rollback : says (sentences.Sql statements.Rollback) ((Some Active, []) ∷ (None, done ∷ []) ∷ []) ≡ does (steps.Rollback 2) ∷ given 0 ∷ []
unfolding expansion session
rollback = refl

-- without a transaction one Prepare, which is refused
commit_of_nothing : says (sentences.Sql statements.Commit) ((None, []) ∷ (None, refused ∷ []) ∷ []) ≡ does (steps.Prepare 2) ∷ given 0 ∷ []
unfolding expansion session commit commit_behind
commit_of_nothing = refl

-- Prepare, Decide and Finish; it is answered the commit
commit_well : says (sentences.Sql statements.Commit) ((Some Active, []) ∷ (Some Prepared, done ∷ []) ∷ (Some Decided, done ∷ committed ∷ []) ∷ (None, done ∷ committed ∷ done ∷ []) ∷ []) ≡ does (steps.Prepare 2) ∷ does (steps.Decide 2) ∷ does (steps.Finish 2) ∷ given 1 ∷ []
unfolding expansion session commit commit_behind goes_on
commit_well = refl

-- up to the first refusal, or to a Decide that drops the transaction
commit_up_to : says (sentences.Sql statements.Commit) ((Some Active, refused ∷ []) ∷ (None, done ∷ refused ∷ []) ∷ (None, done ∷ done ∷ []) ∷ []) ≡ given 0 ∷ given 1 ∷ answered answers.Done ∷ []
unfolding expansion session commit commit_behind goes_on
commit_up_to = refl

-- of these steps those that the phase still needs
commit_from : says (sentences.Sql statements.Commit) ((Some Prepared, []) ∷ (None, committed ∷ done ∷ []) ∷ (Some Decided, []) ∷ (None, done ∷ []) ∷ []) ≡ does (steps.Decide 2) ∷ given 0 ∷ does (steps.Finish 2) ∷ answered answers.Done ∷ []
unfolding expansion session commit commit_behind goes_on
commit_from = refl

-- ---- the three steps by themselves

prepare : says sentences.Prepare ((Some Active, []) ∷ (None, refused ∷ []) ∷ []) ≡ does (steps.Prepare 2) ∷ given 0 ∷ []
unfolding expansion session
prepare = refl

decide : says sentences.Decide ((None, []) ∷ (Some Decided, committed ∷ []) ∷ []) ≡ does (steps.Decide 2) ∷ given 0 ∷ []
unfolding expansion session
decide = refl

finish : says sentences.Finish ((None, []) ∷ []) ≡ does (steps.Finish 2) ∷ []
unfolding expansion session
finish = refl

-- ---- lines of users

abbrev nobody : ActorState
nobody = record { session = 2; phase = None; last = None }

-- what a line comes to behind some answers, no copies being pending
abbrev comes : Line → List (List Answer) → List Then
comes line rows = map (λ answers_so_far. expansion line nobody answers_so_far []) rows

abbrev by_ann : FileWhat → FileCmd
by_ann what = record { user = codes "ann"; what = what }

listed : comes (lines.File (asked.Command (by_ann whats.List))) ([] ∷ (done ∷ []) ∷ []) ≡ does (steps.File (by_ann whats.List)) ∷ given 0 ∷ []
unfolding expansion file
listed = refl

abbrev no_value : Then
no_value = answered (answers.Refused (reasons.NoValue (codes "A")))

-- what stands for `$A` where the session A was answered no text
read_of_nothing : comes (lines.File (asked.ReadOf (codes "ann") (codes "A"))) ([] ∷ (done ∷ []) ∷ []) ≡ no_value ∷ given 0 ∷ []
unfolding expansion file read_of
read_of_nothing = refl

-- `@ann read $A` where the session was last answered a text
abbrev reads : List (List ℕ) → List Then
reads texts = map (λ text. expansion (lines.File (asked.ReadOf (codes "ann") (codes "A"))) (record { session = 2; phase = None; last = Some text }) [] []) texts

-- a path, with a token or without one
read_of_a_path : reads (codes "/a" ∷ codes "/7.00000000000000000000000000000000;a" ∷ [])
    ≡ does (steps.File (by_ann (whats.Read (codes "/a") None)))
    ∷ does (steps.File (by_ann (whats.Read (codes "/a") (Some (record { expiry = 7; mac = replicate 16 0 })))))
    ∷ []
unfolding expansion file read_of path_test read_token begins_with_token decode_pairs
read_of_a_path = refl

-- any other text
read_of_no_path : reads (codes "/a/" ∷ codes "a" ∷ codes "$A" ∷ [] ∷ []) ≡ replicate 4 no_value
unfolding expansion file read_of path_test read_token begins_with_token
read_of_no_path = refl

-- ---- lines of the system

abbrev asks : Order → List (List Answer) → List Then
asks order rows = comes (lines.System order) rows

tick : asks (orders.Tick 5) ([] ∷ (done ∷ []) ∷ []) ≡ does (steps.Tick 5) ∷ given 0 ∷ []
unfolding expansion system
tick = refl

restored : asks (orders.Restore (targets.Backup 3)) ([] ∷ (refused ∷ []) ∷ []) ≡ does (steps.Restore (targets.Backup 3)) ∷ given 0 ∷ []
unfolding expansion system
restored = refl

crash_of_both : asks orders.CrashBoth ([] ∷ (done ∷ []) ∷ (done ∷ done ∷ []) ∷ (done ∷ done ∷ done ∷ []) ∷ []) ≡ does steps.CrashDatabase ∷ does steps.CrashManager ∷ does steps.Resolve ∷ given 2 ∷ []
unfolding expansion system crash_both
crash_of_both = refl

of_one_step : map (λ o. expansion (lines.System o) nobody [] []) (orders.CrashManager ∷ orders.CrashDatabase ∷ orders.Resolve ∷ []) ≡ does steps.CrashManager ∷ does steps.CrashDatabase ∷ does steps.Resolve ∷ []
unfolding expansion system
of_one_step = refl

-- no copy is pending any more: the count, and then the tables; a refused Archive ends a backup
no_more_pending : asks orders.Archive ((archived ∷ archived ∷ []) ∷ []) ≡ answered (answers.Archived 2) ∷ []
unfolding expansion system archive
no_more_pending = refl

backed_up : asks orders.Backup ([] ∷ (archived ∷ archived ∷ []) ∷ (archived ∷ archived ∷ done ∷ []) ∷ (refused ∷ []) ∷ []) ≡ does steps.Backup ∷ does steps.Backup ∷ given 2 ∷ given 0 ∷ []
unfolding expansion system backup backup_from backup_behind
backed_up = refl

-- copies are pending: the first of them comes next, however many there were
abbrev copy : ℕ → LinkNo
copy k = record { tx = 7; k = k }

abbrev with_pending : Order → List (List Answer) → List Then
with_pending order rows = map (λ answers_so_far. expansion (lines.System order) nobody answers_so_far (copy 1 ∷ copy 2 ∷ [])) rows

archived_first : with_pending orders.Archive ([] ∷ (archived ∷ []) ∷ []) ≡ does (steps.Archive (copy 1)) ∷ does (steps.Archive (copy 1)) ∷ []
unfolding expansion system archive
archived_first = refl

archived_before_a_backup : with_pending orders.Backup ([] ∷ (archived ∷ []) ∷ []) ≡ does (steps.Archive (copy 1)) ∷ does (steps.Archive (copy 1)) ∷ []
unfolding expansion system backup backup_from backup_behind
archived_before_a_backup = refl

-- ---- other lines

quiet : comes lines.Nothing ([] ∷ []) ≡ silent ∷ []
unfolding expansion
quiet = refl

bad : comes (lines.Bad (reasons.BadLine 1)) ([] ∷ []) ≡ answered (answers.Refused (reasons.BadLine 1)) ∷ []
unfolding expansion
bad = refl

no_statement : comes (lines.Bad (reasons.Syntax 4)) ([] ∷ []) ≡ answered (answers.Refused (reasons.Syntax 4)) ∷ []
unfolding expansion
no_statement = refl
