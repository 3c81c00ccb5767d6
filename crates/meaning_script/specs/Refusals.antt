-- The words of refusals.
use Rattle.std.specs.Prelude.{ℕ, ◌-◌, ◌==◌, if◌then◌else◌, List, [], ◌++◌, codes, decimal, slice_get, unwrap_or}
use Rattle.dl_base.specs.declared.answer.ClaimRefusal.{ClaimRefusal}
use Rattle.dl_base.specs.declared.answer.ClaimRefusal.TheVariants as claims
use Rattle.dl_base.specs.declared.answer.FileRefusal.{FileRefusal}
use Rattle.dl_base.specs.declared.answer.FileRefusal.TheVariants as refusals
use Rattle.dl_base.specs.declared.answer.Limit.{Limit}
use Rattle.dl_base.specs.declared.answer.Limit.TheVariants as limits
use Rattle.dl_base.specs.declared.answer.Refusal.{Refusal}
use Rattle.dl_base.specs.declared.answer.Refusal.TheVariants as reasons
use Rattle.dl_base.specs.declared.answer.RestoreRefusal.{RestoreRefusal}
use Rattle.dl_base.specs.declared.answer.RestoreRefusal.TheVariants as restores
use Rattle.dl_base.specs.declared.answer.Why.{Why}
use Rattle.dl_base.specs.declared.answer.Why.TheVariants as whys
use Rattle.dl_base.specs.declared.sql_fault.SqlFault.{SqlFault}
use Rattle.dl_base.specs.declared.sql_fault.SqlFault.TheVariants as faults
use Rattle.dl_base.specs.declared.step.Phase.{Phase}
use Rattle.dl_base.specs.declared.step.Phase.TheVariants as phases
use Rattle.dl_location.specs.Numbers.{bad_link_number}
use Rattle.dl_token.specs.Links.{transaction_text, link_text}

abbrev pub limit_words : Limit → List ℕ
limit_words limits.Columns = codes "columns"
limit_words limits.Tables = codes "tables"
limit_words limits.Rows = codes "rows"
limit_words limits.From = codes "from"
limit_words limits.Product = codes "product"
limit_words limits.Links = codes "links"
limit_words limits.Files = codes "files"
limit_words limits.Actors = codes "actors"

-- a session has no transaction in the last two phases, so these two are never told
abbrev pub phase_words : Phase → List ℕ
phase_words phases.Active = codes "active"
phase_words phases.Prepared = codes "prepared"
phase_words phases.Decided = codes "decided"
phase_words phases.Finished = codes "finished"
phase_words phases.Dropped = codes "dropped"

-- what a link forbids, or what is wrong with a token
abbrev pub why_words : Why → List ℕ
why_words whys.Rename = codes "rename"
why_words whys.Delete = codes "delete"
why_words whys.Write = codes "write"
why_words whys.Chmod = codes "chmod"
why_words whys.NoToken = codes "no token"
why_words whys.WrongToken = codes "wrong token"
why_words (whys.Expired moment) = codes "expired " ++ decimal moment

abbrev pub file_refusal_words : FileRefusal → List ℕ
file_refusal_words (refusals.NoFile path) = codes "no file " ++ path
file_refusal_words (refusals.Forbidden path link why) = codes "linked " ++ path ++ codes " " ++ link_text link ++ codes " " ++ why_words why
file_refusal_words (refusals.NotOwner path owner) = codes "not owner " ++ path ++ codes " " ++ owner
file_refusal_words (refusals.ReadOnly path) = codes "read only " ++ path
file_refusal_words (refusals.Exists path) = codes "exists " ++ path
file_refusal_words (refusals.Limit limit) = codes "limit " ++ limit_words limit

abbrev pub claim_refusal_words : ClaimRefusal → List ℕ
claim_refusal_words (claims.NoFile path) = codes "no file " ++ path
claim_refusal_words (claims.AlreadyLinked path link) = codes "already linked " ++ path ++ codes " " ++ link_text link
claim_refusal_words (claims.Busy path tx) = codes "busy " ++ path ++ codes " " ++ transaction_text tx

abbrev pub restore_refusal_words : RestoreRefusal → List ℕ
restore_refusal_words (restores.NoTarget number) = codes "no target " ++ decimal number
restore_refusal_words (restores.InTheWay path) = codes "in the way " ++ path

-- no statement is answered that there is no memory; the word is there so that each fault has one
abbrev pub sql_fault_words : SqlFault → List ℕ
sql_fault_words (faults.NoTable name) = codes "no table " ++ name
sql_fault_words (faults.TableExists name) = codes "table exists " ++ name
sql_fault_words (faults.NoColumn name) = codes "no column " ++ name
sql_fault_words (faults.Ambiguous name) = codes "ambiguous " ++ name
sql_fault_words faults.TypeFault = codes "type"
sql_fault_words faults.Arity = codes "arity"
sql_fault_words (faults.DupKey row) = codes "duplicate key " ++ decimal row
sql_fault_words (faults.NullKey name) = codes "null " ++ name
sql_fault_words (faults.TooLong name) = codes "too long " ++ name
sql_fault_words faults.Overflow = codes "overflow"
sql_fault_words faults.ZeroDivide = codes "divide by zero"
sql_fault_words (faults.BadLink why) = codes "bad link " ++ decimal (bad_link_number why)
sql_fault_words faults.BadOptions = codes "bad options"
sql_fault_words (faults.Limit limit) = codes "limit " ++ limit_words limit
sql_fault_words faults.Memory = codes "memory"

-- the name of the session with this number, from 1, where the names are those of the sessions in order; nothing where none has it
abbrev pub session_name : List (List ℕ) → ℕ → List ℕ
session_name names session = if session == 0 then [] else unwrap_or (slice_get names (session - 1)) []

-- Numbers of transactions and of links are printed with dashes; all others are plain.
abbrev pub refusal_words : List (List ℕ) → Refusal → List ℕ
refusal_words names reasons.NotBuilt = codes "not built"
refusal_words names (reasons.BadLine place) = codes "bad line " ++ decimal place
refusal_words names (reasons.Syntax place) = codes "syntax " ++ decimal place
refusal_words names (reasons.NoValue name) = codes "no value " ++ name
refusal_words names reasons.NotInRace = codes "not in race"
refusal_words names (reasons.Limit limit) = codes "limit " ++ limit_words limit
refusal_words names (reasons.Sql fault) = sql_fault_words fault
refusal_words names (reasons.Claim why) = claim_refusal_words why
refusal_words names (reasons.Conflict table seen present) = codes "conflict " ++ table ++ codes " " ++ decimal seen ++ codes " " ++ decimal present
refusal_words names (reasons.Doomed seen present) = codes "doomed " ++ decimal seen ++ codes " " ++ decimal present
refusal_words names (reasons.File why) = file_refusal_words why
refusal_words names reasons.NoTransaction = codes "no transaction"
refusal_words names (reasons.InTransaction tx) = codes "in transaction " ++ transaction_text tx
refusal_words names (reasons.WrongPhase phase) = codes "phase " ++ phase_words phase
refusal_words names (reasons.NotPending link) = codes "not pending " ++ link_text link
refusal_words names (reasons.Unfinished tx) = codes "unfinished " ++ transaction_text tx
refusal_words names (reasons.ArchivePending link) = codes "archive pending " ++ link_text link
refusal_words names (reasons.SessionBusy session) = codes "session busy " ++ session_name names session
refusal_words names (reasons.Restore why) = restore_refusal_words why
