-- The links that forbid commands on a file, by what an engine has of claims and transactions.
use Rattle.std.specs.Prelude.{ℕ, if◌then◌else◌, List, Option, Some, None}
use Rattle.std.specs.FinMap as maps
use Rattle.std.specs.Option.{option_or}
use Rattle.dl_base.specs.declared.answer.Answer.{Answer}
use Rattle.dl_base.specs.declared.answer.Answer.TheVariants as answers
use Rattle.dl_base.specs.declared.answer.Why.{Why}
use Rattle.dl_base.specs.declared.answer.Why.TheVariants as whys
use Rattle.dl_base.specs.declared.file.FileWhat.{FileWhat}
use Rattle.dl_base.specs.declared.file.FileWhat.TheVariants as whats
use Rattle.dl_base.specs.declared.file.Token.{Token}
use Rattle.dl_base.specs.declared.step.Phase.{Phase}
use Rattle.dl_base.specs.declared.value.LinkNo.{LinkNo}
use Rattle.dl_base.specs.declared.value.LinkRow.{LinkRow}
use Rattle.dl_token.specs.Tokens.{verdict}
use Rattle.fm_links.specs.Claims.{PathClaim}
use Rattle.fm_links.specs.Guarding.{committed_on, waiting_on}
use Rattle.meaning_files.specs.Commands.{bytes_of, rows_of}
use Rattle.meaning_files.specs.Files.{Files}
use Rattle.meaning_system.specs.Commands.{by_verdict}
use Rattle.meaning_tables.specs.OptionRows.{forbids_kind}
use Rattle.meaning_tables.specs.declared.option_rows.CommandKind.{CommandKind}
use Rattle.meaning_tables.specs.declared.option_rows.CommandKind.TheVariants as kinds
use Rattle.sys_core.specs.declared.engine.Engine.{Engine}
use Rattle.sys_seats.specs.Seats.{Seated, phase_of}
use Rattle.sys_seats.specs.declared.seat.Seat.{Seat}

-- how far the transaction of a claim is, by what is kept of transactions
abbrev pub seat_phase : Option Seat → Option Phase
seat_phase None = None
seat_phase (Some x) = Some (phase_of x.stage)

abbrev pub phase_by : Seated → Option PathClaim → Option Phase
phase_by seats None = None
phase_by seats (Some c) = seat_phase (maps.get seats c.tx)

-- the committed link of a path, and the one behind it
abbrev pub claim_in : Engine → List ℕ → Option PathClaim
claim_in w path = maps.get w.claims.claims path

abbrev pub committed_in : Engine → List ℕ → Option LinkRow
committed_in w path = committed_on (maps.get w.owners.manager.links.links.held path) (claim_in w path) (phase_by w.seats (claim_in w path))

abbrev pub waiting_in : Engine → List ℕ → Option LinkRow
waiting_in w path = waiting_on (claim_in w path) (phase_by w.seats (claim_in w path))

-- a link, where there is one, that forbids a command of a kind
abbrev pub forbidding_by : Option LinkRow → CommandKind → Why → Option (LinkNo × Why)
forbidding_by None kind why = None
forbidding_by (Some l) kind why = if forbids_kind l.options kind then Some (l.link, why) else None

-- the same of a read, by its token
abbrev pub token_why : List ℕ → ℕ → List ℕ → LinkNo → Option Token → Option Why
token_why key moment path link None = Some whys.NoToken
token_why key moment path link (Some t) = by_verdict (verdict key path link moment t)

abbrev pub named_why : LinkNo → Option Why → Option (LinkNo × Why)
named_why link None = None
named_why link (Some why) = Some (link, why)

abbrev pub reading_by : List ℕ → ℕ → List ℕ → Option Token → Option LinkRow → Option (LinkNo × Why)
reading_by key moment path token None = None
reading_by key moment path token (Some l) = if forbids_kind l.options kinds.Read then named_why l.link (token_why key moment path l.link token) else None

-- THE LINK THAT FORBIDS a command, and why: the committed one, or else the one behind it
abbrev pub forbidden_in : Engine → List ℕ → CommandKind → Why → Option (LinkNo × Why)
forbidden_in w path kind why = option_or (forbidding_by (committed_in w path) kind why) (forbidding_by (waiting_in w path) kind why)

abbrev pub read_forbidden_in : Engine → List ℕ → Option Token → Option (LinkNo × Why)
read_forbidden_in w path token = option_or (reading_by w.settings.key w.moment path token (committed_in w path)) (reading_by w.settings.key w.moment path token (waiting_in w path))

abbrev pub forbids_in : Engine → FileWhat → Option (LinkNo × Why)
forbids_in w (whats.Create path bytes) = None
forbids_in w (whats.Write path bytes) = forbidden_in w path kinds.Write whys.Write
forbids_in w (whats.Delete path) = forbidden_in w path kinds.Delete whys.Delete
forbids_in w (whats.Rename path to) = forbidden_in w path kinds.Rename whys.Rename
forbids_in w (whats.Chmod path on) = forbidden_in w path kinds.Chmod whys.Chmod
forbids_in w (whats.Read path token) = read_forbidden_in w path token
forbids_in w whats.List = None

-- what a command that writes nothing is answered, if this is one
abbrev pub looked : Files → FileWhat → Option Answer
looked files (whats.Create path bytes) = None
looked files (whats.Write path bytes) = None
looked files (whats.Delete path) = None
looked files (whats.Rename path to) = None
looked files (whats.Chmod path on) = None
looked files (whats.Read path token) = Some (bytes_of (maps.get files path))
looked files whats.List = Some (answers.Files (rows_of files))
