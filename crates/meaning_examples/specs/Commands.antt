-- File commands: the links that forbid them.
use Rattle.std.specs.Prelude.{ℕ, if◌then◌else◌, List, [], ◌∷◌, ◌++◌, filter, Option, Some, None}
use Rattle.meaning_examples.specs.Maps as maps
use Rattle.std.specs.List.{find, flat_map}
use Rattle.std.specs.Option.{option_map}
use Rattle.dl_base.specs.declared.answer.FileRefusal.{FileRefusal}
use Rattle.dl_base.specs.declared.answer.Why.{Why}
use Rattle.dl_base.specs.declared.answer.Why.TheVariants as whys
use Rattle.dl_base.specs.declared.file.FileWhat.{FileWhat}
use Rattle.dl_base.specs.declared.file.FileWhat.TheVariants as whats
use Rattle.dl_base.specs.declared.file.Token.{Token}
use Rattle.dl_base.specs.declared.value.LinkNo.{LinkNo}
use Rattle.dl_base.specs.declared.value.LinkRow.{LinkRow}
use Rattle.meaning_examples.specs.UserFiles.{refusal_of}
use Rattle.dl_token.specs.Tokens.{verdict}
use Rattle.dl_token.specs.declared.verdict.Verdict.{Verdict}
use Rattle.dl_token.specs.declared.verdict.Verdict.TheVariants as verdicts
use Rattle.meaning_examples.specs.Keyed.{is_at}
use Rattle.meaning_tables.specs.Links.{links}
use Rattle.meaning_tables.specs.OptionRows.{forbids_kind}
use Rattle.meaning_tables.specs.declared.option_rows.CommandKind.{CommandKind}
use Rattle.meaning_tables.specs.declared.option_rows.CommandKind.TheVariants as kinds
use Rattle.meaning_examples.specs.State.{Txn, State, tables_of, moved_of, is_prepared, is_decided}

-- THE FORBIDDING LINKS of a path: the committed one, the take of a prepared transaction, the give of a decided one
abbrev pub prepared_takes : ℕ × Txn → List LinkRow
prepared_takes e = if is_prepared e.1.phase then (moved_of e.1).takes else []

abbrev pub decided_gives : ℕ × Txn → List LinkRow
decided_gives e = if is_decided e.1.phase then (moved_of e.1).gives else []

abbrev pub forbidding : State → List ℕ → List LinkRow
forbidding s path = filter (λ l. is_at path l.path) (links (tables_of s) ++ flat_map prepared_takes (maps.entries s.txs) ++ flat_map decided_gives (maps.entries s.txs))

-- the first of them that forbids a command of this kind
abbrev pub forbidden : State → List ℕ → CommandKind → Why → Option (LinkNo × Why)
forbidden s path kind why = option_map (λ (l : LinkRow). (l.link, why)) (find (λ l. forbids_kind l.options kind) (forbidding s path))

-- why a token is not good for a link, if it is not
abbrev pub by_verdict : Verdict → Option Why
by_verdict verdicts.Good = None
by_verdict verdicts.Wrong = Some whys.WrongToken
by_verdict (verdicts.Expired at) = Some (whys.Expired at)

abbrev pub token_fault : State → List ℕ → LinkRow → Option Token → Option Why
token_fault s path l None = Some whys.NoToken
token_fault s path l (Some t) = by_verdict (verdict s.settings.key path l.link s.moment t)

abbrev pub read_forbidden : State → List ℕ → Option Token → List LinkRow → Option (LinkNo × Why)
read_forbidden s path token [] = None
read_forbidden s path token (l ∷ ls) =
    if forbids_kind l.options kinds.Read
    then (elim (token_fault s path l token) [ None ↦ read_forbidden s path token ls | Some why ↦ Some (l.link, why) ])
    else read_forbidden s path token ls

-- the link that forbids a command, if one does, and why
abbrev pub forbids : State → FileWhat → Option (LinkNo × Why)
forbids s (whats.Create path bytes) = None
forbids s (whats.Write path bytes) = forbidden s path kinds.Write whys.Write
forbids s (whats.Delete path) = forbidden s path kinds.Delete whys.Delete
forbids s (whats.Rename path to) = forbidden s path kinds.Rename whys.Rename
forbids s (whats.Chmod path on) = forbidden s path kinds.Chmod whys.Chmod
forbids s (whats.Read path token) = read_forbidden s path token (forbidding s path)
forbids s whats.List = None

-- why a command is refused, if it is
abbrev pub command_refusal : State → List ℕ → FileWhat → Option FileRefusal
command_refusal s user what = refusal_of s.files (forbids s what) user what
