-- Statements, claims and votes.
use Rattle.std.specs.Prelude.{ℕ, ◌==◌, ◌&&◌, Bool, not, if◌then◌else◌, List, [], ◌∷◌, ◌++◌, filter, bytes_eq, Option, Some, None}
use Rattle.std.specs.Cmp.Lexicographic.{pointwise}
use Rattle.meaning_examples.specs.Maps as maps
use Rattle.std.specs.List.{find, list_any}
use Rattle.dl_base.specs.declared.answer.Answer.{Answer}
use Rattle.dl_base.specs.declared.answer.Answer.TheVariants as answers
use Rattle.dl_base.specs.declared.answer.ClaimRefusal.TheVariants as claims
use Rattle.dl_base.specs.declared.answer.Refusal.{Refusal}
use Rattle.dl_base.specs.declared.answer.Refusal.TheVariants as reasons
use Rattle.dl_base.specs.declared.file.File.{File}
use Rattle.dl_base.specs.declared.statement.Stmt.{Stmt}
use Rattle.dl_base.specs.declared.value.LinkRow.{LinkRow}
use Rattle.meaning_examples.specs.Same.{same_link}
use Rattle.meaning_examples.specs.Apart.{has_path}
use Rattle.meaning_examples.specs.Settling.{Moved, on}
use Rattle.meaning_tables.specs.Links.{links, same_number}
use Rattle.meaning_tables.specs.Tables.{Tables, table_of, version}
use Rattle.meaning_examples.specs.Sql.{Evaluated, evaluated, named_by}
use Rattle.meaning_examples.specs.State.{Txn, State, tables_of, context_of, moved_of, has_links, is_doomed}

-- the first of two refusals
abbrev pub or_else : Option Refusal → Option Refusal → Option Refusal
or_else (Some why) later = Some why
or_else None later = later

-- another transaction that holds the path
abbrev pub holds_path : State → ℕ → List ℕ → ℕ × Txn → Bool
holds_path s tx path e = not (e.0 == tx) && not (is_doomed s e.1) && has_path (moved_of e.1) path

abbrev pub busy : List ℕ → Option (ℕ × Txn) → Option Refusal
busy path None = None
busy path (Some e) = Some (reasons.Claim (claims.Busy path e.0))

abbrev pub busy_on : State → ℕ → List ℕ → Option Refusal
busy_on s tx path = busy path (find (holds_path s tx path) (maps.entries s.txs))

abbrev pub linked : List ℕ → Option LinkRow → Option Refusal
linked path None = None
linked path (Some l) = Some (reasons.Claim (claims.AlreadyLinked path l.link))

abbrev pub no_file : List ℕ → Option File → Option Refusal
no_file path None = Some (reasons.Claim (claims.NoFile path))
no_file path (Some f) = None

-- those links of a list that no other list has, by number
abbrev pub not_among : List LinkRow → List LinkRow → List LinkRow
not_among gives ls = filter (λ l. not (list_any (λ g. same_number g.link l.link) gives)) ls

abbrev pub takes_refusal : State → ℕ → List LinkRow → List LinkRow → List LinkRow → Option Refusal
takes_refusal s tx gives earlier [] = None
takes_refusal s tx gives earlier (t ∷ ts) =
    or_else (no_file t.path (maps.get s.files t.path))
    (or_else (linked t.path (on earlier t.path))
    (or_else (linked t.path (on (not_among gives (links (tables_of s))) t.path))
    (or_else (busy_on s tx t.path) (takes_refusal s tx gives (earlier ++ t ∷ []) ts))))

abbrev pub gives_refusal : State → ℕ → List LinkRow → Option Refusal
gives_refusal s tx [] = None
gives_refusal s tx (g ∷ gs) = or_else (busy_on s tx g.path) (gives_refusal s tx gs)

-- versions

abbrev pub version_of : Tables → List ℕ → ℕ
version_of tables name = version (table_of tables name)

abbrev pub conflict : Tables → Tables → List (List ℕ) → Option Refusal
conflict base now [] = None
conflict base now (n ∷ ns) = if version_of base n == version_of now n then conflict base now ns else Some (reasons.Conflict n (version_of base n) (version_of now n))

abbrev pub seen_or_zero : Option ℕ → ℕ
seen_or_zero None = 0
seen_or_zero (Some seen) = seen

abbrev pub doomed : State → Txn → Option Refusal
doomed s t = if is_doomed s t then Some (reasons.Doomed (seen_or_zero t.seen) s.links_opening) else None

-- the claim of a transaction whose last statement altered its links
abbrev pub claim_refusal : State → ℕ → Txn → Option Refusal
claim_refusal s tx t =
    or_else (doomed s t)
    (or_else (conflict t.base (tables_of s) t.named)
    (or_else (takes_refusal s tx (moved_of t).gives [] (moved_of t).takes) (gives_refusal s tx (moved_of t).gives)))

abbrev pub same_moved : Moved → Moved → Bool
same_moved a b = pointwise same_link a.gives b.gives && pointwise same_link a.takes b.takes

-- each name once, in order of naming
abbrev pub with_names : List (List ℕ) → List (List ℕ) → List (List ℕ)
with_names names [] = names
with_names names (n ∷ ns) = with_names (if list_any (bytes_eq n) names then names else names ++ n ∷ []) ns

abbrev pub first_seen : Option ℕ → ℕ → Option ℕ
first_seen None now = Some now
first_seen (Some seen) now = Some seen

abbrev pub claimed : State → Answer → Txn → Txn → Option Refusal → Answer × Txn
claimed s answer before after (Some why) = (answers.Refused why, before)
claimed s answer before after None = (answer, record after { seen = first_seen after.seen s.links_opening })

-- A statement: its answer, and the transaction after it. What is refused leaves the transaction as it was but for named tables.
abbrev pub by_evaluated : State → ℕ → Txn → Evaluated → Answer × Txn
by_evaluated s tx t e =
    let after = record t { copy = e.tables; next = e.next } in
    if e.refused then (e.answer, t)
    else (if same_moved (moved_of t) (moved_of after) then (e.answer, after)
    else claimed s e.answer t after (claim_refusal s tx after))

abbrev pub statement : State → ℕ → Txn → Stmt → Answer × Txn
statement s tx t stmt = by_evaluated s tx (record t { named = with_names t.named (named_by stmt) }) (evaluated t.copy stmt (context_of s tx) t.next)

-- Prepare: why it is refused, if it is
abbrev pub files_refusal : State → List LinkRow → Option Refusal
files_refusal s [] = None
files_refusal s (t ∷ ts) = or_else (no_file t.path (maps.get s.files t.path)) (files_refusal s ts)

abbrev pub prepare_refusal : State → Txn → Option Refusal
prepare_refusal s t = if has_links (moved_of t) then or_else (doomed s t) (files_refusal s (moved_of t).takes) else None
