-- The claim of a statement, by what an engine has of files, claims and transactions.
use Rattle.std.specs.Prelude.{◌≡◌, ◌⊎◌, ℕ, ◌&&◌, ◌||◌, Bool, true, false, if◌then◌else◌, List, [], ◌∷◌, ◌++◌, Option, Some, None}
use Rattle.std.specs.BTreeMap.{is_at}
use Rattle.std.specs.Cmp.Lexicographic.{pointwise, slice_cmp}
use Rattle.std.specs.FinMap as maps
use Rattle.std.specs.Map.{lookup}
use Rattle.std.specs.Option.{option_map}
use Rattle.std.specs.Ordering.{nat_cmp}
use Rattle.db_txn.specs.Transaction.{LastEvaluation, Transaction}
use Rattle.dl_base.specs.declared.answer.Answer.{Answer}
use Rattle.dl_base.specs.declared.answer.Answer.TheVariants as answers
use Rattle.dl_base.specs.declared.answer.ClaimRefusal.TheVariants as denials
use Rattle.dl_base.specs.declared.answer.Refusal.{Refusal}
use Rattle.dl_base.specs.declared.answer.Refusal.TheVariants as reasons
use Rattle.dl_base.specs.declared.value.LinkNo.{LinkNo}
use Rattle.dl_base.specs.declared.value.LinkRow.{LinkRow}
use Rattle.fm_links.specs.Claims.{PathClaim, moved}
use Rattle.fm_links.specs.Guarding.{unless_among}
use Rattle.fm_links.specs.Searching.{busy_by}
use Rattle.fm_links.specs.Stepping.{replaced}
use Rattle.meaning_areas.specs.Commits.{tables_after}
use Rattle.meaning_areas.specs.Same.{same_link}
use Rattle.meaning_settling.specs.Keyed.{Keyed}
use Rattle.meaning_settling.specs.Settling.{Moved, on}
use Rattle.meaning_system.specs.Claims.{conflict, first_seen, no_file, or_else, seen_or_zero}
use Rattle.meaning_system.specs.State.{Txn}
use Rattle.meaning_tables.specs.Links.{gives, takes}
use Rattle.meaning_tables.specs.Tables.{Tables}
use Rattle.sql_run.specs.Outcomes.{answer_of}
use Rattle.sql_run.specs.declared.evaluating.Outcome.{Outcome}
use Rattle.sql_run.specs.declared.evaluating.Outcome.TheVariants as outcomes
use Rattle.sys_core.specs.Guarded.{claim_in, committed_in}
use Rattle.sys_core.specs.Seated.{is_doomed_at}
use Rattle.sys_core.specs.declared.engine.Engine.{Engine}
use Rattle.sys_seats.specs.Seats.{with_claim}
use Rattle.sys_seats.specs.declared.seat.Seat.{Seat}
use Rattle.sys_seats.specs.declared.seat.SeatClaim.{SeatClaim}

-- whether an evaluation leaves the tables as they were, as one that is refused and that of a query do

abbrev pub leaves_tables : Outcome → Bool
leaves_tables (outcomes.Changed count) = false
leaves_tables (outcomes.Rows grid) = true
leaves_tables outcomes.Done = false
leaves_tables (outcomes.Refused fault) = true

-- whether the last evaluation did, and what is answered of it; Done where none is kept

abbrev pub left_tables : Option LastEvaluation → Bool
left_tables None = false
left_tables (Some k) = leaves_tables k.outcome

abbrev pub told_of : Option LastEvaluation → Answer
told_of None = answers.Done
told_of (Some k) = answer_of k.outcome

-- a transaction of a state, with what its session's own object has of it
abbrev pub working : Txn → Transaction → Txn
working t v = record t { copy = v.copy; named = v.named; next = v.next }

-- the opening of Links of an engine, and its committed tables

abbrev pub opening_in : Engine → ℕ
opening_in w = w.owners.manager.links.links.opening

abbrev pub tables_in : Engine → Tables
tables_in w = tables_after [] w.owners.store.rows.commits

-- THE FIRST REFUSAL of what a transaction gives and takes

abbrev pub doomed_at : ℕ → Option Seat → Option Refusal
doomed_at opening None = None
doomed_at opening (Some x) = if is_doomed_at opening x then Some (reasons.Doomed (seen_or_zero x.claim.seen) opening) else None

-- a link of this number is there already
abbrev pub linked_by : List ℕ → Option LinkNo → Option Refusal
linked_by path None = None
linked_by path (Some link) = Some (reasons.Claim (denials.AlreadyLinked path link))

abbrev pub number_of : Option LinkRow → Option LinkNo
number_of o = option_map (λ l. l.link) o

-- the number of the committed link on a path, unless it is given
abbrev pub kept_on : Engine → List LinkRow → List ℕ → Option LinkNo
kept_on w given path = number_of (unless_among given (committed_in w path))

abbrev pub file_refusal_in : Engine → List ℕ → Option Refusal
file_refusal_in w path = no_file path (maps.get w.owners.manager.files.files path)

abbrev pub busy_in : Engine → ℕ → List ℕ → Option Refusal
busy_in w tx path = busy_by tx path (claim_in w path)

-- of one take, where an earlier one on its path has this number

abbrev pub kept_refusal_in : Engine → ℕ → List LinkRow → List ℕ → Option Refusal
kept_refusal_in w tx given path = or_else (linked_by path (kept_on w given path)) (busy_in w tx path)

abbrev pub path_refusal_in : Engine → ℕ → List LinkRow → Option LinkNo → List ℕ → Option Refusal
path_refusal_in w tx given earlier path = or_else (linked_by path earlier) (kept_refusal_in w tx given path)

abbrev pub take_refusal_in : Engine → ℕ → List LinkRow → Option LinkNo → LinkRow → Option Refusal
take_refusal_in w tx given earlier t = or_else (file_refusal_in w t.path) (path_refusal_in w tx given earlier t.path)

abbrev pub takes_refusal_in : Engine → ℕ → List LinkRow → List LinkRow → List LinkRow → Option Refusal
takes_refusal_in w tx given earlier [] = None
takes_refusal_in w tx given earlier (t ∷ ts) = or_else (take_refusal_in w tx given (number_of (on earlier t.path)) t) (takes_refusal_in w tx given (earlier ++ t ∷ []) ts)

abbrev pub gives_refusal_in : Engine → ℕ → List LinkRow → Option Refusal
gives_refusal_in w tx [] = None
gives_refusal_in w tx (g ∷ gs) = or_else (busy_in w tx g.path) (gives_refusal_in w tx gs)

abbrev pub links_refusal_in : Engine → ℕ → Transaction → Option Refusal
links_refusal_in w tx v = or_else (takes_refusal_in w tx (gives v.base v.copy) [] (takes v.base v.copy)) (gives_refusal_in w tx (gives v.base v.copy))

abbrev pub named_refusal_in : Engine → ℕ → Transaction → Option Refusal
named_refusal_in w tx v = or_else (conflict v.base (tables_in w) v.named) (links_refusal_in w tx v)

abbrev pub claim_refusal_in : Engine → ℕ → Transaction → Option Refusal
claim_refusal_in w tx v = or_else (doomed_at (opening_in w) (maps.get w.seats tx)) (named_refusal_in w tx v)

-- numbers of links by their paths: those of the first links on each

abbrev pub number_on : List (List ℕ × LinkNo) → List ℕ → Option LinkNo
number_on entries path = lookup (is_at (slice_cmp nat_cmp path)) entries

abbrev pub AreNumbersOf : List LinkRow → List (List ℕ × LinkNo) → Type 0
AreNumbersOf links entries = (path : List ℕ) → number_on entries path ≡ number_of (on links path)

-- one more, in the place of any other on its path
abbrev pub PutsNumber : List (List ℕ × LinkNo) → List (List ℕ × LinkNo) → LinkRow → Type 0
PutsNumber old new l = (path : List ℕ) → number_on new path ≡ (if is_at (slice_cmp nat_cmp l.path) path then Some l.link else number_on old path)

-- HOW A CLAIM ENDS

-- a transaction claims these links already, link by link
abbrev pub claims_same : List LinkRow → List LinkRow → Option Seat → Bool
claims_same given taken None = false
claims_same given taken (Some x) = pointwise same_link x.claim.gives given && pointwise same_link x.claim.takes taken

-- nothing is asked where the last evaluation left the tables as they were, or altered no link
abbrev pub is_unasked : Engine → ℕ → Transaction → Bool
is_unasked w tx v = left_tables v.kept || claims_same (gives v.base v.copy) (takes v.base v.copy) (maps.get w.seats tx)

-- the claims with other ones of a transaction in the place of those that it had
abbrev pub claims_with : ℕ → Moved → Option Seat → Keyed PathClaim → Keyed PathClaim
claims_with tx m None claims = claims
claims_with tx m (Some x) claims = replaced tx (moved x.claim.gives x.claim.takes) m claims

-- the opening of Links at its first claim
abbrev pub seen_at : ℕ → Option Seat → Option ℕ
seen_at opening None = None
seen_at opening (Some x) = first_seen x.claim.seen opening

abbrev pub seat_claim : ℕ → List LinkRow → List LinkRow → Option Seat → SeatClaim
seat_claim opening given taken o = record { seen = seen_at opening o; gives = given; takes = taken }

-- a transaction has claimed these links, and nothing else has changed
pub record HasClaimed (w u : Engine) (tx : ℕ) (given taken : List LinkRow) : Type 0 where
  pub claims : u.claims.claims ≡ claims_with tx (moved given taken) (maps.get w.seats tx) w.claims.claims
  pub same : u ≡ record w { claims = u.claims; seats = with_claim w.seats tx (seat_claim (opening_in w) given taken (maps.get w.seats tx)) (maps.get w.seats tx) }

-- nothing has changed but for how many claims there is room
pub record HasSameClaims (w u : Engine) : Type 0 where
  pub claims : u.claims.claims ≡ w.claims.claims
  pub same : u ≡ record w { claims = u.claims }

pub record IsUnasked (w u : Engine) (tx : ℕ) (v : Transaction) : Type 0 where
  pub unasked : is_unasked w tx v ≡ true
  pub same : u ≡ w

pub record IsAccepted (w u : Engine) (tx : ℕ) (v : Transaction) : Type 0 where
  pub asked : is_unasked w tx v ≡ false
  pub accepted : claim_refusal_in w tx v ≡ None
  pub claims : HasClaimed w u tx (gives v.base v.copy) (takes v.base v.copy)

pub record IsDenied (w u : Engine) (tx : ℕ) (v : Transaction) (why : Refusal) : Type 0 where
  pub asked : is_unasked w tx v ≡ false
  pub denied : claim_refusal_in w tx v ≡ Some why
  pub same : u ≡ w

abbrev pub EndsClaim : Engine → Engine → ℕ → Transaction → Option Refusal → Type 0
EndsClaim w u tx v None = IsUnasked w u tx v ⊎ IsAccepted w u tx v
EndsClaim w u tx v (Some why) = IsDenied w u tx v why
