-- Two transactions on three paths: what they claim, and what the claims answer.
use Rattle.std.proofs.Common.{◌≡◌, ℕ, true, List, [], ◌∷◌, length, Option, Some, None, refl, sym, ◌∙◌, ap}
use Rattle.std.specs.Cmp.{nat_cmp_total}
use Rattle.std.specs.FinMap as maps
use Rattle.std.specs.FinMap.Entries.{put}
use Rattle.std.specs.List.{find}
use Rattle.std.specs.Ordering.{nat_cmp}
use Rattle.dl_base.specs.declared.answer.ClaimRefusal.TheVariants as claim_refusals
use Rattle.dl_base.specs.declared.answer.Refusal.TheVariants as reasons
use Rattle.dl_base.specs.declared.column.ColumnRule.TheVariants as rules
use Rattle.dl_base.specs.declared.column.Kind.TheVariants as kinds
use Rattle.dl_base.specs.declared.column.OnUnlink.TheVariants as unlink
use Rattle.dl_base.specs.declared.column.Options.{Options}
use Rattle.dl_base.specs.declared.column.ReadBy.TheVariants as read
use Rattle.dl_base.specs.declared.column.WriteBy.TheVariants as write
use Rattle.dl_base.specs.declared.step.Phase.{Phase}
use Rattle.dl_base.specs.declared.step.Phase.TheVariants as phases
use Rattle.dl_base.specs.declared.value.LinkRow.{LinkRow}
use Rattle.dl_base.specs.declared.value.Row.{Row}
use Rattle.dl_base.specs.declared.value.Value.TheVariants as values
use Rattle.meaning_settling.specs.Keyed.{Keyed}
use Rattle.meaning_tables.specs.Tables.{Tables}
use Rattle.meaning_system.specs.State.{State, Txn, moved_of}
use Rattle.fm_links.proofs.Moving.{get-with, get-without}
use Rattle.fm_links.specs.Claims.{PathClaim, moved, with_claim, without_claim}
use Rattle.fm_links.specs.Guarding.{guards}
use Rattle.fm_links.specs.Searching.{busy_by, claim_at, claim_of, has_claim}

abbrev x : List ℕ
x = 47 ∷ 120 ∷ []

abbrev y : List ℕ
y = 47 ∷ 121 ∷ []

abbrev z : List ℕ
z = 47 ∷ 122 ∷ []

abbrev blocked : Options
blocked = record { read = read.Fs; write = write.Blocked; recovery = true; unlink = unlink.Restore }

abbrev link : List ℕ → ℕ → LinkRow
link path tx = record { link = record { tx = tx; k = 1 }; path = path; options = blocked }

-- one table, with a link in each row
abbrev row : List ℕ → ℕ → ℕ × Row
row path tx = (tx, record { values = values.Link (record { location = []; path = path; comment = []; link = Some (record { tx = tx; k = 1 }) }) ∷ [] })

abbrev table : List (ℕ × Row) → Tables
table rows = (97 ∷ [], record { version = 1; columns = record { name = 108 ∷ []; kind = kinds.Linked blocked; rule = rules.Plain } ∷ []; next = 9; rows = rows }) ∷ []

abbrev txn : List (ℕ × Row) → ℕ → Phase → Txn
txn rows seen phase = record { base = table (row x 1 ∷ []); copy = table rows; named = (97 ∷ []) ∷ []; next = 2; seen = Some seen; phase = phase }

-- 5 gives the link on x and takes one on y, and is prepared; 7 takes one on z
abbrev five : Txn
five = txn (row y 5 ∷ []) 2 phases.Prepared

abbrev seven : Txn
seven = txn (row x 1 ∷ row z 7 ∷ []) 2 phases.Active

moves : moved_of five ≡ moved (link x 1 ∷ []) (link y 5 ∷ [])
moves = refl

abbrev pub state : State → ℕ → State
state s opening = record s { links_opening = opening; txs = maps.insert (maps.insert maps.empty 5 five) 7 seven }

no_items : {A : Type 0} (xs : List A) → length xs ≡ 0 → xs ≡ []
no_items [] e = refl
no_items (i ∷ is) e = absurd cc

entries-are : maps.entries (maps.insert (maps.insert (maps.empty {X = Txn} {R = nat_cmp}) 5 five) 7 seven) ≡ (5, five) ∷ (7, seven) ∷ []
entries-are =
    maps.entries-insert nat_cmp_total (maps.insert maps.empty 5 five) 7 seven
    ∙ ap (put nat_cmp 7 seven) (maps.entries-insert nat_cmp_total maps.empty 5 five ∙ ap (put nat_cmp 5 five) (no_items (maps.entries maps.empty) (sym (maps.len-entries maps.empty) ∙ maps.len-empty nat_cmp Txn)))

abbrev at : State → ℕ → List ℕ → Option PathClaim
at s opening path = claim_of path (find (has_claim (state s opening) path) ((5, five) ∷ (7, seven) ∷ []))

searched : (s : State) (opening : ℕ) (path : List ℕ) (o : Option PathClaim) → at s opening path ≡ o → claim_at (state s opening) path ≡ o
searched s opening path o e = ap (λ es. claim_of path (find (has_claim (state s opening) path) es)) entries-are ∙ e

module _ (s : State) where
  given : claim_at (state s 2) x ≡ Some (record { tx = 5; give = Some (link x 1); take = None })
  given = searched s 2 x _ refl

  taken : claim_at (state s 2) y ≡ Some (record { tx = 5; give = None; take = Some (link y 5) })
  taken = searched s 2 y _ refl

  active : claim_at (state s 2) z ≡ Some (record { tx = 7; give = None; take = Some (link z 7) })
  active = searched s 2 z _ refl

  -- behind a stop of the manager the active one is doomed, and the prepared one is not
  doomed : claim_at (state s 3) z ≡ None
  doomed = searched s 3 z _ refl

  still : claim_at (state s 3) y ≡ Some (record { tx = 5; give = None; take = Some (link y 5) })
  still = searched s 3 y _ refl

-- on one path a give and a take; of two takes the first; a path of the old claim is free
module _ (claims : Keyed PathClaim) where
  abbrev later : Keyed PathClaim
  later = with_claim 8 (moved (link x 1 ∷ []) (link x 8 ∷ link y 8 ∷ link y 9 ∷ [])) (without_claim (moved [] (link z 8 ∷ [])) claims)

  both : maps.get later x ≡ Some (record { tx = 8; give = Some (link x 1); take = Some (link x 8) })
  both = get-with 8 (moved (link x 1 ∷ []) (link x 8 ∷ link y 8 ∷ link y 9 ∷ [])) (without_claim (moved [] (link z 8 ∷ [])) claims) x

  first : maps.get later y ≡ Some (record { tx = 8; give = None; take = Some (link y 8) })
  first = get-with 8 (moved (link x 1 ∷ []) (link x 8 ∷ link y 8 ∷ link y 9 ∷ [])) (without_claim (moved [] (link z 8 ∷ [])) claims) y

  free : maps.get later z ≡ None
  free =
      get-with 8 (moved (link x 1 ∷ []) (link x 8 ∷ link y 8 ∷ link y 9 ∷ [])) (without_claim (moved [] (link z 8 ∷ [])) claims) z
      ∙ get-without (moved [] (link z 8 ∷ [])) claims z

abbrev swapped : PathClaim
swapped = record { tx = 5; give = Some (link x 1); take = Some (link x 5) }

-- another is in the way, and the transaction itself is not
busy : busy_by 7 x (Some swapped) ≡ Some (reasons.Claim (claim_refusals.Busy x 5))
busy = refl

own : busy_by 5 x (Some swapped) ≡ None
own = refl

-- an active claim forbids nothing; a prepared one its take too; a decided one is committed, and its give forbids until it ends
free_yet : guards (Some (link x 1)) (Some swapped) (Some phases.Active) ≡ link x 1 ∷ []
free_yet = refl

prepared : guards (Some (link x 1)) (Some swapped) (Some phases.Prepared) ≡ link x 1 ∷ link x 5 ∷ []
prepared = refl

decided : guards (Some (link x 1)) (Some swapped) (Some phases.Decided) ≡ link x 5 ∷ link x 1 ∷ []
decided = refl

given_away : guards (Some (link x 1)) (Some (record { tx = 5; give = Some (link x 1); take = None })) (Some phases.Decided) ≡ link x 1 ∷ []
given_away = refl

nobody : guards (Some (link x 1)) None None ≡ link x 1 ∷ []
nobody = refl
