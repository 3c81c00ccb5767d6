-- WHY A TRANSACTION IS NOT VOTED FOR, and what is there where it is.
use Rattle.std.proofs.Common.{◌≡◌, ◌≤◌, ℕ, length, drop, true, false, cond, List, ◌∷◌, Some, None, refl, sym, ◌∙◌, ap, subst}
use Rattle.std.proofs.lemmas.List.{at_drop_all}
use Rattle.std.specs.FinMap as maps
use Rattle.dl_base.specs.declared.answer.Refusal.{Refusal}
use Rattle.dl_base.specs.declared.answer.Refusal.TheVariants as reasons
use Rattle.dl_base.specs.declared.value.LinkRow.{LinkRow}
use Rattle.fm_links.specs.Claims.{moved}
use Rattle.fm_pieces.specs.Keeping.{AreThere}
use Rattle.meaning_areas.specs.Lists.{Folds}
use Rattle.meaning_files.specs.Files.{Files}
use Rattle.meaning_history.specs.Sound.{AreSound}
use Rattle.meaning_system.proofs.Leading.{txn-there}
use Rattle.meaning_system.specs.Claims.{doomed, files_refusal, no_file, or_else, prepare_refusal, seen_or_zero}
use Rattle.meaning_system.specs.State.{State, Txn, has_links, is_decided, is_doomed, moved_of, txn_of}
use Rattle.sys_core.proofs.Refusals.{first-is, second-is}
use Rattle.sys_core.proofs.Seating.{seat-doomed, seat-is, seat-moved, seat-of}
use Rattle.sys_core.specs.Claiming.{doomed_at, file_refusal_in}
use Rattle.sys_core.specs.Seated.{IsSeatOf, is_doomed_at}
use Rattle.sys_core.specs.Standing.{IsOf}
use Rattle.sys_core.specs.Voting.{CanVote}
use Rattle.sys_core.specs.declared.engine.Engine.{Engine}
use Rattle.sys_owners.specs.Owned.{folds_in}
use Rattle.sys_seats.specs.declared.seat.Seat.{Seat}

-- a transaction has a seat, and this is it

none_some : {A : Type 0} (x : A) → None ≡ Some x → ⊥
none_some x e = cc

pub never-none : (first : ℕ) (w : Engine) (s : State) (tx : ℕ) (t : Txn) → IsOf first w s → maps.get s.txs tx ≡ Some t → None ≡ maps.get w.seats tx → ⊥
never-none first w s tx t is at none = let x = seat-of s w.seats tx t is.seats at in none_some x.0 (none ∙ x.1)

pub seat-found : (first : ℕ) (w : Engine) (s : State) (tx : ℕ) (t : Txn) (x : Seat) → IsOf first w s → maps.get s.txs tx ≡ Some t → Some x ≡ maps.get w.seats tx → IsSeatOf s tx t x
seat-found first w s tx t x is at found = seat-is s w.seats tx t x is.seats at (sym found)

-- the transaction of a session is there
pub there-in : (s : State) (session tx : ℕ) (t : Txn) → txn_of s session ≡ Some (tx, t) → maps.get s.txs tx ≡ Some t
there-in s session tx t of = (txn-there s (maps.get s.sessions session) (tx, t) of).0

-- THE REFUSAL of a vote, by what is kept of the transaction

-- a transaction without links is voted for
module _ (s : State) (tx : ℕ) (t : Txn) (x : Seat) (is : IsSeatOf s tx t x) where
  pub links-at : has_links (moved x.claim.gives x.claim.takes) ≡ has_links (moved_of t)
  links-at = ap has_links (seat-moved s tx t x is)

  pub passes-without : has_links (moved x.claim.gives x.claim.takes) ≡ false → None ≡ prepare_refusal s t
  passes-without none = sym (ap (λ b. cond b (or_else (doomed s t) (files_refusal s (moved_of t).takes)) None) (sym links-at ∙ none))

  -- by the opening of Links
  module _ (opening : ℕ) (same : opening ≡ s.links_opening) (has : has_links (moved x.claim.gives x.claim.takes) ≡ true) where
    doomed-at : is_doomed_at opening x ≡ is_doomed s t
    doomed-at = seat-doomed s tx t x opening is same

    with-links : prepare_refusal s t ≡ or_else (doomed s t) (files_refusal s (moved_of t).takes)
    with-links = ap (λ b. cond b (or_else (doomed s t) (files_refusal s (moved_of t).takes)) None) (sym links-at ∙ has)

    doomed-is : doomed_at opening (Some x) ≡ doomed s t
    doomed-is = λ i. cond (doomed-at i) (Some (reasons.Doomed (seen_or_zero (is.seen i)) (same i))) None

    pub doomed-first : (why : Refusal) → Some why ≡ doomed_at opening (Some x) → Some why ≡ prepare_refusal s t
    doomed-first why here = first-is why (doomed s t) (files_refusal s (moved_of t).takes) (here ∙ doomed-is) ∙ sym with-links

    pub files-first : None ≡ doomed_at opening (Some x) → files_refusal s x.claim.takes ≡ prepare_refusal s t
    files-first none =
        second-is (files_refusal s x.claim.takes) (doomed s t) (files_refusal s (moved_of t).takes) (none ∙ doomed-is) (ap (files_refusal s) is.takes)
        ∙ sym with-links

-- an engine has the opening and the files of its state
pub opening-of : (first : ℕ) (w : Engine) (s : State) → IsOf first w s → w.owners.manager.links.links.opening ≡ s.links_opening
opening-of first w s is = is.sound.follows.joint.links_opening

pub files-of : (first : ℕ) (w : Engine) (s : State) → IsOf first w s → s.files ≡ w.owners.manager.files.files
files-of first w s is = sym is.sound.follows.joint.files

pub copies-of : (first : ℕ) (w : Engine) (s : State) → IsOf first w s → s.copies ≡ w.owners.manager.archive.copies
copies-of first w s is = sym is.sound.follows.joint.copies

-- what a loop over the takes finds
module _ (s : State) (w : Engine) (all rest later : List LinkRow) (d : LinkRow) (same : s.files ≡ w.owners.manager.files.files) (split : rest ≡ d ∷ later) (so_far : files_refusal s rest ≡ files_refusal s all) where
  one-is : file_refusal_in w d.path ≡ no_file d.path (maps.get s.files d.path)
  one-is = ap (λ (f : Files). no_file d.path (maps.get f d.path)) (sym same)

  all-are : or_else (no_file d.path (maps.get s.files d.path)) (files_refusal s later) ≡ files_refusal s all
  all-are = ap (files_refusal s) (sym split) ∙ so_far

  pub file-missing : (why : Refusal) → Some why ≡ file_refusal_in w d.path → Some why ≡ files_refusal s all
  file-missing why here = first-is why (no_file d.path (maps.get s.files d.path)) (files_refusal s later) (here ∙ one-is) ∙ all-are

  pub file-there : None ≡ file_refusal_in w d.path → files_refusal s later ≡ files_refusal s all
  file-there none = second-is (files_refusal s later) (no_file d.path (maps.get s.files d.path)) (files_refusal s later) (none ∙ one-is) refl ∙ all-are

-- none is left to look at
pub files-there : (s : State) (xs all : List LinkRow) (i : ℕ) → xs ≡ all → length xs ≤ i → files_refusal s (drop i all) ≡ files_refusal s all → None ≡ files_refusal s all
files-there s xs all i same past so_far = sym (at_drop_all (files_refusal s) all i (subst (λ (l : List LinkRow). length l ≤ i) same past)) ∙ so_far

-- where it is voted for its files are there
pub files-voted : ((first : ℕ) (f : Folds) (s : State) (tx : ℕ) (t : Txn) → AreSound first f s → maps.get s.txs tx ≡ Some t → is_decided t.phase ≡ false → prepare_refusal s t ≡ None → AreThere s.files (moved_of t))
    → (first : ℕ) (w : Engine) (s : State) (session tx : ℕ) (t : Txn) → CanVote first w s session tx t → AreThere s.files (moved_of t)
files-voted law first w s session tx t can = law first (folds_in w.owners) s tx t can.state.sound (there-in s session tx t can.txn) (ap is_decided can.active) can.passes
