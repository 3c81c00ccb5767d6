-- THE FIRST REFUSAL BY WHAT AN ENGINE HAS is that of the machine.
use Rattle.std.proofs.Common.{◌≡◌, ℕ, ◌++◌, cond, List, [], ◌∷◌, Option, Some, None, refl, sym, ◌∙◌, ap}
use Rattle.std.specs.FinMap as maps
use Rattle.db_txn.specs.Transaction.{Transaction}
use Rattle.dl_base.specs.declared.answer.Refusal.{Refusal}
use Rattle.dl_base.specs.declared.answer.Refusal.TheVariants as reasons
use Rattle.dl_base.specs.declared.value.LinkRow.{LinkRow}
use Rattle.fm_links.specs.Claims.{PathClaim}
use Rattle.fm_links.specs.Guarding.{committed_on, phase_in, unless_among}
use Rattle.fm_links.specs.Searching.{AreClaims, busy_by}
use Rattle.meaning_areas.specs.Commits.{tables_after}
use Rattle.meaning_areas.specs.Joint.{Joint}
use Rattle.meaning_areas.specs.Lists.{Folds}
use Rattle.meaning_files.specs.Files.{Files}
use Rattle.meaning_history.specs.Sound.{AreSound}
use Rattle.meaning_settling.specs.Keyed.{Keyed}
use Rattle.meaning_settling.specs.Settling.{on}
use Rattle.meaning_system.specs.Claims.{busy_on, claim_refusal, conflict, doomed, gives_refusal, linked, no_file, not_among, or_else, seen_or_zero, takes_refusal}
use Rattle.meaning_system.specs.CoreOf.{core_of}
use Rattle.meaning_system.specs.State.{State, Txn, is_doomed, tables_of}
use Rattle.meaning_tables.specs.Links.{gives, links, takes}
use Rattle.meaning_tables.specs.Tables.{Tables}
use Rattle.sys_core.proofs.Guarding.{phase-seated}
use Rattle.sys_core.proofs.Seating.{seat-doomed, seat-of}
use Rattle.sys_core.specs.Claiming.{busy_in, claim_refusal_in, doomed_at, file_refusal_in, gives_refusal_in, kept_on, linked_by, number_of, opening_in, take_refusal_in, takes_refusal_in, working}
use Rattle.sys_core.specs.Guarded.{claim_in, committed_in}
use Rattle.sys_core.specs.Seated.{is_doomed_at}
use Rattle.sys_core.specs.Standing.{IsOf}
use Rattle.sys_core.specs.declared.engine.Engine.{Engine}
use Rattle.sys_owners.specs.Owned.{folds_in}

-- what claims by paths answer
abbrev pub BusyIsFound : Type 0
BusyIsFound = (f : Folds) (s : State) (claims : Keyed PathClaim) (tx : ℕ) (path : List ℕ) → Joint f (core_of s) → AreClaims claims s → busy_on s tx path ≡ busy_by tx path (maps.get claims path)

abbrev pub LinkedIsFound : Type 0
LinkedIsFound =
    (first : ℕ) (f : Folds) (s : State) (claims : Keyed PathClaim) (gives : List LinkRow) (path : List ℕ) → AreSound first f s → AreClaims claims s
    → on (not_among gives (links (tables_of s))) path ≡ unless_among gives (committed_on (maps.get f.links.held path) (maps.get claims path) (phase_in s (maps.get claims path)))

-- of four refusals and those behind them
in-order : (a b c d more : Option Refusal) → or_else (or_else a (or_else b (or_else c d))) more ≡ or_else a (or_else b (or_else c (or_else d more)))
in-order (Some why) b c d more = refl
in-order None (Some why) c d more = refl
in-order None None (Some why) d more = refl
in-order None None None d more = refl

linked-number : (path : List ℕ) (o : Option LinkRow) → linked_by path (number_of o) ≡ linked path o
linked-number path None = refl
linked-number path (Some l) = refl

module _ (busy_law : BusyIsFound) (linked_law : LinkedIsFound) (first : ℕ) (w : Engine) (s : State) (is : IsOf first w s) (tx : ℕ) where
  joint : Joint (folds_in w.owners) (core_of s)
  joint = is.sound.follows.joint

  file-is : (path : List ℕ) → file_refusal_in w path ≡ no_file path (maps.get s.files path)
  file-is path = ap (λ (m : Files). no_file path (maps.get m path)) joint.files

  busy-is : (path : List ℕ) → busy_in w tx path ≡ busy_on s tx path
  busy-is path = sym (busy_law (folds_in w.owners) s w.claims.claims tx path joint is.claims)

  kept-is : (given : List LinkRow) (path : List ℕ) → linked_by path (kept_on w given path) ≡ linked path (on (not_among given (links (tables_of s))) path)
  kept-is given path =
      linked-number path (unless_among given (committed_in w path))
      ∙ ap (linked path)
      (ap (λ p. unless_among given (committed_on (maps.get w.owners.manager.links.links.held path) (claim_in w path) p)) (phase-seated s w.seats is.seats (claim_in w path))
      ∙ sym (linked_law first (folds_in w.owners) s w.claims.claims given path is.sound is.claims))

  take-is : (given earlier : List LinkRow) (t : LinkRow) (more : Option Refusal)
      → or_else (take_refusal_in w tx given (number_of (on earlier t.path)) t) more
      ≡ or_else (no_file t.path (maps.get s.files t.path)) (or_else (linked t.path (on earlier t.path)) (or_else (linked t.path (on (not_among given (links (tables_of s))) t.path)) (or_else (busy_on s tx t.path) more)))
  take-is given earlier t more =
      in-order (file_refusal_in w t.path) (linked_by t.path (number_of (on earlier t.path))) (linked_by t.path (kept_on w given t.path)) (busy_in w tx t.path) more
      ∙ (λ i. or_else (file-is t.path i) (or_else (linked-number t.path (on earlier t.path) i) (or_else (kept-is given t.path i) (or_else (busy-is t.path i) more))))

  takes-is : (given earlier ts : List LinkRow) → takes_refusal_in w tx given earlier ts ≡ takes_refusal s tx given earlier ts
  takes-is given earlier [] = refl
  takes-is given earlier (t ∷ ts) =
      ap (or_else (take_refusal_in w tx given (number_of (on earlier t.path)) t)) (takes-is given (earlier ++ t ∷ []) ts)
      ∙ take-is given earlier t (takes_refusal s tx given (earlier ++ t ∷ []) ts)

  gives-is : (gs : List LinkRow) → gives_refusal_in w tx gs ≡ gives_refusal s tx gs
  gives-is [] = refl
  gives-is (g ∷ gs) = λ i. or_else (busy-is g.path i) (gives-is gs i)

  pub doomed-is : (t : Txn) → maps.get s.txs tx ≡ Some t → doomed_at (opening_in w) (maps.get w.seats tx) ≡ doomed s t
  doomed-is t at =
      let own = seat-of s w.seats tx t is.seats at in
      let so : is_doomed_at (opening_in w) own.0 ≡ is_doomed s t = seat-doomed s tx t own.0 (opening_in w) own.2 joint.links_opening in
      ap (doomed_at (opening_in w)) own.1
      ∙ (λ i. cond (so i) (Some (reasons.Doomed (seen_or_zero (own.2.seen i)) (joint.links_opening i))) None)

  -- THE FIRST REFUSAL
  pub claim-is : (t : Txn) (v : Transaction) → maps.get s.txs tx ≡ Some t → v.base ≡ t.base → claim_refusal_in w tx v ≡ claim_refusal s tx (working t v)
  claim-is t v at same =
      (λ i. or_else (doomed-is t at i) (or_else (conflict v.base (tables_after [] (joint.commits i)) v.named) (or_else (takes-is (gives v.base v.copy) [] (takes v.base v.copy) i) (gives-is (gives v.base v.copy) i))))
      ∙ ap (λ (b : Tables). or_else (doomed s t) (or_else (conflict b (tables_of s) v.named) (or_else (takes_refusal s tx (gives b v.copy) [] (takes b v.copy)) (gives_refusal s tx (gives b v.copy))))) same
