-- The records of an opening, and the lists over which it begins.
use Rattle.std.proofs.Common.{◌≡◌, ◌+◌, ◌++◌, [], ◌∷◌, ℕ, List, Option, Result, Ok, Some, refl, sym, ◌∙◌, ap, subst}
use Rattle.std.specs.FinMap as maps
use Rattle.std.specs.List.{flat_map}
use Rattle.std.specs.Option.{option_and_then}
use Rattle.dl_areas.specs.Lists.{Lists}
use Rattle.dl_base.specs.declared.area.Area.TheVariants as areas
use Rattle.dl_base.specs.declared.step.Settings.{Settings}
use Rattle.dl_codec.specs.declared.links.LinksRecord.TheVariants as links_records
use Rattle.dl_codec.specs.declared.rows.RowsRecord.TheVariants as rows_records
use Rattle.meaning_areas.specs.Areas.{backups_of, branches_of, copies_of, rows_of}
use Rattle.meaning_areas.specs.Branches.{Branches, links_step}
use Rattle.meaning_areas.specs.Commits.{Commits, rows_step}
use Rattle.meaning_areas.specs.FilesArea.{files_of}
use Rattle.meaning_areas.specs.Lists.{Folds, Written, folds_on, folds_step, in_links, in_rows, with_links, with_rows}
use Rattle.meaning_areas.specs.Moving.{with_links_opening, with_rows_opening}
use Rattle.meaning_areas.specs.Stands.{IsStand, Stored}
use Rattle.meaning_history.specs.Reached.{HasPast, first_of}
use Rattle.meaning_history.specs.Sound.{AreSound}
use Rattle.meaning_opening.specs.Fronts.{opened_by}
use Rattle.meaning_system.specs.Machine.{start}
use Rattle.meaning_system.specs.Writes.{open_drop, open_settles, opening}
use Rattle.sys_owners.specs.Owned.{AreFolded}

some_same : {X : Type 0} (x y : X) → Some x ≡ Some y → x ≡ y
some_same x y e = cc

-- THE RECORDS OF AN OPENING: the two that count it, and those behind them

abbrev pub counts : Folds → List Written
counts f = in_rows (rows_records.Opening (f.rows.opening + 1)) ∷ in_links (links_records.Opening (f.links.opening + 1)) ∷ []

abbrev pub behind : Folds → List Written
behind f = open_settles f f.rows.commits ++ flat_map (open_drop f) (maps.entries f.links.table)

abbrev pub counted : Folds → Folds
counted f = with_links_opening (with_rows_opening f)

pub in-parts : (f : Folds) → counts f ++ behind f ≡ opening f
in-parts f = refl

-- the laws that say what they lead to

abbrev pub RowsAreOpened : Type 0
RowsAreOpened = (r : Commits) → rows_step r (rows_records.Opening (r.opening + 1)) ≡ Some (record { opening = r.opening + 1; commits = r.commits; ended = r.ended })

abbrev pub LinksAreOpened : Type 0
LinksAreOpened = (l : Branches) → links_step l (links_records.Opening (l.opening + 1)) ≡ Some (record { opening = l.opening + 1; table = l.table; held = l.held })

abbrev pub SettlesStay : Type 0
SettlesStay = (f : Folds) (x : Stored) → IsStand f x → HasPast x → open_settles (counted f) f.rows.commits ≡ open_settles f f.rows.commits

abbrev pub FrontsLead : Type 0
FrontsLead = (f : Folds) (x : Stored) → IsStand f x → HasPast x → (front rest : List Written) → front ++ rest ≡ opening f
    → (later : Folds) × (folds_on (Some f) front ≡ Some later) × IsStand later (opened_by x front)

abbrev pub PastsStay : Type 0
PastsStay = (x : Stored) (front : List Written) → HasPast x → HasPast (opened_by x front)

abbrev pub AllLead : Type 0
AllLead = (f : Folds) (x : Stored) → IsStand f x → HasPast x
    → (later : Folds) × (folds_on (Some f) (opening f) ≡ Some later) × IsStand later (opened_by x (opening f)) × ((given : Settings) → AreSound (first_of x) later (start given x))

module _ (rows : RowsAreOpened) (links : LinksAreOpened) (f : Folds) where
  -- the two are taken
  pub counts-lead : folds_on (Some f) (counts f) ≡ Some (counted f)
  counts-lead =
      ap (λ (o : Option Commits). option_and_then (λ (g : Folds). folds_step g (in_links (links_records.Opening (f.links.opening + 1)))) (with_rows f o)) (rows f.rows)
      ∙ ap (λ (o : Option Branches). with_links (with_rows_opening f) o) (links f.links)

  module _ (x : Stored) (stand : IsStand f x) (past : HasPast x) where
    -- lists that count the opening stand for something with a past
    pub counted-stand : FrontsLead → PastsStay → (y : Stored) × IsStand (counted f) y × HasPast y
    counted-stand fronts pasts =
        let front = fronts f x stand past (counts f) (behind f) refl in
        (opened_by x (counts f), subst (λ (g : Folds). IsStand g (opened_by x (counts f))) (some_same front.0 (counted f) (sym front.1 ∙ counts-lead)) front.2, pasts x (counts f) past)

    -- what is left to write behind them is the same over them
    pub behind-counted : SettlesStay → behind (counted f) ≡ behind f
    behind-counted settles = ap (λ (xs : List Written). xs ++ flat_map (open_drop f) (maps.entries f.links.table)) (settles f x stand past)

    -- all are taken
    pub opening-leads : SettlesStay → (g later : Folds) → g ≡ counted f → folds_on (Some g) (behind g) ≡ Some later → folds_on (Some f) (opening f) ≡ Some later
    opening-leads settles g later is leads =
        ap (λ (o : Option Folds). folds_on o (behind f)) counts-lead
        ∙ ap (λ (xs : List Written). folds_on (Some (counted f)) xs) (sym (behind-counted settles))
        ∙ subst (λ (h : Folds). folds_on (Some h) (behind h) ≡ Some later) is leads

-- what all lead to is sound with the state with which a run begins
pub opening-sound : AllLead → (f later : Folds) (x : Stored) → IsStand f x → HasPast x → folds_on (Some f) (opening f) ≡ Some later → (given : Settings) → AreSound (first_of x) later (start given x)
opening-sound lead f later x stand past leads given =
    let all = lead f x stand past in
    subst (λ (g : Folds). AreSound (first_of x) g (start given x)) (some_same all.0 later (sym all.1 ∙ leads)) (all.3 given)

-- THE LISTS stand for one thing

ok_same : {S : Type 0} (x y : S) (r : Result S ℕ) → r ≡ Ok x → r ≡ Ok y → x ≡ y
ok_same {S} x y r a b = inside (sym a ∙ b)
  where
    inside : ◌≡◌ {A = Result S ℕ} (Ok x) (Ok y) → x ≡ y
    inside e = cc

module _ (lists read : Lists) (f g : Folds) (same : lists ≡ read) (folded : AreFolded lists f) (told : AreFolded read g) where
  pub same-folds : f ≡ g
  same-folds = λ i. record { rows = rows i; links = links i; files = files i; copies = copies i; backups = backups i }
    where
      rows : f.rows ≡ g.rows
      rows = ok_same f.rows g.rows (rows_of (read areas.Rows)) (ap (λ (l : Lists). rows_of (l areas.Rows)) (sym same) ∙ folded.rows) told.rows

      links : f.links ≡ g.links
      links = ok_same f.links g.links (branches_of (read areas.Links)) (ap (λ (l : Lists). branches_of (l areas.Links)) (sym same) ∙ folded.links) told.links

      files : f.files ≡ g.files
      files = ok_same f.files g.files (files_of (read areas.Files)) (ap (λ (l : Lists). files_of (l areas.Files)) (sym same) ∙ folded.files) told.files

      copies : f.copies ≡ g.copies
      copies = ok_same f.copies g.copies (copies_of (read areas.Archive)) (ap (λ (l : Lists). copies_of (l areas.Archive)) (sym same) ∙ folded.copies) told.copies

      backups : f.backups ≡ g.backups
      backups = ok_same f.backups g.backups (backups_of (read areas.Backups)) (ap (λ (l : Lists). backups_of (l areas.Backups)) (sym same) ∙ folded.backups) told.backups
