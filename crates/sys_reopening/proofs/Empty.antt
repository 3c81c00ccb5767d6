-- AREAS WITHOUT A RECORD stand for no commit, no file, no copy and no backup.
use Rattle.std.proofs.Common.{◌≡◌, ℕ, List, [], Some, Ok, is_some, true, refl, sym, ◌∙◌, ap}
use Rattle.std.proofs.lemmas.List.Elements.{All-nil}
use Rattle.std.specs.Cmp.Lexicographic.{slice_cmp}
use Rattle.std.specs.FinMap as maps
use Rattle.std.specs.Ordering.{nat_cmp}
use Rattle.dl_base.specs.declared.area.Area.{Area}
use Rattle.dl_base.specs.declared.area.Area.TheVariants as areas
use Rattle.dl_journal.specs.Records.{records}
use Rattle.meaning_areas.specs.Areas.{Areas, AreasStand, bytes_of}
use Rattle.meaning_areas.specs.Branches.{Branch, no_branches}
use Rattle.meaning_areas.specs.Copies.{Backup}
use Rattle.meaning_areas.specs.Lists.{no_folds}
use Rattle.meaning_areas.specs.Stands.{Compares, IsStand, IsWhole, open_branch, open_in, past, stored_of}
use Rattle.meaning_opening.proofs.Plain.{false_true, none_some}
use Rattle.meaning_settling.specs.Settling.{Moved}
use Rattle.sys_owners.specs.Owned.{AreFolded}
use Rattle.sys_recovery.specs.Left.{areas_by}
use Rattle.sys_reopening.proofs.Finding.{all-told}

-- NOTHING IS THERE

no-branch : (tx : ℕ) (b : Branch) → maps.get no_branches.table tx ≡ Some b → ⊥
no-branch tx b at = none_some b (sym (maps.get-empty nat_cmp tx) ∙ at)

none-open : (tx : ℕ) (m : Moved) → open_in no_branches tx ≡ Some m → ⊥
none-open tx m at = none_some m (sym (ap open_branch (maps.get-empty nat_cmp tx)) ∙ at)

no-copy : (n : List ℕ) → is_some (maps.get no_folds.copies n) ≡ true → ⊥
no-copy n there = false_true (sym (ap is_some (maps.get-empty (slice_cmp nat_cmp) n)) ∙ there)

-- SO NOTHING IS UNLIKE

empty-compares : Compares no_folds
empty-compares = record {
  distinct = tt;
  moved = tt;
  branches = λ tx c is. absurd (none_some c is);
  decided = λ tx b at done. absurd (no-branch tx b at);
  ended = λ tx there. absurd (false_true there);
  apart = λ t u other a b first second. absurd (none-open t a first);
  ready = λ tx m there at. absurd (false_true there);
  held = λ p. maps.get-empty (slice_cmp nat_cmp) p;
  numbers = λ tx later. (refl, maps.get-empty nat_cmp tx);
  drawn_commits = λ c there. absurd there;
  drawn_branches = λ tx b at. absurd (no-branch tx b at);
}

empty-whole : IsWhole (stored_of no_folds)
empty-whole = record {
  paths = λ c there. absurd there;
  one_path = λ c d n x y there other first second. absurd there;
  files = λ p l is. absurd (none_some l is);
  copies = λ n there. absurd (no-copy n there);
  archived = λ c n l there is recovery gone. absurd there;
  bytes = λ p l c f is copy file. absurd (none_some l is);
  backups = All-nil (λ (x : Backup). past [] (stored_of no_folds).commits x.commit ≡ Some x.tables);
}

-- THE EMPTY LISTS STAND
pub empty-lists-stand : IsStand no_folds (stored_of no_folds)
empty-lists-stand = record { compares = empty-compares; whole = empty-whole; is = refl }

pub empty-folded : AreFolded (λ (_ : Area). []) no_folds
empty-folded = record { rows = refl; links = refl; files = refl; copies = refl; backups = refl }

-- AREAS WITHOUT A RECORD
pub empty-areas-stand : (x : Areas) → ((a : Area) → records (bytes_of x a) ≡ Ok []) → AreasStand x (stored_of no_folds)
empty-areas-stand x none = record { folds = no_folds; are = all-told x (λ (_ : Area). []) no_folds none empty-folded; stand = empty-lists-stand }

pub empty-bytes-stand : (q : Area → List ℕ) → ((a : Area) → records (q a) ≡ Ok []) → AreasStand (areas_by q) (stored_of no_folds)
empty-bytes-stand q none = empty-areas-stand (areas_by q) each
  where
    each : (a : Area) → records (bytes_of (areas_by q) a) ≡ Ok []
    each areas.Rows = none areas.Rows
    each areas.Links = none areas.Links
    each areas.Files = none areas.Files
    each areas.Archive = none areas.Archive
    each areas.Backups = none areas.Backups
