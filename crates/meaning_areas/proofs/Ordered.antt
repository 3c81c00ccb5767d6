-- What areas stand for is said by the comparisons, one area after another.
use Rattle.std.proofs.Common.{◌≡◌, ⊎_elim, ℕ, Result, Ok, Err, refl, sym, ◌∙◌, ap, subst}
use Rattle.dl_base.specs.declared.area.Area.{Area}
use Rattle.dl_base.specs.declared.area.Area.TheVariants as areas
use Rattle.meaning_areas.specs.Areas.{Areas, folds_of, ComparesAt, IsUnlike, AreasStand, StandForNothing}
use Rattle.meaning_areas.specs.Lists.{Folds}
use Rattle.meaning_areas.specs.Stands.{Stored, stored_of, IsWhole, IsStand}

-- the lists stand for something exactly where each comparison holds
pub stand-compared : (f : Folds) (s : Stored) → IsStand f s → (a : Area) → ComparesAt f a
stand-compared f s stand a = at a (let P : Stored → Type 0 = λ x. IsWhole x in subst P stand.is stand.whole)
  where
    at : (a : Area) → IsWhole (stored_of f) → ComparesAt f a
    at areas.Rows whole = tt
    at areas.Links whole = (
      record {
        distinct = stand.compares.distinct;
        moved = stand.compares.moved;
        branches = stand.compares.branches;
        decided = stand.compares.decided;
        ended = stand.compares.ended;
        apart = stand.compares.apart;
        held = stand.compares.held;
        numbers = stand.compares.numbers;
        drawn_commits = stand.compares.drawn_commits;
        drawn_branches = stand.compares.drawn_branches;
        ready = tt;
      },
      whole.paths,
      whole.one_path,
    )
    at areas.Files whole = whole.files
    at areas.Archive whole = (stand.compares.ready, whole.copies, whole.archived, whole.bytes)
    at areas.Backups whole = whole.backups

pub compared-stand : (f : Folds) → ((a : Area) → ComparesAt f a) → IsStand f (stored_of f)
compared-stand f at = record {
  compares = record {
    distinct = (at areas.Links).0.distinct;
    moved = (at areas.Links).0.moved;
    branches = (at areas.Links).0.branches;
    decided = (at areas.Links).0.decided;
    ended = (at areas.Links).0.ended;
    apart = (at areas.Links).0.apart;
    held = (at areas.Links).0.held;
    numbers = (at areas.Links).0.numbers;
    drawn_commits = (at areas.Links).0.drawn_commits;
    drawn_branches = (at areas.Links).0.drawn_branches;
    ready = (at areas.Archive).0;
  };
  whole = record {
    paths = (at areas.Links).1;
    one_path = (at areas.Links).2;
    files = at areas.Files;
    copies = (at areas.Archive).1;
    archived = (at areas.Archive).2;
    bytes = (at areas.Archive).3;
    backups = at areas.Backups;
  };
  is = refl;
}

ok_same : (f g : Folds) (r : Result Folds (Area × ℕ)) → r ≡ Ok f → r ≡ Ok g → f ≡ g
ok_same f g r a b = inside (sym a ∙ b)
  where
    inside : ◌≡◌ {A = Result Folds (Area × ℕ)} (Ok f) (Ok g) → f ≡ g
    inside e = cc

ok_err : (f : Folds) (at : Area × ℕ) (r : Result Folds (Area × ℕ)) → r ≡ Ok f → r ≡ Err at → ⊥
ok_err f at r a b = inside (sym a ∙ b)
  where
    inside : ◌≡◌ {A = Result Folds (Area × ℕ)} (Ok f) (Err at) → ⊥
    inside e = cc

-- for one stored part
pub one-stored : (x : Areas) (s t : Stored) → AreasStand x s → AreasStand x t → s ≡ t
one-stored x s t a b = a.stand.is ∙ ap stored_of (ok_same a.folds b.folds (folds_of x) a.are b.are) ∙ sym b.stand.is

-- and not for it and for nothing
pub stand-or-nothing : (x : Areas) (s : Stored) (at : Area × ℕ) → AreasStand x s → StandForNothing x at → ⊥
stand-or-nothing x s at a none = ⊎_elim
    (λ (refused : folds_of x ≡ Err at). ok_err a.folds at (folds_of x) a.are refused)
    (λ (unlike : (f : Folds) × (folds_of x ≡ Ok f) × IsUnlike f at.0 × (at.1 ≡ _)).
    unlike.2.here (stand-compared unlike.0 s (subst (λ (g : Folds). IsStand g s) (ok_same a.folds unlike.0 (folds_of x) a.are unlike.1) a.stand) at.0))
    none
