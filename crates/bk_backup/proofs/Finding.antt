-- The backup of a number, and what is left when the last is taken away.
use Rattle.std.proofs.Common.{◌≡◌, ℕ, zero, suc, ◌-◌, ◌<◌, false, List, [], ◌∷◌, ◌++◌, is_some, refl, sym, ap, arith, Option, Some, None}
use Rattle.std.proofs.lemmas.List.{same_from_push}
use Rattle.std.specs.List.{slice_get}
use Rattle.std.specs.Option.{option_to_list}
use Rattle.bk_backup.specs.Saved.{backup_numbered}
use Rattle.meaning_areas.specs.Copies.{Backup}

-- the backup of a number, from 1
pub numbered_back : (backups : List Backup) (n : ℕ) → 0 < n → backup_numbered backups n ≡ slice_get backups (n - 1)
numbered_back backups zero above = absurd (omega (arith, above))
numbered_back backups (suc n) above =
    let same : suc n - 1 ≡ n = omega arith in
    ap (λ (i : ℕ). slice_get backups i) (sym same)

pub none_numbered : (backups : List Backup) (n : ℕ) → n ≡ 0 → backup_numbered backups n ≡ None
none_numbered backups n e = ap (λ (i : ℕ). backup_numbered backups i) e

-- what is left when the last is taken away
pub taken_back : (before now : List Backup) (last : Backup) (r : Option Backup) → before ++ last ∷ [] ≡ now ++ option_to_list r → (is_some r ≡ false → before ++ last ∷ [] ≡ []) → now ≡ before
taken_back before now last None is none = absurd (more before (none refl))
  where
    more : (xs : List Backup) → xs ++ last ∷ [] ≡ [] → ⊥
    more [] e = cc e
    more (x ∷ xs) e = cc e
taken_back before now last (Some x) is none = sym (same_from_push before now last x is).0
