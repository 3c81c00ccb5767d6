-- RECORDS IN A ROW: what they lead to, and how they are written.
use Rattle.std.proofs.Common.{◌≡◌, List, [], ◌∷◌, ◌++◌, Option, Some, None, is_some, true, false, refl, sym, ◌∙◌, ap}
use Rattle.std.specs.Option.{option_and_then}
use Rattle.dl_areas.specs.Lists.{Write}
use Rattle.fm_manager.specs.Managed.{as_write, as_writes}
use Rattle.meaning_areas.specs.Lists.{Folds, Written, folds_on, folds_step}

pub append-nil : {A : Type 0} (xs : List A) → xs ++ [] ≡ xs
append-nil [] = refl
append-nil {A} (x ∷ xs) = ap (λ (ys : List A). x ∷ ys) (append-nil xs)

pub folds-append : (o : Option Folds) (xs ys : List Written) → folds_on o (xs ++ ys) ≡ folds_on (folds_on o xs) ys
folds-append o [] ys = refl
folds-append o (x ∷ xs) ys = folds-append (option_and_then (λ f. folds_step f x) o) xs ys

pub writes-append : (xs ys : List Written) → as_writes (xs ++ ys) ≡ as_writes xs ++ as_writes ys
writes-append [] ys = refl
writes-append (x ∷ xs) ys = ap (λ (ws : List Write). as_write x ∷ ws) (writes-append xs ys)

folds-none : (xs : List Written) → folds_on None xs ≡ None
folds-none [] = refl
folds-none (x ∷ xs) = folds-none xs

-- what is taken as a whole is taken as far as it goes
pub some-first : (o : Option Folds) (xs : List Written) → is_some (folds_on o xs) ≡ true → is_some o ≡ true
some-first (Some f) xs e = refl
some-first None xs e = absurd (false_true (sym (ap is_some (folds-none xs)) ∙ e))
  where
    false_true : false ≡ true → ⊥
    false_true e = absurd cc

-- the lists behind some records lead on as these do
pub folds-then : (f g : Folds) (xs ys : List Written) → folds_on (Some f) xs ≡ Some g → folds_on (Some f) (xs ++ ys) ≡ folds_on (Some g) ys
folds-then f g xs ys leads = folds-append (Some f) xs ys ∙ ap (λ (o : Option Folds). folds_on o ys) leads

-- some records that are taken, with others behind them
pub taken-first : (f : Folds) (xs ys : List Written) → is_some (folds_on (Some f) (xs ++ ys)) ≡ true → is_some (folds_on (Some f) xs) ≡ true
taken-first f xs ys taken = some-first (folds_on (Some f) xs) ys (ap is_some (sym (folds-append (Some f) xs ys)) ∙ taken)
