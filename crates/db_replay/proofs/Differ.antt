-- Lists whose items differ, with one part more.
use Rattle.std.proofs.Common.{◌≡◌, ◌&&◌, ◌||◌, Bool, true, false, not, List, [], ◌∷◌, ◌++◌, refl, ap, ◌∙◌}
use Rattle.std.specs.List.{list_all, list_any}
use Rattle.meaning_tables.specs.Fits.{differ}
use Rattle.db_replay.proofs.Bools.{crossed, inner, outer}

module _ {A : Type 0} (same : A → A → Bool) where
  -- no item is the same as an earlier one, or as one of these
  abbrev pub fresh : List A → List A → Bool
  fresh seen [] = true
  fresh seen (x ∷ xs) = not (list_any (same x) seen) && fresh (x ∷ seen) xs

  abbrev pub none_in : List A → List A → Bool
  none_in seen xs = list_all (λ x. not (list_any (same x) seen)) xs

  pub any_around : (p : A → Bool) (before behind : List A) (x : A) → list_any p (before ++ x ∷ behind) ≡ (p x || list_any p (before ++ behind))
  any_around p [] behind x = refl
  any_around p (a ∷ before) behind x = ap (λ b. p a || b) (any_around p before behind x) ∙ swap (p a) (p x) (list_any p (before ++ behind))
    where
      swap : (a b c : Bool) → (a || (b || c)) ≡ (b || (a || c))
      swap true true c = refl
      swap true false c = refl
      swap false b c = refl

  any_between : (p : A → Bool) (before between behind : List A) → list_any p (before ++ (between ++ behind)) ≡ (list_any p between || list_any p (before ++ behind))
  any_between p before [] behind = refl
  any_between p before (x ∷ xs) behind = any_around p before (xs ++ behind) x ∙ ap (λ b. p x || b) (any_between p before xs behind) ∙ turn (p x) (list_any p xs) (list_any p (before ++ behind))
    where
      turn : (a b c : Bool) → (a || (b || c)) ≡ ((a || b) || c)
      turn true b c = refl
      turn false b c = refl

  module _ (symmetric : (x y : A) → same x y ≡ same y x) where
    none-more : (x : A) (seen xs : List A) → none_in (x ∷ seen) xs ≡ (not (list_any (same x) xs) && none_in seen xs)
    none-more x seen [] = refl
    none-more x seen (y ∷ ys) =
        ap (λ b. not (b || list_any (same y) seen) && none_in (x ∷ seen) ys) (symmetric y x)
        ∙ ap (λ b. not (same x y || list_any (same y) seen) && b) (none-more x seen ys)
        ∙ crossed (same x y) (list_any (same y) seen) (list_any (same x) ys) (none_in seen ys)

    pub fresh_differ : (seen xs : List A) → fresh seen xs ≡ (none_in seen xs && differ same xs)
    fresh_differ seen [] = refl
    fresh_differ seen (x ∷ xs) =
        ap (λ b. not (list_any (same x) seen) && b) (fresh_differ (x ∷ seen) xs ∙ ap (λ b. b && differ same xs) (none-more x seen xs))
        ∙ inner (not (list_any (same x) seen)) (not (list_any (same x) xs)) (none_in seen xs) (differ same xs)

    none_seen : (xs : List A) → none_in [] xs ≡ true
    none_seen [] = refl
    none_seen (x ∷ xs) = none_seen xs

    pub fresh_all : (xs : List A) → fresh [] xs ≡ differ same xs
    fresh_all xs = fresh_differ [] xs ∙ ap (λ b. b && differ same xs) (none_seen xs)

    pub differ_around : (before behind : List A) (x : A) → differ same (before ++ x ∷ behind) ≡ (not (list_any (same x) (before ++ behind)) && differ same (before ++ behind))
    differ_around [] behind x = refl
    differ_around (a ∷ before) behind x =
        ap (λ b. not b && differ same (before ++ x ∷ behind)) (any_around (same a) before behind x)
        ∙ ap (λ b. not (same a x || list_any (same a) (before ++ behind)) && b) (differ_around before behind x)
        ∙ crossed (same a x) (list_any (same a) (before ++ behind)) (list_any (same x) (before ++ behind)) (differ same (before ++ behind))
        ∙ ap (λ b. not (b || list_any (same x) (before ++ behind)) && (not (list_any (same a) (before ++ behind)) && differ same (before ++ behind))) (symmetric a x)

    pub differ_between : (before between behind : List A) → differ same (before ++ (between ++ behind)) ≡ ((none_in (before ++ behind) between && differ same between) && differ same (before ++ behind))
    differ_between before [] behind = refl
    differ_between before (x ∷ xs) behind =
        differ_around before (xs ++ behind) x
        ∙ ap (λ b. not b && differ same (before ++ (xs ++ behind))) (any_between (same x) before xs behind)
        ∙ ap (λ b. not (list_any (same x) xs || list_any (same x) (before ++ behind)) && b) (differ_between before xs behind)
        ∙ outer (list_any (same x) xs) (list_any (same x) (before ++ behind)) (none_in (before ++ behind) xs) (differ same xs) (differ same (before ++ behind))
