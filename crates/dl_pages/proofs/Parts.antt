-- Items of parts, one part after another.
use Rattle.std.proofs.Common.{◌≡◌, ℕ, zero, suc, ◌+◌, ◌-◌, ◌<◌, ◌≤◌, List, [], ◌∷◌, ◌++◌, length, take, drop, refl, sym, ap, ◌∙◌, subst, arith, length-append, append_assoc, add-one}
use Rattle.std.specs.List.{slice_get, slice_set, insert, remove}
use Rattle.std.proofs.lemmas.List.{append-nil, set-append_left, set-append_right}
use Rattle.std.proofs.lemmas.List.Edits.{insert-append_left, insert-append_right, remove-append_left, remove-append_right}
use Rattle.dl_pages.specs.Listing.{flatten, AreFilled, AreBelow, HasRank}
use Rattle.dl_pages.proofs.Places.{get_left, get_right}
use denote.Param.Weighed.{most}

module _ {T : Type 0} where
  pub flatten-append : (ps qs : List (List T × ℕ)) → flatten (ps ++ qs) ≡ flatten ps ++ flatten qs
  flatten-append [] qs = refl
  flatten-append (p ∷ ps) qs = ap (λ l. p.0 ++ l) (flatten-append ps qs) ∙ sym (append_assoc p.0 (flatten ps) (flatten qs))

  pub flatten_split : (ps before behind : List (List T × ℕ)) (p : List T × ℕ) → ps ≡ before ++ p ∷ behind → flatten ps ≡ flatten before ++ (p.0 ++ flatten behind)
  flatten_split ps before behind p is = ap flatten is ∙ flatten-append before (p ∷ behind)

  pub get_split : (ps before behind : List (List T × ℕ)) (p : List T × ℕ) (i k : ℕ) → ps ≡ before ++ p ∷ behind → length (flatten before) + k ≡ i → k < length p.0 → slice_get (flatten ps) i ≡ slice_get p.0 k
  get_split ps before behind p i k is at within = ap (λ l. slice_get l i) (flatten_split ps before behind p is) ∙ get_right (flatten before) (p.0 ++ flatten behind) k i at ∙ get_left p.0 (flatten behind) k within

  set-right : (xs ys : List T) (x : T) (k i : ℕ) → length xs + k ≡ i → slice_set (xs ++ ys) i x ≡ xs ++ slice_set ys k x
  set-right xs ys x k i is = set-append_right xs ys (length xs) i x refl (omega arith) ∙ ap (λ j. xs ++ slice_set ys j x) {x = i - length xs} {y = k} (omega arith)

  pub set_split : (ps before behind : List (List T × ℕ)) (p : List T × ℕ) (i k : ℕ) (x : T) → ps ≡ before ++ p ∷ behind → length (flatten before) + k ≡ i → k < length p.0 → slice_set (flatten ps) i x ≡ flatten before ++ (slice_set p.0 k x ++ flatten behind)
  set_split ps before behind p i k x is at within = ap (λ l. slice_set l i x) (flatten_split ps before behind p is) ∙ set-right (flatten before) (p.0 ++ flatten behind) x k i at ∙ ap (λ l. flatten before ++ l) (set-append_left p.0 (flatten behind) k x within)

  remove-right : (xs ys : List T) (k i : ℕ) → length xs + k ≡ i → remove (xs ++ ys) i ≡ xs ++ remove ys k
  remove-right xs ys k i is = remove-append_right xs ys (length xs) i refl (omega arith) ∙ ap (λ j. xs ++ remove ys j) {x = i - length xs} {y = k} (omega arith)

  pub remove_split : (ps before behind : List (List T × ℕ)) (p : List T × ℕ) (i k : ℕ) → ps ≡ before ++ p ∷ behind → length (flatten before) + k ≡ i → k < length p.0 → remove (flatten ps) i ≡ flatten before ++ (remove p.0 k ++ flatten behind)
  remove_split ps before behind p i k is at within = ap (λ l. remove l i) (flatten_split ps before behind p is) ∙ remove-right (flatten before) (p.0 ++ flatten behind) k i at ∙ ap (λ l. flatten before ++ l) (remove-append_left p.0 (flatten behind) k within)

  insert-right : (xs ys : List T) (x : T) (k i : ℕ) → length xs + k ≡ i → insert (xs ++ ys) i x ≡ xs ++ insert ys k x
  insert-right xs ys x k i is = insert-append_right xs ys (length xs) i x refl (omega arith) ∙ ap (λ j. xs ++ insert ys j x) {x = i - length xs} {y = k} (omega arith)

  pub insert_split : (ps before behind : List (List T × ℕ)) (p : List T × ℕ) (i k : ℕ) (x : T) → ps ≡ before ++ p ∷ behind → length (flatten before) + k ≡ i → k ≤ length p.0 → insert (flatten ps) i x ≡ flatten before ++ (insert p.0 k x ++ flatten behind)
  insert_split ps before behind p i k x is at within = ap (λ l. insert l i x) (flatten_split ps before behind p is) ∙ insert-right (flatten before) (p.0 ++ flatten behind) x k i at ∙ ap (λ l. flatten before ++ l) (insert-append_left p.0 (flatten behind) k x within)

  pub below_most : (h n : ℕ) (ps : List (List T × ℕ)) → most (λ v. v.1 + 1) ps ≤ h → AreBelow h (take n ps)
  below_most h zero ps low = tt
  below_most h (suc n) [] low = tt
  below_most h (suc n) (p ∷ ps) low = (omega (arith, low), below_most h n ps (omega (arith, low)))

  pub below_split : (h : ℕ) (ps before behind : List (List T × ℕ)) (p : List T × ℕ) → ps ≡ before ++ p ∷ behind → AreBelow h ps → p.1 < h
  below_split h ps before behind p is low = among before (subst (AreBelow h) is low)
    where
      among : (before : List (List T × ℕ)) → AreBelow h (before ++ p ∷ behind) → p.1 < h
      among [] low = low.0
      among (q ∷ before) low = among before low.1

  pub split_at : (i : ℕ) (ps behind : List (List T × ℕ)) (p : List T × ℕ) → drop i ps ≡ p ∷ behind → ps ≡ take i ps ++ p ∷ behind
  split_at zero ps behind p is = is
  split_at (suc i) [] behind p is = cc is
  split_at (suc i) (q ∷ ps) behind p is = ap (λ l. q ∷ l) (split_at i ps behind p is)

  step : (i : ℕ) (ps behind : List (List T × ℕ)) (p : List T × ℕ) → drop i ps ≡ p ∷ behind → length (flatten (take (suc i) ps)) ≡ length (flatten (take i ps)) + length p.0
  step zero [] behind p is = cc is
  step zero (q ∷ ps) behind p is = ap (λ l. length (l.0 ++ [])) (first is) ∙ length-append p.0 [] ∙ omega arith
    where
      first : q ∷ ps ≡ p ∷ behind → q ≡ p
      first e = cc e
  step (suc i) [] behind p is = cc is
  step (suc i) (q ∷ ps) behind p is = omega (arith, step i ps behind p is, length-append q.0 (flatten (take (suc i) ps)), length-append q.0 (flatten (take i ps)))

  pub len_step : (i : ℕ) (ps behind : List (List T × ℕ)) (p : List T × ℕ) → drop i ps ≡ p ∷ behind → length (flatten (take (i + 1) ps)) ≡ length (flatten (take i ps)) + length p.0
  len_step i ps behind p is = rw (add-one i) (step i ps behind p is)

  pub len_split : (i : ℕ) (ps behind : List (List T × ℕ)) (p : List T × ℕ) → drop i ps ≡ p ∷ behind → length (flatten ps) ≡ length (flatten (take i ps)) + (length p.0 + length (flatten behind))
  len_split i ps behind p is = omega (arith, ap length (flatten_split ps (take i ps) behind p (split_at i ps behind p is)), length-append (flatten (take i ps)) (p.0 ++ flatten behind), length-append p.0 (flatten behind))

  pub len_all : (i : ℕ) (ps : List (List T × ℕ)) → i ≡ length ps → take i ps ≡ ps
  len_all zero [] is = refl
  len_all zero (p ∷ ps) is = absurd (omega arith)
  len_all (suc i) [] is = absurd (omega arith)
  len_all (suc i) (p ∷ ps) is = ap (λ l. p ∷ l) (len_all i ps (omega arith))

  pub none_left : (i : ℕ) (ps : List (List T × ℕ)) → i < length ps → drop i ps ≡ [] → ⊥
  none_left zero [] within is = omega arith
  none_left zero (p ∷ ps) within is = cc is
  none_left (suc i) [] within is = omega arith
  none_left (suc i) (p ∷ ps) within is = none_left i ps (omega arith) is

  pub below_first : (h : ℕ) (ps behind : List (List T × ℕ)) (p : List T × ℕ) → ps ≡ p ∷ behind → AreBelow h ps → p.1 < h
  below_first h ps behind p is low = below_split h ps [] behind p is low

  pub flatten_one : (ps behind : List (List T × ℕ)) (p : List T × ℕ) → ps ≡ p ∷ behind → behind ≡ [] → flatten ps ≡ p.0
  flatten_one ps behind p is none = rw (is, none) (append-nil p.0)

  take-set : (n : ℕ) (ps : List (List T × ℕ)) (p : List T × ℕ) → n < length ps → take (suc n) (slice_set ps n p) ≡ take n ps ++ p ∷ []
  take-set n [] p within = absurd (omega arith)
  take-set zero (q ∷ ps) p within = refl
  take-set (suc n) (q ∷ ps) p within = ap (λ l. q ∷ l) (take-set n ps p (omega arith))

  pub take_set : (n : ℕ) (ps : List (List T × ℕ)) (p : List T × ℕ) → n < length ps → take (n + 1) (slice_set ps n p) ≡ take n ps ++ p ∷ []
  take_set n ps p within = rw (add-one n) (take-set n ps p within)

  pub flatten_push : (ps : List (List T × ℕ)) (p : List T × ℕ) → flatten (ps ++ p ∷ []) ≡ flatten ps ++ p.0
  flatten_push ps p = flatten-append ps (p ∷ []) ∙ ap (λ l. flatten ps ++ l) (append-nil p.0)

  pub filled_push : (ps : List (List T × ℕ)) (p : List T × ℕ) → AreFilled ps → 0 < length p.0 → AreFilled (ps ++ p ∷ [])
  filled_push [] p filled full = (full, tt)
  filled_push (q ∷ ps) p filled full = (filled.0, filled_push ps p filled.1 full)

  -- what stays true of a page as a part is put at its end
  pub push_kept : (rank : T → ℕ) (n r next first len : ℕ) (ps : List (List T × ℕ)) (p : List T × ℕ) → n < length ps → n < 4 → len ≡ length (flatten (take n ps)) + length p.0 → 0 < length p.0 → HasRank rank r (flatten (take n ps)) → HasRank rank next p.0 → AreFilled (take n ps) → (length (flatten (take n ps)) ≡ 0 → first ≡ next) → (0 < length (flatten (take n ps)) → first ≡ r) → (n + 1 ≤ 4) × (len ≡ length (flatten (take (n + 1) (slice_set ps n p)))) × HasRank rank first (flatten (take (n + 1) (slice_set ps n p))) × AreFilled (take (n + 1) (slice_set ps n p))
  push_kept rank n r next first len ps p within few total some is follows filled none else_ = rw (take_set n ps p within, flatten_push (take n ps) p) (omega (arith, few), total ∙ sym (length-append (flatten (take n ps)) p.0), ranked (flatten (take n ps)) is none else_, filled_push (take n ps) p filled some)
    where
      ranked : (xs : List T) → HasRank rank r xs → (length xs ≡ 0 → first ≡ next) → (0 < length xs → first ≡ r) → HasRank rank first (xs ++ p.0)
      ranked [] is none else_ = rw (none refl) follows
      ranked (x ∷ xs) is none else_ = is ∙ sym (else_ (omega arith))

  -- a row of parts, then one part and one more, and then another row
  pub page_pushed : (before first second behind none one two three four : List T) → none ≡ [] → one ≡ none ++ before → two ≡ one ++ first → three ≡ two ++ second → four ≡ three ++ behind → four ≡ before ++ ((first ++ second) ++ behind)
  page_pushed before first second behind none one two three four is_none is_one is_two is_three is_four = is_four ∙ ap (λ l. l ++ behind) (is_three ∙ ap (λ l. l ++ second) (is_two ∙ ap (λ l. l ++ first) (is_one ∙ ap (λ l. l ++ before) is_none)) ∙ append_assoc before first second) ∙ append_assoc before (first ++ second) behind

  page-is : (before behind : List (List T × ℕ)) (made first second : List T × ℕ) (page : List T) → page ≡ flatten before ++ ((first.0 ++ second.0) ++ flatten behind) → first ≡ made → second.0 ≡ [] → page ≡ flatten before ++ (made.0 ++ flatten behind)
  page-is before behind made first second page is one none = is ∙ ap (λ l. flatten before ++ (l ++ flatten behind)) (ap (λ l. first.0 ++ l) none ∙ append-nil first.0 ∙ ap (λ v. v.0) one)

  pub removed_page : (ps before behind : List (List T × ℕ)) (p made first second : List T × ℕ) (i k : ℕ) (whole page : List T) → whole ≡ flatten ps → ps ≡ before ++ p ∷ behind → length (flatten before) + k ≡ i → k < length p.0 → page ≡ flatten before ++ ((first.0 ++ second.0) ++ flatten behind) → first ≡ made → second.0 ≡ [] → made.0 ≡ remove p.0 k → page ≡ remove whole i
  removed_page ps before behind p made first second i k whole page all is at within has one none change = page-is before behind made first second page has one none ∙ ap (λ l. flatten before ++ (l ++ flatten behind)) change ∙ sym (remove_split ps before behind p i k is at within) ∙ ap (λ l. remove l i) (sym all)

  pub replaced_page : (ps before behind : List (List T × ℕ)) (p made first second : List T × ℕ) (i k : ℕ) (x : T) (whole page : List T) → whole ≡ flatten ps → ps ≡ before ++ p ∷ behind → length (flatten before) + k ≡ i → k < length p.0 → page ≡ flatten before ++ ((first.0 ++ second.0) ++ flatten behind) → first ≡ made → second.0 ≡ [] → made.0 ≡ slice_set p.0 k x → page ≡ slice_set whole i x
  replaced_page ps before behind p made first second i k x whole page all is at within has one none change = page-is before behind made first second page has one none ∙ ap (λ l. flatten before ++ (l ++ flatten behind)) change ∙ sym (set_split ps before behind p i k x is at within) ∙ ap (λ l. slice_set l i x) (sym all)

  pub inserted_page : (ps before behind : List (List T × ℕ)) (p : List T × ℕ) (i b k : ℕ) (x : T) (two whole page : List T) → whole ≡ flatten ps → ps ≡ before ++ p ∷ behind → length (flatten before) + k ≡ b → k < length p.0 → b ≤ i → i ≤ b + 1 → page ≡ flatten before ++ (two ++ flatten behind) → two ≡ insert p.0 (k + (i - b)) x → page ≡ insert whole i x
  inserted_page ps before behind p i b k x two whole page all is at within low high has change = has ∙ ap (λ l. flatten before ++ (l ++ flatten behind)) change ∙ sym (insert_split ps before behind p i (k + (i - b)) x is (omega (arith, at, low)) (omega (arith, within, high, low))) ∙ ap (λ l. insert l i x) (sym all)

  pub flatten_at : (n : ℕ) (ps : List (List T × ℕ)) → flatten ps ≡ flatten (take n ps) ++ flatten (drop n ps)
  flatten_at zero ps = refl
  flatten_at (suc n) [] = refl
  flatten_at (suc n) (p ∷ ps) = ap (λ l. p.0 ++ l) (flatten_at n ps) ∙ sym (append_assoc p.0 (flatten (take n ps)) (flatten (drop n ps)))

  -- a row that goes on in a second one
  pub in_two : (before behind front back : List (List T × ℕ)) (n : ℕ) (made first second : List T) → front ≡ take n behind → back ≡ drop n behind → first ≡ flatten before ++ (made ++ flatten front) → second ≡ flatten back → first ++ second ≡ flatten before ++ (made ++ flatten behind)
  in_two before behind front back n made first second is_front is_back one two = rw (one, two, is_front, is_back, flatten_at n behind) (append_assoc (flatten before) (made ++ flatten (take n behind)) (flatten (drop n behind)) ∙ ap (λ l. flatten before ++ l) (append_assoc made (flatten (take n behind)) (flatten (drop n behind))))
