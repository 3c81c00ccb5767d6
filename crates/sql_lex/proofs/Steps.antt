-- What the loop over a text keeps.
use Rattle.std.proofs.Common.{◌≡◌, ℕ, suc, ◌+◌, ◌-◌, ◌≤◌, ◌<◌, true, false, List, [], ◌∷◌, ◌++◌, length, take, drop, get_or, Some, None, Result, Ok, Err, refl, sym, ap, ◌∙◌, arith}
use Rattle.std.proofs.lemmas.List.{at_drop_more, at_drop_all, append-nil, drop-drop, length-drop}
use Rattle.std.proofs.Math.Seq.{take-length}
use Rattle.sql_lex.specs.declared.lexeme.LexKind.{LexKind}
use Rattle.sql_lex.specs.declared.lexeme.Lexeme.{Lexeme}
use Rattle.dl_base.specs.Blank.{is_blank}
use Rattle.sql_lex.specs.Scan.{Front, front, with_lexeme, place_front, scan}
use Rattle.sql_lex.proofs.Scans.{scan_skip, behind, one_behind}

module _ (xs : List Lexeme) (bs : List ℕ) (total : Result (List Lexeme) ℕ) (at : ℕ) (lt : at < length bs) where
  here : (k : ℕ) → scan 0 k (drop at bs) ≡ scan 0 k (get_or bs at 0 ∷ drop (at + 1) bs)
  here k = at_drop_more (scan 0 k) bs at 0 lt

  pub blank_step : is_blank (get_or bs at 0) ≡ true → behind xs (scan 0 (at + 1) (drop at bs)) ≡ total → behind xs (scan 0 (at + 1 + 1) (drop (at + 1) bs)) ≡ total
  blank_step e h = (let n : at + 1 + 1 ≡ suc (at + 1) = omega arith in ap (λ k. behind xs (scan 0 k (drop (at + 1) bs))) n) ∙ ap (behind xs) (sym (here (at + 1) ∙ rw e refl)) ∙ h

  first : (f : Front) → is_blank (get_or bs at 0) ≡ false → front (drop at bs) ≡ f → scan 0 (at + 1) (drop at bs) ≡ place_front f (at + 1) (λ k. scan k (suc (at + 1)) (drop (at + 1) bs))
  first f e is = here (at + 1) ∙ rw e refl ∙ ap (λ g. place_front g (at + 1) (λ k. scan k (suc (at + 1)) (drop (at + 1) bs))) (sym (at_drop_more front bs at 0 lt) ∙ is)

  pub bad_step : is_blank (get_or bs at 0) ≡ false → front (drop at bs) ≡ None → behind xs (scan 0 (at + 1) (drop at bs)) ≡ total → total ≡ Err (at + 1)
  bad_step e is h = sym h ∙ ap (behind xs) (first None e is)

  pub lexeme_step : (kind : LexKind) (len : ℕ) → is_blank (get_or bs at 0) ≡ false → front (drop at bs) ≡ Some (kind, len) → 0 < len → behind xs (scan 0 (at + 1) (drop at bs)) ≡ total → behind (xs ++ record { kind = kind; begin = at + 1; end = at + 1 + len } ∷ []) (scan 0 (at + len + 1) (drop (at + len) bs)) ≡ total
  lexeme_step kind len e is some h =
      let x : Lexeme = record { kind = kind; begin = at + 1; end = at + 1 + len } in
      let n : suc (at + 1) + (len - 1) ≡ at + len + 1 = omega arith in
      let m : at + 1 + (len - 1) ≡ at + len = omega arith in
      let skip : scan (len - 1) (suc (at + 1)) (drop (at + 1) bs) ≡ scan 0 (at + len + 1) (drop (at + len) bs) = scan_skip (len - 1) (suc (at + 1)) (drop (at + 1) bs) ∙ ap (scan 0 (suc (at + 1) + (len - 1))) (drop-drop (len - 1) (at + 1) bs) ∙ (λ i. scan 0 (n i) (drop (m i) bs)) in
      one_behind xs x (scan 0 (at + len + 1) (drop (at + len) bs)) ∙ ap (λ r. behind xs (with_lexeme x r)) (sym skip) ∙ ap (behind xs) (sym (first (Some (kind, len)) e is)) ∙ h

pub done : (xs : List Lexeme) (bs : List ℕ) (total : Result (List Lexeme) ℕ) (at : ℕ) → length bs ≤ at → behind xs (scan 0 (at + 1) (drop at bs)) ≡ total → total ≡ Ok xs
done xs bs total at le h = sym h ∙ ap (behind xs) (at_drop_all (scan 0 (at + 1)) bs at le) ∙ ap (λ (zs : List Lexeme). Ok zs) (append-nil xs)

-- what `&bs[at..]` is
pub rest_is : (at : ℕ) (bs : List ℕ) → take (length bs - at) (drop at bs) ≡ drop at bs
rest_is at bs = ap (λ n. take n (drop at bs)) (sym (length-drop at bs)) ∙ take-length (drop at bs)
