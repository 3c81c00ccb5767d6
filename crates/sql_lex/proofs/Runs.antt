-- A run of bytes that pass a test.
use Rattle.std.proofs.Common.{◌≡◌, ℕ, suc, ◌+◌, Bool, true, false, cond, List, [], ◌∷◌, ◌++◌, length, take, drop, refl, ap, ◌∙◌, arith, one-add}
use Rattle.std.specs.List.{prefix_len, list_all}
use Rattle.std.specs.Char.{is_ascii_digit}
use Rattle.std.proofs.lemmas.List.{length-take}
use Rattle.std.proofs.lemmas.List.Sums.{prefix_len-le-length}
use Rattle.sql_lex.specs.Spelling.{begins}
use Rattle.sql_lex.proofs.Bools.{and_left, and_right}

module _ (p : ℕ → Bool) where
  pub run_all : (bs : List ℕ) → list_all p (take (prefix_len p bs) bs) ≡ true
  run_all [] = refl
  run_all (b ∷ bs) = by_test (p b) refl (run_all bs)
    where
      by_test : (t : Bool) → p b ≡ t → list_all p (take (prefix_len p bs) bs) ≡ true → list_all p (take (cond t (1 + prefix_len p bs) 0) (b ∷ bs)) ≡ true
      by_test true e h = rw (one-add, e) h
      by_test false e h = refl

  pub run_ends : (bs : List ℕ) → begins p (drop (prefix_len p bs) bs) ≡ false
  run_ends [] = refl
  run_ends (b ∷ bs) = by_test (p b) refl (run_ends bs)
    where
      by_test : (t : Bool) → p b ≡ t → begins p (drop (prefix_len p bs) bs) ≡ false → begins p (drop (cond t (1 + prefix_len p bs) 0) (b ∷ bs)) ≡ false
      by_test true e h = rw one-add h
      by_test false e h = e

  pub run_some : (b : ℕ) (bs : List ℕ) → p b ≡ true → prefix_len p (b ∷ bs) ≡ suc (prefix_len p bs)
  run_some b bs e = rw (e, one-add) refl

  pub run_is : (body rest : List ℕ) → list_all p body ≡ true → begins p rest ≡ false → prefix_len p (body ++ rest) ≡ length body
  run_is [] [] all ends = refl
  run_is [] (c ∷ rest) all ends = rw ends refl
  run_is (b ∷ body) rest all ends = run_some b (body ++ rest) (and_left (p b) (list_all p body) all) ∙ ap suc (run_is body rest (and_right (p b) (list_all p body) all) ends)

pub run_len : (p : ℕ → Bool) (bs : List ℕ) → length (take (prefix_len p bs) bs) ≡ prefix_len p bs
run_len p bs = omega (arith, length-take (prefix_len p bs) bs, prefix_len-le-length p bs)

pub begins_run : (p q : ℕ → Bool) (b : ℕ) (bs : List ℕ) → p b ≡ true → q b ≡ true → begins q (take (prefix_len p (b ∷ bs)) (b ∷ bs)) ≡ true
begins_run p q b bs e h = ap (λ n. begins q (take n (b ∷ bs))) (run_some p b bs e) ∙ h

pub run_all_digits : (bs : List ℕ) → list_all is_ascii_digit (take (prefix_len is_ascii_digit bs) bs) ≡ true
run_all_digits bs = run_all is_ascii_digit bs
