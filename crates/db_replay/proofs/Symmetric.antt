-- Keys and link numbers are the same both ways.
use Rattle.std.proofs.Common.{◌≡◌, ℕ, ◌==◌, ◌&&◌, List, [], ◌∷◌, refl, ap, ◌∙◌, arith}
use Rattle.std.specs.Cmp.Lexicographic.{pointwise, nat_list_eq_equiv}
use Rattle.std.proofs.lemmas.Cmp.{int_eq_equiv}
use Rattle.std.proofs.lemmas.Bool.Decides.{nat_tests}
use Rattle.dl_base.specs.declared.value.LinkNo.{LinkNo}
use Rattle.dl_base.specs.declared.value.Value.{Value}
use Rattle.dl_base.specs.declared.value.Value.TheVariants as values
use Rattle.meaning_tables.specs.Fits.{same_key}
use Rattle.meaning_tables.specs.Links.{same_number}

key-symmetric : (a b : Value) → same_key a b ≡ same_key b a
key-symmetric values.Null values.Null = refl
key-symmetric values.Null (values.Int y) = refl
key-symmetric values.Null (values.Text y) = refl
key-symmetric values.Null (values.Link y) = refl
key-symmetric (values.Int x) values.Null = refl
key-symmetric (values.Int x) (values.Int y) = int_eq_equiv.symm x y
key-symmetric (values.Int x) (values.Text y) = refl
key-symmetric (values.Int x) (values.Link y) = refl
key-symmetric (values.Text x) values.Null = refl
key-symmetric (values.Text x) (values.Int y) = refl
key-symmetric (values.Text x) (values.Text y) = nat_list_eq_equiv.symm x y
key-symmetric (values.Text x) (values.Link y) = refl
key-symmetric (values.Link x) values.Null = refl
key-symmetric (values.Link x) (values.Int y) = refl
key-symmetric (values.Link x) (values.Text y) = refl
key-symmetric (values.Link x) (values.Link y) = refl

pub keys-symmetric : (xs ys : List Value) → pointwise same_key xs ys ≡ pointwise same_key ys xs
keys-symmetric [] [] = refl
keys-symmetric [] (y ∷ ys) = refl
keys-symmetric (x ∷ xs) [] = refl
keys-symmetric (x ∷ xs) (y ∷ ys) = ap (λ b. b && pointwise same_key xs ys) (key-symmetric x y) ∙ ap (λ b. same_key y x && b) (keys-symmetric xs ys)

turned : (m n : ℕ) → (m == n) ≡ (n == m)
turned m n = grind (arith, nat_tests)

pub numbers-symmetric : (a b : LinkNo) → same_number a b ≡ same_number b a
numbers-symmetric a b = ap (λ t. t && (a.k == b.k)) (turned a.tx b.tx) ∙ ap (λ t. (b.tx == a.tx) && t) (turned a.k b.k)
