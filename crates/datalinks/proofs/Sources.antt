-- Takes that follow one another.
use Rattle.std.proofs.Common.{◌≡◌, ℕ, List, [], ◌++◌, refl, sym, ap, ◌∙◌, append_assoc, Option, Some}
use Rattle.std.proofs.lemmas.List.{append-nil}
use Rattle.dl_base.specs.Sources.{Took}
use Rattle.datalinks.specs.Script.{IsWhole}

pub took_none : (o : Option (List ℕ)) → Took [] o o
took_none o left is = (left, is, refl)

pub took_then : (a b : List ℕ) (o m n : Option (List ℕ)) → Took a o m → Took b m n → Took (a ++ b) o n
took_then a b o m n first second left is =
    let f = first left is in
    let s = second f.0 f.1 in
    (s.0, s.1, f.2 ∙ ap (λ (l : List ℕ). a ++ l) s.2 ∙ sym (append_assoc a b s.0))

-- at the end nothing is left
pub took_all : (a b : List ℕ) (o m n : Option (List ℕ)) → Took a o m → Took b m n → b ≡ [] → ((left : List ℕ) → m ≡ Some left → left ≡ []) → IsWhole a o n
took_all a b o m n first second none ended = record {
  all = λ left is. let f = first left is in sym (f.2 ∙ ap (λ (l : List ℕ). a ++ l) (ended f.0 f.1) ∙ append-nil a);
  ended = λ left is.
      let f = first left is in
      let s = second f.0 f.1 in
      s.1 ∙ ap (λ (l : List ℕ). Some l) (sym (s.2 ∙ ap (λ (l : List ℕ). l ++ s.0) none) ∙ ended f.0 f.1);
}
