-- Touched rows cover what a copy differs in.
use Rattle.std.proofs.Common.{◌≡◌, ℕ, ◌&&◌, List, [], Bool, true, false, cond, Some, bytes_eq, refl, sym, ◌∙◌, ap}
use Rattle.meaning_merge.proofs.Numbers.{none}
use Rattle.meaning_tables.specs.Tables.{Rows, Tables, row_of}
use Rattle.db_changes.specs.Touched.{Touched, Adds, Covers, Leaves, among, numbers_of}

some_same : (x y : Rows) → Some x ≡ Some y → x ≡ y
some_same x y e = cc

pub covers-itself : (touched : Touched) (base : Tables) → Covers touched base base
covers-itself touched base = record { rows = λ name b t at_b at_t old n out. ap (λ (x : Rows). row_of x.rows n) (some_same t b (sym at_t ∙ at_b)) }

pub covers-more : (touched more : Touched) (name numbers : List ℕ) (base copy : Tables) → Covers touched base copy → Adds name numbers touched more → Covers more base copy
covers-more touched more name numbers base copy covers adds = record {
  rows = λ other b t at_b at_t old n out. covers.rows other b t at_b at_t old n (none (bytes_eq name other && among numbers n) (among (numbers_of touched other) n) (sym (adds other n) ∙ out)).1;
}

outside : (b : Bool) (numbers : List ℕ) (n : ℕ) → (b && among numbers n) ≡ false → among (cond b numbers []) n ≡ false
outside true numbers n e = e
outside false numbers n e = refl

pub covers-change : (touched more : Touched) (name numbers : List ℕ) (base before after : Tables) → Covers touched base before → Leaves name numbers before after → Adds name numbers touched more → Covers more base after
covers-change touched more name numbers base before after covers leaves adds = record {
  rows = λ other b t at_b at_t old n out.
      let stood = leaves.stood other t at_t old in
      let both = none (bytes_eq name other && among numbers n) (among (numbers_of touched other) n) (sym (adds other n) ∙ out) in
      leaves.rows other stood.0 t stood.1 at_t old n (outside (bytes_eq name other) numbers n both.0) ∙ covers.rows other b stood.0 at_b stood.1 stood.2 n both.1;
}
