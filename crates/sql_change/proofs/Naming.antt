-- One name more of a list of columns.
use Rattle.std.proofs.Common.{◌≡◌, ◌+◌, ◌<◌, ◌++◌, ℕ, true, false, List, [], ◌∷◌, bytes_eq, get_or, length, reverse, take, Result, Ok, Err, refl, sym, ap, ◌∙◌, append_assoc}
use Rattle.std.specs.List.{list_any}
use Rattle.std.proofs.lemmas.List.{take_more}
use Rattle.dl_base.specs.declared.column.Column.{Column}
use Rattle.dl_base.specs.declared.sql_fault.SqlFault.{SqlFault}
use Rattle.dl_base.specs.declared.sql_fault.SqlFault.TheVariants as faults
use Rattle.meaning_sql.specs.Faults.{◌>>=◌, and_then}
use Rattle.meaning_statements.specs.Changing.{place_named, set_places}
use Rattle.sql_change.proofs.Reversed.{any_reversed, reversed_push}

-- the places so far, and those of later names behind them
abbrev pub placed : List Column → List ℕ → List (List ℕ) → List (List ℕ) → Result (List ℕ) SqlFault
placed columns places before later = and_then (set_places columns (reverse before) later) (λ ps. Ok (places ++ ps))

pub named_again : (columns : List Column) (places : List ℕ) (before : List (List ℕ)) (n : List ℕ) (ns : List (List ℕ)) (p : ℕ)
    → place_named n 0 columns ≡ Ok p → list_any (bytes_eq n) before ≡ true → placed columns places before (n ∷ ns) ≡ Err (faults.Ambiguous n)
named_again columns places before n ns p is stood = rw (is, any_reversed (bytes_eq n) before, stood) refl

behind : (places : List ℕ) (p : ℕ) (later : Result (List ℕ) SqlFault) → (later >>= (λ ps. Ok (p ∷ ps)) >>= λ ps. Ok (places ++ ps)) ≡ (later >>= λ ps. Ok ((places ++ p ∷ []) ++ ps))
behind places p (Ok ps) = ap (λ (xs : List ℕ). Ok xs) (sym (append_assoc places (p ∷ []) ps))
behind places p (Err e) = refl

pub one_named : (columns : List Column) (places : List ℕ) (before : List (List ℕ)) (n : List ℕ) (ns : List (List ℕ)) (p : ℕ)
    → place_named n 0 columns ≡ Ok p → list_any (bytes_eq n) before ≡ false → placed columns (places ++ p ∷ []) (before ++ n ∷ []) ns ≡ placed columns places before (n ∷ ns)
one_named columns places before n ns p is new =
    rw (reversed_push before n, is, any_reversed (bytes_eq n) before, new) (sym (behind places p (set_places columns (n ∷ reverse before) ns)))

-- the names that have stood, with the one that is looked at
pub taken : {A : Type 0} (items all : List A) (i : ℕ) (d : A) → items ≡ all → i < length items → d ≡ get_or items i d → take (i + 1) all ≡ take i all ++ d ∷ []
taken items all i d same within is = rw (sym same) (take_more items i d within ∙ ap (λ x. take i items ++ x ∷ []) (sym is))
