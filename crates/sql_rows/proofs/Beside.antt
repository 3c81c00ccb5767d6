-- Rows that a change leaves as they were.
use Rattle.std.proofs.Common.{◌≡◌, ◌+◌, ◌++◌, ◌==◌, ℕ, Bool, true, false, cond, List, [], ◌∷◌, length, Option, Some, None, is_some, refl, sym, ap, ◌∙◌, subst, arith}
use Rattle.std.proofs.lemmas.Bool.{eq-eqb, eqb-true, or_parts}
use Rattle.std.proofs.lemmas.List.Folds.{list_any-append}
use Rattle.dl_base.specs.declared.value.Row.{Row}
use Rattle.meaning_tables.specs.Tables.{Rows, Tables, row_of, table_of, with_row, without_row}
use Rattle.sql_rows.specs.Beside.{AgreeBeside, AreAmong, RowsAgreeBeside, StayBetween, is_among}

-- a number that is another one's equal is no third one
apart : (n number m : ℕ) → (number == m) ≡ true → (n == number) ≡ false → (n == m) ≡ false
apart n number m is other = ap (λ (k : ℕ). n == k) (sym (eqb-true number m is)) ∙ other

-- a row that is set leaves those of other numbers
set_aside : (rows : List (ℕ × Row)) (number n : ℕ) (new : Row) → (n == number) ≡ false → row_of (with_row rows number new) n ≡ row_of rows n
set_aside [] number n new other = refl
set_aside (r ∷ rs) number n new other = by (number == r.0) refl (set_aside rs number n new other)
  where
    by : (b : Bool) → (number == r.0) ≡ b → row_of (with_row rs number new) n ≡ row_of rs n → row_of (cond b ((r.0, new) ∷ rs) (r ∷ with_row rs number new)) n ≡ cond (n == r.0) (Some r.1) (row_of rs n)
    by true is later = rw (apart n number r.0 is other) refl
    by false is later = ap (λ (found : Option Row). cond (n == r.0) (Some r.1) found) later

-- and so does one that goes
gone_aside : (rows : List (ℕ × Row)) (number n : ℕ) → (n == number) ≡ false → row_of (without_row rows number) n ≡ row_of rows n
gone_aside [] number n other = refl
gone_aside (r ∷ rs) number n other = by (number == r.0) refl (gone_aside rs number n other)
  where
    by : (b : Bool) → (number == r.0) ≡ b → row_of (without_row rs number) n ≡ row_of rs n → row_of (cond b rs (r ∷ without_row rs number)) n ≡ cond (n == r.0) (Some r.1) (row_of rs n)
    by true is later = rw (apart n number r.0 is other) refl
    by false is later = ap (λ (found : Option Row). cond (n == r.0) (Some r.1) found) later

either : (n : ℕ) (few more : List ℕ) → is_among n (few ++ more) ≡ false → (is_among n few ≡ false) × (is_among n more ≡ false)
either n few more none = or_parts (is_among n few) (is_among n more) (sym (list_any-append (λ (m : ℕ). n == m) few more) ∙ none)

last : (n : ℕ) (numbers : List ℕ) (number : ℕ) → is_among n (numbers ++ number ∷ []) ≡ false → (is_among n numbers ≡ false) × ((n == number) ≡ false)
last n numbers number none =
    let parts = either n numbers (number ∷ []) none in
    (parts.0, (or_parts (n == number) false parts.1).0)

pub same_beside : (numbers : List ℕ) (old new : List (ℕ × Row)) → new ≡ old → RowsAgreeBeside numbers old new
same_beside numbers old new same = λ n none. ap (λ (rows : List (ℕ × Row)). row_of rows n) same

-- one row more is set, or goes
pub one_set : (numbers : List ℕ) (old made after : List (ℕ × Row)) (number : ℕ) (row : Row) → after ≡ with_row made number row → RowsAgreeBeside numbers old made → RowsAgreeBeside (numbers ++ number ∷ []) old after
one_set numbers old made after number row set beside = λ n none.
    let parts = last n numbers number none in
    ap (λ (rows : List (ℕ × Row)). row_of rows n) set ∙ set_aside made number n row parts.1 ∙ beside n parts.0

pub one_gone : (numbers : List ℕ) (old made after : List (ℕ × Row)) (number : ℕ) → after ≡ without_row made number → RowsAgreeBeside numbers old made → RowsAgreeBeside (numbers ++ number ∷ []) old after
one_gone numbers old made after number gone beside = λ n none.
    let parts = last n numbers number none in
    ap (λ (rows : List (ℕ × Row)). row_of rows n) gone ∙ gone_aside made number n parts.1 ∙ beside n parts.0

pub push_length : {A : Type 0} (xs : List A) (x : A) → length (xs ++ x ∷ []) ≡ length xs + 1
push_length [] x = refl
push_length (y ∷ ys) x = omega (arith, push_length ys x)

-- rows are one fewer without one that is there
pub one_fewer : (rows : List (ℕ × Row)) (number : ℕ) → is_some (row_of rows number) ≡ true → length (without_row rows number) + 1 ≡ length rows
one_fewer [] number there = cc there
one_fewer (r ∷ rs) number there = by (number == r.0) there (one_fewer rs number)
  where
    by : (b : Bool) → is_some (cond b (Some r.1) (row_of rs number)) ≡ true → (is_some (row_of rs number) ≡ true → length (without_row rs number) + 1 ≡ length rs) → length (cond b rs (r ∷ without_row rs number)) + 1 ≡ length (r ∷ rs)
    by true there later = omega arith
    by false there later = omega (arith, later there)

-- of rows as they were, one alone is set, or goes
pub only_set : (numbers : List ℕ) (old after : List (ℕ × Row)) (number : ℕ) (row : Row) → numbers ≡ number ∷ [] → after ≡ with_row old number row → RowsAgreeBeside numbers old after
only_set numbers old after number row one set = subst (λ (ns : List ℕ). RowsAgreeBeside ns old after) (sym one) (one_set [] old old after number row set (same_beside [] old old refl))

pub only_gone : (numbers : List ℕ) (old after : List (ℕ × Row)) (number : ℕ) → numbers ≡ number ∷ [] → after ≡ without_row old number → RowsAgreeBeside numbers old after
only_gone numbers old after number one gone = subst (λ (ns : List ℕ). RowsAgreeBeside ns old after) (sym one) (one_gone [] old old after number gone (same_beside [] old old refl))

pub only_fewer : (numbers : List ℕ) (old after : List (ℕ × Row)) (number : ℕ) → numbers ≡ number ∷ [] → after ≡ without_row old number → is_some (row_of old number) ≡ true → length after + length numbers ≡ length old
only_fewer numbers old after number one gone there = omega (arith, ap (λ (ns : List ℕ). length ns) one, ap (λ (rows : List (ℕ × Row)). length rows) gone, one_fewer old number there)

-- a row that stands among others is there
pub is_there : (kept rest : List (ℕ × Row)) (number : ℕ) (row : Row) → is_some (row_of (kept ++ (number, row) ∷ rest) number) ≡ true
is_there [] rest number row = rw (eq-eqb number number refl) refl
is_there (r ∷ rs) rest number row = by (number == r.0) (is_there rs rest number row)
  where
    by : (b : Bool) → is_some (row_of (rs ++ (number, row) ∷ rest) number) ≡ true → is_some (cond b (Some r.1) (row_of (rs ++ (number, row) ∷ rest) number)) ≡ true
    by true later = refl
    by false later = later

-- The laws, of tables.

pub beside_more : (few more : List ℕ) (old new : Tables) → AreAmong few more → AgreeBeside few old new → AgreeBeside more old new
beside_more few more old new among agree = λ name before after was is n none. agree name before after was is n (among n none)

there_is : {P : Type 0} (found : Option Rows) → is_some found ≡ true → ((t : Rows) → found ≡ Some t → P) → P
there_is (Some t) there go = go t refl
there_is None there go = cc there

pub beside_both : (first second : List ℕ) (a b c : Tables) → StayBetween a b c → AgreeBeside first a b → AgreeBeside second b c → AgreeBeside (first ++ second) a c
beside_both first second a b c stay one two = λ name before after was is n none.
    there_is (table_of b name) (stay name (ap (λ (found : Option Rows). is_some found) was) (ap (λ (found : Option Rows). is_some found) is)) (λ t here.
    two name t after here is n (either n first second none).1 ∙ one name before t was here n (either n first second none).0)
