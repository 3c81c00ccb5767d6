-- Laws of readers: what is read is in the language, what is in the language is read, and a refusal depends on the terminals up to it.
use Rattle.std.proofs.Common.{◌≡◌, ℕ, zero, suc, ◌+◌, ◌≤◌, Bool, true, false, ◌&&◌, cond, eqb, List, [], ◌∷◌, ◌++◌, length, drop, Option, Some, None, Result, Ok, Err, ◌⊎◌, inl, inr, refl, sym, ap, ◌∙◌, subst, arith, rules, append_assoc, length-append}
use Rattle.std.specs.Prelude.{slice_get}
use Rattle.std.proofs.lemmas.List.{drop-drop, drop_at}
use Rattle.std.proofs.lemmas.Bool.{eqb-true, eq-eqb}
use denote.Enum.Bare.{same_true, true_same}
use Rattle.dl_base.specs.Name.{name_test}
use Rattle.sql_grammar.specs.contracts.symbol.Symbol.{the_type}
use Rattle.sql_grammar.specs.declared.symbol.Symbol.{Symbol}
use Rattle.sql_grammar.specs.declared.token.Token.{Token}
use Rattle.sql_grammar.specs.declared.token.Token.TheVariants as token
use Rattle.sql_grammar.specs.declared.token.LinkWord.{LinkWord}
use Rattle.sql_grammar.specs.declared.token.LinkWord.TheVariants as link
use Rattle.sql_grammar.specs.declared.terminal.Terminal.{Terminal}
use Rattle.sql_grammar.specs.declared.terminal.Terminal.TheVariants.{Fixed, Word}
use Rattle.sql_grammar.specs.Words.{bytes_of, same_bytes}
use Rattle.sql_grammar.specs.Proper.{IsProper, AreProper, reserved_symbol}
use Rattle.sql_grammar.specs.Lang.{Lang, terminal_of, Just, After, Then, As, Or, Maybe, One, Before}
use Rattle.sql_grammar.specs.Readers.{Rises, Reader, ◌read_then◌, good, is_token, one_or, taken_at, one_at, maybe_taken_at, maybe_one_at, just_at, token_at, after_at, branch_at, map_at, beside, then_at, maybe_at, before_at}

-- where reading stopped
abbrev pub place_of : {A : Type 0} → Result (A × ℕ) ℕ → ℕ
place_of (Ok p) = p.1
place_of (Err k) = k

-- the same terminals up to a place
abbrev pub Same : ℕ → List Terminal → List Terminal → Type 0
Same k ws vs = (j : ℕ) → j ≤ k → slice_get ws j ≡ slice_get vs j

-- a value was read
pub record Took {A : Type 0} (L : Lang A) (ws : List Terminal) (i : ℕ) (x : A) (k : ℕ) : Type 0 where
  pub here : List Terminal
  pub rest : List Terminal
  pub parts : drop i ws ≡ here ++ rest
  pub place : k ≡ i + length here
  pub says : L x here

-- the terminals up to a place begin what the language has
pub record Begins {A : Type 0} (L : Lang A) (ws : List Terminal) (i k : ℕ) : Type 0 where
  pub here : List Terminal
  pub rest : List Terminal
  pub more : List Terminal
  pub value : A
  pub parts : drop i ws ≡ here ++ rest
  pub place : k ≡ i + length here
  pub says : L value (here ++ more)
  pub proper : AreProper more

-- the language has something
pub record Has {A : Type 0} (L : Lang A) : Type 0 where
  pub value : A
  pub text : List Terminal
  pub says : L value text
  pub proper : AreProper text

-- A refusal at the very place where reading begins says nothing more.
abbrev pub Told : {A : Type 0} → Lang A → List Terminal → ℕ → Result (A × ℕ) ℕ → Type 0
Told L ws i (Ok p) = Took L ws i p.0 p.1
Told L ws i (Err k) = (k ≡ i) ⊎ Begins L ws i k

pub record Reads {A : Type 0} (R : Reader A) (L : Lang A) (E : List Terminal → Type 0) : Type 0 where
  pub told : (ws : List Terminal) (i : ℕ) → Told L ws i (R ws i)
  pub reads : (ws : List Terminal) (i : ℕ) (x : A) (here rest : List Terminal) → drop i ws ≡ here ++ rest → L x here → E rest → R ws i ≡ Ok (x, i + length here)
  pub local : (ws vs : List Terminal) (i k : ℕ) → place_of (R ws i) ≡ k → Same k ws vs → R vs i ≡ R ws i

-- ---- proper terminals

pub proper_append : (a b : List Terminal) → AreProper a → AreProper b → AreProper (a ++ b)
proper_append [] b h k = k
proper_append (w ∷ a) b h k = (h.0, proper_append a b h.1 k)

word_proper : (w : LinkWord) → IsProper (Word (bytes_of w))
unfolding name_test reserved_symbol
word_proper link.Linktype = ((bytes_of link.Linktype, (refl, refl)), refl)
word_proper link.Url = ((bytes_of link.Url, (refl, refl)), refl)
word_proper link.No = ((bytes_of link.No, (refl, refl)), refl)
word_proper link.Link = ((bytes_of link.Link, (refl, refl)), refl)
word_proper link.Control = ((bytes_of link.Control, (refl, refl)), refl)
word_proper link.File = ((bytes_of link.File, (refl, refl)), refl)
word_proper link.Mode = ((bytes_of link.Mode, (refl, refl)), refl)
word_proper link.Db2options = ((bytes_of link.Db2options, (refl, refl)), refl)
word_proper link.Integrity = ((bytes_of link.Integrity, (refl, refl)), refl)
word_proper link.All = ((bytes_of link.All, (refl, refl)), refl)
word_proper link.Selective = ((bytes_of link.Selective, (refl, refl)), refl)
word_proper link.None = ((bytes_of link.None, (refl, refl)), refl)
word_proper link.Read = ((bytes_of link.Read, (refl, refl)), refl)
word_proper link.Permission = ((bytes_of link.Permission, (refl, refl)), refl)
word_proper link.Fs = ((bytes_of link.Fs, (refl, refl)), refl)
word_proper link.Db = ((bytes_of link.Db, (refl, refl)), refl)
word_proper link.Write = ((bytes_of link.Write, (refl, refl)), refl)
word_proper link.Blocked = ((bytes_of link.Blocked, (refl, refl)), refl)
word_proper link.Admin = ((bytes_of link.Admin, (refl, refl)), refl)
word_proper link.Recovery = ((bytes_of link.Recovery, (refl, refl)), refl)
word_proper link.Yes = ((bytes_of link.Yes, (refl, refl)), refl)
word_proper link.Unlink = ((bytes_of link.Unlink, (refl, refl)), refl)
word_proper link.Restore = ((bytes_of link.Restore, (refl, refl)), refl)

pub token_proper : (t : Token) → IsProper (terminal_of t)
token_proper (token.Symbol m) = tt
token_proper (token.Word w) = word_proper w

-- ---- the terminal at a place

pub get_drop : (ws : List Terminal) (i : ℕ) (w : Terminal) → slice_get ws i ≡ Some w → drop i ws ≡ w ∷ drop (suc i) ws
get_drop [] zero w e = absurd cc
get_drop [] (suc i) w e = absurd cc
get_drop (x ∷ ws) zero w e = let same : x ≡ w = cc in ap (λ (y : Terminal). y ∷ ws) same
get_drop (x ∷ ws) (suc i) w e = get_drop ws i w e

pub head_drop : (ws : List Terminal) (i : ℕ) → slice_get (drop i ws) 0 ≡ slice_get ws i
head_drop [] zero = refl
head_drop [] (suc i) = refl
head_drop (x ∷ ws) zero = refl
head_drop (x ∷ ws) (suc i) = head_drop ws i

pub drop_tail : (ws : List Terminal) (i : ℕ) (w : Terminal) (rest : List Terminal) → drop i ws ≡ w ∷ rest → drop (suc i) ws ≡ rest
drop_tail [] zero w rest e = absurd cc
drop_tail [] (suc i) w rest e = absurd cc
drop_tail (x ∷ ws) zero w rest e = cc
drop_tail (x ∷ ws) (suc i) w rest e = drop_tail ws i w rest e

-- the terminal at a place is the first of what stands there
pub get_first : (ws : List Terminal) (i : ℕ) (w : Terminal) (rest : List Terminal) → drop i ws ≡ w ∷ rest → slice_get ws i ≡ Some w
get_first ws i w rest e = sym (head_drop ws i) ∙ ap (λ (x : List Terminal). slice_get x 0) e

same_bytes_is : (a b : List ℕ) → same_bytes a b ≡ true → a ≡ b
same_bytes_is [] [] q = refl
same_bytes_is [] (y ∷ b) q = absurd cc
same_bytes_is (x ∷ a) [] q = absurd cc
same_bytes_is (x ∷ a) (y ∷ b) q = by_test (eqb x y) refl (λ r. same_bytes_is a b r)
  where
    by_test : (c : Bool) → eqb x y ≡ c → (same_bytes a b ≡ true → a ≡ b) → x ∷ a ≡ y ∷ b
    by_test true same ih = let rest : same_bytes a b ≡ true = sym (ap (λ c. c && same_bytes a b) same) ∙ q in (λ i. eqb-true x y same i ∷ ih rest i)
    by_test false other ih = absurd (let r : false ≡ true = sym (ap (λ c. c && same_bytes a b) other) ∙ q in cc)

same_bytes_same : (a : List ℕ) → same_bytes a a ≡ true
same_bytes_same [] = refl
same_bytes_same (x ∷ a) = rw (eq-eqb x x refl, same_bytes_same a) refl

token_is : (t : Token) (o : Option Terminal) → is_token t o ≡ true → o ≡ Some (terminal_of t)
token_is (token.Symbol m) (Some (Fixed k)) e = ap (λ (x : Symbol). Some (Fixed x)) (same_true the_type (search rules) k m e)
token_is (token.Symbol m) (Some (_)) e = absurd cc
token_is (token.Symbol m) None e = absurd cc
token_is (token.Word w) (Some (Word x)) e = ap (λ (y : List ℕ). Some (Word y)) (same_bytes_is x (bytes_of w) e)
token_is (token.Word w) (Some (_)) e = absurd cc
token_is (token.Word w) None e = absurd cc

pub is_token_same : (t : Token) → is_token t (Some (terminal_of t)) ≡ true
is_token_same (token.Symbol m) = true_same the_type m m refl
is_token_same (token.Word w) = same_bytes_same (bytes_of w)

-- the token stands at the place
pub token_here : (t : Token) (ws : List Terminal) (i : ℕ) → is_token t (slice_get ws i) ≡ true → drop i ws ≡ terminal_of t ∷ drop (suc i) ws
token_here t ws i e = get_drop ws i (terminal_of t) (token_is t (slice_get ws i) e)

pub here_token : (t : Token) (ws : List Terminal) (i : ℕ) (rest : List Terminal) → drop i ws ≡ terminal_of t ∷ rest → is_token t (slice_get ws i) ≡ true
here_token t ws i rest e = ap (is_token t) (get_first ws i (terminal_of t) rest e) ∙ is_token_same t

-- the terminals do not go on with the token
abbrev pub Without : Token → List Terminal → Type 0
Without t rest = is_token t (slice_get rest 0) ≡ false

pub without_at : (t : Token) (ws : List Terminal) (i : ℕ) (rest : List Terminal) → drop i ws ≡ rest → Without t rest → is_token t (slice_get ws i) ≡ false
without_at t ws i rest e h = ap (is_token t) (sym (head_drop ws i) ∙ ap (λ (x : List Terminal). slice_get x 0) e) ∙ h

abbrev pub Any : List Terminal → Type 0
Any rest = Unit {0}

-- what follows what was read
pub drop_read : (ws : List Terminal) (i : ℕ) (a rest : List Terminal) → drop i ws ≡ a ++ rest → drop (i + length a) ws ≡ rest
drop_read ws i a rest e = sym (drop-drop (length a) i ws) ∙ ap (drop (length a)) e ∙ drop_at a rest (length a) refl

pub rises : {A : Type 0} (L : Lang A) (ws : List Terminal) (i : ℕ) (r : Result (A × ℕ) ℕ) → Told L ws i r → i ≤ place_of r
rises L ws i (Ok p) t = omega (arith, t.place)
rises L ws i (Err k) (inl e) = omega (arith, e)
rises L ws i (Err k) (inr b) = omega (arith, b.place)

pub cond_true : {A : Type 0} (b : Bool) (x y : A) → b ≡ true → cond b x y ≡ x
cond_true b x y e = rw e refl

pub cond_false : {A : Type 0} (b : Bool) (x y : A) → b ≡ false → cond b x y ≡ y
cond_false b x y e = rw e refl

-- ---- one reader after another

module _ {A B : Type 0} (R : Reader A) (S : Reader B) (L : Lang A) (M : Lang B) (E F : List Terminal → Type 0) where
  second_told : (ws : List Terminal) (i : ℕ) (x : A) (k : ℕ) (r : Result (B × ℕ) ℕ) → Has M → Took L ws i x k → Told M ws k r → Told (Then L M) ws i (beside x r)
  second_told ws i x k (Ok q) has t u =
      let mid : drop k ws ≡ t.rest = ap (λ n. drop n ws) t.place ∙ drop_read ws i t.here t.rest t.parts in
      let rest : t.rest ≡ u.here ++ u.rest = sym mid ∙ u.parts in
      record {
        here = t.here ++ u.here;
        rest = u.rest;
        parts = t.parts ∙ ap (λ (y : List Terminal). t.here ++ y) rest ∙ sym (append_assoc t.here u.here u.rest);
        place = omega (arith, t.place, u.place, length-append t.here u.here);
        says = (t.here, u.here, refl, t.says, u.says);
      }
  second_told ws i x k (Err e) has t (inl at) =
      inr (record { here = t.here; rest = t.rest; more = has.text; value = (x, has.value); parts = t.parts; place = omega (arith, at, t.place); says = (t.here, has.text, refl, t.says, has.says); proper = has.proper })
  second_told ws i x k (Err e) has t (inr b) =
      let mid : drop k ws ≡ t.rest = ap (λ n. drop n ws) t.place ∙ drop_read ws i t.here t.rest t.parts in
      let rest : t.rest ≡ b.here ++ b.rest = sym mid ∙ b.parts in
      inr (record {
        here = t.here ++ b.here;
        rest = b.rest;
        more = b.more;
        value = (x, b.value);
        parts = t.parts ∙ ap (λ (y : List Terminal). t.here ++ y) rest ∙ sym (append_assoc t.here b.here b.rest);
        place = omega (arith, t.place, b.place, length-append t.here b.here);
        says = (t.here, b.here ++ b.more, append_assoc t.here b.here b.more, t.says, b.says);
        proper = b.proper;
      })

  first_told : (ws : List Terminal) (i : ℕ) (r : Result (A × ℕ) ℕ) → Has M → Reads S M F → Told L ws i r → Told (Then L M) ws i (r read_then λ p. beside p.0 (S ws p.1))
  first_told ws i (Ok p) has s t = second_told ws i p.0 p.1 (S ws p.1) has t (s.told ws p.1)
  first_told ws i (Err k) has s (inl e) = inl e
  first_told ws i (Err k) has s (inr b) =
      inr (record { here = b.here; rest = b.rest; more = b.more ++ has.text; value = (b.value, has.value); parts = b.parts; place = b.place; says = (b.here ++ b.more, has.text, sym (append_assoc b.here b.more has.text), b.says, has.says); proper = proper_append b.more has.text b.proper has.proper })

  then_local : (ws vs : List Terminal) (k : ℕ) (r : Result (A × ℕ) ℕ) → Reads S M F → place_of (r read_then λ p. beside p.0 (S ws p.1)) ≡ k → Same k ws vs → (r read_then λ p. beside p.0 (S vs p.1)) ≡ (r read_then λ p. beside p.0 (S ws p.1))
  then_local ws vs k (Ok p) s at same = ap (λ (r : Result (B × ℕ) ℕ). beside p.0 r) (s.local ws vs p.1 k (there (S ws p.1) at) same)
    where
      there : (r : Result (B × ℕ) ℕ) → place_of (beside p.0 r) ≡ k → place_of r ≡ k
      there (Ok q) e = e
      there (Err n) e = e
  then_local ws vs k (Err n) s at same = refl

  -- the first stops at or before the place where both stop
  then_rises : (ws : List Terminal) (r : Result (A × ℕ) ℕ) → Reads S M F → place_of r ≤ place_of (r read_then λ p. beside p.0 (S ws p.1))
  then_rises ws (Ok p) s = there (S ws p.1) (rises M ws p.1 (S ws p.1) (s.told ws p.1))
    where
      there : (r : Result (B × ℕ) ℕ) → p.1 ≤ place_of r → p.1 ≤ place_of (beside p.0 r)
      there (Ok q) e = e
      there (Err n) e = e
  then_rises ws (Err n) s = omega arith

  then_law : Reads R L E → Reads S M F → Has M → ((y : B) (b rest : List Terminal) → M y b → F rest → E (b ++ rest)) → Reads (then_at R S) (Then L M) F
  then_law r s has fits = record {
    told = λ ws i. first_told ws i (R ws i) has s (r.told ws i);
    reads = λ ws i x here rest parts says ends.
        let a = says.0 in let b = says.1 in
        let parts' : drop i ws ≡ a ++ (b ++ rest) = parts ∙ ap (λ (y : List Terminal). y ++ rest) says.2 ∙ append_assoc a b rest in
        let one = r.reads ws i x.0 a (b ++ rest) parts' says.3 (fits x.1 b rest says.4 ends) in
        let two = s.reads ws (i + length a) x.1 b rest (drop_read ws i a (b ++ rest) parts') says.4 ends in
        let len : i + length a + length b ≡ i + length here = omega (arith, ap length says.2, length-append a b) in
        ap (λ (y : Result (A × ℕ) ℕ). y read_then λ p. beside p.0 (S ws p.1)) one ∙ ap (λ (y : Result (B × ℕ) ℕ). beside x.0 y) two ∙ ap (λ n. good (x.0, x.1) n) len;
    local = λ ws vs i k at same.
        let le : place_of (R ws i) ≤ k = omega (arith, then_rises ws (R ws i) s, at) in
        let one = r.local ws vs i (place_of (R ws i)) refl (λ j h. same j (omega arith)) in
        ap (λ (y : Result (A × ℕ) ℕ). y read_then λ p. beside p.0 (S vs p.1)) one ∙ then_local ws vs k (R ws i) s at same;
  }

pub reads_then : {A B : Type 0} {R : Reader A} {S : Reader B} {L : Lang A} {M : Lang B} {E F : List Terminal → Type 0} → Reads R L E → Reads S M F → Has M → ((y : B) (b rest : List Terminal) → M y b → F rest → E (b ++ rest)) → Reads (then_at R S) (Then L M) F
reads_then {R = R} {S = S} {L = L} {M = M} {E = E} {F = F} r s has fits = then_law R S L M E F r s has fits

-- ---- another meaning

module _ {A B : Type 0} (f : A → B) (R : Reader A) (L : Lang A) (E : List Terminal → Type 0) where
  map_told : (ws : List Terminal) (i : ℕ) (r : Result (A × ℕ) ℕ) → Told L ws i r → Told (As f L) ws i (r read_then λ p. Ok (f p.0, p.1))
  map_told ws i (Ok p) t = record { here = t.here; rest = t.rest; parts = t.parts; place = t.place; says = (p.0, refl, t.says) }
  map_told ws i (Err k) (inl e) = inl e
  map_told ws i (Err k) (inr b) = inr (record { here = b.here; rest = b.rest; more = b.more; value = f b.value; parts = b.parts; place = b.place; says = (b.value, refl, b.says); proper = b.proper })

  map_place : (r : Result (A × ℕ) ℕ) → place_of (r read_then λ p. good (f p.0) p.1) ≡ place_of r
  map_place (Ok p) = refl
  map_place (Err k) = refl

  map_law : Reads R L E → Reads (map_at f R) (As f L) E
  map_law r = record {
    told = λ ws i. map_told ws i (R ws i) (r.told ws i);
    reads = λ ws i x here rest parts says ends. ap (λ (y : Result (A × ℕ) ℕ). y read_then λ p. good (f p.0) p.1) (r.reads ws i says.0 here rest parts says.2 ends) ∙ ap (λ y. good y (i + length here)) says.1;
    local = λ ws vs i k at same. ap (λ (y : Result (A × ℕ) ℕ). y read_then λ p. good (f p.0) p.1) (r.local ws vs i k (sym (map_place (R ws i)) ∙ at) same);
  }

pub reads_map : {A B : Type 0} (f : A → B) {R : Reader A} {L : Lang A} {E : List Terminal → Type 0} → Reads R L E → Reads (map_at f R) (As f L) E
reads_map f {R = R} {L = L} {E = E} r = map_law f R L E r

-- ---- what a token begins, or else the rest

module _ {A : Type 0} (t : Token) (L : Lang A) where
  operand_symbol_told : (ws : List Terminal) (i : ℕ) (r : Result (A × ℕ) ℕ) → Has L → drop i ws ≡ terminal_of t ∷ drop (suc i) ws → Told L ws (suc i) r → Told (After t L) ws i r
  operand_symbol_told ws i (Ok p) has e u = record { here = terminal_of t ∷ u.here; rest = u.rest; parts = e ∙ ap (λ (y : List Terminal). terminal_of t ∷ y) u.parts; place = omega (arith, u.place); says = (u.here, refl, u.says) }
  operand_symbol_told ws i (Err k) has e (inl at) = inr (record { here = terminal_of t ∷ []; rest = drop (suc i) ws; more = has.text; value = has.value; parts = e; place = omega (arith, at); says = (has.text, refl, has.says); proper = has.proper })
  operand_symbol_told ws i (Err k) has e (inr b) = inr (record { here = terminal_of t ∷ b.here; rest = b.rest; more = b.more; value = b.value; parts = e ∙ ap (λ (y : List Terminal). terminal_of t ∷ y) b.parts; place = omega (arith, b.place); says = (b.here ++ b.more, refl, b.says); proper = b.proper })

-- what is in the language does not begin with the token, nor does what may follow it
abbrev pub Apart : {A : Type 0} → Token → Lang A → (List Terminal → Type 0) → Type 0
Apart {A} t M E = (x : A) (here rest : List Terminal) → M x here → E rest → Without t (here ++ rest)

module _ {A : Type 0} (t : Token) (R S : Reader A) (L M : Lang A) (E : List Terminal → Type 0) where
  branch_told : (b : Bool) (ws : List Terminal) (i : ℕ) → is_token t (slice_get ws i) ≡ b → Has L → Reads R L E → Reads S M E → Told (Or (After t L) M) ws i (cond b (R ws (suc i)) (S ws i))
  branch_told true ws i e has r s = left (R ws (suc i)) (operand_symbol_told t L ws i (R ws (suc i)) has (token_here t ws i e) (r.told ws (suc i)))
    where
      left : (q : Result (A × ℕ) ℕ) → Told (After t L) ws i q → Told (Or (After t L) M) ws i q
      left (Ok p) u = record { here = u.here; rest = u.rest; parts = u.parts; place = u.place; says = inl u.says }
      left (Err k) (inl e) = inl e
      left (Err k) (inr b) = inr (record { here = b.here; rest = b.rest; more = b.more; value = b.value; parts = b.parts; place = b.place; says = inl b.says; proper = b.proper })
  branch_told false ws i e has r s = right (S ws i) (s.told ws i)
    where
      right : (q : Result (A × ℕ) ℕ) → Told M ws i q → Told (Or (After t L) M) ws i q
      right (Ok p) u = record { here = u.here; rest = u.rest; parts = u.parts; place = u.place; says = inr u.says }
      right (Err k) (inl e) = inl e
      right (Err k) (inr b) = inr (record { here = b.here; rest = b.rest; more = b.more; value = b.value; parts = b.parts; place = b.place; says = inr b.says; proper = b.proper })

  branch_reads : (ws : List Terminal) (i : ℕ) (x : A) (here rest : List Terminal) → Reads R L E → Reads S M E → Apart t M E → drop i ws ≡ here ++ rest → After t L x here ⊎ M x here → E rest → branch_at t R S ws i ≡ Ok (x, i + length here)
  branch_reads ws i x here rest r s apart parts (inl (tail, e, says)) ends =
      let parts' : drop i ws ≡ terminal_of t ∷ (tail ++ rest) = parts ∙ ap (λ (y : List Terminal). y ++ rest) e in
      let len : suc i + length tail ≡ i + length here = omega (arith, ap length e) in
      cond_true (is_token t (slice_get ws i)) _ _ (here_token t ws i (tail ++ rest) parts') ∙ r.reads ws (suc i) x tail rest (drop_tail ws i (terminal_of t) (tail ++ rest) parts') says ends ∙ ap (λ n. good x n) len
  branch_reads ws i x here rest r s apart parts (inr says) ends =
      cond_false (is_token t (slice_get ws i)) _ _ (without_at t ws i (here ++ rest) parts (apart x here rest says ends)) ∙ s.reads ws i x here rest parts says ends

  branch_local : (b : Bool) (ws vs : List Terminal) (i k : ℕ) → Reads R L E → Reads S M E → Told (Or (After t L) M) ws i (cond b (R ws (suc i)) (S ws i)) → place_of (cond b (R ws (suc i)) (S ws i)) ≡ k → Same k ws vs → is_token t (slice_get ws i) ≡ b → branch_at t R S vs i ≡ cond b (R ws (suc i)) (S ws i)
  branch_local true ws vs i k r s u at same e =
      let le : i ≤ k = omega (arith, rises (Or (After t L) M) ws i (R ws (suc i)) u, at) in
      cond_true (is_token t (slice_get vs i)) _ _ (ap (is_token t) (sym (same i le)) ∙ e) ∙ r.local ws vs (suc i) k at same
  branch_local false ws vs i k r s u at same e =
      let le : i ≤ k = omega (arith, rises (Or (After t L) M) ws i (S ws i) u, at) in
      cond_false (is_token t (slice_get vs i)) _ _ (ap (is_token t) (sym (same i le)) ∙ e) ∙ s.local ws vs i k at same

  branch_law : Has L → Reads R L E → Reads S M E → Apart t M E → Reads (branch_at t R S) (Or (After t L) M) E
  branch_law has r s apart = record {
    told = λ ws i. branch_told (is_token t (slice_get ws i)) ws i refl has r s;
    reads = λ ws i x here rest parts says ends. branch_reads ws i x here rest r s apart parts says ends;
    local = λ ws vs i k at same. let b = is_token t (slice_get ws i) in branch_local b ws vs i k r s (branch_told b ws i refl has r s) at same refl;
  }

pub reads_branch : {A : Type 0} (t : Token) {R S : Reader A} {L M : Lang A} {E : List Terminal → Type 0} → Has L → Reads R L E → Reads S M E → Apart t M E → Reads (branch_at t R S) (Or (After t L) M) E
reads_branch t {R = R} {S = S} {L = L} {M = M} {E = E} has r s apart = branch_law t R S L M E has r s apart

pub apart_after : {A : Type 0} (t u : Token) (L : Lang A) (E : List Terminal → Type 0) → is_token t (Some (terminal_of u)) ≡ false → Apart t (After u L) E
apart_after t u L E other x here rest says ends = ap (λ (y : List Terminal). is_token t (slice_get (y ++ rest) 0)) says.1 ∙ other

pub apart_or : {A : Type 0} (t : Token) (L M : Lang A) (E : List Terminal → Type 0) → Apart t L E → Apart t M E → Apart t (Or L M) E
apart_or t L M E a b x here rest (inl says) ends = a x here rest says ends
apart_or t L M E a b x here rest (inr says) ends = b x here rest says ends

pub apart_just : {A : Type 0} (t : Token) (y : A) (E : List Terminal → Type 0) → ((rest : List Terminal) → E rest → Without t rest) → Apart t (Just y) E
apart_just t y E h x here rest says ends = ap (λ (z : List Terminal). is_token t (slice_get (z ++ rest) 0)) says.1 ∙ h rest ends

-- ---- the same language, and more that may follow

pub reads_same : {A : Type 0} {R : Reader A} (L M : Lang A) {E : List Terminal → Type 0} → ((x : A) (ws : List Terminal) → L x ws → M x ws) → ((x : A) (ws : List Terminal) → M x ws → L x ws) → Reads R L E → Reads R M E
reads_same {A} {R} L M {E} to back r = record {
  told = λ ws i. over ws i (R ws i) (r.told ws i);
  reads = λ ws i x here rest parts says ends. r.reads ws i x here rest parts (back x here says) ends;
  local = r.local;
}
  where
    over : (ws : List Terminal) (i : ℕ) (q : Result (A × ℕ) ℕ) → Told L ws i q → Told M ws i q
    over ws i (Ok p) t = record { here = t.here; rest = t.rest; parts = t.parts; place = t.place; says = to p.0 t.here t.says }
    over ws i (Err k) (inl e) = inl e
    over ws i (Err k) (inr b) = inr (record { here = b.here; rest = b.rest; more = b.more; value = b.value; parts = b.parts; place = b.place; says = to b.value (b.here ++ b.more) b.says; proper = b.proper })

pub reads_before : {A : Type 0} {R : Reader A} {L : Lang A} {E : List Terminal → Type 0} (F : List Terminal → Type 0) → ((rest : List Terminal) → F rest → E rest) → Reads R L E → Reads R L F
reads_before F f r = record { told = r.told; reads = λ ws i x here rest parts says ends. r.reads ws i x here rest parts says (f rest ends); local = r.local }

-- ---- nothing at all, and a token

abbrev fail_at : {A : Type 0} → Reader A
fail_at ws i = Err i

abbrev Nothing : {A : Type 0} → Lang A
Nothing x ws = ⊥

reads_fail : {A : Type 0} (E : List Terminal → Type 0) → Reads (fail_at {A = A}) Nothing E
reads_fail E = record { told = λ ws i. inl refl; reads = λ ws i x here rest parts says ends. absurd says; local = λ ws vs i k at same. refl }

-- a reader that gives the same
reads_equal : {A : Type 0} (R S : Reader A) {L : Lang A} {E : List Terminal → Type 0} → ((ws : List Terminal) (i : ℕ) → R ws i ≡ S ws i) → Reads R L E → Reads S L E
reads_equal R S {L} {E} same r = record {
  told = λ ws i. subst (Told L ws i) (same ws i) (r.told ws i);
  reads = λ ws i x here rest parts says ends. sym (same ws i) ∙ r.reads ws i x here rest parts says ends;
  local = λ ws vs i k at equal. sym (same vs i) ∙ r.local ws vs i k (ap place_of (same ws i) ∙ at) equal ∙ same ws i;
}

after_is_branch : {A : Type 0} (t : Token) (R : Reader A) (ws : List Terminal) (i : ℕ) → branch_at t R fail_at ws i ≡ after_at t R ws i
unfolding token_at
after_is_branch {A} t R ws i = by_test (is_token t (slice_get ws i))
  where
    by_test : (b : Bool) → cond b (R ws (suc i)) (Err i) ≡ (cond b (Ok (suc i)) (Err i) read_then λ k. R ws k)
    by_test true = refl
    by_test false = refl

pub reads_after : {A : Type 0} (t : Token) {R : Reader A} {L : Lang A} {E : List Terminal → Type 0} → Has L → Reads R L E → Reads (after_at t R) (After t L) E
reads_after {A} t {R} {L} {E} has r =
    reads_equal (branch_at t R fail_at) (after_at t R) (λ ws i. after_is_branch t R ws i)
    (reads_same (Or (After t L) Nothing) (After t L) (λ x ws h. one x ws h) (λ x ws h. inl h) (reads_branch t has r (reads_fail E) (λ x here rest says ends. absurd says)))
  where
    one : (x : A) (ws : List Terminal) → Or (After t L) Nothing x ws → After t L x ws
    one x ws (inl h) = h
    one x ws (inr h) = absurd h

pub reads_just : {A : Type 0} (x : A) (E : List Terminal → Type 0) → Reads (just_at x) (Just x) E
reads_just {A} x E = record {
  told = λ ws i. record { here = []; rest = drop i ws; parts = refl; place = omega arith; says = (refl, refl) };
  reads = λ ws i y here rest parts says ends. let n : i ≡ i + length here = omega (arith, ap length says.1) in (λ j. good (sym says.0 j) (n j));
  local = λ ws vs i k at same. refl;
}

pub has_just : {A : Type 0} (x : A) → Has (Just x)
has_just x = record { value = x; text = []; says = (refl, refl); proper = tt }

pub reads_maybe : {A : Type 0} (t : Token) {R : Reader A} {L : Lang A} {E : List Terminal → Type 0} → Has L → Reads R L E → Reads (maybe_at t R) (Maybe (After t L)) (λ rest. E rest × Without t rest)
reads_maybe {A} t {R} {L} {E} has r =
    reads_same (Or (After t (As Some L)) (Just None)) (Maybe (After t L)) to back (reads_branch t (record { value = Some has.value; text = has.text; says = (has.value, refl, has.says); proper = has.proper }) (reads_map Some (reads_before F (λ rest e. e.0) r)) (reads_just None F) (apart_just t None F (λ rest e. e.1)))
  where
    F : List Terminal → Type 0
    F rest = E rest × Without t rest

    to : (x : Option A) (ws : List Terminal) → Or (After t (As Some L)) (Just None) x ws → Maybe (After t L) x ws
    to None ws (inl h) = absurd (let e = h.2.1 in cc)
    to None ws (inr h) = h.1
    to (Some x) ws (inl h) = let e : h.2.0 ≡ x = (let q = h.2.1 in cc) in (h.0, h.1, subst (λ (y : A). L y h.0) e h.2.2)
    to (Some x) ws (inr h) = absurd (let e = h.0 in cc)

    back : (x : Option A) (ws : List Terminal) → Maybe (After t L) x ws → Or (After t (As Some L)) (Just None) x ws
    back None ws h = inr (refl, h)
    back (Some x) ws h = inl (h.0, h.1, (x, refl, h.2))

-- ---- one terminal

module _ {A : Type 0} (f : Terminal → Option A) where
  taken_here : (o : Option A) (i : ℕ) → i ≤ place_of (taken_at o i)
  taken_here (Some x) i = omega arith
  taken_here None i = omega arith

  one_told : (ws : List Terminal) (i : ℕ) (o : Option Terminal) (r : Option A) → slice_get ws i ≡ o → one_or f o ≡ r → Told (One f) ws i (taken_at r i)
  one_told ws i o None e q = inl refl
  one_told ws i None (Some x) e q = absurd cc
  one_told ws i (Some w) (Some x) e q = record { here = w ∷ []; rest = drop (suc i) ws; parts = get_drop ws i w e; place = omega arith; says = (w, refl, q) }

  pub reads_one : (E : List Terminal → Type 0) → Reads (one_at f) (One f) E
  reads_one E = record {
    told = λ ws i. one_told ws i (slice_get ws i) (one_or f (slice_get ws i)) refl refl;
    reads = λ ws i x here rest parts says ends.
        let first : slice_get ws i ≡ Some says.0 = get_first ws i says.0 rest (parts ∙ ap (λ (y : List Terminal). y ++ rest) says.1) in
        let n : suc i ≡ i + length here = omega (arith, ap length says.1) in
        ap (λ o. taken_at (one_or f o) i) first ∙ ap (λ r. taken_at r i) says.2 ∙ ap (λ k. good x k) n;
    local = λ ws vs i k at same. ap (λ o. taken_at (one_or f o) i) (sym (same i (omega (arith, taken_here (one_or f (slice_get ws i)) i, at))));
  }

  -- the next terminal is none of these
  abbrev pub Lacks : List Terminal → Type 0
  Lacks rest = one_or f (slice_get rest 0) ≡ None

  maybe_here : (o : Option A) (i : ℕ) → i ≤ place_of (maybe_taken_at o i)
  maybe_here (Some x) i = omega arith
  maybe_here None i = omega arith

  maybe_one_told : (ws : List Terminal) (i : ℕ) (o : Option Terminal) (r : Option A) → slice_get ws i ≡ o → one_or f o ≡ r → Told (Maybe (One f)) ws i (maybe_taken_at r i)
  maybe_one_told ws i o None e q = record { here = []; rest = drop i ws; parts = refl; place = omega arith; says = refl }
  maybe_one_told ws i None (Some x) e q = absurd cc
  maybe_one_told ws i (Some w) (Some x) e q = record { here = w ∷ []; rest = drop (suc i) ws; parts = get_drop ws i w e; place = omega arith; says = (w, refl, q) }

  maybe_one_reads : (ws : List Terminal) (i : ℕ) (x : Option A) (here rest : List Terminal) → drop i ws ≡ here ++ rest → Maybe (One f) x here → Lacks rest → maybe_one_at f ws i ≡ good x (i + length here)
  maybe_one_reads ws i None here rest parts says ends =
      let first : slice_get ws i ≡ slice_get rest 0 = sym (head_drop ws i) ∙ ap (λ (y : List Terminal). slice_get y 0) (parts ∙ ap (λ (y : List Terminal). y ++ rest) says) in
      let n : i ≡ i + length here = omega (arith, ap length says) in
      ap (λ o. maybe_taken_at (one_or f o) i) first ∙ ap (λ r. maybe_taken_at r i) ends ∙ ap (λ k. good None k) n
  maybe_one_reads ws i (Some x) here rest parts says ends =
      let first : slice_get ws i ≡ Some says.0 = get_first ws i says.0 rest (parts ∙ ap (λ (y : List Terminal). y ++ rest) says.1) in
      let n : suc i ≡ i + length here = omega (arith, ap length says.1) in
      ap (λ o. maybe_taken_at (one_or f o) i) first ∙ ap (λ r. maybe_taken_at r i) says.2 ∙ ap (λ k. good (Some x) k) n

  pub reads_maybe_one : Reads (maybe_one_at f) (Maybe (One f)) Lacks
  reads_maybe_one = record {
    told = λ ws i. maybe_one_told ws i (slice_get ws i) (one_or f (slice_get ws i)) refl refl;
    reads = λ ws i x here rest parts says ends. maybe_one_reads ws i x here rest parts says ends;
    local = λ ws vs i k at same. ap (λ o. maybe_taken_at (one_or f o) i) (sym (same i (omega (arith, maybe_here (one_or f (slice_get ws i)) i, at))));
  }

-- ---- what has something

pub has_then : {A B : Type 0} {L : Lang A} {M : Lang B} → Has L → Has M → Has (Then L M)
has_then h k = record { value = (h.value, k.value); text = h.text ++ k.text; says = (h.text, k.text, refl, h.says, k.says); proper = proper_append h.text k.text h.proper k.proper }

pub has_after : {A : Type 0} (t : Token) {L : Lang A} → Has L → Has (After t L)
has_after t h = record { value = h.value; text = terminal_of t ∷ h.text; says = (h.text, refl, h.says); proper = (token_proper t, h.proper) }

pub has_map : {A B : Type 0} (f : A → B) {L : Lang A} → Has L → Has (As f L)
has_map f h = record { value = f h.value; text = h.text; says = (h.value, refl, h.says); proper = h.proper }

pub has_left : {A : Type 0} {L : Lang A} (M : Lang A) → Has L → Has (Or L M)
has_left M h = record { value = h.value; text = h.text; says = inl h.says; proper = h.proper }

pub has_none : {A : Type 0} (L : Lang A) → Has (Maybe L)
has_none L = record { value = None; text = []; says = refl; proper = tt }

-- ---- before a token, and in parentheses

pub reads_closed : {A : Type 0} (t : Token) {R : Reader A} {L : Lang A} {E : List Terminal → Type 0} (F : List Terminal → Type 0) → ((rest : List Terminal) → E (terminal_of t ∷ rest)) → Reads R L E → Reads (before_at R t) (Before L t) F
reads_closed t {E = E} F e r =
    reads_map (λ p. p.0) (reads_then r (reads_after t (has_just tt) (reads_just tt F)) (has_after t (has_just tt)) (λ y b rest says ends. subst (λ (z : List Terminal). E (z ++ rest)) (sym says.1) (e (says.0 ++ rest))))

pub has_closed : {A : Type 0} (t : Token) {L : Lang A} → Has L → Has (Before L t)
has_closed t h = has_map (λ p. p.0) (has_then h (has_after t (has_just tt)))

pub reads_rise : {A : Type 0} {R : Reader A} {L : Lang A} {E : List Terminal → Type 0} → Reads R L E → Rises R
reads_rise {R = R} {L = L} r ws i x k e = omega (arith, rises L ws i (R ws i) (r.told ws i), ap place_of e)
