-- The laws of reading none or more.
use Rattle.std.proofs.Common.{◌≡◌, ℕ, zero, suc, ◌+◌, ◌≤◌, ◌<◌, Bool, true, false, cond, List, [], ◌∷◌, ◌++◌, length, drop, Option, Some, None, Result, Ok, Err, inl, inr, refl, sym, ap, ◌∙◌, subst, arith, append_assoc, length-append}
use Rattle.std.specs.Prelude.{slice_get}
use Rattle.std.proofs.lemmas.List.{append-nil, length-drop}
use Rattle.std.proofs.lemmas.Option.{slice_get_within}
use Rattle.sql_grammar.specs.declared.token.Token.TheVariants as token
use Rattle.sql_grammar.specs.declared.symbol.Symbol.TheVariants as symbol
use Rattle.sql_grammar.specs.declared.terminal.Terminal.{Terminal}
use Rattle.sql_grammar.specs.declared.terminal.Terminal.TheVariants.{Fixed}
use Rattle.sql_grammar.specs.Lang.{Lang, After, Many, Listed}
use Rattle.sql_grammar.specs.Readers.{Climbs, Reader, ◌read_then◌, good, is_token, repeat_at, many_at, listed_at}
use Rattle.sql_grammar.proofs.Readers.{place_of, Same, Took, Has, Told, Reads, Without, get_first, head_drop, drop_read, rises, cond_true, cond_false, is_token_same, reads_then, reads_map, reads_after, has_then, has_map}

-- what is in the language begins with a terminal that passes
abbrev pub Passes : {A : Type 0} → (Option Terminal → Bool) → Lang A → Type 0
Passes {A} b L = (x : A) (a : List Terminal) → L x a → (w : Terminal) × (tail : List Terminal) × (a ≡ w ∷ tail) × (b (Some w) ≡ true)

-- the terminals do not go on with one that passes
abbrev pub Fails : (Option Terminal → Bool) → List Terminal → Type 0
Fails b rest = b (slice_get rest 0) ≡ false

passes_within : (b : Option Terminal → Bool) (ws : List Terminal) (i : ℕ) → b None ≡ false → b (slice_get ws i) ≡ true → i < length ws
passes_within b ws i none e = by_symbol (slice_get ws i) refl
  where
    by_symbol : (o : Option Terminal) → slice_get ws i ≡ o → i < length ws
    by_symbol (Some w) is = slice_get_within ws i w is
    by_symbol None is = absurd (let h : false ≡ true = sym none ∙ ap b (sym is) ∙ e in cc)

module _ {A : Type 0} (b : Option Terminal → Bool) (R : Reader A) (L : Lang A) (E : List Terminal → Type 0) where
  abbrev Rest : ℕ → A → List Terminal → ℕ → Result (List A × ℕ) ℕ
  Rest n x ws k = repeat_at b R n ws k read_then λ q. good (x ∷ q.0) q.1

  abbrev Step : ℕ → List Terminal → ℕ → Result (List A × ℕ) ℕ
  Step n ws i = R ws i read_then λ p. Rest n p.0 ws p.1

  repeat_told : (n : ℕ) (ws : List Terminal) (i : ℕ) → Reads R L E → Told (Many L) ws i (repeat_at b R n ws i)
  repeat_told zero ws i r = inl refl
  repeat_told (suc n) ws i r = by_test (b (slice_get ws i)) (λ j. repeat_told n ws j r)
    where
      rest : (x : A) (k : ℕ) (q : Result (List A × ℕ) ℕ) → Took L ws i x k → Told (Many L) ws k q → Told (Many L) ws i (q read_then λ q. good (x ∷ q.0) q.1)
      rest x k (Ok q) t u =
          let mid : drop k ws ≡ t.rest = ap (λ n. drop n ws) t.place ∙ drop_read ws i t.here t.rest t.parts in
          record { here = t.here ++ u.here; rest = u.rest; parts = t.parts ∙ ap (λ (y : List Terminal). t.here ++ y) (sym mid ∙ u.parts) ∙ sym (append_assoc t.here u.here u.rest); place = omega (arith, t.place, u.place, length-append t.here u.here); says = (t.here, u.here, refl, t.says, u.says) }
      rest x k (Err f) t (inl at) = inr (record { here = t.here; rest = t.rest; more = []; value = x ∷ []; parts = t.parts; place = omega (arith, at, t.place); says = (t.here, [], refl, t.says, refl); proper = tt })
      rest x k (Err f) t (inr u) =
          let mid : drop k ws ≡ t.rest = ap (λ n. drop n ws) t.place ∙ drop_read ws i t.here t.rest t.parts in
          inr (record { here = t.here ++ u.here; rest = u.rest; more = u.more; value = x ∷ u.value; parts = t.parts ∙ ap (λ (y : List Terminal). t.here ++ y) (sym mid ∙ u.parts) ∙ sym (append_assoc t.here u.here u.rest); place = omega (arith, t.place, u.place, length-append t.here u.here); says = (t.here, u.here ++ u.more, append_assoc t.here u.here u.more, t.says, u.says); proper = u.proper })

      first : (q : Result (A × ℕ) ℕ) → Told L ws i q → ((j : ℕ) → Told (Many L) ws j (repeat_at b R n ws j)) → Told (Many L) ws i (q read_then λ p. Rest n p.0 ws p.1)
      first (Ok p) t ih = rest p.0 p.1 (repeat_at b R n ws p.1) t (ih p.1)
      first (Err k) (inl e) ih = inl e
      first (Err k) (inr u) ih = inr (record { here = u.here; rest = u.rest; more = u.more; value = u.value ∷ []; parts = u.parts; place = u.place; says = (u.here ++ u.more, [], sym (append-nil (u.here ++ u.more)), u.says, refl); proper = u.proper })

      by_test : (c : Bool) → ((j : ℕ) → Told (Many L) ws j (repeat_at b R n ws j)) → Told (Many L) ws i (cond c (Step n ws i) (good [] i))
      by_test true ih = first (R ws i) (r.told ws i) ih
      by_test false ih = record { here = []; rest = drop i ws; parts = refl; place = omega arith; says = refl }

  -- what may follow a part, where more of them or the end may
  part_ends : (xs : List A) (a rest : List Terminal) → Passes b L → ((w : Terminal) (rest : List Terminal) → b (Some w) ≡ true → E (w ∷ rest)) → Many L xs a → E rest → E (a ++ rest)
  part_ends [] a rest p on says ends = subst (λ (y : List Terminal). E (y ++ rest)) (sym says) ends
  part_ends (x ∷ xs) a rest p on says ends =
      let f = p x says.0 says.3 in
      let e : a ≡ f.0 ∷ (f.1 ++ says.1) = says.2 ∙ ap (λ (y : List Terminal). y ++ says.1) f.2 in
      subst (λ (y : List Terminal). E (y ++ rest)) (sym e) (on f.0 ((f.1 ++ says.1) ++ rest) f.3)

  parts_short : (xs : List A) (a : List Terminal) → Passes b L → Many L xs a → length xs ≤ length a
  parts_short [] a p says = omega arith
  parts_short (x ∷ xs) a p says =
      let f = p x says.0 says.3 in
      omega (arith, parts_short xs says.1 p says.4, ap length says.2, length-append says.0 says.1, ap length f.2)

  repeat_reads : (n : ℕ) (xs : List A) (ws : List Terminal) (i : ℕ) (here rest : List Terminal) → length xs < n → Reads R L E → Passes b L → ((w : Terminal) (rest : List Terminal) → b (Some w) ≡ true → E (w ∷ rest)) → drop i ws ≡ here ++ rest → Many L xs here → E rest → Fails b rest → repeat_at b R n ws i ≡ good xs (i + length here)
  repeat_reads zero xs ws i here rest lt r p on parts says ends fails = absurd (omega arith)
  repeat_reads (suc n) [] ws i here rest lt r p on parts says ends fails =
      let same : slice_get ws i ≡ slice_get rest 0 = sym (head_drop ws i) ∙ ap (λ (y : List Terminal). slice_get y 0) (parts ∙ ap (λ (y : List Terminal). y ++ rest) says) in
      let k : i ≡ i + length here = omega (arith, ap length says) in
      cond_false (b (slice_get ws i)) _ _ (ap b same ∙ fails) ∙ ap (λ k. good [] k) k
  repeat_reads (suc n) (x ∷ xs) ws i here rest lt r p on parts (a, c, whole, says, more) ends fails =
      let parts' : drop i ws ≡ a ++ (c ++ rest) = parts ∙ ap (λ (y : List Terminal). y ++ rest) whole ∙ append_assoc a c rest in
      let f = p x a says in
      let first : slice_get ws i ≡ Some f.0 = get_first ws i f.0 (f.1 ++ (c ++ rest)) (parts' ∙ ap (λ (y : List Terminal). y ++ (c ++ rest)) f.2) in
      let one = r.reads ws i x a (c ++ rest) parts' says (part_ends xs c rest p on more ends) in
      let two = repeat_reads n xs ws (i + length a) c rest (omega arith) r p on (drop_read ws i a (c ++ rest) parts') more ends fails in
      let len : i + length a + length c ≡ i + length here = omega (arith, ap length whole, length-append a c) in
      cond_true (b (slice_get ws i)) _ _ (ap b first ∙ f.3) ∙ ap (λ (q : Result (A × ℕ) ℕ). q read_then λ p. Rest n p.0 ws p.1) one ∙ ap (λ (q : Result (List A × ℕ) ℕ). q read_then λ q. good (x ∷ q.0) q.1) two ∙ ap (λ k. good (x ∷ xs) k) len

  -- a part takes one terminal at least
  took_one : (ws : List Terminal) (i : ℕ) (x : A) (k : ℕ) → Passes b L → Took L ws i x k → i < k
  took_one ws i x k p t = let f = p x t.here t.says in omega (arith, t.place, ap length f.2)

  rest_rises : (n : ℕ) (ws : List Terminal) (x : A) (k : ℕ) → Reads R L E → k ≤ place_of (Rest n x ws k)
  rest_rises n ws x k r = there (repeat_at b R n ws k) (rises (Many L) ws k (repeat_at b R n ws k) (repeat_told n ws k r))
    where
      there : (q : Result (List A × ℕ) ℕ) → k ≤ place_of q → k ≤ place_of (q read_then λ q. good (x ∷ q.0) q.1)
      there (Ok q) h = h
      there (Err f) h = h

  step_rises : (n : ℕ) (ws : List Terminal) (q : Result (A × ℕ) ℕ) → Reads R L E → place_of q ≤ place_of (q read_then λ p. Rest n p.0 ws p.1)
  step_rises n ws (Ok p) r = rest_rises n ws p.0 p.1 r
  step_rises n ws (Err k) r = omega arith

  -- the bound makes no difference, nor does what follows the place where reading stopped
  repeat_local : (n m : ℕ) (ws vs : List Terminal) (i k : ℕ) → Reads R L E → Passes b L → b None ≡ false → Same k ws vs → length ws < n + i → length vs < m + i → 0 < n → 0 < m → place_of (repeat_at b R n ws i) ≡ k → repeat_at b R m vs i ≡ repeat_at b R n ws i
  repeat_local zero m ws vs i k r p none same ln lm pn pm at = absurd (omega arith)
  repeat_local (suc n) zero ws vs i k r p none same ln lm pn pm at = absurd (omega arith)
  repeat_local (suc n) (suc m) ws vs i k r p none same ln lm pn pm at = by_test (b (slice_get ws i)) refl at (λ j a c d e. repeat_local n m ws vs j k r p none same a c d e)
    where
      le : i ≤ k
      le = omega (arith, rises (Many L) ws i (repeat_at b R (suc n) ws i) (repeat_told (suc n) ws i r), at)

      there : (x : A) (q : Result (List A × ℕ) ℕ) → place_of (q read_then λ q. good (x ∷ q.0) q.1) ≡ k → place_of q ≡ k
      there x (Ok q) h = h
      there x (Err f) h = h

      rest : (q : Result (A × ℕ) ℕ) → Told L ws i q → i < length ws → i < length vs → place_of (q read_then λ p. Rest n p.0 ws p.1) ≡ k → ((j : ℕ) → length ws < n + j → length vs < m + j → 0 < n → 0 < m → place_of (repeat_at b R n ws j) ≡ k → repeat_at b R m vs j ≡ repeat_at b R n ws j) → (q read_then λ p. Rest m p.0 vs p.1) ≡ (q read_then λ p. Rest n p.0 ws p.1)
      rest (Ok q) t iw iv at ih =
          let lt = took_one ws i q.0 q.1 p t in
          ap (λ (y : Result (List A × ℕ) ℕ). y read_then λ y. good (q.0 ∷ y.0) y.1) (ih q.1 (omega arith) (omega arith) (omega arith) (omega arith) (there q.0 (repeat_at b R n ws q.1) at))
      rest (Err f) t iw iv at ih = refl

      by_test : (c : Bool) → b (slice_get ws i) ≡ c → place_of (cond c (Step n ws i) (good [] i)) ≡ k → ((j : ℕ) → length ws < n + j → length vs < m + j → 0 < n → 0 < m → place_of (repeat_at b R n ws j) ≡ k → repeat_at b R m vs j ≡ repeat_at b R n ws j) → repeat_at b R (suc m) vs i ≡ cond c (Step n ws i) (good [] i)
      by_test false e at ih = cond_false (b (slice_get vs i)) _ _ (ap b (sym (same i le)) ∙ e)
      by_test true e at ih =
          let e' : b (slice_get vs i) ≡ true = ap b (sym (same i le)) ∙ e in
          let up : place_of (R ws i) ≤ k = omega (arith, step_rises n ws (R ws i) r, at) in
          cond_true (b (slice_get vs i)) _ _ e'
          ∙ ap (λ (q : Result (A × ℕ) ℕ). q read_then λ p. Rest m p.0 vs p.1) (r.local ws vs i (place_of (R ws i)) refl (λ j h. same j (omega arith)))
          ∙ rest (R ws i) (r.told ws i) (passes_within b ws i none e) (passes_within b vs i none e') at ih

  many_law : Reads R L E → Passes b L → b None ≡ false → ((w : Terminal) (rest : List Terminal) → b (Some w) ≡ true → E (w ∷ rest)) → Reads (many_at b R) (Many L) (λ rest. E rest × Fails b rest)
  unfolding many_at
  many_law r p none on = record {
    told = λ ws i. repeat_told (suc (length ws)) ws i r;
    reads = λ ws i xs here rest parts says ends.
        let short : length here ≤ length ws = omega (arith, ap length parts, length-append here rest, length-drop i ws) in
        repeat_reads (suc (length ws)) xs ws i here rest (omega (arith, parts_short xs here p says)) r p on parts says ends.0 ends.1;
    local = λ ws vs i k at same. repeat_local (suc (length ws)) (suc (length vs)) ws vs i k r p none same (omega arith) (omega arith) (omega arith) (omega arith) at;
  }

pub reads_many : {A : Type 0} (b : Option Terminal → Bool) {R : Reader A} {L : Lang A} {E : List Terminal → Type 0} → Reads R L E → Passes b L → b None ≡ false → ((w : Terminal) (rest : List Terminal) → b (Some w) ≡ true → E (w ∷ rest)) → Reads (many_at b R) (Many L) (λ rest. E rest × Fails b rest)
reads_many b {R = R} {L = L} {E = E} r p none on = many_law b R L E r p none on

pub reads_climb : {A : Type 0} (b : Option Terminal → Bool) {R : Reader A} {L : Lang A} {E : List Terminal → Type 0} → Reads R L E → Passes b L → Climbs b R
reads_climb {A} b {R = R} {L = L} {E = E} r p ws i x k e = by_result (R ws i) e (r.told ws i)
  where
    by_result : (q : Result (A × ℕ) ℕ) → q ≡ Ok (x, k) → Told L ws i q → i < k
    by_result (Ok y) same t = omega (arith, took_one b R L E ws i y.0 y.1 p t, ap place_of same)
    by_result (Err f) same t = absurd cc

pub has_many : {A : Type 0} (L : Lang A) → Has (Many L)
has_many L = record { value = []; text = []; says = refl; proper = tt }

-- ---- with commas between

comma_is : (w : Terminal) → is_token (token.Symbol symbol.Comma) (Some w) ≡ true → w ≡ Fixed symbol.Comma
comma_is (Fixed symbol.Comma) e = refl
comma_is (Fixed _) e = absurd cc
comma_is _ e = absurd cc

-- a part, or a comma and what follows, where the parts have commas before them
commas_end : {A : Type 0} (L : Lang A) (E : List Terminal → Type 0) (xs : List A) (a rest : List Terminal) → ((rest : List Terminal) → E (Fixed symbol.Comma ∷ rest)) → Many (After (token.Symbol symbol.Comma) L) xs a → E rest → E (a ++ rest)
commas_end L E [] a rest on says ends = subst (λ (y : List Terminal). E (y ++ rest)) (sym says) ends
commas_end L E (x ∷ xs) a rest on says ends =
    let c = says.3 in
    let e : a ≡ Fixed symbol.Comma ∷ (c.0 ++ says.1) = says.2 ∙ ap (λ (y : List Terminal). y ++ says.1) c.1 in
    subst (λ (y : List Terminal). E (y ++ rest)) (sym e) (on ((c.0 ++ says.1) ++ rest))

pub reads_listed : {A : Type 0} {R : Reader A} {L : Lang A} {E : List Terminal → Type 0} → Has L → Reads R L E → ((rest : List Terminal) → E (Fixed symbol.Comma ∷ rest)) → Reads (listed_at R) (Listed L) (λ rest. E rest × Without (token.Symbol symbol.Comma) rest)
unfolding listed_at
reads_listed {L = L} {E = E} has r on =
    reads_map (λ p. p.0 ∷ p.1) (reads_then r (reads_many (is_token (token.Symbol symbol.Comma)) (reads_after (token.Symbol symbol.Comma) has r) (λ x a says. (Fixed symbol.Comma, says.0, says.1, is_token_same (token.Symbol symbol.Comma))) refl
    (λ w rest e. subst (λ (y : Terminal). E (y ∷ rest)) (sym (comma_is w e)) (on rest)))
    (has_many (After (token.Symbol symbol.Comma) L)) (λ xs a rest says ends. commas_end L E xs a rest on says ends.0))

pub has_listed : {A : Type 0} {L : Lang A} → Has L → Has (Listed L)
has_listed {L = L} h = has_map (λ p. p.0 ∷ p.1) (has_then h (has_many (After (token.Symbol symbol.Comma) L)))
