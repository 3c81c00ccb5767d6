-- A reader that is exact at the front of a text is exact on all of it; and expressions have one.
use Rattle.std.proofs.Common.{◌≡◌, ℕ, zero, suc, ◌+◌, ◌≤◌, ◌<◌, Bool, true, false, cond, ltb, List, [], ◌∷◌, ◌++◌, length, take, drop, Result, Ok, Err, ◌⊎◌, inl, inr, refl, sym, ap, ◌∙◌, subst, arith, append_assoc, length-append}
use Rattle.std.specs.Prelude.{slice_get}
use Rattle.std.proofs.lemmas.Bool.{le-ltb, ltb-false}
use Rattle.std.proofs.lemmas.List.{append-nil, take_at, nil_from_length}
use Rattle.dl_base.specs.declared.statement.Expr.{Expr}
use Rattle.dl_base.specs.declared.statement.Expr as e
use Rattle.sql_grammar.specs.declared.symbol.Symbol.TheVariants as symbol
use Rattle.sql_grammar.specs.declared.terminal.Terminal.{Terminal}
use Rattle.sql_grammar.specs.declared.terminal.Terminal.TheVariants.{Fixed}
use Rattle.sql_grammar.specs.Cues.{Cue, an_operator, an_is, an_open, a_dot, cue}
use Rattle.sql_grammar.specs.Forms.{null, text, tree, operators, level}
use Rattle.sql_grammar.specs.Machine.{due, after, move_after, told, run, Stop}
use Rattle.sql_grammar.specs.Lang.{Lang, BeginsSome, IsFaultOf, Expression}
use Rattle.sql_grammar.specs.Readers.{Reader, good, expression_at, ends_at, whole_at}
use Rattle.sql_grammar.proofs.Place.{alike}
use Rattle.sql_grammar.proofs.Complete.{EndsAt, Ends, reads}
use Rattle.sql_grammar.proofs.Sound.{Outcome, outcome}
use Rattle.sql_grammar.proofs.Readers.{place_of, Same, Begins, Has, Told, Reads}

-- ---- expressions

-- the terminal does not go on inside an expression
abbrev pub NoOperatorAt : Cue → Type 0
NoOperatorAt (an_operator o) = ⊥
NoOperatorAt an_is = ⊥
NoOperatorAt an_open = ⊥
NoOperatorAt a_dot = ⊥
NoOperatorAt _ = Unit {0}

abbrev pub NoOperator : List Terminal → Type 0
NoOperator [] = Unit {0}
NoOperator (w ∷ ws) = NoOperatorAt (cue w)

ends_there : (l : ℕ) (c : Cue) → NoOperatorAt c → EndsAt l c
ends_there l (an_operator o) h = absurd h
ends_there l an_is h = absurd h
ends_there l an_open h = absurd h
ends_there l a_dot h = absurd h
ends_there l _ h = tt

no_operator_ends : (l : ℕ) (ws : List Terminal) → NoOperator ws → Ends l ws
no_operator_ends l [] h = tt
no_operator_ends l (w ∷ ws) h = ends_there l (cue w) h

stops_there : (t : Expr) (l m : ℕ) (c : Cue) → NoOperatorAt c → move_after [] t l m 0 c ≡ Stop t
stops_there t l m (an_operator o) h = absurd h
stops_there t l m an_is h = absurd h
stops_there t l m an_open h = absurd h
stops_there t l m a_dot h = absurd h
stops_there t l m _ h = refl

stops : (t : Expr) (l m j : ℕ) (rest : List Terminal) → NoOperator rest → run (after [] t l m 0) j rest ≡ Ok (t, j)
stops t l m j [] h = refl
stops t l m j (w ∷ ws) h = ap (λ x. told x j (λ s. run s (suc j) ws)) (stops_there t l m (cue w) h)

expression_told : (ws : List Terminal) (i : ℕ) (r : Result (Expr × ℕ) ℕ) → Outcome [] (drop i ws) i r → Told Expression ws i r
expression_told ws i (Ok p) (read, rest, e, k, d) = record { here = read; rest = rest; parts = e; place = k; says = d }
expression_told ws i (Err k) (read, rest, more, t, e, k-is, d, proper) = inr (record { here = read; rest = rest; more = more; value = t; parts = e; place = k-is; says = d; proper = proper })

slice_drop : (ws : List Terminal) (i j : ℕ) → slice_get (drop i ws) j ≡ slice_get ws (i + j)
slice_drop ws zero j = ap (slice_get ws) (omega arith)
slice_drop [] (suc i) j = refl
slice_drop (x ∷ ws) (suc i) j = slice_drop ws i j ∙ ap (slice_get (x ∷ ws)) (let e : suc (i + j) ≡ suc i + j = omega arith in e)

pub reads_expression : Reads expression_at Expression NoOperator
reads_expression = record {
  told = λ ws i. expression_told ws i (run (due [] 0 0) i (drop i ws)) (outcome (drop i ws) (due [] 0 0) [] i ((refl, refl, refl), omega arith, omega arith));
  reads = λ ws i x here rest parts d ends.
      let f = d.form in
      let r = reads f [] 0 0 i (operators f) (i + length (text f)) rest d.is_form (omega arith) (no_operator_ends (level f) rest ends) (omega arith) d.few (omega (arith, d.flat)) refl in
      ap (run (due [] 0 0) i) (parts ∙ ap (λ (y : List Terminal). y ++ rest) (sym d.text_is)) ∙ r ∙ stops (tree f) (level f) (operators f) (i + length (text f)) rest ends ∙ (λ j. Ok (d.tree_is j, i + length (d.text_is j)));
  local = λ ws vs i k at same. sym (alike (drop i ws) (drop i vs) (due [] 0 0) i k at (λ j le. slice_drop ws i j ∙ same (i + j) le ∙ sym (slice_drop vs i j)));
}

pub has_expression : Has Expression
has_expression = record { value = e.Null; text = Fixed symbol.Null ∷ []; says = record { form = null; is_form = tt; text_is = refl; tree_is = refl; few = omega arith; flat = omega arith }; proper = (tt, tt) }

-- ---- all of a text

split_next : (read rest ws : List Terminal) → ws ≡ read ++ rest → length read < length ws → (w : Terminal) × (more : List Terminal) × (ws ≡ read ++ w ∷ more)
split_next read [] ws e lt = absurd (omega (arith, ap length e, length-append read []))
split_next read (w ∷ more) ws e lt = (w, more, e)

take_next : (read : List Terminal) (w : Terminal) (more : List Terminal) → take (suc (length read)) (read ++ w ∷ more) ≡ read ++ w ∷ []
take_next [] w more = refl
take_next (x ∷ read) w more = ap (λ (y : List Terminal). x ∷ y) (take_next read w more)

same_next : (read : List Terminal) (w : Terminal) (more other : List Terminal) (j : ℕ) → j ≤ length read → slice_get (read ++ w ∷ more) j ≡ slice_get (read ++ w ∷ other) j
same_next [] w more other zero h = refl
same_next [] w more other (suc j) h = absurd (omega arith)
same_next (x ∷ read) w more other zero h = refl
same_next (x ∷ read) w more other (suc j) h = same_next read w more other j (omega arith)

-- the value of all the terminals, or the first fault
abbrev pub IsExactOf : {A : Type 0} → Lang A → List Terminal → Result A ℕ → Type 0
IsExactOf L ws (Ok x) = L x ws
IsExactOf L ws (Err k) = IsFaultOf L ws k

module _ {A : Type 0} (R : Reader A) (L : Lang A) (E : List Terminal → Type 0) where
  reads_all : (ws : List Terminal) (x : A) → Reads R L E → E [] → L x ws → R ws 0 ≡ good x (length ws)
  reads_all ws x r e says = r.reads ws 0 x ws [] (sym (append-nil ws)) says e ∙ ap (good x) (omega arith)

  pub whole_reads : (ws : List Terminal) (x : A) → Reads R L E → E [] → L x ws → whole_at R ws ≡ Ok x
  whole_reads ws x r e says = ap (ends_at (length ws)) (reads_all ws x r e says) ∙ rw (le-ltb (length ws) (length ws) (omega arith)) refl

  -- nothing of the language goes on with the terminal where reading stopped
  stuck : (ws read rest : List Terminal) (k : ℕ) → Reads R L E → E [] → ws ≡ read ++ rest → k ≡ length read → place_of (R ws 0) ≡ k → k < length ws → BeginsSome L (take (suc k) ws) → ⊥
  stuck ws read rest k r e parts k-is at lt p =
      let n = split_next read rest ws parts (omega (arith, k-is)) in
      let w = n.0 in
      let front : take (suc k) ws ≡ read ++ w ∷ [] = (λ i. take (suc (k-is i)) (n.2 i)) ∙ take_next read w n.1 in
      let longer : take (suc k) ws ++ p.0 ≡ read ++ w ∷ p.0 = ap (λ (x : List Terminal). x ++ p.0) front ∙ append_assoc read (w ∷ []) p.0 in
      let says = subst (λ (x : List Terminal). L p.1 x) longer p.2 in
      let vs = read ++ w ∷ p.0 in
      let same : Same k ws vs = λ j le. ap (λ (x : List Terminal). slice_get x j) n.2 ∙ same_next read w n.1 p.0 j (omega (arith, k-is)) in
      let alike = r.local ws vs 0 k at same in
      let ends : place_of (R vs 0) ≡ length vs = ap place_of (reads_all vs p.1 r e says) in
      omega (arith, sym (ap place_of alike) ∙ ends, at, length-append read (w ∷ p.0))

  fault : (ws : List Terminal) (k : ℕ) → Reads R L E → E [] → Begins L ws 0 k → place_of (R ws 0) ≡ k → whole_at R ws ≡ Err k → IsFaultOf L ws k
  fault ws k r e b at w = record {
    within = omega (arith, b.place, ap length b.parts, length-append b.here b.rest);
    before = (b.more, b.value, subst (λ (x : List Terminal). L b.value (x ++ b.more)) (sym (ap (take k) b.parts ∙ take_at b.here b.rest k (omega (arith, b.place)))) b.says, b.proper);
    here = λ lt p. stuck ws b.here b.rest k r e b.parts (omega (arith, b.place)) at lt p;
    none = λ x says. let other = whole_reads ws x r e says in absurd cc;
  }

  begins_at : (ws : List Terminal) (k : ℕ) → Has L → Told L ws 0 (Err k) → Begins L ws 0 k
  begins_at ws k has (inl e) = record { here = []; rest = ws; more = has.text; value = has.value; parts = refl; place = omega (arith, e); says = has.says; proper = has.proper }
  begins_at ws k has (inr b) = b

  exact_by : (ws : List Terminal) (q : Result (A × ℕ) ℕ) → R ws 0 ≡ q → Has L → Reads R L E → E [] → Told L ws 0 q → IsExactOf L ws (ends_at (length ws) q)
  exact_by ws (Ok p) e has r f t = by_test (ltb p.1 (length ws)) refl
    where
      by_test : (b : Bool) → ltb p.1 (length ws) ≡ b → IsExactOf L ws (cond b (Err p.1) (Ok p.0))
      by_test true lt =
          let b : Begins L ws 0 p.1 = record { here = t.here; rest = t.rest; more = []; value = p.0; parts = t.parts; place = t.place; says = subst (L p.0) (sym (append-nil t.here)) t.says; proper = tt } in
          fault ws p.1 r f b (ap place_of e) (ap (ends_at (length ws)) e ∙ rw lt refl)
      by_test false le =
          let none : length t.rest ≡ 0 = omega (arith, ltb-false p.1 (length ws) le, t.place, ap length t.parts, length-append t.here t.rest) in
          subst (L p.0) (sym (t.parts ∙ ap (λ (x : List Terminal). t.here ++ x) (nil_from_length t.rest none) ∙ append-nil t.here)) t.says
  exact_by ws (Err k) e has r f t = fault ws k r f (begins_at ws k has t) (ap place_of e) (ap (ends_at (length ws)) e)

  pub exact_of : (ws : List Terminal) → Has L → Reads R L E → E [] → IsExactOf L ws (whole_at R ws)
  exact_of ws has r e = exact_by ws (R ws 0) refl has r e (r.told ws 0)

cut : (n : ℕ) (ws : List Terminal) → ws ≡ take n ws ++ drop n ws
cut zero ws = refl
cut (suc n) [] = refl
cut (suc n) (w ∷ ws) = ap (λ (x : List Terminal). w ∷ x) (cut n ws)

take_less : (n k : ℕ) (ws : List Terminal) → n ≤ k → take n (take k ws) ≡ take n ws
take_less zero k ws le = refl
take_less (suc n) zero ws le = absurd (omega arith)
take_less (suc n) (suc k) [] le = refl
take_less (suc n) (suc k) (w ∷ ws) le = ap (λ (x : List Terminal). w ∷ x) (take_less n k ws (omega arith))

-- there is one place of a fault at most
pub one_fault : {A : Type 0} (L : Lang A) (ws : List Terminal) (j k : ℕ) → IsFaultOf L ws j → IsFaultOf L ws k → j < k → ⊥
one_fault {A} L ws j k f g lt =
    let b = g.before in
    f.here (omega (arith, g.within)) (shorter b.0 b.1 b.2)
  where
    split : take k ws ≡ take (suc j) ws ++ drop (suc j) (take k ws)
    split = cut (suc j) (take k ws) ∙ ap (λ (x : List Terminal). x ++ drop (suc j) (take k ws)) (take_less (suc j) k ws (omega arith))

    shorter : (more : List Terminal) (x : A) → L x (take k ws ++ more) → BeginsSome L (take (suc j) ws)
    shorter more x says = (drop (suc j) (take k ws) ++ more, x, subst (L x) (ap (λ (y : List Terminal). y ++ more) split ∙ append_assoc (take (suc j) ws) (drop (suc j) (take k ws)) more) says)

less_or : (j k : ℕ) → (j < k) ⊎ ((k < j) ⊎ (j ≡ k))
less_or zero zero = inr (inr refl)
less_or zero (suc k) = inl (omega arith)
less_or (suc j) zero = inr (inl (omega arith))
less_or (suc j) (suc k) = up (less_or j k)
  where
    up : (j < k) ⊎ ((k < j) ⊎ (j ≡ k)) → (suc j < suc k) ⊎ ((suc k < suc j) ⊎ (suc j ≡ suc k))
    up (inl h) = inl (omega arith)
    up (inr (inl h)) = inr (inl (omega arith))
    up (inr (inr h)) = inr (inr (omega arith))

pub same_fault : {A : Type 0} (L : Lang A) (ws : List Terminal) (j k : ℕ) → IsFaultOf L ws j → IsFaultOf L ws k → j ≡ k
same_fault L ws j k f g = by_order (less_or j k)
  where
    by_order : (j < k) ⊎ ((k < j) ⊎ (j ≡ k)) → j ≡ k
    by_order (inl lt) = absurd (one_fault L ws j k f g lt)
    by_order (inr (inl lt)) = absurd (one_fault L ws k j g f lt)
    by_order (inr (inr same)) = same
