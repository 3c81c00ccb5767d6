-- Rows after changes whose numbers rise.
use Rattle.std.proofs.Common.{◌≡◌, ℕ, ◌+◌, ◌<◌, ◌≤◌, ◌==◌, ◌&&◌, ◌||◌, Bool, true, false, cond, List, [], ◌∷◌, map, nat_le, nat_lt, Option, Some, None, is_none, refl, sym, ap, ◌∙◌, subst, arith}
use Rattle.std.specs.Bool.{OnTrue}
use Rattle.std.specs.List.{list_all, list_any}
use Rattle.std.proofs.lemmas.Bool.{OnTrue_at, and_parts, eq-eqb, eqb-true, leb-true, lt-ltb, or_right}
use Rattle.dl_base.specs.declared.value.Row.{Row}
use Rattle.dl_base.specs.declared.value.Value.{Value}
use Rattle.dl_codec.specs.declared.rows.RowChange.{RowChange}
use Rattle.meaning_areas.specs.Commits.{by_values, changed_rows, put_row, rising, with_row_changes}
use Rattle.meaning_tables.specs.Tables.{Rise, Rows, without_row}
use Rattle.sql_table.specs.Placing.{with_placed}
use Rattle.db_replay.specs.Rows.{is_below}

-- the two words for one row more are the same
pub placed_is : (rows : List (ℕ × Row)) (n : ℕ) (row : Row) → with_placed rows n row ≡ put_row rows n row
placed_is [] n row = refl
placed_is (r ∷ rs) n row = ap (λ (xs : List (ℕ × Row)). cond (n == r.0) ((n, row) ∷ rs) (cond (nat_lt n r.0) ((n, row) ∷ r ∷ rs) (r ∷ xs))) (placed_is rs n row)

-- numbers that rise are below what is not below the next one
pub all_below : (first below next : ℕ) (rows : List (ℕ × Row)) → Rise first below rows → below ≤ next → list_all (λ r. nat_lt r.0 next) rows ≡ true
all_below first below next [] rise le = refl
all_below first below next (r ∷ rs) rise le = rw (lt-ltb r.0 next (omega (arith, rise.1, le))) (all_below (r.0 + 1) below next rs rise.2 le)

-- a next number that is raised
pub raised : (t u : Rows) (next : ℕ) (b : Bool) → Rise 0 t.next t.rows → t.next < next → b ≡ list_all (λ r. nat_lt r.0 next) t.rows → OnTrue b (u ≡ record t { next = next }) → next ≤ u.next
raised t u next b rise lt is set =
    let s : u ≡ record t { next = next } = OnTrue_at (is ∙ all_below 0 t.next next t.rows rise (omega (arith, lt))) set in
    subst (λ n. next ≤ n) (sym (ap (λ (x : Rows). x.next) s)) (omega arith)

abbrev has : ℕ → List (ℕ × Row) → Bool
has n rows = list_any (λ r. n == r.0) rows

has-put : (rows : List (ℕ × Row)) (n : ℕ) (row : Row) → has n (put_row rows n row) ≡ true
has-put [] n row = rw (eq-eqb n n refl) refl
has-put (r ∷ rs) n row = by (n == r.0) refl (nat_lt n r.0) (has-put rs n row)
  where
    by : (b : Bool) → (n == r.0) ≡ b → (l : Bool) → has n (put_row rs n row) ≡ true → has n (cond b ((n, row) ∷ rs) (cond l ((n, row) ∷ r ∷ rs) (r ∷ put_row rs n row))) ≡ true
    by true e l go = rw (eq-eqb n n refl) refl
    by false e true go = rw (eq-eqb n n refl) refl
    by false e false go = or_right (n == r.0) (has n (put_row rs n row)) go

still-put : (rows : List (ℕ × Row)) (n m : ℕ) (row : Row) → n < m → has n rows ≡ true → has n (put_row rows m row) ≡ true
still-put [] n m row lt there = cc there
still-put (r ∷ rs) n m row lt there = by (m == r.0) refl (nat_lt m r.0) (n == r.0) refl there (λ h. still-put rs n m row lt h)
  where
    by : (b : Bool) → (m == r.0) ≡ b → (l c : Bool) → (n == r.0) ≡ c → (c || has n rs) ≡ true → (has n rs ≡ true → has n (put_row rs m row) ≡ true)
        → has n (cond b ((m, row) ∷ rs) (cond l ((m, row) ∷ r ∷ rs) (r ∷ put_row rs m row))) ≡ true
    by true e l true f h go = absurd (omega (arith, lt, eqb-true m r.0 e, eqb-true n r.0 f))
    by true e l false f h go = or_right (n == m) (has n rs) h
    by false e true c f h go = or_right (n == m) ((n == r.0) || has n rs) (ap (λ b. b || has n rs) f ∙ h)
    by false e false true f h go = ap (λ b. b || has n (put_row rs m row)) f
    by false e false false f h go = or_right (n == r.0) (has n (put_row rs m row)) (go h)

still-without : (rows : List (ℕ × Row)) (n m : ℕ) → n < m → has n rows ≡ true → has n (without_row rows m) ≡ true
still-without [] n m lt there = cc there
still-without (r ∷ rs) n m lt there = by (m == r.0) refl (n == r.0) refl there (λ h. still-without rs n m lt h)
  where
    by : (b : Bool) → (m == r.0) ≡ b → (c : Bool) → (n == r.0) ≡ c → (c || has n rs) ≡ true → (has n rs ≡ true → has n (without_row rs m) ≡ true) → has n (cond b rs (r ∷ without_row rs m)) ≡ true
    by true e true f h go = absurd (omega (arith, lt, eqb-true m r.0 e, eqb-true n r.0 f))
    by true e false f h go = h
    by false e true f h go = ap (λ b. b || has n (without_row rs m)) f
    by false e false f h go = or_right (n == r.0) (has n (without_row rs m)) (go h)

still-by : (rows : List (ℕ × Row)) (n m : ℕ) (vs : Option (List Value)) → n < m → has n rows ≡ true → has n (by_values rows m vs) ≡ true
still-by rows n m None lt there = still-without rows n m lt there
still-by rows n m (Some vs) lt there = still-put rows n m (record { values = vs }) lt there

still : (rows : List (ℕ × Row)) (n least : ℕ) (made : List RowChange) → n < least → rising least (map (λ c. c.number) made) ≡ true → has n rows ≡ true → has n (with_row_changes rows made) ≡ true
still rows n least [] lt up there = there
still rows n least (c ∷ cs) lt up there =
    let parts = and_parts (nat_le least c.number) (rising (c.number + 1) (map (λ c. c.number) cs)) up in
    let le = leb-true least c.number parts.0 in
    let past : n < c.number = omega (arith, lt, le) in
    still (by_values rows c.number c.values) n (c.number + 1) cs (omega (arith, past)) parts.1 (still-by rows n c.number c.values past there)

high : (rows : List (ℕ × Row)) (n next : ℕ) → nat_lt n next ≡ false → has n rows ≡ true → list_all (λ r. nat_lt r.0 next) rows ≡ false
high [] n next past there = cc there
high (r ∷ rs) n next past there = by (n == r.0) refl (nat_lt r.0 next) refl there (λ h. high rs n next past h)
  where
    by : (c : Bool) → (n == r.0) ≡ c → (b : Bool) → nat_lt r.0 next ≡ b → (c || has n rs) ≡ true → (has n rs ≡ true → list_all (λ r. nat_lt r.0 next) rs ≡ false) → (b && list_all (λ r. nat_lt r.0 next) rs) ≡ false
    by c f false g h go = refl
    by true f true g h go = absurd (clash (sym g ∙ ap (λ k. nat_lt k next) (sym (eqb-true n r.0 f)) ∙ past))
      where
        clash : true ≡ false → ⊥
        clash e = cc e
    by false f true g h go = go h

-- a row that is put with the next number or a greater one stays
pub too_high : (next least : ℕ) (rows : List (ℕ × Row)) (made : List RowChange) → rising least (map (λ c. c.number) made) ≡ true → list_all (is_below next) made ≡ false → list_all (λ r. nat_lt r.0 next) (with_row_changes rows made) ≡ false
too_high next least rows [] up past = cc past
too_high next least rows (c ∷ cs) up past =
    let parts = and_parts (nat_le least c.number) (rising (c.number + 1) (map (λ c. c.number) cs)) up in
    by c.values (nat_lt c.number next) refl parts.1 past (λ later e. too_high next (c.number + 1) later cs parts.1 e)
  where
    by : (vs : Option (List Value)) (b : Bool) → nat_lt c.number next ≡ b → rising (c.number + 1) (map (λ c. c.number) cs) ≡ true → ((is_none vs || b) && list_all (is_below next) cs) ≡ false
        → ((later : List (ℕ × Row)) → list_all (is_below next) cs ≡ false → list_all (λ r. nat_lt r.0 next) (with_row_changes later cs) ≡ false)
        → list_all (λ r. nat_lt r.0 next) (with_row_changes (by_values rows c.number vs) cs) ≡ false
    by None b e rest p go = go (without_row rows c.number) p
    by (Some vs) true e rest p go = go (put_row rows c.number (record { values = vs })) p
    by (Some vs) false e rest p go =
        high (with_row_changes (put_row rows c.number (record { values = vs })) cs) c.number next e
        (still (put_row rows c.number (record { values = vs })) c.number (c.number + 1) cs (omega arith) rest (has-put rows c.number (record { values = vs })))

-- what becomes of a table's rows
module _ (t : Rows) (made : List RowChange) where
  pub none_falling : rising 0 (map (λ c. c.number) made) ≡ false → changed_rows t made ≡ None
  none_falling e = rw e refl

  pub none_high : rising 0 (map (λ c. c.number) made) ≡ true → list_all (is_below t.next) made ≡ false → changed_rows t made ≡ None
  none_high up past = rw (up, too_high t.next 0 t.rows made up past) refl

  pub some_changed : (b : Bool) → rising 0 (map (λ c. c.number) made) ≡ true → b ≡ list_all (λ r. nat_lt r.0 t.next) (with_row_changes t.rows made) → changed_rows t made ≡ cond b (Some (record t { rows = with_row_changes t.rows made })) None
  some_changed b up is = rw (up, sym is) refl
