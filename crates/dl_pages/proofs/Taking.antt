-- A page whose part has one item less.
use Rattle.std.proofs.Common.{◌≡◌, ℕ, zero, suc, ◌+◌, ◌-◌, ◌<◌, ◌≤◌, List, [], ◌∷◌, ◌++◌, length, take, drop, get_or, refl, sym, ap, ◌∙◌, subst, arith, length-append, length-take}
use Rattle.std.specs.List.{slice_set, remove}
use Rattle.std.proofs.lemmas.List.Edits.{length-remove}
use Rattle.dl_pages.specs.Listing.{flatten, AreFilled, HasRank, IsSeat}
use Rattle.dl_pages.proofs.Parts.{split_at, remove_split, len_step, flatten_split, flatten_at}
use denote.Param.Weighed.{most, at_most}

module _ {T : Type 0} where
  drop-at : (i : ℕ) (ps : List (List T × ℕ)) (d : List T × ℕ) → i < length ps → drop i ps ≡ get_or ps i d ∷ drop (suc i) ps
  drop-at i [] d within = absurd (omega arith)
  drop-at zero (p ∷ ps) d within = refl
  drop-at (suc i) (p ∷ ps) d within = drop-at i ps d (omega arith)

  -- how many items there are up to a part
  pub len_at : (i : ℕ) (ps : List (List T × ℕ)) (p d : List T × ℕ) → p ≡ get_or ps i d → i < length ps → length (flatten (take (i + 1) ps)) ≡ length (flatten (take i ps)) + length p.0
  len_at i ps p d is within = len_step i ps (drop (suc i) ps) p (drop-at i ps d within ∙ ap (λ q. q ∷ drop (suc i) ps) (sym is))

  take-set : (n i : ℕ) (ps : List (List T × ℕ)) (q : List T × ℕ) → take n (slice_set ps i q) ≡ slice_set (take n ps) i q
  take-set zero i ps q = refl
  take-set (suc n) i [] q = refl
  take-set (suc n) zero (p ∷ ps) q = refl
  take-set (suc n) (suc i) (p ∷ ps) q = ap (λ l. p ∷ l) (take-set n i ps q)

  set-split : (i : ℕ) (ps : List (List T × ℕ)) (q : List T × ℕ) → i < length ps → slice_set ps i q ≡ take i ps ++ q ∷ drop (suc i) ps
  set-split i [] q within = absurd (omega arith)
  set-split zero (p ∷ ps) q within = refl
  set-split (suc i) (p ∷ ps) q within = ap (λ l. p ∷ l) (set-split i ps q (omega arith))

  get-take : (n i : ℕ) (ps : List (List T × ℕ)) (d : List T × ℕ) → i < length (take n ps) → get_or (take n ps) i d ≡ get_or ps i d
  get-take zero i ps d within = absurd (omega arith)
  get-take (suc n) i [] d within = absurd (omega arith)
  get-take (suc n) zero (p ∷ ps) d within = refl
  get-take (suc n) (suc i) (p ∷ ps) d within = get-take n i ps d (omega arith)

  -- the place of a part among those that are used is one among all
  pub seat_within : (n i at left : ℕ) (ps : List (List T × ℕ)) → IsSeat (take n ps) i at left → (at < n) × (at < length ps)
  seat_within n i at left ps seat = omega (arith, seat.0, length-take n ps)

  -- an item is in the part that it is said to be in
  pub seat_part : (n i at left : ℕ) (ps : List (List T × ℕ)) (d : List T × ℕ) → IsSeat (take n ps) i at left → left < length (get_or ps at d).0
  seat_part n i at left ps d seat = omega (arith, seat.1, seat.2, len_at at (take n ps) (get_or ps at d) d (sym (get-take n at ps d seat.0)) seat.0)

  pub part_below : (i : ℕ) (ps : List (List T × ℕ)) (d : List T × ℕ) → i < length ps → (get_or ps i d).1 < most (λ v. v.1 + 1) ps
  part_below i ps d within = omega (arith, at_most (λ v. v.1 + 1) ps i d within)

  -- nothing changes where a part is put in its own place
  pub set_same : (i : ℕ) (ps : List (List T × ℕ)) (q d : List T × ℕ) → i < length ps → q ≡ get_or ps i d → slice_set ps i q ≡ ps
  set_same i [] q d within is = refl
  set_same zero (p ∷ ps) q d within is = rw is refl
  set_same (suc i) (p ∷ ps) q d within is = ap (λ l. p ∷ l) (set_same i ps q d (omega arith) is)

  -- the items of parts of which one has an item less
  pub flatten_taken : (n i at left : ℕ) (ps : List (List T × ℕ)) (q d : List T × ℕ) → IsSeat (take n ps) i at left → q.0 ≡ remove (get_or ps at d).0 left → flatten (take n (slice_set ps at q)) ≡ remove (flatten (take n ps)) i
  flatten_taken n i at left ps q d seat is =
      ap flatten (take-set n at ps q ∙ set-split at (take n ps) q seat.0) ∙ flatten_split (take at (take n ps) ++ q ∷ drop (suc at) (take n ps)) (take at (take n ps)) (drop (suc at) (take n ps)) q refl ∙ ap (λ l. flatten (take at (take n ps)) ++ (l ++ flatten (drop (suc at) (take n ps)))) is ∙ sym (remove_split (take n ps) (take at (take n ps)) (drop (suc at) (take n ps)) (get_or ps at d) i left (split_at at (take n ps) (drop (suc at) (take n ps)) (get_or ps at d) (drop-at at (take n ps) d seat.0 ∙ ap (λ q. q ∷ drop (suc at) (take n ps)) (get-take n at ps d seat.0))) seat.1 (seat_part n i at left ps d seat))

  filled-set : (i : ℕ) (ps : List (List T × ℕ)) (q : List T × ℕ) → AreFilled ps → 0 < length q.0 → AreFilled (slice_set ps i q)
  filled-set i [] q filled some = tt
  filled-set zero (p ∷ ps) q filled some = (some, filled.1)
  filled-set (suc i) (p ∷ ps) q filled some = (filled.0, filled-set i ps q filled.1 some)

  pub filled_taken : (n i : ℕ) (ps : List (List T × ℕ)) (q : List T × ℕ) → AreFilled (take n ps) → 0 < length q.0 → AreFilled (take n (slice_set ps i q))
  filled_taken n i ps q filled some = subst AreFilled (sym (take-set n i ps q)) (filled-set i (take n ps) q filled some)

  -- parts stand as high where one stands as high as before
  pub most_taken : (i : ℕ) (ps : List (List T × ℕ)) (q d : List T × ℕ) → i < length ps → q.1 ≡ (get_or ps i d).1 → most (λ v. v.1 + 1) (slice_set ps i q) ≡ most (λ v. v.1 + 1) ps
  most_taken i [] q d within is = absurd (omega arith)
  most_taken zero (p ∷ ps) q d within is = rw is refl
  most_taken (suc i) (p ∷ ps) q d within is = rw (most_taken i ps q d (omega arith) is) refl

  -- the rank of the first part is that of all
  pub rank_taken : (rank : T → ℕ) (r n : ℕ) (ps : List (List T × ℕ)) (d : List T × ℕ) → AreFilled (take n ps) → HasRank rank r (get_or ps 0 d).0 → HasRank rank r (flatten (take n ps))
  rank_taken rank r zero ps d filled is = tt
  rank_taken rank r (suc n) [] d filled is = tt
  rank_taken rank r (suc n) (p ∷ ps) d filled is = first p.0 filled.0 is
    where
      first : (xs : List T) → 0 < length xs → HasRank rank r xs → HasRank rank r (xs ++ flatten (take n ps))
      first [] some is = absurd (omega arith)
      first (x ∷ xs) some is = is

  up-to : (m : ℕ) (ps : List (List T × ℕ)) → length (flatten (take m ps)) ≤ length (flatten ps)
  up-to m ps = omega (arith, ap length (flatten_at m ps), length-append (flatten (take m ps)) (flatten (drop m ps)))

  within-all : (n i at left : ℕ) (ps : List (List T × ℕ)) → IsSeat (take n ps) i at left → i < length (flatten (take n ps))
  within-all n i at left ps seat = omega (arith, seat.2, up-to (at + 1) (take n ps))

  -- what stays true of a part as an item is taken out of its leaf
  pub taken_row : (rank : T → ℕ) (len r i : ℕ) (xs ys : List T) → len ≡ length xs → i < length xs → (ys ≡ remove xs i) × HasRank rank r ys → (len - 1 ≡ length ys) × HasRank rank r ys
  taken_row rank len r i xs ys total within is = (omega (arith, total, ap length is.0, length-remove xs i within), is.1)

  -- what stays true of a page as an item is taken out of a part
  pub taken_kept : (rank : T → ℕ) (n len r i at left : ℕ) (ps : List (List T × ℕ)) (q d e : List T × ℕ) → n ≤ 4 → len ≡ length (flatten (take n ps)) → AreFilled (take n ps) → IsSeat (take n ps) i at left → q.0 ≡ remove (get_or ps at d).0 left → 1 < length (get_or ps at d).0 → HasRank rank r (get_or (slice_set ps at q) 0 e).0 → (n ≤ 4) × (len - 1 ≡ length (flatten (take n (slice_set ps at q)))) × HasRank rank r (flatten (take n (slice_set ps at q))) × AreFilled (take n (slice_set ps at q))
  taken_kept rank n len r i at left ps q d e few total filled seat is some ranked =
      let within : left < length (get_or ps at d).0 = seat_part n i at left ps d seat in
      let one : length q.0 + 1 ≡ length (get_or ps at d).0 = ap (λ l. length l + 1) is ∙ length-remove (get_or ps at d).0 left within in
      let full : AreFilled (take n (slice_set ps at q)) = filled_taken n at ps q filled (omega (arith, one, some)) in
      (few, omega (arith, total, ap length (flatten_taken n i at left ps q d seat is), length-remove (flatten (take n ps)) i (within-all n i at left ps seat)), rank_taken rank r n (slice_set ps at q) e full ranked, full)
