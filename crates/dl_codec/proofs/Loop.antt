-- Reading values one after another, as a loop does.
use Rattle.std.proofs.Common.{◌≡◌, ℕ, suc, ◌-◌, ◌+◌, ◌≤◌, ◌<◌, List, [], ◌∷◌, ◌++◌, Option, Some, None, refl, sym, ap, ◌∙◌, append_assoc, arith}
use Rattle.std.proofs.lemmas.List.{append-nil}
use Rattle.dl_codec.specs.declared.read_fault.ReadFault.{ReadFault}
use Rattle.dl_codec.specs.declared.read_fault.ReadFault.TheVariants.{Bad, Memory}
use Rattle.dl_base.specs.Steps.{◌>>=◌}
use Rattle.dl_codec.specs.Layout.{Fails, times}

module _ {A : Type 0} (read : List ℕ → Option (A × List ℕ)) where
  -- what was read before, and what is still read
  abbrev pub with_front : List A → Option (List A × List ℕ) → Option (List A × List ℕ)
  with_front front more = more >>= λ x. Some (front ++ x.0, x.1)

  regroup : (front : List A) (x : A) (more : Option (List A × List ℕ)) → with_front front (more >>= λ y. Some (x ∷ y.0, y.1)) ≡ with_front (front ++ x ∷ []) more
  regroup front x (Some y) = ap (λ (xs : List A). Some (xs, y.1)) (simp append_assoc)
  regroup front x None = refl

  pub goes_on : (front : List A) (count i : ℕ) (bytes : List ℕ) (x : A) (after : List ℕ) (total : Option (List A × List ℕ)) → i < count → read bytes ≡ Some (x, after)
      → with_front front (times read (count - i) bytes) ≡ total → with_front (front ++ x ∷ []) (times read (count - (i + 1)) after) ≡ total
  goes_on front count i bytes x after total lt h so_far =
      let k : count - i ≡ suc (count - (i + 1)) = omega arith in
      let one : with_front front (times read (count - i) bytes) ≡ with_front (front ++ x ∷ []) (times read (count - (i + 1)) after) = rw (k, h) (regroup front x (times read (count - (i + 1)) after)) in
      sym one ∙ so_far

  pub ends : (e : ReadFault) (front : List A) (count i : ℕ) (bytes : List ℕ) (total : Option (List A × List ℕ)) → i < count → Fails e (read bytes)
      → with_front front (times read (count - i) bytes) ≡ total → Fails e total
  ends Memory front count i bytes total lt h so_far = tt
  ends Bad front count i bytes total lt h so_far =
      let k : count - i ≡ suc (count - (i + 1)) = omega arith in
      let one : with_front front (times read (count - i) bytes) ≡ None = rw (k, h) refl in
      sym so_far ∙ one

  pub is_done : (front : List A) (count i : ℕ) (bytes : List ℕ) (total : Option (List A × List ℕ)) → count ≤ i → with_front front (times read (count - i) bytes) ≡ total → total ≡ Some (front, bytes)
  is_done front count i bytes total le so_far =
      let k : count - i ≡ 0 = omega arith in
      let one : with_front front (times read (count - i) bytes) ≡ Some (front, bytes) = rw k (ap (λ (xs : List A). Some (xs, bytes)) (append-nil front)) in
      sym so_far ∙ one
