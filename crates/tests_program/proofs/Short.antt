-- What a call of a folder in memory does, as it is seen: the bench of the call is the one that was there before it, and
-- the count of faults doesn't fall.
use Rattle.std.proofs.Common.{◌≡◌, ℕ, ◌+◌, ◌-◌, ◌<◌, ◌≤◌, List, [], ◌∷◌, length, get_or, take, drop, slice_set, Some, ◌∙◌, refl, sym, ap, subst, arith}
use Rattle.std.proofs.lemmas.List.{drop-drop, drop_more}
use Rattle.dl_base.specs.declared.area.Area.{Area}
use Rattle.dl_base.specs.Outside.{ChangesOnly, Says, Torn, TornFrom}
use Rattle.dl_base.specs.Sources.{Took}
use Rattle.dl_base.proofs.Moments.{touches_none, touches_more}
use Rattle.dl_host.specs.Hosts.{with_faults}
use Rattle.dl_host.proofs.Counted.{touches_counted, says_counted}
use Rattle.dl_host.proofs.Loops.{nothing_torn, says_none}
use Rattle.dl_bench.specs.Traces.{Trace, seen}
use Rattle.dl_bench.proofs.Touch.{says_front}

-- a torn write of some bytes is one of more
torn_more : (at n m : ℕ) (c d : List ℕ) → n ≤ m → TornFrom at n c d → TornFrom at m c d
torn_more at n m c d le torn =
    let rest : (at + n) + (m - n) ≡ at + m = omega (arith, le) in
    let past : (x : List ℕ) → drop (m - n) (drop (at + n) x) ≡ drop (at + m) x = λ x. drop-drop (m - n) (at + n) x ∙ ap (λ (k : ℕ). drop k x) rest in
    record {
      before = torn.before;
      after = sym (past d) ∙ ap (λ (l : List ℕ). drop (m - n) l) torn.after ∙ past c;
      no_shorter = torn.no_shorter;
      no_longer = omega (arith, torn.no_longer, le);
    }

-- a call that did nothing
module _ (b e : Trace) (same : e ≡ b) (f g : ℕ) (le : f ≤ g) where
  pub touches_idle : (area : Area) → ChangesOnly area ((seen b).image area) (with_faults f (seen b)) (with_faults g (seen e))
  touches_idle area =
      subst (λ (t : Trace). ChangesOnly area ((seen b).image area) (with_faults f (seen b)) (with_faults g (seen t))) (sym same)
      (touches_counted area ((seen b).image area) (seen b) (seen b) f g le (touches_none area ((seen b).image area) (seen b) (λ c left. left)))

  pub writes_idle : (area : Area) (at n : ℕ) → ChangesOnly area (Torn at n ((seen b).image area)) (with_faults f (seen b)) (with_faults g (seen e))
  writes_idle area at n =
      let Q = Torn at n ((seen b).image area) in
      subst (λ (t : Trace). ChangesOnly area Q (with_faults f (seen b)) (with_faults g (seen t))) (sym same)
      (touches_counted area Q (seen b) (seen b) f g le (touches_none area Q (seen b) (λ c left. nothing_torn at n ((seen b).image area) c left)))

  pub says_idle : (bytes : List ℕ) → Says bytes (with_faults f (seen b)) (with_faults g (seen e))
  says_idle bytes = subst (λ (t : Trace). Says bytes (with_faults f (seen b)) (with_faults g (seen t))) (sym same) (says_counted bytes (seen b) (seen b) f g le (says_none bytes (seen b)))

-- a call that the bench did, from m to l
module _ (b m l e : Trace) (same : m ≡ b) (after : e ≡ l) (f g : ℕ) (le : f ≤ g) where
  pub touches_done : (area : Area) → ChangesOnly area ((seen m).image area) (seen m) (seen l) → ChangesOnly area ((seen b).image area) (with_faults f (seen b)) (with_faults g (seen e))
  touches_done area t =
      subst (λ (x : Trace). ChangesOnly area ((seen x).image area) (with_faults f (seen x)) (with_faults g (seen e))) same
      (subst (λ (x : Trace). ChangesOnly area ((seen m).image area) (with_faults f (seen m)) (with_faults g (seen x))) (sym after)
      (touches_counted area ((seen m).image area) (seen m) (seen l) f g le t))

  -- a write of the first k of n bytes
  pub writes_short : (area : Area) (at k n : ℕ) → k ≤ n → ChangesOnly area (Torn at k ((seen m).image area)) (seen m) (seen l) → ChangesOnly area (Torn at n ((seen b).image area)) (with_faults f (seen b)) (with_faults g (seen e))
  writes_short area at k n short t =
      subst (λ (x : Trace). ChangesOnly area (Torn at n ((seen x).image area)) (with_faults f (seen x)) (with_faults g (seen e))) same
      (subst (λ (x : Trace). ChangesOnly area (Torn at n ((seen m).image area)) (with_faults f (seen m)) (with_faults g (seen x))) (sym after)
      (touches_counted area (Torn at n ((seen m).image area)) (seen m) (seen l) f g le
      (touches_more area (Torn at k ((seen m).image area)) (Torn at n ((seen m).image area)) (seen m) (seen l) (λ c torn. (torn.0, torn.1, torn_more at k n torn.0 c short torn.2)) t)))

  -- a front of the bytes was told
  pub says_short : (k : ℕ) (bytes : List ℕ) → Says (take k bytes) (seen m) (seen l) → Says bytes (with_faults f (seen b)) (with_faults g (seen e))
  says_short k bytes s =
      subst (λ (x : Trace). Says bytes (with_faults f (seen x)) (with_faults g (seen e))) same
      (subst (λ (x : Trace). Says bytes (with_faults f (seen m)) (with_faults g (seen x))) (sym after)
      (says_counted bytes (seen m) (seen l) f g le (says_front k bytes (seen m) (seen l) s)))

-- one byte was read into the front of a buffer
pub took_one : (at : ℕ) (xs into : List ℕ) → at < length xs → 0 < length into → Took (take 1 (slice_set into 0 (get_or xs at 0))) (Some (drop at xs)) (Some (drop (at + 1) xs))
took_one at xs [] lt some = absurd (omega (arith, some))
took_one at xs (i ∷ is) lt some = λ left is_left. let here : left ≡ drop at xs = cc is_left in (drop (at + 1) xs, refl, here ∙ drop_more xs at 0 lt)
