-- Calls that touch nothing, and what stays held.
use Rattle.std.proofs.Common.{◌≡◌, ◌≢◌, ℕ, zero, suc, List, [], ◌++◌, take, true, Option, Some, IsSome, refl, sym, ◌∙◌, ap, subst, append-nil, inl, inr, ⊎_elim}
use Rattle.dl_base.specs.declared.area.Area.{Area}
use Rattle.dl_base.specs.Outside.{Outside, ChangesOnly, Says, Torn, TellsFront}
use Rattle.dl_base.proofs.Areas.{same_area}
use Rattle.dl_base.proofs.Moments.{touches_more, touches_then}
use Rattle.dl_host.specs.Hosts.{Hold, Stays}
use Rattle.dl_host.specs.Held.{AreHeld}
use Rattle.dl_host.proofs.Loops.{nothing_torn, told_none, says_on}

no_front : (n : ℕ) → ◌≡◌ {A = List ℕ} (take n []) []
no_front zero = refl
no_front (suc n) = refl

same_told : (n : ℕ) (told p : List ℕ) (o : Option (List ℕ)) → o ≡ Some told → p ≡ told ++ take n [] → o ≡ Some p
same_told n told p o is front = is ∙ ap (λ (l : List ℕ). Some l) (sym (front ∙ ap (λ (l : List ℕ). told ++ l) (no_front n) ∙ append-nil told))

-- a call that tells nothing touches no area
pub idle_touches : (area : Area) (o n : Outside) → n.told ≡ o.told → Says [] o n → ChangesOnly area (o.image area) o n
idle_touches area o n same s = record {
  later = s.later;
  faults = s.faults;
  told = same;
  still_reads = λ some. subst (λ (x : Option (List ℕ)). IsSome x) (sym (s.reads area)) some;
  others_read = λ a other. s.reads a;
  here = s.images area;
  others = λ a other c left. s.images a c left;
  since = λ t p le left. ⊎_elim
      (λ was. inl was)
      (λ now. inr (record { told = same_told now.0.0 now.0.1 p.told o.told now.0.2 now.0.3; here = now.1 area; others = λ a other. now.1 a }))
      (s.since t p le left);
  keeps = s.keeps;
}

-- a write behind a call that changes nothing in the area
pub torn_behind : (area : Area) (at n : ℕ) (o m l : Outside) → ChangesOnly area (o.image area) o m → ChangesOnly area (Torn at n (m.image area)) m l → ChangesOnly area (Torn at n (o.image area)) o l
torn_behind area at n o m l first second = touches_then area (Torn at n (o.image area)) o m l (touches_more area (o.image area) (Torn at n (o.image area)) o m (λ c left. nothing_torn at n (o.image area) c left) first)
    (touches_more area (Torn at n (m.image area)) (Torn at n (o.image area)) m l (λ c torn. (torn.0, first.here torn.0 torn.1, torn.2)) second)

pub torn_unwritten : (area : Area) (at n : ℕ) (o m : Outside) → ChangesOnly area (o.image area) o m → ChangesOnly area (Torn at n (o.image area)) o m
torn_unwritten area at n o m first = touches_more area (o.image area) (Torn at n (o.image area)) o m (λ c left. nothing_torn at n (o.image area) c left) first

front_wider : (bytes : List ℕ) (o : Option (List ℕ)) (p : List ℕ) → TellsFront [] o p → TellsFront bytes o p
front_wider bytes o p front = (0, front.1, front.2, front.3 ∙ ap (λ (l : List ℕ). front.1 ++ l) (no_front front.0))

pub says_wider : (bytes : List ℕ) (o m : Outside) → Says [] o m → Says bytes o m
says_wider bytes o m s = record {
  later = s.later;
  faults = s.faults;
  still_told = s.still_told;
  told = λ told is. front_wider bytes o.told told (s.told told is);
  reads = s.reads;
  images = s.images;
  since = λ t p le left. ⊎_elim (λ was. inl was) (λ now. inr (front_wider bytes o.told p.told now.0, now.1)) (s.since t p le left);
  keeps = s.keeps;
}

-- bytes are told behind a call that tells nothing
pub says_idle : (bytes : List ℕ) (o m l : Outside) → m.told ≡ o.told → Says [] o m → Says bytes m l → Says bytes o l
says_idle bytes o m l same first second = says_on bytes 0 o m l (same ∙ told_none bytes o.told) (says_wider bytes o m first) second

pub held_stays : (F : Type 0) (area_of : F → Area) (slot : Area → Option F) (h k : Hold) → AreHeld F area_of slot h → Stays h k → AreHeld F area_of slot k
held_stays F area_of slot h k held stays = record { here = held.here; named = λ a file is. stays.names a (held.named a file is) }

-- one more file is open
pub held_more : (F : Type 0) (area_of : F → Area) (slot later : Area → Option F) (h k : Hold) (area : Area) (file : F) → AreHeld F area_of slot h → Stays h k
    → later area ≡ Some file → ((a : Area) → a ≢ area → later a ≡ slot a) → area_of file ≡ area → k.is_named area ≡ true → AreHeld F area_of later k
held_more F area_of slot later h k area file held stays now others here named = record {
  here = λ a f is. ⊎_elim
      (λ (same : a ≡ area). let f_is : f ≡ file = cc (is, same, now) in ap area_of f_is ∙ here ∙ sym same)
      (λ (other : a ≢ area). held.here a f (sym (others a other) ∙ is))
      (same_area a area);
  named = λ a f is. ⊎_elim
      (λ (same : a ≡ area). ap k.is_named same ∙ named)
      (λ (other : a ≢ area). stays.names a (held.named a f (sym (others a other) ∙ is)))
      (same_area a area);
}
