-- How calls on a bench follow one another.
use Rattle.std.proofs.Common.{inl, inr, ⊎_elim, ℕ, List, Result, Ok, Err, OnOk, sym, ◌∙◌, refl, arith}
use Rattle.dl_base.specs.declared.area.Area.{Area}
use Rattle.dl_base.specs.Outside.{Outside, CrashState, During, ChangesOnly, Says, AtEveryMoment, TellsFront, Now, IsLawful}

-- no call yet
pub touches_none : (area : Area) (Q : List ℕ → Type 0) (o : Outside) → ((c : List ℕ) → o.image area c → Q c) → ChangesOnly area Q o o
touches_none area Q o here = record {
  later = omega arith;
  faults = omega arith;
  told = refl;
  still_reads = λ is. is;
  others_read = λ a other. refl;
  here = here;
  others = λ a other c left. left;
  since = λ t p le left. inl left;
  keeps = λ t p left. left;
}

-- what is left has R where it has Q
pub touches_more : (area : Area) (Q R : List ℕ → Type 0) (o n : Outside) → ((c : List ℕ) → Q c → R c) → ChangesOnly area Q o n → ChangesOnly area R o n
touches_more area Q R o n wider t = record {
  later = t.later;
  faults = t.faults;
  told = t.told;
  still_reads = t.still_reads;
  others_read = t.others_read;
  here = λ c left. wider c (t.here c left);
  others = t.others;
  since = λ time p le left. ⊎_elim (λ was. inl was) (λ (d : During area Q o p). inr (record { told = d.told; here = wider _ d.here; others = d.others })) (t.since time p le left);
  keeps = t.keeps;
}

-- one call after another
pub touches_then : (area : Area) (Q : List ℕ → Type 0) (o m n : Outside) → ChangesOnly area Q o m → ChangesOnly area Q m n → ChangesOnly area Q o n
touches_then area Q o m n first second = record {
  later = omega (arith, first.later, second.later);
  faults = omega (arith, first.faults, second.faults);
  told = second.told ∙ first.told;
  still_reads = λ is. second.still_reads (first.still_reads is);
  others_read = λ a other. second.others_read a other ∙ first.others_read a other;
  here = second.here;
  others = λ a other c left. first.others a other c (second.others a other c left);
  since = λ t p le left. ⊎_elim
      (λ was. first.since t p le was)
      (λ (d : During area Q m p). inr (record { told = sym first.told ∙ d.told; here = d.here; others = λ a other. first.others a other _ (d.others a other) }))
      (second.since t p (omega (arith, le, first.later)) left);
  keeps = λ t p left. second.keeps t p (first.keeps t p left);
}

-- the same for calls on several areas
pub moments_none : (P : CrashState → Type 0) (o : Outside) → AtEveryMoment P o o
moments_none P o = record { later = omega arith; faults = omega arith; since = λ t p le left. inl left; keeps = λ t p left. left }

pub moments_then : (P : CrashState → Type 0) (o m n : Outside) → AtEveryMoment P o m → AtEveryMoment P m n → AtEveryMoment P o n
moments_then P o m n first second = record {
  later = omega (arith, first.later, second.later);
  faults = omega (arith, first.faults, second.faults);
  since = λ t p le left. ⊎_elim (λ was. first.since t p le was) (λ now. inr now) (second.since t p (omega (arith, le, first.later)) left);
  keeps = λ t p left. second.keeps t p (first.keeps t p left);
}

pub moments_more : (P R : CrashState → Type 0) (o n : Outside) → ((p : CrashState) → P p → R p) → AtEveryMoment P o n → AtEveryMoment R o n
moments_more P R o n wider m = record {
  later = m.later;
  faults = m.faults;
  since = λ t p le left. ⊎_elim (λ was. inl was) (λ now. inr (wider p now)) (m.since t p le left);
  keeps = m.keeps;
}

pub moments_touch : (area : Area) (Q : List ℕ → Type 0) (P : CrashState → Type 0) (o n : Outside) → ((p : CrashState) → During area Q o p → P p) → ChangesOnly area Q o n → AtEveryMoment P o n
moments_touch area Q P o n is t = record {
  later = t.later;
  faults = t.faults;
  since = λ time p le left. ⊎_elim (λ was. inl was) (λ now. inr (is p now)) (t.since time p le left);
  keeps = t.keeps;
}

pub moments_say : (bytes : List ℕ) (P : CrashState → Type 0) (o n : Outside) → ((p : CrashState) → TellsFront bytes o.told p.told → ((a : Area) → o.image a (p.areas a)) → P p) → Says bytes o n → AtEveryMoment P o n
moments_say bytes P o n is s = record {
  later = s.later;
  faults = s.faults;
  since = λ t p le left. ⊎_elim (λ was. inl was) (λ now. inr (is p now.0 now.1)) (s.since t p le left);
  keeps = s.keeps;
}

-- what follows from a clause on `Ok`
pub on_ok : {A E : Type 0} (r : Result A E) (P Q : Type 0) → (P → Q) → OnOk r P → OnOk r Q
on_ok (Ok x) P Q f p = f p
on_ok (Err e) P Q f p = tt

-- of a run as a whole: what a crash at any moment since its begin leaves
pub since_begin : (P : CrashState → Type 0) (o n : Outside) → IsLawful o → AtEveryMoment P o n → ((p : CrashState) → Now o p → P p) → (p : CrashState) → n.since o.moment p → P p
since_begin P o n law m first p left = ⊎_elim (λ was. first p (law.only_now p was)) (λ now. now) (m.since o.moment p (omega arith) left)
