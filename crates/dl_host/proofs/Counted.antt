-- A count of faults beside what a host is seen as.
use Rattle.std.proofs.Common.{ℕ, ◌≤◌, List, inl, inr, ⊎_elim}
use Rattle.dl_base.specs.declared.area.Area.{Area}
use Rattle.dl_base.specs.Outside.{Outside, During, ChangesOnly, Says}
use Rattle.dl_host.specs.Hosts.{with_faults}

pub touches_counted : (area : Area) (Q : List ℕ → Type 0) (o n : Outside) (f g : ℕ) → f ≤ g → ChangesOnly area Q o n → ChangesOnly area Q (with_faults f o) (with_faults g n)
touches_counted area Q o n f g le t = record {
  later = t.later;
  faults = le;
  told = t.told;
  still_reads = t.still_reads;
  others_read = t.others_read;
  here = t.here;
  others = t.others;
  since = λ time p before left. ⊎_elim (λ was. inl was) (λ (d : During area Q o p). inr (record { told = d.told; here = d.here; others = d.others })) (t.since time p before left);
  keeps = t.keeps;
}

pub says_counted : (bytes : List ℕ) (o n : Outside) (f g : ℕ) → f ≤ g → Says bytes o n → Says bytes (with_faults f o) (with_faults g n)
says_counted bytes o n f g le s = record {
  later = s.later;
  faults = le;
  still_told = s.still_told;
  told = s.told;
  reads = s.reads;
  images = s.images;
  since = s.since;
  keeps = s.keeps;
}
