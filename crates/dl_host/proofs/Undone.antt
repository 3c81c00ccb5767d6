-- Calls that are made again: one that was interrupted did nothing.
use Rattle.std.proofs.Common.{◌≡◌, ℕ, ◌+◌, ◌-◌, ◌≤◌, ◌<◌, ◌^◌, List, true, refl, ◌∙◌, ap, arith}
use Rattle.dl_base.specs.declared.area.Area.{Area}
use Rattle.dl_base.specs.Outside.{Outside, ChangesOnly, Says}
use Rattle.dl_base.proofs.Moments.{touches_none}
use Rattle.dl_host.specs.declared.host.Stop.{Stop}
use Rattle.dl_host.specs.declared.host.Stop.TheVariants.{Interrupted}
use Rattle.dl_host.specs.Hosts.{Hold, Stays, count_after, is_fault, is_interruption}
use Rattle.dl_host.proofs.Loops.{stays_none, stays_then, says_none, says_on, told_none}

-- So many calls were interrupted, from o to m: the area reads as it did.
pub record Undone (area : Area) (Q : List ℕ → Type 0) (o m : Outside) (h k : Hold) (turns interruptions : ℕ) : Type 0 where
  pub counted : turns ≤ interruptions
  pub same : m.reads area ≡ o.reads area
  pub clean : m.faults ≡ o.faults
  pub crash : ChangesOnly area Q o m
  pub locked : k.has_lock ≡ true
  pub stays : Stays h k

pub undone_none : (area : Area) (Q : List ℕ → Type 0) (o : Outside) (h : Hold) (n : ℕ) → ((c : List ℕ) → o.image area c → Q c) → h.has_lock ≡ true → Undone area Q o o h h 0 n
undone_none area Q o h n kept locked = record {
  counted = omega arith;
  same = refl;
  clean = refl;
  crash = touches_none area Q o kept;
  locked = locked;
  stays = stays_none h;
}

-- an interrupted call is no fault
clean_on : (why : Stop) (n now : ℕ) → why ≡ Interrupted → now ≡ count_after (is_fault why) n → now ≡ n
clean_on why n now is counts = counts ∙ ap (λ (w : Stop). count_after (is_fault w) n) is

-- one more was counted
counted_on : (why : Stop) (turns n now : ℕ) → why ≡ Interrupted → now ≡ count_after (is_interruption why) n → turns ≤ n → turns < 2 ^ 64 - 1 → turns + 1 ≤ now
counted_on why turns n now is counts le few = let one : now ≡ count_after (is_interruption Interrupted) n = counts ∙ ap (λ (w : Stop). count_after (is_interruption w) n) is in omega arith

pub undone_on : {area : Area} {Q : List ℕ → Type 0} {o m l : Outside} {h k j : Hold} {turns n now : ℕ} {why : Stop} → Undone area Q o m h k turns n → why ≡ Interrupted
    → l.faults ≡ count_after (is_fault why) m.faults → now ≡ count_after (is_interruption why) n → turns < 2 ^ 64 - 1 → l.reads area ≡ m.reads area → ChangesOnly area Q o l → Stays k j → Undone area Q o l h j (turns + 1) now
undone_on u is faults counts few same crash stays = record {
  counted = counted_on _ _ _ _ is counts u.counted few;
  same = same ∙ u.same;
  clean = clean_on _ _ _ is faults ∙ u.clean;
  crash = crash;
  locked = stays.lock u.locked;
  stays = stays_then _ _ _ u.stays stays;
}

-- the same of calls that tell
pub record Untold (bytes : List ℕ) (o m : Outside) (h k : Hold) (turns interruptions : ℕ) : Type 0 where
  pub counted : turns ≤ interruptions
  pub same : m.told ≡ o.told
  pub clean : m.faults ≡ o.faults
  pub crash : Says bytes o m
  pub stays : Stays h k

pub untold_none : (bytes : List ℕ) (o : Outside) (h : Hold) (n : ℕ) → Untold bytes o o h h 0 n
untold_none bytes o h n = record { counted = omega arith; same = refl; clean = refl; crash = says_none bytes o; stays = stays_none h }

pub says_again : (bytes : List ℕ) (o m l : Outside) → m.told ≡ o.told → Says bytes o m → Says bytes m l → Says bytes o l
says_again bytes o m l same first second = says_on bytes 0 o m l (same ∙ told_none bytes o.told) first second

pub untold_on : {bytes : List ℕ} {o m l : Outside} {h k j : Hold} {turns n now : ℕ} {why : Stop} → Untold bytes o m h k turns n → why ≡ Interrupted
    → l.faults ≡ count_after (is_fault why) m.faults → now ≡ count_after (is_interruption why) n → turns < 2 ^ 64 - 1 → l.told ≡ m.told → Says bytes m l → Stays k j → Untold bytes o l h j (turns + 1) now
untold_on u is faults counts few same says stays = record {
  counted = counted_on _ _ _ _ is counts u.counted few;
  same = same ∙ u.same;
  clean = clean_on _ _ _ is faults ∙ u.clean;
  crash = says_again _ _ _ _ u.same u.crash says;
  stays = stays_then _ _ _ u.stays stays;
}
