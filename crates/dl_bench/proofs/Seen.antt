-- What a call does to a bench in memory, as it is seen.
use Rattle.std.proofs.Common.{◌≡◌, ℕ, ◌≤◌, List, [], ◌∷◌, ◌++◌, length, take, Some, refl, sym, ◌∙◌, ap, subst}
use Rattle.dl_base.specs.declared.area.Area.{Area}
use Rattle.dl_base.specs.Outside.{ChangesOnly, Says, Torn, replaced}
use Rattle.dl_bench.specs.declared.event.Event.{Event}
use Rattle.dl_bench.specs.declared.event.Event.TheVariants.{Write, Sync, Say}
use Rattle.dl_bench.specs.Replay.{State, start, state_after, outside_of}
use Rattle.dl_bench.specs.Laws.{run-push}
use Rattle.dl_bench.specs.Tallies.{faults}
use Rattle.dl_bench.specs.Traces.{Trace, seen, content}
use Rattle.dl_bench.proofs.Touch.{touches_same, touches_torn, touches_write, touches_sync, touches_sync_old, says_nothing, says_event, says_front, kept-write, kept-sync}

-- was is the old trace, as its fields give it
module _ (was old new : Trace) (is : was ≡ old) (le : faults was.tally ≤ faults new.tally) where
  pub touches_asked : (a : Area) → new.events ≡ was.events → ChangesOnly a ((seen old).image a) (seen old) (seen new)
  touches_asked a same =
      subst (λ (o : Trace). ChangesOnly a ((seen o).image a) (seen o) (seen new)) is
      (subst (λ (es : List Event). ChangesOnly a ((seen was).image a) (seen was) (outside_of es (faults new.tally))) (sym same) (touches_same was.events _ _ a le))

  pub touches_failed_write : (a : Area) (at n : ℕ) → new.events ≡ was.events → ChangesOnly a (Torn at n ((seen old).image a)) (seen old) (seen new)
  touches_failed_write a at n same =
      subst (λ (o : Trace). ChangesOnly a (Torn at n ((seen o).image a)) (seen o) (seen new)) is
      (subst (λ (es : List Event). ChangesOnly a (Torn at n ((seen was).image a)) (seen was) (outside_of es (faults new.tally))) (sym same) (touches_torn was.events _ _ a at n le))

  pub touches_written : (a : Area) (at : ℕ) (bytes : List ℕ) → new.events ≡ was.events ++ Write a at bytes ∷ [] → at ≤ length (content was a)
      → ChangesOnly a (Torn at (length bytes) ((seen old).image a)) (seen old) (seen new)
  touches_written a at bytes more within =
      subst (λ (o : Trace). ChangesOnly a (Torn at (length bytes) ((seen o).image a)) (seen o) (seen new)) is
      (subst (λ (es : List Event). ChangesOnly a (Torn at (length bytes) ((seen was).image a)) (seen was) (outside_of es (faults new.tally))) (sym more) (touches_write was.events _ _ a at bytes le within))

  pub touches_synced : (a : Area) → new.events ≡ was.events ++ Sync a ∷ [] → ChangesOnly a ((seen old).image a) (seen old) (seen new)
  touches_synced a more =
      subst (λ (o : Trace). ChangesOnly a ((seen o).image a) (seen o) (seen new)) is
      (subst (λ (es : List Event). ChangesOnly a ((seen was).image a) (seen was) (outside_of es (faults new.tally))) (sym more) (touches_sync_old was.events _ _ a le))

  pub durable : (a : Area) → new.events ≡ was.events ++ Sync a ∷ [] → (c : List ℕ) → (seen new).image a c → (seen old).reads a ≡ Some c
  durable a more c left =
      let touch = subst (λ (es : List Event). ChangesOnly a (λ x. x ≡ content was a) (seen was) (outside_of es (faults new.tally))) (sym more) (touches_sync was.events _ _ a le) in
      ap (λ (o : Trace). Some (content o a)) (sym is) ∙ ap (λ (l : List ℕ). Some l) (sym (touch.here c left))

  pub says_none : (bytes : List ℕ) → new.events ≡ was.events → Says bytes (seen old) (seen new)
  says_none bytes same =
      subst (λ (o : Trace). Says bytes (seen o) (seen new)) is
      (subst (λ (es : List Event). Says bytes (seen was) (outside_of es (faults new.tally))) (sym same) (says_nothing was.events _ _ bytes le))

  pub says_all : (bytes : List ℕ) → new.events ≡ was.events ++ Say bytes ∷ [] → Says bytes (seen old) (seen new)
  says_all bytes more =
      subst (λ (o : Trace). Says bytes (seen o) (seen new)) is
      (subst (λ (es : List Event). Says bytes (seen was) (outside_of es (faults new.tally))) (sym more) (says_event was.events (Say bytes) _ _ bytes le refl))

  pub says_half : (k : ℕ) (bytes : List ℕ) → new.events ≡ was.events ++ Say (take k bytes) ∷ [] → Says bytes (seen old) (seen new)
  says_half k bytes more = says_front k bytes (seen old) (seen new) (says_all (take k bytes) more)

-- what an event leaves in its area
module _ (was old new : Trace) (is : was ≡ old) where
  pub reads_written : (a : Area) (at : ℕ) (bytes : List ℕ) → new.events ≡ was.events ++ Write a at bytes ∷ [] → at ≤ length (content was a)
      → (seen new).reads a ≡ Some (replaced at bytes (content old a))
  reads_written a at bytes more within =
      ap (λ (es : List Event). Some ((state_after es).kept a)) more
      ∙ ap (λ (l : List ℕ). Some l) (kept-write was.events a at bytes within)
      ∙ ap (λ (o : Trace). Some (replaced at bytes (content o a))) is

  pub reads_synced : (a : Area) → new.events ≡ was.events ++ Sync a ∷ [] → (seen new).reads a ≡ (seen old).reads a
  reads_synced a more =
      ap (λ (es : List Event). Some ((state_after es).kept a)) more
      ∙ ap (λ (l : List ℕ). Some l) (kept-sync was.events a)
      ∙ ap (λ (o : Trace). Some (content o a)) is

  pub told_more : (bytes : List ℕ) → new.events ≡ was.events ++ Say bytes ∷ [] → (seen new).told ≡ Some ((state_after old.events).told ++ bytes)
  told_more bytes more =
      ap (λ (es : List Event). Some (state_after es).told) more
      ∙ ap (λ (s : State). Some s.told) (run-push start was.events (Say bytes))
      ∙ ap (λ (o : Trace). Some ((state_after o.events).told ++ bytes)) is
