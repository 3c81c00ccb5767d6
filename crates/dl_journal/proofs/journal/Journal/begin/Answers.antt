use Rattle.std.proofs.Common.{◌+◌, ◌<◌, List, [], ℕ, length, refl, ◌∙◌, sym, subst, ap, arith, Ok}
use Rattle.dl_base.specs.Sources.{RoseFrom}
use Rattle.dl_journal.specs.Records.{records, IsAtRest}
use Rattle.dl_journal.proofs.Records.{records-short, records-at_rest}
use Rattle.dl_journal.proofs.Faults.{ok_no_err, handed_on, device_no_place, device_no_memory}
use Rattle.dl_journal.proofs.Steps.{opening_on, opening_read, stays, gate_within, keeps_none, ends_within, none_has}
use Rattle.dl_journal.proofs.journal.Journal.begin.Goals as goal

pub returns-in_err-write_first_gate-clause-images : goal.returns-in_err-write_first_gate-clause-images
returns-in_err-write_first_gate-clause-images g c = opening_on _ _ _ _ c.read_all.ensures.same c.read_all.ensures.images c.write_first_gate.ensures.images

pub returns-then-len-lt2-clause-images : goal.returns-then-len-lt2-clause-images
returns-then-len-lt2-clause-images g c = opening_on _ _ _ _ c.read_all.ensures.same c.read_all.ensures.images c.write_first_gate.ensures.images

pub returns-then-len-lt2-clause-bodies : goal.returns-then-len-lt2-clause-bodies
returns-then-len-lt2-clause-bodies g c = λ told is.
    let short : length told < 2 = omega (arith, ap length (c.in_ok-bytes.ensures.value told is), c.len.ensures) in
    records-short told short ∙ ap (λ (l : List (List ℕ)). Ok l) (sym c.empty.ensures)

pub returns-clause-bodies : goal.returns-clause-bodies
returns-clause-bodies g c = λ told is.
    ap records (sym (c.in_ok-bytes.ensures.value told is) ∙ sym c.deref.ensures.value) ∙ records-at_rest c.in_ok-bodies.bodies _ c.in_ok-bodies.ensures.found.0

pub returns-in_err-write_first_gate-clause-same_list : goal.returns-in_err-write_first_gate-clause-same_list
returns-in_err-write_first_gate-clause-same_list g c = λ told d was is. c.write_first_gate.ensures.same_list told d (c.read_all.ensures.same ∙ was) is

pub returns-then-len-lt2-clause-same_list : goal.returns-then-len-lt2-clause-same_list
returns-then-len-lt2-clause-same_list g c = λ told d was is. c.write_first_gate.ensures.same_list told d (c.read_all.ensures.same ∙ was) is

pub returns-clause-first_gate : goal.returns-clause-first_gate
returns-clause-first_gate g c = λ told is short d left. absurd (omega (arith, short, ap length (c.in_ok-bytes.ensures.value told is), c.len.ensures))

-- ---- what a crash leaves

pub returns-in_err-bytes-clause-images : goal.returns-in_err-bytes-clause-images
returns-in_err-bytes-clause-images g c = opening_read _ _ _ c.read_all.ensures.images

pub returns-in_err-bodies-clause-images : goal.returns-in_err-bodies-clause-images
returns-in_err-bodies-clause-images g c = opening_read _ _ _ c.read_all.ensures.images

pub returns-clause-images : goal.returns-clause-images
returns-clause-images g c = opening_read _ _ _ (stays _ _ _ _ _ c.read_all.ensures.images c.renew_last.ensures.images)

pub returns-clause-unwritten : goal.returns-clause-unwritten
returns-clause-unwritten g c = λ some. record { reads = c.renew_last.ensures.same ∙ c.read_all.ensures.same; images = stays _ _ _ _ _ c.read_all.ensures.images c.renew_last.ensures.images }

pub write_first_gate-requires : goal.write_first_gate-requires
write_first_gate-requires g c = record { short = λ d is. omega (arith, ap length (c.in_ok-bytes.ensures.value d (sym c.read_all.ensures.same ∙ is)), c.len.ensures) }

pub returns-then-len-lt2-clause-first_gate : goal.returns-then-len-lt2-clause-first_gate
returns-then-len-lt2-clause-first_gate g c = λ told is short d left. c.in_ok-write_first_gate.ensures.first_gate d left

-- ---- the journal

pub returns-then-len-lt2-clause-keeps : goal.returns-then-len-lt2-clause-keeps
returns-then-len-lt2-clause-keeps g c = keeps_none _ _ _ refl c.empty.ensures c.in_ok-write_first_gate.ensures.closed

pub returns-then-len-lt2-clause-open : goal.returns-then-len-lt2-clause-open
returns-then-len-lt2-clause-open g c = λ told is.
    let law = g.met.B.Bench.lawful c.write_first_gate.new.bench in
    ends_within [] told 0 refl (c.in_ok-write_first_gate.ensures.closed told (law.as_it_reads c.args.area told is))

pub returns-clause-keeps : goal.returns-clause-keeps
returns-clause-keeps g c = record {
  length = ap (λ (n : ℕ). n + 1) (sym c.in_ok-bodies.ensures.found.1);
  fits = c.in_ok-bodies.ensures.found.0.fits;
  images = λ d left. subst (IsAtRest c.in_ok-bodies.bodies) (c.deref.ensures.value ∙ c.in_ok-bytes.ensures.value d (sym c.read_all.ensures.same ∙ c.in_ok-renew_last.ensures.durable d left)) c.in_ok-bodies.ensures.found.0;
}

pub returns-clause-open : goal.returns-clause-open
returns-clause-open g c = λ told is.
    ends_within c.in_ok-bodies.bodies told c.in_ok-bodies.place c.in_ok-bodies.ensures.found.1
    (subst (IsAtRest c.in_ok-bodies.bodies) (c.deref.ensures.value ∙ c.in_ok-bytes.ensures.value told (sym c.read_all.ensures.same ∙ sym c.renew_last.ensures.same ∙ is)) c.in_ok-bodies.ensures.found.0)

-- ---- the list

pub returns-in_err-bodies-clause-same_list : goal.returns-in_err-bodies-clause-same_list
returns-in_err-bodies-clause-same_list g c = λ told d was is.
    ap records (sym (c.in_ok-bytes.ensures.value d (sym c.read_all.ensures.same ∙ is)) ∙ c.in_ok-bytes.ensures.value told was)

pub returns-clause-same_list : goal.returns-clause-same_list
returns-clause-same_list g c = λ told d was is.
    ap records (sym (c.in_ok-bytes.ensures.value d (sym c.read_all.ensures.same ∙ sym c.renew_last.ensures.same ∙ is)) ∙ c.in_ok-bytes.ensures.value told was)

-- ---- faults

pub returns-in_err-bytes-clause-memory : goal.returns-in_err-bytes-clause-memory
returns-in_err-bytes-clause-memory g c = λ is. record { reads = c.read_all.ensures.same; images = c.read_all.ensures.images }

pub returns-in_err-write_first_gate-clause-no_list : goal.returns-in_err-write_first_gate-clause-no_list
returns-in_err-write_first_gate-clause-no_list g c = λ place is. device_no_place _ place c.from_residual-in_err-write_first_gate.ensures.1 is

pub returns-in_err-write_first_gate-clause-untouched : goal.returns-in_err-write_first_gate-clause-untouched
returns-in_err-write_first_gate-clause-untouched g c = λ place is. device_no_place _ place c.from_residual-in_err-write_first_gate.ensures.1 is

pub returns-in_err-write_first_gate-clause-memory : goal.returns-in_err-write_first_gate-clause-memory
returns-in_err-write_first_gate-clause-memory g c = λ is. device_no_memory _ c.from_residual-in_err-write_first_gate.ensures.1 is

pub returns-in_err-write_first_gate-clause-device : goal.returns-in_err-write_first_gate-clause-device
returns-in_err-write_first_gate-clause-device g c = λ is.
    subst (λ (n : ℕ). RoseFrom n (g.B.Bench.outside c.write_first_gate.new.bench).faults) c.in_ok-bytes.ensures.clean c.in_err-write_first_gate.ensures.cause

pub returns-in_err-bodies-clause-no_list : goal.returns-in_err-bodies-clause-no_list
returns-in_err-bodies-clause-no_list g c = λ place is told was.
    ap records (sym (c.in_ok-bytes.ensures.value told was) ∙ sym c.deref.ensures.value)
    ∙ c.in_err-bodies.ensures.bad place (handed_on c.from_residual-in_err-bodies.result c.in_err-bodies.field-0.0 _ c.from_residual-in_err-bodies.ensures.1 is)

pub returns-in_err-bodies-clause-untouched : goal.returns-in_err-bodies-clause-untouched
returns-in_err-bodies-clause-untouched g c = λ place is. record { reads = c.read_all.ensures.same; images = c.read_all.ensures.images }

pub returns-in_err-bodies-clause-memory : goal.returns-in_err-bodies-clause-memory
returns-in_err-bodies-clause-memory g c = λ is. record { reads = c.read_all.ensures.same; images = c.read_all.ensures.images }

-- ---- an opening that is no error, or that has no record

pub returns-then-len-lt2-clause-unwritten : goal.returns-then-len-lt2-clause-unwritten
returns-then-len-lt2-clause-unwritten g c = λ some. none_has _ c.empty.ensures some

pub returns-then-len-lt2-clause-no_list : goal.returns-then-len-lt2-clause-no_list
returns-then-len-lt2-clause-no_list g c = λ place is. ok_no_err _ _ is

pub returns-then-len-lt2-clause-untouched : goal.returns-then-len-lt2-clause-untouched
returns-then-len-lt2-clause-untouched g c = λ place is. ok_no_err _ _ is

pub returns-then-len-lt2-clause-memory : goal.returns-then-len-lt2-clause-memory
returns-then-len-lt2-clause-memory g c = λ is. ok_no_err _ _ is

pub returns-then-len-lt2-clause-device : goal.returns-then-len-lt2-clause-device
returns-then-len-lt2-clause-device g c = λ is. ok_no_err _ _ is

pub returns-clause-no_list : goal.returns-clause-no_list
returns-clause-no_list g c = λ place is. ok_no_err _ _ is

pub returns-clause-untouched : goal.returns-clause-untouched
returns-clause-untouched g c = λ place is. ok_no_err _ _ is

pub returns-clause-memory : goal.returns-clause-memory
returns-clause-memory g c = λ is. ok_no_err _ _ is

pub returns-clause-device : goal.returns-clause-device
returns-clause-device g c = λ is. ok_no_err _ _ is

-- ---- what was asked for, and no fault

pub returns-then-len-lt2-clause-journal : goal.returns-then-len-lt2-clause-journal
returns-then-len-lt2-clause-journal g c = (refl, refl)

pub returns-then-len-lt2-clause-clean : goal.returns-then-len-lt2-clause-clean
returns-then-len-lt2-clause-clean g c = c.in_ok-write_first_gate.ensures.clean ∙ c.in_ok-bytes.ensures.clean

pub returns-clause-journal : goal.returns-clause-journal
returns-clause-journal g c = (refl, refl)

pub returns-clause-clean : goal.returns-clause-clean
returns-clause-clean g c = c.in_ok-renew_last.ensures.clean ∙ c.in_ok-bytes.ensures.clean

-- ---- the gate of the last record

pub renew_last-requires : goal.renew_last-requires
renew_last-requires g c = record {
  read = λ told is. c.deref-2.ensures.value ∙ c.in_ok-bytes.ensures.value told (sym c.read_all.ensures.same ∙ is);
  inside = gate_within _ _ _ c.last_gate.ensures.before (subst (λ (l : List ℕ). c.in_ok-bodies.place < length l) (c.deref.ensures.value ∙ sym c.deref-2.ensures.value) (omega (arith, c.in_ok-bodies.ensures.found.0.more, c.in_ok-bodies.ensures.found.1)));
}

pub returns-in_err-renew_last-clause-images : goal.returns-in_err-renew_last-clause-images
returns-in_err-renew_last-clause-images g c = opening_read _ _ _ (stays _ _ _ _ _ c.read_all.ensures.images c.renew_last.ensures.images)

pub returns-in_err-renew_last-clause-same_list : goal.returns-in_err-renew_last-clause-same_list
returns-in_err-renew_last-clause-same_list g c = λ told d was is.
    ap records (sym (c.in_ok-bytes.ensures.value d (sym c.read_all.ensures.same ∙ sym c.renew_last.ensures.same ∙ is)) ∙ c.in_ok-bytes.ensures.value told was)

pub returns-in_err-renew_last-clause-no_list : goal.returns-in_err-renew_last-clause-no_list
returns-in_err-renew_last-clause-no_list g c = λ place is. device_no_place _ place c.from_residual-in_err-renew_last.ensures.1 is

pub returns-in_err-renew_last-clause-untouched : goal.returns-in_err-renew_last-clause-untouched
returns-in_err-renew_last-clause-untouched g c = λ place is. device_no_place _ place c.from_residual-in_err-renew_last.ensures.1 is

pub returns-in_err-renew_last-clause-memory : goal.returns-in_err-renew_last-clause-memory
returns-in_err-renew_last-clause-memory g c = λ is. device_no_memory _ c.from_residual-in_err-renew_last.ensures.1 is

pub returns-in_err-renew_last-clause-device : goal.returns-in_err-renew_last-clause-device
returns-in_err-renew_last-clause-device g c = λ is.
    subst (λ (n : ℕ). RoseFrom n (g.B.Bench.outside c.renew_last.new.bench).faults) c.in_ok-bytes.ensures.clean c.in_err-renew_last.ensures.cause
