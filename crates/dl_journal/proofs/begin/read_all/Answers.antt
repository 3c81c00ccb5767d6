use Rattle.std.proofs.Common.{◌≡◌, ℕ, ◌+◌, ◌≤◌, ◌^◌, Vec, Global, sym, ◌∙◌, subst, ap, arith, length}
use Rattle.std.specs.Vec.{with_items}
use Rattle.std.proofs.lemmas.List.{take_all, take_at}
use Rattle.dl_base.specs.Sources.{RoseFrom}
use Rattle.dl_journal.proofs.Faults.{ok_no_err, device_no_place, memory_no_place}
use Rattle.dl_journal.proofs.Steps.{stays}
use Rattle.dl_journal.proofs.begin.read_all.Goals as goal

pub returns-clause-value : goal.returns-clause-value
returns-clause-value g c = λ told is.
    let n = c.in_ok-count.ensures.value told is in
    let r = c.in_ok-read.ensures.value told (c.length.ensures.same ∙ is) in
    let all : c.read.new.into ≡ told = r ∙ take_all _ told (omega (arith, n, c.in_ok-bytes.ensures.len, c.deref_mut.ensures.len)) in
    take_at c.read.new.into _ _ (omega (arith, ap length all, n, c.in_ok-bytes.ensures.len)) ∙ all

pub returns-clause-long : goal.returns-clause-long
returns-clause-long g c = few_bytes (with_items c.in_ok-bytes.bytes c.read.new.into)
  where
    few_bytes : (v : Vec ℕ Global) → length v.items ≤ 2 ^ 63
    few_bytes v = omega (arith, v.ok.0, v.ok.1, v.small)

pub read-requires : goal.read-requires
read-requires g c = λ told is. as_long _ _ (c.deref_mut.ensures.len ∙ c.in_ok-bytes.ensures.len ∙ c.in_ok-count.ensures.value told (sym c.length.ensures.same ∙ is))
  where
    as_long : (n m : ℕ) → n ≡ m → 0 + n ≤ m
    as_long n m e = omega (arith, e)

-- ---- what a crash leaves

pub returns-in_err-read-clause-images : goal.returns-in_err-read-clause-images
returns-in_err-read-clause-images g c = stays _ _ _ _ _ c.length.ensures.crash c.read.ensures.crash

pub returns-clause-images : goal.returns-clause-images
returns-clause-images g c = stays _ _ _ _ _ c.length.ensures.crash c.read.ensures.crash

-- ---- what stays

pub returns-in_err-read-clause-same : goal.returns-in_err-read-clause-same
returns-in_err-read-clause-same g c = c.read.ensures.same ∙ c.length.ensures.same

pub returns-clause-same : goal.returns-clause-same
returns-clause-same g c = c.read.ensures.same ∙ c.length.ensures.same

pub returns-clause-clean : goal.returns-clause-clean
returns-clause-clean g c = c.in_ok-read.ensures.clean ∙ c.in_ok-count.ensures.clean

-- ---- errors

pub returns-in_err-read-clause-device : goal.returns-in_err-read-clause-device
returns-in_err-read-clause-device g c = λ is.
    subst (λ (n : ℕ). RoseFrom n (g.B.Bench.outside c.read.new.self).faults) (c.in_ok-count.ensures.clean) c.in_err-read.ensures.cause

pub returns-clause-device : goal.returns-clause-device
returns-clause-device g c = λ is. ok_no_err _ _ is

pub returns-clause-no_other : goal.returns-clause-no_other
returns-clause-no_other g c = λ place is. ok_no_err _ _ is

pub returns-in_err-count-clause-no_other : goal.returns-in_err-count-clause-no_other
returns-in_err-count-clause-no_other g c = λ place is. device_no_place _ place c.from_residual.ensures.1 is

pub returns-in_err-bytes-clause-no_other : goal.returns-in_err-bytes-clause-no_other
returns-in_err-bytes-clause-no_other g c = λ place is. memory_no_place _ place c.from_residual-in_err-bytes.ensures.1 is

pub returns-in_err-read-clause-no_other : goal.returns-in_err-read-clause-no_other
returns-in_err-read-clause-no_other g c = λ place is. device_no_place _ place c.from_residual-in_err-read.ensures.1 is
