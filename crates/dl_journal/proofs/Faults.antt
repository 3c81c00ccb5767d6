-- Which fault an answer has.
use Rattle.std.proofs.Common.{◌≡◌, ℕ, Result, Ok, Err}
use Rattle.std.specs.Result.{IsErrAnd}
use Rattle.dl_base.specs.declared.fault.BeginFault.{BeginFault}
use Rattle.dl_base.specs.declared.fault.BeginFault.TheVariants.{Device, NotAJournal, Memory}

pub ok_no_err : {A E P : Type 0} (x : A) (e : E) → Ok x ≡ Err e → P
ok_no_err x e is = absurd (cc is)

-- a fault that was handed on
pub handed_on : {A B E : Type 0} (r : Result A E) (f g : E) → IsErrAnd r (λ e. e ≡ f) → r ≡ Err g → ◌≡◌ {A = Result B E} (Err f) (Err g)
handed_on (Ok x) f g was is = absurd was
handed_on (Err e) f g was is = let same : e ≡ g = cc is in cc

pub device_no_place : {A P : Type 0} (r : Result A BeginFault) (place : ℕ) → IsErrAnd r (λ e. e ≡ Device) → r ≡ Err (NotAJournal place) → P
device_no_place (Ok x) place was is = absurd was
device_no_place (Err e) place was is = absurd cc

pub device_no_memory : {A P : Type 0} (r : Result A BeginFault) → IsErrAnd r (λ e. e ≡ Device) → r ≡ Err Memory → P
device_no_memory (Ok x) was is = absurd was
device_no_memory (Err e) was is = absurd cc

pub memory_no_place : {A P : Type 0} (r : Result A BeginFault) (place : ℕ) → IsErrAnd r (λ e. e ≡ Memory) → r ≡ Err (NotAJournal place) → P
memory_no_place (Ok x) place was is = absurd was
memory_no_place (Err e) place was is = absurd cc

pub place_no_device : {A P : Type 0} (place : ℕ) → ◌≡◌ {A = Result A BeginFault} (Err (NotAJournal place)) (Err Device) → P
place_no_device place is = absurd (cc is)

pub same_place : {A : Type 0} (place other : ℕ) → ◌≡◌ {A = Result A BeginFault} (Err (NotAJournal place)) (Err (NotAJournal other)) → place ≡ other
same_place place other is = cc is
