-- What holds of a call's result, carried over.
use Rattle.std.proofs.Common.{Result, Ok, Err}
use Rattle.std.specs.Result.{IfOk, OnOk}

module _ {T E : Type 0} where
  pub on_ok : {P Q : Type 0} (r : Result T E) → OnOk r P → (P → Q) → OnOk r Q
  on_ok (Ok x) p f = f p
  on_ok (Err e) p f = p

  pub if_ok : {P Q : T → Type 0} (r : Result T E) → IfOk r P → ((x : T) → P x → Q x) → IfOk r Q
  if_ok (Ok x) p f = f x p
  if_ok (Err e) p f = p
