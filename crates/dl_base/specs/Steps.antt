-- One step behind another, where a step may give nothing.
use Rattle.std.specs.Prelude.{Option, Some, None}

-- a step, and the next one on what it gave, if it gave something
infixl 10 ◌>>=◌
abbrev pub ◌>>=◌ : {A B : Type 0} → Option A → (A → Option B) → Option B
(Some x) >>= next = next x
None >>= next = None
