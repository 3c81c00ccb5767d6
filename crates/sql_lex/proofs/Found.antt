-- What was found at the front.
use Rattle.std.proofs.Common.{◌≡◌, ℕ, Bool, true, false, cond, List, ◌++◌, length, Some, None, refl}
use Rattle.sql_lex.specs.Spelling.{IsFront}
use Rattle.sql_lex.specs.Scan.{Front}

-- what was found at the front
abbrev pub Found : List ℕ → Front → Type 0
Found bs None = Unit {0}
Found bs (Some f) = (body rest : List ℕ) × (bs ≡ body ++ rest) × (length body ≡ f.1) × IsFront f.0 body rest

pub found_if : (bs : List ℕ) (t : Bool) (x y : Front) → (t ≡ true → Found bs x) → (t ≡ false → Found bs y) → Found bs (cond t x y)
found_if bs true x y h k = h refl
found_if bs false x y h k = k refl
