-- What contracts see of a source in memory.
use Rattle.std.specs.Prelude.{ℕ, ◌==◌, Bool, false, List, drop, Option, Some, None}
use Rattle.dl_bench.specs.Tallies.{next}

pub record Feed : Type 0 where
  -- the bytes left
  pub rest : List ℕ
  -- which take fails, from 1 on
  pub failing : Option ℕ
  -- how many takes there were, and how many of them failed
  pub takes : ℕ
  pub faults : ℕ

abbrev pub is_number : Option ℕ → ℕ → Bool
is_number None number = false
is_number (Some nth) number = nth == number

-- the next take is to fail
abbrev pub fails_next : Feed → Bool
fails_next f = is_number f.failing (next f.takes)

-- after a take of so many bytes
abbrev pub taken : Feed → ℕ → Feed
taken f n = record f { rest = drop n f.rest; takes = next f.takes }

-- after a take that failed
abbrev pub missed : Feed → Feed
missed f = record f { takes = next f.takes; faults = next f.faults }
