-- Which calls of a bench in memory fail, and how many did.
use Rattle.std.specs.Prelude.{ℕ, ◌+◌, ◌-◌, ◌^◌, ◌==◌, ◌&&◌, ◌||◌, min, nat_lt, Bool, false, if◌then◌else◌, List, [], ◌∷◌, Option, Some, None, slice_index, slice_set}
use Rattle.std.specs.List.{list_any}
use Rattle.dl_bench.specs.declared.call.Call.{Call}
use Rattle.dl_bench.specs.declared.call.Call.TheVariants.{Length, Read, Write, Renew, Sync, Say}

-- the place of a kind in the counts
abbrev pub kind_number : Call → ℕ
kind_number Length = 0
kind_number Read = 1
kind_number Write = 2
kind_number Renew = 3
kind_number Sync = 4
kind_number Say = 5

-- what is to fail, and what was counted
pub record Tally : Type 0 where
  -- the calls that fail: a kind, and a number from 1 on among the calls of that kind
  pub failing : List (Call × ℕ)
  -- how many calls of any kind may pass
  pub fuse : Option ℕ
  -- the calls that were made, of each kind and of any
  pub made : List ℕ
  pub calls : ℕ
  -- how many of them were listed or past the fuse
  pub stopped : ℕ
  -- how many calls found no memory for what they add
  pub starved : ℕ

-- before the first call
abbrev pub fresh : List (Call × ℕ) → Option ℕ → Tally
fresh failing fuse = record { failing = failing; fuse = fuse; made = 0 ∷ 0 ∷ 0 ∷ 0 ∷ 0 ∷ 0 ∷ []; calls = 0; stopped = 0; starved = 0 }

-- one more; a count stands at its last value
abbrev pub next : ℕ → ℕ
next n = min (n + 1) (2 ^ 64 - 1)

-- the number that the next call of this kind has
abbrev pub number_of : Tally → Call → ℕ
number_of t call = next (slice_index t.made (kind_number call))

abbrev pub is_listed : List (Call × ℕ) → Call → ℕ → Bool
is_listed failing call number = list_any (λ f. (kind_number f.0 == kind_number call) && (f.1 == number)) failing

-- the call of this number is past the fuse
abbrev pub is_past : Option ℕ → ℕ → Bool
is_past None number = false
is_past (Some fuse) number = nat_lt fuse number

-- the next call is to fail, if it is of this kind
abbrev pub is_due : Tally → Call → Bool
is_due t call = is_listed t.failing call (number_of t call) || is_past t.fuse (next t.calls)

-- with one more call
abbrev pub counted : Tally → Call → Tally
counted t call = record t {
  made = slice_set t.made (kind_number call) (number_of t call);
  calls = next t.calls;
  stopped = (if is_due t call then next t.stopped else t.stopped);
}

-- with one more call that found no memory
abbrev pub hungry : Tally → Tally
hungry t = record t { starved = next t.starved }

-- the count of faults
abbrev pub faults : Tally → ℕ
faults t = t.stopped + t.starved
