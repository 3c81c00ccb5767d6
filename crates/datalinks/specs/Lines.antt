-- A run at the begin of a script, and at its end.
use Rattle.std.specs.Prelude.{◌≡◌, ℕ, List, []}
use Rattle.std.specs.Str.Lines.{lines}
use Rattle.meaning_run.specs.Running.{AreRead, IsAtEnd, Run, after}

pub record IsAtScript (script : List ℕ) (r : Run) : Type 0 where
  pub are : AreRead (lines script) r.lines
  pub number_is : r.number ≡ 1
  pub answers : r.answers ≡ []

abbrev pub IsPastScript : ℕ → Run → Type 0
IsPastScript count r = IsAtEnd (after count r)
