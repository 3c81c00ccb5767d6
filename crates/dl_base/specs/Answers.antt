-- What an answer tells.
use Rattle.std.specs.Prelude.{Bool, true, false}
use Rattle.dl_base.specs.declared.answer.Answer.{Answer}
use Rattle.dl_base.specs.declared.answer.Answer.TheVariants as answers

-- it says that what was asked was refused
abbrev pub is_refused : Answer → Bool
is_refused (answers.Refused why) = true
is_refused _ = false

abbrev pub is_committed : Answer → Bool
is_committed (answers.Committed c) = true
is_committed _ = false
