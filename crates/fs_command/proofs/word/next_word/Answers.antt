use Rattle.std.proofs.Common.{refl, arith}
use Rattle.std.proofs.lemmas.List.{take_rest}
use Rattle.fs_command.proofs.Reading.{next, no_next}
use Rattle.fs_command.proofs.word.next_word.Goals as goal

pub returns-then-begin-end-clause-value : goal.returns-then-begin-end-clause-value
returns-then-begin-end-clause-value c =
    let spaces = rw take_rest at c.spaces.ensures.value in
    let len = rw take_rest at c.word_len.ensures.value in
    (no_next c.args.text.now c.args.at c.spaces.result c.word_len.result spaces len (omega arith), refl)

pub returns-clause-value : goal.returns-clause-value
returns-clause-value c =
    let spaces = rw take_rest at c.spaces.ensures.value in
    let len = rw take_rest at c.word_len.ensures.value in
    next c.args.text.now c.args.at c.spaces.result c.word_len.result spaces len (omega arith)
