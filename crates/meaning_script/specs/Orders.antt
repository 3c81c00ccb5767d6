-- What the words behind a `!` ask, or the place of the first word that fits no order behind those before it.
use Rattle.std.specs.Prelude.{ℕ, ◌+◌, if◌then◌else◌, List, length, codes, Option, Some, None, Result, Err}
use Rattle.dl_base.specs.declared.step.Target.{Target}
use Rattle.dl_base.specs.declared.step.Target.TheVariants as targets
use Rattle.fs_command.specs.Words.{Word, words}
use Rattle.fs_command.specs.Commands.{◌>>=◌, Part, Ending, word, nothing, first, is}
use Rattle.dl_base.specs.Digits.{number_in}
use Rattle.meaning_script.specs.declared.kind.Order.{Order}
use Rattle.meaning_script.specs.declared.kind.Order.TheVariants as orders
use Rattle.meaning_script.specs.declared.kind.Kept.{Kept}
use Rattle.meaning_script.specs.declared.kind.Kept.TheVariants as kept

-- N: 1 to 10 decimal digits, that are at most a bound
abbrev pub number : ℕ → Part ℕ
number most = word (λ w. number_in 10 0 most w.bytes)

-- tick N
unfoldable pub tick : Ending Order
tick = do
  seconds ← number 1000000000
  nothing (orders.Tick seconds)

-- restore (backup|commit) N
abbrev pub kept_in : List ℕ → Option Kept
kept_in bytes = if is (codes "backup") bytes then Some kept.Backup else (if is (codes "commit") bytes then Some kept.Commit else None)

abbrev pub target : Kept → ℕ → Target
target kept.Backup n = targets.Backup n
target kept.Commit n = targets.Commit n

unfoldable pub restore : Ending Order
restore = do
  what ← word (λ w. kept_in w.bytes)
  n ← number 9999999999
  nothing (orders.Restore (target what n))

-- crash (manager|database|both)
abbrev pub crash_in : List ℕ → Option Order
crash_in bytes =
    if is (codes "manager") bytes then Some orders.CrashManager
    else (if is (codes "database") bytes then Some orders.CrashDatabase
    else (if is (codes "both") bytes then Some orders.CrashBoth else None))

unfoldable pub crash : Ending Order
crash = do
  order ← word (λ w. crash_in w.bytes)
  nothing order

-- what follows the first word
abbrev pub verb_then : Word → Ending Order
verb_then verb =
    if is (codes "tick") verb.bytes then tick
    else (if is (codes "archive") verb.bytes then nothing orders.Archive
    else (if is (codes "backup") verb.bytes then nothing orders.Backup
    else (if is (codes "restore") verb.bytes then restore
    else (if is (codes "crash") verb.bytes then crash
    else (if is (codes "resolve") verb.bytes then nothing orders.Resolve
    else (λ end ws. Err verb.place))))))

abbrev pub order_words : Ending Order
order_words = do
  verb ← word first
  verb_then verb

-- what a text behind a `!` asks, or the bad place in it, from 1
unfoldable pub order : List ℕ → Result Order ℕ
order text = order_words (length text + 1) (words 1 text)
