-- What clap finds, for the command as it is built.
use Rattle.std.proofs.Common.{◌≡◌, List, true, refl, subst}
use Rattle.clap.specs.declared.parser.matches.ArgMatches.{ArgMatches}
use Rattle.clap.specs.Words.{App, HasMatchesOf, Text, rows_of, found_of, is_simple, matches_of}
use Rattle.clap.proofs.OnLiterals.{clap_on_literals}
use Rattle.run_args.specs.Command.{command}

pub simple : is_simple command ≡ true
unfolding clap_on_literals
simple = refl

pub rows_are : (a b : App) (words : List Text) (m : ArgMatches) → a ≡ b → is_simple b ≡ true → HasMatchesOf a words m → rows_of (found_of m) ≡ matches_of b words
rows_are a b words m same simple has =
    let P : App → Type 0 = λ x. HasMatchesOf x words m in
    (subst P same has simple).0
