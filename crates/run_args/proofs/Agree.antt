-- The plain reading of the words is clap's.
use Rattle.std.proofs.Common.{◌≡◌, inl, inr, ◌==◌, arith, ℕ, true, false, List, [], ◌∷◌, map, length, fold, Option, Some, None, refl, sym, ap, ◌∙◌}
use Rattle.std.specs.Prelude.{if◌then◌else◌}
use Rattle.std.specs.List.{list_all}
use Rattle.std.specs.Str.{is_utf8}
use Rattle.std.proofs.lemmas.Bool.{ne_eqb}
use Rattle.dl_base.specs.declared.step.Settings.{Settings}
use Rattle.clap.specs.Faults.{walk_fault}
use Rattle.clap.specs.Kinds.{Kinds, or_else}
use Rattle.clap.specs.Simple.{built}
use Rattle.clap.specs.Walk.{Row, finished, idle, nothing_held, walked}
use Rattle.clap.proofs.FaultLemmas.{leaf_fault}
use Rattle.dl_base.specs.Steps.{◌>>=◌}
use Rattle.run_args.specs.Words.{NamedText, are_distinct, said_in, settings, settings_of, settled, text_in}
use Rattle.run_args.specs.Command.{command, found, is_taken, settings_in, taken_settings}
use Rattle.run_args.proofs.Forms.{formed, is_formed, said_is}
use Rattle.run_args.proofs.Loose.{loose, ready}
use Rattle.run_args.proofs.Rules.{either_way, row, rules, shape}
use Rattle.run_args.proofs.Settled.{rows_say, unformed}
use Rattle.run_args.proofs.Turns.{clean, end_fault, outcome, standing}
use Rattle.run_args.proofs.Walking.{result, words_say}

-- what comes of clap's rows
abbrev taken : Option (List Row) → Option Settings
taken None = None
taken (Some rows) = settings_in rows

by_kinds : (k : Kinds) (rows : List Row) → (if length k == 0 then settings_in rows else None) ≡ taken (clean k rows)
by_kinds [] rows = refl
by_kinds (k ∷ ks) rows = rw (ne_eqb (length (k ∷ ks)) 0 (omega arith)) refl

clap_says : (words : List (List ℕ)) → (if is_taken words then settings_in (found words) else None) ≡ taken (outcome (standing [] None idle 1 false) words)
unfolding is_taken found
clap_says words =
    ap (λ (k : Kinds). if length k == 0 then settings_in (found words) else None) (leaf_fault (built command) nothing_held words refl)
    ∙ by_kinds (or_else (walk_fault shape [] (standing [] None idle 1 false) words) (end_fault (fold (walked rules []) (standing [] None idle 1 false) words).held)) (finished rules (fold (walked rules []) (standing [] None idle 1 false) words).held)

rows_settle : (said : List NamedText) → settings_in (map row said) ≡ settings_of (text_in said)
unfolding settings_in
rows_settle said = λ i. settings_of (λ name. rows_say said name i)

once_settle : (more : Option (List NamedText)) → (formed more >>= settled) ≡ taken (result [] None more)
once_settle None = refl
once_settle (Some said) = elim (either_way (are_distinct said)) [
  | inl are ↦ elim (either_way (list_all is_formed said)) [
    | inl all ↦ rw all (rw are (sym (rows_settle said)))
    | inr out ↦ rw out (rw are (sym (rows_settle said ∙ unformed said are out)))
  ]
  | inr are ↦ elim (either_way (list_all is_formed said)) [
    | inl all ↦ rw all (rw are refl)
    | inr out ↦ rw out (rw are refl)
  ]
]

words_settle : (words : List (List ℕ)) → list_all is_utf8 words ≡ true → (said_in words None >>= settled) ≡ (if is_taken words then settings_in (found words) else None)
words_settle words utf8 =
    ap (λ (o : Option (List NamedText)). o >>= settled) (said_is words) ∙ once_settle (loose words ready)
    ∙ ap taken (sym (words_say words utf8)) ∙ sym (clap_says words)

pub agree : (words : List (List ℕ)) → settings words ≡ taken_settings words
unfolding settings
agree words = elim (either_way (list_all is_utf8 words)) [
  | inl e ↦ rw e (words_settle words e)
  | inr e ↦ rw e refl
]
