-- Words without `run` are no command.
use Rattle.std.proofs.Common.{◌≡◌, inl, inr, ℕ, true, false, List, [], ◌∷◌, Option, Some, None, refl, ap, subst}
use Rattle.std.specs.Prelude.{bytes_eq, codes, unwrap_or}
use Rattle.std.specs.List.{list_all}
use Rattle.std.specs.Str.{is_utf8}
use Rattle.std.proofs.lemmas.Bool.{or_parts, false≢true}
use Rattle.std.proofs.lemmas.Slice.Eq.{bytes_eq-Decides}
use Rattle.dl_base.specs.Steps.{◌>>=◌}
use Rattle.run_args.specs.Words.{NamedText, is_option, is_form, behind_hyphens, name_of, text_of, with, commands, by_text, by_name, said_in, are_distinct, text_in, settled, settings, names_run}
use Rattle.run_args.proofs.Rules.{the_command, either_way}
use Rattle.run_args.proofs.Settled.{IsNone, bound}

some_is : {A : Type 0} (a b : A) → Some a ≡ Some b → a ≡ b
some_is a b e = ap (λ o. unwrap_or o a) e

-- none of these is the command's
abbrev NoCommand : List NamedText → Type 0
NoCommand said = text_in said the_command ≡ None

abbrev IsOther : Option (List ℕ) → Type 0
IsOther None = Unit {0}
IsOther (Some name) = bytes_eq name the_command ≡ false

with_parts : (name text : List ℕ) (more : Option (List NamedText)) (said : List NamedText) → with name text more ≡ Some said
    → (rest : List NamedText) × (more ≡ Some rest) × ((name, text) ∷ rest ≡ said)
with_parts name text more said is = elim (either_way (is_form name text)) [
  | inl e ↦
      let b = bound more (λ rest. Some ((name, text) ∷ rest)) said (rw e at is) in
      (b.0, b.1, some_is _ _ b.2)
  | inr e ↦ absurd (subst IsNone (rw e at is) tt)
]

option_is_other : (name : List ℕ) → is_option name ≡ true → bytes_eq name the_command ≡ false
option_is_other name is = elim (either_way (bytes_eq name the_command)) [
  | inr e ↦ e
  | inl e ↦ absurd (false≢true (subst (λ (n : List ℕ). is_option n ≡ true) ((bytes_eq-Decides name the_command).0 e) is))
]

behind_dashes : (words : List (List ℕ)) → names_run words ≡ false → (said : List NamedText) → commands words ≡ Some said → NoCommand said
behind_dashes [] none said is = subst NoCommand (some_is _ _ is) refl
behind_dashes (w ∷ ws) none said is =
    let both = or_parts (bytes_eq w (codes "run")) (names_run ws) none in
    absurd (subst IsNone (rw both.0 at is) tt)

no_command : (words : List (List ℕ)) (waiting : Option (List ℕ)) → names_run words ≡ false → IsOther waiting → (said : List NamedText) → said_in words waiting ≡ Some said → NoCommand said
no_command [] None none other said is = subst NoCommand (some_is _ _ is) refl
no_command [] (Some name) none other said is = absurd (subst IsNone is tt)
no_command (w ∷ ws) (Some name) none other said is =
    let both = or_parts (bytes_eq w (codes "run")) (names_run ws) none in
    let (rest, more, same) = with_parts name w (said_in ws None) said is in
    subst NoCommand same (rw other (no_command ws None both.1 tt rest more))
no_command (w ∷ ws) None none other said is =
    let both = or_parts (bytes_eq w (codes "run")) (names_run ws) none in
    elim (either_way (bytes_eq w (codes "--"))) [
      | inl e ↦ behind_dashes ws both.1 said (rw (both.0, e) at is)
      | inr e ↦ option_first ws said (λ waiting. no_command ws waiting both.1) (behind_hyphens w) (rw (both.0, e) at is)
    ]
  where
    texted : (ws : List (List ℕ)) (said : List NamedText) → ((waiting : Option (List ℕ)) → IsOther waiting → (s : List NamedText) → said_in ws waiting ≡ Some s → NoCommand s)
        → (name : List ℕ) → bytes_eq name the_command ≡ false → (text : Option (List ℕ)) → by_text name text (λ waiting. said_in ws waiting) ≡ Some said → NoCommand said
    texted ws said later name known None is = later (Some name) known said is
    texted ws said later name known (Some text) is =
        let (rest, more, same) = with_parts name text (said_in ws None) said is in
        subst NoCommand same (rw known (later None tt rest more))

    option_first : (ws : List (List ℕ)) (said : List NamedText) → ((waiting : Option (List ℕ)) → IsOther waiting → (s : List NamedText) → said_in ws waiting ≡ Some s → NoCommand s)
        → (rest : Option (List ℕ)) → by_name rest (λ waiting. said_in ws waiting) ≡ Some said → NoCommand said
    option_first ws said later None is = absurd (subst IsNone is tt)
    option_first ws said later (Some rest) is = elim (either_way (is_option (name_of rest))) [
      | inl e ↦ texted ws said later (name_of rest) (option_is_other (name_of rest) e) (text_of rest) (rw e at is)
      | inr e ↦ absurd (subst IsNone (rw e at is) tt)
    ]

no_settings : (said : List NamedText) → NoCommand said → settled said ≡ None
no_settings said none = elim (either_way (are_distinct said)) [ inl e ↦ rw (e, none) refl | inr e ↦ rw e refl ]

by_said : (said : Option (List NamedText)) → ((s : List NamedText) → said ≡ Some s → NoCommand s) → (said >>= settled) ≡ None
by_said None none = refl
by_said (Some s) none = no_settings s (none s refl)

pub without_run : (words : List (List ℕ)) → names_run words ≡ false → settings words ≡ None
unfolding settings
without_run words none = elim (either_way (list_all is_utf8 words)) [
  | inl e ↦ rw e (by_said (said_in words None) (no_command words None none tt))
  | inr e ↦ rw e refl
]
