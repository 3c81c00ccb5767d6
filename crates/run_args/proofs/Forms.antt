-- The words in their forms are those that clap reads, with each text in its form.
use Rattle.std.proofs.Common.{◌≡◌, inl, inr, ◌==◌, ◌%◌, ℕ, Bool, true, false, List, [], ◌∷◌, length, Option, Some, None, refl, sym, ap, subst, ◌∙◌}
use Rattle.std.specs.Prelude.{if◌then◌else◌, bytes_eq, codes, is_some}
use Rattle.std.specs.Char.{is_ascii_digit}
use Rattle.std.specs.List.{list_all}
use Rattle.std.proofs.lemmas.Bool.{and_parts, eqb-true, false≢true}
use Rattle.std.proofs.lemmas.Slice.Eq.{bytes_eq-Decides}
use Rattle.hex.specs.Hex.{decode_pairs}
use Rattle.clap.specs.Lexer.{long_of, short_of}
use Rattle.dl_base.specs.Digits.{is_number, number_in}
use Rattle.run_args.specs.Words.{NamedText, is_server_byte, is_server, key_in, is_option, is_form, behind_hyphens, name_of, text_of, with, commands, by_text, by_name, said_in, most_area_bytes, most_life, most_moment}
use Rattle.run_args.proofs.Loose.{dashes, loose, ready, waits, ended, and_said, by_value, ready_by, waits_by}
use Rattle.run_args.proofs.Rules.{the_command, either_way}
use Rattle.run_args.proofs.Turns.{IsPlain}

-- ---- no text in its form begins with a hyphen

abbrev is_dashed : List ℕ → Bool
is_dashed [] = false
is_dashed (b ∷ rest) = b == 45

undashed_plain : (w : List ℕ) → is_dashed w ≡ false → IsPlain w
undashed_plain [] is = (refl, refl, refl)
undashed_plain (b ∷ rest) is = (rw is refl, rw is refl, rw is refl)

all_undashed : (p : ℕ → Bool) → p 45 ≡ false → (w : List ℕ) → list_all p w ≡ true → is_dashed w ≡ false
all_undashed p never [] all = refl
all_undashed p never (b ∷ rest) all = elim (either_way (b == 45)) [
  | inl e ↦ absurd (false≢true (sym never ∙ ap p (sym (eqb-true b 45 e)) ∙ (and_parts (p b) (list_all p rest) all).0))
  | inr e ↦ e
]

server_undashed : (w : List ℕ) → is_server w ≡ true → is_dashed w ≡ false
unfolding is_server
server_undashed w is = all_undashed is_server_byte refl w (and_parts _ (list_all is_server_byte w) is).1

number_undashed : (w : List ℕ) → is_number 20 w ≡ true → is_dashed w ≡ false
unfolding is_number
number_undashed w is = all_undashed is_ascii_digit refl w (and_parts _ (list_all is_ascii_digit w) is).1

is_number_of : (least most : ℕ) (w : List ℕ) → is_some (number_in 20 least most w) ≡ true → is_number 20 w ≡ true
unfolding number_in
is_number_of least most w is = elim (either_way (is_number 20 w)) [ inl e ↦ e | inr e ↦ absurd (false≢true (rw e at is)) ]

no_key_dashed : (rest : List ℕ) → is_some (key_in (45 ∷ rest)) ≡ true → ⊥
unfolding key_in decode_pairs
no_key_dashed [] is = false≢true is
no_key_dashed (c ∷ rest) is = elim (either_way (length (45 ∷ c ∷ rest) == 64)) [
  | inl e ↦ elim (either_way (length (45 ∷ c ∷ rest) % 2 == 1)) [
    | inl odd ↦ false≢true (rw (e, odd) at is)
    | inr even ↦ false≢true (rw (e, even) at is)
  ]
  | inr e ↦ false≢true (rw e at is)
]

key_undashed : (w : List ℕ) → is_some (key_in w) ≡ true → is_dashed w ≡ false
key_undashed [] is = refl
key_undashed (b ∷ rest) is = elim (either_way (b == 45)) [
  | inl e ↦ absurd (no_key_dashed rest (subst (λ (c : ℕ). is_some (key_in (c ∷ rest)) ≡ true) (eqb-true b 45 e) is))
  | inr e ↦ e
]

run_undashed : (w : List ℕ) → bytes_eq w (codes "run") ≡ true → is_dashed w ≡ false
run_undashed w is = ap is_dashed ((bytes_eq-Decides w (codes "run")).0 is)

form_undashed : (name w : List ℕ) → is_option name ≡ true → is_form name w ≡ true → is_dashed w ≡ false
form_undashed name w known is = elim (either_way (bytes_eq (codes "server") name)) [
  | inl e ↦ server_undashed w (rw e at is)
  | inr e1 ↦ elim (either_way (bytes_eq (codes "key") name)) [
    | inl e ↦ key_undashed w (rw (e1, e) at is)
    | inr e2 ↦ elim (either_way (bytes_eq (codes "now") name)) [
      | inl e ↦ number_undashed w (is_number_of 0 most_moment w (rw (e1, e2, e) at is))
      | inr e3 ↦ elim (either_way (bytes_eq (codes "life") name)) [
        | inl e ↦ number_undashed w (is_number_of 1 most_life w (rw (e1, e2, e3, e) at is))
        | inr e4 ↦ elim (either_way (bytes_eq (codes "area") name)) [
          | inl e ↦ number_undashed w (is_number_of 1 most_area_bytes w (rw (e1, e2, e3, e4, e) at is))
          | inr e5 ↦ absurd (false≢true (rw (e1, e2, e3, e4, e5) at known))
        ]
      ]
    ]
  ]
]

-- ---- a reading whose texts are all in their forms

abbrev pub is_formed : NamedText → Bool
is_formed s = is_form s.0 s.1

abbrev pub formed : Option (List NamedText) → Option (List NamedText)
formed None = None
formed (Some said) = if list_all is_formed said then Some said else None

formed_more : (name text : List ℕ) (more : Option (List NamedText)) → with name text (formed more) ≡ formed (and_said (name, text) more)
formed_more name text None = elim (either_way (is_form name text)) [ inl e ↦ rw e refl | inr e ↦ rw e refl ]
formed_more name text (Some said) = elim (either_way (is_form name text)) [
  | inl e ↦ rw e (elim (either_way (list_all is_formed said)) [ inl f ↦ rw f refl | inr f ↦ rw f refl ])
  | inr e ↦ rw e refl
]

unformed_with : (name text : List ℕ) (more : Option (List NamedText)) → is_form name text ≡ false → with name text more ≡ None
unformed_with name text more is = rw is refl

unformed_more : (name text : List ℕ) (more : Option (List NamedText)) → is_form name text ≡ false → formed (and_said (name, text) more) ≡ None
unformed_more name text None is = refl
unformed_more name text (Some said) is = rw is refl

-- ---- words

commands_are : (ws : List (List ℕ)) → commands ws ≡ formed (loose ws ended)
commands_are [] = refl
commands_are (w ∷ ws) = ap (with the_command w) (commands_are ws) ∙ formed_more the_command w (loose ws ended)

abbrev long_by : Option (List ℕ) → Option (List ℕ × Option (List ℕ))
long_by None = None
long_by (Some rest) = Some (name_of rest, text_of rest)

long_is : (w : List ℕ) → long_of w ≡ long_by (behind_hyphens w)
long_is [] = refl
long_is (b ∷ []) = elim (either_way (b == 45)) [ inl e ↦ rw e refl | inr e ↦ rw e refl ]
long_is (b ∷ c ∷ []) = elim (either_way (b == 45)) [
  | inl e ↦ rw e (elim (either_way (c == 45)) [ inl d ↦ rw d refl | inr d ↦ rw d refl ])
  | inr e ↦ rw e refl
]
long_is (b ∷ c ∷ x ∷ xs) = elim (either_way (b == 45)) [
  | inl e ↦ rw e (elim (either_way (c == 45)) [ inl d ↦ rw d refl | inr d ↦ rw d refl ])
  | inr e ↦ rw e refl
]

abbrev Ready : List (List ℕ) → Type 0
Ready ws = said_in ws None ≡ formed (loose ws ready)

abbrev Waits : List (List ℕ) → Type 0
Waits ws = (name : List ℕ) → is_option name ≡ true → said_in ws (Some name) ≡ formed (loose ws (waits name))

word_waits : (w : List ℕ) (ws : List (List ℕ)) → Ready ws → Waits (w ∷ ws)
word_waits w ws later name known = elim (either_way (is_form name w)) [
  | inl f ↦
      let plain = undashed_plain w (form_undashed name w known f) in
      ap (with name w) later ∙ formed_more name w (loose ws ready) ∙ sym (rw (plain.0, plain.1, plain.2) refl)
  | inr f ↦ unformed_with name w (said_in ws None) f ∙ sym (go (bytes_eq w dashes) (long_of w) (short_of w) f)
]
  where
    go : (dashed : Bool) (long : Option (List ℕ × Option (List ℕ))) (short : Option (List ℕ)) → is_form name w ≡ false → formed (waits_by dashed long short name w (loose ws)) ≡ None
    go true long short f = refl
    go false (Some p) short f = refl
    go false None (Some flags) f = refl
    go false None None f = unformed_more name w (loose ws ready) f

word_ready : (w : List ℕ) (ws : List (List ℕ)) → Ready ws → Waits ws → Ready (w ∷ ws)
word_ready w ws later waiting = elim (either_way (bytes_eq w (codes "run"))) [
  | inl r ↦
      let plain = undashed_plain w (run_undashed w r) in
      ap (λ (b : Bool). if b then with the_command w (said_in ws None) else (if bytes_eq w dashes then commands ws else by_name (behind_hyphens w) (said_in ws))) r
      ∙ ap (with the_command w) later ∙ formed_more the_command w (loose ws ready) ∙ sym (rw (plain.0, plain.1, plain.2) refl)
  | inr r ↦ elim (either_way (bytes_eq w dashes)) [
    | inl d ↦ rw (r, d) (commands_are ws)
    | inr d ↦ rw (r, d) (go (behind_hyphens w) (short_of w) r ∙ sym (ap (λ (l : Option (List ℕ × Option (List ℕ))). formed (ready_by false l (short_of w) w (loose ws))) (long_is w)))
  ]
]
  where
    by_text_is : (name : List ℕ) (text : Option (List ℕ)) → is_option name ≡ true → by_text name text (said_in ws) ≡ formed (by_value name text (loose ws))
    by_text_is name None known = waiting name known
    by_text_is name (Some text) known = ap (with name text) later ∙ formed_more name text (loose ws ready)

    go : (rest : Option (List ℕ)) (short : Option (List ℕ)) → bytes_eq w (codes "run") ≡ false → by_name rest (said_in ws) ≡ formed (ready_by false (long_by rest) short w (loose ws))
    go None (Some flags) r = refl
    go None None r = sym (unformed_more the_command w (loose ws ready) r)
    go (Some rest) short r = elim (either_way (is_option (name_of rest))) [
      | inl e ↦ rw e (by_text_is (name_of rest) (text_of rest) e)
      | inr e ↦ rw e refl
    ]

words_are : (ws : List (List ℕ)) → Ready ws × Waits ws
words_are [] = (refl, λ name known. refl)
words_are (w ∷ ws) = let later = words_are ws in (word_ready w ws later.0 later.1, word_waits w ws later.0)

pub said_is : (ws : List (List ℕ)) → said_in ws None ≡ formed (loose ws ready)
said_is ws = (words_are ws).0
