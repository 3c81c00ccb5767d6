-- Settings come only of texts that are in their forms.
use Rattle.std.proofs.Common.{◌≡◌, inl, inr, ℕ, true, false, not, List, [], ◌∷◌, map, Option, Some, None, refl, sym, ap, subst, ◌∙◌}
use Rattle.std.specs.Prelude.{bytes_eq, codes, is_some, unwrap_or}
use Rattle.std.specs.List.{list_all}
use Rattle.std.proofs.lemmas.Bool.{and_parts, and_from, or_parts, not-true, false≢true}
use Rattle.std.proofs.lemmas.Slice.Eq.{bytes_eq-Decides}
use Rattle.dl_base.specs.declared.step.Settings.{Settings}
use Rattle.clap.specs.Walk.{first_of}
use Rattle.dl_base.specs.Digits.{number_in}
use Rattle.dl_base.specs.Steps.{◌>>=◌}
use Rattle.run_args.specs.Words.{NamedText, is_server, server_in, key_in, is_form, has, are_distinct, text_in, settings_of, no_key, most_area_bytes, most_life, most_moment}
use Rattle.run_args.proofs.Forms.{is_formed}
use Rattle.run_args.proofs.Rules.{row, the_command, text_itself, either_way}

-- the rows' texts are those that were said
pub rows_say : (said : List NamedText) (name : List ℕ) → first_of name (map row said) ≡ text_in said name
rows_say [] name = refl
rows_say (s ∷ said) name = elim (either_way (bytes_eq s.0 name)) [ inl e ↦ rw e refl | inr e ↦ rw e (rows_say said name) ]

absent : (said : List NamedText) (name : List ℕ) → has name said ≡ false → text_in said name ≡ None
absent [] name none = refl
absent (s ∷ said) name none =
    let both = or_parts (bytes_eq s.0 name) (has name said) none in
    rw both.0 (absent said name both.1)

abbrev pub IsNone : {A : Type 0} → Option A → Type 0
IsNone None = Unit {0}
IsNone (Some a) = ⊥

-- where each text that is found is in its form, all are
all_formed : (said : List NamedText) → are_distinct said ≡ true → ((name text : List ℕ) → text_in said name ≡ Some text → is_form name text ≡ true) → list_all is_formed said ≡ true
all_formed [] are found = refl
all_formed (s ∷ said) are found =
    let both = and_parts (not (has s.0 said)) (are_distinct said) are in
    let none = absent said s.0 (not-true (has s.0 said) both.0) in
    let later : (name text : List ℕ) → text_in said name ≡ Some text → is_form name text ≡ true = λ name text is. elim (either_way (bytes_eq s.0 name)) [
      | inl e ↦ absurd (subst IsNone (sym (sym is ∙ ap (text_in said) (sym ((bytes_eq-Decides s.0 name).0 e)) ∙ none)) tt)
      | inr e ↦ found name text (rw e is)
    ] in
    and_from (is_formed s) (list_all is_formed said) (found s.0 s.1 (rw (text_itself s.0) refl)) (all_formed said both.1 later)

pub bound : {A B : Type 0} (first : Option A) (next : A → Option B) (b : B) → (first >>= next) ≡ Some b → (a : A) × (first ≡ Some a) × (next a ≡ Some b)
bound None next b is = absurd (subst IsNone is tt)
bound (Some a) next b is = (a, refl, is)

some_server : (text a : List ℕ) → server_in text ≡ Some a → is_server text ≡ true
some_server text a is = elim (either_way (is_server text)) [ inl e ↦ e | inr e ↦ absurd (subst IsNone (rw e at is) tt) ]

some_is : {A : Type 0} (o : Option A) (a : A) → o ≡ Some a → is_some o ≡ true
some_is o a is = ap is_some is

-- the settings say of each name that its text is in its form
record Holds (text : List ℕ → Option (List ℕ)) : Type 0 where
  pub command : bytes_eq (unwrap_or (text the_command) []) (codes "run") ≡ true
  pub server : is_server (unwrap_or (text (codes "server")) (codes "fs1")) ≡ true
  pub key : is_some (key_in (unwrap_or (text (codes "key")) no_key)) ≡ true
  pub now : is_some (number_in 20 0 most_moment (unwrap_or (text (codes "now")) (codes "0"))) ≡ true
  pub life : is_some (number_in 20 1 most_life (unwrap_or (text (codes "life")) (codes "60"))) ≡ true
  pub area : is_some (number_in 20 1 most_area_bytes (unwrap_or (text (codes "area")) (codes "1099511627776"))) ≡ true

holds : (text : List ℕ → Option (List ℕ)) (s : Settings) → settings_of text ≡ Some s → Holds text
holds text s is = elim (either_way (bytes_eq (unwrap_or (text the_command) []) (codes "run"))) [
  | inr e ↦ absurd (subst IsNone (rw e at is) tt)
  | inl e ↦
      let (server, server_is, one) = bound (server_in (unwrap_or (text (codes "server")) (codes "fs1"))) _ s (rw e at is) in
      let (key, key_is, two) = bound (key_in (unwrap_or (text (codes "key")) no_key)) _ s one in
      let (now, now_is, three) = bound (number_in 20 0 most_moment (unwrap_or (text (codes "now")) (codes "0"))) _ s two in
      let (life, life_is, four) = bound (number_in 20 1 most_life (unwrap_or (text (codes "life")) (codes "60"))) _ s three in
      let (area, area_is, five) = bound (number_in 20 1 most_area_bytes (unwrap_or (text (codes "area")) (codes "1099511627776"))) _ s four in
      record {
        command = e;
        server = some_server _ server server_is;
        key = some_is _ key key_is;
        now = some_is _ now now_is;
        life = some_is _ life life_is;
        area = some_is _ area area_is;
      }
]

formed_by : (said : List NamedText) → Holds (text_in said) → (name text : List ℕ) → text_in said name ≡ Some text → is_form name text ≡ true
formed_by said holds name text is = elim (either_way (bytes_eq (codes "server") name)) [
  | inl e ↦ rw e (server_of (same (codes "server") e))
  | inr e1 ↦ elim (either_way (bytes_eq (codes "key") name)) [
    | inl e ↦ rw (e1, e) (rw (same (codes "key") e) at holds.key)
    | inr e2 ↦ elim (either_way (bytes_eq (codes "now") name)) [
      | inl e ↦ rw (e1, e2, e) (rw (same (codes "now") e) at holds.now)
      | inr e3 ↦ elim (either_way (bytes_eq (codes "life") name)) [
        | inl e ↦ rw (e1, e2, e3, e) (rw (same (codes "life") e) at holds.life)
        | inr e4 ↦ elim (either_way (bytes_eq (codes "area") name)) [
          | inl e ↦ rw (e1, e2, e3, e4, e) (rw (same (codes "area") e) at holds.area)
          | inr e5 ↦ elim (either_way (bytes_eq the_command name)) [
            | inl e ↦ rw (e1, e2, e3, e4, e5, e) (rw (same the_command e) at holds.command)
            | inr e6 ↦ rw (e1, e2, e3, e4, e5, e6) refl
          ]
        ]
      ]
    ]
  ]
]
  where
    same : (known : List ℕ) → bytes_eq known name ≡ true → text_in said known ≡ Some text
    same known e = ap (text_in said) ((bytes_eq-Decides known name).0 e) ∙ is

    server_of : text_in said (codes "server") ≡ Some text → is_server text ≡ true
    server_of e = rw e at holds.server

-- a text out of its form gives no settings
pub unformed : (said : List NamedText) → are_distinct said ≡ true → list_all is_formed said ≡ false → settings_of (text_in said) ≡ None
unformed said are out = go (settings_of (text_in said)) refl
  where
    go : (o : Option Settings) → settings_of (text_in said) ≡ o → o ≡ None
    go None e = refl
    go (Some s) e = absurd (false≢true (sym out ∙ all_formed said are (formed_by said (holds (text_in said) s e))))
