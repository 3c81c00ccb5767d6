-- A text is read as a path and a token exactly where it is that path with that token.
use Rattle.std.proofs.Common.{◌≡◌, ℕ, ◌+◌, ◌-◌, ◌<◌, ◌==◌, true, false, ◌&&◌, not, nat_le, List, [], ◌∷◌, ◌++◌, length, drop, get_or, slice_get, decimal, Option, Some, None, refl, sym, ap, subst, ◌∙◌, arith, inl, inr}
use Rattle.std.specs.Char.{is_ascii_digit}
use Rattle.std.specs.List.{list_all}
use Rattle.std.proofs.lemmas.Bool.{and_parts, and_from, cases_Bool, cases_eq, cond-true, cond-false, both_ways}
use Rattle.std.proofs.lemmas.Fmt.{decimal_is_IsNumeral}
use Rattle.std.proofs.lemmas.List.{get_or_append_left, length-append}
use Rattle.std.proofs.lemmas.Option.{slice_get-get_or}
use Rattle.hex.specs.Hex.{encode_lower}
use Rattle.dl_base.specs.Limits.{most_path_bytes}
use Rattle.dl_base.specs.Path.{IsPath, path_test, is_slash, is_path_byte}
use Rattle.dl_base.specs.declared.file.Token.{Token}
use Rattle.dl_token.specs.Tokens.{IsToken, ReadsAs, token_text, last_name, folder, digit_count, is_lower_hex, begins_with_token, has_token_form, token_of, without_token, with_token, read_token}
use Rattle.dl_token.proofs.Forms.{all_ascii, named, of_token}
use Rattle.dl_token.proofs.Hexes.{encoded_is_lower}
use Rattle.dl_token.proofs.Names.{NoSlash, is_no_slash, folder_ends, folder_of, last_name_of, no_slash_after, no_slash_behind, no_slash_in_last_name, no_slash_of_all, parts}

pub reads : (text : List ℕ) → begins_with_token (last_name text) ≡ true → path_test (without_token text) ≡ true → ReadsAs text (without_token text) (token_of (last_name text))
unfolding with_token
reads text begins path =
    let of = of_token (last_name text) begins in
    let more : List ℕ = drop (digit_count (last_name text) + 34) (last_name text) in
    let none = no_slash_behind (digit_count (last_name text) + 34) (last_name text) (no_slash_in_last_name text) in
    let name : last_name (without_token text) ≡ more = last_name_of (folder text) more (folder_ends text) none in
    let front : folder (without_token text) ≡ folder text = folder_of (folder text) more (folder_ends text) none in
    record {
      is_path = path;
      is_token = of.is_token;
      is_text =
          sym (parts text) ∙ ap (λ (n : List ℕ). folder text ++ n) of.same
          ∙ ap (λ (f : List ℕ). f ++ (token_text (token_of (last_name text)) ++ 59 ∷ more)) (sym front)
          ∙ ap (λ (n : List ℕ). folder (without_token text) ++ (token_text (token_of (last_name text)) ++ 59 ∷ n)) (sym name);
    }

begun_path : (path : List ℕ) → is_slash (slice_get path 0) ≡ true → 0 < length path
begun_path [] is = grind arith
begun_path (b ∷ bs) is = omega arith

-- a path does not end with a slash, so it has a last name
named_path : (path : List ℕ) → path_test path ≡ true → 0 < length (last_name path)
unfolding path_test
named_path path is =
    let third = and_parts (nat_le (length path) most_path_bytes && is_slash (slice_get path 0) && not (is_slash (slice_get path (length path - 1)))) (list_all is_path_byte path) is in
    let second = and_parts (nat_le (length path) most_path_bytes && is_slash (slice_get path 0)) (not (is_slash (slice_get path (length path - 1)))) third.0 in
    let first = and_parts (nat_le (length path) most_path_bytes) (is_slash (slice_get path 0)) second.0 in
    let some = begun_path path first.1 in
    elim (cases_eq (length (last_name path)) 0) [
      | inl none ↦
          let whole : length (folder path) ≡ length path = omega (arith, length-append (folder path) (last_name path), ap length (parts path), none) in
          let ends : is_no_slash (get_or (folder path) (length (folder path) - 1) 0) ≡ false = folder_ends path (omega (arith, some, whole)) in
          let at : get_or path (length path - 1) 0 ≡ get_or (folder path) (length (folder path) - 1) 0 =
          ap (λ (t : List ℕ). get_or t (length path - 1) 0) (sym (parts path))
          ∙ get_or_append_left (folder path) (last_name path) 0 (length path - 1) (omega (arith, some, whole))
          ∙ ap (λ (n : ℕ). get_or (folder path) (n - 1) 0) (sym whole) in
          let last : not (is_slash (slice_get path (length path - 1))) ≡ false =
          ap (λ (o : Option ℕ). not (is_slash o)) (slice_get-get_or path (length path - 1) 0 (omega (arith, some))) ∙ ap is_no_slash at ∙ ends in
          absurd (both_ways _ last second.1)
      | inr some_more ↦ omega arith
    ]

no_slash_in_token : (token : Token) → IsToken token → NoSlash (token_text token)
no_slash_in_token token is =
    let numeral = decimal_is_IsNumeral token.expiry is.expiry in
    no_slash_after (decimal token.expiry) (46 ∷ encode_lower token.mac)
    (no_slash_of_all is_ascii_digit (decimal token.expiry) (λ b h. grind arith) (all_ascii (decimal token.expiry) numeral.0.1))
    (no_slash_after (46 ∷ []) (encode_lower token.mac) (no_slash_of_all (λ b. b == 46) (46 ∷ []) (λ b h. grind arith) refl)
    (no_slash_of_all is_lower_hex (encode_lower token.mac) (λ b h. grind arith) (encoded_is_lower token.mac is.bytes)))

pub record Found (path : List ℕ) (token : Token) (text : List ℕ) : Type 0 where
  pub begins : begins_with_token (last_name text) ≡ true
  pub path_is : without_token text ≡ path
  pub token_is : token_of (last_name text) ≡ token

found : (path : List ℕ) (token : Token) → IsPath path → IsToken token → Found path token (with_token path token)
unfolding with_token
found path token is_path is_token =
    let name : List ℕ = token_text token ++ 59 ∷ last_name path in
    let semicolon : NoSlash (59 ∷ last_name path) =
    no_slash_after (59 ∷ []) (last_name path) (no_slash_of_all (λ b. b == 59) (59 ∷ []) (λ b h. grind arith) refl) (no_slash_in_last_name path) in
    let none : NoSlash name = no_slash_after (token_text token) (59 ∷ last_name path) (no_slash_in_token token is_token) semicolon in
    let last : last_name (folder path ++ name) ≡ name = last_name_of (folder path) name (folder_ends path) none in
    let front : folder (folder path ++ name) ≡ folder path = folder_of (folder path) name (folder_ends path) none in
    let n = named token (last_name path) is_token (named_path path is_path) in
    record {
      begins = ap begins_with_token last ∙ n.begins;
      path_is =
          ap (λ (f : List ℕ). f ++ drop (digit_count (last_name (folder path ++ name)) + 34) (last_name (folder path ++ name))) front
          ∙ ap (λ (l : List ℕ). folder path ++ drop (digit_count l + 34) l) last
          ∙ ap (λ (l : List ℕ). folder path ++ l) n.behind
          ∙ parts path;
      token_is = ap token_of last ∙ n.token_is;
    }

pub reads_back : (text path : List ℕ) (token : Token) → ReadsAs text path token → read_token text ≡ Some (path, token)
unfolding read_token
reads_back text path token is =
    let P : List ℕ → Type 0 = λ t. Found path token t in
    let f = subst P (sym is.is_text) (found path token is.is_path is.is_token) in
    cond-true _ _ _ (and_from _ _ f.begins (ap path_test f.path_is ∙ is.is_path))
    ∙ ap (λ (p : List ℕ). Some (p, token_of (last_name text))) f.path_is
    ∙ ap (λ (t : Token). Some (path, t)) f.token_is

pub none_read : (text : List ℕ) → ((path : List ℕ) (token : Token) → ReadsAs text path token → ⊥) → read_token text ≡ None
unfolding read_token
none_read text never =
    elim (cases_Bool (has_token_form text && path_test (without_token text))) [
      | inl both_hold ↦
          let both = and_parts (has_token_form text) (path_test (without_token text)) both_hold in
          absurd (never _ _ (reads text both.0 both.1))
      | inr not_so ↦ cond-false _ _ _ not_so
    ]

pub read_is : (text path : List ℕ) (token : Token) → read_token text ≡ Some (path, token) → ReadsAs text path token
unfolding read_token
read_is text path token is =
    elim (cases_Bool (has_token_form text && path_test (without_token text))) [
      | inl both_hold ↦
          let both = and_parts (has_token_form text) (path_test (without_token text)) both_hold in
          let e : Some (without_token text, token_of (last_name text)) ≡ Some (path, token) = sym (cond-true _ _ _ both_hold) ∙ is in
          let both_are : (without_token text, token_of (last_name text)) ≡ (path, token) = cc e in
          let p : without_token text ≡ path = ap (λ (r : List ℕ × Token). r.0) both_are in
          let t : token_of (last_name text) ≡ token = ap (λ (r : List ℕ × Token). r.1) both_are in
          let P : List ℕ → Type 0 = λ q. ReadsAs text q token in
          let Q : Token → Type 0 = λ k. ReadsAs text (without_token text) k in
          subst P p (subst Q t (reads text both.0 both.1))
      | inr not_so ↦ let e : None ≡ Some (path, token) = sym (cond-false _ _ _ not_so) ∙ is in cc e
    ]
