-- The cases of a location.
use Rattle.std.proofs.Common.{◌≡◌, ℕ, List, Option, None, Ok, Err, false, true, sym, ap, ◌∙◌}
use Rattle.std.specs.Str.{IsUtf8, is_utf8}
use Rattle.std.proofs.lemmas.Bool.{cond-false, cond-true, false_from_ne_true}
use Rattle.std.proofs.lemmas.Str.{IsUtf8-from_is_utf8, is_utf8-from_IsUtf8}
use Rattle.url.specs.Parts.{Parts}
use Rattle.url.specs.Parser.{parse_url}
use Rattle.dl_base.specs.declared.sql_fault.BadLink.{BadLink}
use Rattle.dl_base.specs.declared.sql_fault.BadLink.TheVariants as bad
use Rattle.dl_location.specs.Location.{location, of_parsed, judged, refusal}

-- a text that is not UTF-8
pub of_bytes : (server text : List ℕ) → (IsUtf8 text → ⊥) → location server text ≡ Err bad.NotUrl
unfolding location
of_bytes server text broken = cond-false _ _ _ (false_from_ne_true _ (λ e. broken (IsUtf8-from_is_utf8 _ e)))

-- a text that is a URL
pub of_url : (server text read : List ℕ) (url : Parts) (why : Option BadLink) → read ≡ text → IsUtf8 text → parse_url None read ≡ Ok url → why ≡ refusal server url
    → location server text ≡ judged url why
unfolding location
of_url server text read url why same utf8 parsed is =
    cond-true _ _ _ (is_utf8-from_IsUtf8 _ utf8)
    ∙ ap (λ (s : List ℕ). of_parsed server (parse_url None s)) (sym same)
    ∙ ap (of_parsed server) parsed
    ∙ ap (judged url) (sym is)

-- a text is not taken for bytes that are none
pub no_text : {P : Type 0} (text : List ℕ) → IsUtf8 text → is_utf8 text ≡ false → P
no_text text utf8 other =
    let same : is_utf8 text ≡ true = is_utf8-from_IsUtf8 text utf8 in
    absurd cc
