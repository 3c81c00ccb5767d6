-- What a token is, which texts have one before their last name, and what a token is good for.
use Rattle.std.specs.Prelude.{◌≡◌, ◌<◌, ℕ, ◌+◌, ◌-◌, ◌^◌, min, Bool, true, false, ◌&&◌, ◌||◌, not, ◌==◌, nat_lt, nat_le, if◌then◌else◌, List, [], ◌∷◌, ◌++◌, length, take, drop, decimal, bytes_eq, Option, Some, None, Result, Ok, Err}
use Rattle.std.specs.Char.{is_ascii_digit}
use Rattle.std.specs.List.{list_all, prefix_len, after_last}
use Rattle.std.specs.Str.Parse.{digits_value}
use Rattle.hex.specs.Hex.{encode_lower, decode_of, IsBytes}
use Rattle.hex.specs.declared.error.FromHexError.{FromHexError}
use Rattle.dl_base.specs.Path.{IsPath, path_test}
use Rattle.dl_base.specs.declared.file.Token.{Token}
use Rattle.dl_base.specs.declared.value.LinkNo.{LinkNo}
use Rattle.dl_token.specs.Hmac.{hmac}
use Rattle.dl_token.specs.Links.{link_text}
use Rattle.dl_token.specs.declared.verdict.Verdict.{Verdict}
use Rattle.dl_token.specs.declared.verdict.Verdict.TheVariants.{Good, Wrong, Expired}

-- what a token is: a 64-bit moment and 16 bytes
pub record IsToken (token : Token) : Type 0 where
  pub expiry : token.expiry < 2 ^ 64
  pub sized : length token.mac ≡ 16
  pub bytes : IsBytes token.mac

-- what follows the last slash, or all where there is none
abbrev pub last_name : List ℕ → List ℕ
last_name text = after_last (λ b. b == 47) text

-- all up to the last slash, and nothing where there is none
abbrev pub folder : List ℕ → List ℕ
folder text = take (length text - length (last_name text)) text

-- a token as text: the expiry in decimal, a dot, and two lower-case hexadecimal digits for each byte
abbrev pub token_text : Token → List ℕ
token_text token = decimal token.expiry ++ 46 ∷ encode_lower token.mac

-- the text with a token and a semicolon before its last name
unfoldable pub with_token : List ℕ → Token → List ℕ
with_token text token = folder text ++ (token_text token ++ 59 ∷ last_name text)

-- how many decimal digits the text begins with
abbrev pub digit_count : List ℕ → ℕ
digit_count text = prefix_len is_ascii_digit text

-- one digit, or digits that do not begin with 0
abbrev pub has_no_leading_zero : List ℕ → Bool
has_no_leading_zero [] = false
has_no_leading_zero (d ∷ []) = true
has_no_leading_zero (d ∷ e ∷ ds) = not (d == 48)

-- digits of a moment: a number below 2 to the 64th
abbrev pub is_expiry : List ℕ → Bool
is_expiry ds = has_no_leading_zero ds && nat_lt (digits_value 10 ds) (2 ^ 64)

abbrev pub is_lower_hex : ℕ → Bool
is_lower_hex b = is_ascii_digit b || (nat_le 97 b && nat_le b 102)

-- a semicolon, and at least one byte more
abbrev pub goes_on : List ℕ → Bool
goes_on [] = false
goes_on (b ∷ []) = false
goes_on (b ∷ c ∷ more) = b == 59

-- a dot, 32 lower-case hexadecimal digits, and what goes on behind them
abbrev pub has_mac : List ℕ → Bool
has_mac [] = false
has_mac (b ∷ bs) = b == 46 && nat_le 32 (length bs) && list_all is_lower_hex (take 32 bs) && goes_on (drop 32 bs)

-- the name begins with a token and a semicolon, and goes on
unfoldable pub begins_with_token : List ℕ → Bool
begins_with_token name = is_expiry (take (digit_count name) name) && has_mac (drop (digit_count name) name)

-- the last name of the text is of the token form
abbrev pub has_token_form : List ℕ → Bool
has_token_form text = begins_with_token (last_name text)

-- the last name of the text is that token, a semicolon and more: the token form, said without a test
pub record HasToken (text : List ℕ) (token : Token) (more : List ℕ) : Type 0 where
  pub is_token : IsToken token
  pub last : last_name text ≡ token_text token ++ 59 ∷ more
  pub not_empty : 0 < length more

-- the bytes that hexadecimal digits say
abbrev pub decoded : Result (List ℕ) FromHexError → List ℕ
decoded (Ok bytes) = bytes
decoded (Err _) = []

-- the token that a name of the form begins with
abbrev pub token_of : List ℕ → Token
token_of name = record { expiry = digits_value 10 (take (digit_count name) name); mac = decoded (decode_of (take 32 (drop (digit_count name + 1) name))) }

-- the text without the token and the semicolon before its last name
abbrev pub without_token : List ℕ → List ℕ
without_token text = folder text ++ drop (digit_count (last_name text) + 34) (last_name text)

-- the path and the token of a text that has both; the text may be longer than a path
unfoldable pub read_token : List ℕ → Option (List ℕ × Token)
read_token text = if has_token_form text && path_test (without_token text) then Some (without_token text, token_of (last_name text)) else None

-- the text is that path with that token before its last name: what `read_token` reads, said without reading
pub record ReadsAs (text path : List ℕ) (token : Token) : Type 0 where
  pub is_path : IsPath path
  pub is_token : IsToken token
  pub is_text : text ≡ with_token path token

-- what a token is made over: path, link and expiry, with a zero byte between
abbrev pub token_message : List ℕ → LinkNo → ℕ → List ℕ
token_message path link expiry = path ++ 0 ∷ link_text link ++ 0 ∷ decimal expiry

-- the first 16 bytes of the HMAC of the message
unfoldable pub mac : List ℕ → List ℕ → LinkNo → ℕ → List ℕ
mac key path link expiry = take 16 (hmac key (token_message path link expiry))

-- the token that the database gives out
abbrev pub token : List ℕ → List ℕ → LinkNo → ℕ → Token
token key path link expiry = record { expiry = expiry; mac = mac key path link expiry }

-- up to when a token is good that is given out at a moment, for a life
abbrev pub expiry_after : ℕ → ℕ → ℕ
expiry_after moment life = min (moment + life) (2 ^ 64 - 1)

-- what a token is good for at a moment: it is good at its expiry still
unfoldable pub verdict : List ℕ → List ℕ → LinkNo → ℕ → Token → Verdict
verdict key path link moment token =
    if not (bytes_eq token.mac (mac key path link token.expiry)) then Wrong
    else if nat_lt token.expiry moment then Expired token.expiry
    else Good
