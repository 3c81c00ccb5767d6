-- HMAC (RFC 2104) over SHA-256 (FIPS 180-4), for keys of at most 64 bytes.
use Rattle.std.specs.Prelude.{ℕ, ◌-◌, List, ◌++◌, length, map, replicate, bit_xor}
use Rattle.sha2.specs.Sha256.{sha256}

-- the key, padded with zeros to 64 bytes, with each byte xor b
abbrev pub padded : ℕ → List ℕ → List ℕ
padded b key = map (λ k. bit_xor k b) (key ++ replicate (64 - length key) 0)

-- H((K xor opad) || H((K xor ipad) || message))
unfoldable pub hmac : List ℕ → List ℕ → List ℕ
hmac key message = sha256 (padded 0x5c key ++ sha256 (padded 0x36 key ++ message))
