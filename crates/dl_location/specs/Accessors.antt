-- The texts of a datalink that the accessors give. The kept location is read as text.
use Rattle.std.specs.Prelude.{ℕ, ◌==◌, ◌&&◌, Bool, false, drop, List, [], ◌∷◌, codes, if◌then◌else◌}
use Rattle.std.specs.List.{list_any, before_first}
use Rattle.std.specs.Str.{str_to_ascii_uppercase}
use Rattle.dl_base.specs.declared.value.Dl.{Dl}
use Rattle.dl_location.specs.declared.accessor.Accessor.{Accessor}
use Rattle.dl_location.specs.declared.accessor.Accessor.TheVariants.{Comment, LinkType, Scheme, Server, PathOnly, Complete}

-- what stands before the first colon, and nothing where there is none
abbrev pub scheme_part : List ℕ → List ℕ
scheme_part location = if list_any (λ b. b == 58) location then before_first (λ b. b == 58) location else []

abbrev pub begins_with_slash : List ℕ → Bool
begins_with_slash [] = false
begins_with_slash (b ∷ rest) = b == 47

-- what stands behind the first two slashes in a row, and nothing where there are none
abbrev pub behind_slashes : List ℕ → List ℕ
behind_slashes [] = []
behind_slashes (b ∷ rest) = if b == 47 && begins_with_slash rest then drop 1 rest else behind_slashes rest

-- what stands between the first two slashes in a row and the next slash or the end
abbrev pub host_part : List ℕ → List ℕ
host_part location = before_first (λ b. b == 47) (behind_slashes location)

abbrev pub accessor_text : Accessor → Dl → List ℕ
accessor_text Comment link = link.comment
accessor_text LinkType link = codes "URL"
accessor_text Scheme link = str_to_ascii_uppercase (scheme_part link.location)
accessor_text Server link = str_to_ascii_uppercase (host_part link.location)
accessor_text PathOnly link = link.path
accessor_text Complete link = link.location
