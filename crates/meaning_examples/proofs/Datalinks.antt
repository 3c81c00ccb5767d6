-- The texts of a datalink, and the numbers of the refusals of one.
use Rattle.std.proofs.Common.{◌≡◌, ℕ, List, [], ◌∷◌, map, codes, None, refl}
use Rattle.dl_base.specs.declared.sql_fault.BadLink.TheVariants as bad
use Rattle.dl_base.specs.declared.value.Dl.{Dl}
use Rattle.dl_location.specs.Accessors.{accessor_text}
use Rattle.dl_location.specs.Numbers.{bad_link_number}
use Rattle.dl_location.specs.declared.accessor.Accessor.{Accessor}
use Rattle.dl_location.specs.declared.accessor.Accessor.TheVariants.{Comment, LinkType, Scheme, Server, PathOnly, Complete}

-- a film at a location
abbrev film : List ℕ → Dl
film location = record { location = location; path = codes "/Film/1.mpg"; comment = codes "a comment"; link = None }

abbrev texts : Accessor → List (List ℕ) → List (List ℕ)
texts which locations = map (λ location. accessor_text which (film location)) locations

of_a_film : map (λ which. accessor_text which (film (codes "http://fs1/Film/1.mpg"))) (Comment ∷ LinkType ∷ Scheme ∷ Server ∷ PathOnly ∷ Complete ∷ [])
    ≡ codes "a comment" ∷ codes "URL" ∷ codes "HTTP" ∷ codes "FS1" ∷ codes "/Film/1.mpg" ∷ codes "http://fs1/Film/1.mpg" ∷ []
of_a_film = refl

schemes : texts Scheme (codes "file://fs1/a" ∷ codes "no scheme" ∷ codes ":" ∷ []) ≡ codes "FILE" ∷ [] ∷ [] ∷ []
schemes = refl

servers : texts Server (codes "http:/fs1" ∷ codes "http://fs_1" ∷ codes "a//b//c" ∷ codes "http:///a" ∷ [] ∷ []) ≡ [] ∷ codes "FS_1" ∷ codes "B" ∷ [] ∷ [] ∷ []
servers = refl

numbers : map bad_link_number (bad.NotUrl ∷ bad.Scheme ∷ bad.Host ∷ bad.Extra ∷ bad.Path ∷ bad.LinkType ∷ bad.Comment ∷ []) ≡ 1 ∷ 2 ∷ 3 ∷ 4 ∷ 5 ∷ 6 ∷ 7 ∷ []
numbers = refl
