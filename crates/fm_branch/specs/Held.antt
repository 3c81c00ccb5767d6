-- Links that are held, kept at paths that have a place for one.
use Rattle.std.specs.Prelude.{◌≡◌, ℕ, Bool, true, List, [], ◌∷◌, ◌++◌, Option, Some, None, is_some, refl}
use Rattle.std.specs.Coded.{Coded, code_by, coded×, coded_ℕ, coded_list, coded_option}
use Rattle.std.specs.FinMap as maps
use Rattle.std.specs.List.{list_all}
use Rattle.std.specs.Option.{option_to_list}
use Rattle.dl_base.specs.declared.column.Options.{Options}
use Rattle.dl_base.specs.declared.value.LinkNo.{LinkNo}
use Rattle.dl_base.specs.declared.value.LinkRow.{LinkRow}
use Rattle.meaning_areas.specs.Branches.{Branch, Branches}
use Rattle.meaning_settling.specs.Keyed.{Keyed, over, put_at}
use Rattle.meaning_settling.specs.Settling.{held_after, paths_of}
use Rattle.fm_branch.specs.Codes.{number_code, options_code}
use Rattle.fm_branch.specs.declared.held.Holding.{Holding}

-- each path that has a place, and what stands there
abbrev pub Places : Type 0
Places = Keyed (Option Holding)

abbrev pub Entries : Type 0
Entries = List (List ℕ × Option Holding)

abbrev pub holding_code : Coded Holding
holding_code = code_by (LinkNo × Options) (coded× number_code options_code) (λ h. (h.link, h.options)) (λ p. record { link = p.0; options = p.1 }) (λ _. refl)

abbrev pub places_code : Coded Places
places_code = maps.code (coded_list coded_ℕ) (coded_option holding_code)

abbrev pub row_on : List ℕ → Option Holding → Option LinkRow
row_on path None = None
row_on path (Some h) = Some (record { link = h.link; path = path; options = h.options })

-- the link at a place, if there are both
abbrev pub row_at : List ℕ → Option (Option Holding) → Option LinkRow
row_at path None = None
row_at path (Some place) = row_on path place

abbrev pub rows_in : Entries → Keyed LinkRow
rows_in [] = maps.empty
rows_in (e ∷ es) = put_at (rows_in es) e.0 (row_on e.0 e.1)

-- the links that are held, by their paths
unfoldable pub held_in : Places → Keyed LinkRow
held_in places = rows_in (maps.entries places)

-- the links at some places, in order
abbrev pub rows_from : Entries → List LinkRow
rows_from [] = []
rows_from (e ∷ es) = option_to_list (row_on e.0 e.1) ++ rows_from es

abbrev pub has_place : Places → List ℕ → Bool
has_place places path = is_some (maps.get places path)

-- each of some links has a place on its path
abbrev pub have_places : Places → List LinkRow → Bool
have_places places links = list_all (λ l. has_place places l.path) links

-- the same paths have places
abbrev pub HasPlacesOf : Places → Places → Type 0
HasPlacesOf new old = (path : List ℕ) → has_place new path ≡ has_place old path

-- all paths that had a place have one
abbrev pub KeepsPlaces : Places → Places → Type 0
KeepsPlaces old new = (path : List ℕ) → has_place old path ≡ true → has_place new path ≡ true

-- the places with this at a path, if that has a place
abbrev pub with_holding : Places → List ℕ → Option Holding → Option (Option Holding) → Places
with_holding places path holding None = places
with_holding places path holding (Some was) = maps.insert places path holding

-- held links without those on the paths of some, and with some, of which the first on a path counts

abbrev pub without_links : List LinkRow → Keyed LinkRow → Keyed LinkRow
without_links [] held = held
without_links (g ∷ gs) held = without_links gs (maps.remove held g.path)

abbrev pub with_links : List LinkRow → Keyed LinkRow → Keyed LinkRow
with_links [] held = held
with_links (t ∷ ts) held = maps.insert (with_links ts held) t.path t

-- held links when a branch is done, if there is one
abbrev pub held_by_branch : Option Branch → Keyed LinkRow → Keyed LinkRow
held_by_branch None held = held
held_by_branch (Some b) held = over (paths_of b.moved) (held_after b.moved) held

-- no branches, and these links held: what a Prepared is asked looks at no branch
abbrev pub with_held : Keyed LinkRow → Branches
with_held held = record { opening = 0; table = maps.empty; held = held }
