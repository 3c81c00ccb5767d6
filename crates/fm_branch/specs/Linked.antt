-- What contracts see of the branches that are open on a bench.
use Rattle.std.specs.Prelude.{◌≡◌, ℕ, ◌+◌, List, [], ◌∷◌, ◌++◌, Option, Some, None, Result, Ok, Err, is_some, true, refl}
use Rattle.std.specs.Coded.{Coded, code_by, coded×, coded_ℕ, coded_list}
use Rattle.std.specs.FinMap as maps
use Rattle.dl_areas.specs.Lists.{Write, write_of}
use Rattle.dl_base.specs.declared.area.Area.TheVariants as areas
use Rattle.dl_codec.specs.Layout.{whole}
use Rattle.dl_codec.specs.Links.{links_record}
use Rattle.dl_codec.specs.declared.links.LinksRecord.{LinksRecord}
use Rattle.dl_codec.specs.declared.links.LinksRecord.TheVariants as records
use Rattle.dl_journal.specs.Extent.{Extent}
use Rattle.dl_journal.specs.Records.{records as bodies_in}
use Rattle.meaning_areas.specs.Areas.{branches_of}
use Rattle.meaning_areas.specs.Branches.{Branch, Branches, links_step, with_branch}
use Rattle.meaning_areas.specs.Full.{opening_full}
use Rattle.fm_branch.specs.Codes.{branches_code}
use Rattle.fm_branch.specs.Held.{Places, have_places}
use Rattle.fm_branch.specs.Table.{Table}

-- What the records stand for, and the transaction of each Prepared, in the order of the records.
pub record Recorded : Type 0 where
  pub links : Branches
  pub prepared : List ℕ

abbrev pub recorded_code : Coded Recorded
recorded_code = code_by (Branches × List ℕ) (coded× branches_code (coded_list coded_ℕ)) (λ r. (r.links, r.prepared)) (λ p. record { links = p.0; prepared = p.1 }) (λ _. refl)

-- the same with the branch of one more transaction
abbrev pub with_prepared : Recorded → ℕ → Branch → Recorded
with_prepared r tx b = record { links = with_branch r.links tx b; prepared = r.prepared ++ tx ∷ [] }

-- The same, how many bytes their area has up to behind the closing gate, and how many it may have.
pub record Linked : Type 0 where
  pub links : Branches
  pub prepared : List ℕ
  pub length : ℕ
  pub limit : ℕ

abbrev pub linked_code : Coded Linked
linked_code =
    code_by (Branches × (List ℕ × (ℕ × ℕ))) (coded× branches_code (coded× (coded_list coded_ℕ) (coded× coded_ℕ coded_ℕ)))
    (λ l. (l.links, (l.prepared, (l.length, l.limit)))) (λ p. record { links = p.0; prepared = p.1.0; length = p.1.1.0; limit = p.1.1.1 }) (λ _. refl)

-- the journal of the area Links
abbrev pub extent : Linked → Extent
extent l = record { area = areas.Links; length = l.length; limit = l.limit }

-- the transaction of a record, where that is a Prepared, and of all among some bodies, in order

abbrev pub prepared_by : Option LinksRecord → List ℕ
prepared_by None = []
prepared_by (Some (records.Opening number)) = []
prepared_by (Some (records.Prepared tx gives takes)) = tx ∷ []
prepared_by (Some (records.Committed tx)) = []
prepared_by (Some (records.Done tx)) = []
prepared_by (Some (records.Aborted tx)) = []

abbrev pub prepared_in : List (List ℕ) → List ℕ
prepared_in [] = []
prepared_in (body ∷ bodies) = prepared_by (whole links_record body) ++ prepared_in bodies

-- the takes of each branch have places on their paths
abbrev pub HavePlaces : Table → Places → Type 0
HavePlaces table places = (tx : ℕ) (b : Branch) → maps.get table tx ≡ Some b → have_places places b.moved.takes ≡ true

-- what a list's bodies stand for; where it is none, the place of the first record that is none
abbrev pub by_bodies : Result (List (List ℕ)) ℕ → Result Branches ℕ
by_bodies (Ok bodies) = branches_of bodies
by_bodies (Err place) = Err place

-- what the bytes of the area stand for, or the place of the first record that is none or that the fold refuses
abbrev pub links_in : List ℕ → Result Branches ℕ
links_in told = by_bodies (bodies_in told)

-- a record as it is written, and that of the next opening

abbrev pub write_for : LinksRecord → Write
write_for x = write_of areas.Links (links_record.spelling x) None

abbrev pub opening_write : Branches → Write
opening_write l = write_of areas.Links (links_record.spelling (records.Opening (l.opening + 1))) (opening_full (l.opening + 1))

-- the branches in the next opening
abbrev pub reopened : Branches → Branches
reopened l = record { opening = l.opening + 1; table = l.table; held = l.held }

-- the fold takes this record
abbrev pub IsTaken : Branches → LinksRecord → Type 0
IsTaken l x = is_some (links_step l x) ≡ true
