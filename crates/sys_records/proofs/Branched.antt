-- THE PREPARED of a transaction or of a restore, where there is one.
use Rattle.std.proofs.Common.{◌≡◌, ℕ, map, Bool, true, false, List, [], ◌∷◌, Some, is_some, sym, ◌∙◌, ap}
use Rattle.dl_base.specs.declared.value.LinkRow.{LinkRow}
use Rattle.dl_codec.specs.declared.links.LinksRecord.TheVariants as links_records
use Rattle.dl_codec.specs.declared.links.Taken.{Taken}
use Rattle.fm_manager.specs.Managed.{AreSpelled, IsSpelled, IsTakenBy}
use Rattle.meaning_areas.specs.Lists.{Written, folds_on, in_links}
use Rattle.meaning_system.specs.State.{has_links}
use Rattle.meaning_system.specs.Writes.{prepared, taken_by, when}
use Rattle.sys_owners.proofs.Taking.{taken-anywhere}
use Rattle.sys_owners.specs.Owned.{Owned, folds_in}
use Rattle.sys_records.proofs.Spelled.{as-spelled}
use Rattle.sys_records.specs.Restoring.{moving}

module _ (tx : ℕ) (gives takes : List LinkRow) (fill : Bool) where
  pub nothing-prepared : has_links (moving gives takes fill) ≡ false → prepared tx (moving gives takes fill) ≡ []
  nothing-prepared none = ap (λ b. when b (in_links (links_records.Prepared tx gives (map (taken_by fill) takes)) ∷ [])) none

  pub something-prepared : has_links (moving gives takes fill) ≡ true → prepared tx (moving gives takes fill) ≡ in_links (links_records.Prepared tx gives (map (taken_by fill) takes)) ∷ []
  something-prepared has = ap (λ b. when b (in_links (links_records.Prepared tx gives (map (taken_by fill) takes)) ∷ [])) has

  -- with copies of what is given and taken
  module _ (mine : List LinkRow) (made : List Taken) (has : has_links (moving gives takes fill) ≡ true) (is_mine : mine ≡ gives) (is_made : made ≡ map (taken_by fill) takes) where
    pub prepared-copies : in_links (links_records.Prepared tx mine made) ∷ [] ≡ prepared tx (moving gives takes fill)
    prepared-copies = (λ i. in_links (links_records.Prepared tx (is_mine i) (is_made i)) ∷ []) ∙ sym (something-prepared has)

    pub prepared-taken : (w : Owned) → is_some (folds_on (Some (folds_in w)) (prepared tx (moving gives takes fill))) ≡ true → IsTakenBy w.manager (in_links (links_records.Prepared tx mine made) ∷ [])
    prepared-taken w taken =
        taken-anywhere w.manager w.store.rows w.backups.backups (in_links (links_records.Prepared tx mine made) ∷ []) (tt, tt)
        (ap (λ (xs : List Written). is_some (folds_on (Some (folds_in w)) xs)) prepared-copies ∙ taken)

    pub prepared-spelled : IsSpelled (in_links (links_records.Prepared tx mine made)) → AreSpelled (prepared tx (moving gives takes fill))
    prepared-spelled spelled = as-spelled (prepared tx (moving gives takes fill)) (in_links (links_records.Prepared tx mine made) ∷ []) (sym prepared-copies) (spelled, tt)
