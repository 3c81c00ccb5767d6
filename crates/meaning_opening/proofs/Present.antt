-- AN OPENING GOES BY THE LISTS AS THEY ARE: neither the openings that are counted nor the branches that are settled change what is still to
-- be written.
use Rattle.std.proofs.Common.{◌≡◌, ℕ, List, [], ◌∷◌, ◌++◌, true, ◌&&◌, Option, is_none, is_some, refl, sym, ◌∙◌, ap}
use Rattle.std.specs.Cmp.{nat_cmp_total}
use Rattle.std.specs.FinMap as maps
use Rattle.std.specs.FinMap.{entries-insert, nat_cmp-IsAntisymmetric, put}
use Rattle.std.specs.FinMap.Entries.{by_order}
use Rattle.std.specs.List.{flat_map}
use Rattle.std.specs.Ordering.{nat_cmp}
use Rattle.std.specs.declared.cmp.Ordering.{Ordering}
use Rattle.std.specs.declared.cmp.Ordering.TheVariants.{Equal, Greater, Less}
use Rattle.dl_codec.specs.declared.links.LinksRecord.TheVariants as links_records
use Rattle.meaning_areas.specs.Branches.{Branch}
use Rattle.meaning_areas.specs.Commits.{Commit, commit_of}
use Rattle.meaning_areas.specs.Lists.{Folds, Written, in_links}
use Rattle.meaning_areas.specs.Stands.{is_open}
use Rattle.meaning_system.specs.Writes.{open_drop, when}
use Rattle.meaning_opening.proofs.Plain.{and-false, the_some}

-- an entry that has a commit is not aborted
drop-nothing : (f : Folds) (tx : ℕ) (b : Branch) → is_some (commit_of tx f.rows.commits) ≡ true → open_drop f (tx, b) ≡ []
drop-nothing f tx b committed =
    let d = the_some (commit_of tx f.rows.commits) committed in
    ap (λ (o : Option Commit). when (is_open b.phase && is_none o) (in_links (links_records.Aborted tx) ∷ [])) d.1
    ∙ ap (λ t. when t (in_links (links_records.Aborted tx) ∷ [])) (and-false (is_open b.phase))

put-drops : (f : Folds) (tx : ℕ) (b : Branch) (es : List (ℕ × Branch)) → is_some (commit_of tx f.rows.commits) ≡ true → flat_map (open_drop f) (put nat_cmp tx b es) ≡ flat_map (open_drop f) es
put-drops f tx b [] committed = ap (λ (ws : List Written). ws ++ []) (drop-nothing f tx b committed)
put-drops f tx b (e ∷ es) committed = by (put-drops f tx b es committed) (nat_cmp tx e.0) refl
  where
    by : flat_map (open_drop f) (put nat_cmp tx b es) ≡ flat_map (open_drop f) es → (o : Ordering) → nat_cmp tx e.0 ≡ o
        → flat_map (open_drop f) (by_order o ((tx, b) ∷ e ∷ es) ((e.0, b) ∷ es) (e ∷ put nat_cmp tx b es)) ≡ flat_map (open_drop f) (e ∷ es)
    by rest Less is = ap (λ (ws : List Written). ws ++ flat_map (open_drop f) (e ∷ es)) (drop-nothing f tx b committed)
    by rest Equal is =
        let here : is_some (commit_of e.0 f.rows.commits) ≡ true = ap (λ (t : ℕ). is_some (commit_of t f.rows.commits)) (sym (nat_cmp-IsAntisymmetric tx e.0 is)) ∙ committed in
        ap (λ (ws : List Written). ws ++ flat_map (open_drop f) es) (drop-nothing f e.0 b here ∙ sym (drop-nothing f e.0 e.1 here))
    by rest Greater is = ap (λ (ws : List Written). open_drop f e ++ ws) rest

-- another phase of a branch that has a commit
pub insert-drops : (f : Folds) (t : maps.FinMap nat_cmp Branch) (tx : ℕ) (b : Branch) → is_some (commit_of tx f.rows.commits) ≡ true → flat_map (open_drop f) (maps.entries (maps.insert t tx b)) ≡ flat_map (open_drop f) (maps.entries t)
insert-drops f t tx b committed = ap (flat_map (open_drop f)) (entries-insert nat_cmp_total t tx b) ∙ put-drops f tx b (maps.entries t) committed
