-- WHERE THE COMMITS AND THE BRANCHES FIT EACH OTHER, the committed branches in doubt have nothing in common, and what an overlay says
-- is what settling leaves.
use Rattle.std.proofs.Common.{◌≡◌, ℕ, List, Bool, true, false, cond, Option, Some, None, is_some, refl, sym, ◌∙◌, ap}
use Rattle.std.specs.FinMap as maps
use Rattle.std.specs.Option.{option_or}
use Rattle.dl_base.specs.declared.area.Area.TheVariants as areas
use Rattle.compare_files.specs.Effects.{Bytes, after_effect, after_source, copy_bytes, effect, file_bytes, first_open}
use Rattle.compare_files.specs.Overlay.{IsOverlayOf, Overlay, copy_at, file_at}
use Rattle.compare_files.specs.declared.effects.Effect.{Effect}
use Rattle.compare_files.specs.declared.effects.Effect.TheVariants as effects
use Rattle.compare_files.proofs.Settled.{copies-settled, files-settled}
use Rattle.meaning_areas.specs.Areas.{ComparesAt}
use Rattle.meaning_areas.specs.Branches.{Branch}
use Rattle.meaning_areas.specs.Commits.{Commit, commit_of}
use Rattle.meaning_areas.specs.Lists.{Folds}
use Rattle.meaning_areas.specs.Stands.{IsBranch, IsCommit, is_open, kept_of, open_branch, open_in, settled_of, txs_of}
use Rattle.meaning_areas.proofs.OwnNumbers.{IsOf, apart-by-paths}
use Rattle.meaning_areas.proofs.Tables.{commit-is, in-commit, not_none, some_same, the_some}
use Rattle.meaning_settling.specs.Settled.{AreApart}
use Rattle.meaning_settling.specs.Settling.{Moved, link_key}

module _ (f : Folds) (fit : ComparesAt f areas.Links) where
  open-of : (t : ℕ) (m : Moved) → is_some (commit_of t f.rows.commits) ≡ true → open_in f.links t ≡ Some m → (c : Commit) × IsOf m c f.rows.commits
  open-of t m some is =
      let it = the_some (commit_of t f.rows.commits) some in
      (it.0, by it.0 it.0.branch (maps.get f.links.table t) (commit-is t it.0 f.rows.commits it.1) (fit.0.branches t it.0 it.1) is)
    where
      chosen : (b : Bool) (x : Moved) → cond b (Some x) None ≡ Some m → x ≡ m
      chosen true x e = some_same x m e
      chosen false x e = absurd cc

      by : (c : Commit) (b : Bool) (o : Option Branch) → IsCommit c f.rows.commits → IsBranch b c.gives c.takes o → open_branch o ≡ Some m → IsOf m c f.rows.commits
      by c true o among has at =
          let same : record { gives = c.gives; takes = c.takes; fill = has.0 } ≡ m = chosen (is_open has.1) (record { gives = c.gives; takes = c.takes; fill = has.0 }) (sym (ap open_branch has.2) ∙ at) in
          record { among = among; gives = sym (ap (λ (x : Moved). x.gives) same); takes = sym (ap (λ (x : Moved). x.takes) same) }
      by c false o among has at = absurd (not_none m (open_branch o) at (ap open_branch has.0))

  pub committed-apart : AreApart (open_in f.links) (txs_of f.rows.commits)
  committed-apart t u in_t in_u other a b at_t at_u =
      let c = open-of t a (in-commit t f.rows.commits in_t) at_t in
      let d = open-of u b (in-commit u f.rows.commits in_u) at_u in
      apart-by-paths f.rows.commits fit.0.moved fit.2 a b c.0 d.0 c.1 d.1 (fit.0.apart t u other a b at_t at_u)

  -- WHAT AN OVERLAY SAYS
  module _ (o : Overlay) (is : IsOverlayOf (open_in f.links) (txs_of f.rows.commits) o) where
    pub copy-is : (n : List ℕ) → copy_at o f.files f.copies n ≡ copy_bytes (maps.get (settled_of f).copies n)
    copy-is n =
        ap (λ x. after_source x (λ p. file_bytes (maps.get f.files p)) (copy_bytes (maps.get f.copies n))) (is.sources n)
        ∙ sym (copies-settled (open_in f.links) (txs_of f.rows.commits) (kept_of f) f.files committed-apart fit.0.distinct (λ t a p among at has. refl) n)

    pub file-is : (p : List ℕ) → file_at o f.files f.copies p ≡ file_bytes (maps.get (settled_of f).files p)
    file-is p =
        ap (λ x. after_effect x (copy_at o f.files f.copies) (file_bytes (maps.get f.files p))) (is.effects p)
        ∙ reads (first_open (effect p) (open_in f.links) (txs_of f.rows.commits)) (file_bytes (maps.get f.files p))
        ∙ sym (files-settled (open_in f.links) (txs_of f.rows.commits) (kept_of f) committed-apart fit.0.distinct p)
      where
        reads : (x : Option Effect) (was : Option Bytes) → after_effect x (copy_at o f.files f.copies) was ≡ after_effect x (λ n. copy_bytes (maps.get (settled_of f).copies n)) was
        reads None was = refl
        reads (Some effects.Keeps) was = refl
        reads (Some effects.Deletes) was = refl
        reads (Some (effects.Fills link)) was = ap (λ y. option_or y was) (copy-is (link_key link))
