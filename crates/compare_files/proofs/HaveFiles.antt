-- EACH COMMITTED LINK HAS A FILE exactly where a search through all of them finds no link without one.
use Rattle.std.proofs.Common.{◌≡◌, ⊎_elim, ℕ, List, [], ◌∷◌, Bool, true, false, cond, ◌&&◌, Option, Some, None, is_some, refl, sym, ◌∙◌, ap}
use Rattle.std.specs.Bool.{Decides}
use Rattle.std.specs.FinMap as maps
use Rattle.std.specs.List.{list_all}
use Rattle.dl_base.specs.declared.area.Area.TheVariants as areas
use Rattle.dl_base.specs.declared.file.File.{File}
use Rattle.dl_base.specs.declared.value.LinkRow.{LinkRow}
use Rattle.compare_files.specs.Effects.{file_bytes}
use Rattle.compare_files.specs.Overlay.{IsOverlayOf, Overlay, file_at}
use Rattle.compare_files.proofs.Committed.{file-is}
use Rattle.meaning_areas.specs.Areas.{ComparesAt}
use Rattle.meaning_areas.specs.Commits.{tables_after}
use Rattle.meaning_areas.specs.Lists.{Folds}
use Rattle.meaning_areas.specs.Stands.{open_in, settled_of, txs_of}
use Rattle.meaning_settling.specs.Keyed.{is_at}
use Rattle.meaning_settling.specs.Settling.{on}
use Rattle.meaning_settling.proofs.KeyedLaws.{either, is_at-same, is_at-self}
use Rattle.meaning_tables.specs.Links.{links}

pub both : (a b : Bool) → (a && b) ≡ true → (a ≡ true) × (b ≡ true)
both true b e = (refl, e)
both false b e = absurd cc

pub all : (a b : Bool) → a ≡ true → b ≡ true → (a && b) ≡ true
all true b e g = g
all false b e g = absurd cc

-- a test of the path of each link is one of each path that has a link
module _ (has : List ℕ → Bool) where
  pub passes : (xs : List LinkRow) → list_all (λ l. has l.path) xs ≡ true → (p : List ℕ) (l : LinkRow) → on xs p ≡ Some l → has p ≡ true
  passes [] e p l at = absurd cc
  passes (x ∷ xs) e p l at =
      let two = both (has x.path) (list_all (λ y. has y.path) xs) e in
      ⊎_elim
      (λ (here : is_at p x.path ≡ true). ap has (is_at-same p x.path here) ∙ two.0)
      (λ (there : is_at p x.path ≡ false). passes xs two.1 p l (sym (ap (λ b. cond b (Some x) (on xs p)) there) ∙ at))
      (either (is_at p x.path))

  pub each-passes : (xs : List LinkRow) → ((p : List ℕ) (l : LinkRow) → on xs p ≡ Some l → has p ≡ true) → list_all (λ l. has l.path) xs ≡ true
  each-passes [] each = refl
  each-passes (x ∷ xs) each = all (has x.path) (list_all (λ y. has y.path) xs)
      (each x.path x (ap (λ b. cond b (Some x) (on xs x.path)) (is_at-self x.path)))
      (each-passes xs (λ p l at. ⊎_elim
      (λ (here : is_at p x.path ≡ true). each p x (ap (λ b. cond b (Some x) (on xs p)) here))
      (λ (there : is_at p x.path ≡ false). each p l (ap (λ b. cond b (Some x) (on xs p)) there ∙ at))
      (either (is_at p x.path))))

some-bytes : (o : Option File) → is_some (file_bytes o) ≡ is_some o
some-bytes None = refl
some-bytes (Some f) = refl

pub files-fit : (f : Folds) (o : Overlay) → ComparesAt f areas.Links → IsOverlayOf (open_in f.links) (txs_of f.rows.commits) o
    → Decides (list_all (λ l. is_some (file_at o f.files f.copies l.path)) (links (tables_after [] f.rows.commits))) (ComparesAt f areas.Files)
files-fit f o fit is = (
  (λ e p l at. sym (same p) ∙ passes (λ q. is_some (file_at o f.files f.copies q)) (links (tables_after [] f.rows.commits)) e p l at),
  (λ each. each-passes (λ q. is_some (file_at o f.files f.copies q)) (links (tables_after [] f.rows.commits)) (λ p l at. same p ∙ each p l at)),
)
  where
    same : (p : List ℕ) → is_some (file_at o f.files f.copies p) ≡ is_some (maps.get (settled_of f).files p)
    same p = ap is_some (file-is f fit o is p) ∙ some-bytes (maps.get (settled_of f).files p)
