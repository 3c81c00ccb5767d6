-- A journal in its place among five.
use Rattle.std.proofs.Common.{◌≡◌, ◌≢◌, ⊎_elim, cond, refl, sym, ◌∙◌, ap, subst}
use Rattle.dl_base.proofs.Areas.{same_area, is_area-here, is_area-other}
use Rattle.dl_base.specs.Areas.{is_area}
use Rattle.dl_base.specs.declared.area.Area.{Area}
use Rattle.dl_base.specs.declared.area.Area.TheVariants.{Rows, Links, Files, Archive, Backups}
use Rattle.dl_journal.specs.Extent.{Extent}
use Rattle.dl_areas.specs.Lists.{Journals, by_area, with_journal}

-- a fact on each area, got on this one and on the others
pub each : (P : Area → Type 0) (a : Area) → P a → ((b : Area) → b ≢ a → P b) → (b : Area) → P b
each P a here others b = ⊎_elim (λ is. subst P (sym is) here) (λ other. others b other) (same_area b a)

pub here : {X : Type 0} (a : Area) (x y : X) → cond (is_area a a) x y ≡ x
here a x y = ap (λ v. cond v x y) (is_area-here a)

pub there : {X : Type 0} (a b : Area) → b ≢ a → (x y : X) → cond (is_area a b) x y ≡ y
there a b other x y = ap (λ v. cond v x y) (is_area-other a b other)

pub with-here : (k : Extent) (js : Journals) → with_journal k js k.area ≡ k
with-here k js = here k.area k (js k.area)

pub with-other : (k : Extent) (js : Journals) (b : Area) → b ≢ k.area → with_journal k js b ≡ js b
with-other k js b other = there k.area b other k (js b)

-- one that stands there already
pub with-same : (k : Extent) (js : Journals) → js k.area ≡ k → with_journal k js ≡ js
with-same k js is = λ i b. each (λ c. with_journal k js c ≡ js c) k.area (with-here k js ∙ sym is) (λ c other. with-other k js c other) b i

-- the later of two of one area
pub with-over : (j k : Extent) (js : Journals) → k.area ≡ j.area → with_journal k (with_journal j js) ≡ with_journal k js
with-over j k js same = λ i b. each (λ c. with_journal k (with_journal j js) c ≡ with_journal k js c) k.area
    (with-here k (with_journal j js) ∙ sym (with-here k js))
    (λ c other. with-other k (with_journal j js) c other ∙ with-other j js c (λ e. other (e ∙ sym same)) ∙ sym (with-other k js c other)) b i

-- the five with another one among them

module _ (k : Extent) (r l f a b : Extent) where
  at : (x : Area) → k.area ≡ x → (ks : Journals) → ((c : Area) → cond (is_area x c) k (by_area r l f a b c) ≡ ks c) → with_journal k (by_area r l f a b) ≡ ks
  at x is ks all = λ i c. every c i
    where
      every : (c : Area) → with_journal k (by_area r l f a b) c ≡ ks c
      every c = ap (λ (y : Area). cond (is_area y c) k (by_area r l f a b c)) is ∙ all c

  pub with-rows : k.area ≡ Rows → with_journal k (by_area r l f a b) ≡ by_area k l f a b
  with-rows is = at Rows is (by_area k l f a b) all
    where
      all : (c : Area) → cond (is_area Rows c) k (by_area r l f a b c) ≡ by_area k l f a b c
      all Rows = refl
      all Links = refl
      all Files = refl
      all Archive = refl
      all Backups = refl

  pub with-links : k.area ≡ Links → with_journal k (by_area r l f a b) ≡ by_area r k f a b
  with-links is = at Links is (by_area r k f a b) all
    where
      all : (c : Area) → cond (is_area Links c) k (by_area r l f a b c) ≡ by_area r k f a b c
      all Rows = refl
      all Links = refl
      all Files = refl
      all Archive = refl
      all Backups = refl

  pub with-files : k.area ≡ Files → with_journal k (by_area r l f a b) ≡ by_area r l k a b
  with-files is = at Files is (by_area r l k a b) all
    where
      all : (c : Area) → cond (is_area Files c) k (by_area r l f a b c) ≡ by_area r l k a b c
      all Rows = refl
      all Links = refl
      all Files = refl
      all Archive = refl
      all Backups = refl

  pub with-archive : k.area ≡ Archive → with_journal k (by_area r l f a b) ≡ by_area r l f k b
  with-archive is = at Archive is (by_area r l f k b) all
    where
      all : (c : Area) → cond (is_area Archive c) k (by_area r l f a b c) ≡ by_area r l f k b c
      all Rows = refl
      all Links = refl
      all Files = refl
      all Archive = refl
      all Backups = refl

  pub with-backups : k.area ≡ Backups → with_journal k (by_area r l f a b) ≡ by_area r l f a k
  with-backups is = at Backups is (by_area r l f a k) all
    where
      all : (c : Area) → cond (is_area Backups c) k (by_area r l f a b c) ≡ by_area r l f a k c
      all Rows = refl
      all Links = refl
      all Files = refl
      all Archive = refl
      all Backups = refl
