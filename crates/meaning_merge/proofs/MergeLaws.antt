-- What a commit takes away and adds is what its transaction gives and takes: tables that are not touched count for nothing on both sides.
use Rattle.std.proofs.Common.{◌≡◌, ◌⊎◌, inl, inr, ℕ, List, [], ◌∷◌, ◌++◌, Bool, true, false, not, cond, map, refl, sym, ◌∙◌, ap}
use Rattle.std.specs.List.{filter}
use Rattle.dl_base.specs.declared.value.LinkRow.{LinkRow}
use Rattle.meaning_tables.specs.Links.{table_links, links, lacking, gives, takes}
use Rattle.meaning_tables.specs.Tables.{Rows, Tables}
use Rattle.meaning_merge.specs.Merging.{as_version}
use Rattle.meaning_merge.specs.Touching.{is_in, EachLink, Untouched, Touches}

pub false_true : false ≡ true → ⊥
false_true e = cc

pub either : (b : Bool) → (b ≡ true) ⊎ (b ≡ false)
either true = inl refl
either false = inr refl

module _ {A : Type 0} (p : A → Bool) where
  pub filter-append : (xs ys : List A) → filter p (xs ++ ys) ≡ filter p xs ++ filter p ys
  filter-append [] ys = refl
  filter-append (x ∷ xs) ys = by (p x) (filter-append xs ys)
    where
      by : (b : Bool) → filter p (xs ++ ys) ≡ filter p xs ++ filter p ys → cond b (x ∷ filter p (xs ++ ys)) (filter p (xs ++ ys)) ≡ cond b (x ∷ filter p xs) (filter p xs) ++ filter p ys
      by true e = ap (λ (zs : List A). x ∷ zs) e
      by false e = e

filter-none : (p : LinkRow → Bool) (xs : List LinkRow) → EachLink xs (λ x. p x ≡ false) → filter p xs ≡ []
filter-none p [] none = refl
filter-none p (x ∷ xs) none = ap (λ b. cond b (x ∷ filter p xs) (filter p xs)) none.0 ∙ filter-none p xs none.1

filter-same : (p q : LinkRow → Bool) (xs : List LinkRow) → EachLink xs (λ x. p x ≡ q x) → filter p xs ≡ filter q xs
filter-same p q [] same = refl
filter-same p q (x ∷ xs) same = ap (λ b. cond b (x ∷ filter p xs) (filter p xs)) same.0 ∙ ap (λ (ys : List LinkRow). cond (q x) (x ∷ ys) ys) (filter-same p q xs same.1)

-- where the links of untouched tables do not pass, those of the touched ones are all
module _ (p : LinkRow → Bool) (touched : List ℕ × Rows → Bool) where
  filter-touched : (ts : Tables) → Untouched p touched ts → filter p (links ts) ≡ filter p (links (filter touched ts))
  filter-touched [] none = refl
  filter-touched (t ∷ ts) none =
      filter-append p (table_links t.1) (links ts) ∙ ap (λ (ys : List LinkRow). filter p (table_links t.1) ++ ys) (filter-touched ts none.1)
      ∙ by (touched t) none.0
    where
      by : (b : Bool) → (b ≡ false → EachLink (table_links t.1) (λ x. p x ≡ false)) → filter p (table_links t.1) ++ filter p (links (filter touched ts)) ≡ filter p (links (cond b (t ∷ filter touched ts) (filter touched ts)))
      by true h = sym (filter-append p (table_links t.1) (links (filter touched ts)))
      by false h = ap (λ (ys : List LinkRow). ys ++ filter p (links (filter touched ts))) (filter-none p (table_links t.1) (h refl))

-- WHAT ONE LIST OF TABLES LACKS OF ANOTHER is said by the touched tables of both
pub lacking-touched : (ts us : Tables) (touched other : List ℕ × Rows → Bool)
    → Untouched (λ x. not (is_in (links us) x)) touched ts
    → EachLink (links (filter touched ts)) (λ x. not (is_in (links us) x) ≡ not (is_in (links (filter other us)) x))
    → lacking (links ts) (links us) ≡ lacking (links (filter touched ts)) (links (filter other us))
lacking-touched ts us touched other within apart =
    filter-touched (λ x. not (is_in (links us) x)) touched ts within
    ∙ filter-same (λ x. not (is_in (links us) x)) (λ x. not (is_in (links (filter other us)) x)) (links (filter touched ts)) apart

-- versions are no matter
pub links-version : (c : ℕ) (ts : Tables) → links (map (λ t. (t.0, as_version c t.1)) ts) ≡ links ts
links-version c [] = refl
links-version c (t ∷ ts) = ap (λ (ys : List LinkRow). table_links t.1 ++ ys) (links-version c ts)

-- THE LAW OF MERGING: four pairs of tables, of which the touched ones are the same
pub merged-moves : (base copy committed merged : Tables) → Touches base copy committed merged → (gives committed merged ≡ gives base copy) × (takes committed merged ≡ takes base copy)
merged-moves base copy committed merged t = (
  lacking-touched committed merged t.of_committed t.of_merged t.given_now.0 t.given_now.1
      ∙ ap (λ (xs : List LinkRow). lacking xs (links (filter t.of_merged merged))) (sym t.before) ∙ ap (λ (ys : List LinkRow). lacking (links (filter t.of_base base)) ys) (sym t.after)
      ∙ sym (lacking-touched base copy t.of_base t.of_copy t.given.0 t.given.1),
  lacking-touched merged committed t.of_merged t.of_committed t.taken_now.0 t.taken_now.1
      ∙ ap (λ (xs : List LinkRow). lacking xs (links (filter t.of_committed committed))) (sym t.after) ∙ ap (λ (ys : List LinkRow). lacking (links (filter t.of_copy copy)) ys) (sym t.before)
      ∙ sym (lacking-touched copy base t.of_copy t.of_base t.taken.0 t.taken.1),
)
