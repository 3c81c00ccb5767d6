-- THE NUMBERS OF LINKS, put one after another among the keys of a set.
use Rattle.std.proofs.Common.{◌≡◌, ℕ, ◌+◌, ◌<◌, nat_eq, Bool, true, false, cond, ◌||◌, List, ◌∷◌, length, get_or, drop, Some, is_some, refl, sym, ◌∙◌, ap}
use Rattle.std.proofs.lemmas.List.{drop_more}
use Rattle.std.specs.Cmp.Lexicographic.{pointwise}
use Rattle.dl_base.specs.declared.value.LinkRow.{LinkRow}
use Rattle.compare_files.specs.Numbers.{is_numbered}
use Rattle.compare_files.proofs.Putting.{turned}
use Rattle.meaning_settling.specs.Keyed.{is_at}
use Rattle.meaning_settling.specs.Settling.{link_key, numbered}
use Rattle.meaning_settling.proofs.KeyedLaws.{or-right}

-- the keys, and the numbers of the links that are left, are those of all
abbrev pub HasAllKeys : List LinkRow → List LinkRow → List (List ℕ) → Type 0
HasAllKeys all rest keys = (q : List ℕ) → (is_numbered keys q || is_some (numbered rest q)) ≡ is_some (numbered all q)

covers-more : (all rest : List LinkRow) (row : LinkRow) (old new : List (List ℕ))
    → ((q : List ℕ) → is_numbered new q ≡ cond (pointwise nat_eq (link_key row.link) q) true (is_numbered old q)) → HasAllKeys all (row ∷ rest) old → HasAllKeys all rest new
covers-more all rest row old new updates so_far q =
    ap (λ b. b || is_some (numbered rest q)) (updates q ∙ ap (λ b. cond b true (is_numbered old q)) (turned (link_key row.link) q))
    ∙ by (is_at q (link_key row.link)) ∙ so_far q
  where
    by : (b : Bool) → (cond b true (is_numbered old q) || is_some (numbered rest q)) ≡ (is_numbered old q || is_some (cond b (Some row) (numbered rest q)))
    by true = sym (or-right (is_numbered old q) true refl)
    by false = refl

-- a turn of the loop over links
module _ (items all : List LinkRow) (i : ℕ) (row : LinkRow) (same : items ≡ all) (within : i < length items) (is : row ≡ get_or items i row) where
  left : drop i all ≡ row ∷ drop (i + 1) all
  left = ap (drop i) (sym same) ∙ drop_more items i row within ∙ ap (λ (x : LinkRow). x ∷ drop (i + 1) items) (sym is) ∙ ap (λ (l : List LinkRow). row ∷ drop (i + 1) l) same

  pub number-turn : (key : List ℕ) (old new : List (List ℕ)) → key ≡ link_key row.link
      → ((q : List ℕ) → is_numbered new q ≡ cond (pointwise nat_eq key q) true (is_numbered old q)) → HasAllKeys all (drop i all) old → HasAllKeys all (drop (i + 1) all) new
  number-turn key old new keyed updates so_far = covers-more all (drop (i + 1) all) row old new
      (λ q. updates q ∙ ap (λ (k : List ℕ). cond (pointwise nat_eq k q) true (is_numbered old q)) keyed)
      (λ q. ap (λ (l : List LinkRow). is_numbered old q || is_some (numbered l q)) (sym left) ∙ so_far q)
