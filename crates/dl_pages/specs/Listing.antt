-- What pages are seen as: the list of their items, beside how high they stand.
use Rattle.std.specs.Prelude.{◌≡◌, ℕ, ◌+◌, ◌<◌, Bool, List, [], ◌∷◌, ◌++◌, length, take}
use Rattle.dl_pages.specs.declared.tree.Below.{Below}
use Rattle.dl_pages.specs.declared.tree.Below.TheVariants as below

-- the items of parts, one part after another
abbrev pub flatten : {T : Type 0} → List (List T × ℕ) → List T
flatten [] = []
flatten (p ∷ ps) = p.0 ++ flatten ps

-- what a part is seen as: the items of a page, or of a leaf, or none, and how high it stands over leaves
abbrev pub seen : {T : Type 0} → Below (List T) (List T × ℕ) → List T × ℕ
seen below.Nothing = ([], 0)
seen (below.Leaf leaf) = (leaf.value, 0)
seen (below.Page page) = (page.value.0, page.value.1 + 1)

-- a number is the rank of the first of these items
abbrev pub HasRank : {T : Type 0} → (T → ℕ) → ℕ → List T → Type 0
HasRank rank r [] = Unit {0}
HasRank rank r (x ∷ xs) = rank x ≡ r

-- each part has an item
abbrev pub AreFilled : {T : Type 0} → List (List T × ℕ) → Type 0
AreFilled [] = Unit {0}
AreFilled (p ∷ ps) = (0 < length p.0) × AreFilled ps

-- no part stands as high as this
abbrev pub AreBelow : {T : Type 0} → ℕ → List (List T × ℕ) → Type 0
AreBelow h [] = Unit {0}
AreBelow h (p ∷ ps) = (p.1 < h) × AreBelow h ps

-- what a test says of the first of these items
abbrev pub FirstTests : {T : Type 0} → (T → Bool) → Bool → List T → Type 0
FirstTests test v [] = Unit {0}
FirstTests test v (x ∷ xs) = test x ≡ v

-- the item at a place among parts is in the part at this place, where it stands at the other
abbrev pub IsSeat : {T : Type 0} → List (List T × ℕ) → ℕ → ℕ → ℕ → Type 0
IsSeat ps index at left = (at < length ps) × (length (flatten (take at ps)) + left ≡ index) × (index < length (flatten (take (at + 1) ps)))
