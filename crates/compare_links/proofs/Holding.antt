-- What is held after settling, and what the last commit links.
use Rattle.std.proofs.Common.{◌≡◌, ⊎_elim, ℕ, zero, suc, Bool, true, false, cond, not, List, [], ◌∷◌, length, map, get_or, Option, Some, None, refl, sym, ap, subst, ◌∙◌, arith}
use Rattle.std.proofs.lemmas.Bool.{and_parts}
use Rattle.std.proofs.lemmas.List.Elements.{All-head, All-tail}
use Rattle.std.proofs.lemmas.List.Sorted.{All-permutation, IsPermutation-sym}
use Rattle.std.specs.Bool.{Decides}
use Rattle.std.specs.BTreeMap.{is_at as at_query}
use Rattle.std.specs.Cmp.{tied_itself}
use Rattle.std.specs.Cmp.Lexicographic.{slice_cmp, nat_list_cmp_total}
use Rattle.std.specs.FinMap as maps
use Rattle.std.specs.List.{All, list_any, slice_get}
use Rattle.std.specs.List.Sorted.{IsPermutation}
use Rattle.std.specs.Map.{lookup}
use Rattle.std.specs.Ordering.{is_eq, nat_cmp}
use Rattle.dl_base.specs.declared.value.LinkRow.{LinkRow}
use Rattle.fm_branch.proofs.Maps.{get-of}
use Rattle.fm_branch.proofs.Settled.{moved-held}
use Rattle.fm_branch.specs.Held.{with_links, without_links}
use Rattle.meaning_areas.specs.Branches.{Branch, Branches}
use Rattle.meaning_areas.specs.Stands.{is_open, open_branch, open_in}
use Rattle.meaning_settling.proofs.KeyedLaws.{either, find-none, is_at-same, is_at-self, same_keyed}
use Rattle.meaning_settling.specs.Keyed.{Keyed, is_at}
use Rattle.meaning_settling.specs.Settling.{Moved, on}
use Rattle.meaning_tables.specs.Fits.{differ}
use Rattle.compare_every.proofs.Deciding.{decides-no, false_true, refuted, some_same}
use Rattle.compare_every.proofs.Maps.{found-value, value-found}
use Rattle.compare_links.proofs.Owning.{open-is}
use Rattle.compare_every.proofs.Lists.{got, none_some}
use Rattle.compare_links.specs.Fitting.{AreAllHeld, HasOwnPaths, HavePaths, held_settled, settle_held, taken_on}

-- LINKS THAT ARE HELD, by their paths

abbrev IsThere : Keyed LinkRow → LinkRow → Type 0
IsThere held x = maps.get held x.path ≡ Some x

get-here : (m : Keyed LinkRow) (l : LinkRow) → IsThere (maps.insert m l.path l) l
get-here m l = maps.get-insert nat_list_cmp_total m l.path l l.path ∙ ap (λ b. cond b (Some l) (maps.get m l.path)) (is_at-self l.path)

module _ (held : Keyed LinkRow) where
  -- what was put in stays, since what is put later on its path is the same
  stays : (rows : List LinkRow) (m : Keyed LinkRow) (p : List ℕ) (x : LinkRow) → All (IsThere held) rows → maps.get held p ≡ Some x → maps.get m p ≡ Some x → maps.get (taken_on rows m) p ≡ Some x
  stays [] m p x each at there = there
  stays (l ∷ ls) m p x each at there =
      stays ls (maps.insert m l.path l) p x (All-tail (IsThere held) l ls each) at (maps.get-insert nat_list_cmp_total m l.path l p ∙ by (is_at p l.path) refl (All-head (IsThere held) l ls each))
    where
      by : (b : Bool) → is_at p l.path ≡ b → IsThere held l → cond b (Some l) (maps.get m p) ≡ Some x
      by true here is = sym is ∙ ap (λ (q : List ℕ). maps.get held q) (sym (is_at-same p l.path here)) ∙ at
      by false other is = there

  -- all that is put in is there
  pub puts : (rows : List LinkRow) (m : Keyed LinkRow) → All (IsThere held) rows → (i : ℕ) (x : LinkRow) → slice_get rows i ≡ Some x → IsThere (taken_on rows m) x
  puts [] m each i x at = absurd (none_some x at)
  puts (l ∷ ls) m each zero x at =
      let here = some_same l x at in
      subst (IsThere (taken_on ls (maps.insert m l.path l))) here (stays ls (maps.insert m l.path l) l.path l (All-tail (IsThere held) l ls each) (All-head (IsThere held) l ls each) (get-here m l))
  puts (l ∷ ls) m each (suc i) x at = puts ls (maps.insert m l.path l) (All-tail (IsThere held) l ls each) i x at

  -- nothing else is
  only : (rows : List LinkRow) (m : Keyed LinkRow) (p : List ℕ) (x : LinkRow) → All (IsThere held) rows → ((y : LinkRow) → maps.get m p ≡ Some y → maps.get held p ≡ Some y) → maps.get (taken_on rows m) p ≡ Some x → maps.get held p ≡ Some x
  only [] m p x each was is = was x is
  only (l ∷ ls) m p x each was is =
      only ls (maps.insert m l.path l) p x (All-tail (IsThere held) l ls each)
      (λ y at. by y (is_at p l.path) refl (All-head (IsThere held) l ls each) (sym (maps.get-insert nat_list_cmp_total m l.path l p) ∙ at)) is
    where
      by : (y : LinkRow) (b : Bool) → is_at p l.path ≡ b → IsThere held l → cond b (Some l) (maps.get m p) ≡ Some y → maps.get held p ≡ Some y
      by y true here there e = ap (λ (q : List ℕ). maps.get held q) (is_at-same p l.path here) ∙ there ∙ e
      by y false other there e = was y e

  module _ (own : HasOwnPaths held) where
    own-value : (i : ℕ) (x : LinkRow) → slice_get (maps.values held) i ≡ Some x → IsThere held x
    own-value i x at = let found = value-found held i x at in ap (λ (q : List ℕ). maps.get held q) (sym (own found.0 x found.1)) ∙ found.1

    all-there : All (IsThere held) (maps.values held)
    all-there k d lt = own-value k (get_or (maps.values held) k d) (got (maps.values held) k d lt)

    module _ (rows : List LinkRow) (same : IsPermutation (maps.values held) rows) where
      rows-there : All (IsThere held) rows
      rows-there = All-permutation (IsThere held) (maps.values held) rows same all-there

      abbrev made : Keyed LinkRow
      made = taken_on rows maps.empty

      rows-made : All (IsThere made) rows
      rows-made k d lt = puts rows maps.empty rows-there k (get_or rows k d) (got rows k d lt)

      values-made : All (IsThere made) (maps.values held)
      values-made = All-permutation (IsThere made) rows (maps.values held) (IsPermutation-sym (maps.values held) rows same) rows-made

      at-value : (p : List ℕ) (x : LinkRow) → maps.get held p ≡ Some x → maps.get made p ≡ Some x
      at-value p x e = by (found-value held p x e)
        where
          by : (i : ℕ) × (slice_get (maps.values held) i ≡ Some x) → maps.get made p ≡ Some x
          by found = ap (λ (q : List ℕ). maps.get made q) (own p x e) ∙ there (maps.values held) found.0 found.1 values-made
            where
              there : (xs : List LinkRow) (i : ℕ) → slice_get xs i ≡ Some x → All (IsThere made) xs → IsThere made x
              there [] i at all = absurd (none_some x at)
              there (y ∷ ys) zero at all = subst (IsThere made) (some_same y x at) (All-head (IsThere made) y ys all)
              there (y ∷ ys) (suc i) at all = there ys i at (All-tail (IsThere made) y ys all)

      from-made : (p : List ℕ) (x : LinkRow) → maps.get made p ≡ Some x → maps.get held p ≡ Some x
      from-made p x e = only rows maps.empty p x rows-there (λ y at. absurd (none_some y (sym (maps.get-empty _ p) ∙ at))) e

      same-get : (p : List ℕ) (a b : Option LinkRow) → maps.get made p ≡ a → maps.get held p ≡ b → a ≡ b
      same-get p None None e f = refl
      same-get p None (Some x) e f = absurd (none_some x (sym e ∙ at-value p x f))
      same-get p (Some x) None e f = absurd (none_some x (sym f ∙ from-made p x e))
      same-get p (Some x) (Some y) e f = sym e ∙ at-value p y f

      pub held-again : taken_on rows maps.empty ≡ held
      held-again = same_keyed _ _ (λ p. same-get p (maps.get made p) (maps.get held p) refl refl)

-- OUT OF WHAT IS HELD, one link after another

no-more : (l : LinkRow) (ls : List LinkRow) → HavePaths (l ∷ ls) → on ls l.path ≡ None
no-more l ls paths = find-none (λ (x : LinkRow). x.path) ls l.path (off (list_any (is_at l.path) (map (λ (x : LinkRow). x.path) ls)) (and_parts (not (list_any (is_at l.path) (map (λ (x : LinkRow). x.path) ls))) (differ is_at (map (λ (x : LinkRow). x.path) ls)) paths).0)
  where
    off : (b : Bool) → not b ≡ true → b ≡ false
    off true e = absurd (false_true e)
    off false e = refl

pub rest-differ : (l : LinkRow) (ls : List LinkRow) → HavePaths (l ∷ ls) → HavePaths ls
rest-differ l ls paths = (and_parts (not (list_any (is_at l.path) (map (λ (x : LinkRow). x.path) ls))) (differ is_at (map (λ (x : LinkRow). x.path) ls)) paths).1

module _ (held : Keyed LinkRow) (l : LinkRow) (ls : List LinkRow) where
  on-here : (p : List ℕ) → is_at p l.path ≡ true → on (l ∷ ls) p ≡ Some l
  on-here p here = ap (λ b. cond b (Some l) (on ls p)) here

  on-there : (p : List ℕ) → is_at p l.path ≡ false → on (l ∷ ls) p ≡ on ls p
  on-there p other = ap (λ b. cond b (Some l) (on ls p)) other

  less : (p : List ℕ) (b : Bool) → is_at p l.path ≡ b → maps.get (maps.remove held l.path) p ≡ cond b None (maps.get held p)
  less p b is = maps.get-remove nat_list_cmp_total held l.path p ∙ ap (λ d. cond d None (maps.get held p)) is

  pub out-to : maps.get held l.path ≡ Some l → AreAllHeld (maps.remove held l.path) ls → AreAllHeld held (l ∷ ls)
  out-to was all p = ⊎_elim
      (λ (here : is_at p l.path ≡ true). ap (λ (q : List ℕ). maps.get held q) (is_at-same p l.path here) ∙ was ∙ sym (on-here p here))
      (λ (other : is_at p l.path ≡ false). sym (less p false other) ∙ all p ∙ sym (on-there p other))
      (either (is_at p l.path))

  pub out-from : HavePaths (l ∷ ls) → AreAllHeld held (l ∷ ls) → AreAllHeld (maps.remove held l.path) ls
  out-from paths all p = ⊎_elim
      (λ (here : is_at p l.path ≡ true). less p true here ∙ sym (ap (λ (q : List ℕ). on ls q) (is_at-same p l.path here) ∙ no-more l ls paths))
      (λ (other : is_at p l.path ≡ false). less p false other ∙ all p ∙ on-there p other)
      (either (is_at p l.path))

  pub out-not : (b : Bool) → Decides b (maps.get held l.path ≡ Some l) → b ≡ false → AreAllHeld held (l ∷ ls) → ⊥
  out-not b decides off all = refuted b decides off (all l.path ∙ on-here l.path (is_at-self l.path))

-- the links that are left are held where all are
pub record IsLeft (held : Keyed LinkRow) (all : List LinkRow) (left : Keyed LinkRow) (ls : List LinkRow) : Type 0 where
  pub paths : HavePaths ls
  pub to : AreAllHeld left ls → AreAllHeld held all
  pub from : AreAllHeld held all → AreAllHeld left ls

pub left-turn : (held left later : Keyed LinkRow) (all ls rest : List LinkRow) (l : LinkRow) → ls ≡ l ∷ rest → later ≡ maps.remove left l.path → maps.get left l.path ≡ Some l → IsLeft held all left ls → IsLeft held all later rest
left-turn held left later all ls rest l split out was is =
    let paths : HavePaths (l ∷ rest) = subst HavePaths split is.paths in
    record {
      paths = rest-differ l rest paths;
      to = λ (a : AreAllHeld later rest). is.to (subst (λ (xs : List LinkRow). AreAllHeld left xs) (sym split) (out-to left l rest was (subst (λ (m : Keyed LinkRow). AreAllHeld m rest) out a)));
      from = λ (a : AreAllHeld held all). subst (λ (m : Keyed LinkRow). AreAllHeld m rest) (sym out) (out-from left l rest paths (subst (λ (xs : List LinkRow). AreAllHeld left xs) split (is.from a)));
    }

pub left-not : (held left : Keyed LinkRow) (all ls rest : List LinkRow) (l : LinkRow) → ls ≡ l ∷ rest → (b : Bool) → Decides b (maps.get left l.path ≡ Some l) → b ≡ false → IsLeft held all left ls → AreAllHeld held all → ⊥
left-not held left all ls rest l split b decides off is a = out-not left l rest b decides off (subst (λ (xs : List LinkRow). AreAllHeld left xs) split (is.from a))

-- settled so far
pub settled-turn : (l : Branches) (held later : Keyed LinkRow) (ts rest : List ℕ) (t : ℕ) (end : Keyed LinkRow) → ts ≡ t ∷ rest → later ≡ settle_held (open_in l t) held → held_settled l ts held ≡ end → held_settled l rest later ≡ end
settled-turn l held later ts rest t end split is so_far =
    ap (λ (m : Keyed LinkRow). held_settled l rest m) is ∙ ap (λ (xs : List ℕ). held_settled l xs held) (sym split) ∙ so_far

-- ONE LINK OUT

pub was-by : (o : Option LinkRow) (x l : LinkRow) (b : Bool) → o ≡ Some x → Decides b (x ≡ l) → Decides b (o ≡ Some l)
was-by o x l b is decides = (λ e. is ∙ ap (λ (y : LinkRow). Some y) (decides.0 e), λ e. decides.1 (some_same x l (sym is ∙ e)))

pub was-none : (o : Option LinkRow) (l : LinkRow) → o ≡ None → Decides false (o ≡ Some l)
was-none o l is = decides-no (λ e. none_some l (sym is ∙ e))

-- the open branch of a transaction, settled
pub settled-open : (table : Option Branch) (b : Branch) (held : Keyed LinkRow) → table ≡ Some b → is_open b.phase ≡ true → with_links b.moved.takes (without_links b.moved.gives held) ≡ settle_held (open_branch table) held
settled-open table b held is doubt = moved-held b.moved held ∙ ap (λ (o : Option Moved). settle_held o held) (sym (open-is table b is doubt))

-- NOTHING LEFT

pub none-left : (es : List (List ℕ × LinkRow)) (len : ℕ) → len ≡ length es → (b : Bool) → Decides b (len ≡ 0) → Decides b (AreAllHeld (maps.from_entries {R = slice_cmp nat_cmp} es) [])
none-left [] len is b decides = (λ _ p. get-of nat_list_cmp_total [] p, λ _. decides.1 is)
none-left (e ∷ es) len is b decides = (
  λ t. absurd (some-length (sym is ∙ decides.0 t)),
  λ all. absurd (none_some e.1 (sym (all e.0) ∙ get-of nat_list_cmp_total (e ∷ es) e.0 ∙ ap (λ d. cond d (Some e.1) (lookup (at_query (slice_cmp nat_cmp e.0)) es)) (ap is_eq (tied_itself nat_list_cmp_total e.0)))),
)
  where
    some-length : length (e ∷ es) ≡ 0 → ⊥
    some-length f = omega (arith, f)

pub all-left : (held left : Keyed LinkRow) (all ls : List LinkRow) → ls ≡ [] → (b : Bool) → Decides b (AreAllHeld left []) → IsLeft held all left ls → Decides b (AreAllHeld held all)
all-left held left all ls none b decides is = (
  λ e. is.to (subst (λ (xs : List LinkRow). AreAllHeld left xs) (sym none) (decides.0 e)),
  λ a. decides.1 (subst (λ (xs : List LinkRow). AreAllHeld left xs) none (is.from a)),
)
