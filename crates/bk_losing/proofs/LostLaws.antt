-- Which links are lost, by the numbers of those that are taken.
use Rattle.std.proofs.Common.{◌≡◌, ℕ, ◌+◌, ◌<◌, ◌&&◌, ◌||◌, Bool, true, false, cond, not, List, [], ◌∷◌, length, get_or, drop, filter, map, option_to_list, is_none, is_some, Option, Some, None, refl, sym, ◌∙◌, ap}
use Rattle.std.proofs.lemmas.List.{drop_more}
use Rattle.std.specs.BTreeSet.{contains}
use Rattle.std.specs.Cmp.Lexicographic.{slice_cmp}
use Rattle.std.specs.FinMap as maps
use Rattle.std.specs.List.{list_any}
use Rattle.std.specs.Option.{option_map}
use Rattle.std.specs.Ordering.{nat_cmp}
use Rattle.dl_base.specs.declared.value.LinkRow.{LinkRow}
use Rattle.meaning_files.specs.Files.{Files}
use Rattle.meaning_merge.specs.Restoring.{is_lost}
use Rattle.meaning_settling.specs.Keyed.{is_at}
use Rattle.meaning_settling.specs.Settling.{link_key}
use Rattle.bk_losing.specs.Losing.{lost_by}
use Rattle.bk_losing.specs.declared.losing.Losing.{Losing}

-- they are those of the definition
pub lost-same : (s : Losing) (files : Files) (takes : List LinkRow) → s.files.now.files ≡ files → ((n : List ℕ) → contains (slice_cmp nat_cmp) s.taken n ≡ list_any (λ t. is_at (link_key t.link) n) takes) → lost_by s ≡ is_lost files takes
lost-same s files takes of taken = λ i l. taken (link_key l.link) i && not l.options.recovery && is_none (maps.get (of i) l.path)

-- a turn of a loop over items of which each has a test
pub next : {A : Type 0} (items all : List A) (i : ℕ) (d : A) → items ≡ all → i < length items → d ≡ get_or items i d → drop i all ≡ d ∷ drop (i + 1) all
next items all i d same within is = ap (λ xs. drop i xs) (sym same) ∙ drop_more items i d within ∙ ap (λ x. x ∷ drop (i + 1) items) (sym is) ∙ ap (λ xs. d ∷ drop (i + 1) xs) same

pub any-turn : {A : Type 0} (test : A → Bool) (items all : List A) (i : ℕ) (d : A) → items ≡ all → i < length items → d ≡ get_or items i d → (old new first : Bool) → new ≡ (test d || old)
    → (old || list_any test (drop i all)) ≡ first → (new || list_any test (drop (i + 1) all)) ≡ first
any-turn test items all i d same within is old new first puts so_far =
    ap (λ b. b || list_any test (drop (i + 1) all)) puts ∙ by (test d) old
    ∙ ap (λ xs. old || list_any test xs) (sym (next items all i d same within is)) ∙ so_far
  where
    by : (t o : Bool) → ((t || o) || list_any test (drop (i + 1) all)) ≡ (o || (t || list_any test (drop (i + 1) all)))
    by true true = refl
    by true false = refl
    by false o = refl

-- a key that is put in
pub put-key : (b old new : Bool) → new ≡ cond b true old → new ≡ (b || old)
put-key true old new e = e
put-key false old new e = e

-- a link is lost exactly where it has a path that is
abbrev is_cons : {A : Type 0} → List A → Bool
is_cons [] = false
is_cons (x ∷ xs) = true

some-cons : {A : Type 0} (o : Option A) → is_some o ≡ is_cons (option_to_list o)
some-cons None = refl
some-cons (Some x) = refl

cons-any : (lost : LinkRow → Bool) (ls : List LinkRow) → is_cons (map (λ l. l.path) (filter lost ls)) ≡ list_any lost ls
cons-any lost [] = refl
cons-any lost (l ∷ ls) = by (lost l) (cons-any lost ls)
  where
    by : (b : Bool) → is_cons (map (λ x. x.path) (filter lost ls)) ≡ list_any lost ls → is_cons (map (λ x. x.path) (cond b (l ∷ filter lost ls) (filter lost ls))) ≡ (b || list_any lost ls)
    by true go = refl
    by false go = go

pub path-any : (lost : LinkRow → Bool) (ls : List LinkRow) (o : Option (List ℕ)) → option_to_list o ≡ map (λ l. l.path) (filter lost ls) → is_some o ≡ list_any lost ls
path-any lost ls o e = some-cons o ∙ ap (λ (ps : List (List ℕ)). is_cons ps) e ∙ cons-any lost ls

pub path-some : {A : Type 0} (view : A → List ℕ) (lost : LinkRow → Bool) (ls : List LinkRow) (r : Option A) (b : Bool) → b ≡ is_some r → option_to_list (option_map view r) ≡ map (λ l. l.path) (filter lost ls) → b ≡ list_any lost ls
path-some {A} view lost ls r b is e = is ∙ sym (mapped r) ∙ path-any lost ls (option_map view r) e
  where
    mapped : (o : Option A) → is_some (option_map view o) ≡ is_some o
    mapped None = refl
    mapped (Some x) = refl
