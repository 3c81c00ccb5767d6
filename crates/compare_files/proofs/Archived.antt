-- ARCHIVED COPIES FIT exactly where searches through the links that committed branches in doubt give, the copies that are stored, the
-- links of all commits and those of the last one find nothing that does not.
use Rattle.std.proofs.Common.{◌≡◌, ◌≢◌, ◌⊎◌, ⊎_elim, inl, inr, ℕ, List, [], ◌∷◌, Bool, true, false, cond, ◌||◌, not, map, Option, Some, None, is_some, refl, sym, ◌∙◌, ap}
use Rattle.std.proofs.lemmas.Bool.{cases_eq}
use Rattle.std.proofs.lemmas.Slice.Eq.{bytes_eq-Decides}
use Rattle.std.specs.FinMap as maps
use Rattle.std.specs.List.{list_all, list_any}
use Rattle.std.specs.Option.{option_map, option_or}
use Rattle.dl_base.specs.declared.area.Area.TheVariants as areas
use Rattle.dl_base.specs.declared.file.File.{File}
use Rattle.dl_base.specs.declared.value.LinkRow.{LinkRow}
use Rattle.compare_files.specs.Copies.{all_stand, given_stand, has_bytes, is_archived, is_recovered, is_source, may_stand, open_stands, same_bytes, stands_at}
use Rattle.compare_files.specs.Effects.{Bytes, after_source, copy_bytes, entry, file_bytes, first_open, of_open, source, sourced}
use Rattle.compare_every.specs.Every.{IsEvery}
use Rattle.compare_files.specs.Overlay.{IsOverlayOf, Overlay, copy_at, file_at}
use Rattle.compare_files.proofs.Committed.{committed-apart, copy-is, file-is}
use Rattle.compare_files.proofs.HaveFiles.{all, both}
use Rattle.compare_files.proofs.Settled.{source-is, sourced-given, sourced-key}
use Rattle.meaning_areas.specs.Areas.{ComparesAt}
use Rattle.meaning_areas.specs.Commits.{Commit, commit_of, tables_after}
use Rattle.meaning_areas.specs.Lists.{Folds}
use Rattle.meaning_areas.specs.Stands.{AreArchived, AreOfLinks, HaveBytes, IsCommit, kept_of, open_in, settled_of, stored_of, txs_of}
use Rattle.meaning_areas.proofs.OnPaths.{Differ, last-differs}
use Rattle.meaning_areas.proofs.Tables.{commit-in, in-commit, some_same}
use Rattle.meaning_settling.specs.Apart.{IsReady, has_key}
use Rattle.meaning_settling.specs.Keyed.{Keyed, is_at}
use Rattle.meaning_settling.specs.Settled.{IsIn}
use Rattle.meaning_settling.specs.Settling.{Copy, Moved, first_copy, link_key, numbered, on}
use Rattle.meaning_settling.proofs.KeyedLaws.{either, false_true, find-any, find-key, is_at-same, is_at-self, or-left, or-right}
use Rattle.meaning_tables.specs.Fits.{differ}
use Rattle.meaning_tables.specs.Links.{links}

-- the first open transaction that has to do with something

module _ {A : Type 0} (what : Moved → Option A) (open_at : ℕ → Option Moved) where
  pub first-has : (ts : List ℕ) (x : A) → first_open what open_at ts ≡ Some x → (t : ℕ) × (m : Moved) × IsIn t ts × (open_at t ≡ Some m) × (what m ≡ Some x)
  first-has [] x e = absurd cc
  first-has (t ∷ ts) x e = by (first-has ts x) (open_at t) refl e
    where
      later : (first_open what open_at ts ≡ Some x → (u : ℕ) × (m : Moved) × IsIn u ts × (open_at u ≡ Some m) × (what m ≡ Some x)) → first_open what open_at ts ≡ Some x
          → (u : ℕ) × (m : Moved) × IsIn u (t ∷ ts) × (open_at u ≡ Some m) × (what m ≡ Some x)
      later rest is = let it = rest is in (it.0, it.1, inr it.2, it.3, it.4)

      here : (first_open what open_at ts ≡ Some x → (u : ℕ) × (m : Moved) × IsIn u ts × (open_at u ≡ Some m) × (what m ≡ Some x)) → (m : Moved) → open_at t ≡ Some m → (o : Option A) → what m ≡ o
          → option_or o (first_open what open_at ts) ≡ Some x → (u : ℕ) × (m : Moved) × IsIn u (t ∷ ts) × (open_at u ≡ Some m) × (what m ≡ Some x)
      here rest m at None has is = later rest is
      here rest m at (Some y) has is = (t, m, inl refl, at, has ∙ is)

      by : (first_open what open_at ts ≡ Some x → (u : ℕ) × (m : Moved) × IsIn u ts × (open_at u ≡ Some m) × (what m ≡ Some x)) → (o : Option Moved) → open_at t ≡ o
          → option_or (of_open what o) (first_open what open_at ts) ≡ Some x → (u : ℕ) × (m : Moved) × IsIn u (t ∷ ts) × (open_at u ≡ Some m) × (what m ≡ Some x)
      by rest None at is = later rest is
      by rest (Some m) at is = here rest m at (what m) refl is

  pub first-is : (ts : List ℕ) (t : ℕ) (m : Moved) (x : A) → IsIn t ts → open_at t ≡ Some m → what m ≡ Some x
      → ((u : ℕ) (a : Moved) → IsIn u ts → u ≢ t → open_at u ≡ Some a → what a ≡ None) → first_open what open_at ts ≡ Some x
  first-is [] t m x among at has none = absurd among
  first-is (u ∷ us) t m x among at has none = ⊎_elim
      (λ (e : u ≡ t). ap (λ o. option_or o (first_open what open_at us)) (ap (λ n. of_open what (open_at n)) e ∙ ap (of_open what) at ∙ has))
      (λ (other : u ≢ t). ⊎_elim
      (λ (e : t ≡ u). absurd (other (sym e)))
      (λ (later : IsIn t us).
      ap (λ o. option_or o (first_open what open_at us)) (passed (open_at u) (λ a. none u a (inl refl) other))
      ∙ first-is us t m x later at has (λ v a is. none v a (inr is)))
      among)
      (cases_eq u t)
    where
      passed : (o : Option Moved) → ((a : Moved) → o ≡ Some a → what a ≡ None) → of_open what o ≡ None
      passed None never = refl
      passed (Some a) never = never a refl

-- tests of all that open ones give

module _ (test : List ℕ → Bool) where
  given-stands : (gives : List LinkRow) (n : List ℕ) (g : LinkRow) → given_stand test gives ≡ true → numbered gives n ≡ Some g → test n ≡ true
  given-stands [] n g e at = absurd cc
  given-stands (x ∷ xs) n g e at =
      let two = both (test (link_key x.link)) (given_stand test xs) e in
      ⊎_elim
      (λ (here : is_at n (link_key x.link) ≡ true). ap test (is_at-same n (link_key x.link) here) ∙ two.0)
      (λ (there : is_at n (link_key x.link) ≡ false). given-stands xs n g two.1 (sym (ap (λ b. cond b (Some x) (numbered xs n)) there) ∙ at))
      (either (is_at n (link_key x.link)))

  pub open-stands : (open_at : ℕ → Option Moved) (ts : List ℕ) (t : ℕ) (m : Moved) (n : List ℕ) (g : LinkRow) → all_stand test open_at ts ≡ true → IsIn t ts → open_at t ≡ Some m → numbered m.gives n ≡ Some g → test n ≡ true
  open-stands open_at [] t m n g e among at given = absurd among
  open-stands open_at (u ∷ us) t m n g e among at given =
      let two = both (open_stands test (open_at u)) (all_stand test open_at us) e in
      ⊎_elim
      (λ (is : t ≡ u). given-stands m.gives n g (sym (ap (open_stands test) (ap open_at (sym is) ∙ at)) ∙ two.0) given)
      (λ (later : IsIn t us). open-stands open_at us t m n g two.1 later at given)
      among

  pub all-stand : ((n : List ℕ) → test n ≡ true) → (open_at : ℕ → Option Moved) (ts : List ℕ) → all_stand test open_at ts ≡ true
  all-stand each open_at [] = refl
  all-stand each open_at (t ∷ ts) = all (open_stands test (open_at t)) (all_stand test open_at ts) (by (open_at t)) (all-stand each open_at ts)
    where
      gives : (xs : List LinkRow) → given_stand test xs ≡ true
      gives [] = refl
      gives (x ∷ xs) = all (test (link_key x.link)) (given_stand test xs) (each (link_key x.link)) (gives xs)

      by : (o : Option Moved) → open_stands test o ≡ true
      by None = refl
      by (Some m) = gives m.gives

-- tests of all keys

module _ (test : List ℕ → Bool) where
  passes-key : (ks : List (List ℕ)) (n : List ℕ) → list_all test ks ≡ true → list_any (is_at n) ks ≡ true → test n ≡ true
  passes-key [] n e at = absurd (false_true at)
  passes-key (k ∷ ks) n e at =
      let two = both (test k) (list_all test ks) e in
      by (passes-key ks n two.1) two.0 (is_at n k) refl at
    where
      by : (list_any (is_at n) ks ≡ true → test n ≡ true) → test k ≡ true → (b : Bool) → is_at n k ≡ b → (b || list_any (is_at n) ks) ≡ true → test n ≡ true
      by rest here true is at = ap test (is_at-same n k is) ∙ here
      by rest here false is at = rest at

  each-key : (ks : List (List ℕ)) → ((n : List ℕ) → list_any (is_at n) ks ≡ true → test n ≡ true) → list_all test ks ≡ true
  each-key [] each = refl
  each-key (k ∷ ks) each = all (test k) (list_all test ks) (each k (or-left (is_at k k) (list_any (is_at k) ks) (is_at-self k))) (each-key ks (λ n at. each n (or-right (is_at n k) (list_any (is_at n) ks) at)))

  pub stored-passes : {X : Type 0} (m : Keyed X) → list_all test (maps.keys m) ≡ true → (n : List ℕ) → is_some (maps.get m n) ≡ true → test n ≡ true
  stored-passes m e n some = passes-key (maps.keys m) n e (sym (maps.contains_key-keys m n) ∙ some)

  pub each-stored : {X : Type 0} (m : Keyed X) → ((n : List ℕ) → is_some (maps.get m n) ≡ true → test n ≡ true) → list_all test (maps.keys m) ≡ true
  each-stored m each = each-key (maps.keys m) (λ n at. each n (maps.contains_key-keys m n ∙ at))

-- tests of links, of which each is on a path of its own

module _ (test : LinkRow → Bool) where
  pub found-passes : (xs : List LinkRow) → list_all test xs ≡ true → (p : List ℕ) (l : LinkRow) → on xs p ≡ Some l → test l ≡ true
  found-passes [] e p l at = absurd cc
  found-passes (x ∷ xs) e p l at =
      let two = both (test x) (list_all test xs) e in
      by (found-passes xs two.1 p l) two.0 (is_at p x.path) at
    where
      by : (on xs p ≡ Some l → test l ≡ true) → test x ≡ true → (b : Bool) → cond b (Some x) (on xs p) ≡ Some l → test l ≡ true
      by rest here true at = ap test (sym (some_same x l at)) ∙ here
      by rest here false at = rest at

  pub all-found : (xs : List LinkRow) → differ is_at (map (λ l. l.path) xs) ≡ true → ((p : List ℕ) (l : LinkRow) → on xs p ≡ Some l → test l ≡ true) → list_all test xs ≡ true
  all-found [] differs each = refl
  all-found (x ∷ xs) differs each =
      let two = both (not (list_any (is_at x.path) (map (λ (l : LinkRow). l.path) xs))) (differ is_at (map (λ (l : LinkRow). l.path) xs)) differs in
      all (test x) (list_all test xs)
      (each x.path x (ap (λ b. cond b (Some x) (on xs x.path)) (is_at-self x.path)))
      (all-found xs two.1 (λ p l at. ⊎_elim
      (λ (here : is_at p x.path ≡ true). absurd (never two.0 p l here at))
      (λ (there : is_at p x.path ≡ false). each p l (ap (λ b. cond b (Some x) (on xs p)) there ∙ at))
      (either (is_at p x.path))))
    where
      no : (b : Bool) → not b ≡ true → b ≡ true → ⊥
      no true e f = false_true e
      no false e f = false_true f

      never : not (list_any (is_at x.path) (map (λ l. l.path) xs)) ≡ true → (p : List ℕ) (l : LinkRow) → is_at p x.path ≡ true → on xs p ≡ Some l → ⊥
      never first p l here at =
          no (list_any (is_at x.path) (map (λ (y : LinkRow). y.path) xs)) first
          (ap (λ (q : List ℕ). list_any (is_at q) (map (λ (y : LinkRow). y.path) xs)) (sym (is_at-same p x.path here) ∙ find-key (λ (y : LinkRow). y.path) xs p l at)
          ∙ find-any (λ (y : LinkRow). y.path) (λ (y : LinkRow). y.path) xs p l at)

-- bytes

some-copy : (c : Option Copy) → is_some (copy_bytes c) ≡ is_some c
some-copy None = refl
some-copy (Some c) = refl

some-either : (c : Option Copy) (f : Option File) → is_some (option_or (copy_bytes c) (file_bytes f)) ≡ is_some (first_copy c f)
some-either (Some c) f = refl
some-either None None = refl
some-either None (Some f) = refl

recovered : (o : Option LinkRow) → is_recovered o ≡ true → (l : LinkRow) × (o ≡ Some l) × (l.options.recovery ≡ true)
recovered None e = absurd (false_true e)
recovered (Some l) e = (l, refl, e)

pub last-differ : (f : Folds) → ComparesAt f areas.Links → Differ (tables_after [] f.rows.commits)
last-differ f fit = last-differs [] f.rows.commits refl fit.1

module _ (f : Folds) (fit : ComparesAt f areas.Links) (o : Overlay) (is : IsOverlayOf (open_in f.links) (txs_of f.rows.commits) o) (every : Keyed LinkRow) (is_every : IsEvery f.rows.commits every) where
  -- the copy of a number in the end
  copied : (n : List ℕ) → is_some (copy_at o f.files f.copies n) ≡ is_some (maps.get (settled_of f).copies n)
  copied n = ap is_some (copy-is f fit o is n) ∙ some-copy (maps.get (settled_of f).copies n)

  -- where a copy is to be made, it is of a link that a committed branch in doubt gives
  source-of : (n p : List ℕ) → entry o.sources n ≡ Some (Some p)
      → (t : ℕ) × (m : Moved) × IsIn t (txs_of f.rows.commits) × (open_in f.links t ≡ Some m) × ((g : LinkRow) × (numbered m.gives n ≡ Some g) × (g.options.recovery ≡ true) × (g.path ≡ p))
  source-of n p at =
      let it = first-has (sourced n) (open_in f.links) (txs_of f.rows.commits) (Some p) (sym (is.sources n) ∙ at) in
      let given = sourced-given it.1 n (Some p) it.4 in
      let parts = source-is it.1 given.0 p given.2 in
      (it.0, it.1, it.2, it.3, (given.0, given.1, parts.0, parts.1))

  source-at : (t : ℕ) (m : Moved) (n : List ℕ) (g : LinkRow) → IsIn t (txs_of f.rows.commits) → open_in f.links t ≡ Some m → numbered m.gives n ≡ Some g → g.options.recovery ≡ true → entry o.sources n ≡ Some (Some g.path)
  source-at t m n g among at given asked =
      let has : sourced n m ≡ Some (Some g.path) = ap (λ x. given_source x) given ∙ ap (λ b. Some (cond b (Some g.path) None)) asked in
      is.sources n ∙ first-is (sourced n) (open_in f.links) (txs_of f.rows.commits) t m (Some g.path) among at has
      (λ u a in_u other at_u. lacks a n (apart-key u a in_u other at_u (sourced-key m n (Some g.path) has)))
    where
      given_source : Option LinkRow → Option (Option (List ℕ))
      given_source x = option_map source x

      apart-key : (u : ℕ) (a : Moved) → IsIn u (txs_of f.rows.commits) → u ≢ t → open_in f.links u ≡ Some a → has_key m n ≡ true → has_key a n ≡ false
      apart-key u a in_u other at_u has = ⊎_elim
          (λ (off : has_key a n ≡ false). off)
          (λ (off : has_key m n ≡ false). absurd (false_true (sym off ∙ has)))
          ((committed-apart f fit u t in_u among other a m at_u at).keys n)

      lacks : (a : Moved) (n : List ℕ) → has_key a n ≡ false → sourced n a ≡ None
      lacks a n off = by (sourced n a) refl
        where
          by : (x : Option (Option (List ℕ))) → sourced n a ≡ x → x ≡ None
          by None e = refl
          by (Some y) e = absurd (false_true (sym off ∙ sourced-key a n y e))

  -- a copy that stands in the end stood before, or is made
  made-at : (n : List ℕ) (s : Option (Option (List ℕ))) (c : Option Copy) → is_some (after_source s (λ p. file_bytes (maps.get f.files p)) (copy_bytes c)) ≡ true → (is_some c ≡ true) ⊎ ((p : List ℕ) × (s ≡ Some (Some p)))
  made-at n s (Some c) e = inl refl
  made-at n None None e = absurd (false_true e)
  made-at n (Some None) None e = absurd (false_true e)
  made-at n (Some (Some p)) None e = inr (p, refl)

  -- FROM THE TESTS
  module _ (given_fit : all_stand (stands_at o f.files f.copies every) (open_in f.links) (txs_of f.rows.commits) ≡ true)
      (stored_fit : list_all (λ n. is_recovered (maps.get every n)) (maps.keys f.copies) ≡ true)
      (every_fit : (n : List ℕ) (x : LinkRow) → maps.get every n ≡ Some x → is_archived o f.files f.copies (links (tables_after [] f.rows.commits)) x ≡ true)
      (bytes_fit : list_all (has_bytes o f.files f.copies) (links (tables_after [] f.rows.commits)) ≡ true) where
    stands-given : (t : ℕ) (m : Moved) (n : List ℕ) (g : LinkRow) → IsIn t (txs_of f.rows.commits) → open_in f.links t ≡ Some m → numbered m.gives n ≡ Some g → stands_at o f.files f.copies every n ≡ true
    stands-given t m n g = open-stands (stands_at o f.files f.copies every) (open_in f.links) (txs_of f.rows.commits) t m n g given_fit

    are-ready : (tx : ℕ) (m : Moved) → is_some (commit_of tx f.rows.commits) ≡ true → open_in f.links tx ≡ Some m → IsReady m (kept_of f)
    are-ready tx m some at n g given asked =
        let among = commit-in tx f.rows.commits some in
        let source_is = source-at tx m n g among at given asked in
        sym (some-either (maps.get f.copies n) (maps.get f.files g.path))
        ∙ ap (λ s. is_some (after_source s (λ p. file_bytes (maps.get f.files p)) (copy_bytes (maps.get f.copies n)))) (sym source_is)
        ∙ by (copy_at o f.files f.copies n) (ap (may_stand (copy_at o f.files f.copies n) (maps.get every n)) (sym source_is) ∙ stands-given tx m n g among at given)
      where
        by : (c : Option Bytes) → may_stand c (maps.get every n) (Some (Some g.path)) ≡ true → is_some c ≡ true
        by (Some c) e = refl
        by None e = absurd (false_true e)

    are-of-links : AreOfLinks (stored_of f)
    are-of-links n some =
        let it = recovered (maps.get every n) (⊎_elim
        (λ (stored : is_some (maps.get f.copies n) ≡ true). stored-passes (λ k. is_recovered (maps.get every k)) f.copies stored_fit n stored)
        (λ (made : (p : List ℕ) × (entry o.sources n ≡ Some (Some p))).
        let from = source-of n made.0 made.1 in
        by (copy_at o f.files f.copies n) (copied n ∙ some) (stands-given from.0 from.1 n from.4.0 from.2 from.3 from.4.1))
        (made-at n (entry o.sources n) (maps.get f.copies n) (copied n ∙ some))) in
        let found = (is_every n it.0).0 it.1 in
        (found.0, it.0, found.1, found.2, it.2)
      where
        by : (c : Option Bytes) → is_some c ≡ true → may_stand c (maps.get every n) (entry o.sources n) ≡ true → is_recovered (maps.get every n) ≡ true
        by (Some c) some e = e
        by None some e = absurd (false_true some)

    are-archived : AreArchived (stored_of f)
    are-archived c n l among at asked none =
        let found = (is_every n l).1 c among at in
        let key = find-key (λ (x : LinkRow). link_key x.link) (links c.tables) n l at in
        sym (copied n) ∙ by l.options.recovery asked (numbered linked_here n) none (copy_at o f.files f.copies n)
        (ap (λ (k : List ℕ). not l.options.recovery || is_some (numbered linked_here k) || is_some (copy_at o f.files f.copies k)) key ∙ every_fit n l found)
      where
        linked_here : List LinkRow
        linked_here = links (tables_after [] f.rows.commits)

        by : (r : Bool) → r ≡ true → (x : Option LinkRow) → x ≡ None → (c : Option Bytes) → (not r || is_some x || is_some c) ≡ true → is_some c ≡ true
        by false asked x none c e = absurd (false_true asked)
        by true asked (Some x) none c e = absurd cc
        by true asked None none c e = e

    have-bytes : HaveBytes (stored_of f)
    have-bytes p l c g at copy file =
        let path = find-key (λ (x : LinkRow). x.path) (links (tables_after [] f.rows.commits)) p l at in
        (bytes_eq-Decides g.bytes c.bytes).0
        (ap (λ x. same_bytes x (Some g.bytes)) (sym (copy-is f fit o is (link_key l.link) ∙ ap copy_bytes copy))
        ∙ ap (same_bytes (copy_at o f.files f.copies (link_key l.link))) (sym (ap (file_at o f.files f.copies) (sym path) ∙ file-is f fit o is p ∙ ap file_bytes file))
        ∙ found-passes (has_bytes o f.files f.copies) (links (tables_after [] f.rows.commits)) bytes_fit p l at)

    pub all-fit : ComparesAt f areas.Archive
    all-fit = (are-ready, are-of-links, are-archived, have-bytes)

  -- TO THE TESTS
  module _ (fits : ComparesAt f areas.Archive) where
    is-recovered : (n : List ℕ) → is_some (copy_at o f.files f.copies n) ≡ true → is_recovered (maps.get every n) ≡ true
    is-recovered n some =
        let it = fits.1 n (sym (copied n) ∙ some) in
        ap is_recovered ((is_every n it.1).1 it.0 it.2 it.3) ∙ it.4

    each-stands : (n : List ℕ) → stands_at o f.files f.copies every n ≡ true
    each-stands n = by (copy_at o f.files f.copies n) refl
      where
        by : (c : Option Bytes) → copy_at o f.files f.copies n ≡ c → may_stand c (maps.get every n) (entry o.sources n) ≡ true
        by (Some c) at = is-recovered n (ap is_some at)
        by None at = made (entry o.sources n) refl
          where
            made : (s : Option (Option (List ℕ))) → entry o.sources n ≡ s → not (is_source s) ≡ true
            made None e = refl
            made (Some None) e = refl
            made (Some (Some p)) e =
                let from = source-of n p e in
                let ready = fits.0 from.0 from.1 (in-commit from.0 f.rows.commits from.2) from.3 n from.4.0 from.4.1 from.4.2 in
                absurd (false_true (ap is_some (sym at)
                ∙ ap (λ s. is_some (after_source s (λ q. file_bytes (maps.get f.files q)) (copy_bytes (maps.get f.copies n)))) e
                ∙ some-either (maps.get f.copies n) (maps.get f.files p)
                ∙ ap (λ (q : List ℕ). is_some (first_copy (maps.get f.copies n) (maps.get f.files q))) (sym from.4.3) ∙ ready))

    pub fits-given : all_stand (stands_at o f.files f.copies every) (open_in f.links) (txs_of f.rows.commits) ≡ true
    fits-given = all-stand (stands_at o f.files f.copies every) each-stands (open_in f.links) (txs_of f.rows.commits)

    pub fits-stored : list_all (λ n. is_recovered (maps.get every n)) (maps.keys f.copies) ≡ true
    fits-stored = each-stored (λ n. is_recovered (maps.get every n)) f.copies (λ n some. is-recovered n (kept (entry o.sources n) (maps.get f.copies n) some))
      where
        kept : (s : Option (Option (List ℕ))) (c : Option Copy) → is_some c ≡ true → is_some (after_source s (λ p. file_bytes (maps.get f.files p)) (copy_bytes c)) ≡ true
        kept s None some = absurd (false_true some)
        kept None (Some c) some = refl
        kept (Some None) (Some c) some = refl
        kept (Some (Some p)) (Some c) some = refl

    pub fits-every : (n : List ℕ) (x : LinkRow) → maps.get every n ≡ Some x → is_archived o f.files f.copies (links (tables_after [] f.rows.commits)) x ≡ true
    fits-every n x at =
        let found = (is_every n x).0 at in
        let key = find-key (λ (y : LinkRow). link_key y.link) (links found.0.tables) n x found.2 in
        ap (λ (k : List ℕ). not x.options.recovery || is_some (numbered (links (tables_after [] f.rows.commits)) k) || is_some (copy_at o f.files f.copies k)) (sym key)
        ∙ by x.options.recovery refl (numbered (links (tables_after [] f.rows.commits)) n) refl found.0 found.1 found.2
      where
        by : (r : Bool) → x.options.recovery ≡ r → (y : Option LinkRow) → numbered (links (tables_after [] f.rows.commits)) n ≡ y → (c : Commit) → IsCommit c f.rows.commits → numbered (links c.tables) n ≡ Some x
            → (not r || is_some y || is_some (copy_at o f.files f.copies n)) ≡ true
        by false asked y none c among at = refl
        by true asked (Some y) none c among at = refl
        by true asked None none c among at = copied n ∙ fits.2 c n x among at asked none

    pub fits-bytes : list_all (has_bytes o f.files f.copies) (links (tables_after [] f.rows.commits)) ≡ true
    fits-bytes = all-found (has_bytes o f.files f.copies) (links (tables_after [] f.rows.commits)) (last-differ f fit) (λ p l at.
        let path = find-key (λ (x : LinkRow). x.path) (links (tables_after [] f.rows.commits)) p l at in
        ap (λ x. same_bytes x (file_at o f.files f.copies l.path)) (copy-is f fit o is (link_key l.link))
        ∙ ap (same_bytes (copy_bytes (maps.get (settled_of f).copies (link_key l.link)))) (ap (file_at o f.files f.copies) (sym path) ∙ file-is f fit o is p)
        ∙ by (maps.get (settled_of f).copies (link_key l.link)) (maps.get (settled_of f).files p) (λ c g copy file. fits.3 p l c g at copy file))
      where
        by : (c : Option Copy) (g : Option File) → ((x : Copy) (y : File) → c ≡ Some x → g ≡ Some y → y.bytes ≡ x.bytes) → same_bytes (copy_bytes c) (file_bytes g) ≡ true
        by None g same = refl
        by (Some c) None same = refl
        by (Some c) (Some g) same = (bytes_eq-Decides g.bytes c.bytes).1 (same c g refl refl)
