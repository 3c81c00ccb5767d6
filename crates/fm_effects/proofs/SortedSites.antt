-- The sites of all paths, in the order of the paths.
use Rattle.std.proofs.Common.{◌≡◌, ℕ, Bool, true, false, cond, ◌&&◌, ◌||◌, List, [], ◌∷◌, map, Option, Some, None, is_some, refl, sym, ap, subst, ◌∙◌}
use Rattle.std.proofs.lemmas.List.Folds.{list_any-append}
use Rattle.std.specs.BTreeMap.{is_at as at_query}
use Rattle.std.specs.Cmp.Lexicographic.{slice_cmp, nat_list_cmp_total}
use Rattle.std.specs.FinMap as maps
use Rattle.std.specs.FinMap.Entries.{below_all, same_entries}
use Rattle.std.specs.List.{list_any}
use Rattle.std.specs.List.Sorted.{IsStrictlySortedBy}
use Rattle.std.specs.Map.{keys_of, lookup}
use Rattle.std.specs.Option.{option_map}
use Rattle.std.specs.Ordering.{is_lt, nat_cmp}
use Rattle.std.specs.Prelude.{T}
use Rattle.dl_base.specs.declared.value.LinkRow.{LinkRow}
use Rattle.fm_effects.proofs.Keys.{found, found-any, only_same, same-key, sorted-rising}
use Rattle.fm_effects.specs.Sites.{given_of, site, site_at, sites, take_in, taken_of}
use Rattle.fm_effects.specs.declared.sites.Site.{Site}
use Rattle.meaning_areas.specs.Finishing.{path_set, sorted_paths}
use Rattle.meaning_settling.specs.Apart.{has_path}
use Rattle.meaning_settling.specs.Keyed.{is_at}
use Rattle.meaning_settling.specs.Settling.{Moved, on, paths_of}

-- a value beside each key

module _ {X : Type 0} (f : List ℕ → X) where
  below-with : (x : List ℕ) (es : List (List ℕ × Unit {0})) → below_all (slice_cmp nat_cmp) x (map (λ p. (p, f p)) (map (λ e. e.0) es)) ≡ below_all (slice_cmp nat_cmp) x es
  below-with x [] = refl
  below-with x (e ∷ es) = ap (λ b. is_lt (slice_cmp nat_cmp x e.0) && b) (below-with x es)

  sorted-with : (es : List (List ℕ × Unit {0})) → maps.is_sorted (slice_cmp nat_cmp) (map (λ p. (p, f p)) (map (λ e. e.0) es)) ≡ maps.is_sorted (slice_cmp nat_cmp) es
  sorted-with [] = refl
  sorted-with (e ∷ es) = λ i. below-with e.0 es i && sorted-with es i

  find-with : (ks : List (List ℕ)) (q : List ℕ) → maps.find (slice_cmp nat_cmp) q (map (λ p. (p, f p)) ks) ≡ cond (list_any (is_at q) ks) (Some (f q)) None
  find-with [] q = refl
  find-with (k ∷ ks) q = by (is_at q k) refl (find-with ks q)
    where
      by : (b : Bool) → is_at q k ≡ b → maps.find (slice_cmp nat_cmp) q (map (λ p. (p, f p)) ks) ≡ cond (list_any (is_at q) ks) (Some (f q)) None
          → cond b (Some (f k)) (maps.find (slice_cmp nat_cmp) q (map (λ p. (p, f p)) ks)) ≡ cond (b || list_any (is_at q) ks) (Some (f q)) None
      by true e rest = ap (λ (p : List ℕ). Some (f p)) (sym (same-key q k e))
      by false e rest = rest

-- the paths of a transaction

get-path_set : (ps : List (List ℕ)) (q : List ℕ) → is_some (maps.get (path_set ps) q) ≡ list_any (is_at q) ps
get-path_set [] q = ap is_some (maps.get-empty (slice_cmp nat_cmp) q)
get-path_set (p ∷ ps) q = ap is_some (maps.get-insert nat_list_cmp_total (path_set ps) p tt q) ∙ by (is_at q p) (get-path_set ps q)
  where
    by : (b : Bool) → is_some (maps.get (path_set ps) q) ≡ list_any (is_at q) ps → is_some (cond b (Some tt) (maps.get (path_set ps) q)) ≡ (b || list_any (is_at q) ps)
    by true rest = refl
    by false rest = rest

module _ (m : Moved) where
  pub has-sorted : (q : List ℕ) → list_any (is_at q) (sorted_paths m) ≡ has_path m q
  has-sorted q = sym (maps.contains_key-keys (path_set (paths_of m)) q) ∙ get-path_set (paths_of m) q

  -- a path of the transaction is one of a link
  pub path-on : (q : List ℕ) → has_path m q ≡ (is_some (on m.gives q) || is_some (on m.takes q))
  path-on q =
      list_any-append (is_at q) (map (λ (l : LinkRow). l.path) m.gives) (map (λ (l : LinkRow). l.path) m.takes)
      ∙ sym (λ i. found-any (λ (l : LinkRow). l.path) m.gives q i || found-any (λ (l : LinkRow). l.path) m.takes q i)

  site-there : (q : List ℕ) → site_at m.gives m.takes q ≡ cond (has_path m q) (Some (site m q)) None
  site-there q = by (on m.gives q) (on m.takes q) ∙ ap (λ b. cond b (Some (site m q)) None) (sym (path-on q))
    where
      by : (g t : Option LinkRow) → taken_of t (given_of g None) ≡ cond (is_some g || is_some t) (Some (record { give = option_map (λ l. l.options.unlink) g; take = option_map take_in t })) None
      by None None = refl
      by None (Some t) = refl
      by (Some g) None = refl
      by (Some g) (Some t) = refl

  -- a map that has the site of each path
  pub entries-sites : (es : List (List ℕ × Site)) → IsStrictlySortedBy (slice_cmp nat_cmp) (keys_of es)
      → ((q : List ℕ) → lookup (at_query (slice_cmp nat_cmp q)) es ≡ site_at m.gives m.takes q) → es ≡ sites m
  entries-sites es rising each = same_entries (slice_cmp nat_cmp) nat_list_cmp_total only_same es (sites m)
      (subst T (sym (sorted-rising es rising)) tt)
      (subst T (sym (sorted-with (site m) (maps.entries (path_set (paths_of m))))) (maps.entries_sorted (path_set (paths_of m))))
      (λ q. sym (found q es) ∙ each q ∙ site-there q ∙ ap (λ b. cond b (Some (site m q)) None) (sym (has-sorted q)) ∙ sym (find-with (site m) (sorted_paths m) q))
