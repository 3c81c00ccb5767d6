-- Places, and the links that are held in them.
use Rattle.std.proofs.Common.{◌≡◌, ℕ, Bool, true, false, cond, ◌&&◌, List, [], ◌∷◌, ◌++◌, map, Option, Some, None, is_some, refl, sym, ap, ◌∙◌}
use Rattle.std.proofs.lemmas.Bool.{and_from, and_parts}
use Rattle.std.specs.BTreeMap.{is_at as at_query}
use Rattle.std.specs.Cmp.Lexicographic.{slice_cmp, nat_list_cmp_total}
use Rattle.std.specs.FinMap as maps
use Rattle.std.specs.FinMap.Entries.{below_all, put}
use Rattle.std.specs.List.Sorted.{IsStrictlySortedBy}
use Rattle.std.specs.Map.{keys_of, lookup}
use Rattle.std.specs.Option.{option_map, option_to_list}
use Rattle.std.specs.Ordering.{is_eq, is_lt, nat_cmp}
use Rattle.dl_base.specs.declared.value.LinkRow.{LinkRow}
use Rattle.meaning_areas.specs.Branches.{holds}
use Rattle.meaning_areas.specs.Same.{same_options}
use Rattle.meaning_settling.proofs.KeyedLaws.{get-put, is_at-same, is_at-self, same_keyed}
use Rattle.meaning_settling.specs.Keyed.{is_at, put_at}
use Rattle.meaning_settling.specs.Settling.{link_key}
use Rattle.fm_branch.proofs.Lists.{all-more}
use Rattle.fm_branch.proofs.Maps.{entries-empty, entries-of, get-of, missed, of-renewed, of-same, put-first, sorted-ascending}
use Rattle.fm_branch.specs.Held.{Entries, HasPlacesOf, KeepsPlaces, Places, has_place, have_places, held_in, row_at, row_on, rows_from, rows_in, with_holding}
use Rattle.fm_branch.specs.declared.held.Holding.{Holding}

-- the links at their paths

abbrev with_pair : List ℕ → Option LinkRow → List (List ℕ × LinkRow) → List (List ℕ × LinkRow)
with_pair path None pairs = pairs
with_pair path (Some l) pairs = (path, l) ∷ pairs

abbrev pairs_from : Entries → List (List ℕ × LinkRow)
pairs_from [] = []
pairs_from (e ∷ es) = with_pair e.0 (row_on e.0 e.1) (pairs_from es)

pub only_same : maps.IsAntisymmetric (slice_cmp nat_cmp)
only_same = maps.slice_cmp-IsAntisymmetric maps.nat_cmp-IsAntisymmetric

-- what is held on a path

found-row : (es : Entries) (q : List ℕ) → maps.get (rows_in es) q ≡ row_at q (maps.find (slice_cmp nat_cmp) q es)
found-row [] q = maps.get-empty (slice_cmp nat_cmp) q
found-row (e ∷ es) q = get-put (rows_in es) e.0 q (row_on e.0 e.1) ∙ by (is_at q e.0) refl (found-row es q)
  where
    by : (b : Bool) → is_at q e.0 ≡ b → maps.get (rows_in es) q ≡ row_at q (maps.find (slice_cmp nat_cmp) q es)
        → cond b (row_on e.0 e.1) (maps.get (rows_in es) q) ≡ row_at q (cond b (Some e.1) (maps.find (slice_cmp nat_cmp) q es))
    by true here rest = ap (λ (p : List ℕ). row_on p e.1) (sym (is_at-same q e.0 here))
    by false there rest = rest

pub get-held : (m : Places) (q : List ℕ) → maps.get (held_in m) q ≡ row_at q (maps.get m q)
unfolding held_in
get-held m q = found-row (maps.entries m) q ∙ ap (λ (o : Option (Option Holding)). row_at q o) (sym (maps.get-entries m q))

pub held-empty : held_in maps.empty ≡ maps.empty
held-empty = same_keyed _ _ (λ q.
    get-held maps.empty q ∙ ap (λ (o : Option (Option Holding)). row_at q o) (maps.get-empty (slice_cmp nat_cmp) q) ∙ sym (maps.get-empty (slice_cmp nat_cmp) q))

-- by what a look-up finds
pub held-at : (es : Entries) (q : List ℕ) (o : Option (Option Holding)) → o ≡ lookup (at_query (slice_cmp nat_cmp q)) es → row_at q o ≡ maps.get (held_in (maps.from_entries es)) q
held-at es q o is = ap (λ (x : Option (Option Holding)). row_at q x) (is ∙ sym (get-of nat_list_cmp_total es q)) ∙ sym (get-held (maps.from_entries es) q)

-- another holding at a place
module _ (old new : Entries) (p : List ℕ) (holding : Option Holding) (others : (q : List ℕ) → is_eq (slice_cmp nat_cmp p q) ≡ false → lookup (at_query (slice_cmp nat_cmp q)) new ≡ lookup (at_query (slice_cmp nat_cmp q)) old) where
  holding-by : (o : Option (Option Holding)) → lookup (at_query (slice_cmp nat_cmp p)) old ≡ o → lookup (at_query (slice_cmp nat_cmp p)) new ≡ option_map (λ _. holding) o
      → maps.from_entries new ≡ with_holding (maps.from_entries old) p holding o
  holding-by None was now = of-same nat_list_cmp_total only_same old new p others now was
  holding-by (Some h) was now = of-renewed nat_list_cmp_total only_same old new p others holding now

  pub holding_of_entries : lookup (at_query (slice_cmp nat_cmp p)) new ≡ option_map (λ _. holding) (lookup (at_query (slice_cmp nat_cmp p)) old)
      → maps.from_entries new ≡ with_holding (maps.from_entries old) p holding (maps.get (maps.from_entries {R = slice_cmp nat_cmp} old) p)
  holding_of_entries now =
      holding-by (lookup (at_query (slice_cmp nat_cmp p)) old) refl now
      ∙ ap (λ (o : Option (Option Holding)). with_holding (maps.from_entries old) p holding o) (sym (get-of nat_list_cmp_total old p))

pub some-row : (p : List ℕ) (o : Option Holding) → is_some (row_on p o) ≡ is_some o
some-row p None = refl
some-row p (Some h) = refl

module _ (m : Places) (p : List ℕ) where
  get-placed : (h : Option Holding) (q : List ℕ) → maps.get (held_in (maps.insert m p h)) q ≡ cond (is_at q p) (row_on q h) (maps.get (held_in m) q)
  get-placed h q =
      get-held (maps.insert m p h) q ∙ ap (λ (o : Option (Option Holding)). row_at q o) (maps.get-insert nat_list_cmp_total m p h q)
      ∙ by (is_at q p) ∙ ap (λ (o : Option LinkRow). cond (is_at q p) (row_on q h) o) (sym (get-held m q))
    where
      by : (b : Bool) → row_at q (cond b (Some h) (maps.get m q)) ≡ cond b (row_on q h) (row_at q (maps.get m q))
      by true = refl
      by false = refl

  -- a new place has no link
  pub held-new : maps.get m p ≡ None → held_in (maps.insert m p None) ≡ held_in m
  held-new none = same_keyed _ _ (λ q. get-placed None q ∙ by q (is_at q p) refl)
    where
      by : (q : List ℕ) (b : Bool) → is_at q p ≡ b → cond b None (maps.get (held_in m) q) ≡ maps.get (held_in m) q
      by q true here = sym (
          ap (λ (x : List ℕ). maps.get (held_in m) x) (is_at-same q p here) ∙ get-held m p ∙ ap (λ (o : Option (Option Holding)). row_at p o) none)
      by q false there = refl

  pub held-given : held_in (with_holding m p None (maps.get m p)) ≡ maps.remove (held_in m) p
  held-given = by (maps.get m p) refl
    where
      none : (q : List ℕ) (b : Bool) → is_at q p ≡ b → maps.get m p ≡ None → maps.get (held_in m) q ≡ cond b None (maps.get (held_in m) q)
      none q true here e = ap (λ (x : List ℕ). maps.get (held_in m) x) (is_at-same q p here) ∙ get-held m p ∙ ap (λ (o : Option (Option Holding)). row_at p o) e
      none q false there e = refl

      by : (o : Option (Option Holding)) → maps.get m p ≡ o → held_in (with_holding m p None o) ≡ maps.remove (held_in m) p
      by None e = same_keyed _ _ (λ q. none q (is_at q p) refl e ∙ sym (maps.get-remove nat_list_cmp_total (held_in m) p q))
      by (Some h) e = same_keyed _ _ (λ q. get-placed None q ∙ sym (maps.get-remove nat_list_cmp_total (held_in m) p q))

  pub places-with : (h : Option Holding) (q : List ℕ) → has_place (with_holding m p h (maps.get m p)) q ≡ has_place m q
  places-with h q = by (maps.get m p) refl
    where
      at : (w : Option Holding) (b : Bool) → maps.get m p ≡ Some w → is_at q p ≡ b → is_some (cond b (Some h) (maps.get m q)) ≡ is_some (maps.get m q)
      at w true e here = sym (ap (λ (x : List ℕ). is_some (maps.get m x)) (is_at-same q p here) ∙ ap is_some e)
      at w false e there = refl

      by : (o : Option (Option Holding)) → maps.get m p ≡ o → has_place (with_holding m p h o) q ≡ has_place m q
      by None e = refl
      by (Some w) e = ap is_some (maps.get-insert nat_list_cmp_total m p h q) ∙ at w (is_at q p) e refl

  pub no_place : has_place m p ≡ false → maps.get m p ≡ None
  no_place e = by (maps.get m p) e
    where
      by : (o : Option (Option Holding)) → is_some o ≡ false → o ≡ None
      by None e = refl
      by (Some h) e = cc e

  -- a new place, and those that there were
  pub place-new : (h : Option Holding) → has_place (maps.insert m p h) p ≡ true
  place-new h = ap is_some (maps.get-insert nat_list_cmp_total m p h p) ∙ ap (λ b. is_some (cond b (Some h) (maps.get m p))) (is_at-self p)

  pub places-kept : (h : Option Holding) → KeepsPlaces m (maps.insert m p h)
  places-kept h q was = ap is_some (maps.get-insert nat_list_cmp_total m p h q) ∙ by (is_at q p)
    where
      by : (b : Bool) → is_some (cond b (Some h) (maps.get m q)) ≡ true
      by true = refl
      by false = was

-- a link at the place of its path
pub held-taken : (m : Places) (l : LinkRow) (h : Holding) → h ≡ record { link = l.link; options = l.options } → has_place m l.path ≡ true
    → held_in (with_holding m l.path (Some h) (maps.get m l.path)) ≡ maps.insert (held_in m) l.path l
held-taken m l h is there = by (maps.get m l.path) refl
  where
    same : (q : List ℕ) (b : Bool) → is_at q l.path ≡ b → cond b (row_on q (Some h)) (maps.get (held_in m) q) ≡ cond b (Some l) (maps.get (held_in m) q)
    same q true here = (λ i. row_on (is_at-same q l.path here i) (Some (is i)))
    same q false other = refl

    by : (o : Option (Option Holding)) → maps.get m l.path ≡ o → held_in (with_holding m l.path (Some h) o) ≡ maps.insert (held_in m) l.path l
    by None e = absurd (cc_none (sym there ∙ ap is_some e))
      where
        cc_none : true ≡ false → ⊥
        cc_none x = cc
    by (Some w) e = same_keyed _ _ (λ q. get-placed m l.path (Some h) q ∙ same q (is_at q l.path) refl ∙ sym (maps.get-insert nat_list_cmp_total (held_in m) l.path l q))

-- whether what is held on a link's path is that link

both : (b o : Bool) → b ≡ true → o ≡ (b && o)
both b o e = sym (ap (λ x. x && o) e)

pub held-same : (h : Holding) (l : LinkRow) (o : Bool) → is_at (link_key h.link) (link_key l.link) ≡ true → o ≡ same_options h.options l.options → o ≡ holds (row_on l.path (Some h)) l
held-same h l o number is =
    is ∙ both (is_at (link_key h.link) (link_key l.link) && is_at l.path l.path) (same_options h.options l.options) (and_from (is_at (link_key h.link) (link_key l.link)) (is_at l.path l.path) number (is_at-self l.path))

-- places of lists

pub keeps-then : (a b c : Places) → KeepsPlaces a b → KeepsPlaces b c → KeepsPlaces a c
keeps-then a b c first then q was = then q (first q was)

pub have-kept : (old new : Places) (links : List LinkRow) → KeepsPlaces old new → have_places old links ≡ true → have_places new links ≡ true
have-kept old new links kept have = all-more (λ l. has_place old l.path) (λ l. has_place new l.path) (λ l e. kept l.path e) links have

pub keeps-same : (old new : Places) → HasPlacesOf new old → KeepsPlaces old new
keeps-same old new same q was = same q ∙ was

-- the links in the order of their paths

below-rows : (x : List ℕ) (es : Entries) → below_all (slice_cmp nat_cmp) x es ≡ true → below_all (slice_cmp nat_cmp) x (pairs_from es) ≡ true
below-rows x [] b = refl
below-rows x (e ∷ es) b =
    let parts = and_parts (is_lt (slice_cmp nat_cmp x e.0)) (below_all (slice_cmp nat_cmp) x es) b in
    by e.1 parts.0 (below-rows x es parts.1)
  where
    by : (o : Option Holding) → is_lt (slice_cmp nat_cmp x e.0) ≡ true → below_all (slice_cmp nat_cmp) x (pairs_from es) ≡ true → below_all (slice_cmp nat_cmp) x (with_pair e.0 (row_on e.0 o) (pairs_from es)) ≡ true
    by None first rest = rest
    by (Some h) first rest = and_from (is_lt (slice_cmp nat_cmp x e.0)) (below_all (slice_cmp nat_cmp) x (pairs_from es)) first rest

entries-rows : (es : Entries) → maps.is_sorted (slice_cmp nat_cmp) es ≡ true → maps.entries (rows_in es) ≡ pairs_from es
entries-rows [] s = entries-empty (slice_cmp nat_cmp)
entries-rows (e ∷ es) s =
    let parts = and_parts (below_all (slice_cmp nat_cmp) e.0 es) (maps.is_sorted (slice_cmp nat_cmp) es) s in
    by e.1 parts.0 (entries-rows es parts.1)
  where
    none : below_all (slice_cmp nat_cmp) e.0 es ≡ true → (q : List ℕ) (b : Bool) → is_at q e.0 ≡ b → cond b None (maps.get (rows_in es) q) ≡ maps.get (rows_in es) q
    none below q true here = sym (
        ap (λ (x : List ℕ). maps.get (rows_in es) x) (is_at-same q e.0 here) ∙ found-row es e.0
        ∙ ap (λ (o : Option (Option Holding)). row_at e.0 o) (missed (slice_cmp nat_cmp) e.0 es below))
    none below q false there = refl

    by : (o : Option Holding) → below_all (slice_cmp nat_cmp) e.0 es ≡ true → maps.entries (rows_in es) ≡ pairs_from es
        → maps.entries (put_at (rows_in es) e.0 (row_on e.0 o)) ≡ with_pair e.0 (row_on e.0 o) (pairs_from es)
    by None below rest =
        ap maps.entries (same_keyed (maps.remove (rows_in es) e.0) (rows_in es) (λ q. maps.get-remove nat_list_cmp_total (rows_in es) e.0 q ∙ none below q (is_at q e.0) refl))
        ∙ rest
    by (Some h) below rest =
        let row : LinkRow = record { link = h.link; path = e.0; options = h.options } in
        maps.entries-insert nat_list_cmp_total (rows_in es) e.0 row ∙ ap (λ (l : List (List ℕ × LinkRow)). put (slice_cmp nat_cmp) e.0 row l) rest
        ∙ put-first (slice_cmp nat_cmp) e.0 row (pairs_from es) (below-rows e.0 es below)

pub values-held : (es : Entries) → IsStrictlySortedBy (slice_cmp nat_cmp) (keys_of es) → maps.values (held_in (maps.from_entries es)) ≡ rows_from es
unfolding held_in
values-held es asc =
    ap (λ (l : Entries). map (λ e. e.1) (maps.entries (rows_in l))) (entries-of nat_list_cmp_total es asc)
    ∙ ap (λ (l : List (List ℕ × LinkRow)). map (λ e. e.1) l) (entries-rows es (sorted-ascending (slice_cmp nat_cmp) es asc))
    ∙ seconds es
  where
    seconds : (es : Entries) → map (λ e. e.1) (pairs_from es) ≡ rows_from es
    seconds [] = refl
    seconds (e ∷ es) = by e.1 (seconds es)
      where
        by : (o : Option Holding) → map (λ e. e.1) (pairs_from es) ≡ rows_from es → map (λ e. e.1) (with_pair e.0 (row_on e.0 o) (pairs_from es)) ≡ option_to_list (row_on e.0 o) ++ rows_from es
        by None rest = rest
        by (Some h) rest = ap (λ (l : List LinkRow). record { link = h.link; path = e.0; options = h.options } ∷ l) rest
