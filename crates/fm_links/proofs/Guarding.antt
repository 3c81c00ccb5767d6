-- The links that forbid commands on a path, and the committed one, by the claim there.
use Rattle.std.proofs.Common.{◌≡◌, ◌≢◌, ◌⊎◌, inl, inr, ⊎_elim, ℕ, zero, suc, List, [], ◌∷◌, ◌++◌, Bool, true, false, not, cond, ◌==◌, ◌&&◌, ◌||◌, filter, map, Option, Some, None, is_some, refl, sym, ◌∙◌, ap, subst}
use Rattle.std.proofs.lemmas.Bool.{cases_eq}
use Rattle.std.specs.Cmp.{unsigned_tied}
use Rattle.std.specs.FinMap as maps
use Rattle.std.specs.FinMap.{find as find_key, get-entries}
use Rattle.std.specs.List.{flat_map, list_any}
use Rattle.std.specs.Option.{option_map, option_to_list}
use Rattle.std.specs.Ordering.{nat_cmp}
use Rattle.dl_base.specs.declared.step.Phase.{Phase}
use Rattle.dl_base.specs.declared.step.Phase.TheVariants as phases
use Rattle.dl_base.specs.declared.value.LinkRow.{LinkRow}
use Rattle.meaning_areas.proofs.OnPaths.{Differ, last-differs}
use Rattle.meaning_areas.proofs.OwnNumbers.{decided-apart}
use Rattle.meaning_areas.proofs.Steps.{agrees-of}
use Rattle.meaning_areas.proofs.Tables.{commit-in, some_same, test-other, test-same}
use Rattle.meaning_areas.specs.Commits.{Commit, tables_after}
use Rattle.meaning_areas.specs.Core.{decided_in, decided_work}
use Rattle.meaning_areas.specs.Lists.{Folds}
use Rattle.meaning_areas.specs.Stands.{IsCommit, kept_of, past, txs_of}
use Rattle.meaning_merge.proofs.Paths.{differ-one}
use Rattle.meaning_merge.specs.Touching.{In, OnePath}
use Rattle.meaning_settling.proofs.KeyedLaws.{any-append, is_at-same, is_at-sym}
use Rattle.meaning_settling.proofs.PartLaws.{get-held}
use Rattle.meaning_settling.proofs.SettledLaws.{settled-front, settled-held}
use Rattle.meaning_settling.specs.Apart.{has_path}
use Rattle.meaning_settling.specs.Keyed.{Keyed, is_at}
use Rattle.meaning_settling.specs.Settled.{AreDistinct, IsIn, IsNot, settled}
use Rattle.meaning_settling.specs.Settling.{Kept, Moved, held_by, on, settle_one}
use Rattle.meaning_tables.specs.Links.{links, same_number}
use Rattle.meaning_tables.specs.Tables.{Tables}
use Rattle.meaning_system.proofs.Archiving.{decided-txn}
use Rattle.meaning_system.proofs.Cores.{no-links}
use Rattle.meaning_system.proofs.Leading.{decided-work, works-are}
use Rattle.meaning_system.proofs.Resolved.{Found, entries-differ, entries-found}
use Rattle.meaning_system.specs.Claims.{not_among}
use Rattle.meaning_system.specs.Commands.{decided_gives, forbidding, prepared_takes}
use Rattle.meaning_system.specs.CoreOf.{core_of, work_by}
use Rattle.meaning_system.specs.Following.{Follows}
use Rattle.meaning_system.specs.State.{State, Txn, differs, has_links, is_active, is_decided, is_doomed, is_prepared, moved_of, tables_of}
use Rattle.meaning_history.specs.Sound.{AreSound}
use Rattle.fm_links.proofs.Searching.{IsOnly, Owner, are-apart, claims-only, lacking, not-its, of_it, owner}
use Rattle.fm_links.specs.Claims.{PathClaim, claim_by}
use Rattle.fm_links.specs.Guarding.{committed_on, guards, phase_in, unless_among, waiting_on}
use Rattle.fm_links.specs.Searching.{AreClaims, has_claim}

false_true : false ≡ true → ⊥
false_true e = cc

none_some : {A : Type 0} (x : A) → None ≡ Some x → ⊥
none_some x e = cc

-- LINKS ON A PATH: of those on different paths there is one at most

module _ (test : LinkRow → Bool) where
  filter-append : (xs ys : List LinkRow) → filter test (xs ++ ys) ≡ filter test xs ++ filter test ys
  filter-append [] ys = refl
  filter-append (x ∷ xs) ys = by (test x) (filter-append xs ys)
    where
      by : (b : Bool) → filter test (xs ++ ys) ≡ filter test xs ++ filter test ys → cond b (x ∷ filter test (xs ++ ys)) (filter test (xs ++ ys)) ≡ cond b (x ∷ filter test xs) (filter test xs) ++ filter test ys
      by true rest = ap (λ (l : List LinkRow). x ∷ l) rest
      by false rest = rest

  filter-none : (xs : List LinkRow) → ((x : LinkRow) → In x xs → test x ≡ false) → filter test xs ≡ []
  filter-none [] misses = refl
  filter-none (x ∷ xs) misses = ap (λ b. cond b (x ∷ filter test xs) (filter test xs)) (misses x (inl refl)) ∙ filter-none xs (λ y is. misses y (inr is))

module _ (p : List ℕ) where
  -- none of the later ones is where this one is
  none-later : (x : LinkRow) (xs : List LinkRow) → ((y : LinkRow) → In y xs → is_at y.path x.path ≡ false) → is_at p x.path ≡ true → (y : LinkRow) → In y xs → is_at p y.path ≡ false
  none-later x xs apart here y is = ap (λ (q : List ℕ). is_at q y.path) (is_at-same p x.path here) ∙ is_at-sym y.path x.path (apart y is)

  pub filter-on : (ls : List LinkRow) → OnePath ls → filter (λ l. is_at p l.path) ls ≡ option_to_list (on ls p)
  filter-on [] one = refl
  filter-on (x ∷ xs) one = by (is_at p x.path) refl (filter-on xs one.1)
    where
      by : (b : Bool) → is_at p x.path ≡ b → filter (λ l. is_at p l.path) xs ≡ option_to_list (on xs p) → cond b (x ∷ filter (λ l. is_at p l.path) xs) (filter (λ l. is_at p l.path) xs) ≡ option_to_list (cond b (Some x) (on xs p))
      by true here rest = ap (λ (l : List LinkRow). x ∷ l) (filter-none (λ l. is_at p l.path) xs (none-later x xs one.0 here))
      by false there rest = rest

  on-none : (ls : List LinkRow) → ((y : LinkRow) → In y ls → is_at p y.path ≡ false) → on ls p ≡ None
  on-none [] misses = refl
  on-none (x ∷ xs) misses = ap (λ b. cond b (Some x) (on xs p)) (misses x (inl refl)) ∙ on-none xs (λ y is. misses y (inr is))

  -- those that pass a test, where the one on the path does
  abbrev keep : (LinkRow → Bool) → Option LinkRow → Option LinkRow
  keep test None = None
  keep test (Some l) = cond (test l) (Some l) None

  on-filter : (test : LinkRow → Bool) (ls : List LinkRow) → OnePath ls → on (filter test ls) p ≡ keep test (on ls p)
  on-filter test [] one = refl
  on-filter test (x ∷ xs) one = by (test x) (is_at p x.path) refl refl (on-filter test xs one.1)
    where
      by : (c b : Bool) → test x ≡ c → is_at p x.path ≡ b → on (filter test xs) p ≡ keep test (on xs p) → on (cond c (x ∷ filter test xs) (filter test xs)) p ≡ keep test (cond b (Some x) (on xs p))
      by true true passes here rest = ap (λ b. cond b (Some x) (on (filter test xs) p)) here ∙ sym (ap (λ b. cond b (Some x) None) passes)
      by true false passes there rest = ap (λ b. cond b (Some x) (on (filter test xs) p)) there ∙ rest
      by false true fails here rest = rest ∙ ap (keep test) (on-none xs (none-later x xs one.0 here)) ∙ sym (ap (λ b. cond b (Some x) None) fails)
      by false false fails there rest = rest

one-filter : (test : LinkRow → Bool) (ls : List LinkRow) → OnePath ls → OnePath (filter test ls)
one-filter test [] one = tt
one-filter test (x ∷ xs) one = by (test x) (one-filter test xs one.1)
  where
    among : (ys : List LinkRow) (y : LinkRow) → In y (filter test ys) → In y ys
    among [] y is = absurd is
    among (z ∷ zs) y is = more (test z) is (among zs y)
      where
        more : (b : Bool) → In y (cond b (z ∷ filter test zs) (filter test zs)) → (In y (filter test zs) → In y zs) → (y ≡ z) ⊎ In y zs
        more true is rest = ⊎_elim (λ (e : y ≡ z). inl e) (λ (later : In y (filter test zs)). inr (rest later)) is
        more false is rest = inr (rest is)

    by : (b : Bool) → OnePath (filter test xs) → OnePath (cond b (x ∷ filter test xs) (filter test xs))
    by true rest = ((λ y is. one.0 y (among xs y is)), rest)
    by false rest = rest

-- ENTRIES: at most one transaction has links on the path

module _ (p : List ℕ) (h : ℕ × Txn → List LinkRow) (at : ℕ → Option Txn) where
  flat-none : (es : List (ℕ × Txn)) → Found at es → ((q : ℕ) (t : Txn) → at q ≡ Some t → filter (λ l. is_at p l.path) (h (q, t)) ≡ []) → filter (λ l. is_at p l.path) (flat_map h es) ≡ []
  flat-none [] found misses = refl
  flat-none (e ∷ es) found misses =
      filter-append (λ l. is_at p l.path) (h e) (flat_map h es) ∙ ap (λ (l : List LinkRow). l ++ filter (λ l. is_at p l.path) (flat_map h es)) (misses e.0 e.1 found.0) ∙ flat-none es found.1 misses

  module _ (u : ℕ) (others : (q : ℕ) (t : Txn) → q ≢ u → at q ≡ Some t → filter (λ l. is_at p l.path) (h (q, t)) ≡ []) where
    flat-others : (es : List (ℕ × Txn)) → IsNot u (map (λ e. e.0) es) → Found at es → filter (λ l. is_at p l.path) (flat_map h es) ≡ []
    flat-others [] never found = refl
    flat-others (e ∷ es) never found =
        filter-append (λ l. is_at p l.path) (h e) (flat_map h es) ∙ ap (λ (l : List LinkRow). l ++ filter (λ l. is_at p l.path) (flat_map h es)) (others e.0 e.1 never.0 found.0) ∙ flat-others es never.1 found.1

    nothing-more : (ls : List LinkRow) → ls ++ [] ≡ ls
    nothing-more [] = refl
    nothing-more (l ∷ ls) = ap (λ (xs : List LinkRow). l ∷ xs) (nothing-more ls)

    flat-one : (es : List (ℕ × Txn)) → AreDistinct (map (λ e. e.0) es) → Found at es → (v : Txn) → at u ≡ Some v → find_key nat_cmp u es ≡ Some v → filter (λ l. is_at p l.path) (flat_map h es) ≡ filter (λ l. is_at p l.path) (h (u, v))
    flat-one [] once found v is among = absurd (none_some v among)
    flat-one (e ∷ es) once found v is among = ⊎_elim
        (λ (same : e.0 ≡ u).
        let it : e ≡ (u, v) = λ i. (same i, some_same e.1 v (sym found.0 ∙ ap at same ∙ is) i) in
        filter-append (λ l. is_at p l.path) (h e) (flat_map h es)
        ∙ ap (λ (l : List LinkRow). filter (λ l. is_at p l.path) (h e) ++ l) (flat-others es (subst (λ (n : ℕ). IsNot n (map (λ (x : ℕ × Txn). x.0) es)) same once.0) found.1)
        ∙ nothing-more (filter (λ l. is_at p l.path) (h e)) ∙ ap (λ (x : ℕ × Txn). filter (λ l. is_at p l.path) (h x)) it)
        (λ (other : e.0 ≢ u).
        filter-append (λ l. is_at p l.path) (h e) (flat_map h es) ∙ ap (λ (l : List LinkRow). l ++ filter (λ l. is_at p l.path) (flat_map h es)) (others e.0 e.1 other found.0)
        ∙ flat-one es once.1 found.1 v is (sym (ap (λ b. cond b (Some e.1) (find_key nat_cmp u es)) (unsigned_tied u e.0 ∙ test-other u e.0 (λ (x : u ≡ e.0). other (sym x)))) ∙ among))
        (cases_eq e.0 u)

-- what a transaction has on no path of it

or-false : (a b : Bool) → (a || b) ≡ false → (a ≡ false) × (b ≡ false)
or-false true b e = absurd (false_true (sym e))
or-false false b e = (refl, e)

off-list : (p : List ℕ) (ls : List LinkRow) → list_any (is_at p) (map (λ l. l.path) ls) ≡ false → filter (λ l. is_at p l.path) ls ≡ []
off-list p [] e = refl
off-list p (l ∷ ls) e =
    let two = or-false (is_at p l.path) (list_any (is_at p) (map (λ (x : LinkRow). x.path) ls)) e in
    ap (λ b. cond b (l ∷ filter (λ l. is_at p l.path) ls) (filter (λ l. is_at p l.path) ls)) two.0 ∙ off-list p ls two.1

off-both : (p : List ℕ) (m : Moved) → has_path m p ≡ false → (filter (λ l. is_at p l.path) m.gives ≡ []) × (filter (λ l. is_at p l.path) m.takes ≡ [])
off-both p m e =
    let two = or-false (list_any (is_at p) (map (λ (l : LinkRow). l.path) m.gives)) (list_any (is_at p) (map (λ (l : LinkRow). l.path) m.takes))
    (sym (any-append (is_at p) (map (λ (l : LinkRow). l.path) m.gives) (map (λ (l : LinkRow). l.path) m.takes)) ∙ e) in
    (off-list p m.gives two.0, off-list p m.takes two.1)

-- a transaction that is not active is not doomed
not-doomed : (s : State) (t : Txn) → is_active t.phase ≡ false → is_doomed s t ≡ false
not-doomed s t e = ap (λ b. b && differs t.seen s.links_opening) e

has-none : (s : State) (p : List ℕ) (q : ℕ) (t : Txn) → is_active t.phase ≡ false → has_claim s p (q, t) ≡ false → has_path (moved_of t) p ≡ false
has-none s p q t rests misses = sym (ap (λ b. not b && has_path (moved_of t) p) (not-doomed s t rests)) ∙ misses

prepared-rests : (p : Phase) → is_prepared p ≡ true → is_active p ≡ false
prepared-rests phases.Active e = absurd (false_true e)
prepared-rests phases.Prepared e = refl
prepared-rests phases.Decided e = refl
prepared-rests phases.Finished e = refl
prepared-rests phases.Dropped e = refl

decided-rests : (p : Phase) → is_decided p ≡ true → is_active p ≡ false
decided-rests phases.Active e = absurd (false_true e)
decided-rests phases.Prepared e = refl
decided-rests phases.Decided e = refl
decided-rests phases.Finished e = refl
decided-rests phases.Dropped e = refl

takes-none : (s : State) (p : List ℕ) (q : ℕ) (t : Txn) → has_claim s p (q, t) ≡ false → filter (λ l. is_at p l.path) (prepared_takes (q, t)) ≡ []
takes-none s p q t misses = by (is_prepared t.phase) refl
  where
    by : (b : Bool) → is_prepared t.phase ≡ b → filter (λ l. is_at p l.path) (cond b (moved_of t).takes []) ≡ []
    by true is = (off-both p (moved_of t) (has-none s p q t (prepared-rests t.phase is) misses)).1
    by false is = refl

gives-none : (s : State) (p : List ℕ) (q : ℕ) (t : Txn) → has_claim s p (q, t) ≡ false → filter (λ l. is_at p l.path) (decided_gives (q, t)) ≡ []
gives-none s p q t misses = by (is_decided t.phase) refl
  where
    by : (b : Bool) → is_decided t.phase ≡ b → filter (λ l. is_at p l.path) (cond b (moved_of t).gives []) ≡ []
    by true is = (off-both p (moved_of t) (has-none s p q t (decided-rests t.phase is) misses)).0
    by false is = refl

-- the tables of the past have links on different paths
past-differs : (before : Tables) (cs : List Commit) (n : ℕ) (ts : Tables) → Differ before → ((c : Commit) → IsCommit c cs → Differ c.tables) → past before cs n ≡ Some ts → Differ ts
past-differs before cs zero ts first each is = subst Differ (some_same before ts is) first
past-differs before [] (suc n) ts first each is = absurd (none_some ts is)
past-differs before (c ∷ cs) (suc n) ts first each is = past-differs c.tables cs n ts (each c (inl refl)) (λ d among. each d (inr among)) is

-- THE COMMITTED LINK

has-links : (m : Moved) (p : List ℕ) → has_path m p ≡ true → has_links m ≡ true
has-links m p has = by (has_links m) refl
  where
    by : (b : Bool) → has_links m ≡ b → b ≡ true
    by true e = refl
    by false e =
        let two = no-links m e in
        absurd (false_true (sym (λ i. list_any (is_at p) (map (λ (l : LinkRow). l.path) (two.0 i) ++ map (λ (l : LinkRow). l.path) (two.1 i))) ∙ has))

module _ (f : Folds) (s : State) (follows : Follows f s) (p : List ℕ) where
  -- a decided transaction that has no claim there
  off : (o : Option PathClaim) → IsOnly s p o → (u : ℕ) (a : Moved) → decided_in (core_of s) u ≡ Some a → of_it u o ≡ None → has_path a p ≡ false
  off o only u a e none =
      let it = decided-txn s u a e in
      ap (λ (m : Moved). has_path m p) (sym it.3) ∙ has-none s p u it.0 (decided-rests it.0.phase it.2) (lacking s p o only u it.0 it.1 none)

  -- that of a decided transaction, which will be moved
  module _ (c : PathClaim) (only : IsOnly s p (Some c)) (t : Txn) (at : maps.get s.txs c.tx ≡ Some t) (has : has_claim s p (c.tx, t) ≡ true) (same : claim_by c.tx (moved_of t) p ≡ c) (decided : t.phase ≡ phases.Decided) where
    there : has_path (moved_of t) p ≡ true
    there = sym (ap (λ b. not b && has_path (moved_of t) p) (not-doomed s t (ap is_active decided))) ∙ has

    here : (core_of s).works c.tx ≡ Some (work_by phases.Decided (moved_of t))
    here = works-are f s follows c.tx t at (work_by phases.Decided (moved_of t)) (decided-work f s follows c.tx t at decided)

    open_one : decided_in (core_of s) c.tx ≡ Some (moved_of t)
    open_one = ap decided_work here ∙ ap (λ b. cond b (Some (moved_of t)) None) (has-links (moved_of t) p there)

    rest-off : (u : ℕ) (a : Moved) → cond (u == c.tx) None (decided_in (core_of s) u) ≡ Some a → has_path a p ≡ false
    rest-off u a e = ⊎_elim
        (λ (own : c.tx ≡ u). absurd (none_some a (sym (ap (λ b. cond b None (decided_in (core_of s) u)) (test-same u c.tx (sym own))) ∙ e)))
        (λ (other : c.tx ≢ u). off (Some c) only u a (sym (ap (λ b. cond b None (decided_in (core_of s) u)) (test-other u c.tx (λ (x : u ≡ c.tx). other (sym x)))) ∙ e) (not-its s p c u other))
        (cases_eq c.tx u)

    committed : IsIn c.tx (txs_of f.rows.commits)
    committed = commit-in c.tx f.rows.commits (ap is_some (agrees-of f (core_of s) follows.joint c.tx (work_by phases.Decided (moved_of t)) here).0.at)

    first : settled (decided_in (core_of s)) (txs_of f.rows.commits) (kept_of f) ≡ settled (λ u. cond (u == c.tx) None (decided_in (core_of s) u)) (txs_of f.rows.commits) (settle_one (moved_of t) (kept_of f))
    first = settled-front (decided_in (core_of s)) (λ u. cond (u == c.tx) None (decided_in (core_of s) u)) (txs_of f.rows.commits) c.tx (moved_of t) (kept_of f)
        (λ t u in_t in_u other a b at_t at_u. decided-apart f (core_of s) follows.joint t u other a b at_t at_u) open_one
        (λ u other. sym (ap (λ b. cond b None (decided_in (core_of s) u)) (test-other u c.tx other)))
        (ap (λ b. cond b None (decided_in (core_of s) c.tx)) (test-same c.tx c.tx refl))
        committed follows.joint.distinct

    moved-already : maps.get (settled (decided_in (core_of s)) (txs_of f.rows.commits) (kept_of f)).held p ≡ held_by c.give c.take (maps.get f.links.held p)
    moved-already =
        ap (λ (k : Kept). maps.get k.held p) first
        ∙ settled-held (λ u. cond (u == c.tx) None (decided_in (core_of s) u)) (txs_of f.rows.commits) (settle_one (moved_of t) (kept_of f)) p rest-off
        ∙ get-held (moved_of t) (kept_of f) p
        ∙ ap (λ (x : PathClaim). held_by x.give x.take (maps.get f.links.held p)) same

  held-is : (o : Option PathClaim) → IsOnly s p o → maps.get (settled (decided_in (core_of s)) (txs_of f.rows.commits) (kept_of f)).held p ≡ committed_on (maps.get f.links.held p) o (phase_in s o)
  held-is None only = settled-held (decided_in (core_of s)) (txs_of f.rows.commits) (kept_of f) p (λ u a e. off None only u a e refl)
  held-is (Some c) only = by it.0.phase refl ∙ ap (committed_on (maps.get f.links.held p) (Some c)) (sym (ap (option_map (λ (t : Txn). t.phase)) it.1))
    where
      it : Owner s p c
      it = owner s p c only

      -- its transaction is not decided
      undecided : is_decided it.0.phase ≡ false → maps.get (settled (decided_in (core_of s)) (txs_of f.rows.commits) (kept_of f)).held p ≡ maps.get f.links.held p
      undecided misses = settled-held (decided_in (core_of s)) (txs_of f.rows.commits) (kept_of f) p (λ u a e. ⊎_elim
          (λ (same : c.tx ≡ u).
          let d = decided-txn s u a e in
          let is : it.0 ≡ d.0 = some_same it.0 d.0 (sym it.1 ∙ ap (maps.get s.txs) same ∙ d.1) in
          absurd (false_true (sym misses ∙ ap (λ (t : Txn). is_decided t.phase) is ∙ d.2)))
          (λ (other : c.tx ≢ u). off (Some c) only u a e (not-its s p c u other))
          (cases_eq c.tx u))

      by : (x : Phase) → it.0.phase ≡ x → maps.get (settled (decided_in (core_of s)) (txs_of f.rows.commits) (kept_of f)).held p ≡ committed_on (maps.get f.links.held p) (Some c) (Some x)
      by phases.Active is = undecided (ap is_decided is)
      by phases.Prepared is = undecided (ap is_decided is)
      by phases.Decided is = moved-already c only it.0 it.1 it.2 it.3 is
      by phases.Finished is = undecided (ap is_decided is)
      by phases.Dropped is = undecided (ap is_decided is)

  pub committed-is : (o : Option PathClaim) → IsOnly s p o → on (links (tables_of s)) p ≡ committed_on (maps.get f.links.held p) o (phase_in s o)
  committed-is o only = ap (λ (cs : List Commit). on (links (tables_after [] cs)) p) (sym follows.joint.commits) ∙ sym (follows.joint.held p) ∙ held-is o only

-- THE LINKS THAT FORBID
module _ (first : ℕ) (f : Folds) (s : State) (sound : AreSound first f s) (p : List ℕ) where
  committed-one : OnePath (links (tables_of s))
  committed-one = differ-one (links (tables_of s)) (last-differs [] s.commits refl sound.follows.joint.whole.paths)

  takes-one : (tx : ℕ) (t : Txn) → maps.get s.txs tx ≡ Some t → t.phase ≡ phases.Prepared → OnePath (moved_of t).takes
  takes-one tx t at is = (sound.standing tx t at (ap is_decided is) (not-doomed s t (ap is_active is))).apart

  gives-one : (tx : ℕ) (t : Txn) → maps.get s.txs tx ≡ Some t → OnePath (moved_of t).gives
  gives-one tx t at =
      let base = sound.history.bases tx t at in
      one-filter (λ x. not (list_any (λ y. same_number x.link y.link) (links t.copy))) (links t.base)
      (differ-one (links t.base) (past-differs [] s.commits base.0 t.base refl sound.follows.joint.whole.paths base.1))

  parts : forbidding s p ≡ filter (λ l. is_at p l.path) (links (tables_of s)) ++ filter (λ l. is_at p l.path) (flat_map prepared_takes (maps.entries s.txs)) ++ filter (λ l. is_at p l.path) (flat_map decided_gives (maps.entries s.txs))
  parts =
      filter-append (λ l. is_at p l.path) (links (tables_of s) ++ flat_map prepared_takes (maps.entries s.txs)) (flat_map decided_gives (maps.entries s.txs))
      ∙ ap (λ (ls : List LinkRow). ls ++ filter (λ l. is_at p l.path) (flat_map decided_gives (maps.entries s.txs))) (filter-append (λ l. is_at p l.path) (links (tables_of s)) (flat_map prepared_takes (maps.entries s.txs)))

  -- what stands for nothing, and one list behind another
  joined : (a b : Option LinkRow) (xs ys zs : List LinkRow) → xs ≡ option_to_list a → ys ++ zs ≡ option_to_list b → xs ++ ys ++ zs ≡ option_to_list a ++ option_to_list b
  joined a b xs ys zs is_x is_yz = grouped xs ys zs ∙ (λ i. is_x i ++ is_yz i)
    where
      grouped : (xs ys zs : List LinkRow) → xs ++ ys ++ zs ≡ xs ++ (ys ++ zs)
      grouped [] ys zs = refl
      grouped (x ∷ xs) ys zs = ap (λ (l : List LinkRow). x ∷ l) (grouped xs ys zs)

  waiting-is : (o : Option PathClaim) → IsOnly s p o
      → filter (λ l. is_at p l.path) (flat_map prepared_takes (maps.entries s.txs)) ++ filter (λ l. is_at p l.path) (flat_map decided_gives (maps.entries s.txs)) ≡ option_to_list (waiting_on o (phase_in s o))
  waiting-is None only = λ i.
      flat-none p prepared_takes (maps.get s.txs) (maps.entries s.txs) (entries-found s.txs) (λ q t at. takes-none s p q t (lacking s p None only q t at refl)) i
      ++ flat-none p decided_gives (maps.get s.txs) (maps.entries s.txs) (entries-found s.txs) (λ q t at. gives-none s p q t (lacking s p None only q t at refl)) i
  waiting-is (Some c) only = (λ i. one-takes i ++ one-gives i) ∙ by it.0.phase refl ∙ ap (λ (x : Option Phase). option_to_list (waiting_on (Some c) x)) (sym (ap (option_map (λ (t : Txn). t.phase)) it.1))
    where
      it : Owner s p c
      it = owner s p c only

      other : (q : ℕ) (t : Txn) → q ≢ c.tx → maps.get s.txs q ≡ Some t → has_claim s p (q, t) ≡ false
      other q t differs at = lacking s p (Some c) only q t at (not-its s p c q (λ (e : c.tx ≡ q). differs (sym e)))

      among : find_key nat_cmp c.tx (maps.entries s.txs) ≡ Some it.0
      among = sym (get-entries s.txs c.tx) ∙ it.1

      one-takes : filter (λ l. is_at p l.path) (flat_map prepared_takes (maps.entries s.txs)) ≡ filter (λ l. is_at p l.path) (prepared_takes (c.tx, it.0))
      one-takes = flat-one p prepared_takes (maps.get s.txs) c.tx (λ q t differs at. takes-none s p q t (other q t differs at)) (maps.entries s.txs) (entries-differ s.txs) (entries-found s.txs) it.0 it.1 among

      one-gives : filter (λ l. is_at p l.path) (flat_map decided_gives (maps.entries s.txs)) ≡ filter (λ l. is_at p l.path) (decided_gives (c.tx, it.0))
      one-gives = flat-one p decided_gives (maps.get s.txs) c.tx (λ q t differs at. gives-none s p q t (other q t differs at)) (maps.entries s.txs) (entries-differ s.txs) (entries-found s.txs) it.0 it.1 among

      nothing-behind : (ls : List LinkRow) → ls ++ [] ≡ ls
      nothing-behind [] = refl
      nothing-behind (l ∷ ls) = ap (λ (xs : List LinkRow). l ∷ xs) (nothing-behind ls)

      at-phase : (x : Phase) → it.0.phase ≡ x → (ls : List LinkRow) → filter (λ l. is_at p l.path) (cond (is_prepared x) (moved_of it.0).takes []) ++ filter (λ l. is_at p l.path) (cond (is_decided x) (moved_of it.0).gives []) ≡ ls
          → filter (λ l. is_at p l.path) (prepared_takes (c.tx, it.0)) ++ filter (λ l. is_at p l.path) (decided_gives (c.tx, it.0)) ≡ ls
      at-phase x is ls e = (λ i. filter (λ l. is_at p l.path) (cond (is_prepared (is i)) (moved_of it.0).takes []) ++ filter (λ l. is_at p l.path) (cond (is_decided (is i)) (moved_of it.0).gives [])) ∙ e

      by : (x : Phase) → it.0.phase ≡ x → filter (λ l. is_at p l.path) (prepared_takes (c.tx, it.0)) ++ filter (λ l. is_at p l.path) (decided_gives (c.tx, it.0)) ≡ option_to_list (waiting_on (Some c) (Some x))
      by phases.Active is = at-phase phases.Active is [] refl
      by phases.Prepared is = at-phase phases.Prepared is (option_to_list c.take)
          (nothing-behind (filter (λ l. is_at p l.path) (moved_of it.0).takes) ∙ filter-on p (moved_of it.0).takes (takes-one c.tx it.0 it.1 is) ∙ ap (λ (x : PathClaim). option_to_list x.take) it.3)
      by phases.Decided is = at-phase phases.Decided is (option_to_list c.give) (filter-on p (moved_of it.0).gives (gives-one c.tx it.0 it.1) ∙ ap (λ (x : PathClaim). option_to_list x.give) it.3)
      by phases.Finished is = at-phase phases.Finished is [] refl
      by phases.Dropped is = at-phase phases.Dropped is [] refl

  forbidding-is : (o : Option PathClaim) → IsOnly s p o → forbidding s p ≡ guards (maps.get f.links.held p) o (phase_in s o)
  forbidding-is o only =
      parts ∙ joined (committed_on (maps.get f.links.held p) o (phase_in s o)) (waiting_on o (phase_in s o))
      (filter (λ l. is_at p l.path) (links (tables_of s))) (filter (λ l. is_at p l.path) (flat_map prepared_takes (maps.entries s.txs))) (filter (λ l. is_at p l.path) (flat_map decided_gives (maps.entries s.txs)))
      (filter-on p (links (tables_of s)) committed-one ∙ ap option_to_list (committed-is f s sound.follows p o only)) (waiting-is o only)

  kept-among : (gives : List LinkRow) (o : Option LinkRow) → keep p (λ l. not (list_any (λ g. same_number g.link l.link) gives)) o ≡ unless_among gives o
  kept-among gives None = refl
  kept-among gives (Some l) = by (list_any (λ g. same_number g.link l.link) gives)
    where
      by : (b : Bool) → cond (not b) (Some l) None ≡ cond b None (Some l)
      by true = refl
      by false = refl

  linked-is : (gives : List LinkRow) (o : Option PathClaim) → IsOnly s p o → on (not_among gives (links (tables_of s))) p ≡ unless_among gives (committed_on (maps.get f.links.held p) o (phase_in s o))
  linked-is gives o only =
      on-filter p (λ l. not (list_any (λ g. same_number g.link l.link) gives)) (links (tables_of s)) committed-one ∙ kept-among gives (on (links (tables_of s)) p)
      ∙ ap (unless_among gives) (committed-is f s sound.follows p o only)

pub forbidding-law : (first : ℕ) (f : Folds) (s : State) (claims : Keyed PathClaim) (path : List ℕ) → AreSound first f s → AreClaims claims s
    → forbidding s path ≡ guards (maps.get f.links.held path) (maps.get claims path) (phase_in s (maps.get claims path))
forbidding-law first f s claims path sound are = forbidding-is first f s sound path (maps.get claims path) (claims-only s claims (are-apart f s sound.follows.joint) are path)

pub linked-law : (first : ℕ) (f : Folds) (s : State) (claims : Keyed PathClaim) (gives : List LinkRow) (path : List ℕ) → AreSound first f s → AreClaims claims s
    → on (not_among gives (links (tables_of s))) path ≡ unless_among gives (committed_on (maps.get f.links.held path) (maps.get claims path) (phase_in s (maps.get claims path)))
linked-law first f s claims gives path sound are = linked-is first f s sound path gives (maps.get claims path) (claims-only s claims (are-apart f s sound.follows.joint) are path)
