-- THE PENDING LINKS of a state, by lists that are sound with it: what a decided transaction takes is on a path that it alone claims.
use Rattle.std.proofs.Common.{◌≡◌, ◌⊎◌, inl, inr, ⊎_elim, ℕ, ◌==◌, List, [], ◌∷◌, ◌++◌, Bool, true, false, cond, ◌&&◌, ◌||◌, filter, map, Option, Some, None, refl, sym, ◌∙◌, ap, subst}
use Rattle.std.specs.Cmp.{unsigned_tied}
use Rattle.std.specs.FinMap as maps
use Rattle.std.specs.FinMap.{get-entries}
use Rattle.std.specs.List.{find, flat_map, list_any}
use Rattle.std.specs.Ordering.{nat_cmp}
use Rattle.dl_base.specs.declared.step.Phase.{Phase}
use Rattle.dl_base.specs.declared.step.Phase.TheVariants as phases
use Rattle.dl_base.specs.declared.value.LinkNo.{LinkNo}
use Rattle.dl_base.specs.declared.value.LinkRow.{LinkRow}
use Rattle.fm_links.proofs.Searching.{same-number}
use Rattle.meaning_areas.proofs.Equal.{number-same}
use Rattle.meaning_areas.proofs.OwnNumbers.{decided-of, key-linked, one-number}
use Rattle.meaning_areas.proofs.Tables.{some_same}
use Rattle.meaning_areas.proofs.Untouched.{open-off}
use Rattle.meaning_areas.specs.Commits.{Commit, tables_after}
use Rattle.meaning_areas.specs.Core.{decided_in, decided_work}
use Rattle.meaning_areas.specs.Joint.{Joint}
use Rattle.meaning_areas.specs.Lists.{Folds}
use Rattle.meaning_areas.specs.Stands.{IsCommit}
use Rattle.meaning_history.proofs.Steps.{have-fits}
use Rattle.meaning_history.specs.Sound.{AreSound}
use Rattle.meaning_merge.specs.Touching.{In}
use Rattle.meaning_settling.proofs.KeyedLaws.{any-append, is_at-same, is_at-self, or-left, or-right}
use Rattle.meaning_settling.specs.Apart.{has_key, has_path}
use Rattle.meaning_settling.specs.Keyed.{is_at}
use Rattle.meaning_settling.specs.Settling.{Moved, link_key, numbered, on}
use Rattle.meaning_system.proofs.Archiving.{committed-last, decided-txn, found, one-only, some-found}
use Rattle.meaning_system.proofs.Resolved.{Found}
use Rattle.meaning_system.proofs.Stepping.{same-self}
use Rattle.meaning_system.specs.CoreOf.{claimed_by, core_of, work_at, work_by}
use Rattle.meaning_system.specs.Machine.{decided_takes, has_link}
use Rattle.meaning_system.specs.State.{State, Txn, differs, has_links, is_active, is_decided, moved_of, tables_of}
use Rattle.meaning_tables.specs.Fits.{differ, fits, rows_fit}
use Rattle.meaning_tables.specs.Links.{links, same_number}
use Rattle.meaning_tables.specs.Tables.{Tables}

pub false_true : false ≡ true → ⊥
false_true e = cc

pub none_some : {A : Type 0} (x : A) → None ≡ Some x → ⊥
none_some x e = cc

pub both : (a b : Bool) → (a && b) ≡ true → (a ≡ true) × (b ≡ true)
both true b e = (refl, e)
both false b e = absurd (false_true e)

-- PHASES

pub decided-rests : (p : Phase) → is_decided p ≡ true → (p ≡ phases.Decided) × (is_active p ≡ false)
decided-rests phases.Active e = absurd (false_true e)
decided-rests phases.Prepared e = absurd (false_true e)
decided-rests phases.Decided e = (refl, refl)
decided-rests phases.Finished e = absurd (false_true e)
decided-rests phases.Dropped e = absurd (false_true e)

-- WHAT IS TAKEN

pub path-links : (m : Moved) (p : List ℕ) → has_path m p ≡ true → has_links m ≡ true
path-links m p e = by m.gives m.takes e
  where
    by : (gs ts : List LinkRow) → has_path (record { gives = gs; takes = ts; fill = m.fill }) p ≡ true → has_links (record { gives = gs; takes = ts; fill = m.fill }) ≡ true
    by [] [] e = absurd (false_true e)
    by [] (t ∷ ts) e = refl
    by (g ∷ gs) ts e = refl

key-links : (m : Moved) (k : List ℕ) → has_key m k ≡ true → has_links m ≡ true
key-links m k e = by m.gives m.takes e
  where
    by : (gs ts : List LinkRow) → has_key (record { gives = gs; takes = ts; fill = m.fill }) k ≡ true → has_links (record { gives = gs; takes = ts; fill = m.fill }) ≡ true
    by [] [] e = absurd (false_true e)
    by [] (t ∷ ts) e = refl
    by (g ∷ gs) ts e = refl

any-mapped : (k : List ℕ) (ls : List LinkRow) → list_any (λ l. is_at k (link_key l.link)) ls ≡ list_any (is_at k) (map (λ l. link_key l.link) ls)
any-mapped k [] = refl
any-mapped k (l ∷ ls) = ap (λ b. is_at k (link_key l.link) || b) (any-mapped k ls)

-- a link that is taken has its number among those of the transaction
takes-key : (m : Moved) (n : LinkNo) → has_link n m.takes ≡ true → has_key m (link_key n) ≡ true
takes-key m n has =
    let keys : List LinkRow → List (List ℕ) = λ ls. map (λ (l : LinkRow). link_key l.link) ls in
    any-append (is_at (link_key n)) (keys m.gives) (keys m.takes)
    ∙ or-right (list_any (is_at (link_key n)) (keys m.gives)) (list_any (is_at (link_key n)) (keys m.takes)) (sym (any-mapped (link_key n) m.takes) ∙ has)

has-found : (l : LinkRow) (ls : List LinkRow) → In l ls → has_link l.link ls ≡ true
has-found l [] is = absurd is
has-found l (x ∷ xs) is = ⊎_elim
    (λ (e : l ≡ x). or-left (is_at (link_key l.link) (link_key x.link)) (has_link l.link xs) (ap (λ (y : LinkRow). is_at (link_key l.link) (link_key y.link)) (sym e) ∙ is_at-self (link_key l.link)))
    (λ (later : In l xs). or-right (is_at (link_key l.link) (link_key x.link)) (has_link l.link xs) (has-found l xs later)) is

any-more : {A : Type 0} (p : A → Bool) (xs ys : List A) → list_any p (xs ++ ys) ≡ (list_any p xs || list_any p ys)
any-more p [] ys = refl
any-more p (x ∷ xs) ys = by (p x) (any-more p xs ys)
  where
    by : (b : Bool) → list_any p (xs ++ ys) ≡ (list_any p xs || list_any p ys) → (b || list_any p (xs ++ ys)) ≡ ((b || list_any p xs) || list_any p ys)
    by true rest = refl
    by false rest = rest

-- what is taken by some transaction is taken by a decided one, and the other way round

pub record Taking (n : LinkNo) (at : ℕ → Option Txn) : Type 0 where
  pub tx : ℕ
  pub txn : Txn
  pub there : at tx ≡ Some txn
  pub decides : is_decided txn.phase ≡ true
  pub takes : has_link n (moved_of txn).takes ≡ true

of-decided : (n : LinkNo) (b : Bool) (ls : List LinkRow) → has_link n (cond b ls []) ≡ true → (b ≡ true) × (has_link n ls ≡ true)
of-decided n true ls e = (refl, e)
of-decided n false ls e = absurd (false_true e)

pub taking : (n : LinkNo) (at : ℕ → Option Txn) (es : List (ℕ × Txn)) → Found at es → has_link n (flat_map decided_takes es) ≡ true → Taking n at
taking n at [] found_at e = absurd (false_true e)
taking n at (x ∷ xs) found_at e = by (has_link n (decided_takes x)) refl (sym (any-more (λ (l : LinkRow). is_at (link_key n) (link_key l.link)) (decided_takes x) (flat_map decided_takes xs)) ∙ e) (taking n at xs found_at.1)
  where
    by : (b : Bool) → has_link n (decided_takes x) ≡ b → (b || has_link n (flat_map decided_takes xs)) ≡ true → (has_link n (flat_map decided_takes xs) ≡ true → Taking n at) → Taking n at
    by true here any rest = let two = of-decided n (is_decided x.1.phase) (moved_of x.1).takes here in record { tx = x.0; txn = x.1; there = found_at.0; decides = two.0; takes = two.1 }
    by false there any rest = rest any

none-takes : (n : LinkNo) (es : List (ℕ × Txn)) (u : ℕ) (v : Txn) → maps.find nat_cmp u es ≡ Some v → has_link n (decided_takes (u, v)) ≡ true → has_link n (flat_map decided_takes es) ≡ true
none-takes n [] u v e takes = absurd (none_some v e)
none-takes n (x ∷ xs) u v e takes =
    any-more (λ (l : LinkRow). is_at (link_key n) (link_key l.link)) (decided_takes x) (flat_map decided_takes xs)
    ∙ by (none-takes n xs u v) (u == x.0) (ap (λ b. cond b (Some x.1) (maps.find nat_cmp u xs)) (sym (unsigned_tied u x.0)) ∙ e)
  where
    by : (maps.find nat_cmp u xs ≡ Some v → has_link n (decided_takes (u, v)) ≡ true → has_link n (flat_map decided_takes xs) ≡ true) → (b : Bool) → cond b (Some x.1) (maps.find nat_cmp u xs) ≡ Some v
        → (has_link n (decided_takes x) || has_link n (flat_map decided_takes xs)) ≡ true
    by rest true here = or-left (has_link n (decided_takes x)) (has_link n (flat_map decided_takes xs)) (ap (λ (t : Txn). has_link n (decided_takes (u, t))) (some_same x.1 v here) ∙ takes)
    by rest false there = or-right (has_link n (decided_takes x)) (has_link n (flat_map decided_takes xs)) (rest there takes)

-- lists that are filtered

pub filter-same : (p q : LinkRow → Bool) (ls : List LinkRow) → ((l : LinkRow) → In l ls → p l ≡ q l) → filter p ls ≡ filter q ls
filter-same p q [] same = refl
filter-same p q (l ∷ ls) same = λ i. cond (same l (inl refl) i) (l ∷ filter-same p q ls (λ x is. same x (inr is)) i) (filter-same p q ls (λ x is. same x (inr is)) i)

pub kept : (keep : LinkRow → Bool) (ls : List LinkRow) (l : LinkRow) → In l (filter keep ls) → (keep l ≡ true) × In l ls
kept keep [] l is = absurd is
kept keep (x ∷ xs) l is = by (kept keep xs l) (keep x) refl is
  where
    by : (In l (filter keep xs) → (keep l ≡ true) × In l xs) → (b : Bool) → keep x ≡ b → In l (cond b (x ∷ filter keep xs) (filter keep xs)) → (keep l ≡ true) × ((l ≡ x) ⊎ In l xs)
    by rest true passes here = ⊎_elim
        (λ (e : l ≡ x). (ap keep e ∙ passes, inl e))
        (λ (later : In l (filter keep xs)). let more = rest later in (more.0, inr more.1)) here
    by rest false fails here = let more = rest here in (more.0, inr more.1)

abbrev pub if_kept : (LinkRow → Bool) → Option LinkRow → Option LinkRow
if_kept keep None = None
if_kept keep (Some l) = cond (keep l) (Some l) None

-- where at most one passes the test
pub find-filter : (test keep : LinkRow → Bool) (ls : List LinkRow) → ((x y : LinkRow) → In x ls → In y ls → test x ≡ true → test y ≡ true → x ≡ y) → find test (filter keep ls) ≡ if_kept keep (find test ls)
find-filter test keep [] one = refl
find-filter test keep (x ∷ xs) one = by (keep x) refl (test x) refl (find-filter test keep xs (λ y z in_y in_z. one y z (inr in_y) (inr in_z)))
  where
    rest : Option LinkRow
    rest = find test (filter keep xs)

    -- no other passes
    nobody : test x ≡ true → keep x ≡ false → (o : Option LinkRow) → find test (filter keep xs) ≡ o → o ≡ None
    nobody passes gone None e = refl
    nobody passes gone (Some y) e =
        let it = found test (filter keep xs) y e in
        let two = kept keep xs y it.1 in
        absurd (false_true (sym gone ∙ ap keep (one x y (inl refl) (inr two.1) passes it.0) ∙ two.0))

    by : (k : Bool) → keep x ≡ k → (t : Bool) → test x ≡ t → rest ≡ if_kept keep (find test xs) → find test (cond k (x ∷ filter keep xs) (filter keep xs)) ≡ if_kept keep (cond t (Some x) (find test xs))
    by true stays true passes later = ap (λ b. cond b (Some x) rest) passes ∙ sym (ap (λ b. cond b (Some x) None) stays)
    by true stays false fails later = ap (λ b. cond b (Some x) rest) fails ∙ later
    by false gone true passes later = nobody passes gone rest refl ∙ sym (ap (λ b. cond b (Some x) None) gone)
    by false gone false fails later = later

-- the test of a number as a key

same-equal : (a b : LinkNo) → same_number a b ≡ true → a ≡ b
same-equal a b e =
    let two = both (a.tx == b.tx) (a.k == b.k) e in
    let tx = same-number a.tx b.tx two.0 in
    let k = same-number a.k b.k two.1 in
    λ i. record { tx = tx i; k = k i }

pub key-number : (a b : LinkNo) → is_at (link_key a) (link_key b) ≡ same_number a b
key-number a b = by (is_at (link_key a) (link_key b)) refl (same_number a b) refl
  where
    by : (x : Bool) → is_at (link_key a) (link_key b) ≡ x → (y : Bool) → same_number a b ≡ y → x ≡ y
    by true at true same = refl
    by true at false other = sym (sym other ∙ ap (same_number a) (sym (number-same a b (is_at-same (link_key a) (link_key b) at))) ∙ same-self a)
    by false off true same = sym off ∙ ap (λ (m : LinkNo). is_at (link_key a) (link_key m)) (sym (same-equal a b same)) ∙ is_at-self (link_key a)
    by false off false other = refl

-- LISTS THAT ARE SOUND WITH A STATE
module _ (first : ℕ) (f : Folds) (s : State) (sound : AreSound first f s) where
  abbrev pub all : List LinkRow
  all = links (tables_of s)

  abbrev pub taken : LinkNo → Bool
  taken n = has_link n (flat_map decided_takes (maps.entries s.txs))

  joint : Joint f (core_of s)
  joint = sound.follows.joint

  fit : fits (tables_of s) ≡ true
  fit = (have-fits first s sound.history).committed

  pub numbers-differ : differ same_number (map (λ (x : LinkRow). x.link) all) ≡ true
  numbers-differ = (both (rows_fit (tables_of s)) (differ same_number (map (λ (x : LinkRow). x.link) all)) fit).1

  pub one-link : (x y : LinkRow) → In x all → In y all → link_key x.link ≡ link_key y.link → x ≡ y
  one-link x y in_x in_y e = one-only (λ (z : LinkRow). z.link) same_number same-self all numbers-differ x y in_x in_y (number-same x.link y.link e)

  -- what a decided transaction moves, where it moves something
  moves : (q : ℕ) (t : Txn) → maps.get s.txs q ≡ Some t → is_decided t.phase ≡ true → has_links (moved_of t) ≡ true → decided_in (core_of s) q ≡ Some (moved_of t)
  moves q t at decides has =
      let phase = (decided-rests t.phase decides).0 in
      ap (λ (o : Option Txn). decided_work (work_at s o)) at
      ∙ ap (λ (p : Phase). decided_work (Some (work_by p (claimed_by (is_active p && differs t.seen s.links_opening) (moved_of t))))) phase
      ∙ ap (λ b. cond b (Some (moved_of t)) None) has

  module _ (l : LinkRow) (among : In l all) where
    last : (x : Commit) × IsCommit x s.commits × (x.tables ≡ tables_of s)
    last = committed-last s.commits l among

    paths-differ : differ is_at (map (λ (x : LinkRow). x.path) all) ≡ true
    paths-differ = ap (λ (t : Tables). differ is_at (map (λ (x : LinkRow). x.path) (links t))) (sym last.2) ∙ joint.whole.paths last.0 last.1

    pub on-path : on all l.path ≡ Some l
    on-path =
        let some = some-found (λ (x : LinkRow). is_at l.path x.path) all l among (is_at-self l.path) in
        let it = found (λ (x : LinkRow). is_at l.path x.path) all some.0 some.1 in
        some.1 ∙ ap (λ (x : LinkRow). Some x) (one-only (λ (y : LinkRow). y.path) is_at is_at-self all paths-differ some.0 l it.1 among (sym (is_at-same l.path some.0.path it.0)))

    by-number : numbered all (link_key l.link) ≡ Some l
    by-number =
        let some = some-found (λ (x : LinkRow). is_at (link_key l.link) (link_key x.link)) all l among (is_at-self (link_key l.link)) in
        let it = found (λ (x : LinkRow). is_at (link_key l.link) (link_key x.link)) all some.0 some.1 in
        some.1 ∙ ap (λ (x : LinkRow). Some x) (one-link some.0 l it.1 among (sym (is_at-same (link_key l.link) (link_key some.0.link) it.0)))

    on-path-there : on (links (tables_after [] f.rows.commits)) l.path ≡ Some l
    on-path-there = ap (λ (cs : List Commit). on (links (tables_after [] cs)) l.path) joint.commits ∙ on-path

    -- a transaction that takes its number is on its path
    pub taken-path : (k : Taking l.link (maps.get s.txs)) → has_path (moved_of k.txn) l.path ≡ true
    taken-path k =
        let m = moved_of k.txn in
        let key : has_key m (link_key l.link) ≡ true = takes-key m l.link k.takes in
        let d = decided-of f (core_of s) joint k.tx m (moves k.tx k.txn k.there k.decides (key-links m (link_key l.link) key)) in
        let it = key-linked f.rows.commits joint.moved m d.0 d.1 (link_key l.link) key in
        let same : it.link ≡ l = one-number f (core_of s) joint it.commit last.0 (link_key l.link) it.link l it.among
        (subst (λ (cs : List Commit). IsCommit last.0 cs) (sym joint.commits) last.1) it.at (ap (λ (x : Tables). numbered (links x) (link_key l.link)) last.2 ∙ by-number) in
        ap (λ (x : LinkRow). has_path m x.path) (sym same) ∙ it.path

    not-taken : taken l.link ≡ false → (q : ℕ) (m : Moved) → decided_in (core_of s) q ≡ Some m → on m.takes l.path ≡ Some l → ⊥
    not-taken none q m e takes =
        let t = decided-txn s q m e in
        let among_takes : In l (moved_of t.0).takes = (found (λ (x : LinkRow). is_at l.path x.path) (moved_of t.0).takes l (ap (λ (y : Moved). on y.takes l.path) t.3 ∙ takes)).1 in
        let has : has_link l.link (decided_takes (q, t.0)) ≡ true = ap (λ b. has_link l.link (cond b (moved_of t.0).takes [])) t.2 ∙ has-found l (moved_of t.0).takes among_takes in
        false_true (sym none ∙ none-takes l.link (maps.entries s.txs) q t.0 (sym (get-entries s.txs q) ∙ t.1) has)

    -- and where none takes it, none that is decided is there
    pub off-path : taken l.link ≡ false → (q : ℕ) (m : Moved) → decided_in (core_of s) q ≡ Some m → has_path m l.path ≡ false
    off-path none q m e = open-off f (core_of s) joint l.path l on-path-there (not-taken none) q m e

    pub none-there : taken l.link ≡ false → (q : ℕ) (t : Txn) → maps.get s.txs q ≡ Some t → is_decided t.phase ≡ true → has_path (moved_of t) l.path ≡ true → ⊥
    none-there none q t at decides path = false_true (sym (off-path none q (moved_of t) (moves q t at decides (path-links (moved_of t) l.path path))) ∙ path)
