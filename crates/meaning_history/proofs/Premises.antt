-- What a commit owes to the history behind it, of each prepared transaction without a conflict; and what claims are.
use Rattle.std.proofs.Common.{◌≡◌, ◌≢◌, ◌⊎◌, inl, inr, ⊎_elim, ℕ, ◌+◌, ◌*◌, ◌/◌, ◌^◌, ◌<◌, ◌≤◌, List, [], ◌∷◌, ◌++◌, length, Bool, true, false, not, cond, ◌&&◌, ◌||◌, nat_lt, Option, Some, None, is_some, refl, sym, ◌∙◌, ap, arith}
use Rattle.std.proofs.lemmas.Bool.Decides.{nat_tests}
use Rattle.std.proofs.lemmas.List.Elements.{All-from_recursion}
use Rattle.std.specs.FinMap as maps
use Rattle.std.specs.List.{AllByRecursion, flat_map, list_all, list_any}
use Rattle.dl_base.specs.declared.file.File.{File}
use Rattle.dl_base.specs.declared.step.Phase.{Phase}
use Rattle.dl_base.specs.declared.step.Phase.TheVariants as phases
use Rattle.dl_base.specs.declared.value.LinkRow.{LinkRow}
use Rattle.meaning_areas.specs.Branches.{given_on, is_free}
use Rattle.meaning_areas.specs.Commits.{Commit, commit_of}
use Rattle.meaning_areas.specs.Core as cores
use Rattle.meaning_areas.specs.Core.{Work, decided_in, decided_work}
use Rattle.meaning_areas.specs.Lists.{Folds}
use Rattle.meaning_areas.specs.Same.{same_link}
use Rattle.meaning_areas.specs.Stands.{AreDrawn, past, txs_of}
use Rattle.meaning_areas.proofs.Equal.{row-link-decides}
use Rattle.meaning_areas.proofs.OnPaths.{last-differs}
use Rattle.meaning_areas.proofs.Tables.{commit_of-there, some_same}
use Rattle.meaning_merge.specs.History.{IsTransaction, is_used}
use Rattle.meaning_merge.specs.Touching.{EachLink, In, OnePath, is_in}
use Rattle.meaning_merge.proofs.Committed.{copy-columns, merge-follows, merged_fit}
use Rattle.meaning_merge.proofs.Histories.{past-last}
use Rattle.meaning_merge.proofs.MergeLaws.{merged-moves}
use Rattle.meaning_merge.proofs.Merged.{merges}
use Rattle.meaning_merge.proofs.Numbers.{Distinct, distinct-same, each-in, in-each, number-same}
use Rattle.meaning_merge.proofs.Paths.{differ-one, numbered-in}
use Rattle.meaning_merge.proofs.TableChanges.{changes-merge}
use Rattle.meaning_merge.proofs.Touched.{fits-distinct, merge-touches}
use Rattle.meaning_merge.proofs.Used.{unused-none}
use Rattle.meaning_settling.specs.Apart.{ShareNoPath, has_path}
use Rattle.meaning_settling.specs.Keyed.{is_at}
use Rattle.meaning_settling.specs.Settled.{settled}
use Rattle.meaning_settling.specs.Settling.{Copy, Moved, first_copy, on}
use Rattle.meaning_settling.proofs.KeyedLaws.{is_at-self, or-left, or-right}
use Rattle.meaning_settling.proofs.SettledLaws.{settled-files}
use Rattle.meaning_tables.specs.Links.{links, same_number}
use Rattle.meaning_tables.specs.OptionRows.{is_option_row}
use Rattle.meaning_tables.specs.Tables.{Tables}
use Rattle.meaning_system.specs.Claims.{conflict}
use Rattle.meaning_system.specs.Commands.{decided_gives, prepared_takes}
use Rattle.meaning_system.specs.CoreOf.{core_of, work_by}
use Rattle.meaning_system.specs.Following.{AreClaimed, AreMerged, Follows, HasSessions, HaveFiles, HaveRows, IsClaimed, IsMerged}
use Rattle.meaning_system.specs.Machine.{commit_by, merged_by}
use Rattle.meaning_system.specs.State.{State, Txn, differs, is_active, is_decided, is_doomed, is_prepared, kept_in, moved_of, number_of, tables_of}
use Rattle.meaning_system.proofs.Leading.{prepared-work, works-are}
use Rattle.meaning_system.proofs.Resolved.{Found, entries-found, is-prepared}
use Rattle.meaning_history.specs.Reached.{HasHistory}
use Rattle.meaning_history.specs.Standing.{ClaimStands, ClaimsStand}
use Rattle.meaning_history.proofs.Claims.{gives-has, in-filter, in-on, on-in, takes-has}
use Rattle.meaning_history.proofs.Naming.{current}
use Rattle.meaning_history.proofs.Options.{in-parts, link-rows}

false_true : false ≡ true → ⊥
false_true e = cc

none_some : {A : Type 0} (x : A) → None ≡ Some x → ⊥
none_some x e = cc

-- numbers that have been used were drawn

used-drawn : (first : ℕ) (s : State) (d : Commit) (q : ℕ) → HasHistory first s → d.tx ≤ number_of s → commit_of d.tx s.commits ≡ None → is_used first (s.commits ++ d ∷ []) q ≡ true → q ≤ number_of s
used-drawn first s d q has own new used = by (nat_lt (number_of s) q) refl
  where
    least : (a b : ℕ) → nat_lt a b ≡ false → b ≤ a
    least a b e = grind (arith, nat_tests)

    more : (a b : ℕ) → nat_lt a b ≡ true → a < b
    more a b e = grind (arith, nat_tests)

    not-below : (a b c : ℕ) → a ≤ b → b < c → nat_lt c a ≡ false
    not-below a b c le lt = grind (arith, nat_tests)

    not-own : (a b c : ℕ) → a < b → c ≤ a → b ≡ c → ⊥
    not-own a b c lt le e = omega (arith, lt, le, e)

    by : (b : Bool) → nat_lt (number_of s) q ≡ b → q ≤ number_of s
    by false e = least (number_of s) q e
    by true e =
        let lt = more (number_of s) q e in
        absurd (false_true (sym (ap (λ b. b || is_some (commit_of q (s.commits ++ d ∷ []))) (not-below first (number_of s) q has.drawn lt)
        ∙ ap is_some (commit_of-there d q s.commits new (λ (same : q ≡ d.tx). not-own (number_of s) q d.tx lt own same) ∙ has.commits q lt)) ∙ used))

was-drawn : (first : ℕ) (s : State) (q : ℕ) → HasHistory first s → is_used first s.commits q ≡ true → q ≤ number_of s
was-drawn first s q has used = by (nat_lt (number_of s) q) refl
  where
    least : (a b : ℕ) → nat_lt a b ≡ false → b ≤ a
    least a b e = grind (arith, nat_tests)

    more : (a b : ℕ) → nat_lt a b ≡ true → a < b
    more a b e = grind (arith, nat_tests)

    not-below : (a b c : ℕ) → a ≤ b → b < c → nat_lt c a ≡ false
    not-below a b c le lt = grind (arith, nat_tests)

    by : (b : Bool) → nat_lt (number_of s) q ≡ b → q ≤ number_of s
    by false e = least (number_of s) q e
    by true e =
        let lt = more (number_of s) q e in
        absurd (false_true (sym (ap (λ b. b || is_some (commit_of q s.commits)) (not-below first (number_of s) q has.drawn lt) ∙ ap is_some (has.commits q lt)) ∙ used))

of-opening : (o d q : ℕ) → d < 2 ^ 32 → q ≤ o * 2 ^ 32 + d → q / 2 ^ 32 ≤ o
of-opening o d q small le = omega (arith, small, le)

each-drawn : (opening : ℕ) (ls : List LinkRow) → EachLink ls (λ l. l.link.tx / 2 ^ 32 ≤ opening) → AreDrawn opening ls
each-drawn opening ls each = All-from_recursion (λ (l : LinkRow). l.link.tx / 2 ^ 32 ≤ opening) ls (by ls each)
  where
    by : (ls : List LinkRow) → EachLink ls (λ l. l.link.tx / 2 ^ 32 ≤ opening) → AllByRecursion (λ (l : LinkRow). l.link.tx / 2 ^ 32 ≤ opening) ls
    by [] each = tt
    by (l ∷ ls) each = (each.0, by ls each.1)

each-map : (P Q : LinkRow → Type 0) (ls : List LinkRow) → ((l : LinkRow) → P l → Q l) → EachLink ls P → EachLink ls Q
each-map P Q [] of each = tt
each-map P Q (l ∷ ls) of each = (of l each.0, each-map P Q ls of each.1)

-- A PREPARED TRANSACTION without a conflict
module _ (first : ℕ) (f : Folds) (s : State) (follows : Follows f s) (has : HasHistory first s) (sessions : HasSessions s) (have : HaveFiles s) (tx : ℕ) (t : Txn) (at : maps.get s.txs tx ≡ Some t) (is : t.phase ≡ phases.Prepared)
    (stands : ClaimStands s t) (none : conflict t.base (tables_of s) t.named ≡ None) where
  txn : IsTransaction first s.commits tx t.base t.copy t.named t.next
  txn = has.transactions tx t at (ap is_decided is)

  one : OnePath (links (tables_of s))
  one = differ-one (links (tables_of s)) (last-differs [] s.commits refl follows.joint.whole.paths)

  -- no decided transaction has a path of it
  off-decided : (p : List ℕ) → has_path (moved_of t) p ≡ true → (u : ℕ) (m : Moved) → decided_in (core_of s) u ≡ Some m → has_path m p ≡ false
  off-decided p mine u m decided = by ((core_of s).works u) refl decided
    where
      here : (core_of s).works tx ≡ Some (work_by phases.Prepared (moved_of t))
      here = works-are f s follows tx t at (work_by phases.Prepared (moved_of t)) (prepared-work f s follows tx t at is)

      other : (w : Work) → (core_of s).works u ≡ Some w → cond (cores.is_decided w.stage && w.branch) (Some w.moved) None ≡ Some m → tx ≢ u
      other w there e same =
          let w_is : work_by phases.Prepared (moved_of t) ≡ w = some_same (work_by phases.Prepared (moved_of t)) w (sym here ∙ ap (core_of s).works same ∙ there) in
          none_some m (sym (ap (λ (x : Work). cond (cores.is_decided x.stage && x.branch) (Some x.moved) None) (sym w_is)) ∙ e)

      picked : (w : Work) (b : Bool) → cond b (Some w.moved) None ≡ Some m → w.moved ≡ m
      picked w true e = some_same w.moved m e
      picked w false e = absurd (none_some m e)

      lacks : (w : Work) → ShareNoPath (moved_of t) w.moved → w.moved ≡ m → has_path m p ≡ false
      lacks w apart same = ⊎_elim
          (λ (no : has_path (moved_of t) p ≡ false). absurd (false_true (sym no ∙ mine)))
          (λ (no : has_path w.moved p ≡ false). ap (λ (x : Moved). has_path x p) (sym same) ∙ no)
          (apart p)

      by : (o : Option Work) → (core_of s).works u ≡ o → decided_work o ≡ Some m → has_path m p ≡ false
      by None there e = absurd (none_some m e)
      by (Some w) there e = lacks w (follows.joint.apart tx u (other w there e) (work_by phases.Prepared (moved_of t)) w here there) (picked w (cores.is_decided w.stage && w.branch) e)

  -- so its files are as they will be when those are settled
  same-files : (p : List ℕ) → has_path (moved_of t) p ≡ true → maps.get (settled (decided_in (core_of s)) (txs_of s.commits) (kept_in s)).files p ≡ maps.get s.files p
  same-files p mine = settled-files (decided_in (core_of s)) (txs_of s.commits) (kept_in s) p (λ u m decided. off-decided p mine u m decided)

  backed : (p : List ℕ) (x : LinkRow) → on (moved_of t).takes p ≡ Some x → is_some (maps.get (settled (decided_in (core_of s)) (txs_of s.commits) (kept_in s)).files p) ≡ true
  backed p x found =
      let there = on-in (moved_of t).takes p x found in
      ap is_some (same-files p (ap (has_path (moved_of t)) there.1 ∙ takes-has (moved_of t) x there.0)) ∙ ap (λ q. is_some (maps.get s.files q)) there.1 ∙ have tx t at (ap is_prepared is) x there.0

  -- what it gives has a file
  given-file : (g : LinkRow) → In g (moved_of t).gives → is_some (maps.get s.files g.path) ≡ true
  given-file g there =
      ap is_some (sym (same-files g.path (gives-has (moved_of t) g there))) ∙ follows.joint.whole.files g.path g (in-on (links (tables_of s)) g one (stands.given g there))

  some-copy : (c : Option Copy) (o : Option File) → is_some o ≡ true → is_some (first_copy c o) ≡ true
  some-copy (Some c) o e = refl
  some-copy None (Some x) e = refl
  some-copy None None e = absurd (false_true e)

  own : tx ≤ number_of s
  own = has.numbers tx t at

  new : commit_of tx s.commits ≡ None
  new = unused-none first s.commits tx txn.unused

  pub is-merged : IsMerged s tx t
  is-merged =
      let now = current t.base (tables_of s) t.named none in
      let moves = merged-moves t.base t.copy (tables_of s) (merged_by s t) (merge-touches first s.commits tx t.base t.copy t.named t.next has.history txn now) in
      record {
        changes = changes-merge first s.commits tx t.base t.copy t.named t.next has.history txn now;
        fit = merged_fit first s.commits tx t.base t.copy t.named t.next has.history txn now;
        given = moves.0;
        taken = moves.1;
        merges = merges first s.commits tx t.base t.copy t.named t.next has.history txn now s.backups s.rows_opening s.links_opening
            (settled (decided_in (core_of s)) (txs_of s.commits) (kept_in s)) follows.joint.whole (record { apart = stands.apart; free = stands.free; backed = backed });
        ready = λ n g found recovery. (let there = numbered-in (moved_of t).gives n g found in some-copy (maps.get s.copies n) (maps.get s.files g.path) (given-file g there.0));
        drawn = each-drawn s.rows_opening (links (merged_by s t))
            (each-map (λ l. is_used first (s.commits ++ commit_by s tx t ∷ []) l.link.tx ≡ true) (λ l. l.link.tx / 2 ^ 32 ≤ s.rows_opening) (links (merged_by s t))
            (λ l used. of-opening s.rows_opening s.drawn l.link.tx sessions.few (used-drawn first s (commit_by s tx t) l.link.tx has own new used))
            (merge-follows first s.commits tx t.base t.copy t.named t.next has.history txn now (commit_by s tx t) refl refl).drawn);
      }

pub are-merged : (first : ℕ) (f : Folds) (s : State) → Follows f s → HasHistory first s → HasSessions s → HaveFiles s → ClaimsStand s → AreMerged s
are-merged first f s follows has sessions have stand tx t at waits none =
    let is = is-prepared t.phase waits in
    is-merged first f s follows has sessions have tx t at is (stand tx t at (ap is_decided is) (live is)) none
  where
    live : t.phase ≡ phases.Prepared → is_doomed s t ≡ false
    live is = ap (λ p. is_active p && differs t.seen s.links_opening) is

-- THE CLAIMS of active transactions, as Prepare asks for them
module _ (first : ℕ) (f : Folds) (s : State) (follows : Follows f s) (has : HasHistory first s) (sessions : HasSessions s) (tx : ℕ) (t : Txn) (at : maps.get s.txs tx ≡ Some t) (undecided : is_decided t.phase ≡ false) (stands : ClaimStands s t) where
  links_one : OnePath (links (tables_of s))
  links_one = differ-one (links (tables_of s)) (last-differs [] s.commits refl follows.joint.whole.paths)

  of_history : IsTransaction first s.commits tx t.base t.copy t.named t.next
  of_history = has.transactions tx t at undecided

  distinct : Distinct (links (tables_of s))
  distinct = fits-distinct (tables_of s) (has.history.fit (length s.commits) (tables_of s) (past-last [] s.commits))

  same-link : (g : LinkRow) (ls : List LinkRow) → list_any (same_link g) ls ≡ true → In g ls
  same-link g [] e = absurd (false_true e)
  same-link g (x ∷ xs) e = by (same_link g x) refl e (λ h. same-link g xs h)
    where
      by : (b : Bool) → same_link g x ≡ b → (b || list_any (same_link g) xs) ≡ true → (list_any (same_link g) xs ≡ true → In g xs) → In g (x ∷ xs)
      by true same h rest = inl ((row-link-decides g x).0 same)
      by false same h rest = inr (rest h)

  claim-given : (g : LinkRow) → list_any (same_link g) (moved_of t).gives ≡ true → on (links (tables_of s)) g.path ≡ Some g
  claim-given g e = in-on (links (tables_of s)) g links_one (stands.given g (same-link g (moved_of t).gives e))

  -- a committed link on the path of a take is one that is given
  numbered-gives : (ls : List LinkRow) (h : LinkRow) → is_in ls h ≡ true → (g : LinkRow) × In g ls × (h.link ≡ g.link)
  numbered-gives [] h e = absurd (false_true e)
  numbered-gives (x ∷ xs) h e = by (same_number h.link x.link) refl e (λ k. numbered-gives xs h k)
    where
      by : (b : Bool) → same_number h.link x.link ≡ b → (b || is_in xs h) ≡ true → (is_in xs h ≡ true → (g : LinkRow) × In g xs × (h.link ≡ g.link)) → (g : LinkRow) × In g (x ∷ xs) × (h.link ≡ g.link)
      by true same k rest = (x, inl refl, number-same h.link x.link same)
      by false same k rest = let r = rest k in (r.0, inr r.1, r.2)

  given-there : (gs : List LinkRow) (g : LinkRow) (p : List ℕ) → In g gs → p ≡ g.path → given_on gs p ≡ true
  given-there [] g p is e = absurd is
  given-there (x ∷ xs) g p is e = ⊎_elim
      (λ (here : g ≡ x). or-left (is_at p x.path) (given_on xs p) (ap (λ (y : LinkRow). is_at p y.path) (sym here) ∙ ap (λ q. is_at q g.path) e ∙ is_at-self g.path))
      (λ (later : In g xs). or-right (is_at p x.path) (given_on xs p) (given-there xs g p later e)) is

  free-one : (x : LinkRow) → In x (moved_of t).takes → is_free (on (links (tables_of s)) x.path) (given_on (moved_of t).gives x.path) ≡ true
  free-one x there = by (on (links (tables_of s)) x.path) refl
    where
      by : (o : Option LinkRow) → on (links (tables_of s)) x.path ≡ o → is_free o (given_on (moved_of t).gives x.path) ≡ true
      by None found = refl
      by (Some h) found = given (is_in (moved_of t).gives h) refl
        where
          of : In h (links (tables_of s)) × (x.path ≡ h.path)
          of = on-in (links (tables_of s)) x.path h found

          given : (b : Bool) → is_in (moved_of t).gives h ≡ b → given_on (moved_of t).gives x.path ≡ true
          given true e =
              let g = numbered-gives (moved_of t).gives h e in
              let same : h ≡ g.0 = distinct-same (links (tables_of s)) h g.0 distinct of.0 (stands.given g.0 g.1) g.2 in
              given-there (moved_of t).gives g.0 x.path g.1 (of.1 ∙ ap (λ (y : LinkRow). y.path) same)
          given false e = absurd (false_true (sym (stands.free x h there of.0 e) ∙ ap (λ p. is_at h.path p) of.1 ∙ is_at-self h.path))

  all-free : (ls : List LinkRow) → ((x : LinkRow) → In x ls → is_free (on (links (tables_of s)) x.path) (given_on (moved_of t).gives x.path) ≡ true) → list_all (λ x. is_free (on (links (tables_of s)) x.path) (given_on (moved_of t).gives x.path)) ls ≡ true
  all-free [] each = refl
  all-free (x ∷ xs) each = both-true (is_free (on (links (tables_of s)) x.path) (given_on (moved_of t).gives x.path)) (list_all (λ x. is_free (on (links (tables_of s)) x.path) (given_on (moved_of t).gives x.path)) xs) (each x (inl refl)) (all-free xs (λ y is. each y (inr is)))
    where
      both-true : (a b : Bool) → a ≡ true → b ≡ true → (a && b) ≡ true
      both-true true b e h = h
      both-true false b e h = absurd (false_true e)

  -- numbers
  past-drawn : (n : ℕ) (ts : Tables) (l : LinkRow) → past [] s.commits n ≡ Some ts → In l (links ts) → l.link.tx / 2 ^ 32 ≤ s.rows_opening
  past-drawn n ts l of is = of-opening s.rows_opening s.drawn l.link.tx sessions.few (was-drawn first s l.link.tx has (each-in (λ x. is_used first s.commits x.link.tx ≡ true) (links ts) l (has.history.drawn n ts of) is))

  base-drawn : (l : LinkRow) → In l (links t.base) → l.link.tx / 2 ^ 32 ≤ s.rows_opening
  base-drawn l is = past-drawn of_history.begun.0 t.base l of_history.begun.1 is

  copy-drawn : (l : LinkRow) → In l (links t.copy) → l.link.tx / 2 ^ 32 ≤ s.rows_opening
  copy-drawn l is = ⊎_elim
      (λ (old : In l (links t.base)). base-drawn l old)
      (λ (e : l.link.tx ≡ tx). of-opening s.rows_opening s.drawn l.link.tx sessions.few (let le = has.numbers tx t at in omega (arith, e, le)))
      (each-in (λ x. In x (links t.base) ⊎ (x.link.tx ≡ tx)) (links t.copy) l of_history.drawn is)

  pub is-claimed : IsClaimed s t
  is-claimed = record {
    given = claim-given;
    free = all-free (moved_of t).takes (λ x there. free-one x there);
    drawn = (
      each-drawn s.rows_opening (moved_of t).gives (in-each (λ l. l.link.tx / 2 ^ 32 ≤ s.rows_opening) (moved_of t).gives (λ l is. base-drawn l (in-filter (λ x. not (list_any (λ y. same_number x.link y.link) (links t.copy))) (links t.base) l is).0)),
      each-drawn s.rows_opening (moved_of t).takes (in-each (λ l. l.link.tx / 2 ^ 32 ≤ s.rows_opening) (moved_of t).takes (λ l is. copy-drawn l (in-filter (λ x. not (list_any (λ y. same_number x.link y.link) (links t.base))) (links t.copy) l is).0)),
    );
  }

pub are-claimed : (first : ℕ) (f : Folds) (s : State) → Follows f s → HasHistory first s → HasSessions s → ClaimsStand s → AreClaimed s
are-claimed first f s follows has sessions stand tx t at active live = is-claimed first f s follows has sessions tx t at (undecided t.phase active) (stand tx t at (undecided t.phase active) live)
  where
    undecided : (p : Phase) → is_active p ≡ true → is_decided p ≡ false
    undecided phases.Active e = refl
    undecided phases.Prepared e = refl
    undecided phases.Decided e = absurd (false_true e)
    undecided phases.Finished e = refl
    undecided phases.Dropped e = refl

-- THE LINKS THAT FORBID have options of the seven rows

flat-in : (h : ℕ × Txn → List LinkRow) (at : ℕ → Option Txn) (es : List (ℕ × Txn)) (l : LinkRow) → Found at es → In l (flat_map h es) → (q : ℕ) × (t : Txn) × (at q ≡ Some t) × In l (h (q, t))
flat-in h at [] l found is = absurd is
flat-in h at (e ∷ es) l found is = ⊎_elim
    (λ (a : In l (h e)). (e.0, e.1, found.0, a))
    (λ (b : In l (flat_map h es)). flat-in h at es l found.1 b)
    (in-parts (h e) (flat_map h es) l is)

module _ (first : ℕ) (s : State) (has : HasHistory first s) where
  past-row : (n : ℕ) (ts : Tables) (l : LinkRow) → past [] s.commits n ≡ Some ts → In l (links ts) → is_option_row l.options ≡ true
  past-row n ts l of is = link-rows ts (has.history.columns n ts of) l is

  take-row : (q : ℕ) (t : Txn) (l : LinkRow) → maps.get s.txs q ≡ Some t → In l (prepared_takes (q, t)) → is_option_row l.options ≡ true
  take-row q t l at is = by (is_prepared t.phase) refl is
    where
      undecided : (p : Phase) → is_prepared p ≡ true → is_decided p ≡ false
      undecided phases.Active e = refl
      undecided phases.Prepared e = refl
      undecided phases.Decided e = absurd (false_true e)
      undecided phases.Finished e = refl
      undecided phases.Dropped e = refl

      by : (b : Bool) → is_prepared t.phase ≡ b → In l (cond b (moved_of t).takes []) → is_option_row l.options ≡ true
      by true e there =
          let txn = has.transactions q t at (undecided t.phase e) in
          link-rows t.copy (copy-columns txn.copy_of (has.history.columns txn.begun.0 t.base txn.begun.1)) l (in-filter (λ x. not (list_any (λ y. same_number x.link y.link) (links t.base))) (links t.copy) l there).0
      by false e there = absurd there

  give-row : (q : ℕ) (t : Txn) (l : LinkRow) → maps.get s.txs q ≡ Some t → In l (decided_gives (q, t)) → is_option_row l.options ≡ true
  give-row q t l at is = by (is_decided t.phase) is
    where
      by : (b : Bool) → In l (cond b (moved_of t).gives []) → is_option_row l.options ≡ true
      by true there = let base = has.bases q t at in past-row base.0 t.base l base.1 (in-filter (λ x. not (list_any (λ y. same_number x.link y.link) (links t.copy))) (links t.base) l there).0
      by false there = absurd there

  pub have-rows : HaveRows s
  have-rows p l is =
      let among = (in-filter (λ x. is_at p x.path) (links (tables_of s) ++ flat_map prepared_takes (maps.entries s.txs) ++ flat_map decided_gives (maps.entries s.txs)) l is).0 in
      ⊎_elim
      (λ (a : In l (links (tables_of s) ++ flat_map prepared_takes (maps.entries s.txs))). ⊎_elim
      (λ (b : In l (links (tables_of s))). past-row (length s.commits) (tables_of s) l (past-last [] s.commits) b)
      (λ (b : In l (flat_map prepared_takes (maps.entries s.txs))). (let x = flat-in prepared_takes (maps.get s.txs) (maps.entries s.txs) l (entries-found s.txs) b in take-row x.0 x.1 l x.2 x.3))
      (in-parts (links (tables_of s)) (flat_map prepared_takes (maps.entries s.txs)) l a))
      (λ (a : In l (flat_map decided_gives (maps.entries s.txs))). (let x = flat-in decided_gives (maps.get s.txs) (maps.entries s.txs) l (entries-found s.txs) a in give-row x.0 x.1 l x.2 x.3))
      (in-parts (links (tables_of s) ++ flat_map prepared_takes (maps.entries s.txs)) (flat_map decided_gives (maps.entries s.txs)) l among)
