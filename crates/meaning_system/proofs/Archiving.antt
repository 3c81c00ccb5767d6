-- The record of an Archive leads to the lists of the state behind it.
use Rattle.std.proofs.Common.{◌≡◌, ◌⊎◌, inl, inr, ⊎_elim, ℕ, List, [], ◌∷◌, ◌++◌, Bool, true, false, not, cond, ◌==◌, ◌&&◌, ◌||◌, filter, map, Option, Some, None, is_none, refl, sym, ◌∙◌, ap, subst}
use Rattle.std.specs.Cmp.{unsigned_tied}
use Rattle.std.specs.FinMap as maps
use Rattle.std.specs.FinMap.{find as find_key, get-entries}
use Rattle.std.specs.List.{find, flat_map, list_any}
use Rattle.std.specs.Ordering.{nat_cmp}
use Rattle.dl_base.specs.declared.file.File.{File}
use Rattle.dl_base.specs.declared.step.Phase.{Phase}
use Rattle.dl_base.specs.declared.step.Phase.TheVariants as phases
use Rattle.dl_base.specs.declared.step.Step.TheVariants as steps
use Rattle.dl_base.specs.declared.value.LinkNo.{LinkNo}
use Rattle.dl_base.specs.declared.value.LinkRow.{LinkRow}
use Rattle.dl_codec.specs.declared.archive.ArchiveRecord.TheVariants as archive_records
use Rattle.meaning_areas.specs.Commits.{Commit, tables_after}
use Rattle.meaning_areas.specs.Core.{Work, decided, decided_in}
use Rattle.meaning_areas.specs.Finishing.{file_copy}
use Rattle.meaning_areas.specs.Joint.{Joint}
use Rattle.meaning_areas.specs.Lists.{Folds, in_archive, with_copies}
use Rattle.meaning_areas.specs.Moving.{core_kept_as, with_kept}
use Rattle.meaning_areas.specs.Stands.{IsCommit}
use Rattle.meaning_areas.proofs.Archived.{joint-archived}
use Rattle.meaning_areas.proofs.Equal.{number-same}
use Rattle.meaning_areas.proofs.Tables.{some_same}
use Rattle.meaning_areas.proofs.Taking.{copy-taken}
use Rattle.meaning_areas.proofs.OwnNumbers.{decided-is, decided-of, key-linked, one-number}
use Rattle.meaning_areas.proofs.Untouched.{open-off}
use Rattle.meaning_merge.specs.Touching.{In}
use Rattle.meaning_settling.specs.Apart.{has_key, has_path}
use Rattle.meaning_settling.specs.Keyed.{is_at}
use Rattle.meaning_settling.specs.Settling.{Copies, Moved, copy_of, link_key, numbered, on}
use Rattle.meaning_settling.proofs.KeyedLaws.{is_at-same, is_at-self, or-left, or-right}
use Rattle.meaning_tables.specs.Fits.{differ, fits, rows_fit}
use Rattle.meaning_tables.specs.Links.{links, same_number}
use Rattle.meaning_tables.specs.Tables.{Tables}
use Rattle.meaning_system.specs.CoreOf.{claimed_by, core_of, stage_of, work_at, work_of}
use Rattle.meaning_system.specs.Following.{Follows, Leads}
use Rattle.meaning_system.specs.Machine.{archive_file, archive_on, decided_takes, has_link, pending, step, with_copy}
use Rattle.meaning_system.specs.State.{State, Txn, differs, is_active, is_decided, moved_of, tables_of}
use Rattle.dl_base.specs.Answers.{is_refused}
use Rattle.meaning_system.specs.Writes.{archive_list, copy_list, when, writes}
use Rattle.meaning_system.proofs.Leading.{stays}
use Rattle.meaning_system.proofs.Stepping.{same-self}

false_true : false ≡ true → ⊥
false_true e = cc

both : (a b : Bool) → (a && b) ≡ true → (a ≡ true) × (b ≡ true)
both true b e = (refl, e)
both false b e = absurd (false_true e)

is-false : (b : Bool) → not b ≡ true → b ≡ false
is-false true e = absurd cc
is-false false e = refl

-- what is found in a list

module _ (test : LinkRow → Bool) where
  pub found : (ls : List LinkRow) (l : LinkRow) → find test ls ≡ Some l → (test l ≡ true) × In l ls
  found [] l e = absurd cc
  found (x ∷ xs) l e = by (found xs l) (test x) refl e
    where
      by : (find test xs ≡ Some l → (test l ≡ true) × In l xs) → (b : Bool) → test x ≡ b → cond b (Some x) (find test xs) ≡ Some l → (test l ≡ true) × ((l ≡ x) ⊎ In l xs)
      by rest true passes is = let same = some_same x l is in (sym (ap test same) ∙ passes, inl (sym same))
      by rest false fails is = let later = rest is in (later.0, inr later.1)

  pub some-found : (ls : List LinkRow) (l : LinkRow) → In l ls → test l ≡ true → (t : LinkRow) × (find test ls ≡ Some t)
  some-found [] l is passes = absurd is
  some-found (x ∷ xs) l is passes = by (λ later. some-found xs l later passes) (test x) refl
    where
      by : (In l xs → (t : LinkRow) × (find test xs ≡ Some t)) → (b : Bool) → test x ≡ b → (t : LinkRow) × (cond b (Some x) (find test xs) ≡ Some t)
      by rest true here = (x, refl)
      by rest false there = ⊎_elim
          (λ (e : l ≡ x). absurd (false_true (sym there ∙ sym (ap test e) ∙ passes)))
          (λ (later : In l xs). rest later) is

  kept : (ls : List LinkRow) (l : LinkRow) → In l (filter test ls) → (test l ≡ true) × In l ls
  kept [] l is = absurd is
  kept (x ∷ xs) l is = by (kept xs l) (test x) refl is
    where
      by : (In l (filter test xs) → (test l ≡ true) × In l xs) → (b : Bool) → test x ≡ b → In l (cond b (x ∷ filter test xs) (filter test xs)) → (test l ≡ true) × ((l ≡ x) ⊎ In l xs)
      by rest true passes here = ⊎_elim
          (λ (e : l ≡ x). (ap test e ∙ passes, inl e))
          (λ (later : In l (filter test xs)). let more = rest later in (more.0, inr more.1)) here
      by rest false fails here = let more = rest here in (more.0, inr more.1)

-- links that differ by a key, of which two have the same
module _ {K : Type 0} (key : LinkRow → K) (same : K → K → Bool) (self : (k : K) → same k k ≡ true) where
  has : (z : LinkRow) (xs : List LinkRow) (y : LinkRow) → In y xs → key z ≡ key y → list_any (same (key z)) (map key xs) ≡ true
  has z [] y is e = absurd is
  has z (x ∷ xs) y is e = ⊎_elim
      (λ (here : y ≡ x). or-left (same (key z) (key x)) (list_any (same (key z)) (map key xs)) (ap (same (key z)) (sym (e ∙ ap key here)) ∙ self (key z)))
      (λ (later : In y xs). or-right (same (key z) (key x)) (list_any (same (key z)) (map key xs)) (has z xs y later e)) is

  pub one-only : (ls : List LinkRow) → differ same (map key ls) ≡ true → (x y : LinkRow) → In x ls → In y ls → key x ≡ key y → x ≡ y
  one-only [] d x y in_x in_y e = absurd in_x
  one-only (z ∷ zs) d x y in_x in_y e =
      let two = both (not (list_any (same (key z)) (map key zs))) (differ same (map key zs)) d in
      let never : (w : LinkRow) → In w zs → key z ≡ key w → ⊥ = λ w is same_key. false_true (sym (is-false (list_any (same (key z)) (map key zs)) two.0) ∙ has z zs w is same_key) in
      ⊎_elim
      (λ (here : x ≡ z). ⊎_elim (λ (too : y ≡ z). here ∙ sym too) (λ (later : In y zs). absurd (never y later (sym (ap key here) ∙ e))) in_y)
      (λ (later : In x zs). ⊎_elim (λ (here : y ≡ z). absurd (never x later (sym (ap key here) ∙ sym e))) (λ (too : In y zs). one-only zs two.1 x y later too e) in_y)
      in_x

-- the last commit

last-commit : (t : Tables) (c : Commit) (cs : List Commit) → (x : Commit) × IsCommit x (c ∷ cs) × (x.tables ≡ tables_after t (c ∷ cs))
last-commit t c [] = (c, inl refl, refl)
last-commit t c (d ∷ ds) = let rest = last-commit c.tables d ds in (rest.0, inr rest.1, rest.2)

pub committed-last : (cs : List Commit) (l : LinkRow) → In l (links (tables_after [] cs)) → (x : Commit) × IsCommit x cs × (x.tables ≡ tables_after [] cs)
committed-last [] l is = absurd is
committed-last (c ∷ cs) l is = last-commit [] c cs

-- what a decided transaction takes is not pending

any-more : {A : Type 0} (p : A → Bool) (xs ys : List A) → list_any p (xs ++ ys) ≡ (list_any p xs || list_any p ys)
any-more p [] ys = refl
any-more p (x ∷ xs) ys = by (p x) (any-more p xs ys)
  where
    by : (b : Bool) → list_any p (xs ++ ys) ≡ (list_any p xs || list_any p ys) → (b || list_any p (xs ++ ys)) ≡ ((b || list_any p xs) || list_any p ys)
    by true rest = refl
    by false rest = rest

takes-found : (n : LinkNo) (u : ℕ) (v : Txn) (es : List (ℕ × Txn)) → find_key nat_cmp u es ≡ Some v → has_link n (decided_takes (u, v)) ≡ true → has_link n (flat_map decided_takes es) ≡ true
takes-found n u v [] at takes = absurd cc
takes-found n u v (e ∷ es) at takes = any-more (λ (l : LinkRow). is_at (link_key n) (link_key l.link)) (decided_takes e) (flat_map decided_takes es) ∙ by (λ later. takes-found n u v es later takes) (u == e.0) refl (ap (λ b. cond b (Some e.1) (find_key nat_cmp u es)) (sym (unsigned_tied u e.0)) ∙ at)
  where
    by : (find_key nat_cmp u es ≡ Some v → has_link n (flat_map decided_takes es) ≡ true) → (b : Bool) → (u == e.0) ≡ b → cond b (Some e.1) (find_key nat_cmp u es) ≡ Some v → (has_link n (decided_takes e) || has_link n (flat_map decided_takes es)) ≡ true
    by rest true here is = or-left (has_link n (decided_takes e)) (has_link n (flat_map decided_takes es)) (ap (λ (t : Txn). has_link n (decided_takes (u, t))) (some_same e.1 v is) ∙ takes)
    by rest false there is = or-right (has_link n (decided_takes e)) (has_link n (flat_map decided_takes es)) (rest is)

has-found : (l : LinkRow) (ls : List LinkRow) → In l ls → has_link l.link ls ≡ true
has-found l [] is = absurd is
has-found l (x ∷ xs) is = ⊎_elim
    (λ (e : l ≡ x). or-left (is_at (link_key l.link) (link_key x.link)) (has_link l.link xs) (ap (λ (y : LinkRow). is_at (link_key l.link) (link_key y.link)) (sym e) ∙ is_at-self (link_key l.link)))
    (λ (later : In l xs). or-right (is_at (link_key l.link) (link_key x.link)) (has_link l.link xs) (has-found l xs later)) is

is-decided : (p : Phase) → stage_of p ≡ decided → p ≡ phases.Decided
is-decided phases.Active e = absurd cc
is-decided phases.Prepared e = absurd cc
is-decided phases.Decided e = refl
is-decided phases.Finished e = absurd cc
is-decided phases.Dropped e = absurd cc

-- a decided work is a decided transaction
pub decided-txn : (s : State) (q : ℕ) (m : Moved) → decided_in (core_of s) q ≡ Some m → (t : Txn) × (maps.get s.txs q ≡ Some t) × (is_decided t.phase ≡ true) × (moved_of t ≡ m)
decided-txn s q m e =
    let w = decided-is (core_of s) q m e in
    by w.0 w.2 w.3 (maps.get s.txs q) refl w.1
  where
    by : (w : Work) → w.stage ≡ decided → w.moved ≡ m → (o : Option Txn) → maps.get s.txs q ≡ o → work_at s o ≡ Some w → (t : Txn) × (maps.get s.txs q ≡ Some t) × (is_decided t.phase ≡ true) × (moved_of t ≡ m)
    by w stage moved None at is = absurd cc
    by w stage moved (Some t) at is =
        let same = some_same (work_of s t) w is in
        let phase : t.phase ≡ phases.Decided = is-decided t.phase (ap (λ (x : Work). x.stage) same ∙ stage) in
        (t, at, ap is_decided phase, sym (ap (λ (p : Phase). claimed_by (is_active p && differs t.seen s.links_opening) (moved_of t)) phase) ∙ ap (λ (x : Work). x.moved) same ∙ moved)

-- ARCHIVE
module _ (f : Folds) (s : State) (follows : Follows f s) (fit : fits (tables_of s) ≡ true) (n : LinkNo) (l : LinkRow)
    (at : find (λ (x : LinkRow). is_at (link_key n) (link_key x.link)) (pending s) ≡ Some l) where
  abbrev is_pending : LinkRow → Bool
  is_pending x = x.options.recovery && is_none (maps.get s.copies (link_key x.link)) && not (has_link x.link (flat_map decided_takes (maps.entries s.txs)))

  among : (is_pending l ≡ true) × In l (links (tables_of s))
  among = kept is_pending (links (tables_of s)) l (found (λ (x : LinkRow). is_at (link_key n) (link_key x.link)) (pending s) l at).1

  same-key : link_key n ≡ link_key l.link
  same-key = is_at-same (link_key n) (link_key l.link) (found (λ (x : LinkRow). is_at (link_key n) (link_key x.link)) (pending s) l at).0

  three : (l.options.recovery ≡ true) × (is_none (maps.get s.copies (link_key l.link)) ≡ true) × (has_link l.link (flat_map decided_takes (maps.entries s.txs)) ≡ false)
  three =
      let first = both (l.options.recovery && is_none (maps.get s.copies (link_key l.link))) (not (has_link l.link (flat_map decided_takes (maps.entries s.txs)))) among.0 in
      let second = both l.options.recovery (is_none (maps.get s.copies (link_key l.link))) first.0 in
      (second.0, second.1, is-false (has_link l.link (flat_map decided_takes (maps.entries s.txs))) first.1)

  no-copy : maps.get s.copies (link_key l.link) ≡ None
  no-copy = by (maps.get s.copies (link_key l.link)) three.1
    where
      by : {A : Type 0} (o : Option A) → is_none o ≡ true → o ≡ None
      by None e = refl
      by (Some x) e = absurd cc

  last : (x : Commit) × IsCommit x s.commits × (x.tables ≡ tables_of s)
  last = committed-last s.commits l among.1

  numbers-differ : differ same_number (map (λ (x : LinkRow). x.link) (links (tables_of s))) ≡ true
  numbers-differ = (both (rows_fit (tables_of s)) (differ same_number (map (λ (x : LinkRow). x.link) (links (tables_of s)))) fit).1

  paths-differ : differ is_at (map (λ (x : LinkRow). x.path) (links (tables_of s))) ≡ true
  paths-differ = ap (λ (t : Tables). differ is_at (map (λ (x : LinkRow). x.path) (links t))) (sym last.2) ∙ follows.joint.whole.paths last.0 last.1

  -- a link of the same number, or on the same path, is this one
  same-number : (x : LinkRow) → In x (links (tables_of s)) → link_key x.link ≡ link_key l.link → x ≡ l
  same-number x is e = one-only (λ (y : LinkRow). y.link) same_number same-self (links (tables_of s)) numbers-differ x l is among.1 (number-same x.link l.link e)

  same-path : (x : LinkRow) → In x (links (tables_of s)) → x.path ≡ l.path → x ≡ l
  same-path x is e = one-only (λ (y : LinkRow). y.path) is_at is_at-self (links (tables_of s)) paths-differ x l is among.1 e

  on-path : on (links (tables_of s)) l.path ≡ Some l
  on-path =
      let some = some-found (λ (x : LinkRow). is_at l.path x.path) (links (tables_of s)) l among.1 (is_at-self l.path) in
      let it = found (λ (x : LinkRow). is_at l.path x.path) (links (tables_of s)) some.0 some.1 in
      some.1 ∙ ap (λ (x : LinkRow). Some x) (same-path some.0 it.1 (sym (is_at-same l.path some.0.path it.0)))

  by-number : numbered (links (tables_of s)) (link_key l.link) ≡ Some l
  by-number =
      let some = some-found (λ (x : LinkRow). is_at (link_key l.link) (link_key x.link)) (links (tables_of s)) l among.1 (is_at-self (link_key l.link)) in
      let it = found (λ (x : LinkRow). is_at (link_key l.link) (link_key x.link)) (links (tables_of s)) some.0 some.1 in
      some.1 ∙ ap (λ (x : LinkRow). Some x) (same-number some.0 it.1 (sym (is_at-same (link_key l.link) (link_key some.0.link) it.0)))

  only : (q : List ℕ) (t : LinkRow) → on (links (tables_of s)) q ≡ Some t → is_at (link_key t.link) (link_key l.link) ≡ true → q ≡ l.path
  only q t e same =
      let it = found (λ (x : LinkRow). is_at q x.path) (links (tables_of s)) t e in
      is_at-same q t.path it.0 ∙ ap (λ (x : LinkRow). x.path) (same-number t it.1 (is_at-same (link_key t.link) (link_key l.link) same))

  -- no decided transaction has its path or its number
  not-taken : (q : ℕ) (m : Moved) → decided_in (core_of s) q ≡ Some m → on m.takes l.path ≡ Some l → ⊥
  not-taken q m e takes =
      let t = decided-txn s q m e in
      let among_takes : In l (moved_of t.0).takes = (found (λ (x : LinkRow). is_at l.path x.path) (moved_of t.0).takes l (ap (λ (y : Moved). on y.takes l.path) t.3 ∙ takes)).1 in
      let taken : has_link l.link (decided_takes (q, t.0)) ≡ true = ap (λ b. has_link l.link (cond b (moved_of t.0).takes [])) t.2 ∙ has-found l (moved_of t.0).takes among_takes in
      false_true (sym three.2 ∙ takes-found l.link q t.0 (maps.entries s.txs) (sym (get-entries s.txs q) ∙ t.1) taken)

  on-path-there : on (links (tables_after [] f.rows.commits)) l.path ≡ Some l
  on-path-there = ap (λ (cs : List Commit). on (links (tables_after [] cs)) l.path) follows.joint.commits ∙ on-path

  off : (q : ℕ) (m : Moved) → decided_in (core_of s) q ≡ Some m → (has_path m l.path ≡ false) × (has_key m (link_key l.link) ≡ false)
  off q m e = (no-path, by (has_key m (link_key l.link)) refl)
    where
      no-path : has_path m l.path ≡ false
      no-path = open-off f (core_of s) follows.joint l.path l on-path-there not-taken q m e

      by : (b : Bool) → has_key m (link_key l.link) ≡ b → has_key m (link_key l.link) ≡ false
      by true has_it =
          let d = decided-of f (core_of s) follows.joint q m e in
          let it = key-linked f.rows.commits follows.joint.moved m d.0 d.1 (link_key l.link) has_it in
          let same : it.link ≡ l = one-number f (core_of s) follows.joint it.commit last.0 (link_key l.link) it.link l it.among
          (subst (λ (cs : List Commit). IsCommit last.0 cs) (sym follows.joint.commits) last.1) it.at (ap (λ (x : Tables). numbered (links x) (link_key l.link)) last.2 ∙ by-number) in
          absurd (false_true (sym no-path ∙ ap (λ (x : LinkRow). has_path m x.path) (sym same) ∙ it.path))
      by false lacks = lacks

  archives : (file : File) → maps.get s.files l.path ≡ Some file → Leads f (in_archive (archive_records.Copy (file_copy l file)) ∷ []) (with_copy s n file)
  archives file there =
      let joint = joint-archived f (core_of s) follows.joint l file three.0 there no-copy off last.0 last.1 on-path (ap (λ (t : Tables). numbered (links t) (link_key l.link)) last.2 ∙ by-number) only in
      let P : List ℕ → Type 0 = λ key. Joint (with_kept f s.files (maps.insert s.copies (link_key l.link) (copy_of file))) (core_kept_as (core_of s) s.files (maps.insert s.copies key (copy_of file))) in
      record {
        later = with_kept f s.files (maps.insert s.copies (link_key l.link) (copy_of file));
        taken = ap (with_copies f) (copy-taken f.copies l file (ap (λ (copies : Copies). maps.get copies (link_key l.link)) follows.joint.copies ∙ no-copy))
            ∙ (λ i. Some (with_kept f (follows.joint.files i) (maps.insert (follows.joint.copies i) (link_key l.link) (copy_of file))));
        follows = record { joint = subst P (sym same-key) joint; uncut = follows.uncut };
      }

  by-file : (o : Option File) → maps.get s.files l.path ≡ o → Leads f (when (not (is_refused (archive_file s n o).0)) (copy_list l o)) (archive_file s n o).1
  by-file None there = stays f s follows
  by-file (Some file) there = archives file there

pub leads-archive : (f : Folds) (s : State) (n : LinkNo) → Follows f s → fits (tables_of s) ≡ true → Leads f (writes s (steps.Archive n)) (step s (steps.Archive n)).1
unfolding step writes
leads-archive f s n follows fit = by (find (λ (x : LinkRow). is_at (link_key n) (link_key x.link)) (pending s)) refl
  where
    by : (o : Option LinkRow) → find (λ (x : LinkRow). is_at (link_key n) (link_key x.link)) (pending s) ≡ o → Leads f (when (not (is_refused (archive_on s n o).0)) (archive_list s o)) (archive_on s n o).1
    by None e = stays f s follows
    by (Some l) e = by-file f s follows fit n l e (maps.get s.files l.path) refl
