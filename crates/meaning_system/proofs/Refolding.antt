-- The records of a Restore lead to the lists of the state behind it, where the history behind its commit is as it should be.
use Rattle.std.proofs.Common.{◌≡◌, ◌≢◌, ⊎_elim, ℕ, ◌+◌, ◌*◌, ◌/◌, ◌^◌, ◌<◌, ◌==◌, List, [], ◌∷◌, ◌++◌, Bool, true, false, not, cond, ◌&&◌, ◌||◌, filter, length, map, Option, Some, None, is_none, refl, sym, ◌∙◌, ap, subst, arith}
use Rattle.std.proofs.lemmas.Bool.{cases_eq}
use Rattle.std.specs.FinMap as maps
use Rattle.std.specs.FinMap.{find as find_key, get-entries}
use Rattle.std.specs.List.{list_all, list_any}
use Rattle.std.specs.Option.{option_and_then}
use Rattle.std.specs.Ordering.{nat_cmp}
use Rattle.dl_base.specs.declared.step.Step.TheVariants as steps
use Rattle.dl_base.specs.declared.step.Target.{Target}
use Rattle.dl_base.specs.declared.value.LinkRow.{LinkRow}
use Rattle.dl_codec.specs.declared.links.BranchPhase.TheVariants as branch_phases
use Rattle.dl_codec.specs.declared.links.LinksRecord.TheVariants as links_records
use Rattle.dl_codec.specs.declared.rows.RowsRecord.TheVariants as rows_records
use Rattle.meaning_areas.specs.Branches.{branch, fills_stand, given_on, is_free}
use Rattle.meaning_areas.specs.Commits.{Commit, Commits, commit_of, commit_to, fitting, rows_step, tables_after, with_commit, with_table_changes}
use Rattle.meaning_areas.specs.Core.{Core, Work, active, core_stored, decided, decided_in, decided_work, no_moved, prepared, with_work}
use Rattle.meaning_areas.specs.Finishing.{finish_records}
use Rattle.meaning_areas.specs.Joint.{Joint}
use Rattle.meaning_areas.specs.Lists.{Folds, folds_on, folds_step, in_links, in_rows, with_links, with_rows}
use Rattle.meaning_areas.specs.Moving.{IsClaim, core_decided, core_finished, core_restored, with_decision, with_finish}
use Rattle.meaning_areas.specs.Stands.{AreDrawn, IsWhole, kept_of, stored_with, txs_of}
use Rattle.meaning_areas.proofs.Deciding.{settled-decided}
use Rattle.meaning_areas.proofs.FinishList.{finish-joint}
use Rattle.meaning_areas.proofs.Restored.{claimed-there, claimed_core, claiming, claiming-there, restore-claimed, restore-committed, restore-plain, restore-prepared, restoring}
use Rattle.meaning_areas.proofs.Steps.{work-here, work-there}
use Rattle.meaning_areas.proofs.Tables.{get-here, not_none, test-same}
use Rattle.meaning_areas.proofs.Votes.{prepared-accepted}
use Rattle.meaning_areas.proofs.Whole.{whole-decided}
use Rattle.meaning_files.specs.Files.{Files}
use Rattle.meaning_merge.specs.Restoring.{in_the_way, restore_changes, without_lost}
use Rattle.meaning_settling.specs.Apart.{IsReady, has_path}
use Rattle.meaning_settling.specs.Keyed.{is_at}
use Rattle.meaning_settling.specs.Settled.{settled}
use Rattle.meaning_settling.specs.Settling.{Copies, Kept, Moved, held_after, held_by, on, settle_one}
use Rattle.meaning_settling.proofs.KeyedLaws.{any-append, or-right}
use Rattle.meaning_tables.specs.Links.{gives, links, takes}
use Rattle.meaning_tables.specs.Tables.{Tables}
use Rattle.meaning_system.specs.CoreOf.{core_of, work_at}
use Rattle.meaning_system.specs.Following.{AreInSessions, AreRestored, Follows, IsRestored, Leads}
use Rattle.meaning_system.specs.Machine.{drawing, first_key, first_session, is_unfinished, lost_to, next_commit, restore, restore_at, restore_found, restore_idle, restore_moved, restore_to, restored_state, step, target_tables, unfinished}
use Rattle.meaning_system.specs.State.{State, Txn, has_links, is_active, kept_in, number_of, tables_of}
use Rattle.meaning_system.specs.Writes.{restore_by, restore_writes, taken_by, when, writes}
use Rattle.meaning_system.proofs.Claiming.{none-passes}
use Rattle.meaning_system.proofs.Cores.{no-links, settle-empty}
use Rattle.meaning_system.proofs.Kept.{number-present}
use Rattle.meaning_system.proofs.Leading.{all_true, gives-path, stays, uncut-put}
use Rattle.meaning_system.proofs.Resolving.{settled-none}
use Rattle.meaning_system.proofs.Stepping.{next-number}

false_true : false ≡ true → ⊥
false_true e = cc

-- the takes of a restore: all with RECOVERY YES are to be filled, or none

abbrev recoveries : List LinkRow → Bool
recoveries ls = list_any (λ (l : LinkRow). l.options.recovery) ls

links-back : (fill : Bool) (ls : List LinkRow) → map (λ t. t.link) (map (taken_by fill) ls) ≡ ls
links-back fill [] = refl
links-back fill (l ∷ ls) = ap (λ (xs : List LinkRow). l ∷ xs) (links-back fill ls)

fills-all : (ls : List LinkRow) → list_any (λ t. t.fill) (map (taken_by true) ls) ≡ recoveries ls
fills-all [] = refl
fills-all (l ∷ ls) = ap (λ b. l.options.recovery || b) (fills-all ls)

fills-none : (ls : List LinkRow) → list_any (λ t. t.fill) (map (taken_by false) ls) ≡ false
fills-none [] = refl
fills-none (l ∷ ls) = fills-none ls

fills-are : (fill : Bool) (ls : List LinkRow) → fill ≡ recoveries ls → list_any (λ t. t.fill) (map (taken_by fill) ls) ≡ fill
fills-are true ls e = fills-all ls ∙ sym e
fills-are false ls e = fills-none ls

may-fill : (fill r : Bool) → (r || not (fill && r)) ≡ true
may-fill fill true = refl
may-fill true false = refl
may-fill false false = refl

all-may : (fill : Bool) (ls : List LinkRow) → list_all (λ t. t.link.options.recovery || not t.fill) (map (taken_by fill) ls) ≡ true
all-may fill [] = refl
all-may fill (l ∷ ls) = all_true _ _ (may-fill fill l.options.recovery) (all-may fill ls)

or-not : (r : Bool) → (r || not r) ≡ true
or-not true = refl
or-not false = refl

all-filled : (ls : List LinkRow) → list_all (λ t. t.fill || not t.link.options.recovery) (map (taken_by true) ls) ≡ true
all-filled [] = refl
all-filled (l ∷ ls) = all_true _ _ (or-not l.options.recovery) (all-filled ls)

or-first : (a b : Bool) → a ≡ true → (a || b) ≡ true
or-first true b e = refl
or-first false b e = absurd (false_true e)

all-or-none : (fill : Bool) (ls : List LinkRow) → (list_all (λ t. t.fill || not t.link.options.recovery) (map (taken_by fill) ls) || not (list_any (λ t. t.fill) (map (taken_by fill) ls))) ≡ true
all-or-none true ls = or-first _ (not (list_any (λ t. t.fill) (map (taken_by true) ls))) (all-filled ls)
all-or-none false ls = or-right (list_all (λ t. t.fill || not t.link.options.recovery) (map (taken_by false) ls)) _ (ap not (fills-none ls))

fills-stand : (fill : Bool) (ls : List LinkRow) → fills_stand (map (taken_by fill) ls) ≡ true
fills-stand fill ls = all_true _ _ (all-may fill ls) (all-or-none fill ls)

free-back : (fill : Bool) (p : LinkRow → Bool) (ls : List LinkRow) → list_all p ls ≡ true → list_all (λ t. p t.link) (map (taken_by fill) ls) ≡ true
free-back fill p [] e = refl
free-back fill p (l ∷ ls) e = let two = both (p l) (list_all p ls) e in all_true _ _ two.0 (free-back fill p ls two.1)
  where
    both : (a b : Bool) → (a && b) ≡ true → (a ≡ true) × (b ≡ true)
    both true b e = (refl, e)
    both false b e = absurd cc

path-back : (fill : Bool) (p : List ℕ) (ls : List LinkRow) → list_any (λ u. is_at p u.link.path) (map (taken_by fill) ls) ≡ list_any (is_at p) (map (λ l. l.path) ls)
path-back fill p [] = refl
path-back fill p (l ∷ ls) = ap (λ b. is_at p l.path || b) (path-back fill p ls)

takes-path : (fill : Bool) (m : Moved) (p : List ℕ) → list_any (λ u. is_at p u.link.path) (map (taken_by fill) m.takes) ≡ true → has_path m p ≡ true
takes-path fill m p e = any-append (is_at p) (map (λ l. l.path) m.gives) (map (λ l. l.path) m.takes) ∙ or-right (list_any (is_at p) (map (λ l. l.path) m.gives)) _ (sym (path-back fill p m.takes) ∙ e)

-- no transaction is left where a restore is let through

first-none : (es : List (ℕ × ℕ)) → first_key es ≡ None → es ≡ []
first-none [] e = refl
first-none (e ∷ es) none = absurd cc

no-session : (s : State) → first_session s ≡ None → (q : ℕ) → maps.get s.sessions q ≡ None
no-session s none q = get-entries s.sessions q ∙ ap (find_key nat_cmp q) (first-none (maps.entries s.sessions) none)

is-idle : (s : State) → AreInSessions s → first_session s ≡ None → unfinished s ≡ None → (q : ℕ) → maps.get s.txs q ≡ None
is-idle s sessions none all q = by (maps.get s.txs q) refl
  where
    not-false : (b : Bool) → not b ≡ false → b ≡ true
    not-false true e = refl
    not-false false e = absurd cc

    by : (o : Option Txn) → maps.get s.txs q ≡ o → maps.get s.txs q ≡ None
    by None at = at
    by (Some t) at =
        let live : is_active t.phase ≡ true = not-false (is_active t.phase) (none-passes is_unfinished q t (maps.entries s.txs) all (sym (get-entries s.txs q) ∙ at)) in
        let session = sessions q t at live in
        absurd (not_none q (maps.get s.sessions session.0) session.1 (no-session s none session.0))

-- A RESTORE that is let through
module _ (f : Folds) (s : State) (follows : Follows f s) (idle : (q : ℕ) → maps.get s.txs q ≡ None) (small : s.drawn + 1 < 2 ^ 32) (target later : Tables) (owed : IsRestored s target later) where
  abbrev m : Moved
  m = restore_moved s later

  abbrev d : Commit
  d = commit_to s.commits (number_of (drawing s)) (has_links (restore_moved s later)) later

  number : number_of (drawing s) ≡ number_of s + 1
  number = next-number s.rows_opening s.drawn

  idle-works : (q : ℕ) → (core_of s).works q ≡ None
  idle-works q = ap (work_at s) (idle q)

  no-decided : (q : ℕ) → decided_in (core_of s) q ≡ None
  no-decided q = ap decided_work (idle-works q)

  bound : (core_of s).drawn + 1 < ((core_of s).rows_opening + 1) * 2 ^ 32
  bound = less s.rows_opening s.drawn small
    where
      less : (o n : ℕ) → n + 1 < 2 ^ 32 → o * 2 ^ 32 + n + 1 < (o + 1) * 2 ^ 32
      less o n lt = omega arith

  drawn-here : (ls : List LinkRow) → AreDrawn s.rows_opening ls → AreDrawn f.rows.opening ls
  drawn-here ls drawn = subst (λ (n : ℕ). AreDrawn n ls) (sym follows.joint.rows_opening) drawn

  moved-there : (p : List ℕ) → on (links later) p ≡ held_after m p (on (links (tables_after [] f.rows.commits)) p)
  moved-there p = owed.merges.moved p ∙ ap (λ (cs : List Commit). held_after m p (on (links (tables_after [] cs)) p)) (sym follows.joint.commits)

  ready-there : IsReady m (kept_of f)
  ready-there =
      let P : Files → Copies → Type 0 = λ files copies. IsReady m (record { files = files; copies = copies; held = f.links.held }) in
      subst (λ (files : Files). P files f.copies) (sym follows.joint.files) (subst (P s.files) (sym follows.joint.copies) owed.ready)

  -- the stored part behind it
  kept-before : settled (decided_in (core_of s)) (txs_of s.commits) (kept_in s) ≡ kept_in s
  kept-before = settled-none (decided_in (core_of s)) (txs_of s.commits) (kept_in s) no-decided

  whole-before : IsWhole (stored_with s.commits s.backups s.rows_opening s.links_opening (kept_in s))
  whole-before = subst (λ (k : Kept). IsWhole (stored_with s.commits s.backups s.rows_opening s.links_opening k)) kept-before follows.joint.whole

  whole-after : IsWhole (stored_with (s.commits ++ d ∷ []) s.backups s.rows_opening s.links_opening (settle_one m (kept_in s)))
  whole-after = whole-decided s.commits s.backups s.rows_opening s.links_opening (kept_in s) m d whole-before owed.merges owed.ready

  -- its Commit is taken, beside whatever stands in Links
  commit-taken : rows_step f.rows (rows_records.Commit (number_of s + 1) (next_commit s) (has_links m) (restore_changes (tables_of s) target)) ≡ Some (with_commit f.rows d)
  commit-taken =
      let none : commit_of (number_of s + 1) f.rows.commits ≡ None = (follows.joint.numbers (number_of s + 1) (more (number_of s))).1 in
      let present : (number_of s + 1) / 2 ^ 32 ≡ s.rows_opening = ap (λ (n : ℕ). n / 2 ^ 32) (sym number) ∙ number-present s.rows_opening (s.drawn + 1) small in
      let test : ((next_commit s == length f.rows.commits + 1) && is_none (commit_of (number_of s + 1) f.rows.commits) && ((number_of s + 1) / 2 ^ 32 == f.rows.opening)) ≡ true =
      all_true _ _ (all_true _ _ (test-same (next_commit s) (length f.rows.commits + 1) (ap (λ (cs : List Commit). length cs + 1) (sym follows.joint.commits))) (ap is_none none))
      (test-same ((number_of s + 1) / 2 ^ 32) f.rows.opening (present ∙ sym follows.joint.rows_opening)) in
      ap (λ b. cond b (fitting f.rows (number_of s + 1) (has_links m) (with_table_changes (next_commit s) (tables_after [] f.rows.commits) (restore_changes (tables_of s) target))) None) test
      ∙ ap (fitting f.rows (number_of s + 1) (has_links m)) (ap (λ (cs : List Commit). with_table_changes (next_commit s) (tables_after [] cs) (restore_changes (tables_of s) target)) follows.joint.commits ∙ owed.changes)
      ∙ ap (λ b. cond b (Some (with_commit f.rows (commit_to f.rows.commits (number_of s + 1) (has_links m) later))) None) owed.fit
      ∙ (λ i. Some (with_commit f.rows (commit_to (follows.joint.commits i) (sym number i) (has_links m) later)))
    where
      more : (n : ℕ) → n < n + 1
      more n = omega arith

  -- WITHOUT A BRANCH
  plain : has_links m ≡ false → Leads f (in_rows (rows_records.Commit (number_of s + 1) (next_commit s) (has_links m) (restore_changes (tables_of s) target)) ∷ []) (restored_state s later)
  plain none =
      let two = no-links m none in
      let stores : core_stored (core_restored (core_of s) d) ≡ stored_with (s.commits ++ d ∷ []) s.backups s.rows_opening s.links_opening (settle_one m (kept_in s)) =
      ap (stored_with (s.commits ++ d ∷ []) s.backups s.rows_opening s.links_opening) (settled-none (decided_in (core_of s)) (txs_of (s.commits ++ d ∷ [])) (kept_in s) no-decided ∙ sym (settle-empty m (kept_in s) none)) in
      let joint : Joint (with_decision f d) (core_restored (core_of s) d) = restore-plain f (core_of s) follows.joint bound d number none two.0 two.1
      (λ p. moved-there p ∙ (λ i. held_by (on (two.0 i) p) (on (two.1 i) p) (on (links (tables_after [] f.rows.commits)) p)))
      (drawn-here (links later) owed.drawn) (subst IsWhole (sym stores) whole-after) in
      let same : core_restored (core_of s) d ≡ core_of (restored_state s later) = λ i. record {
        commits = s.commits ++ d ∷ [];
        files = (sym (settle-empty m (kept_in s) none) i).files;
        copies = (sym (settle-empty m (kept_in s) none) i).copies;
        backups = s.backups;
        rows_opening = s.rows_opening;
        links_opening = s.links_opening;
        works = (core_of s).works;
        drawn = sym number i;
      } in
      record { later = with_decision f d; taken = ap (with_rows f) commit-taken; follows = record { joint = subst (Joint (with_decision f d)) same joint; uncut = follows.uncut } }

  -- WITH A BRANCH
  module _ (branched : has_links m ≡ true) where
    abbrev waits : Work
    waits = record { stage = prepared; branch = true; moved = m }

    abbrev first : Folds
    first = restoring f (number_of s + 1) m

    abbrev second : Folds
    second = with_decision first d

    abbrev behind : Core
    behind = core_decided (claiming (core_of s) m) d waits

    claim : Joint f (claimed_core (core_of s) m)
    claim = restore-claimed f (core_of s) follows.joint idle-works bound m (drawn-here m.gives owed.moved_drawn.0) (drawn-here m.takes owed.moved_drawn.1)

    stands : IsClaim (claimed_core (core_of s) m) m (map (taken_by m.fill) m.takes)
    stands = record {
      given = owed.given;
      free = free-back m.fill (λ l. is_free (on (links (tables_of s)) l.path) (given_on m.gives l.path)) m.takes owed.free;
      fills = fills-stand m.fill m.takes;
      is = λ i. record { gives = m.gives; takes = links-back m.fill m.takes i; fill = fills-are m.fill m.takes refl i };
    }

    prepared-taken : folds_step f (in_links (links_records.Prepared (number_of s + 1) m.gives (map (taken_by m.fill) m.takes))) ≡ Some first
    prepared-taken = ap (with_links f) (prepared-accepted f (claimed_core (core_of s) m) claim (number_of s + 1) (record { stage = active; branch = true; moved = m })
        (claimed-there f (core_of s) follows.joint idle-works bound m (drawn-here m.gives owed.moved_drawn.0) (drawn-here m.takes owed.moved_drawn.1)) refl (map (taken_by m.fill) m.takes) stands
        (λ g has. gives-path m g has) (λ u has. takes-path m.fill m u.link.path has))

    waiting : Joint first (claiming (core_of s) m)
    waiting = restore-prepared f (core_of s) follows.joint idle-works bound m (drawn-here m.gives owed.moved_drawn.0) (drawn-here m.takes owed.moved_drawn.1)

    waiting-there : (claiming (core_of s) m).works (number_of (drawing s)) ≡ Some waits
    waiting-there = claiming-there f (core_of s) follows.joint idle-works bound m (drawn-here m.gives owed.moved_drawn.0) (drawn-here m.takes owed.moved_drawn.1) (number_of (drawing s)) number

    none-decided : (q : ℕ) → decided_in (claiming (core_of s) m) q ≡ None
    none-decided q = ⊎_elim
        (λ (e : q ≡ number_of s + 1). ap decided_work (ap (claiming (core_of s) m).works (e ∙ sym number) ∙ waiting-there))
        (λ (other : q ≢ number_of s + 1). ap decided_work (work-there (claimed_core (core_of s) m).works (number_of s + 1) (Some waits) q other
        ∙ work-there (with_work (core_of s).works (number_of s + 1) (Some (record { stage = active; branch = false; moved = no_moved }))) (number_of s + 1) (Some (record { stage = active; branch = true; moved = m })) q other
        ∙ work-there (core_of s).works (number_of s + 1) (Some (record { stage = active; branch = false; moved = no_moved })) q other ∙ idle-works q))
        (cases_eq q (number_of s + 1))

    whole-behind : IsWhole (core_stored behind)
    whole-behind =
        let P : List Commit → Type 0 = λ cs. settled (decided_in behind) (txs_of (cs ++ d ∷ [])) (kept_in s) ≡ settle_one m (settled (decided_in (claiming (core_of s) m)) (txs_of cs) (kept_in s)) in
        let one = subst P follows.joint.commits (settled-decided first (claiming (core_of s) m) waiting d waits waiting-there refl branched refl refl (kept_in s)) in
        subst IsWhole (ap (stored_with (s.commits ++ d ∷ []) s.backups s.rows_opening s.links_opening) (sym (one ∙ ap (settle_one m) (settled-none (decided_in (claiming (core_of s) m)) (txs_of s.commits) (kept_in s) none-decided)))) whole-after

    decides : Joint second behind
    decides = restore-committed f (core_of s) follows.joint idle-works bound m (drawn-here m.gives owed.moved_drawn.0) (drawn-here m.takes owed.moved_drawn.1) d number branched refl refl refl refl moved-there ready-there (drawn-here (links later) owed.drawn) whole-behind

    finish-there : behind.works (number_of s + 1) ≡ Some (record { stage = decided; branch = true; moved = m })
    finish-there = ap behind.works (sym number) ∙ work-here (claiming (core_of s) m).works (number_of (drawing s)) (Some (record { stage = decided; branch = true; moved = m }))

    finishes : (folds_on (Some second) (finish_records (number_of s + 1) branch_phases.Prepared m (kept_of second)) ≡ Some (with_finish second (number_of s + 1) m)) × Joint (with_finish second (number_of s + 1) m) (core_finished behind (number_of s + 1) m)
    finishes = finish-joint second behind (number_of s + 1) (record { stage = decided; branch = true; moved = m }) decides finish-there refl refl (get-here f.links.table (number_of s + 1) (branch m branch_phases.Prepared)) owed.numbers

    same-core : core_finished behind (number_of s + 1) m ≡ core_of (restored_state s later)
    same-core = λ i. record {
      commits = s.commits ++ d ∷ [];
      files = (settle_one m (kept_in s)).files;
      copies = (settle_one m (kept_in s)).copies;
      backups = s.backups;
      rows_opening = s.rows_opening;
      links_opening = s.links_opening;
      works = λ q. works q i;
      drawn = sym number i;
    }
      where
        works : (q : ℕ) → with_work behind.works (number_of s + 1) None q ≡ (core_of (restored_state s later)).works q
        works q = ⊎_elim
            (λ (e : q ≡ number_of s + 1). ap (with_work behind.works (number_of s + 1) None) e ∙ work-here behind.works (number_of s + 1) None ∙ sym (idle-works q))
            (λ (other : q ≢ number_of s + 1). work-there behind.works (number_of s + 1) None q other
            ∙ work-there (claiming (core_of s) m).works (number_of (drawing s)) (Some (record { stage = decided; branch = true; moved = m })) q (λ (e : q ≡ number_of (drawing s)). other (e ∙ number))
            ∙ work-there (claimed_core (core_of s) m).works (number_of s + 1) (Some waits) q other
            ∙ work-there (with_work (core_of s).works (number_of s + 1) (Some (record { stage = active; branch = false; moved = no_moved }))) (number_of s + 1) (Some (record { stage = active; branch = true; moved = m })) q other
            ∙ work-there (core_of s).works (number_of s + 1) (Some (record { stage = active; branch = false; moved = no_moved })) q other)
            (cases_eq q (number_of s + 1))

    same-records : finish_records (number_of s + 1) branch_phases.Prepared m (kept_in s) ≡ finish_records (number_of s + 1) branch_phases.Prepared m (kept_of second)
    same-records = λ i. finish_records (number_of s + 1) branch_phases.Prepared m (record { files = sym follows.joint.files i; copies = sym follows.joint.copies i; held = f.links.held })

    branched-leads : Leads f (in_links (links_records.Prepared (number_of s + 1) m.gives (map (taken_by m.fill) m.takes)) ∷ in_rows (rows_records.Commit (number_of s + 1) (next_commit s) (has_links m) (restore_changes (tables_of s) target)) ∷ finish_records (number_of s + 1) branch_phases.Prepared m (kept_in s)) (restored_state s later)
    branched-leads = record {
      later = with_finish second (number_of s + 1) m;
      taken = ap (λ (o : Option Folds). folds_on (option_and_then (λ (g : Folds). folds_step g (in_rows (rows_records.Commit (number_of s + 1) (next_commit s) (has_links m) (restore_changes (tables_of s) target)))) o) (finish_records (number_of s + 1) branch_phases.Prepared m (kept_in s))) prepared-taken
          ∙ ap (λ (o : Option Commits). folds_on (with_rows first o) (finish_records (number_of s + 1) branch_phases.Prepared m (kept_in s))) commit-taken
          ∙ ap (folds_on (Some second)) same-records
          ∙ finishes.0;
      follows = record {
        joint = subst (Joint (with_finish second (number_of s + 1) m)) same-core finishes.1;
        uncut = uncut-put (maps.insert f.links.table (number_of s + 1) (branch m branch_phases.Prepared)) (number_of s + 1) (branch m branch_phases.Done) refl (uncut-put f.links.table (number_of s + 1) (branch m branch_phases.Prepared) refl follows.uncut);
      };
    }

  restores : Leads f (restore_by s (number_of (drawing s)) target later) (restored_state s later)
  restores =
      let P : ℕ → Type 0 = λ n. Leads f (restore_by s n target later) (restored_state s later) in
      subst P (sym number) (by (has_links m) refl)
    where
      by : (b : Bool) → has_links (restore_moved s later) ≡ b
          → Leads f (when b (in_links (links_records.Prepared (number_of s + 1) m.gives (map (taken_by m.fill) m.takes)) ∷ [])
          ++ in_rows (rows_records.Commit (number_of s + 1) (next_commit s) (has_links m) (restore_changes (tables_of s) target)) ∷ when b (finish_records (number_of s + 1) branch_phases.Prepared m (kept_in s))) (restored_state s later)
      by true has = branched-leads has
      by false none = plain none

pub leads-restore : (f : Folds) (s : State) (t : Target) → Follows f s → AreInSessions s → s.drawn + 1 < 2 ^ 32 → AreRestored s t → Leads f (writes s (steps.Restore t)) (step s (steps.Restore t)).1
unfolding step writes
leads-restore f s t follows sessions small owed = by (first_session s) refl
  where
    at : ((n : ℕ) → maps.get s.txs n ≡ None) → (target : Tables) → (o : Option (List ℕ)) → (o ≡ None → IsRestored s (without_lost (lost_to s target) target) (restore_to s target)) → Leads f (restore_writes s (Some target) (restore_at s target o).0) (restore_at s target o).1
    at idle target (Some path) owes = stays f s follows
    at idle target None owes = restores f s follows idle small (without_lost (lost_to s target) target) (restore_to s target) (owes refl)

    with_target : first_session s ≡ None → unfinished s ≡ None → (o : Option Tables) → target_tables s t ≡ o → Leads f (restore_writes s o (restore_found s t o).0) (restore_found s t o).1
    with_target none all None is = stays f s follows
    with_target none all (Some target) is = at (is-idle s sessions none all) target (in_the_way s.files s.copies (gives (tables_of s) target) (filter (λ l. not (lost_to s target l)) (takes (tables_of s) target))) (owed target none all is)

    idle_at : first_session s ≡ None → (o : Option (ℕ × Txn)) → unfinished s ≡ o → Leads f (restore_writes s (target_tables s t) (restore_idle s t o).0) (restore_idle s t o).1
    idle_at none (Some e) is = stays f s follows
    idle_at none None is = with_target none is (target_tables s t) refl

    by : (o : Option ℕ) → first_session s ≡ o → Leads f (restore_writes s (target_tables s t) (restore s t o).0) (restore s t o).1
    by (Some session) is = stays f s follows
    by None is = idle_at is (unfinished s) refl
