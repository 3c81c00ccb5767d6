-- What the fold asks of the commit of what a transaction has made.
use Rattle.std.proofs.Common.{◌≡◌, ℕ, ◌+◌, ◌/◌, ◌≤◌, ◌^◌, ◌==◌, ◌&&◌, Bool, true, false, cond, List, [], ◌∷◌, ◌++◌, length, Option, Some, None, is_none, refl, sym, ap, subst, ◌∙◌, arith}
use Rattle.meaning_areas.specs.Commits.{Commit, Commits, commit_of, commit_to, fitting, tables_after, with_commit, with_table_changes}
use Rattle.meaning_merge.specs.Merging.{AreNamed}
use Rattle.meaning_tables.specs.Fits.{fits}
use Rattle.meaning_tables.specs.Tables.{Tables}
use Rattle.dl_codec.specs.declared.rows.TableChange.{TableChange}
use Rattle.std.specs.Option.{unwrap_or}
use Rattle.db_changes.proofs.Naming.{changes-named}
use Rattle.db_changes.specs.Handles.{NewLast}
use Rattle.db_changes.specs.Made.{Making, changes_in}
use Rattle.db_changes.specs.Touched.{AreCommitted}
use Rattle.db_replay.specs.Applying.{are_new, new_in}
use Rattle.db_replay.specs.Changes.{all_at_version, applied}
use Rattle.db_replay.specs.declared.changes.Change.{Change}
use Rattle.db_store.proofs.LogLaws.{after-push, length-commits, none_there}
use Rattle.db_store.proofs.Named.{last-new, version-count, version-last}
use Rattle.db_store.proofs.Versions.{after-committed, changes-committed, push-committed}
use Rattle.db_store.specs.Log.{AllCommitted, commits_from, redone}
use Rattle.db_store.specs.Store.{IsTaken, applied_with, committed_with}
use Rattle.db_store.specs.declared.log.Entry.{Entry}

some-none : {A : Type 0} (t : A) → None ≡ Some t → ⊥
some-none t e = cc

some-same : {A : Type 0} (t u : A) → Some t ≡ Some u → t ≡ u
some-same t u e = cc

-- the tables after the entries of a log have different names

redone-named : (number : ℕ) (before : Tables) (cs : List TableChange) → AreNamed before → AreNamed (redone number before cs)
redone-named number before cs named = by (with_table_changes number before cs) refl
  where
    by : (o : Option Tables) → with_table_changes number before cs ≡ o → AreNamed (unwrap_or o before)
    by None e = named
    by (Some later) e = changes-named number cs before later named e

log-named : (number : ℕ) (before : Tables) (es : List (ℕ × Entry)) → AreNamed before → AreNamed (tables_after before (commits_from number before es))
log-named number before [] named = named
log-named number before (e ∷ es) named = let cs = changes_in e.1.body in log-named (number + 1) (redone number before cs) es (redone-named number before cs named)

module _ (r : Commits) (m : Making) where
  abbrev number : ℕ
  number = length r.commits + 1

  abbrev last : Tables
  last = tables_after [] r.commits

  abbrev hands : List Change
  hands = all_at_version number m.handles

  abbrev leading : Tables → Commits
  leading t = with_commit r (commit_to r.commits m.tx m.branch t)

  taken-by : (b : Bool) (o : Option Tables) → cond b (fitting r m.tx m.branch o) None ≡ Some (leading (applied_with r m)) → (b ≡ true) × (o ≡ Some (applied_with r m))
  taken-by false o e = absurd (some-none (leading (applied_with r m)) e)
  taken-by true None e = absurd (some-none (leading (applied_with r m)) e)
  taken-by true (Some u) e = (refl, by (fits u) e)
    where
      by : (f : Bool) → cond f (Some (leading u)) None ≡ Some (leading (applied_with r m)) → Some u ≡ Some (applied_with r m)
      by false is = absurd (some-none (leading (applied_with r m)) is)
      by true is = ap (λ (t : Tables). Some t) (
          sym (after-push [] r.commits (commit_to r.commits m.tx m.branch u))
          ∙ ap (λ (x : Commits). tables_after [] x.commits) (some-same (leading u) (leading (applied_with r m)) is)
          ∙ after-push [] r.commits (commit_to r.commits m.tx m.branch (applied_with r m)))

  parts : IsTaken r m → (((number == length r.commits + 1) && is_none (commit_of m.tx r.commits) && (m.tx / 2 ^ 32 == r.opening)) ≡ true) × (with_table_changes number last m.changes ≡ Some (applied_with r m))
  parts taken = taken-by ((number == length r.commits + 1) && is_none (commit_of m.tx r.commits) && (m.tx / 2 ^ 32 == r.opening)) (with_table_changes number last m.changes) taken

  -- its transaction has no commit yet
  pub taken_none : IsTaken r m → commit_of m.tx r.commits ≡ None
  taken_none taken = none_there (commit_of m.tx r.commits) (middle (number == length r.commits + 1) (is_none (commit_of m.tx r.commits)) (m.tx / 2 ^ 32 == r.opening) (parts taken).0)
    where
      middle : (a b e : Bool) → (a && b && e) ≡ true → b ≡ true
      middle true true e is = refl
      middle true false e is = cc is
      middle false b e is = cc is

  -- each new table of its handles is new when its turn comes
  taken_new : (es : List (ℕ × Entry)) → r.commits ≡ commits_from 1 [] es → NewLast m.handles → IsTaken r m → are_new last hands ≡ true
  taken_new es is order taken =
      let named : AreNamed last = subst (λ (cs : List Commit). AreNamed (tables_after [] cs)) (sym is) (log-named 1 [] es tt) in
      last-new hands last (version-last number m.handles ∙ order) (changes-named number m.changes last (applied_with r m) named (parts taken).1)

  -- no table behind it was just made
  taken_committed : AllCommitted r.commits → IsTaken r m → AreCommitted (applied_with r m)
  taken_committed each taken = changes-committed number (omega arith) m.changes last (applied_with r m) (after-committed [] r.commits refl each) (parts taken).1

  -- by what is open of a store

  module _ (es : List (ℕ × Entry)) (opening : ℕ) (ended : List ℕ) (is : record { opening = opening; commits = commits_from 1 [] es; ended = ended } ≡ r) (taken : IsTaken r m) where
    same : commits_from 1 [] es ≡ r.commits
    same = ap (λ (x : Commits). x.commits) is

    module _ (was : Tables) (n : ℕ) (hs : List Change) (at : was ≡ tables_after [] (commits_from 1 [] es)) (count : n ≡ length (commits_from 1 [] es)) (made : hs ≡ all_at_version (n + 1) m.handles) where
      hs-is : hs ≡ hands
      hs-is = made ∙ ap (λ (k : ℕ). all_at_version (k + 1) m.handles) (count ∙ ap (λ (cs : List Commit). length cs) same)

      was-is : was ≡ last
      was-is = at ∙ ap (λ (cs : List Commit). tables_after [] cs) same

      pub handles_new : NewLast m.handles → are_new was hs ≡ true
      handles_new order = ap (λ (cs : List Change). are_new was cs) hs-is ∙ ap (λ (ts : Tables). are_new ts hands) was-is ∙ taken_new es (sym same) order taken

      pub handles_few : (most : ℕ) → new_in m.handles ≤ most → new_in hs ≤ most
      handles_few most few = let more = ap new_in made ∙ version-count (n + 1) m.handles in omega (arith, few, more)

      leads : applied was hs ≡ applied_with r m
      leads = ap (λ (cs : List Change). applied was cs) hs-is ∙ ap (λ (ts : Tables). applied ts hands) was-is

      -- its record leads where its handles do
      pub body_leads : (body : List ℕ) → changes_in body ≡ m.changes → with_table_changes (length es + 1) was (changes_in body) ≡ Some (applied was hs)
      body_leads body read =
          let next : length es + 1 ≡ number = omega (arith, length-commits 1 [] es, ap (λ (cs : List Commit). length cs) same) in
          ap (λ (k : ℕ). with_table_changes k was (changes_in body)) next
          ∙ ap (λ (ts : Tables). with_table_changes number ts (changes_in body)) was-is
          ∙ ap (λ (cs : List TableChange). with_table_changes number last cs) read
          ∙ (parts taken).1 ∙ ap (λ (ts : Tables). Some ts) (sym leads)

      module _ (tx : ℕ) (branch : Bool) (more : List Commit) (grown : more ≡ commits_from 1 [] es ++ commit_to (commits_from 1 [] es) tx branch (applied was hs) ∷ []) where
        pub commits_with : tx ≡ m.tx → branch ≡ m.branch → record { opening = opening; commits = more; ended = ended } ≡ committed_with r m
        commits_with tx-is branch-is =
            let cs = commits_from 1 [] es in
            ap (λ (l : List Commit). record { opening = opening; commits = l; ended = ended }) (
            grown
            ∙ ap (λ (x : ℕ). cs ++ commit_to cs x branch (applied was hs) ∷ []) tx-is
            ∙ ap (λ (x : Bool). cs ++ commit_to cs m.tx x (applied was hs) ∷ []) branch-is
            ∙ ap (λ (x : Tables). cs ++ commit_to cs m.tx m.branch x ∷ []) leads)
            ∙ ap (λ (x : Commits). with_commit x (commit_to x.commits m.tx m.branch (applied_with r m))) is

        pub commits_committed : AllCommitted (commits_from 1 [] es) → AllCommitted more
        commits_committed each =
            subst (λ (cs : List Commit). AllCommitted cs) (sym grown)
            (push-committed (commits_from 1 [] es) (commit_to (commits_from 1 [] es) tx branch (applied was hs)) each
            (subst (λ (ts : Tables). AreCommitted ts) (sym leads) (taken_committed (subst (λ (cs : List Commit). AllCommitted cs) same each) taken)))
