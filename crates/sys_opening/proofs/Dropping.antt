-- THE BRANCHES IN DOUBT, one after another: those that have no commit are dropped.
use Rattle.std.proofs.Common.{◌≡◌, ℕ, arith, List, [], ◌∷◌, ◌++◌, length, Bool, true, false, not, ◌&&◌, cond, map, Option, Some, None, is_none, is_some, refl, sym, ◌∙◌, ap, subst, append_assoc}
use Rattle.std.specs.FinMap as maps
use Rattle.std.specs.List.{filter, flat_map}
use Rattle.db_store.specs.Store.{Database}
use Rattle.dl_areas.specs.Lists.{Write}
use Rattle.dl_areas.specs.Writing.{Does}
use Rattle.dl_base.specs.Outside.{Outside}
use Rattle.dl_base.specs.declared.fault.AppendFault.{AppendFault}
use Rattle.dl_codec.specs.declared.links.BranchPhase.{BranchPhase}
use Rattle.dl_codec.specs.declared.links.BranchPhase.TheVariants as phases
use Rattle.dl_codec.specs.declared.links.LinksRecord.TheVariants as links_records
use Rattle.fm_branch.specs.Table.{doubtful, in_doubt, is_in_doubt}
use Rattle.fm_manager.specs.Managed.{AreSpelled, IsTakenBy, as_writes}
use Rattle.meaning_areas.specs.Branches.{Branch}
use Rattle.meaning_areas.specs.Commits.{commit_of}
use Rattle.meaning_areas.specs.Lists.{Folds, Written, folds_on, in_links}
use Rattle.meaning_areas.specs.Stands.{is_open}
use Rattle.meaning_system.specs.Writes.{open_drop, when}
use Rattle.sys_opening.proofs.Halted.{halts-among}
use Rattle.sys_opening.proofs.Halts.{halts-stop}
use Rattle.sys_opening.proofs.Spelling.{have-append, spelled-have}
use Rattle.sys_opening.proofs.Trying.{tries-all, tries-among}
use Rattle.sys_opening.specs.Faults.{open_fault_of}
use Rattle.sys_opening.specs.Halting.{Halts, HaveSpellings, Tries}
use Rattle.sys_opening.specs.Resolving.{drop_writes}
use Rattle.sys_owners.proofs.InARow.{append-nil, folds-then, taken-first, writes-append}
use Rattle.sys_owners.proofs.Taking.{taken-anywhere}
use Rattle.sys_owners.specs.Owned.{Owned, folds_in, journals_of}

-- what is dropped among some entries is what is dropped among those that are in doubt
drops-in-doubt : (f : Folds) (es : List (ℕ × Branch)) → flat_map (open_drop f) es ≡ flat_map (drop_writes f) (doubtful es)
drops-in-doubt f [] = refl
drops-in-doubt f (e ∷ es) = by (drops-in-doubt f es) e.1.phase
  where
    by : flat_map (open_drop f) es ≡ flat_map (drop_writes f) (map (λ y. y.0) (filter (λ y. is_in_doubt y.1) es)) → (p : BranchPhase)
        → when (is_open p && is_none (commit_of e.0 f.rows.commits)) (in_links (links_records.Aborted e.0) ∷ []) ++ flat_map (open_drop f) es
        ≡ flat_map (drop_writes f) (map (λ y. y.0) (cond (is_open p) (e ∷ filter (λ y. is_in_doubt y.1) es) (filter (λ y. is_in_doubt y.1) es)))
    by rest phases.Prepared = ap (λ (ws : List Written). drop_writes f e.0 ++ ws) rest
    by rest phases.Committed = ap (λ (ws : List Written). drop_writes f e.0 ++ ws) rest
    by rest phases.Done = rest
    by rest phases.Aborted = rest

-- the branches that are not left are dropped
pub record Dropping (w v : Owned) (left : List ℕ) (o n : Outside) : Type 0 where
  pub done : List Written
  pub parts : flat_map (open_drop (folds_in w)) (maps.entries (folds_in w).links.table) ≡ done ++ flat_map (drop_writes (folds_in w)) left
  pub leads : folds_on (Some (folds_in w)) done ≡ Some (folds_in v)
  pub store : v.store ≡ w.store
  pub spelled : HaveSpellings done
  pub does : Does (journals_of w) (journals_of v) (as_writes done) None o n

pub dropping-first : (w : Owned) (o : Outside) → Does (journals_of w) (journals_of w) [] None o o → Dropping w w (in_doubt (folds_in w).links.table) o o
dropping-first w o none = record { done = []; parts = drops-in-doubt (folds_in w) (maps.entries (folds_in w).links.table); leads = refl; store = refl; spelled = tt; does = none }

module _ (w v : Owned) (left : List ℕ) (o n : Outside) (s : Dropping w v left o n) where
  module _ (tx : ℕ) (later : List ℕ) (is : left ≡ tx ∷ later) where
    -- it has a commit in the lists of now exactly where it had one
    dropping-same : drop_writes (folds_in v) tx ≡ drop_writes (folds_in w) tx
    dropping-same = ap (λ (d : Database). when (is_none (commit_of tx d.rows.commits)) (in_links (links_records.Aborted tx) ∷ [])) s.store

    abbrev pub turn : List Written
    turn = drop_writes (folds_in v) tx

    abbrev rest : List Written
    rest = flat_map (drop_writes (folds_in w)) later

    dropping-all : flat_map (open_drop (folds_in w)) (maps.entries (folds_in w).links.table) ≡ (s.done ++ turn) ++ rest
    dropping-all =
        s.parts
        ∙ ap (λ (ts : List ℕ). s.done ++ flat_map (drop_writes (folds_in w)) ts) is
        ∙ ap (λ (ws : List Written). s.done ++ (ws ++ rest)) (sym dropping-same)
        ∙ sym (append_assoc s.done turn rest)

    pub dropping-taken : is_some (folds_on (Some (folds_in w)) (flat_map (open_drop (folds_in w)) (maps.entries (folds_in w).links.table))) ≡ true → is_some (folds_on (Some (folds_in v)) turn) ≡ true
    dropping-taken taken =
        taken-first (folds_in v) turn rest
        (ap is_some (sym (folds-then (folds_in w) (folds_in v) s.done (turn ++ rest) s.leads))
        ∙ ap (λ (ws : List Written). is_some (folds_on (Some (folds_in w)) ws)) (sym (dropping-all ∙ append_assoc s.done turn rest)) ∙ taken)

    module _ (u : Owned) (e : Outside) (then : (ws vs : List Write) (fault : Option AppendFault) → Does (journals_of w) (journals_of v) ws None o n → Does (journals_of v) (journals_of u) vs fault n e → Does (journals_of w) (journals_of u) (ws ++ vs) fault o e) where
      pub dropping-more : folds_on (Some (folds_in v)) turn ≡ Some (folds_in u) → u.store ≡ v.store → AreSpelled turn → Does (journals_of v) (journals_of u) (as_writes turn) None n e → Dropping w u later o e
      dropping-more leads store spelled does = record {
        done = s.done ++ turn;
        parts = dropping-all;
        leads = folds-then (folds_in w) (folds_in v) s.done turn s.leads ∙ leads;
        store = store ∙ s.store;
        spelled = have-append s.done turn s.spelled (spelled-have turn spelled);
        does = subst (λ (ws : List Write). Does (journals_of w) (journals_of u) ws None o e) (sym (writes-append s.done turn)) (then (as_writes s.done) (as_writes turn) None s.does does);
      }

      -- it halts
      pub dropping-halts : ((ws vs : List Write) (fault : AppendFault) → Does (journals_of w) (journals_of u) ws (Some fault) o e → Does (journals_of w) (journals_of u) (ws ++ vs) (Some fault) o e)
          → (fault : AppendFault) → Does (journals_of v) (journals_of u) (as_writes turn) (Some fault) n e
          → Halts (journals_of w) (journals_of u) (as_writes (flat_map (open_drop (folds_in w)) (maps.entries (folds_in w).links.table))) (Some (open_fault_of fault)) o e
      dropping-halts stop fault does =
          halts-among (journals_of w) (journals_of v) (journals_of u) o n e then stop s.done turn rest (flat_map (open_drop (folds_in w)) (maps.entries (folds_in w).links.table)) dropping-all (open_fault_of fault) s.does
          (halts-stop (journals_of v) (journals_of u) (as_writes turn) fault n e does)

      pub dropping-tries : (fault : AppendFault) → AreSpelled turn → Does (journals_of v) (journals_of u) (as_writes turn) (Some fault) n e
          → Tries (journals_of w) (journals_of u) (flat_map (open_drop (folds_in w)) (maps.entries (folds_in w).links.table)) (Some (open_fault_of fault)) o e
      dropping-tries fault spelled does =
          tries-among (journals_of w) (journals_of v) (journals_of u) o n e then s.done turn rest (flat_map (open_drop (folds_in w)) (maps.entries (folds_in w).links.table)) dropping-all (open_fault_of fault) s.spelled s.does
          (tries-all (journals_of v) (journals_of u) n e turn (Some (open_fault_of fault)) (Some fault) (spelled-have turn spelled) does)

  -- none is left
  module _ (end : left ≡ []) where
    all-done : s.done ≡ flat_map (open_drop (folds_in w)) (maps.entries (folds_in w).links.table)
    all-done = sym (append-nil s.done) ∙ ap (λ (ts : List ℕ). s.done ++ flat_map (drop_writes (folds_in w)) ts) (sym end) ∙ sym s.parts

    pub dropping-leads : folds_on (Some (folds_in w)) (flat_map (open_drop (folds_in w)) (maps.entries (folds_in w).links.table)) ≡ Some (folds_in v)
    dropping-leads = ap (folds_on (Some (folds_in w))) (sym all-done) ∙ s.leads

    pub dropping-does : Does (journals_of w) (journals_of v) (as_writes (flat_map (open_drop (folds_in w)) (maps.entries (folds_in w).links.table))) None o n
    dropping-does = subst (λ (xs : List Written). Does (journals_of w) (journals_of v) (as_writes xs) None o n) all-done s.does

    pub dropping-whole : Tries (journals_of w) (journals_of v) (flat_map (open_drop (folds_in w)) (maps.entries (folds_in w).links.table)) None o n
    dropping-whole = tries-all (journals_of w) (journals_of v) o n (flat_map (open_drop (folds_in w)) (maps.entries (folds_in w).links.table)) None None (subst (λ (xs : List Written). HaveSpellings xs) all-done s.spelled) dropping-does

    pub dropping-drawn : v.store.drawn ≡ w.store.drawn
    dropping-drawn = ap (λ (d : Database). d.drawn) s.store

-- none is left where there are none to come
pub no-items : (xs : List ℕ) → length xs ≡ 0 → xs ≡ []
no-items [] none = refl
no-items (x ∷ xs) none = absurd (omega (arith, none))

-- one of them

pub dropped-not : (f : Folds) (tx : ℕ) (b : Bool) → b ≡ is_some (commit_of tx f.rows.commits) → b ≡ true → drop_writes f tx ≡ []
dropped-not f tx b is has = ap (λ (c : Bool). when (not c) (in_links (links_records.Aborted tx) ∷ [])) (sym is ∙ has)

pub dropped-so : (f : Folds) (tx : ℕ) (b : Bool) → b ≡ is_some (commit_of tx f.rows.commits) → b ≡ false → drop_writes f tx ≡ in_links (links_records.Aborted tx) ∷ []
dropped-so f tx b is none = ap (λ (c : Bool). when (not c) (in_links (links_records.Aborted tx) ∷ [])) (sym is ∙ none)

pub dropped-taken : (w : Owned) (tx : ℕ) (b : Bool) → b ≡ is_some (commit_of tx (folds_in w).rows.commits) → b ≡ false → is_some (folds_on (Some (folds_in w)) (drop_writes (folds_in w) tx)) ≡ true → IsTakenBy w.manager (in_links (links_records.Aborted tx) ∷ [])
dropped-taken w tx b is none taken =
    taken-anywhere w.manager w.store.rows w.backups.backups (in_links (links_records.Aborted tx) ∷ []) (tt, tt)
    (ap (λ (ws : List Written). is_some (folds_on (Some (folds_in w)) ws)) (sym (dropped-so (folds_in w) tx b is none)) ∙ taken)
