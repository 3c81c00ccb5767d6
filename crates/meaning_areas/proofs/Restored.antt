-- A RESTORE is Begin, a claim, Prepared, Commit and Finish in one step.
use Rattle.std.proofs.Common.{◌≡◌, ◌≢◌, ⊎_elim, ℕ, ◌+◌, ◌*◌, ◌^◌, ◌<◌, List, [], ◌∷◌, ◌++◌, true, false, Option, Some, None, refl, sym, ◌∙◌, ap, subst, arith}
use Rattle.std.proofs.lemmas.Bool.{cases_eq}
use Rattle.std.specs.FinMap as maps
use Rattle.dl_base.specs.declared.value.LinkRow.{LinkRow}
use Rattle.dl_codec.specs.declared.links.BranchPhase.TheVariants.{Prepared}
use Rattle.meaning_tables.specs.Links.{links, gives, takes}
use Rattle.meaning_settling.specs.Apart.{IsReady}
use Rattle.meaning_settling.specs.Settling.{Moved, on, held_after}
use Rattle.meaning_settling.proofs.SettledLaws.{settled-tests}
use Rattle.meaning_areas.specs.Branches.{branch}
use Rattle.meaning_areas.specs.Commits.{Commit, tables_after}
use Rattle.meaning_areas.specs.Core.{Stage, active, prepared, decided, Work, Core, decided_work, decided_in, core_kept, core_stored, with_work, no_moved}
use Rattle.meaning_areas.specs.Lists.{Folds}
use Rattle.meaning_areas.specs.Joint.{Joint}
use Rattle.meaning_areas.specs.Stands.{txs_of, kept_of, stored_with, AreDrawn, IsWhole}
use Rattle.meaning_areas.proofs.OnPaths.{lacks-none, last-differs}
use Rattle.meaning_areas.proofs.Whole.{in-last}
use Rattle.meaning_areas.proofs.Steps.{work-here, work-there, joint-begun, joint-claimed, joint-prepared, joint-voted, joint-ended}
use Rattle.meaning_areas.proofs.Deciding.{joint-decided, joint-finished}
use Rattle.meaning_areas.specs.Moving.{with_table, with_decision, with_finish, core_with, core_decided, core_finished, core_restored}

-- the works of transactions are all that a core has of them
pub joint-works : (f : Folds) (c : Core) (works : ℕ → Option Work) (drawn : ℕ) → ((q : ℕ) → c.works q ≡ works q) → drawn ≡ c.drawn → Joint f c → Joint f (core_with c works drawn)
joint-works f c works drawn same number joint = subst (Joint f) (λ i. core_with c (λ q. same q i) (sym number i)) joint

abbrev pub restoring : Folds → ℕ → Moved → Folds
restoring f tx m = with_table f (maps.insert f.links.table tx (branch m Prepared))

abbrev pub claimed_core : Core → Moved → Core
claimed_core c m = core_with c (with_work (with_work c.works (c.drawn + 1) (Some (record { stage = active; branch = false; moved = no_moved }))) (c.drawn + 1) (Some (record { stage = active; branch = true; moved = m }))) (c.drawn + 1)

abbrev pub claiming : Core → Moved → Core
claiming c m = core_with c (with_work (with_work (with_work c.works (c.drawn + 1) (Some (record { stage = active; branch = false; moved = no_moved }))) (c.drawn + 1) (Some (record { stage = active; branch = true; moved = m }))) (c.drawn + 1) (Some (record { stage = prepared; branch = true; moved = m }))) (c.drawn + 1)

module _ (f : Folds) (c : Core) (joint : Joint f c) (idle : (q : ℕ) → c.works q ≡ None) (small : c.drawn + 1 < (c.rows_opening + 1) * 2 ^ 32) (m : Moved)
    (given : AreDrawn f.rows.opening m.gives) (taken : AreDrawn f.rows.opening m.takes) where
  alone : (u : ℕ) → u ≢ c.drawn + 1 → with_work c.works (c.drawn + 1) (Some (record { stage = active; branch = false; moved = no_moved })) u ≡ None
  alone u other = work-there c.works (c.drawn + 1) (Some (record { stage = active; branch = false; moved = no_moved })) u other ∙ idle u

  -- behind its claim
  pub restore-claimed : Joint f (claimed_core c m)
  restore-claimed =
      let first : Joint f (core_with c (with_work c.works (c.drawn + 1) (Some (record { stage = active; branch = false; moved = no_moved }))) (c.drawn + 1)) = joint-begun f c joint small in
      let here : with_work c.works (c.drawn + 1) (Some (record { stage = active; branch = false; moved = no_moved })) (c.drawn + 1) ≡ Some (record { stage = active; branch = false; moved = no_moved }) = work-here c.works (c.drawn + 1) (Some (record { stage = active; branch = false; moved = no_moved })) in
      joint-claimed f (core_with c (with_work c.works (c.drawn + 1) (Some (record { stage = active; branch = false; moved = no_moved }))) (c.drawn + 1)) first (c.drawn + 1) (record { stage = active; branch = false; moved = no_moved }) here (record { stage = active; branch = true; moved = m }) refl refl
      (λ u v other is. absurd (none_some v (sym (alone u other) ∙ is))) (λ e. absurd (true_false e))
    where
      none_some : (x : Work) → None ≡ Some x → ⊥
      none_some x e = cc

      true_false : true ≡ false → ⊥
      true_false e = cc

  pub claimed-there : (claimed_core c m).works (c.drawn + 1) ≡ Some (record { stage = active; branch = true; moved = m })
  claimed-there = work-here (with_work c.works (c.drawn + 1) (Some (record { stage = active; branch = false; moved = no_moved }))) (c.drawn + 1) (Some (record { stage = active; branch = true; moved = m }))

  -- behind its Prepared
  pub restore-prepared : Joint (restoring f (c.drawn + 1) m) (claiming c m)
  restore-prepared = joint-prepared f (claimed_core c m) restore-claimed (c.drawn + 1) (record { stage = active; branch = true; moved = m }) claimed-there refl refl given taken

  -- behind its Commit, and behind all
  pub claiming-there : (t : ℕ) → t ≡ c.drawn + 1 → (claiming c m).works t ≡ Some (record { stage = prepared; branch = true; moved = m })
  claiming-there t number = ap (claiming c m).works number ∙ work-here (claimed_core c m).works (c.drawn + 1) (Some (record { stage = prepared; branch = true; moved = m }))

  module _ (d : Commit) (number : d.tx ≡ c.drawn + 1) (flag : d.branch ≡ true) (given_up : d.gives ≡ m.gives) (taken_on : d.takes ≡ m.takes)
      (away : d.gives ≡ gives (tables_after [] c.commits) d.tables) (added : d.takes ≡ takes (tables_after [] c.commits) d.tables)
      (moved : (p : List ℕ) → on (links d.tables) p ≡ held_after m p (on (links (tables_after [] f.rows.commits)) p)) (ready : IsReady m (kept_of f)) (drawn : AreDrawn f.rows.opening (links d.tables))
      (whole : IsWhole (core_stored (core_decided (claiming c m) d (record { stage = prepared; branch = true; moved = m })))) where
    pub restore-committed : Joint (with_decision (restoring f (c.drawn + 1) m) d) (core_decided (claiming c m) d (record { stage = prepared; branch = true; moved = m }))
    restore-committed = joint-decided (restoring f (c.drawn + 1) m) (claiming c m) restore-prepared d (record { stage = prepared; branch = true; moved = m }) (claiming-there d.tx number) refl flag given_up taken_on away added moved ready drawn whole

    pub restore-finished : Joint (with_finish (with_decision (restoring f (c.drawn + 1) m) d) d.tx m) (core_finished (core_decided (claiming c m) d (record { stage = prepared; branch = true; moved = m })) d.tx m)
    restore-finished = joint-finished (with_decision (restoring f (c.drawn + 1) m) d) (core_decided (claiming c m) d (record { stage = prepared; branch = true; moved = m })) restore-committed d.tx (record { stage = decided; branch = true; moved = m })
        (work-here (claiming c m).works d.tx (Some (record { stage = decided; branch = true; moved = m }))) refl refl

-- WITHOUT A BRANCH it is Begin, Prepare, Decide and Finish of a transaction that moves nothing
module _ (f : Folds) (c : Core) (joint : Joint f c) (small : c.drawn + 1 < (c.rows_opening + 1) * 2 ^ 32) (d : Commit) (number : d.tx ≡ c.drawn + 1) (flag : d.branch ≡ false) (given_up : d.gives ≡ []) (taken_on : d.takes ≡ [])
    (same : (p : List ℕ) → on (links d.tables) p ≡ on (links (tables_after [] f.rows.commits)) p) (drawn : AreDrawn f.rows.opening (links d.tables)) (whole : IsWhole (core_stored (core_restored c d))) where
  abbrev plain : Stage → Work
  plain stage = record { stage = stage; branch = false; moved = no_moved }

  abbrev waiting : Core
  waiting = core_with c (with_work (with_work c.works (c.drawn + 1) (Some (plain active))) (c.drawn + 1) (Some (plain prepared))) (c.drawn + 1)

  abbrev committed : Core
  committed = core_decided waiting d (plain prepared)

  first-there : with_work c.works (c.drawn + 1) (Some (plain active)) (c.drawn + 1) ≡ Some (plain active)
  first-there = work-here c.works (c.drawn + 1) (Some (plain active))

  waits : Joint f waiting
  waits = joint-voted f (core_with c (with_work c.works (c.drawn + 1) (Some (plain active))) (c.drawn + 1)) (joint-begun f c joint small) (c.drawn + 1) (plain active) first-there refl refl

  waiting-there : waiting.works d.tx ≡ Some (plain prepared)
  waiting-there = ap waiting.works number ∙ work-here (with_work c.works (c.drawn + 1) (Some (plain active))) (c.drawn + 1) (Some (plain prepared))

  -- it was none of the transactions before, and all others are as they were
  new : c.works d.tx ≡ None
  new = (joint.numbers d.tx (after number)).0
    where
      more : (n : ℕ) → n < n + 1
      more n = omega arith

      after : d.tx ≡ c.drawn + 1 → c.drawn < d.tx
      after e = subst (λ (x : ℕ). c.drawn < x) (sym e) (more c.drawn)

  others : (q : ℕ) → q ≢ d.tx → committed.works q ≡ c.works q
  others q other =
      let not_next : q ≢ c.drawn + 1 = λ (e : q ≡ c.drawn + 1). other (e ∙ sym number) in
      work-there waiting.works d.tx (Some (plain decided)) q other
      ∙ work-there (with_work c.works (c.drawn + 1) (Some (plain active))) (c.drawn + 1) (Some (plain prepared)) q not_next
      ∙ work-there c.works (c.drawn + 1) (Some (plain active)) q not_next

  tests : (q : ℕ) → decided_in committed q ≡ decided_in c q
  tests q = ⊎_elim
      (λ (e : q ≡ d.tx). ap (decided_in committed) e ∙ ap decided_work (work-here waiting.works d.tx (Some (plain decided))) ∙ sym (ap decided_work (ap c.works e ∙ new)))
      (λ (other : q ≢ d.tx). ap decided_work (others q other))
      (cases_eq q d.tx)

  stores : core_stored committed ≡ core_stored (core_restored c d)
  stores = ap (stored_with (c.commits ++ d ∷ []) c.backups c.rows_opening c.links_opening) (settled-tests (decided_in committed) (decided_in c) (txs_of (c.commits ++ d ∷ [])) (core_kept c) (λ t is. tests t))

  -- it takes no link away and adds none
  same-there : (p : List ℕ) → on (links d.tables) p ≡ on (links (tables_after [] c.commits)) p
  same-there p = same p ∙ ap (λ (cs : List Commit). on (links (tables_after [] cs)) p) joint.commits

  away : d.gives ≡ gives (tables_after [] c.commits) d.tables
  away = given_up ∙ sym (lacks-none (links (tables_after [] c.commits)) (links d.tables) (last-differs [] c.commits refl joint.whole.paths) (λ p l at. same-there p ∙ at))

  added : d.takes ≡ takes (tables_after [] c.commits) d.tables
  added = taken_on ∙ sym (lacks-none (links d.tables) (links (tables_after [] c.commits)) (whole.paths d (in-last d c.commits)) (λ p l at. sym (same-there p) ∙ at))

  decides : Joint (with_decision f d) committed
  decides = joint-decided f waiting waits d (plain prepared) waiting-there refl flag given_up taken_on away added same (λ n g e r. absurd (none_some g e)) drawn (subst IsWhole (sym stores) whole)
    where
      none_some : (x : LinkRow) → None ≡ Some x → ⊥
      none_some x e = cc

  pub restore-plain : Joint (with_decision f d) (core_restored c d)
  restore-plain =
      let ends : Joint (with_decision f d) (core_with committed (with_work committed.works d.tx None) committed.drawn) =
      joint-ended (with_decision f d) committed decides d.tx (plain decided) (work-here waiting.works d.tx (Some (plain decided))) refl refl in
      joint-works (with_decision f d) (core_with committed (with_work committed.works d.tx None) committed.drawn) c.works (c.drawn + 1) (λ q. ⊎_elim
      (λ (e : q ≡ d.tx). ap (with_work committed.works d.tx None) e ∙ work-here committed.works d.tx None ∙ sym (ap c.works e ∙ new))
      (λ (other : q ≢ d.tx). work-there committed.works d.tx None q other ∙ others q other)
      (cases_eq q d.tx)) refl ends
