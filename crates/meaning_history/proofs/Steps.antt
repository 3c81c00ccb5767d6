-- THE RECORDS OF A STEP lead to its lists, and all that holds between two steps holds behind it.
use Rattle.std.proofs.Common.{◌≡◌, ℕ, ◌+◌, ◌*◌, ◌^◌, ◌<◌, [], ◌∷◌, length, Some, None, refl, sym, ◌∙◌, arith}
use Rattle.std.specs.FinMap.{get-empty}
use Rattle.std.specs.Ordering.{nat_cmp}
use Rattle.dl_base.specs.declared.step.Settings.{Settings}
use Rattle.dl_base.specs.declared.step.Step.{Step}
use Rattle.dl_base.specs.declared.step.Step.TheVariants as steps
use Rattle.dl_base.specs.declared.step.Target.{Target}
use Rattle.meaning_areas.specs.Lists.{Folds}
use Rattle.meaning_areas.specs.Stands.{Stored}
use Rattle.meaning_merge.specs.History.{EachTable}
use Rattle.meaning_merge.proofs.Histories.{ordered-named, ordered-numbered, past-last}
use Rattle.meaning_tables.specs.Tables.{IsNumbered, Tables}
use Rattle.meaning_system.specs.Following.{AreClaimed, AreMerged, AreRestored, AreRising, HaveFiles, HaveFits, HaveNumbers, Leads}
use Rattle.meaning_system.specs.Machine.{start, step}
use Rattle.meaning_system.specs.State.{State, Txn, tables_of}
use Rattle.meaning_system.specs.Writes.{writes}
use Rattle.meaning_system.proofs.Archiving.{leads-archive}
use Rattle.meaning_system.proofs.Claiming.{leads-statement}
use Rattle.meaning_system.proofs.Commanding.{leads-file}
use Rattle.meaning_system.proofs.Decided.{leads-decide}
use Rattle.meaning_system.proofs.Fitting.{fits-numbers}
use Rattle.meaning_system.proofs.Holding.{files-kept}
use Rattle.meaning_system.proofs.Kept.{claims-kept, in-sessions-kept, sessions-kept}
use Rattle.meaning_system.proofs.Leading.{leads-backup, leads-begin, leads-database, leads-finish, leads-manager, leads-prepare, leads-rollback, leads-tick}
use Rattle.meaning_system.proofs.Refolding.{leads-restore}
use Rattle.meaning_system.proofs.Resolved.{leads-resolve}
use Rattle.meaning_history.specs.Reached.{HasHistory}
use Rattle.meaning_history.specs.Sound.{AreSound}
use Rattle.meaning_history.proofs.Keeping.{Stated, history-kept}
use Rattle.meaning_history.proofs.Premises.{are-claimed, are-merged, have-rows}
use Rattle.meaning_history.proofs.Standing.{stand-kept}

pub no-files : (given : Settings) (x : Stored) → HaveFiles (start given x)
no-files given x q t at waits l among = absurd (none_some t (sym (get-empty nat_cmp q) ∙ at))
  where
    none_some : (t : Txn) → None ≡ Some t → ⊥
    none_some t e = cc

rising : (ts : Tables) → EachTable ts (λ t. IsNumbered t.1) → AreRising ts
rising [] each = tt
rising (t ∷ ts) each = (each.0, rising ts each.1)

pub have-fits : (first : ℕ) (s : State) → HasHistory first s → HaveFits s
have-fits first s has = record {
  committed = has.history.fit (length s.commits) (tables_of s) (past-last [] s.commits);
  bases = λ tx t at. (let base = has.bases tx t at in has.history.fit base.0 t.base base.1);
}

small-number : (o d : ℕ) → d + 1 < 2 ^ 32 → o * 2 ^ 32 + d + 1 < (o + 1) * 2 ^ 32
small-number o d lt = omega (arith, lt)

pub merged : (first : ℕ) (f : Folds) (s : State) → AreSound first f s → AreMerged s
merged first f s sound = are-merged first f s sound.follows sound.history sound.sessions sound.files sound.standing

module _ (first : ℕ) (f : Folds) (s : State) (sound : AreSound first f s) (small : s.drawn + 1 < 2 ^ 32) where
  numbers : HaveNumbers s
  numbers = fits-numbers s (have-fits first s sound.history)

  claimed : AreClaimed s
  claimed = are-claimed first f s sound.follows sound.history sound.sessions sound.standing

  pub leads : (x : Step) → ((t : Target) → x ≡ steps.Restore t → AreRestored s t) → Leads f (writes s x) (step s x).1
  leads (steps.Begin session) owed = leads-begin f s session sound.follows (small-number s.rows_opening s.drawn small)
  leads (steps.Statement session stmt) owed = leads-statement f s session stmt sound.follows
  leads (steps.Prepare session) owed = leads-prepare f s session sound.follows claimed
  leads (steps.Decide session) owed = leads-decide f s session sound.follows sound.sessions (merged first f s sound)
  leads (steps.Finish session) owed = leads-finish f s session sound.follows numbers
  leads (steps.Rollback session) owed = leads-rollback f s session sound.follows
  leads (steps.File cmd) owed = leads-file f s cmd sound.follows (have-fits first s sound.history).committed (have-rows first s sound.history)
  leads (steps.Archive n) owed = leads-archive f s n sound.follows (have-fits first s sound.history).committed
  leads steps.Backup owed =
      let ordered = sound.history.history.ordered (length s.commits) (tables_of s) (past-last [] s.commits) in
      leads-backup f s sound.follows (ordered-named (tables_of s) ordered) (rising (tables_of s) (ordered-numbered (tables_of s) ordered))
  leads (steps.Restore t) owed = leads-restore f s t sound.follows sound.in_sessions small (owed t refl)
  leads (steps.Tick n) owed = leads-tick f s n sound.follows
  leads steps.CrashManager owed = leads-manager f s sound.follows sound.claims
  leads steps.CrashDatabase owed = leads-database f s sound.follows sound.claims
  leads steps.Resolve owed = leads-resolve f s sound.follows numbers

  pub sound-kept : Stated → (x : Step) → (owed : (t : Target) → x ≡ steps.Restore t → AreRestored s t) → AreSound first (leads x owed).later (step s x).1
  sound-kept law x owed = record {
    follows = (leads x owed).follows;
    history = history-kept law first s x sound.history sound.sessions;
    claims = claims-kept s x sound.claims;
    sessions = sessions-kept s x sound.sessions small;
    in_sessions = in-sessions-kept s x sound.claims sound.in_sessions;
    files = files-kept f s x sound.follows numbers sound.claims sound.files;
    standing = stand-kept law first f s x sound.follows sound.history sound.claims sound.in_sessions (merged first f s sound) sound.standing;
  }
