-- A stop of one side leaves the other.
use Rattle.std.proofs.Common.{◌≡◌, ℕ, ◌+◌, ◌≤◌, ◌==◌, ◌&&◌, [], ◌∷◌, Bool, true, false, not, cond, Option, Some, None, refl, sym, ◌∙◌, ap, subst, arith}
use Rattle.std.proofs.lemmas.Bool.Decides.{nat_tests}
use Rattle.std.specs.FinMap as maps
use Rattle.std.specs.FinMap.{get-empty, get-retain_keys, nat_cmp-IsAntisymmetric}
use Rattle.std.specs.Ordering.{nat_cmp}
use Rattle.std.specs.declared.cmp.Ordering.TheVariants.{Equal}
use Rattle.dl_base.specs.declared.step.Step.TheVariants as steps
use Rattle.dl_codec.specs.declared.links.LinksRecord.TheVariants as links_records
use Rattle.dl_codec.specs.declared.rows.RowsRecord.TheVariants as rows_records
use Rattle.meaning_areas.specs.Lists.{in_links, in_rows}
use Rattle.meaning_settling.proofs.KeyedLaws.{false_true}
use Rattle.meaning_system.proofs.Kept.{bound-was}
use Rattle.meaning_system.specs.CoreOf.{HasClaims, Seen}
use Rattle.meaning_system.specs.Machine.{crash_database, is_bound, step}
use Rattle.meaning_system.specs.State.{State, Txn, differs, is_active, is_doomed, moved_of}
use Rattle.meaning_system.specs.Writes.{writes}
use Rattle.meaning_promises.specs.Stops.{HasSameDatabase, HasSameManager}

-- OF THE FILE MANAGER

pub manager-stops : (s : State) → HasSameDatabase s (step s steps.CrashManager).1
unfolding step
manager-stops s = record { commits = refl; backups = refl; opening = refl; drawn = refl; sessions = λ session. refl; transactions = λ tx. refl }

pub manager-keeps : (s : State) → ((step s steps.CrashManager).1.files ≡ s.files) × ((step s steps.CrashManager).1.copies ≡ s.copies)
unfolding step
manager-keeps s = (refl, refl)

pub manager-writes : (s : State) → writes s steps.CrashManager ≡ in_links (links_records.Opening (step s steps.CrashManager).1.links_opening) ∷ []
unfolding step writes
manager-writes s = refl

pub manager-opens : (s : State) → (step s steps.CrashManager).1.links_opening ≡ s.links_opening + 1
unfolding step
manager-opens s = refl

pub database-opens : (s : State) → (step s steps.CrashDatabase).1.rows_opening ≡ s.rows_opening + 1
unfolding step
database-opens s = refl

not-next : (n now : ℕ) → n ≤ now → not (n == now + 1) ≡ true
not-next n now le = grind (arith, nat_tests)

pub dooms : (s : State) → HasClaims s → (tx n : ℕ) (t : Txn) → maps.get s.txs tx ≡ Some t → is_active t.phase ≡ true → t.seen ≡ Some n → is_doomed (step s steps.CrashManager).1 t ≡ true
unfolding step
dooms s claims tx n t at active seen =
    let le : n ≤ s.links_opening = subst (λ (o : Option ℕ). Seen o s.links_opening (moved_of t)) seen (claims.seen tx t at) in
    (λ i. active i && differs (seen i) (s.links_opening + 1)) ∙ not-next n s.links_opening le

-- OF THE DATABASE

same-bound : (s : State) (q x : ℕ) → nat_cmp q x ≡ Equal → is_bound (maps.get s.txs x) ≡ is_bound (maps.get s.txs q)
same-bound s q x e = ap (λ (n : ℕ). is_bound (maps.get s.txs n)) (sym (nat_cmp-IsAntisymmetric q x e))

behind : (s : State) (q : ℕ) → maps.get (crash_database s).txs q ≡ cond (is_bound (maps.get s.txs q)) (maps.get s.txs q) None
behind s q = get-retain_keys s.txs (λ tx. is_bound (maps.get s.txs tx)) q (same-bound s q)

voted-stay : (s : State) (tx : ℕ) (t : Txn) → maps.get s.txs tx ≡ Some t → is_active t.phase ≡ false → maps.get (crash_database s).txs tx ≡ Some t
voted-stay s tx t at voted = behind s tx ∙ ap (λ (b : Bool). cond b (maps.get s.txs tx) None) (ap is_bound at ∙ ap not voted) ∙ at

pub database-stops : (s : State) → HasSameManager s (step s steps.CrashDatabase).1
unfolding step
database-stops s = record { files = refl; copies = refl; opening = refl; voted = voted-stay s }

pub database-keeps : (s : State) → ((step s steps.CrashDatabase).1.commits ≡ s.commits) × ((step s steps.CrashDatabase).1.backups ≡ s.backups)
unfolding step
database-keeps s = (refl, refl)

pub database-writes : (s : State) → writes s steps.CrashDatabase ≡ in_rows (rows_records.Opening (step s steps.CrashDatabase).1.rows_opening) ∷ []
unfolding step writes
database-writes s = refl

pub no-sessions : (s : State) (session : ℕ) → maps.get (step s steps.CrashDatabase).1.sessions session ≡ None
unfolding step
no-sessions s session = get-empty nat_cmp session

-- no active transaction is there
bound : (s : State) (q : ℕ) (t : Txn) → maps.get (crash_database s).txs q ≡ Some t → is_bound (maps.get s.txs q) ≡ true
bound s q t at = by (is_bound (maps.get s.txs q)) (sym (behind s q) ∙ at)
  where
    by : (b : Bool) → cond b (maps.get s.txs q) None ≡ Some t → b ≡ true
    by true e = refl
    by false e = absurd cc

idle : (b : Bool) → not b ≡ true → b ≡ false
idle true e = absurd (false_true e)
idle false e = refl

pub voted-alone : (s : State) (tx : ℕ) (t : Txn) → maps.get (step s steps.CrashDatabase).1.txs tx ≡ Some t → (maps.get s.txs tx ≡ Some t) × (is_active t.phase ≡ false)
unfolding step
voted-alone s tx t at = let was = bound-was s tx t at in (was, idle (is_active t.phase) (sym (ap is_bound was) ∙ bound s tx t at))
