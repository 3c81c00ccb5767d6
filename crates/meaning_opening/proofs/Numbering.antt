-- What a commit of a history gives has different numbers: the links after the commit before have.
use Rattle.std.proofs.Common.{◌≡◌, ℕ, suc, ◌==◌, List, [], ◌∷◌, Bool, true, false, cond, Some, None, refl, sym, ◌∙◌, ap, subst}
use Rattle.std.specs.FinMap as maps
use Rattle.std.specs.FinMap.{get-empty}
use Rattle.std.specs.Ordering.{nat_cmp}
use Rattle.dl_base.specs.declared.step.Phase.TheVariants as phases
use Rattle.dl_base.specs.declared.step.Settings.{Settings}
use Rattle.dl_base.specs.declared.value.LinkRow.{LinkRow}
use Rattle.meaning_areas.specs.Commits.{Commit, HaveMoved, commit_of}
use Rattle.meaning_areas.specs.Finishing.{AreNumbered}
use Rattle.meaning_areas.specs.Lists.{Folds}
use Rattle.meaning_areas.specs.Stands.{IsStand, Stored, past}
use Rattle.meaning_system.specs.Following.{HaveFits, HaveNumbers}
use Rattle.meaning_system.specs.State.{State, Txn}
use Rattle.meaning_tables.specs.Fits.{fits}
use Rattle.meaning_tables.specs.Links.{gives}
use Rattle.meaning_tables.specs.Tables.{Tables}
use Rattle.meaning_history.specs.Reached.{HasPast}
use Rattle.meaning_opening.proofs.Completing.{GiveNumbers}
use Rattle.meaning_opening.proofs.Plain.{get-at, get-here, none_some, some_same}

-- WHAT IS PROMISED of transactions on tables that fit
abbrev pub FitsNumber : Type 0
FitsNumber = (s : State) → HaveFits s → HaveNumbers s

abbrev txn : Tables → Tables → Txn
txn base copy = record { base = base; copy = copy; named = []; next = 1; seen = None; phase = phases.Active }

abbrev nobody : maps.FinMap nat_cmp Txn
nobody = maps.empty

-- a state whose only transaction is that one
abbrev settings : Settings
settings = record { server = []; key = []; now = 0; life = 0; limit = 0 }

abbrev alone : Txn → State
alone t = record { commits = []; backups = []; copies = maps.empty; files = maps.empty; moment = 0; settings = settings; rows_opening = 0; links_opening = 0; drawn = 0; txs = maps.insert nobody 0 t; sessions = maps.empty }

gives-numbered : FitsNumber → (base copy : Tables) → fits base ≡ true → AreNumbered (gives base copy)
gives-numbered law base copy fit = law (alone (txn base copy)) (record { committed = refl; bases = bases }) 0 (txn base copy) (get-here nobody 0 (txn base copy))
  where
    bases : (q : ℕ) (t : Txn) → maps.get (maps.insert nobody 0 (txn base copy)) q ≡ Some t → fits t.base ≡ true
    bases q t at = by (q == 0) (sym (get-at nobody 0 (txn base copy) q) ∙ at)
      where
        by : (b : Bool) → cond b (Some (txn base copy)) (maps.get nobody q) ≡ Some t → fits t.base ≡ true
        by true is = ap (λ (u : Txn). fits u.base) (sym (some_same (txn base copy) t is)) ∙ fit
        by false is = absurd (none_some t (sym (get-empty nat_cmp q) ∙ is))

pub commits-number : FitsNumber → (before : Tables) (cs : List Commit) → HaveMoved before cs → ((n : ℕ) (ts : Tables) → past before cs n ≡ Some ts → fits ts ≡ true) → GiveNumbers cs
commits-number law before [] moved fit tx d at = absurd (none_some d at)
commits-number law before (c ∷ cs) moved fit tx d at = by (commits-number law c.tables cs moved.2 (λ n ts is. fit (suc n) ts is) tx d) (c.tx == tx) at
  where
    by : (commit_of tx cs ≡ Some d → AreNumbered d.gives) → (b : Bool) → cond b (Some c) (commit_of tx cs) ≡ Some d → AreNumbered d.gives
    by rest true is = subst (λ (ls : List LinkRow). AreNumbered ls) (sym moved.0 ∙ ap (λ (y : Commit). y.gives) (some_same c d is)) (gives-numbered law before c.tables (fit 0 before refl))
    by rest false is = rest is

-- what the commits gave that lists with a past stand for
pub past-numbers : FitsNumber → (f : Folds) (x : Stored) → IsStand f x → HasPast x → GiveNumbers f.rows.commits
past-numbers law f x stand has = commits-number law [] f.rows.commits stand.compares.moved (λ n ts is. has.history.fit n ts (ap (λ (s : Stored). past [] s.commits n) stand.is ∙ is))
