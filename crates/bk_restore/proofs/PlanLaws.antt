-- A plan over the owners of a state is what the machine's restore does there.
use Rattle.std.proofs.Common.{◌≡◌, ℕ, zero, suc, List, [], not, filter, slice_get, Option, Some, None, Result, IfOk, refl, sym, ◌∙◌, ap, subst}
use Rattle.std.specs.List.{list_any}
use Rattle.std.specs.Option.{option_map}
use Rattle.bk_backup.specs.Saved.{Saved}
use Rattle.bk_losing.proofs.WayLaws.{way-lost}
use Rattle.bk_restore.specs.Handles.{restore_handles}
use Rattle.bk_restore.specs.Planning.{HasOwned, IsPlanOf, IsPlanned, IsPlannedTo, tables_at}
use Rattle.bk_restore.specs.declared.planning.Planned.{Planned}
use Rattle.bk_restore.specs.declared.planning.Planned.TheVariants as planned
use Rattle.bk_restore.specs.declared.planning.RestorePlan.{RestorePlan}
use Rattle.bk_restore.proofs.Leading.{handles-lead, links-lead}
use Rattle.bk_restore.proofs.Ordering.{handles-last}
use Rattle.db_changes.specs.Handles.{NewLast}
use Rattle.db_replay.specs.Changes.{all_at_version, applied}
use Rattle.db_replay.specs.declared.changes.Change.{Change}
use Rattle.db_store.specs.Store.{Database}
use Rattle.dl_base.specs.declared.answer.Answer.TheVariants as answers
use Rattle.dl_base.specs.declared.answer.Lost.{Lost}
use Rattle.dl_base.specs.declared.answer.Refusal.{Refusal}
use Rattle.dl_base.specs.declared.step.Target.{Target}
use Rattle.dl_base.specs.declared.step.Target.TheVariants as targets
use Rattle.dl_base.specs.declared.value.LinkRow.{LinkRow}
use Rattle.fm_archive.specs.Stock.{Stock}
use Rattle.fs_files.specs.Store.{Catalog}
use Rattle.meaning_areas.specs.Commits.{Commit, tables_after}
use Rattle.meaning_areas.specs.Copies.{Backup}
use Rattle.meaning_files.specs.Files.{Files}
use Rattle.meaning_merge.specs.Merging.{AreNamed}
use Rattle.meaning_merge.specs.Restoring.{in_the_way, is_lost, lost_cells, restore_changes, restored_tables, without_lost}
use Rattle.meaning_system.specs.Machine.{lost_to, next_commit, restore_at, restore_found, restore_idle, restore_to, restored_state, tables_in, target_tables, unfinished}
use Rattle.meaning_system.specs.State.{State, Txn, tables_of}
use Rattle.meaning_tables.specs.Links.{gives, lacking, links, takes}
use Rattle.meaning_tables.specs.Tables.{Tables}

-- the tables of a target are those of the state

in-backup : (o : Option Backup) → tables_in o ≡ option_map (λ b. b.tables) o
in-backup None = refl
in-backup (Some b) = refl

target-at : (s : State) (t : Target) → target_tables s t ≡ tables_at s.commits s.backups t
target-at s (targets.Backup zero) = refl
target-at s (targets.Backup (suc n)) = in-backup (slice_get s.backups n)
target-at s (targets.Commit n) = refl

-- what the handles are is what their commit makes

pub plan-of : (committed later : Tables) (lost : List Lost) (p : RestorePlan) (hs : List Change) → AreNamed committed
    → p.lost ≡ lost → p.changes ≡ restore_changes committed later → p.handles ≡ hs → hs ≡ restore_handles committed later
    → p.gives ≡ gives committed (applied committed hs) → p.takes ≡ takes committed (applied committed hs) → p.fill ≡ list_any (λ t. t.options.recovery) p.takes → IsPlanOf committed later lost p
plan-of committed later lost p hs named lost_is changes_is handles_is made gives_is takes_is fill_is = record {
  lost_cells = lost_is;
  changes = changes_is;
  handles = λ c. ap (λ (cs : List Change). applied committed (all_at_version c cs)) (handles_is ∙ made) ∙ handles-lead committed later named c;
  last = subst (λ (cs : List Change). NewLast cs) (sym (handles_is ∙ made)) (handles-last committed later);
  gives = λ c. gives_is ∙ ap (λ (ls : List LinkRow). lacking (links committed) ls) (behind c);
  takes = λ c. takes_is ∙ ap (λ (ls : List LinkRow). lacking ls (links committed)) (behind c);
  fill = fill_is;
}
  where
    behind : (c : ℕ) → links (applied committed hs) ≡ links (restored_tables committed later c)
    behind c = ap (λ (cs : List Change). links (applied committed cs)) made ∙ links-lead committed later named c

pub plan-same : {E : Type 0} (committed later other : Tables) (lost others : List Lost) (r : Result RestorePlan E) → later ≡ other → lost ≡ others → IfOk r (IsPlanOf committed later lost) → IfOk r (IsPlanOf committed other others)
plan-same {E} committed later other lost others r same same_lost is =
    subst (λ (ls : List Lost). IfOk r (IsPlanOf committed other ls)) same_lost (subst (λ (ts : Tables). IfOk r (IsPlanOf committed ts lost)) same is)

-- a plan over these commits and files
abbrev over : Tables → RestorePlan → List Commit → Files → Type 0
over target p cs fs = IsPlanOf (tables_after [] cs) (without_lost (is_lost fs (takes (tables_after [] cs) target)) target) (lost_cells (is_lost fs (takes (tables_after [] cs) target)) target) p

-- THE MACHINE, where no transaction is prepared or decided

idle-free : (s : State) (t : Target) (o : Option (ℕ × Txn)) → option_map (λ e. e.0) o ≡ None → restore_idle s t o ≡ restore_found s t (target_tables s t)
idle-free s t None e = refl
idle-free s t (Some e) is = absurd cc

module _ (s : State) (t : Target) (d : Database) (b : Saved) (f : Catalog) (a : Stock) where
  module _ (of : HasOwned s d b f a None) (at : Option Tables) (is : at ≡ tables_at d.rows.commits b.backups t) where
    found : target_tables s t ≡ at
    found = target-at s t ∙ (λ i. tables_at (of.commits i) (of.backups i) t) ∙ sym is

    idle : restore_idle s t (unfinished s) ≡ restore_found s t at
    idle = idle-free s t (unfinished s) of.waits ∙ ap (restore_found s t) found

    module _ (target : Tables) (some : at ≡ Some target) where
      -- what is in the way in the state
      abbrev way : Option (List ℕ)
      way = in_the_way s.files s.copies (gives (tables_of s) target) (filter (λ l. not (lost_to s target l)) (takes (tables_of s) target))

      way-is : (o : Option (List ℕ)) → in_the_way f.files a.copies (gives (tables_after [] d.rows.commits) target) (takes (tables_after [] d.rows.commits) target) ≡ o → way ≡ o
      way-is o e =
          way-lost s.files s.copies (gives (tables_of s) target) (takes (tables_of s) target) (takes (tables_of s) target)
          ∙ (λ i. in_the_way (of.files i) (of.copies i) (gives (tables_after [] (of.commits i)) target) (takes (tables_after [] (of.commits i)) target)) ∙ e

      restores-at : restore_idle s t (unfinished s) ≡ restore_at s target way
      restores-at = idle ∙ ap (restore_found s t) some

      pub is-planned : (p : Planned) → IsPlannedTo (tables_after [] d.rows.commits) f.files a.copies target p → IsPlanned s t p
      is-planned (planned.Refused why) (path, blocked, is_why) =
          restores-at ∙ ap (restore_at s target) (way-is (Some path) blocked) ∙ ap (λ (r : Refusal). (answers.Refused r, s)) (sym is_why)
      is-planned (planned.Ready p) (clear, plan) = (
        target,
        found ∙ some,
        restores-at ∙ ap (restore_at s target) (way-is None clear) ∙ ap (λ (ls : List Lost). (answers.Restored (next_commit s) ls, restored_state s (restore_to s target))) (sym here.lost_cells),
        here,
      )
        where
          here : IsPlanOf (tables_of s) (without_lost (lost_to s target) target) (lost_cells (lost_to s target) target) p
          here = subst (over target p s.commits) (sym of.files) (subst (λ (cs : List Commit). over target p cs f.files) (sym of.commits) plan)
