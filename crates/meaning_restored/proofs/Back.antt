-- WHAT A RESTORE BRINGS BACK.
use Rattle.std.proofs.Common.{◌≡◌, ⊎_elim, ℕ, ◌+◌, ◌^◌, ◌<◌, ◌&&◌, List, [], Bool, true, false, not, length, Option, Some, None, is_none, is_some, refl, sym, ◌∙◌, ap, subst}
use Rattle.std.specs.FinMap as maps
use Rattle.std.specs.List.{list_any}
use Rattle.std.specs.Option.{option_map}
use Rattle.dl_base.specs.declared.answer.Answer.TheVariants as answers
use Rattle.dl_base.specs.declared.answer.Lost.{Lost}
use Rattle.dl_base.specs.declared.file.File.{File}
use Rattle.dl_base.specs.declared.step.Step.{Step}
use Rattle.dl_base.specs.declared.step.Step.TheVariants as steps
use Rattle.dl_base.specs.declared.step.Target.{Target}
use Rattle.dl_base.specs.declared.step.Target.TheVariants as targets
use Rattle.dl_base.specs.declared.value.LinkRow.{LinkRow}
use Rattle.meaning_areas.specs.Commits.{Commit, commit_to}
use Rattle.meaning_areas.specs.Lists.{Folds, folds_on}
use Rattle.meaning_areas.specs.Stands.{IsCommit}
use Rattle.meaning_areas.proofs.Tables.{some_same, tables-push}
use Rattle.meaning_history.specs.Sound.{AreSound}
use Rattle.meaning_merge.specs.Merging.{AreNamed, as_version}
use Rattle.meaning_merge.specs.Touching.{In, is_in}
use Rattle.meaning_merge.proofs.Histories.{ordered-named}
use Rattle.meaning_merge.proofs.MovedLaws.{in-number, in-on}
use Rattle.meaning_merge.proofs.Numbers.{is_in-number}
use Rattle.meaning_merge.proofs.Paths.{in-numbered, key-same, numbered-in}
use Rattle.meaning_settling.specs.Keyed.{is_at}
use Rattle.meaning_settling.specs.Settling.{Copy, link_key, numbered, on}
use Rattle.meaning_settling.proofs.KeyedLaws.{false_true}
use Rattle.meaning_tables.specs.Links.{links, takes}
use Rattle.meaning_tables.specs.Tables.{Tables, table_of}
use Rattle.meaning_system.specs.Following.{AreRestored}
use Rattle.meaning_system.specs.Machine.{drawing, lost_to, next_commit, restore_moved, restore_to, restored_state, step, target_tables}
use Rattle.meaning_system.specs.State.{State, has_links, number_of, tables_of}
use Rattle.meaning_system.specs.Writes.{writes}
use Rattle.meaning_restore.proofs.Let.{IsLet, bare, can, is-let, last-at, last-paths, past-commit, past-distinct, taken-link, later-in}
use Rattle.meaning_restore.proofs.Owed.{all-owed}
use Rattle.meaning_restored.specs.Back.{HasBack, HasItsBytes, IsComplete}
use Rattle.meaning_restored.proofs.Kept.{settled-copies}
use Rattle.meaning_restored.proofs.Left.{left-in}
use Rattle.meaning_restored.proofs.Named.{restored-at, restored-out}
use Rattle.meaning_restored.proofs.Through.{IsThrough, through}

none_some : {A : Type 0} (x : A) → None ≡ Some x → ⊥
none_some x e = cc

-- the law of the step
abbrev pub LeadsOn : Type 0
LeadsOn = (first : ℕ) (f : Folds) (s : State) (x : Step) → AreSound first f s → s.drawn + 1 < 2 ^ 32 → ((t : Target) → x ≡ steps.Restore t → AreRestored s t)
    → (later : Folds) × (folds_on (Some f) (writes s x) ≡ Some later) × AreSound first later (step s x).1

-- a committed link that has a copy has its bytes, where no transaction is left
its-bytes : (first : ℕ) (s : State) → IsLet first s [] → (l : LinkRow) → In l (links (tables_of s)) → is_some (maps.get s.copies (link_key l.link)) ≡ true → HasItsBytes s l
its-bytes first s has l is copied = by (maps.get s.copies (link_key l.link)) refl copied (maps.get s.files l.path) refl (has.whole.files l.path l here)
  where
    here : on (links (tables_of s)) l.path ≡ Some l
    here = in-on (links (tables_of s)) l (last-paths first s [] has) is

    by : (o : Option Copy) → maps.get s.copies (link_key l.link) ≡ o → is_some o ≡ true → (p : Option File) → maps.get s.files l.path ≡ p → is_some p ≡ true → HasItsBytes s l
    by None at_c some p at_f there = absurd (false_true some)
    by (Some c) at_c some None at_f there = absurd (false_true there)
    by (Some c) at_c some (Some x) at_f there = record { copy = c; file = x; is_copy = at_c; is_file = at_f; bytes = has.whole.bytes l.path l c x here at_c at_f }

-- a link of the past that is not committed has a copy
past-copied : (first : ℕ) (s : State) (target : Tables) → IsLet first s target → (l : LinkRow) → In l (links target) → is_in (links (tables_of s)) l ≡ false → l.options.recovery ≡ true → is_some (maps.get s.copies (link_key l.link)) ≡ true
past-copied first s target has l is out recovery = ⊎_elim
    (λ (e : [] ≡ target). absurd (subst (λ (ts : Tables). In l (links ts)) (sym e) is))
    (λ (c : (x : Commit) × IsCommit x s.commits × (x.tables ≡ target)).
    has.whole.archived c.0 (link_key l.link) l c.1
    (ap (λ (ts : Tables). numbered (links ts) (link_key l.link)) c.2 ∙ in-numbered (links target) l (past-distinct first s target has has.number target has.at) is)
    recovery not-committed)
    (past-commit [] s.commits has.number target has.at)
  where
    not-committed : numbered (links (tables_of s)) (link_key l.link) ≡ None
    not-committed = by (numbered (links (tables_of s)) (link_key l.link)) refl
      where
        by : (o : Option LinkRow) → numbered (links (tables_of s)) (link_key l.link) ≡ o → numbered (links (tables_of s)) (link_key l.link) ≡ None
        by None e = e
        by (Some g) e =
            let in_g = numbered-in (links (tables_of s)) (link_key l.link) g e in
            absurd (false_true (sym out ∙ is_in-number (links (tables_of s)) l g (key-same l.link g.link in_g.1) ∙ in-number (links (tables_of s)) g in_g.0))

module _ (leads : LeadsOn) (first : ℕ) (f : Folds) (s : State) (sound : AreSound first f s) (small : s.drawn + 1 < 2 ^ 32) (t : Target) (c : ℕ) (lost : List Lost) (answer : (step s (steps.Restore t)).0 ≡ answers.Restored c lost) where
  pub let-through : IsThrough s t c lost
  let-through = through s t c lost answer

  abbrev target : Tables
  target = let-through.target

  abbrev restored : Tables
  restored = restore_to s target

  abbrev behind : State
  behind = restored_state s restored

  has : IsLet first s target
  has = is-let first f s sound t target let-through.none let-through.all let-through.is

  -- the state behind it is sound, and no transaction is left there
  has-later : IsLet first behind []
  has-later =
      let on = leads first f s (steps.Restore t) sound small (λ u e. all-owed first f s sound u) in
      is-let first on.0 behind (subst (AreSound first on.0) let-through.later on.2) (targets.Commit 0) [] let-through.none let-through.all refl

  tables-behind : tables_of behind ≡ restored
  tables-behind = tables-push [] (commit_to s.commits (number_of (drawing s)) (has_links (restore_moved s restored)) restored) s.commits

  last-named : AreNamed (tables_of s)
  last-named = ordered-named (tables_of s) (has.history.ordered (length s.commits) (tables_of s) (last-at first s target has))

  bare-named : AreNamed (bare first s target has)
  bare-named = (can first s target has).named

  filled-one : (l : LinkRow) → In l (takes (tables_of s) (tables_of behind)) → l.options.recovery ≡ true → HasItsBytes behind l
  filled-one l is recovery =
      let new = taken-link first s target has l (subst (λ (ts : Tables). In l (takes (tables_of s) ts)) tables-behind is) in
      its-bytes first behind has-later l (subst (λ (ts : Tables). In l (links ts)) (sym tables-behind) new.0)
      (settled-copies (restore_moved s restored) s (link_key l.link) (past-copied first s target has l (later-in first s target has l new.0).0 new.1 recovery))

  back : HasBack s t c lost behind
  back = record {
    target = target;
    is = let-through.is;
    number = sym let-through.number;
    lost_is = sym let-through.lost_is;
    tables = λ name. ap (λ (ts : Tables). table_of ts name) tables-behind ∙ restored-at (tables_of s) (bare first s target has) (next_commit s) last-named bare-named name
        ∙ ap (λ (n : ℕ). option_map (as_version n) (table_of (bare first s target has) name)) let-through.number;
    filled = filled-one;
    whole = λ l is copied. its-bytes first behind has-later l is copied;
  }

  pub brings : HasBack s t c lost (step s (steps.Restore t)).1
  brings = subst (HasBack s t c lost) (sym let-through.later) back

  -- no link with RECOVERY YES is lost
  not-lost : (l : LinkRow) → l.options.recovery ≡ true → lost_to s target l ≡ false
  not-lost l recovery = by (list_any (λ (u : LinkRow). is_at (link_key u.link) (link_key l.link)) (takes (tables_of s) target)) l.options.recovery (is_none (maps.get s.files l.path)) recovery
    where
      by : (a r n : Bool) → r ≡ true → (a && not r && n) ≡ false
      by true true n e = refl
      by false r n e = refl
      by true false n e = absurd (false_true e)

  copied-back : (l : LinkRow) → In l (links target) → l.options.recovery ≡ true → is_some (maps.get s.copies (link_key l.link)) ≡ true → In l (links (tables_of behind)) × HasItsBytes behind l
  copied-back l is recovery copied =
      let there : In l (links (tables_of behind)) = subst (λ (ts : Tables). In l (links ts)) (sym tables-behind)
      (restored-out (tables_of s) (bare first s target has) (next_commit s) last-named bare-named l (left-in (lost_to s target) l (not-lost l recovery) target is)) in
      (there, its-bytes first behind has-later l there (settled-copies (restore_moved s restored) s (link_key l.link) copied))

  pub back-in : (l : LinkRow) → In l (links target) → l.options.recovery ≡ true → is_some (maps.get s.copies (link_key l.link)) ≡ true
      → In l (links (tables_of (step s (steps.Restore t)).1)) × HasItsBytes (step s (steps.Restore t)).1 l
  back-in l is recovery copied = subst (λ (z : State). In l (links (tables_of z)) × HasItsBytes z l) (sym let-through.later) (copied-back l is recovery copied)

  pub found-in : (ts : Tables) → target_tables s t ≡ Some ts → (l : LinkRow) → In l (links ts) → In l (links target)
  found-in ts at l is = subst (λ (us : Tables). In l (links us)) (some_same ts target (sym at ∙ let-through.is)) is

pub backed-up : LeadsOn → (first : ℕ) (f : Folds) (s : State) → AreSound first f s → (n c : ℕ) (lost : List Lost) → (step s (steps.Restore (targets.Backup n))).0 ≡ answers.Restored c lost → s.drawn + 1 < 2 ^ 32
    → (tables : Tables) → IsComplete s n tables → (l : LinkRow) → In l (links tables) → l.options.recovery ≡ true
    → In l (links (tables_of (step s (steps.Restore (targets.Backup n))).1)) × HasItsBytes (step s (steps.Restore (targets.Backup n))).1 l
backed-up leads first f s sound n c lost answer small tables backup l is recovery =
    back-in leads first f s sound small (targets.Backup n) c lost answer l
    (found-in leads first f s sound small (targets.Backup n) c lost answer tables backup.is l is) recovery (backup.copied l is recovery)
