-- Prepared and decided transactions have their files at the begin of a run, and behind each step.
use Rattle.std.proofs.Common.{◌≡◌, ◌⊎◌, inl, inr, ⊎_elim, ℕ, Bool, true, false, cond, List, [], ◌∷◌, ◌++◌, map, Option, Some, None, refl, sym, ◌∙◌, ap}
use Rattle.std.specs.FinMap as maps
use Rattle.std.specs.FinMap.{get-empty}
use Rattle.std.specs.List.{cons_option, filter_map, list_any}
use Rattle.std.specs.Ordering.{nat_cmp}
use Rattle.dl_base.specs.declared.answer.Refusal.{Refusal}
use Rattle.dl_base.specs.declared.file.File.{File}
use Rattle.dl_base.specs.declared.statement.Stmt.{Stmt}
use Rattle.dl_base.specs.declared.step.Phase.{Phase}
use Rattle.dl_base.specs.declared.step.Phase.TheVariants as phases
use Rattle.dl_base.specs.declared.step.Settings.{Settings}
use Rattle.dl_base.specs.declared.step.Step.{Step}
use Rattle.dl_base.specs.declared.step.Step.TheVariants as steps
use Rattle.dl_base.specs.declared.value.LinkRow.{LinkRow}
use Rattle.dl_codec.specs.declared.archive.FileCopy.{FileCopy}
use Rattle.fm_control.specs.Control.{HaveTheirs}
use Rattle.fm_manager.specs.Pieces.{AreOf, Pieces}
use Rattle.fm_pieces.proofs.Behind.{pieces-stay}
use Rattle.fm_pieces.proofs.Carrying.{still-copied, written}
use Rattle.fm_pieces.proofs.Guarded.{voted-there}
use Rattle.fm_pieces.specs.Keeping.{AreThere, left_of}
use Rattle.meaning_areas.specs.Finishing.{batch_changes, copy_by, file_copy}
use Rattle.meaning_areas.specs.Lists.{Folds, Written}
use Rattle.meaning_areas.specs.Stands.{Stored}
use Rattle.meaning_files.specs.Files.{Files}
use Rattle.meaning_history.specs.Sound.{AreSound}
use Rattle.meaning_settling.specs.Keyed.{is_at}
use Rattle.meaning_settling.specs.Settling.{Copy, Kept, Moved, link_key}
use Rattle.meaning_system.proofs.Cores.{no-links}
use Rattle.meaning_system.proofs.Kept.{at-archive, at-backup, at-decide, at-file, at-finish, at-restore, at-rollback, bound-was, drop-all-was, put-was, statement-seen, with-session}
use Rattle.meaning_system.proofs.Resolved.{finish-all-was, gone-was}
use Rattle.meaning_system.specs.Claims.{prepare_refusal, statement}
use Rattle.meaning_system.specs.Machine.{begin, drawing, finish_all, new_txn, on_txn, start, step, voted, with_phase}
use Rattle.meaning_system.specs.State.{State, Txn, ended, has_links, is_active, is_decided, kept_in, moved_of, number_of, tables_of, txn_of, with_txn}

false_true : false ≡ true → ⊥
false_true e = cc

none_some : {A : Type 0} (x : A) → None ≡ Some x → ⊥
none_some x e = cc

-- PIECES of a Finish can be made over whatever is there

abbrev copies_of : Kept → List LinkRow → List Written
copies_of k gs = filter_map (λ g. copy_by g (maps.get k.copies (link_key g.link)) (maps.get k.files g.path)) gs

copies-made : (k : Kept) (gs : List LinkRow) → (cs : List FileCopy) × (map written cs ≡ copies_of k gs)
copies-made k [] = ([], refl)
copies-made k (g ∷ gs) = by (maps.get k.copies (link_key g.link)) (maps.get k.files g.path) (copies-made k gs)
  where
    chosen : (b : Bool) (c : FileCopy) → (cs : List FileCopy) × (map written cs ≡ copies_of k gs) → (cs : List FileCopy) × (map written cs ≡ cons_option (cond b (Some (written c)) None) (copies_of k gs))
    chosen true c rest = (c ∷ rest.0, ap (λ (ws : List Written). written c ∷ ws) rest.1)
    chosen false c rest = (rest.0, rest.1)

    by : (c : Option Copy) (x : Option File) → (cs : List FileCopy) × (map written cs ≡ copies_of k gs) → (cs : List FileCopy) × (map written cs ≡ cons_option (copy_by g c x) (copies_of k gs))
    by (Some c) x rest = (rest.0, rest.1)
    by None None rest = (rest.0, rest.1)
    by None (Some x) rest = chosen g.options.recovery (file_copy g x) rest

abbrev pieces_made : State → ℕ → Txn → Pieces
pieces_made s tx t = record { tx = tx; copies = (copies-made (kept_in s) (moved_of t).gives).0; changes = batch_changes (moved_of t) (kept_in s) }

pieces-are : (s : State) (tx : ℕ) (t : Txn) → AreOf (left_of s.copies (pieces_made s tx t)) (moved_of t) (kept_in s)
pieces-are s tx t = record {
  copies = still-copied (moved_of t) (kept_in s) (kept_in s) (λ n. inl refl) (λ g is recovers. refl) (moved_of t).gives (pieces_made s tx t).copies (λ g is. is) (copies-made (kept_in s) (moved_of t).gives).1;
  changes = refl;
}

-- where no link is given or taken there is nothing to have
none-there : (files : Files) (m : Moved) → has_links m ≡ false → AreThere files m
none-there files m empty p mine =
    let two = no-links m empty in
    absurd (false_true (sym (λ i. list_any (is_at p) (map (λ (l : LinkRow). l.path) (two.0 i) ++ map (λ (l : LinkRow). l.path) (two.1 i))) ∙ mine))

module _ (first : ℕ) (f : Folds) (s : State) (sound : AreSound first f s) (theirs : HaveTheirs s) where
  -- ONE THAT WAS SO BEFORE has its pieces, and so its files
  stay : (x : Step) (tx : ℕ) (t : Txn) → maps.get s.txs tx ≡ Some t → is_active t.phase ≡ false → maps.get (step s x).1.txs tx ≡ Some t → AreThere (step s x).1.files (moved_of t)
  stay x tx t was rests at = by (has_links (moved_of t)) refl
    where
      by : (b : Bool) → has_links (moved_of t) ≡ b → AreThere (step s x).1.files (moved_of t)
      by true has = (pieces-stay first f s x tx t (Some (pieces_made s tx t)) sound was rests at (has, refl, pieces-are s tx t, theirs tx t was rests)).3
      by false empty = none-there (step s x).1.files (moved_of t) empty

  -- THE OTHERS come from a vote or a decision
  abbrev WasOr : State → Type 0
  WasOr later = (tx : ℕ) (t : Txn) → maps.get later.txs tx ≡ Some t → is_active t.phase ≡ false → (maps.get s.txs tx ≡ Some t) ⊎ AreThere later.files (moved_of t)

  unchanged : WasOr s
  unchanged tx t at rests = inl at

  was-put : (u : ℕ) (v : Txn) → (is_active v.phase ≡ false → AreThere s.files (moved_of v)) → WasOr (with_txn s u v)
  was-put u v here tx t at rests = put-was s u v tx t at (λ y. is_active y.phase ≡ false → (maps.get s.txs tx ≡ Some y) ⊎ AreThere s.files (moved_of y)) (λ e. inr (here e)) (λ was e. inl was) rests

  ends : (u session : ℕ) → WasOr (ended s session u)
  ends u session tx t at rests = inl (gone-was s u tx t at)

  on-begin : (session : ℕ) (o : Option (ℕ × Txn)) → WasOr (begin s session o).1
  on-begin session (Some e) = unchanged
  on-begin session None = was-put (number_of (drawing s)) (new_txn (tables_of s)) (λ e. absurd (false_true (sym e)))

  on-statement : (session u : ℕ) (v : Txn) (stmt : Stmt) (p : Phase) → v.phase ≡ p → (statement s u v stmt).1.phase ≡ v.phase → WasOr (on_txn s (steps.Statement session stmt) u v p).1
  on-statement session u v stmt phases.Active is same = was-put u (statement s u v stmt).1 (λ e. absurd (false_true (sym e ∙ ap is_active (same ∙ is))))
  on-statement session u v stmt phases.Prepared is same = unchanged
  on-statement session u v stmt phases.Decided is same = unchanged
  on-statement session u v stmt phases.Finished is same = unchanged
  on-statement session u v stmt phases.Dropped is same = unchanged

  on-prepare : (session u : ℕ) (v : Txn) → maps.get s.txs u ≡ Some v → (p : Phase) → v.phase ≡ p → WasOr (on_txn s (steps.Prepare session) u v p).1
  on-prepare session u v there phases.Active is = by (prepare_refusal s v) refl
    where
      by : (o : Option Refusal) → prepare_refusal s v ≡ o → WasOr (voted s u v o).1
      by (Some why) e = unchanged
      by None e = was-put u (with_phase v phases.Prepared) (λ rests. voted-there first f s sound u v there (ap is_decided is) e)
  on-prepare session u v there phases.Prepared is = unchanged
  on-prepare session u v there phases.Decided is = unchanged
  on-prepare session u v there phases.Finished is = unchanged
  on-prepare session u v there phases.Dropped is = unchanged

  on-decide : (session u : ℕ) (v : Txn) → maps.get s.txs u ≡ Some v → (p : Phase) → v.phase ≡ p → WasOr (on_txn s (steps.Decide session) u v p).1
  on-decide session u v there phases.Active is = unchanged
  on-decide session u v there phases.Prepared is =
      at-decide WasOr s unchanged u v session phases.Prepared (ends u session) (was-put u (with_phase v phases.Decided) (λ rests. theirs u v there (ap is_active is)))
  on-decide session u v there phases.Decided is = unchanged
  on-decide session u v there phases.Finished is = unchanged
  on-decide session u v there phases.Dropped is = unchanged

  came : (x : Step) → WasOr (step s x).1
  unfolding step
  came (steps.Begin session) = on-begin session (txn_of s session)
  came (steps.Statement session stmt) = with-session WasOr s session (steps.Statement session stmt) unchanged (λ u v there of. on-statement session u v stmt v.phase refl (statement-seen s u v stmt (sound.claims.seen u v there)).0)
  came (steps.Prepare session) = with-session WasOr s session (steps.Prepare session) unchanged (λ u v there of. on-prepare session u v there v.phase refl)
  came (steps.Decide session) = with-session WasOr s session (steps.Decide session) unchanged (λ u v there of. on-decide session u v there v.phase refl)
  came (steps.Finish session) = with-session WasOr s session (steps.Finish session) unchanged (λ u v there of. at-finish WasOr s unchanged u v session v.phase (λ tx t at rests. inl (gone-was s u tx t at)))
  came (steps.Rollback session) = with-session WasOr s session (steps.Rollback session) unchanged (λ u v there of. at-rollback WasOr s unchanged u v session v.phase (ends u session))
  came (steps.File cmd) = at-file WasOr s unchanged cmd (λ files tx t at rests. inl at)
  came (steps.Archive n) = at-archive WasOr s unchanged n (λ copies tx t at rests. inl at)
  came steps.Backup = at-backup WasOr s unchanged (λ backups tx t at rests. inl at)
  came (steps.Restore target) = at-restore WasOr s unchanged target (λ later tx t at rests. inl at)
  came (steps.Tick n) = λ tx t at rests. inl at
  came steps.CrashManager = λ tx t at rests. inl at
  came steps.CrashDatabase = λ tx t at rests. inl (bound-was s tx t at)
  came steps.Resolve = λ tx t at rests. inl (finish-all-was s.commits s tx t (drop-all-was (maps.keys s.txs) (finish_all s s.commits) tx t at))

-- THE BEGIN of a run: it has no transactions
pub theirs-begin : (given : Settings) (x : Stored) → HaveTheirs (start given x)
theirs-begin given x tx t at rests = absurd (none_some t (sym (get-empty nat_cmp tx) ∙ at))

-- EACH STEP
pub theirs-kept : (first : ℕ) (f : Folds) (s : State) (x : Step) → AreSound first f s → HaveTheirs s → HaveTheirs (step s x).1
theirs-kept first f s x sound theirs tx t at rests = ⊎_elim
    (λ (was : maps.get s.txs tx ≡ Some t). stay first f s sound theirs x tx t was rests at)
    (λ (there : AreThere (step s x).1.files (moved_of t)). there)
    (came first f s sound theirs x tx t at rests)
