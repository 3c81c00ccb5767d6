-- The paths of prepared and decided transactions: each is its transaction's alone, and its links forbid commands. Where a transaction is
-- voted for there is a file on each of its paths.
use Rattle.std.proofs.Common.{◌≡◌, ◌≢◌, ◌⊎◌, inl, inr, ⊎_elim, ℕ, Bool, true, false, cond, ◌==◌, ◌&&◌, ◌||◌, List, [], ◌∷◌, ◌++◌, map, Option, Some, None, is_some, refl, sym, ap, subst, ◌∙◌}
use Rattle.std.proofs.lemmas.Bool.{cases_eq}
use Rattle.std.specs.FinMap as maps
use Rattle.std.specs.FinMap.{get-entries}
use Rattle.std.specs.List.{flat_map, list_any}
use Rattle.dl_base.specs.declared.answer.Refusal.TheVariants as reasons
use Rattle.dl_base.specs.declared.file.File.{File}
use Rattle.dl_base.specs.declared.step.Phase.{Phase}
use Rattle.dl_base.specs.declared.step.Phase.TheVariants as phases
use Rattle.dl_base.specs.declared.value.LinkRow.{LinkRow}
use Rattle.fm_effects.proofs.SortedSites.{path-on}
use Rattle.fm_pieces.specs.Keeping.{AreThere}
use Rattle.meaning_areas.specs.Commits.{Commit, tables_after}
use Rattle.meaning_areas.specs.Core.{core_kept, core_stored, decided_in, decided_work}
use Rattle.meaning_areas.specs.Lists.{Folds}
use Rattle.meaning_areas.specs.Stands.{kept_of, txs_of}
use Rattle.meaning_areas.proofs.OwnNumbers.{decided-apart}
use Rattle.meaning_areas.proofs.Steps.{agrees-of}
use Rattle.meaning_areas.proofs.Tables.{commit-in, some_same, test-other, test-same}
use Rattle.meaning_history.specs.Sound.{AreSound}
use Rattle.meaning_history.proofs.Claims.{gives-has, on-in}
use Rattle.meaning_merge.specs.Touching.{In}
use Rattle.meaning_settling.specs.Apart.{ShareNoPath, has_path}
use Rattle.meaning_settling.specs.Keyed.{is_at}
use Rattle.meaning_settling.specs.Settled.{IsIn, settled}
use Rattle.meaning_settling.specs.Settling.{Kept, Moved, held_by, on, settle_one}
use Rattle.meaning_settling.proofs.KeyedLaws.{is_at-self, or-right}
use Rattle.meaning_settling.proofs.PartLaws.{get-held}
use Rattle.meaning_settling.proofs.SettledLaws.{settled-files, settled-front, settled-held}
use Rattle.meaning_tables.specs.Links.{links}
use Rattle.meaning_system.specs.Claims.{doomed, files_refusal, no_file, or_else, prepare_refusal, seen_or_zero}
use Rattle.meaning_system.specs.Commands.{decided_gives, forbidding, prepared_takes}
use Rattle.meaning_system.specs.CoreOf.{IsLive, claimed_by, core_of, work_by, work_of}
use Rattle.meaning_system.specs.Following.{Follows}
use Rattle.meaning_system.specs.State.{State, Txn, differs, has_links, is_active, is_decided, is_doomed, is_prepared, moved_of, tables_of}
use Rattle.meaning_system.proofs.Archiving.{decided-txn, found, some-found}
use Rattle.meaning_system.proofs.Claiming.{or-none}
use Rattle.meaning_system.proofs.Commanding.{in-entries, in-left, in-right, passes}
use Rattle.meaning_system.proofs.Cores.{no-links}
use Rattle.meaning_system.proofs.Leading.{decided-work, works-are}
use Rattle.meaning_system.proofs.Resolved.{is-decided}

false_true : false ≡ true → ⊥
false_true e = cc

none_some : {A : Type 0} (x : A) → None ≡ Some x → ⊥
none_some x e = cc

-- a transaction that is not doomed moves all that it gives and takes
live-work : (s : State) (t : Txn) → is_doomed s t ≡ false → work_of s t ≡ work_by t.phase (moved_of t)
live-work s t live = ap (λ b. work_by t.phase (claimed_by b (moved_of t))) live

-- and one that is prepared or decided is not
pub never-doomed : (s : State) (t : Txn) → is_active t.phase ≡ false → is_doomed s t ≡ false
never-doomed s t rests = ap (λ b. b && differs t.seen s.links_opening) rests

pub decided-rests : (t : Txn) → is_decided t.phase ≡ true → is_active t.phase ≡ false
decided-rests t e = ap is_active (is-decided t.phase e)

-- ITS PATHS ARE ITS OWN
module _ (f : Folds) (s : State) (follows : Follows f s) (tx : ℕ) (t : Txn) (at : maps.get s.txs tx ≡ Some t) (live : is_doomed s t ≡ false) where
  apart-from : (u : ℕ) (v : Txn) → tx ≢ u → maps.get s.txs u ≡ Some v → is_doomed s v ≡ false → ShareNoPath (moved_of t) (moved_of v)
  apart-from u v other there still = follows.joint.apart tx u other (work_by t.phase (moved_of t)) (work_by v.phase (moved_of v))
      (works-are f s follows tx t at (work_by t.phase (moved_of t)) (live-work s t live))
      (works-are f s follows u v there (work_by v.phase (moved_of v)) (live-work s v still))

  pub path-off : (u : ℕ) (v : Txn) → tx ≢ u → maps.get s.txs u ≡ Some v → is_doomed s v ≡ false → (p : List ℕ) → has_path (moved_of t) p ≡ true → has_path (moved_of v) p ≡ false
  path-off u v other there still p has = ⊎_elim
      (λ (lacks : has_path (moved_of t) p ≡ false). absurd (false_true (sym lacks ∙ has)))
      (λ (lacks : has_path (moved_of v) p ≡ false). lacks)
      (apart-from u v other there still p)

-- WHAT IS GIVEN AND TAKEN BEFORE A DECISION HAS FILES, where what is taken has
module _ (first : ℕ) (f : Folds) (s : State) (sound : AreSound first f s) (tx : ℕ) (t : Txn) (at : maps.get s.txs tx ≡ Some t) (undecided : is_decided t.phase ≡ false) (live : is_doomed s t ≡ false) where
  given-committed : (g : LinkRow) → In g (moved_of t).gives → In g (links (tables_of s))
  given-committed = (sound.standing tx t at undecided live).given

  off-decided : (p : List ℕ) → has_path (moved_of t) p ≡ true → (u : ℕ) (m : Moved) → decided_in (core_of s) u ≡ Some m → has_path m p ≡ false
  off-decided p has u m e =
      let v = decided-txn s u m e in
      let other : tx ≢ u = λ (same : tx ≡ u). false_true (sym undecided ∙ ap (λ (x : Txn). is_decided x.phase) (some_same t v.0 (sym at ∙ ap (maps.get s.txs) same ∙ v.1)) ∙ v.2) in
      ap (λ (x : Moved). has_path x p) (sym v.3) ∙ path-off f s sound.follows tx t at live u v.0 other v.1 (never-doomed s v.0 (decided-rests v.0 v.2)) p has

  same-files : (p : List ℕ) → has_path (moved_of t) p ≡ true → maps.get (core_stored (core_of s)).files p ≡ maps.get s.files p
  same-files p has = settled-files (decided_in (core_of s)) (txs_of s.commits) (core_kept (core_of s)) p (off-decided p has)

  given-there : (g : LinkRow) → In g (moved_of t).gives → is_some (maps.get s.files g.path) ≡ true
  given-there g is =
      let it = some-found (λ (x : LinkRow). is_at g.path x.path) (links (tables_of s)) g (given-committed g is) (is_at-self g.path) in
      ap is_some (sym (same-files g.path (gives-has (moved_of t) g is))) ∙ sound.follows.joint.whole.files g.path it.0 it.1

  paths-there : ((l : LinkRow) → In l (moved_of t).takes → is_some (maps.get s.files l.path) ≡ true) → AreThere s.files (moved_of t)
  paths-there taken p has = by (on (moved_of t).gives p) refl (on (moved_of t).takes p) refl (sym (path-on (moved_of t) p) ∙ has)
    where
      by : (g : Option LinkRow) → on (moved_of t).gives p ≡ g → (x : Option LinkRow) → on (moved_of t).takes p ≡ x → (is_some g || is_some x) ≡ true → is_some (maps.get s.files p) ≡ true
      by (Some g) e x h some = let is = on-in (moved_of t).gives p g e in ap (λ (q : List ℕ). is_some (maps.get s.files q)) is.1 ∙ given-there g is.0
      by None e (Some x) h some = let is = on-in (moved_of t).takes p x h in ap (λ (q : List ℕ). is_some (maps.get s.files q)) is.1 ∙ taken x is.0
      by None e None h some = absurd (false_true some)

-- A VOTE asks for them

some-file : (path : List ℕ) (o : Option File) → no_file path o ≡ None → is_some o ≡ true
some-file path None e = absurd cc
some-file path (Some x) e = refl

takes-have : (s : State) (ts : List LinkRow) → files_refusal s ts ≡ None → (l : LinkRow) → In l ts → is_some (maps.get s.files l.path) ≡ true
takes-have s [] none l is = absurd is
takes-have s (x ∷ xs) none l is =
    let two = or-none (no_file x.path (maps.get s.files x.path)) (files_refusal s xs) none in
    ⊎_elim
    (λ (e : l ≡ x). ap (λ (y : LinkRow). is_some (maps.get s.files y.path)) e ∙ some-file x.path (maps.get s.files x.path) two.0)
    (λ (later : In l xs). takes-have s xs two.1 l later) is

not-doomed : (s : State) (t : Txn) → doomed s t ≡ None → is_doomed s t ≡ false
not-doomed s t none = by (is_doomed s t) none
  where
    by : (b : Bool) → cond b (Some (reasons.Doomed (seen_or_zero t.seen) s.links_opening)) None ≡ None → b ≡ false
    by true e = absurd cc
    by false e = refl

pub voted-there : (first : ℕ) (f : Folds) (s : State) (sound : AreSound first f s) (tx : ℕ) (t : Txn) → maps.get s.txs tx ≡ Some t → is_decided t.phase ≡ false → prepare_refusal s t ≡ None → AreThere s.files (moved_of t)
voted-there first f s sound tx t at undecided stands = by (has_links (moved_of t)) refl stands
  where
    by : (b : Bool) → has_links (moved_of t) ≡ b → cond b (or_else (doomed s t) (files_refusal s (moved_of t).takes)) None ≡ None → AreThere s.files (moved_of t)
    by true some none =
        let two = or-none (doomed s t) (files_refusal s (moved_of t).takes) none in
        paths-there first f s sound tx t at undecided (not-doomed s t two.0) (takes-have s (moved_of t).takes two.1)
    by false empty none = λ p mine.
        let two = no-links (moved_of t) empty in
        absurd (false_true (sym (λ i. list_any (is_at p) (map (λ (l : LinkRow). l.path) (two.0 i) ++ map (λ (l : LinkRow). l.path) (two.1 i))) ∙ mine))

-- THE LINKS OF A PREPARED OR DECIDED TRANSACTION FORBID
module _ (first : ℕ) (f : Folds) (s : State) (sound : AreSound first f s) (tx : ℕ) (t : Txn) (at : maps.get s.txs tx ≡ Some t) (rests : is_active t.phase ≡ false) (has : has_links (moved_of t) ≡ true) where
  stage : (t.phase ≡ phases.Prepared) ⊎ (t.phase ≡ phases.Decided)
  stage = by t.phase (sound.claims.live tx t at) rests
    where
      by : (p : Phase) → IsLive p → is_active p ≡ false → (p ≡ phases.Prepared) ⊎ (p ≡ phases.Decided)
      by phases.Active live e = absurd (false_true (sym e))
      by phases.Prepared live e = inl refl
      by phases.Decided live e = inr refl
      by phases.Finished live e = absurd live
      by phases.Dropped live e = absurd live

  guards-in : (p : List ℕ) (l : LinkRow) → In l (links (tables_of s) ++ flat_map prepared_takes (maps.entries s.txs) ++ flat_map decided_gives (maps.entries s.txs)) → is_at p l.path ≡ true → In l (forbidding s p)
  guards-in p l is here = passes (λ (x : LinkRow). is_at p x.path) l (links (tables_of s) ++ flat_map prepared_takes (maps.entries s.txs) ++ flat_map decided_gives (maps.entries s.txs)) is here

  committed-guards : (p : List ℕ) (l : LinkRow) → In l (links (tables_of s)) → is_at p l.path ≡ true → In l (forbidding s p)
  committed-guards p l is here = guards-in p l
      (in-left l (links (tables_of s) ++ flat_map prepared_takes (maps.entries s.txs)) (flat_map decided_gives (maps.entries s.txs)) (in-left l (links (tables_of s)) (flat_map prepared_takes (maps.entries s.txs)) is)) here

  waiting-guards : t.phase ≡ phases.Prepared → (p : List ℕ) (l : LinkRow) → In l (moved_of t).takes → is_at p l.path ≡ true → In l (forbidding s p)
  waiting-guards is p l among here =
      let its : In l (prepared_takes (tx, t)) = subst (λ (b : Bool). In l (cond b (moved_of t).takes [])) (sym (ap is_prepared is)) among in
      guards-in p l
      (in-left l (links (tables_of s) ++ flat_map prepared_takes (maps.entries s.txs)) (flat_map decided_gives (maps.entries s.txs))
      (in-right l (links (tables_of s)) (flat_map prepared_takes (maps.entries s.txs)) (in-entries l prepared_takes tx t (λ n. refl) (maps.entries s.txs) (sym (get-entries s.txs tx) ∙ at) its))) here

  going-guards : t.phase ≡ phases.Decided → (p : List ℕ) (l : LinkRow) → In l (moved_of t).gives → is_at p l.path ≡ true → In l (forbidding s p)
  going-guards is p l among here =
      let its : In l (decided_gives (tx, t)) = subst (λ (b : Bool). In l (cond b (moved_of t).gives [])) (sym (ap is_decided is)) among in
      guards-in p l
      (in-right l (links (tables_of s) ++ flat_map prepared_takes (maps.entries s.txs)) (flat_map decided_gives (maps.entries s.txs))
      (in-entries l decided_gives tx t (λ n. refl) (maps.entries s.txs) (sym (get-entries s.txs tx) ∙ at) its)) here

  pub give-guards : (p : List ℕ) (g : LinkRow) → In g (moved_of t).gives → is_at p g.path ≡ true → In g (forbidding s p)
  give-guards p g among here = ⊎_elim
      (λ (is : t.phase ≡ phases.Prepared). committed-guards p g (given-committed first f s sound tx t at (ap is_decided is) (never-doomed s t rests) g among) here)
      (λ (is : t.phase ≡ phases.Decided). going-guards is p g among here)
      stage

  -- what a decided transaction takes is committed until it is finished
  module _ (is : t.phase ≡ phases.Decided) where
    here-so : (core_of s).works tx ≡ Some (work_by phases.Decided (moved_of t))
    here-so = works-are f s sound.follows tx t at (work_by phases.Decided (moved_of t)) (decided-work f s sound.follows tx t at is)

    open-so : decided_in (core_of s) tx ≡ Some (moved_of t)
    open-so = ap decided_work here-so ∙ ap (λ b. cond b (Some (moved_of t)) None) has

    rest-off : (p : List ℕ) → has_path (moved_of t) p ≡ true → (u : ℕ) (a : Moved) → cond (u == tx) None (decided_in (core_of s) u) ≡ Some a → has_path a p ≡ false
    rest-off p mine u a e = ⊎_elim
        (λ (own : u ≡ tx). absurd (none_some a (sym (ap (λ b. cond b None (decided_in (core_of s) u)) (test-same u tx own)) ∙ e)))
        (λ (other : u ≢ tx). ⊎_elim
        (λ (lacks : has_path a p ≡ false). lacks)
        (λ (lacks : has_path (moved_of t) p ≡ false). absurd (false_true (sym lacks ∙ mine)))
        ((decided-apart f (core_of s) sound.follows.joint u tx other a (moved_of t) (sym (ap (λ b. cond b None (decided_in (core_of s) u)) (test-other u tx other)) ∙ e) open-so).paths p))
        (cases_eq u tx)

    committed-so : IsIn tx (txs_of f.rows.commits)
    committed-so = commit-in tx f.rows.commits (ap is_some (agrees-of f (core_of s) sound.follows.joint tx (work_by phases.Decided (moved_of t)) here-so).0.at)

    first-so : settled (decided_in (core_of s)) (txs_of f.rows.commits) (kept_of f) ≡ settled (λ u. cond (u == tx) None (decided_in (core_of s) u)) (txs_of f.rows.commits) (settle_one (moved_of t) (kept_of f))
    first-so = settled-front (decided_in (core_of s)) (λ u. cond (u == tx) None (decided_in (core_of s) u)) (txs_of f.rows.commits) tx (moved_of t) (kept_of f)
        (λ q u in_q in_u other a b at_q at_u. decided-apart f (core_of s) sound.follows.joint q u other a b at_q at_u) open-so
        (λ u other. sym (ap (λ b. cond b None (decided_in (core_of s) u)) (test-other u tx other)))
        (ap (λ b. cond b None (decided_in (core_of s) tx)) (test-same tx tx refl))
        committed-so sound.follows.joint.distinct

    taken-committed : (p : List ℕ) (l : LinkRow) → on (moved_of t).takes p ≡ Some l → on (links (tables_of s)) p ≡ Some l
    taken-committed p l at_p =
        let mine : has_path (moved_of t) p ≡ true = path-on (moved_of t) p ∙ or-right (is_some (on (moved_of t).gives p)) (is_some (on (moved_of t).takes p)) (ap is_some at_p) in
        ap (λ (cs : List Commit). on (links (tables_after [] cs)) p) (sym sound.follows.joint.commits)
        ∙ sym (sound.follows.joint.held p)
        ∙ ap (λ (k : Kept). maps.get k.held p) first-so
        ∙ settled-held (λ u. cond (u == tx) None (decided_in (core_of s) u)) (txs_of f.rows.commits) (settle_one (moved_of t) (kept_of f)) p (rest-off p mine)
        ∙ get-held (moved_of t) (kept_of f) p
        ∙ ap (λ (x : Option LinkRow). held_by (on (moved_of t).gives p) x (maps.get f.links.held p)) at_p

  pub take-guards : (p : List ℕ) (l : LinkRow) → on (moved_of t).takes p ≡ Some l → In l (forbidding s p)
  take-guards p l at_p = ⊎_elim
      (λ (is : t.phase ≡ phases.Prepared). (let it = found (λ (x : LinkRow). is_at p x.path) (moved_of t).takes l at_p in waiting-guards is p l it.1 it.0))
      (λ (is : t.phase ≡ phases.Decided). (let it = found (λ (x : LinkRow). is_at p x.path) (links (tables_of s)) l (taken-committed is p l at_p) in committed-guards p l it.1 it.0))
      stage
