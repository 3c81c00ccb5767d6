-- THE COMMITS, one after another: the branch of each is settled.
use Rattle.std.proofs.Common.{◌≡◌, ℕ, zero, suc, ◌+◌, ◌<◌, ◌==◌, add-one, arith, List, [], ◌∷◌, ◌++◌, length, drop, Bool, true, false, cond, Option, Some, None, is_some, refl, sym, ◌∙◌, ap, subst, append_assoc}
use Rattle.std.specs.FinMap as maps
use Rattle.std.specs.List.{slice_get}
use Rattle.std.specs.Option.{option_map, unwrap_or}
use Rattle.compare_every.proofs.Lists.{left-at}
use Rattle.db_store.specs.Log.{commit_numbered}
use Rattle.dl_areas.specs.Lists.{Write}
use Rattle.dl_areas.specs.Writing.{Does}
use Rattle.dl_base.specs.Outside.{Outside}
use Rattle.dl_base.specs.declared.fault.AppendFault.{AppendFault}
use Rattle.fm_manager.specs.Managed.{as_writes}
use Rattle.meaning_areas.specs.Commits.{Commit, commit_of}
use Rattle.meaning_areas.specs.Lists.{Folds, Written, folds_on}
use Rattle.meaning_opening.proofs.Plain.{none_some, some_same, test-same}
use Rattle.meaning_system.specs.Writes.{open_settles, open_writes}
use Rattle.sys_opening.proofs.Finished.{settles-none}
use Rattle.sys_opening.proofs.Halted.{halts-among}
use Rattle.sys_opening.proofs.Spelling.{have-append}
use Rattle.sys_opening.proofs.Trying.{tries-all, tries-among}
use Rattle.sys_opening.specs.Halting.{Halts, HaveSpellings, Tries}
use Rattle.sys_opening.specs.Resolving.{Settles, commit_writes}
use Rattle.sys_opening.specs.declared.fault.OpenFault.{OpenFault}
use Rattle.sys_owners.proofs.InARow.{append-nil, folds-then, writes-append}
use Rattle.sys_owners.specs.Owned.{Owned, folds_in, journals_of}

-- one part behind another
settles-then : (f g h : Folds) (xs ys : List Written) → Settles f g xs → Settles g h ys → Settles f h (xs ++ ys)
settles-then f g h xs ys first second = record {
  leads = folds-then f g xs ys first.leads ∙ second.leads;
  stands = λ x stand. second.stands x (first.stands x stand);
  commits = second.commits ∙ first.commits;
  drops = second.drops ∙ first.drops;
}

-- the branches of the commits that are not left are settled
pub record Settling (w v : Owned) (left : List Commit) (o n : Outside) : Type 0 where
  pub done : List Written
  pub parts : open_settles (folds_in w) (folds_in w).rows.commits ≡ done ++ open_settles (folds_in v) left
  pub settles : Settles (folds_in w) (folds_in v) done
  pub drawn : v.store.drawn ≡ w.store.drawn
  pub spelled : HaveSpellings done
  pub does : Does (journals_of w) (journals_of v) (as_writes done) None o n

pub settling-first : (w : Owned) (o : Outside) → Does (journals_of w) (journals_of w) [] None o o → Settling w w (folds_in w).rows.commits o o
settling-first w o none = record { done = []; parts = refl; settles = settles-none (folds_in w); drawn = refl; spelled = tt; does = none }

module _ (w v : Owned) (left : List Commit) (o n : Outside) (s : Settling w v left o n) where
  -- the next one
  module _ (c : Commit) (later : List Commit) (is : left ≡ c ∷ later) where
    abbrev pub turn : List Written
    turn = commit_writes (folds_in v) (Some c)

    settling-parts : (g : Folds) → folds_on (Some (folds_in v)) turn ≡ Some g → open_settles (folds_in w) (folds_in w).rows.commits ≡ (s.done ++ turn) ++ open_settles g later
    settling-parts g leads =
        s.parts
        ∙ ap (λ (cs : List Commit). s.done ++ open_settles (folds_in v) cs) is
        ∙ ap (λ (x : Option Folds). s.done ++ (turn ++ open_settles (unwrap_or x (folds_in v)) later)) leads
        ∙ sym (append_assoc s.done turn (open_settles g later))

    -- what is left behind it, however it ends
    settling-rest : List Written
    settling-rest = open_settles (unwrap_or (folds_on (Some (folds_in v)) turn) (folds_in v)) later

    settling-all : open_settles (folds_in w) (folds_in w).rows.commits ≡ (s.done ++ turn) ++ settling-rest
    unfolding settling-rest
    settling-all = s.parts ∙ ap (λ (cs : List Commit). s.done ++ open_settles (folds_in v) cs) is ∙ sym (append_assoc s.done turn (open_settles (unwrap_or (folds_on (Some (folds_in v)) turn) (folds_in v)) later))

    module _ (u : Owned) (e : Outside) (then : (ws vs : List Write) (fault : Option AppendFault) → Does (journals_of w) (journals_of v) ws None o n → Does (journals_of v) (journals_of u) vs fault n e → Does (journals_of w) (journals_of u) (ws ++ vs) fault o e) where
      pub settling-more : Settles (folds_in v) (folds_in u) turn → u.store.drawn ≡ v.store.drawn → HaveSpellings turn → Does (journals_of v) (journals_of u) (as_writes turn) None n e → Settling w u later o e
      settling-more settles drawn have does = record {
        done = s.done ++ turn;
        parts = settling-parts (folds_in u) settles.leads;
        settles = settles-then (folds_in w) (folds_in v) (folds_in u) s.done turn s.settles settles;
        drawn = drawn ∙ s.drawn;
        spelled = have-append s.done turn s.spelled have;
        does = subst (λ (ws : List Write). Does (journals_of w) (journals_of u) ws None o e) (sym (writes-append s.done turn)) (then (as_writes s.done) (as_writes turn) None s.does does);
      }

      -- it halts
      pub settling-halts : ((ws vs : List Write) (fault : AppendFault) → Does (journals_of w) (journals_of u) ws (Some fault) o e → Does (journals_of w) (journals_of u) (ws ++ vs) (Some fault) o e)
          → (fault : OpenFault) → Halts (journals_of v) (journals_of u) (as_writes turn) (Some fault) n e → Halts (journals_of w) (journals_of u) (as_writes (open_settles (folds_in w) (folds_in w).rows.commits)) (Some fault) o e
      settling-halts stop fault halts = halts-among (journals_of w) (journals_of v) (journals_of u) o n e then stop s.done turn settling-rest (open_settles (folds_in w) (folds_in w).rows.commits) settling-all fault s.does halts

      pub settling-tries : (fault : OpenFault) → Tries (journals_of v) (journals_of u) turn (Some fault) n e → Tries (journals_of w) (journals_of u) (open_settles (folds_in w) (folds_in w).rows.commits) (Some fault) o e
      settling-tries fault tries = tries-among (journals_of w) (journals_of v) (journals_of u) o n e then s.done turn settling-rest (open_settles (folds_in w) (folds_in w).rows.commits) settling-all fault s.spelled s.does tries

  -- none is left
  module _ (end : left ≡ []) where
    all-done : s.done ≡ open_settles (folds_in w) (folds_in w).rows.commits
    all-done = sym (append-nil s.done) ∙ ap (λ (cs : List Commit). s.done ++ open_settles (folds_in v) cs) (sym end) ∙ sym s.parts

    pub settling-settles : Settles (folds_in w) (folds_in v) (open_settles (folds_in w) (folds_in w).rows.commits)
    settling-settles = subst (λ (xs : List Written). Settles (folds_in w) (folds_in v) xs) all-done s.settles

    pub settling-does : Does (journals_of w) (journals_of v) (as_writes (open_settles (folds_in w) (folds_in w).rows.commits)) None o n
    settling-does = subst (λ (xs : List Written). Does (journals_of w) (journals_of v) (as_writes xs) None o n) all-done s.does

    pub settling-whole : Tries (journals_of w) (journals_of v) (open_settles (folds_in w) (folds_in w).rows.commits) None o n
    settling-whole = tries-all (journals_of w) (journals_of v) o n (open_settles (folds_in w) (folds_in w).rows.commits) None None (subst (λ (xs : List Written). HaveSpellings xs) all-done s.spelled) settling-does

-- THE COMMIT OF A TURN

there : (cs : List Commit) (i : ℕ) → i < length cs → (c : Commit) × (slice_get cs i ≡ Some c)
there [] i lt = absurd (omega (arith, lt))
there (c ∷ cs) zero lt = (c, refl)
there (c ∷ cs) (suc i) lt = there cs i (omega (arith, lt))

pub turn-of : (f g : Folds) → g.rows.commits ≡ f.rows.commits → (i : ℕ) → i < length f.rows.commits
    → (c : Commit) × (drop i f.rows.commits ≡ c ∷ drop (i + 1) f.rows.commits) × (commit_writes g (commit_numbered g.rows.commits (i + 1)) ≡ commit_writes g (Some c))
turn-of f g same i lt =
    let at = there f.rows.commits i lt in
    (at.0, left-at f.rows.commits i at.0 at.1, ap (commit_writes g) (ap (λ (cs : List Commit). commit_numbered cs (i + 1)) same ∙ ap (commit_numbered f.rows.commits) (add-one i) ∙ at.1))

-- the transaction of a commit has one

has-commit : (cs : List Commit) (n : ℕ) (c : Commit) → slice_get cs n ≡ Some c → is_some (commit_of c.tx cs) ≡ true
has-commit [] n c at = absurd (none_some c at)
has-commit (d ∷ ds) zero c at =
    ap (λ (b : Bool). is_some (cond b (Some d) (commit_of c.tx ds))) (test-same d.tx c.tx (ap (λ (y : Commit). y.tx) (some_same d c at)))
has-commit (d ∷ ds) (suc n) c at = by (has-commit ds n c at) (d.tx == c.tx)
  where
    by : is_some (commit_of c.tx ds) ≡ true → (b : Bool) → is_some (cond b (Some d) (commit_of c.tx ds)) ≡ true
    by rest true = refl
    by rest false = rest

numbered-commit : (cs : List Commit) (number : ℕ) (c : Commit) → commit_numbered cs number ≡ Some c → is_some (commit_of c.tx cs) ≡ true
numbered-commit cs zero c at = absurd (none_some c at)
numbered-commit cs (suc n) c at = has-commit cs n c at

-- the commit that is told by its transaction

abbrev pub Told : Option Commit → Option (ℕ × Bool) → Type 0
Told o p = p ≡ option_map (λ c. (c.tx, c.branch)) o

told-commit : (o : Option Commit) (p : ℕ × Bool) → Told o (Some p) → (c : Commit) × (o ≡ Some c) × (c.tx ≡ p.0)
told-commit None p is = absurd (none_some p (sym is))
told-commit (Some c) p is = (c, refl, ap (λ (y : ℕ × Bool). y.0) (some_same (c.tx, c.branch) p (sym is)))

told-none : (o : Option Commit) → Told o None → o ≡ None
told-none None is = refl
told-none (Some c) is = absurd (none_some (c.tx, c.branch) is)

module _ (f : Folds) (number : ℕ) where
  pub told-has : (p : ℕ × Bool) → Told (commit_numbered f.rows.commits number) (Some p) → is_some (commit_of p.0 f.rows.commits) ≡ true
  told-has p told =
      let c = told-commit (commit_numbered f.rows.commits number) p told in
      ap (λ (tx : ℕ). is_some (commit_of tx f.rows.commits)) (sym c.2) ∙ numbered-commit f.rows.commits number c.0 c.1

  pub told-writes : (p : ℕ × Bool) → Told (commit_numbered f.rows.commits number) (Some p) → commit_writes f (commit_numbered f.rows.commits number) ≡ open_writes f p.0 (maps.get f.links.table p.0)
  told-writes p told =
      let c = told-commit (commit_numbered f.rows.commits number) p told in
      ap (commit_writes f) c.1 ∙ ap (λ (tx : ℕ). open_writes f tx (maps.get f.links.table tx)) c.2

  pub told-nothing : Told (commit_numbered f.rows.commits number) None → commit_writes f (commit_numbered f.rows.commits number) ≡ []
  told-nothing told = ap (commit_writes f) (told-none (commit_numbered f.rows.commits number) told)
