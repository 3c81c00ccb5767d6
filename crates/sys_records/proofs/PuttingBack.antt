-- A RESTORE OVER THE OWNERS: its branch, its commit and its whole Finish, one behind another.
use Rattle.std.proofs.Common.{◌≡◌, ◌≤◌, ◌+◌, ℕ, Bool, true, false, cond, ◌||◌, List, [], ◌∷◌, ◌++◌, length, map, Option, Some, None, is_some, Result, Ok, Err, OnOk, refl, sym, ◌∙◌, ap, subst, arith}
use Rattle.std.specs.FinMap as maps
use Rattle.std.specs.List.{list_any}
use Rattle.std.specs.Option.{option_map}
use Rattle.std.specs.Result.{result_err}
use Rattle.db_store.specs.Store.{CanEnd, Database, committed_with}
use Rattle.dl_areas.specs.Lists.{Journals, Write}
use Rattle.dl_areas.specs.Writing.{Does, Ends}
use Rattle.dl_base.specs.Outside.{Outside}
use Rattle.dl_base.specs.declared.fault.AppendFault.{AppendFault}
use Rattle.dl_base.specs.declared.fault.AppendFault.TheVariants as appends
use Rattle.dl_base.specs.declared.fault.Full.{Full}
use Rattle.dl_base.specs.declared.fault.StepFault.{StepFault}
use Rattle.dl_base.specs.declared.fault.StepFault.TheVariants as faults
use Rattle.dl_base.specs.declared.value.LinkRow.{LinkRow}
use Rattle.dl_codec.specs.declared.links.BranchPhase.TheVariants as branch_phases
use Rattle.dl_codec.specs.declared.links.Taken.{Taken}
use Rattle.dl_codec.specs.declared.rows.RowsRecord.TheVariants as rows_records
use Rattle.fm_branch.specs.Linked.{Linked}
use Rattle.fm_manager.specs.Managed.{IsTakenBy, Managed, Roomier, as_writes, folds_with, kept_in}
use Rattle.fm_manager.specs.Pieces.{AreOf, CanFinish, HaveRoom, IsDoubtful, Pieces, manager_part}
use Rattle.meaning_areas.proofs.Tables.{get-here, some_same}
use Rattle.meaning_areas.specs.Branches.{Branches, branch, may_prepare, prepares_on, with_branch}
use Rattle.meaning_areas.specs.Branches as branches
use Rattle.meaning_areas.specs.Commits.{Commits}
use Rattle.meaning_areas.specs.Finishing.{finish_records}
use Rattle.meaning_areas.specs.Lists.{Folds, Written, folds_on, in_rows, with_links, with_rows}
use Rattle.meaning_areas.specs.Stands.{kept_of}
use Rattle.meaning_settling.specs.Settling.{Kept, Moved}
use Rattle.meaning_system.specs.State.{has_links}
use Rattle.meaning_system.specs.Writes.{prepared, taken_by, when, whole_finish}
use Rattle.sys_owners.proofs.InARow.{folds-then, taken-first, writes-append}
use Rattle.sys_owners.proofs.Placing.{with_manager, with_store}
use Rattle.sys_owners.proofs.Taking.{finish-last, part-managed, taken-anywhere}
use Rattle.sys_owners.specs.Owned.{Owned, folds_in, journals_of}
use Rattle.sys_records.proofs.Branched.{something-prepared}
use Rattle.sys_records.specs.Restoring.{ArePieces, CanCommit, CanSettle, CanWrite, HasMade, MaySettle, commit_part, moved_in, restore_part}
use Rattle.sys_records.specs.declared.restoring.Restoration.{Restoration}

false_true : false ≡ true → ⊥
false_true e = cc

none_some : {A : Type 0} (x : A) → None ≡ Some x → ⊥
none_some x e = cc

-- THE TAKES OF A BRANCH, as its record has them, are those that are moved

abbrev recoveries : List LinkRow → Bool
recoveries ls = list_any (λ (l : LinkRow). l.options.recovery) ls

links-back : (fill : Bool) (ls : List LinkRow) → map (λ (t : Taken). t.link) (map (taken_by fill) ls) ≡ ls
links-back fill [] = refl
links-back fill (l ∷ ls) = ap (λ (xs : List LinkRow). l ∷ xs) (links-back fill ls)

fills-all : (ls : List LinkRow) → list_any (λ (t : Taken). t.fill) (map (taken_by true) ls) ≡ recoveries ls
fills-all [] = refl
fills-all (l ∷ ls) = ap (λ b. l.options.recovery || b) (fills-all ls)

fills-none : (ls : List LinkRow) → list_any (λ (t : Taken). t.fill) (map (taken_by false) ls) ≡ false
fills-none [] = refl
fills-none (l ∷ ls) = fills-none ls

fills-are : (fill : Bool) (ls : List LinkRow) → fill ≡ recoveries ls → list_any (λ (t : Taken). t.fill) (map (taken_by fill) ls) ≡ fill
fills-are true ls e = fills-all ls ∙ sym e
fills-are false ls e = fills-none ls

moved-back : (gone : Moved) → gone.fill ≡ recoveries gone.takes → branches.moved_by gone.gives (map (taken_by gone.fill) gone.takes) ≡ gone
moved-back gone fill = λ i. record { gives = gone.gives; takes = links-back gone.fill gone.takes i; fill = fills-are gone.fill gone.takes fill i }

-- ITS FINISH

pub no-finish : (tx : ℕ) (gone : Moved) (k : Kept) → has_links gone ≡ false → whole_finish tx gone k ≡ []
no-finish tx gone k none = ap (λ c. when c (finish_records tx branch_phases.Prepared gone k)) none

all-finish : (tx : ℕ) (gone : Moved) (k : Kept) → has_links gone ≡ true → whole_finish tx gone k ≡ finish_records tx branch_phases.Prepared gone k
all-finish tx gone k has = ap (λ c. when c (finish_records tx branch_phases.Prepared gone k)) has

pub may-some : (m : Managed) (r : Commits) (tx : ℕ) (gone : Moved) (o : Option Pieces) (p : Pieces) → o ≡ Some p → MaySettle m r tx gone o → CanSettle m r tx gone p
may-some m r tx gone o p is may = subst (λ (x : Option Pieces). MaySettle m r tx gone x) is may

pub may-none : (m : Managed) (r : Commits) (tx : ℕ) (gone : Moved) (o : Option Pieces) → o ≡ None → MaySettle m r tx gone o → has_links gone ≡ false
may-none m r tx gone o is may = subst (λ (x : Option Pieces). MaySettle m r tx gone x) is may

module _ (m : Managed) (r : Commits) (tx : ℕ) (gone : Moved) (p : Pieces) (can : CanSettle m r tx gone p) where
  pub settle-doubt : IsDoubtful m p.tx gone branch_phases.Prepared
  settle-doubt = subst (λ (n : ℕ). IsDoubtful m n gone branch_phases.Prepared) (sym can.made.own) can.doubt

  pub settle-fits : CanFinish m p
  settle-fits = (gone, branch_phases.Prepared, settle-doubt, can.made.of, subst (λ (n : ℕ). IsTakenBy m (manager_part n branch_phases.Prepared gone (kept_in m))) (sym can.made.own) can.taken)

  pub settle-end : CanEnd r p.tx
  settle-end = subst (λ (n : ℕ). CanEnd r n) (sym can.made.own) can.end

  pub settle-records : whole_finish tx gone (kept_in m) ≡ finish_records p.tx branch_phases.Prepared gone (kept_in m)
  settle-records = all-finish tx gone (kept_in m) can.made.has ∙ ap (λ (n : ℕ). finish_records n branch_phases.Prepared gone (kept_in m)) (sym can.made.own)

pub copies-within : (r q n m : ℕ) → r ≤ q + n → n ≤ m → r ≤ q + m
copies-within r q n m le few = omega (arith, le, few)

pub copies-more : (r m : ℕ) → r ≤ r + m
copies-more r m = omega arith

-- ITS COMMIT, and then its Finish
module _ (w : Owned) (r : Restoration) (can : CanCommit w r) (d : Database) (rows : d.rows ≡ committed_with w.store.rows r.made) where
  pub may-settle : MaySettle w.manager d.rows r.made.tx (moved_in r) r.pieces
  may-settle = subst (λ (x : Commits). MaySettle w.manager x r.made.tx (moved_in r) r.pieces) (sym rows) can.settle

  pub commit-leads : (v : Owned) → folds_on (Some (folds_in (with_store w d))) (whole_finish r.made.tx (moved_in r) (kept_of (folds_in (with_store w d)))) ≡ Some (folds_in v)
      → folds_on (Some (folds_in w)) (commit_part (folds_in w) r.made (moved_in r)) ≡ Some (folds_in v)
  commit-leads v leads =
      ap (λ (o : Option Commits). folds_on (with_rows (folds_in w) o) (whole_finish r.made.tx (moved_in r) (kept_of (folds_in w)))) can.commit
      ∙ ap (λ (x : Commits). folds_on (Some (record (folds_in w) { rows = x })) (whole_finish r.made.tx (moved_in r) (kept_of (folds_in w)))) (sym rows)
      ∙ leads

-- the next number is drawn
abbrev pub with_drawn : Owned → Owned
with_drawn w = record w { store = record w.store { drawn = w.store.drawn + 1 } }

-- as it is where one is left
pub on-drawn : {T P : Type 0} (r : Result T AppendFault) (o : Option Full) → o ≡ None → result_err r ≡ option_map (λ f. appends.Full f) o → OnOk r P → P
on-drawn (Ok x) o left full p = p
on-drawn (Err a) o left full p = absurd (none_some a (sym (full ∙ ap (option_map (λ f. appends.Full f)) left)))

-- its Prepared, as that of the number of its commit
pub at-number : (w v : Owned) (r : Restoration) (n : ℕ) → n ≡ r.made.tx → folds_on (Some (folds_in w)) (prepared n (moved_in r)) ≡ Some (folds_in v) → folds_on (Some (folds_in w)) (prepared r.made.tx (moved_in r)) ≡ Some (folds_in v)
at-number w v r n same = subst (λ (k : ℕ). folds_on (Some (folds_in w)) (prepared k (moved_in r)) ≡ Some (folds_in v)) same

-- ALL OF IT
module _ (w : Owned) (r : Restoration) (can : CanWrite w r) where
  abbrev gone : Moved
  gone = moved_in r

  abbrev tx : ℕ
  tx = r.made.tx

  abbrev f : Folds
  f = folds_in w

  -- its Prepared is taken
  pub first-taken : is_some (folds_on (Some f) (prepared tx gone)) ≡ true
  first-taken = taken-first f (prepared tx gone) (commit_part f r.made gone) can.taken

  -- behind it the branches are others
  module _ (l : Linked) where
    abbrev k : Owned
    k = with_manager w (record w.manager { links = l })

    module _ (leads : folds_on (Some f) (prepared tx gone) ≡ Some (folds_in k)) where
      -- its branch is in doubt
      branched : has_links gone ≡ true → maps.get l.links.table tx ≡ Some (branch gone branch_phases.Prepared)
      branched has = by (may_prepare f.links gone.gives (map (taken_by gone.fill) gone.takes)) refl
        where
          takes : List Taken
          takes = map (taken_by gone.fill) gone.takes

          stepped : with_links f (prepares_on f.links tx gone.gives (map (taken_by gone.fill) gone.takes) None) ≡ Some (folds_in k)
          stepped =
              ap (λ (o : Option branches.Branch). with_links f (prepares_on f.links tx gone.gives (map (taken_by gone.fill) gone.takes) o)) (sym can.free)
              ∙ ap (folds_on (Some f)) (sym (something-prepared tx gone.gives gone.takes gone.fill has)) ∙ leads

          put : Branches
          put = with_branch f.links tx (branch (branches.moved_by gone.gives (map (taken_by gone.fill) gone.takes)) branch_phases.Prepared)

          by : (b : Bool) → may_prepare f.links gone.gives (map (taken_by gone.fill) gone.takes) ≡ b → maps.get l.links.table tx ≡ Some (branch gone branch_phases.Prepared)
          by false e = absurd (none_some (folds_in k) (ap (λ c. with_links f (cond c (Some (with_branch f.links tx (branch (branches.moved_by gone.gives (map (taken_by gone.fill) gone.takes)) branch_phases.Prepared))) None)) (sym e) ∙ stepped))
          by true e =
              let same : record f { links = with_branch f.links tx (branch (branches.moved_by gone.gives (map (taken_by gone.fill) gone.takes)) branch_phases.Prepared) } ≡ folds_in k =
              some_same (record f { links = with_branch f.links tx (branch (branches.moved_by gone.gives (map (taken_by gone.fill) gone.takes)) branch_phases.Prepared) }) (folds_in k)
              (ap (λ c. with_links f (cond c (Some (with_branch f.links tx (branch (branches.moved_by gone.gives (map (taken_by gone.fill) gone.takes)) branch_phases.Prepared))) None)) (sym e) ∙ stepped) in
              ap (λ (g : Folds). maps.get g.links.table tx) (sym same)
              ∙ get-here f.links.table tx (branch (branches.moved_by gone.gives (map (taken_by gone.fill) gone.takes)) branch_phases.Prepared)
              ∙ ap (λ (m : Moved). Some (branch m branch_phases.Prepared)) (moved-back gone can.fill)

      -- the folds take what follows
      finish-taken : (p : Pieces) → has_links gone ≡ true → AreOf p gone (kept_in k.manager) → IsTakenBy k.manager (manager_part tx branch_phases.Prepared gone (kept_in k.manager))
      finish-taken p has of =
          let g : Folds = folds_with (committed_with w.store.rows r.made) w.backups.backups k.manager in
          let second : is_some (folds_on (Some (folds_in k)) (commit_part f r.made gone)) ≡ true =
          ap is_some (sym (folds-then f (folds_in k) (prepared tx gone) (commit_part f r.made gone) leads)) ∙ can.taken in
          let third : is_some (folds_on (Some g) (whole_finish tx gone (kept_of f))) ≡ true =
          ap (λ (o : Option Commits). is_some (folds_on (with_rows (folds_in k) o) (whole_finish tx gone (kept_of f)))) (sym can.commit) ∙ second in
          taken-anywhere k.manager (committed_with w.store.rows r.made) w.backups.backups (manager_part tx branch_phases.Prepared gone (kept_in k.manager))
          (part-managed p tx branch_phases.Prepared gone (kept_in k.manager) of)
          (taken-first g (manager_part tx branch_phases.Prepared gone (kept_in k.manager)) (in_rows (rows_records.Ended tx) ∷ [])
          (ap (λ (ws : List Written). is_some (folds_on (Some g) ws)) (sym (all-finish tx gone (kept_of f) has ∙ finish-last tx branch_phases.Prepared gone (kept_of f))) ∙ third))

      may-then : (o : Option Pieces) → ArePieces w.manager tx gone o → MaySettle k.manager (committed_with w.store.rows r.made) tx gone o
      may-then None are = are
      may-then (Some p) are =
          let of : AreOf p gone (kept_in k.manager) = record { copies = are.of.copies; changes = are.of.changes } in
          record {
            made = record { has = are.has; own = are.own; of = of; room = record { copies = are.room.copies; files = are.room.files } };
            doubt = record { is = branched are.has; open_phase = refl };
            taken = finish-taken p are.has of;
            end = can.end are.has;
          }

      then-commits : CanCommit k r
      then-commits = record { commit = can.commit; room = can.room; settle = may-then r.pieces can.pieces }

  -- so it is of the owners that are left
  module _ (v : Owned) (leads : folds_on (Some f) (prepared tx gone) ≡ Some (folds_in v)) (same : v ≡ record w { manager = record w.manager { links = v.manager.links } }) where
    pub can-commit : CanCommit v r
    can-commit = subst (λ (x : Owned). CanCommit x r) (sym same) (then-commits v.manager.links (leads ∙ ap (λ (x : Owned). Some (folds_in x)) same))

    pub part-same : commit_part (folds_in v) r.made gone ≡ commit_part f r.made gone
    part-same = ap (λ (x : Owned). commit_part (folds_in x) r.made gone) same

    pub all-lead : (n : Owned) → folds_on (Some (folds_in v)) (commit_part (folds_in v) r.made gone) ≡ Some (folds_in n) → folds_on (Some f) (restore_part f r.made gone) ≡ Some (folds_in n)
    all-lead n rest = folds-then f (folds_in v) (prepared tx gone) (commit_part f r.made gone) leads ∙ ap (folds_on (Some (folds_in v))) (sym part-same) ∙ rest

    pub all-writes : as_writes (prepared tx gone) ++ as_writes (commit_part (folds_in v) r.made gone) ≡ as_writes (restore_part f r.made gone)
    all-writes = sym (writes-append (prepared tx gone) (commit_part (folds_in v) r.made gone)) ∙ ap (λ (ws : List Written). as_writes (prepared tx gone ++ ws)) part-same

    -- with the next number drawn
    pub all-lead-drawn : (n u : Owned) → u ≡ with_drawn n → folds_on (Some (folds_in v)) (commit_part (folds_in v) r.made gone) ≡ Some (folds_in n) → folds_on (Some f) (restore_part f r.made gone) ≡ Some (folds_in u)
    all-lead-drawn n u drawn rest = all-lead n rest ∙ ap (λ (x : Owned). Some (folds_in x)) (sym drawn)

    pub commits-same : length v.store.rows.commits + 1 ≡ length w.store.rows.commits + 1
    commits-same = ap (λ (x : Owned). length x.store.rows.commits + 1) same

-- drawing a number touches no area
pub drawn-does : (w u n : Owned) (ws : List Write) (o e : Outside) → n ≡ with_drawn u → Does (journals_of w) (journals_of u) ws None o e → Does (journals_of w) (journals_of n) ws None o e
drawn-does w u n ws o e drawn = subst (λ (x : Owned). Does (journals_of w) (journals_of x) ws None o e) (sym drawn)

-- A STEP THAT ENDS AT ITS FIRST RECORDS ends so with others behind them
pub ends-stop : (js ks : Journals) (ws vs : List Write) (o n : Outside) → ((fault : AppendFault) → Does js ks ws (Some fault) o n → Does js ks (ws ++ vs) (Some fault) o n)
    → (fault : StepFault) → Ends js ks ws (Some fault) o n → Ends js ks (ws ++ vs) (Some fault) o n
ends-stop js ks ws vs o n stop faults.Device ends = stop appends.Device ends
ends-stop js ks ws vs o n stop (faults.Full f) ends = stop (appends.Full f) ends
ends-stop js ks ws vs o n stop faults.Memory ends = ends

-- the pieces that were made
pub has-made : (m n : Managed) (number : ℕ) (all : Moved) (p : Pieces) → Roomier m n → has_links all ≡ true → p.tx ≡ number → AreOf p all (kept_in m) → HaveRoom p n → HasMade n number all p
has-made m n number all p more has own of room = record {
  has = has;
  own = own;
  of = subst (λ (x : Managed). AreOf p all (kept_in x)) (sym more.same) (record { copies = of.copies; changes = of.changes });
  room = room;
}
