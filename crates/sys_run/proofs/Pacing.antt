-- How far a line is among its turns: one that stores copies has taken a step for each of the first that wait, and sees those behind them.
use Rattle.std.proofs.Common.{◌≡◌, ℕ, zero, suc, ◌+◌, ◌-◌, ◌≤◌, Bool, true, false, cond, List, [], ◌∷◌, ◌++◌, length, map, min, take, drop, slice_get, Option, Some, None, refl, sym, ap, ◌∙◌, subst, arith, length-append}
use Rattle.std.proofs.lemmas.List.{drop_min, length-drop, take_all}
use Rattle.dl_base.specs.declared.answer.Answer.{Answer}
use Rattle.dl_base.specs.declared.answer.Answer.TheVariants as answers
use Rattle.dl_base.specs.declared.step.Step.{Step}
use Rattle.dl_base.specs.declared.step.Step.TheVariants as steps
use Rattle.dl_base.specs.declared.value.LinkNo.{LinkNo}
use Rattle.dl_base.specs.declared.value.LinkRow.{LinkRow}
use Rattle.meaning_areas.specs.Lists.{Folds}
use Rattle.meaning_history.specs.Sound.{AreSound}
use Rattle.meaning_run.specs.Running.{Read, Run, actor_state, pending_links, step_in, stepped, stores_copies, turn}
use Rattle.meaning_script.specs.Expansion.{Then, does, given, answered, silent, archive, archive_first, backup, backup_behind, backup_by, backup_from, expansion, is_archived, last_of, system}
use Rattle.meaning_script.specs.declared.kind.Line.{Line}
use Rattle.meaning_script.specs.declared.kind.Line.TheVariants as lines
use Rattle.meaning_script.specs.declared.kind.Order.TheVariants as orders
use Rattle.meaning_script.specs.declared.next.ActorState.{ActorState}
use Rattle.meaning_system.specs.Machine.{back_up, back_up_at, pending, step, unfinished}
use Rattle.meaning_system.specs.State.{State, Txn}
use Rattle.sys_run.proofs.Fine.{no-pending}
use Rattle.sys_run.proofs.Turns.{next-is, turn-is}
use Rattle.sys_run.specs.Turning.{GoesOn, IsInLine, Sees}

none_some : {A : Type 0} {X : Type 0} (x : A) → None ≡ Some x → X
none_some x e = absurd cc

-- its last step, if there is one, has stored a copy; or it has not
abbrev pub HasStored : Option Answer → Type 0
HasStored None = Unit {0}
HasStored (Some a) = is_archived a ≡ true

abbrev pub HasEnded : Option Answer → Type 0
HasEnded None = ⊥
HasEnded (Some a) = is_archived a ≡ false

-- the links that waited at its begin; what its steps were answered; the state
pub data Pace (line : Line) (waiting : List LinkNo) (done : List Answer) (s : State) : Type 0 where
  short : stores_copies line ≡ false → length done ≤ 5 → Pace line waiting done s
  storing : stores_copies line ≡ true → pending_links s ≡ drop (length done) waiting → HasStored (last_of done) → length done ≤ length waiting → Pace line waiting done s
  ended : line ≡ lines.System orders.Backup → HasEnded (last_of done) → length done ≡ length waiting + 1 → Pace line waiting done s

pub pace-first : (line : Line) (waiting : List LinkNo) (s : State) → (stores_copies line ≡ true → waiting ≡ pending_links s) → Pace line waiting [] s
pace-first line waiting s are = by (stores_copies line) refl
  where
    by : (b : Bool) → stores_copies line ≡ b → Pace line waiting [] s
    by true is = storing is (sym (are is)) tt (omega arith)
    by false is = short is (omega arith)

-- it takes few turns more than there are links
pub pace-bound : (line : Line) (waiting : List LinkNo) (done : List Answer) (s : State) → Pace line waiting done s → length done ≤ length waiting + 5
pace-bound line waiting done s (short none few) = omega (arith, few)
pace-bound line waiting done s (storing is are stored few) = omega (arith, few)
pace-bound line waiting done s (ended is last count) = omega (arith, count)

-- ---- what a line comes to that stores copies

backs-up : (done : List Answer) (p : List LinkNo) (o : Option Answer) → HasEnded o → backup_by done p o ≡ given (length done - 1)
unfolding backup_behind
backs-up done p None last = absurd last
backs-up done p (Some a) last = ap (λ (b : Bool). cond b (backup_from p) (given (length done - 1))) last

goes-on : (done : List Answer) (p : List LinkNo) (o : Option Answer) → HasStored o → backup_by done p o ≡ archive_first p (does steps.Backup)
unfolding backup_from backup_behind
goes-on done p None stored = refl
goes-on done p (Some a) stored = ap (λ (b : Bool). cond b (archive_first p (does steps.Backup)) (given (length done - 1))) stored

given-behind : (actor : ActorState) (done : List Answer) (p : List LinkNo) → HasEnded (last_of done) → expansion (lines.System orders.Backup) actor done p ≡ given (length done - 1)
unfolding expansion system backup
given-behind actor done p last = backs-up done p (last_of done) last

-- the first of the links is archived
first-is : (line : Line) (actor : ActorState) (done : List Answer) (n : LinkNo) (ns : List LinkNo) → stores_copies line ≡ true → HasStored (last_of done) → expansion line actor done (n ∷ ns) ≡ does (steps.Archive n)
unfolding expansion system archive backup
first-is lines.Nothing actor done n ns is stored = absurd cc
first-is (lines.Bad why) actor done n ns is stored = absurd cc
first-is (lines.File l) actor done n ns is stored = absurd cc
first-is (lines.Session name s) actor done n ns is stored = absurd cc
first-is (lines.System orders.Archive) actor done n ns is stored = refl
first-is (lines.System orders.Backup) actor done n ns is stored = goes-on done (n ∷ ns) (last_of done) stored
first-is (lines.System (orders.Tick seconds)) actor done n ns is stored = absurd cc
first-is (lines.System (orders.Restore target)) actor done n ns is stored = absurd cc
first-is (lines.System orders.CrashManager) actor done n ns is stored = absurd cc
first-is (lines.System orders.CrashDatabase) actor done n ns is stored = absurd cc
first-is (lines.System orders.CrashBoth) actor done n ns is stored = absurd cc
first-is (lines.System orders.Resolve) actor done n ns is stored = absurd cc

-- where none is left, only a backup takes a step
last-is : (line : Line) (actor : ActorState) (done : List Answer) (x : Step) → stores_copies line ≡ true → HasStored (last_of done) → step_in (expansion line actor done []) ≡ Some x → (line ≡ lines.System orders.Backup) × (Some steps.Backup ≡ Some x)
unfolding expansion system archive backup
last-is lines.Nothing actor done x is stored next = absurd cc
last-is (lines.Bad why) actor done x is stored next = absurd cc
last-is (lines.File l) actor done x is stored next = absurd cc
last-is (lines.Session name s) actor done x is stored next = absurd cc
last-is (lines.System orders.Archive) actor done x is stored next = none_some x next
last-is (lines.System orders.Backup) actor done x is stored next = (refl, sym (ap step_in (goes-on done [] (last_of done) stored)) ∙ next)
last-is (lines.System (orders.Tick seconds)) actor done x is stored next = absurd cc
last-is (lines.System (orders.Restore target)) actor done x is stored next = absurd cc
last-is (lines.System orders.CrashManager) actor done x is stored next = absurd cc
last-is (lines.System orders.CrashDatabase) actor done x is stored next = absurd cc
last-is (lines.System orders.CrashBoth) actor done x is stored next = absurd cc
last-is (lines.System orders.Resolve) actor done x is stored next = absurd cc

-- it sees the links that are left
pub pace-sees : (line : Line) (waiting : List LinkNo) (done : List Answer) (r : Run) → Pace line waiting done r.state → Sees r line done (drop (length done) waiting)
pace-sees line waiting done r (short none few) = no-pending line (actor_state r line) done (drop (length done) waiting) (pending_links r.state) none
pace-sees line waiting done r (storing is are stored few) = ap (expansion line (actor_state r line) done) (sym are)
pace-sees line waiting done r (ended is last count) =
    subst (λ (k : Line). Sees r k done (drop (length done) waiting)) (sym is)
    (given-behind (actor_state r (lines.System orders.Backup)) done (drop (length done) waiting) last ∙ sym (given-behind (actor_state r (lines.System orders.Backup)) done (pending_links r.state) last))

-- ---- a turn

-- each copy is stored, and the links behind it still wait
pub record StoresEach : Type 0 where
  pub archived : (first : ℕ) (f : Folds) (s : State) (l : LinkRow) (ls : List LinkRow) → AreSound first f s → pending s ≡ l ∷ ls → (step s (steps.Archive l.link)).0 ≡ answers.Archived 1
  pub left : (first : ℕ) (f : Folds) (s : State) (l : LinkRow) (ls : List LinkRow) → AreSound first f s → pending s ≡ l ∷ ls → pending (step s (steps.Archive l.link)).1 ≡ ls

abbrev numbers : List LinkRow → List LinkNo
numbers ls = map (λ (l : LinkRow). l.link) ls

-- a backup is not answered as a copy is
no-copy : (s : State) → is_archived (step s steps.Backup).0 ≡ false
unfolding step
no-copy s = by (unfinished s)
  where
    at : (ls : List LinkRow) → is_archived (back_up_at s ls).0 ≡ false
    at [] = refl
    at (l ∷ ls) = refl

    by : (o : Option (ℕ × Txn)) → is_archived (back_up s o).0 ≡ false
    by None = at (pending s)
    by (Some e) = refl

does-of : (t : Then) (x : Step) → step_in t ≡ Some x → t ≡ does x
does-of (does y) x is = ap (λ (o : Step). does o) (same y x is)
  where
    same : (a b : Step) → Some a ≡ Some b → a ≡ b
    same a b e = cc
does-of (given k) x is = none_some x is
does-of (answered a) x is = none_some x is
does-of silent x is = none_some x is

last-push : (done : List Answer) (a : Answer) → last_of (done ++ a ∷ []) ≡ Some a
last-push done a = ap (λ k. slice_get (done ++ a ∷ []) k) (by (length done) (length (done ++ a ∷ [])) (length-append done (a ∷ []))) ∙ get-end done a
  where
    by : (n m : ℕ) → m ≡ n + 1 → m - 1 ≡ n
    by n m is = omega arith

    get-end : (xs : List Answer) (x : Answer) → slice_get (xs ++ x ∷ []) (length xs) ≡ Some x
    get-end [] x = refl
    get-end (y ∷ ys) x = get-end ys x

-- the rest of some items
pub rest-behind : (k m : ℕ) (waiting : List LinkNo) → m ≡ min k (length waiting) → take (length waiting - m) (drop m waiting) ≡ drop k waiting
rest-behind k m waiting is = take_all (length waiting - m) (drop m waiting) (by (length (drop m waiting)) (length waiting - m) (length-drop m waiting)) ∙ ap (λ (n : ℕ). drop n waiting) is ∙ drop_min k waiting
  where
    by : (a b : ℕ) → a ≡ b → a ≤ b
    by a b is = omega (arith, is)

drop-next : (k : ℕ) (waiting : List LinkNo) (n : LinkNo) (ns : List LinkNo) → drop k waiting ≡ n ∷ ns → (drop (k + 1) waiting ≡ ns) × (k + 1 ≤ length waiting)
drop-next k [] n ns is = absurd (no-items k is)
  where
    no-items : (k : ℕ) → drop k [] ≡ n ∷ ns → ⊥
    no-items zero e = cc
    no-items (suc k) e = cc
drop-next zero (x ∷ xs) n ns is = (tail-is x n xs ns is, omega arith)
  where
    tail-is : (a b : LinkNo) (xs ys : List LinkNo) → a ∷ xs ≡ b ∷ ys → xs ≡ ys
    tail-is a b xs ys e = cc
drop-next (suc k) (x ∷ xs) n ns is = let rest = drop-next k xs n ns is in (ap (λ (m : ℕ). drop m (x ∷ xs)) (plus k) ∙ rest.0, up k (length xs) rest.1)
  where
    plus : (k : ℕ) → suc k + 1 ≡ suc (k + 1)
    plus k = omega arith

    up : (k m : ℕ) → k + 1 ≤ m → suc k + 1 ≤ suc m
    up k m le = omega (arith, le)

drop-none : (k : ℕ) (waiting : List LinkNo) → drop k waiting ≡ [] → k ≤ length waiting → k ≡ length waiting
drop-none zero [] is le = refl
drop-none zero (x ∷ xs) is le = absurd cc
drop-none (suc k) [] is le = omega (arith, le)
drop-none (suc k) (x ∷ xs) is le = ap (λ (m : ℕ). suc m) (drop-none k xs is (down k (length xs) le))
  where
    down : (k m : ℕ) → suc k ≤ suc m → k ≤ m
    down k m le = omega (arith, le)

module _ (each : StoresEach) (number : ℕ) (line : Line) (waiting : List LinkNo) (done later : List Answer) (first : ℕ) (f : Folds) (q : Run) (l : Read) (more : List Read)
    (sound : AreSound first f q.state) (is : IsInLine number line done q l more) (goes : GoesOn number line later q l more) where
  abbrev comes-now : Then
  comes-now = expansion line (actor_state q line) done (pending_links q.state)

  comes : comes-now ≡ does goes.step
  comes = does-of comes-now goes.step (sym (next-is number line done q l more is comes-now refl) ∙ goes.next)

  to : turn q ≡ stepped q goes.step
  to = turn-is number line done q l more is (does goes.step) comes

  abbrev told : Answer
  told = (step q.state goes.step).0

  later-is : later ≡ done ++ told ∷ []
  later-is = sym goes.is.answers ∙ ap (λ (z : Run). z.answers) to ∙ (λ i. is.answers i ++ told ∷ [])

  state-is : (step q.state goes.step).1 ≡ (turn q).state
  state-is = ap (λ (z : Run). z.state) (sym to)

  longer : length later ≡ length done + 1
  longer = ap length later-is ∙ length-append done (told ∷ [])

  last-told : last_of later ≡ Some told
  last-told = ap last_of later-is ∙ last-push done told

  -- a link is left
  one-left : stores_copies line ≡ true → HasStored (last_of done) → (n : LinkNo) (ns : List LinkNo) → pending_links q.state ≡ n ∷ ns → drop (length done) waiting ≡ n ∷ ns → Pace line waiting later (turn q).state
  one-left copies stored n ns are rest = by (pending q.state) refl are
    where
      taken : does (steps.Archive n) ≡ does goes.step
      taken = sym (ap (expansion line (actor_state q line) done) are ∙ first-is line (actor_state q line) done n ns copies stored) ∙ comes

      same-step : (a b : Step) → does a ≡ does b → a ≡ b
      same-step a b e = cc

      heads : (a b : LinkNo) (xs ys : List LinkNo) → a ∷ xs ≡ b ∷ ys → a ≡ b
      heads a b xs ys e = cc

      tails : (a b : LinkNo) (xs ys : List LinkNo) → a ∷ xs ≡ b ∷ ys → xs ≡ ys
      tails a b xs ys e = cc

      by : (ls : List LinkRow) → pending q.state ≡ ls → numbers ls ≡ n ∷ ns → Pace line waiting later (turn q).state
      by [] waits e = absurd cc
      by (w ∷ ws) waits e =
          let x-is : steps.Archive w.link ≡ goes.step = ap (λ (m : LinkNo). steps.Archive m) (heads w.link n (numbers ws) ns e) ∙ same-step (steps.Archive n) goes.step taken in
          let behind = drop-next (length done) waiting n ns rest in
          let archived : told ≡ answers.Archived 1 = subst (λ (x : Step). (step q.state x).0 ≡ answers.Archived 1) x-is (each.archived first f q.state w ws sound waits) in
          let left : pending (step q.state goes.step).1 ≡ ws = subst (λ (x : Step). pending (step q.state x).1 ≡ ws) x-is (each.left first f q.state w ws sound waits) in
          storing copies
          (subst (λ (s : State). pending_links s ≡ drop (length later) waiting) state-is
          (ap numbers left ∙ tails w.link n (numbers ws) ns e ∙ sym behind.0 ∙ ap (λ (k : ℕ). drop k waiting) (sym longer)))
          (subst HasStored (sym last-told) (ap is_archived archived))
          (omega (arith, longer, behind.1))

  -- none is left
  none-left : stores_copies line ≡ true → HasStored (last_of done) → pending_links q.state ≡ [] → length done ≡ length waiting → Pace line waiting later (turn q).state
  none-left copies stored none count =
      let (backs, taken) = last-is line (actor_state q line) done goes.step copies stored (ap step_in (sym (ap (expansion line (actor_state q line) done) none) ∙ comes)) in
      let x-is : steps.Backup ≡ goes.step = same-step steps.Backup goes.step taken in
      ended backs (subst HasEnded (sym last-told) (subst (λ (x : Step). is_archived (step q.state x).0 ≡ false) x-is (no-copy q.state))) (omega (arith, longer, count))
    where
      same-step : (a b : Step) → Some a ≡ Some b → a ≡ b
      same-step a b e = cc

  -- the line is as far behind its turn
  pub pace-next : (stores_copies line ≡ false → length later ≤ 5) → Pace line waiting done q.state → Pace line waiting later (turn q).state
  pace-next few (short none low) = short none (few none)
  pace-next few (storing copies are stored low) = by (drop (length done) waiting) refl
    where
      by : (ns : List LinkNo) → drop (length done) waiting ≡ ns → Pace line waiting later (turn q).state
      by [] rest = none-left copies stored (are ∙ rest) (drop-none (length done) waiting rest low)
      by (n ∷ ns) rest = one-left copies stored n ns (are ∙ rest) rest
  pace-next few (ended backs last count) = none_some goes.step (sym (ap step_in given-now) ∙ next-of)
    where
      given-now : comes-now ≡ given (length done - 1)
      given-now = subst (λ (k : Line). expansion k (actor_state q k) done (pending_links q.state) ≡ given (length done - 1)) (sym backs) (given-behind (actor_state q (lines.System orders.Backup)) done (pending_links q.state) last)

      next-of : step_in comes-now ≡ Some goes.step
      next-of = ap step_in comes
