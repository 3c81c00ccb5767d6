-- A statement leads to the lists of the state behind it: a claim is accepted where nobody else holds its paths.
use Rattle.std.proofs.Common.{◌≡◌, ◌≢◌, ◌⊎◌, inl, inr, ⊎_elim, ℕ, List, [], ◌∷◌, ◌++◌, Bool, true, false, not, cond, ◌==◌, ◌&&◌, ◌||◌, map, Option, Some, None, refl, sym, ◌∙◌, ap, subst, arith}
use Rattle.std.proofs.lemmas.Bool.Decides.{nat_tests}
use Rattle.std.specs.Cmp.{unsigned_tied}
use Rattle.std.specs.FinMap as maps
use Rattle.std.specs.FinMap.{find as find_key, get-entries}
use Rattle.std.specs.List.{find, list_any}
use Rattle.std.specs.Ordering.{nat_cmp}
use Rattle.dl_base.specs.declared.answer.Refusal.{Refusal}
use Rattle.dl_base.specs.declared.statement.Stmt.{Stmt}
use Rattle.dl_base.specs.declared.step.Phase.{Phase}
use Rattle.dl_base.specs.declared.step.Phase.TheVariants as phases
use Rattle.dl_base.specs.declared.step.Step.TheVariants as steps
use Rattle.dl_base.specs.declared.value.LinkRow.{LinkRow}
use Rattle.meaning_areas.specs.Core.{Work, with_work}
use Rattle.meaning_areas.specs.Joint.{Joint}
use Rattle.meaning_areas.specs.Lists.{Folds}
use Rattle.meaning_areas.specs.Moving.{core_with}
use Rattle.meaning_areas.proofs.Steps.{joint-claimed, share-none}
use Rattle.meaning_areas.proofs.Tables.{some_same, test-other}
use Rattle.meaning_settling.specs.Apart.{Apart, ShareNoPath, has_key, has_path}
use Rattle.meaning_settling.specs.Keyed.{is_at}
use Rattle.meaning_settling.specs.Settling.{Moved, on}
use Rattle.meaning_settling.proofs.KeyedLaws.{any-append, either, is_at-same}
use Rattle.meaning_tables.specs.Links.{links}
use Rattle.meaning_system.specs.Claims.{busy, busy_on, by_evaluated, claim_refusal, claimed, conflict, doomed, gives_refusal, holds_path, linked, no_file, not_among, or_else, same_moved, statement, takes_refusal, with_names}
use Rattle.meaning_system.specs.CoreOf.{claimed_by, core_of, stage_of, work_at, work_by, work_of}
use Rattle.meaning_system.specs.Following.{Follows, HasOwnNumbers, Leads}
use Rattle.meaning_system.specs.Machine.{on_session, on_txn, step}
use Rattle.meaning_system.specs.Sql.{Evaluated, evaluated, named_by}
use Rattle.meaning_system.specs.State.{State, Txn, context_of, is_doomed, moved_of, number_of, tables_of, txn_of, with_txn}
use Rattle.meaning_system.specs.Writes.{writes}
use Rattle.meaning_system.proofs.Cores.{no-links}
use Rattle.meaning_system.proofs.Kept.{made_by, moved-same}
use Rattle.meaning_system.proofs.Leading.{stays, txn-there, works-are}
use Rattle.meaning_system.proofs.Stepping.{phase-core}

false_true : false ≡ true → ⊥
false_true e = cc

-- refusals in order: where there is none, none of them is
pub or-none : (o later : Option Refusal) → or_else o later ≡ None → (o ≡ None) × (later ≡ None)
or-none (Some why) later e = absurd cc
or-none None later e = (refl, e)

-- who is found under its number passes no test that nobody passes
module _ (test : ℕ × Txn → Bool) (u : ℕ) (v : Txn) where
  pub none-passes : (es : List (ℕ × Txn)) → find test es ≡ None → find_key nat_cmp u es ≡ Some v → test (u, v) ≡ false
  none-passes [] none at = absurd cc
  none-passes (e ∷ es) none at = by (none-passes es) (test e) (u == e.0) refl refl none (ap (λ b. cond b (Some e.1) (find_key nat_cmp u es)) (sym (unsigned_tied u e.0)) ∙ at)
    where
      same : (x y : ℕ) → (x == y) ≡ true → x ≡ y
      same x y is = grind (arith, nat_tests)

      by : (find test es ≡ None → find_key nat_cmp u es ≡ Some v → test (u, v) ≡ false) → (a b : Bool) → test e ≡ a → (u == e.0) ≡ b → cond a (Some e) (find test es) ≡ None → cond b (Some e.1) (find_key nat_cmp u es) ≡ Some v → test (u, v) ≡ false
      by rest true b passes here nobody found = absurd cc
      by rest false true passes here nobody found =
          let is : e ≡ (u, v) = λ i. (sym (same u e.0 here) i, some_same e.1 v found i) in
          sym (ap test is) ∙ passes
      by rest false false passes here nobody found = rest nobody found

-- a path that is not busy is held by nobody else
not-busy : (path : List ℕ) (o : Option (ℕ × Txn)) → busy path o ≡ None → o ≡ None
not-busy path None e = refl
not-busy path (Some x) e = absurd cc

held-by-none : (s : State) (tx : ℕ) (path : List ℕ) (u : ℕ) (v : Txn) → busy_on s tx path ≡ None → u ≢ tx → maps.get s.txs u ≡ Some v → has_path (claimed_by (is_doomed s v) (moved_of v)) path ≡ false
held-by-none s tx path u v free other at = by (is_doomed s v) (u == tx) (test-other u tx other)
    (none-passes (holds_path s tx path) u v (maps.entries s.txs) (not-busy path (find (holds_path s tx path) (maps.entries s.txs)) free) (sym (get-entries s.txs u) ∙ at))
  where
    by : (d a : Bool) → a ≡ false → (not a && not d && has_path (moved_of v) path) ≡ false → has_path (claimed_by d (moved_of v)) path ≡ false
    by true a is e = refl
    by false true is e = absurd cc
    by false false is e = e

-- the paths of an accepted claim are not busy

takes-free : (s : State) (tx : ℕ) (gs earlier ts : List LinkRow) (p : List ℕ) → takes_refusal s tx gs earlier ts ≡ None → list_any (is_at p) (map (λ l. l.path) ts) ≡ true → busy_on s tx p ≡ None
takes-free s tx gs earlier [] p none has = absurd cc
takes-free s tx gs earlier (t ∷ ts) p none has =
    let one = or-none (no_file t.path (maps.get s.files t.path)) _ none in
    let two = or-none (linked t.path (on earlier t.path)) _ one.1 in
    let three = or-none (linked t.path (on (not_among gs (links (tables_of s))) t.path)) _ two.1 in
    let four = or-none (busy_on s tx t.path) _ three.1 in
    by (is_at p t.path) refl has four.0 (takes-free s tx gs (earlier ++ t ∷ []) ts p four.1)
  where
    by : (b : Bool) → is_at p t.path ≡ b → (b || list_any (is_at p) (map (λ (l : LinkRow). l.path) ts)) ≡ true → busy_on s tx t.path ≡ None → (list_any (is_at p) (map (λ (l : LinkRow). l.path) ts) ≡ true → busy_on s tx p ≡ None) → busy_on s tx p ≡ None
    by true here any free rest = ap (busy_on s tx) (is_at-same p t.path here) ∙ free
    by false here any free rest = rest any

gives-free : (s : State) (tx : ℕ) (gs : List LinkRow) (p : List ℕ) → gives_refusal s tx gs ≡ None → list_any (is_at p) (map (λ l. l.path) gs) ≡ true → busy_on s tx p ≡ None
gives-free s tx [] p none has = absurd cc
gives-free s tx (g ∷ gs) p none has = let one = or-none (busy_on s tx g.path) _ none in by (is_at p g.path) refl has one.0 (gives-free s tx gs p one.1)
  where
    by : (b : Bool) → is_at p g.path ≡ b → (b || list_any (is_at p) (map (λ (l : LinkRow). l.path) gs)) ≡ true → busy_on s tx g.path ≡ None → (list_any (is_at p) (map (λ (l : LinkRow). l.path) gs) ≡ true → busy_on s tx p ≡ None) → busy_on s tx p ≡ None
    by true here any free rest = ap (busy_on s tx) (is_at-same p g.path here) ∙ free
    by false here any free rest = rest any

-- AN ACCEPTED CLAIM is on other paths than all other transactions, and so apart from them if its numbers are its own
module _ (s : State) (tx : ℕ) (t : Txn) (accepted : claim_refusal s tx t ≡ None) where
  paths-free : (p : List ℕ) → has_path (moved_of t) p ≡ true → busy_on s tx p ≡ None
  paths-free p has =
      let one = or-none (doomed s t) _ accepted in
      let two = or-none (conflict t.base (tables_of s) t.named) _ one.1 in
      let three = or-none (takes_refusal s tx (moved_of t).gives [] (moved_of t).takes) _ two.1 in
      by (list_any (is_at p) (map (λ (l : LinkRow). l.path) (moved_of t).gives)) refl
      (sym (any-append (is_at p) (map (λ (l : LinkRow). l.path) (moved_of t).gives) (map (λ (l : LinkRow). l.path) (moved_of t).takes)) ∙ has) three.0 three.1
    where
      by : (b : Bool) → list_any (is_at p) (map (λ (l : LinkRow). l.path) (moved_of t).gives) ≡ b → (b || list_any (is_at p) (map (λ (l : LinkRow). l.path) (moved_of t).takes)) ≡ true
          → takes_refusal s tx (moved_of t).gives [] (moved_of t).takes ≡ None → gives_refusal s tx (moved_of t).gives ≡ None → busy_on s tx p ≡ None
      by true given any takes gives = gives-free s tx (moved_of t).gives p gives given
      by false given any takes gives = takes-free s tx (moved_of t).gives [] (moved_of t).takes p takes any

  claim-paths : (u : ℕ) (v : Txn) → u ≢ tx → maps.get s.txs u ≡ Some v → ShareNoPath (moved_of t) (work_of s v).moved
  claim-paths u v other at p = ⊎_elim
      (λ (has : has_path (moved_of t) p ≡ true). inr (held-by-none s tx p u v (paths-free p has) other at))
      (λ (lacks : has_path (moved_of t) p ≡ false). inl lacks)
      (either (has_path (moved_of t) p))

  pub claim-apart : HasOwnNumbers s tx t → (u : ℕ) (v : Txn) → u ≢ tx → maps.get s.txs u ≡ Some v → Apart (moved_of t) (work_of s v).moved
  claim-apart own u v other at = record { paths = claim-paths u v other at; keys = λ n. by n (is_doomed s v) refl }
    where
      by : (n : List ℕ) (d : Bool) → is_doomed s v ≡ d → (has_key (moved_of t) n ≡ false) ⊎ (has_key (claimed_by d (moved_of v)) n ≡ false)
      by n true doomed_too = inr refl
      by n false live = own u v other at live n

-- A STATEMENT
module _ (f : Folds) (s : State) (follows : Follows f s) (tx : ℕ) (t : Txn) (at : maps.get s.txs tx ≡ Some t) (is : t.phase ≡ phases.Active) where
  here : (core_of s).works tx ≡ Some (work_of s t)
  here = works-are f s follows tx t at (work_of s t) refl

  -- the same claim
  same-claim : (later : Txn) → work_of s later ≡ work_of s t → Leads f [] (with_txn s tx later)
  same-claim later same =
      let claims : Joint f (core_with (core_of s) (with_work (core_of s).works tx (Some (work_of s t))) (number_of s)) =
      joint-claimed f (core_of s) follows.joint tx (work_of s t) here (work_of s t) (ap stage_of is) (ap stage_of is) (λ u v other there. follows.joint.apart tx u (λ (e : tx ≡ u). other (sym e)) (work_of s t) v here there) (follows.joint.plain tx (work_of s t) here) in
      let P : Work → Type 0 = λ w. Joint f (core_with (core_of s) (with_work (core_of s).works tx (Some w)) (number_of s)) in
      record { later = f; taken = refl; follows = record { joint = subst (Joint f) (sym (phase-core s tx later)) (subst P (sym same) claims); uncut = follows.uncut } }

  -- a claim that is accepted
  other-claim : (later : Txn) → later.phase ≡ phases.Active → ((u : ℕ) (v : Txn) → u ≢ tx → maps.get s.txs u ≡ Some v → ShareNoPath (moved_of later) (work_of s v).moved) → Leads f [] (with_txn s tx later)
  other-claim later phase apart =
      let claims : Joint f (core_with (core_of s) (with_work (core_of s).works tx (Some (work_of s later))) (number_of s)) =
      joint-claimed f (core_of s) follows.joint tx (work_of s t) here (work_of s later) (ap stage_of is) (ap stage_of phase) (λ u v other there. by u v other (maps.get s.txs u) refl there) (no-links (work_of s later).moved) in
      record { later = f; taken = refl; follows = record { joint = subst (Joint f) (sym (phase-core s tx later)) claims; uncut = follows.uncut } }
    where
      if_doomed : (d : Bool) (b : Moved) → ShareNoPath (moved_of later) b → ShareNoPath (claimed_by d (moved_of later)) b
      if_doomed true b two = share-none b
      if_doomed false b two = two

      by : (u : ℕ) (v : Work) → u ≢ tx → (o : Option Txn) → maps.get s.txs u ≡ o → work_at s o ≡ Some v → ShareNoPath (work_of s later).moved v.moved
      by u v other None there found = absurd cc
      by u v other (Some x) there found =
          let P : Work → Type 0 = λ w. ShareNoPath (work_of s later).moved w.moved in
          subst P (some_same (work_of s x) v found) (if_doomed (is_doomed s later) (work_of s x).moved (apart u x other there))

  -- what is evaluated, of the transaction with more names
  abbrev named_as : List (List ℕ) → Txn
  named_as names = record t { named = names }

  states : (names : List (List ℕ)) (e : Evaluated) → Leads f [] (with_txn s tx (by_evaluated s tx (record t { named = names }) e).1)
  states names e = by e.refused (same_moved (moved_of t) (moved_of (made_by (named_as names) e))) refl
    where
      claim : (o : Option Refusal) → claim_refusal s tx (made_by (named_as names) e) ≡ o → Leads f [] (with_txn s tx (claimed s e.answer (named_as names) (made_by (named_as names) e) o).1)
      claim (Some why) refused = same-claim (named_as names) refl
      claim None accepted = other-claim (claimed s e.answer (named_as names) (made_by (named_as names) e) None).1 is (claim-paths s tx (made_by (named_as names) e) accepted)

      by : (r m : Bool) → same_moved (moved_of t) (moved_of (made_by (named_as names) e)) ≡ m
          → Leads f [] (with_txn s tx (cond r (e.answer, (named_as names)) (cond m (e.answer, (made_by (named_as names) e)) (claimed s e.answer (named_as names) (made_by (named_as names) e) (claim_refusal s tx (made_by (named_as names) e))))).1)
      by true m same = same-claim (named_as names) refl
      by false true same = same-claim (made_by (named_as names) e) (ap (λ (m : Moved). work_by t.phase (claimed_by (is_doomed s t) m)) (moved-same t (made_by (named_as names) e) same))
      by false false same = claim (claim_refusal s tx (made_by (named_as names) e)) refl

  on-statement : (session : ℕ) (stmt : Stmt) → Leads f [] (with_txn s tx (statement s tx t stmt).1)
  on-statement session stmt = states (with_names t.named (named_by stmt)) (evaluated t.copy stmt (context_of s tx) t.next)

on-phase : (f : Folds) (s : State) (follows : Follows f s) (tx : ℕ) (t : Txn) → maps.get s.txs tx ≡ Some t → (session : ℕ) (stmt : Stmt) → (p : Phase) → t.phase ≡ p → Leads f [] (on_txn s (steps.Statement session stmt) tx t p).1
on-phase f s follows tx t at session stmt phases.Active is = on-statement f s follows tx t at is session stmt
on-phase f s follows tx t at session stmt phases.Prepared is = stays f s follows
on-phase f s follows tx t at session stmt phases.Decided is = stays f s follows
on-phase f s follows tx t at session stmt phases.Finished is = stays f s follows
on-phase f s follows tx t at session stmt phases.Dropped is = stays f s follows

pub leads-statement : (f : Folds) (s : State) (session : ℕ) (stmt : Stmt) → Follows f s → Leads f (writes s (steps.Statement session stmt)) (step s (steps.Statement session stmt)).1
unfolding step writes
leads-statement f s session stmt follows = by (txn_of s session) refl
  where
    by : (o : Option (ℕ × Txn)) → txn_of s session ≡ o → Leads f [] (on_session s (steps.Statement session stmt) o).1
    by None e = stays f s follows
    by (Some x) e = let found = txn-there s (maps.get s.sessions session) x e in on-phase f s follows x.0 x.1 found.0 session stmt x.1.phase refl
