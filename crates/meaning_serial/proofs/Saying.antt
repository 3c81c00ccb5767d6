-- What a statement leaves of its transaction: it is left out, or its transaction has what it was evaluated to.
use Rattle.std.proofs.Common.{◌≡◌, ◌⊎◌, inl, inr, ⊎_elim, ℕ, ◌==◌, ◌++◌, List, [], ◌∷◌, Bool, true, false, cond, Option, Some, None, refl, sym, ◌∙◌, ap, subst}
use Rattle.std.specs.FinMap as maps
use Rattle.std.specs.List.{find}
use Rattle.dl_base.specs.declared.answer.Answer.{Answer}
use Rattle.dl_base.specs.declared.answer.Answer.TheVariants as answers
use Rattle.dl_base.specs.declared.answer.Refusal.{Refusal}
use Rattle.dl_base.specs.declared.answer.Refusal.TheVariants as reasons
use Rattle.dl_base.specs.declared.file.File.{File}
use Rattle.dl_base.specs.declared.sql_fault.SqlFault.{SqlFault}
use Rattle.dl_base.specs.declared.statement.Stmt.{Stmt}
use Rattle.dl_base.specs.declared.value.LinkRow.{LinkRow}
use Rattle.meaning_areas.specs.Commits.{Commit}
use Rattle.meaning_merge.specs.History.{IsTransaction, is_among}
use Rattle.meaning_merge.proofs.Histories.{ordered-named}
use Rattle.meaning_settling.specs.Settling.{on}
use Rattle.meaning_tables.specs.Links.{links}
use Rattle.meaning_tables.specs.Tables.{Tables}
use Rattle.meaning_system.specs.Claims.{busy, busy_on, by_evaluated, claim_refusal, claimed, conflict, doomed, gives_refusal, holds_path, linked, no_file, not_among, or_else, same_moved, seen_or_zero, statement, takes_refusal, version_of, with_names}
use Rattle.meaning_system.specs.Sql.{Evaluated, evaluated, named_by}
use Rattle.meaning_system.specs.State.{State, Txn, context_of, is_doomed, moved_of, tables_of}
use Rattle.meaning_system.proofs.Kept.{made_by}
use Rattle.meaning_history.proofs.Naming.{names-apart}
use Rattle.meaning_serial.specs.Freely.{evaluated_freely, is_left_out, is_no_meaning, is_of_bound}
use Rattle.meaning_serial.specs.Serial.{Said}
use Rattle.meaning_serial.proofs.Freed.{Came, came, free, refusal, result}
use Rattle.meaning_serial.proofs.Replaying.{IsReplayed, replayed-in, replayed-out}

-- ---- what a claim refuses is left out

abbrev Claims : Option Refusal → Type 0
Claims None = Unit {0}
Claims (Some why) = is_no_meaning why ≡ true

or-claims : (a b : Option Refusal) → Claims a → Claims b → Claims (or_else a b)
or-claims None b x y = y
or-claims (Some why) b x y = x

-- the first of three, and of five
first-of-three : (a b c : Option Refusal) → Claims a → Claims b → Claims c → Claims (or_else a (or_else b c))
first-of-three a b c x y z = or-claims a (or_else b c) x (or-claims b c y z)

first-of-five : (a b c d e : Option Refusal) → Claims a → Claims b → Claims c → Claims d → Claims e → Claims (or_else a (or_else b (or_else c (or_else d e))))
first-of-five a b c d e u v x y z = or-claims a (or_else b (or_else c (or_else d e))) u (or-claims b (or_else c (or_else d e)) v (first-of-three c d e x y z))

no-file-claims : (path : List ℕ) (o : Option File) → Claims (no_file path o)
no-file-claims path None = refl
no-file-claims path (Some f) = tt

linked-claims : (path : List ℕ) (o : Option LinkRow) → Claims (linked path o)
linked-claims path None = tt
linked-claims path (Some l) = refl

busy-claims : (path : List ℕ) (o : Option (ℕ × Txn)) → Claims (busy path o)
busy-claims path None = tt
busy-claims path (Some e) = refl

module _ (s : State) (tx : ℕ) where
  takes-claims : (gives earlier ts : List LinkRow) → Claims (takes_refusal s tx gives earlier ts)
  takes-claims gives earlier [] = tt
  takes-claims gives earlier (t ∷ ts) =
      first-of-five (no_file t.path (maps.get s.files t.path)) (linked t.path (on earlier t.path)) (linked t.path (on (not_among gives (links (tables_of s))) t.path)) (busy_on s tx t.path) (takes_refusal s tx gives (earlier ++ t ∷ []) ts)
      (no-file-claims t.path (maps.get s.files t.path)) (linked-claims t.path (on earlier t.path)) (linked-claims t.path (on (not_among gives (links (tables_of s))) t.path))
      (busy-claims t.path (find (holds_path s tx t.path) (maps.entries s.txs))) (takes-claims gives (earlier ++ t ∷ []) ts)

  gives-claims : (gs : List LinkRow) → Claims (gives_refusal s tx gs)
  gives-claims [] = tt
  gives-claims (g ∷ gs) = or-claims (busy_on s tx g.path) (gives_refusal s tx gs) (busy-claims g.path (find (holds_path s tx g.path) (maps.entries s.txs))) (gives-claims gs)

  doomed-claims : (t : Txn) → Claims (doomed s t)
  doomed-claims t = by (is_doomed s t)
    where
      by : (b : Bool) → Claims (cond b (Some (reasons.Doomed (seen_or_zero t.seen) s.links_opening)) None)
      by true = refl
      by false = tt

  conflict-claims : (base now : Tables) (names : List (List ℕ)) → Claims (conflict base now names)
  conflict-claims base now [] = tt
  conflict-claims base now (n ∷ ns) = by (version_of base n == version_of now n) (conflict-claims base now ns)
    where
      by : (b : Bool) → Claims (conflict base now ns) → Claims (cond b (conflict base now ns) (Some (reasons.Conflict n (version_of base n) (version_of now n))))
      by true rest = rest
      by false rest = refl

  claims-claims : (t : Txn) → Claims (claim_refusal s tx t)
  claims-claims t =
      or-claims (doomed s t) (or_else (conflict t.base (tables_of s) t.named) (or_else (takes_refusal s tx (moved_of t).gives [] (moved_of t).takes) (gives_refusal s tx (moved_of t).gives))) (doomed-claims t)
      (first-of-three (conflict t.base (tables_of s) t.named) (takes_refusal s tx (moved_of t).gives [] (moved_of t).takes) (gives_refusal s tx (moved_of t).gives)
      (conflict-claims t.base (tables_of s) t.named) (takes-claims (moved_of t).gives [] (moved_of t).takes) (gives-claims (moved_of t).gives))

-- ---- one statement

-- it is left out, and changes nothing
record LeftOut (t : Txn) (p : Answer × Txn) : Type 0 where
  out : is_left_out p.0 ≡ true
  base : p.1.base ≡ t.base
  copy : p.1.copy ≡ t.copy
  named : p.1.named ≡ t.named
  next : p.1.next ≡ t.next

-- it stands
record Stood (t : Txn) (e : Evaluated) (p : Answer × Txn) : Type 0 where
  stands : is_left_out p.0 ≡ false
  answer : p.0 ≡ e.answer
  base : p.1.base ≡ t.base
  copy : p.1.copy ≡ e.tables
  named : p.1.named ≡ t.named
  next : p.1.next ≡ e.next

abbrev gave : Answer → Tables → ℕ → Evaluated
gave answer after next = record { answer = answer; refused = false; tables = after; next = next }

abbrev gave_not : Tables → ℕ → SqlFault → Evaluated
gave_not tables k fault = record { answer = answers.Refused (reasons.Sql fault); refused = true; tables = tables; next = k }

by-refusal : (t : Txn) (fault : SqlFault) (b : Bool) → is_of_bound fault ≡ b → LeftOut t (answers.Refused (reasons.Sql fault), t) ⊎ Stood t (gave_not t.copy t.next fault) (answers.Refused (reasons.Sql fault), t)
by-refusal t fault true is = inl (record { out = is; base = refl; copy = refl; named = refl; next = refl })
by-refusal t fault false is = inr (record { stands = is; answer = refl; base = refl; copy = refl; named = refl; next = refl })

module _ (s : State) (tx : ℕ) (t : Txn) (answer : Answer) (after : Tables) (next : ℕ) (meant : is_left_out answer ≡ false) where
  by-claim : (o : Option Refusal) → Claims o → LeftOut t (claimed s answer t (made_by t (gave answer after next)) o) ⊎ Stood t (gave answer after next) (claimed s answer t (made_by t (gave answer after next)) o)
  by-claim (Some why) is = inl (record { out = is; base = refl; copy = refl; named = refl; next = refl })
  by-claim None is = inr (record { stands = meant; answer = refl; base = refl; copy = refl; named = refl; next = refl })

  abbrev chosen : Bool → Answer × Txn
  chosen m = cond m (answer, made_by t (gave answer after next)) (claimed s answer t (made_by t (gave answer after next)) (claim_refusal s tx (made_by t (gave answer after next))))

  by-result : (m : Bool) → LeftOut t (chosen m) ⊎ Stood t (gave answer after next) (chosen m)
  by-result true = inr (record { stands = meant; answer = refl; base = refl; copy = refl; named = refl; next = refl })
  by-result false = by-claim (claim_refusal s tx (made_by t (gave answer after next))) (claims-claims s tx (made_by t (gave answer after next)))

by-came : (s : State) (tx : ℕ) (t : Txn) (e : Evaluated) → Came t.copy t.next e → LeftOut t (by_evaluated s tx t e) ⊎ Stood t e (by_evaluated s tx t e)
by-came s tx t e (refusal fault) = by-refusal t fault (is_of_bound fault) refl
by-came s tx t e (result answer after next meant) = by-result s tx t answer after next meant (same_moved (moved_of t) (moved_of (made_by t (gave answer after next))))

-- THE STATEMENT OF A TRANSACTION is one more that is told again
abbrev pub Replayed : Txn → List Said → Type 0
Replayed t xs = IsReplayed t.base t.copy t.named t.next xs

abbrev pub asking : Txn → Stmt → Txn
asking t stmt = record t { named = with_names t.named (named_by stmt) }

abbrev pub saying : State → ℕ → Stmt → Answer → Said
saying s tx stmt answer = record { stmt = stmt; context = context_of s tx; answer = answer }

names-more : (names more : List (List ℕ)) (name : List ℕ) → is_among more name ≡ true → is_among (with_names names more) name ≡ true
names-more names more name is = by (is_among (with_names names more) name) refl
  where
    never : false ≡ true → ⊥
    never f = cc

    by : (b : Bool) → is_among (with_names names more) name ≡ b → b ≡ true
    by true e = refl
    by false e = absurd (never (sym (names-apart names more name e).1 ∙ is))

module _ (first : ℕ) (cs : List Commit) (s : State) (tx : ℕ) (t : Txn) (stmt : Stmt) (xs : List Said) (txn : IsTransaction first cs tx t.base t.copy t.named t.next) (before : Replayed t xs) where
  when-out : (p : Answer × Txn) → LeftOut (asking t stmt) p → Replayed p.1 (xs ++ saying s tx stmt p.0 ∷ [])
  when-out p one =
      subst (λ (b : Tables). IsReplayed b p.1.copy p.1.named p.1.next (xs ++ saying s tx stmt p.0 ∷ [])) (sym one.base)
      (subst (λ (c : Tables). IsReplayed t.base c p.1.named p.1.next (xs ++ saying s tx stmt p.0 ∷ [])) (sym one.copy)
      (subst (λ (ns : List (List ℕ)). IsReplayed t.base t.copy ns p.1.next (xs ++ saying s tx stmt p.0 ∷ [])) (sym one.named)
      (subst (λ (k : ℕ). IsReplayed t.base t.copy (asking t stmt).named k (xs ++ saying s tx stmt p.0 ∷ [])) (sym one.next)
      (replayed-out t.base t.copy t.named (asking t stmt).named t.next xs (λ name lacks. (names-apart t.named (named_by stmt) name lacks).0) txn.named before (saying s tx stmt p.0) one.out))))

  when-stood : (p : Answer × Txn) → Stood (asking t stmt) (evaluated t.copy stmt (context_of s tx) t.next) p → Replayed p.1 (xs ++ saying s tx stmt p.0 ∷ [])
  when-stood p one =
      let freed : evaluated t.copy stmt (context_of s tx) t.next ≡ evaluated_freely t.copy stmt (context_of s tx) t.next = free t.copy stmt (context_of s tx) t.next (sym (ap is_left_out one.answer) ∙ one.stands) in
      subst (λ (b : Tables). IsReplayed b p.1.copy p.1.named p.1.next (xs ++ saying s tx stmt p.0 ∷ [])) (sym one.base)
      (subst (λ (c : Tables). IsReplayed t.base c p.1.named p.1.next (xs ++ saying s tx stmt p.0 ∷ [])) (sym (one.copy ∙ ap (λ (e : Evaluated). e.tables) freed))
      (subst (λ (ns : List (List ℕ)). IsReplayed t.base (evaluated_freely t.copy stmt (context_of s tx) t.next).tables ns p.1.next (xs ++ saying s tx stmt p.0 ∷ [])) (sym one.named)
      (subst (λ (k : ℕ). IsReplayed t.base (evaluated_freely t.copy stmt (context_of s tx) t.next).tables (asking t stmt).named k (xs ++ saying s tx stmt p.0 ∷ [])) (sym (one.next ∙ ap (λ (e : Evaluated). e.next) freed))
      (replayed-in t.base t.copy t.named (asking t stmt).named t.next xs (λ name lacks. (names-apart t.named (named_by stmt) name lacks).0) txn.named before (saying s tx stmt p.0) one.stands (ordered-named t.copy txn.ordered)
      (names-more t.named (named_by stmt)) (one.answer ∙ ap (λ (e : Evaluated). e.answer) freed)))))

  pub said-more : Replayed (statement s tx t stmt).1 (xs ++ saying s tx stmt (statement s tx t stmt).0 ∷ [])
  said-more = ⊎_elim (when-out (statement s tx t stmt)) (when-stood (statement s tx t stmt)) (by-came s tx (asking t stmt) (evaluated t.copy stmt (context_of s tx) t.next) (came t.copy stmt (context_of s tx) t.next))
