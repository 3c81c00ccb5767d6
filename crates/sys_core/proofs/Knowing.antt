-- WHAT A SESSION'S OBJECT TELLS of its transaction.
use Rattle.std.proofs.Common.{◌≡◌, ℕ, not, Option, Some, None, refl, sym, ◌∙◌, ap, subst}
use Rattle.std.specs.FinMap as maps
use Rattle.std.specs.Ordering.{nat_cmp}
use Rattle.db_txn.specs.Transaction.{Transaction}
use Rattle.meaning_areas.proofs.Tables.{get-here, some_same}
use Rattle.meaning_system.proofs.Leading.{txn-there}
use Rattle.meaning_system.specs.State.{State, Txn, ended, is_active, numbered_txn, txn_at, txn_of}
use Rattle.sys_core.proofs.Seating.{less-here}
use Rattle.sys_core.specs.Seated.{HasTxn, shown_by}

none_some : {A : Type 0} (x : A) → None ≡ Some x → ⊥
none_some x e = cc

-- IT HAS THIS TRANSACTION, of this number
pub record Knows (s : State) (v : Transaction) (tx : ℕ) (t : Txn) : Type 0 where
  -- all that it shows
  pub is : v ≡ shown_by v.session (Some (tx, t))
  pub of : txn_of s v.session ≡ Some (tx, t)
  pub there : maps.get s.txs tx ≡ Some t
  pub session : maps.get s.sessions v.session ≡ Some tx
  pub number : v.tx ≡ Some tx
  pub base : v.base ≡ t.base
  pub copy : v.copy ≡ t.copy
  pub named : v.named ≡ t.named
  pub next : v.next ≡ t.next
  pub made : v.made ≡ not (is_active t.phase)
  pub kept : v.kept ≡ None

-- it has none
pub none-of : (s : State) (v : Transaction) → HasTxn s v → v.tx ≡ None → txn_of s v.session ≡ None
none-of s v has none = by (txn_of s v.session) has
  where
    by : (o : Option (ℕ × Txn)) → v ≡ shown_by v.session o → o ≡ None
    by None is = refl
    by (Some e) is = absurd (none_some e.0 (sym none ∙ ap (λ (x : Transaction). x.tx) is))

knows-it : (s : State) (v : Transaction) (e : ℕ × Txn) → txn_of s v.session ≡ Some e → v ≡ shown_by v.session (Some e) → Knows s v e.0 e.1
knows-it s v e of is =
    let there = txn-there s (maps.get s.sessions v.session) e of in
    record {
      is = is;
      of = of;
      there = there.0;
      session = there.1;
      number = ap (λ (x : Transaction). x.tx) is;
      base = ap (λ (x : Transaction). x.base) is;
      copy = ap (λ (x : Transaction). x.copy) is;
      named = ap (λ (x : Transaction). x.named) is;
      next = ap (λ (x : Transaction). x.next) is;
      made = ap (λ (x : Transaction). x.made) is;
      kept = ap (λ (x : Transaction). x.kept) is;
    }

-- it has one
pub some-of : (s : State) (v : Transaction) (tx : ℕ) → HasTxn s v → v.tx ≡ Some tx → (t : Txn) × Knows s v tx t
some-of s v tx has some = by (txn_of s v.session) refl has
  where
    by : (o : Option (ℕ × Txn)) → txn_of s v.session ≡ o → v ≡ shown_by v.session o → (t : Txn) × Knows s v tx t
    by None of is = absurd (none_some tx (sym (ap (λ (x : Transaction). x.tx) is) ∙ some))
    by (Some e) of is =
        let same : e.0 ≡ tx = some_same e.0 tx (sym (ap (λ (x : Transaction). x.tx) is) ∙ some) in
        (e.1, subst (λ (n : ℕ). Knows s v n e.1) same (knows-it s v e of is))

-- WHAT IT IS BEHIND A STEP of its own

-- its transaction has ended
pub ended-txn : (s : State) (session tx : ℕ) → txn_of (ended s session tx) session ≡ None
ended-txn s session tx = ap (txn_at (ended s session tx)) (less-here s.sessions session)

-- its transaction is another one now, of the same number, in a state with the same sessions
pub put-txn : (s later : State) (session tx : ℕ) (t : Txn) → later.sessions ≡ s.sessions → later.txs ≡ maps.insert s.txs tx t → maps.get s.sessions session ≡ Some tx → txn_of later session ≡ Some (tx, t)
put-txn s later session tx t sessions txs of =
    ap (txn_at later) (ap (λ (m : maps.FinMap nat_cmp ℕ). maps.get m session) sessions ∙ of)
    ∙ ap (numbered_txn tx) (ap (λ (m : maps.FinMap nat_cmp Txn). maps.get m tx) txs ∙ get-here s.txs tx t)
