-- A transaction's statements over its base and over other tables that agree with it on what they name.
use Rattle.std.proofs.Common.{◌≡◌, ℕ, List, [], ◌∷◌, ◌++◌, Bool, true, false, cond, bytes_eq, Some, refl, sym, ◌∙◌, ap, subst}
use Rattle.dl_base.specs.declared.statement.Stmt.{Stmt}
use Rattle.meaning_merge.specs.History.{EachTable, is_among}
use Rattle.meaning_merge.specs.Merging.{AreNamed}
use Rattle.meaning_sql.specs.declared.Context.{Context}
use Rattle.meaning_system.specs.Sql.{Evaluated, named_by}
use Rattle.meaning_tables.specs.Tables.{Rows, Tables, table_of, with_table, without_table}
use Rattle.meaning_serial.specs.Freely.{evaluated_freely}
use Rattle.meaning_serial.proofs.Deeds.{Deed, IsDeed, drops, made-deed, made_in, makes, named-deed, nothing, other-deed, puts, same-deed, some_same, with_deed}
use Rattle.meaning_serial.proofs.Outcomes.{outcome}

-- tables have those of a list in their order, some gone, others with other rows; behind them stand those just made
pub data Stays : Tables → Tables → Type 0 where
  new : {now : Tables} → EachTable now (λ t. t.1.version ≡ 0) → Stays [] now
  goes : {was now : Tables} (t : List ℕ × Rows) → Stays was now → Stays (t ∷ was) now
  has : {was now : Tables} (t : List ℕ × Rows) (later : Rows) → later.version ≡ t.1.version → Stays was now → Stays (t ∷ was) ((t.0, later) ∷ now)

pub stays-self : (ts : Tables) → Stays ts ts
stays-self [] = new tt
stays-self (t ∷ ts) = has t t.1 refl (stays-self ts)

all-more : (ts : Tables) (x : List ℕ × Rows) → x.1.version ≡ 0 → EachTable ts (λ t. t.1.version ≡ 0) → EachTable (ts ++ x ∷ []) (λ t. t.1.version ≡ 0)
all-more [] x is each = (is, tt)
all-more (t ∷ ts) x is each = (each.0, all-more ts x is each.1)

stays-more : {was now : Tables} (x : List ℕ × Rows) → x.1.version ≡ 0 → Stays was now → Stays was (now ++ x ∷ [])
stays-more {now = now} x is (new each) = new (all-more now x is each)
stays-more x is (goes t of) = goes t (stays-more x is of)
stays-more x is (has t later version of) = has t later version (stays-more x is of)

all-less : (ts : Tables) (name : List ℕ) → EachTable ts (λ t. t.1.version ≡ 0) → EachTable (without_table ts name) (λ t. t.1.version ≡ 0)
all-less [] name each = tt
all-less (t ∷ ts) name each = by (bytes_eq name t.0) (all-less ts name each.1)
  where
    by : (b : Bool) → EachTable (without_table ts name) (λ u. u.1.version ≡ 0) → EachTable (cond b ts (t ∷ without_table ts name)) (λ u. u.1.version ≡ 0)
    by true go = each.1
    by false go = (each.0, go)

stays-less : {was now : Tables} (name : List ℕ) → Stays was now → Stays was (without_table now name)
stays-less {now = now} name (new each) = new (all-less now name each)
stays-less name (goes t of) = goes t (stays-less name of)
stays-less name (has {was = was} {now = now} t later version of) = by (bytes_eq name t.0) (stays-less name of)
  where
    by : (b : Bool) → Stays was (without_table now name) → Stays (t ∷ was) (cond b now ((t.0, later) ∷ without_table now name))
    by true go = goes t of
    by false go = has t later version go

all-put : (ts : Tables) (name : List ℕ) (old new_one : Rows) → table_of ts name ≡ Some old → new_one.version ≡ old.version → EachTable ts (λ t. t.1.version ≡ 0) → EachTable (with_table ts name new_one) (λ t. t.1.version ≡ 0)
all-put [] name old new_one is version each = tt
all-put (u ∷ us) name old new_one is version each = by (bytes_eq name u.0) is (λ later. all-put us name old new_one later version each.1)
  where
    by : (b : Bool) → cond b (Some u.1) (table_of us name) ≡ Some old → (table_of us name ≡ Some old → EachTable (with_table us name new_one) (λ t. t.1.version ≡ 0)) → EachTable (cond b ((u.0, new_one) ∷ us) (u ∷ with_table us name new_one)) (λ t. t.1.version ≡ 0)
    by true e go = (version ∙ ap (λ (x : Rows). x.version) (sym (some_same u.1 old e)) ∙ each.0, each.1)
    by false e go = (each.0, go e)

stays-put : {was now : Tables} (name : List ℕ) (old new_one : Rows) → table_of now name ≡ Some old → new_one.version ≡ old.version → Stays was now → Stays was (with_table now name new_one)
stays-put {now = now} name old new_one is version (new each) = new (all-put now name old new_one is version each)
stays-put name old new_one is version (goes t of) = goes t (stays-put name old new_one is version of)
stays-put name old new_one is version (has {was = was} {now = now} t later same of) = by (bytes_eq name t.0) is (λ rest. stays-put name old new_one rest version of)
  where
    by : (b : Bool) → cond b (Some later) (table_of now name) ≡ Some old → (table_of now name ≡ Some old → Stays was (with_table now name new_one)) → Stays (t ∷ was) (cond b ((t.0, new_one) ∷ now) ((t.0, later) ∷ with_table now name new_one))
    by true e go = has t new_one (version ∙ ap (λ (x : Rows). x.version) (sym (some_same later old e)) ∙ same) of
    by false e go = has t later same (go e)

stays-deed : (names : List (List ℕ)) (cs was now : Tables) (deed : Deed) → IsDeed names cs deed → ((name : List ℕ) → is_among names name ≡ true → table_of now name ≡ table_of cs name) → Stays was now → Stays was (with_deed now deed)
stays-deed names cs was now nothing valid same of = of
stays-deed names cs was now (makes name t) valid same of = stays-more (name, t) valid.2 of
stays-deed names cs was now (drops name) valid same of = stays-less name of
stays-deed names cs was now (puts name t) valid same of = stays-put name valid.1 t (same name valid.0 ∙ valid.2) valid.3 of

-- OTHER TABLES BESIDE A COPY: `now` is what became of `was` while the copy became what it is
pub record Beside (names : List (List ℕ)) (was copy now : Tables) : Type 0 where
  pub same : (name : List ℕ) → is_among names name ≡ true → table_of now name ≡ table_of copy name
  pub other : (name : List ℕ) → is_among names name ≡ false → table_of now name ≡ table_of was name
  pub made : made_in now ≡ made_in copy
  pub stays : Stays was now
  pub named : AreNamed now

-- before the first statement
pub beside-first : (base was : Tables) → AreNamed was → made_in was ≡ made_in base → Beside [] was base was
beside-first base was named made = record {
  same = λ name among. absurd (never among);
  other = λ name lacks. refl;
  made = made;
  stays = stays-self was;
  named = named;
}
  where
    never : false ≡ true → ⊥
    never e = cc

-- more names, on which the base, the copy and the other tables are as they were
pub beside-more : (names more : List (List ℕ)) (base was copy now : Tables) → ((name : List ℕ) → is_among more name ≡ false → is_among names name ≡ false)
    → ((name : List ℕ) → is_among names name ≡ false → table_of copy name ≡ table_of base name) → ((name : List ℕ) → is_among more name ≡ true → table_of was name ≡ table_of base name)
    → Beside names was copy now → Beside more was copy now
beside-more names more base was copy now within left agree beside = record {
  same = λ name among. by name among (is_among names name) refl;
  other = λ name lacks. beside.other name (within name lacks);
  made = beside.made;
  stays = beside.stays;
  named = beside.named;
}
  where
    by : (name : List ℕ) → is_among more name ≡ true → (b : Bool) → is_among names name ≡ b → table_of now name ≡ table_of copy name
    by name among true is = beside.same name is
    by name among false is = beside.other name is ∙ agree name among ∙ sym (left name is)

-- one deed
pub beside-deed : (names : List (List ℕ)) (was copy now : Tables) (deed : Deed) → AreNamed copy → IsDeed names copy deed → Beside names was copy now → Beside names was (with_deed copy deed) (with_deed now deed)
beside-deed names was copy now deed named valid beside = record {
  same = λ name among. same-deed deed copy now name named beside.named (beside.same name among);
  other = λ name lacks. other-deed names copy deed now name valid beside.named lacks ∙ beside.other name lacks;
  made = made-deed names deed copy now valid beside.same named beside.named beside.made;
  stays = stays-deed names copy was now deed valid beside.same beside.stays;
  named = named-deed names deed copy now valid beside.same beside.named;
}

-- ONE STATEMENT, all of whose names are among these
pub record Stated (names : List (List ℕ)) (was : Tables) (e f : Evaluated) : Type 0 where
  pub answer : f.answer ≡ e.answer
  pub next : f.next ≡ e.next
  pub named : AreNamed e.tables
  pub beside : Beside names was e.tables f.tables

pub beside-stated : (names : List (List ℕ)) (was copy now : Tables) (stmt : Stmt) (context : Context) (k : ℕ) → AreNamed copy → ((n : List ℕ) → is_among (named_by stmt) n ≡ true → is_among names n ≡ true)
    → Beside names was copy now → Stated names was (evaluated_freely copy stmt context k) (evaluated_freely now stmt context k)
beside-stated names was copy now stmt context k named within beside =
    let one = outcome names copy now stmt context k within (λ n is. beside.same n (within n is)) in
    record {
      answer = one.answer;
      next = one.next;
      named = subst (λ (ts : Tables). AreNamed ts) (sym one.left) (named-deed names one.deed copy copy one.valid (λ name among. refl) named);
      beside = subst (λ (ts : Tables). Beside names was ts (evaluated_freely now stmt context k).tables) (sym one.left) (subst (λ (ts : Tables). Beside names was (with_deed copy one.deed) ts) (sym one.right) (beside-deed names was copy now one.deed named one.valid beside));
    }
