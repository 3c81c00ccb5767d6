-- What one statement, and some one after the other, come to over two lists of tables that agree on their names.
use Rattle.std.proofs.Common.{◌≡◌, ℕ, ◌||◌, List, [], ◌∷◌, ◌++◌, Bool, true, false, bytes_eq, refl, sym, ◌∙◌, ap, subst}
use Rattle.dl_base.specs.declared.answer.Answer.{Answer}
use Rattle.dl_base.specs.declared.statement.Stmt.{Stmt}
use Rattle.meaning_merge.specs.History.{is_among}
use Rattle.meaning_merge.specs.Merging.{AreNamed}
use Rattle.meaning_sql.specs.declared.Context.{Context}
use Rattle.meaning_system.specs.Sql.{Evaluated, named_by}
use Rattle.meaning_tables.specs.Tables.{Tables, table_of}
use Rattle.meaning_serial.specs.Alike.{Agree, AreAlike, ReplaysAlike}
use Rattle.meaning_serial.specs.Freely.{evaluated_freely}
use Rattle.meaning_serial.specs.Serial.{Said, names_in, replay}
use Rattle.meaning_serial.proofs.Deeds.{named-deed, other-deed, same-deed}
use Rattle.meaning_serial.proofs.Outcomes.{outcome}

-- tables stay under different names
record Named (names : List (List ℕ)) (ts us : Tables) (e f : Evaluated) : Type 0 where
  alike : AreAlike names ts us e f
  left : AreNamed e.tables
  right : AreNamed f.tables

named : (names : List (List ℕ)) (ts us : Tables) (stmt : Stmt) (context : Context) (k : ℕ) → ((n : List ℕ) → is_among (named_by stmt) n ≡ true → is_among names n ≡ true)
    → AreNamed ts → AreNamed us → Agree names ts us → Named names ts us (evaluated_freely ts stmt context k) (evaluated_freely us stmt context k)
named names ts us stmt context k within one other agree =
    let both = outcome names ts us stmt context k within (λ n is. agree n (within n is)) in
    record {
      alike = record {
        answer = both.answer;
        next = both.next;
        named = λ n among. ap (λ (xs : Tables). table_of xs n) both.right ∙ same-deed both.deed ts us n one other (agree n among) ∙ sym (ap (λ (xs : Tables). table_of xs n) both.left);
        others = (
          (λ n lacks. ap (λ (xs : Tables). table_of xs n) both.left ∙ other-deed names ts both.deed ts n both.valid one lacks),
          (λ n lacks. ap (λ (xs : Tables). table_of xs n) both.right ∙ other-deed names ts both.deed us n both.valid other lacks),
        );
      };
      left = subst (λ (xs : Tables). AreNamed xs) (sym both.left) (named-deed names both.deed ts ts both.valid (λ n among. refl) one);
      right = subst (λ (xs : Tables). AreNamed xs) (sym both.right) (named-deed names both.deed ts us both.valid agree other);
    }

pub alike : (ts us : Tables) (stmt : Stmt) (context : Context) (k : ℕ) → AreNamed ts → AreNamed us → Agree (named_by stmt) ts us → AreAlike (named_by stmt) ts us (evaluated_freely ts stmt context k) (evaluated_freely us stmt context k)
alike ts us stmt context k one other agree = (named (named_by stmt) ts us stmt context k (λ n is. is) one other agree).alike

-- ---- one after the other

among-append : (name : List ℕ) (xs ys : List (List ℕ)) → is_among (xs ++ ys) name ≡ (is_among xs name || is_among ys name)
among-append name [] ys = refl
among-append name (x ∷ xs) ys = by (bytes_eq name x) (among-append name xs ys)
  where
    by : (b : Bool) → is_among (xs ++ ys) name ≡ (is_among xs name || is_among ys name) → (b || is_among (xs ++ ys) name) ≡ ((b || is_among xs name) || is_among ys name)
    by true rest = refl
    by false rest = rest

or-left : (a b : Bool) → a ≡ true → (a || b) ≡ true
or-left a b e = ap (λ x. x || b) e

or-right : (a b : Bool) → b ≡ true → (a || b) ≡ true
or-right true b e = refl
or-right false b e = e

replays : (names : List (List ℕ)) (xs : List Said) (ts us : Tables) (k : ℕ) → ((n : List ℕ) → is_among (names_in xs) n ≡ true → is_among names n ≡ true)
    → AreNamed ts → AreNamed us → Agree names ts us → ReplaysAlike names ts us (replay ts k xs) (replay us k xs)
replays names [] ts us k within one other agree = record { answers = refl; next = refl; named = agree; others = ((λ n lacks. refl), (λ n lacks. refl)) }
replays names (x ∷ xs) ts us k within one other agree =
    let first = named names ts us x.stmt x.context k (λ n is. within n (among-append n (named_by x.stmt) (names_in xs) ∙ or-left (is_among (named_by x.stmt) n) (is_among (names_in xs) n) is)) one other agree in
    let e = evaluated_freely ts x.stmt x.context k in
    let f = evaluated_freely us x.stmt x.context k in
    let rest : ReplaysAlike names e.tables f.tables (replay e.tables e.next xs) (replay f.tables f.next xs) =
    subst (λ (n : ℕ). ReplaysAlike names e.tables f.tables (replay e.tables e.next xs) (replay f.tables n xs)) (sym first.alike.next)
    (replays names xs e.tables f.tables e.next (λ n is. within n (among-append n (named_by x.stmt) (names_in xs) ∙ or-right (is_among (named_by x.stmt) n) (is_among (names_in xs) n) is)) first.left first.right first.alike.named) in
    record {
      answers = ap (λ (a : Answer). a ∷ (replay f.tables f.next xs).answers) first.alike.answer ∙ ap (λ (ys : List Answer). e.answer ∷ ys) rest.answers;
      next = rest.next;
      named = rest.named;
      others = ((λ n lacks. rest.others.0 n lacks ∙ first.alike.others.0 n lacks), (λ n lacks. rest.others.1 n lacks ∙ first.alike.others.1 n lacks));
    }

pub replays-alike : (xs : List Said) (ts us : Tables) (k : ℕ) → AreNamed ts → AreNamed us → Agree (names_in xs) ts us → ReplaysAlike (names_in xs) ts us (replay ts k xs) (replay us k xs)
replays-alike xs ts us k one other agree = replays (names_in xs) xs ts us k (λ n is. is) one other agree
