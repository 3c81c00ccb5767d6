-- The statements of a transaction once more, on whatever tables agree with its base on what they name.
use Rattle.std.proofs.Common.{◌≡◌, ℕ, ◌==◌, List, [], ◌∷◌, ◌++◌, Bool, true, false, not, cond, map, refl, sym, ◌∙◌, ap, subst}
use Rattle.dl_base.specs.declared.answer.Answer.{Answer}
use Rattle.meaning_merge.specs.History.{EachTable, is_among}
use Rattle.meaning_merge.specs.Merging.{AreNamed}
use Rattle.meaning_system.specs.Sql.{Evaluated, named_by}
use Rattle.meaning_tables.specs.Tables.{Tables, table_of}
use Rattle.meaning_serial.specs.Alike.{Agree}
use Rattle.meaning_serial.specs.Freely.{evaluated_freely, is_left_out}
use Rattle.meaning_serial.specs.Serial.{Replay, Said, behind, replay, standing}
use Rattle.meaning_serial.proofs.Beside.{Beside, Stated, beside-first, beside-more, beside-stated}
use Rattle.meaning_serial.proofs.Merging.{made-none}

-- ---- one more statement

abbrev after_more : Replay → Said → Evaluated
after_more r x = evaluated_freely r.tables x.stmt x.context r.next

abbrev one_more : Evaluated → List Answer → Replay
one_more e answers = record { tables = e.tables; next = e.next; answers = answers ++ e.answer ∷ [] }

replay-last : (ts : Tables) (k : ℕ) (xs : List Said) (x : Said)
    → replay ts k (xs ++ x ∷ []) ≡ one_more (after_more (replay ts k xs) x) (replay ts k xs).answers
replay-last ts k [] x = refl
replay-last ts k (y ∷ ys) x =
    ap (behind (evaluated_freely ts y.stmt y.context k)) (replay-last (evaluated_freely ts y.stmt y.context k).tables (evaluated_freely ts y.stmt y.context k).next ys x)

standing-append : (xs ys : List Said) → standing (xs ++ ys) ≡ standing xs ++ standing ys
standing-append [] ys = refl
standing-append (x ∷ xs) ys = by (not (is_left_out x.answer)) (standing-append xs ys)
  where
    by : (b : Bool) → standing (xs ++ ys) ≡ standing xs ++ standing ys → cond b (x ∷ standing (xs ++ ys)) (standing (xs ++ ys)) ≡ cond b (x ∷ standing xs) (standing xs) ++ standing ys
    by true e = ap (λ (zs : List Said). x ∷ zs) e
    by false e = e

no-more : (xs : List Said) → xs ++ [] ≡ xs
no-more [] = refl
no-more (x ∷ xs) = ap (λ (ys : List Said). x ∷ ys) (no-more xs)

pub standing-out : (xs : List Said) (x : Said) → is_left_out x.answer ≡ true → standing (xs ++ x ∷ []) ≡ standing xs
standing-out xs x out = standing-append xs (x ∷ []) ∙ ap (λ b. standing xs ++ cond (not b) (x ∷ []) []) out ∙ no-more (standing xs)

pub standing-in : (xs : List Said) (x : Said) → is_left_out x.answer ≡ false → standing (xs ++ x ∷ []) ≡ standing xs ++ x ∷ []
standing-in xs x stands = standing-append xs (x ∷ []) ∙ ap (λ b. standing xs ++ cond (not b) (x ∷ []) []) stands

map-append : (xs ys : List Said) → map (λ (x : Said). x.answer) (xs ++ ys) ≡ map (λ (x : Said). x.answer) xs ++ map (λ (x : Said). x.answer) ys
map-append [] ys = refl
map-append (x ∷ xs) ys = ap (λ (zs : List Answer). x.answer ∷ zs) (map-append xs ys)

-- ---- a transaction

abbrev pub AreOld : Tables → Type 0
AreOld ts = EachTable ts (λ t. (t.1.version == 0) ≡ false)

-- what its statements do to other tables
pub record Replays (names : List (List ℕ)) (copy : Tables) (next : ℕ) (xs : List Said) (was : Tables) : Type 0 where
  pub answers : (replay was 1 xs).answers ≡ map (λ (x : Said). x.answer) xs
  pub number : (replay was 1 xs).next ≡ next
  pub beside : Beside names was copy (replay was 1 xs).tables

-- WHATEVER TABLES agree with its base on the names of its statements: these answer the same, and leave the tables beside its copy
abbrev pub IsReplayed : Tables → Tables → List (List ℕ) → ℕ → List Said → Type 0
IsReplayed base copy names next xs = (was : Tables) → AreNamed was → AreOld was → Agree names base was → Replays names copy next (standing xs) was

pub replayed-first : (base : Tables) → AreOld base → IsReplayed base base [] 1 []
replayed-first base old was named fresh agree = record { answers = refl; number = refl; beside = beside-first base was named (made-none was fresh ∙ sym (made-none base old)) }

-- A STATEMENT MORE
module _ (base copy : Tables) (names more : List (List ℕ)) (next : ℕ) (xs : List Said)
    (within : (name : List ℕ) → is_among more name ≡ false → is_among names name ≡ false) (left : (name : List ℕ) → is_among names name ≡ false → table_of copy name ≡ table_of base name)
    (before : IsReplayed base copy names next xs) where
  contra : (was : Tables) → Agree more base was → Agree names base was
  contra was agree name among = by (is_among more name) refl
    where
      by : (b : Bool) → is_among more name ≡ b → table_of was name ≡ table_of base name
      by true is = agree name is
      by false is = absurd (never (sym (within name is) ∙ among))
        where
          never : false ≡ true → ⊥
          never e = cc

  -- more names alone
  pub replayed-named : IsReplayed base copy more next xs
  replayed-named was named fresh agree =
      let one = before was named fresh (contra was agree) in
      record { answers = one.answers; number = one.number; beside = beside-more names more base was copy (replay was 1 (standing xs)).tables within left agree one.beside }

  -- one that is left out
  pub replayed-out : (x : Said) → is_left_out x.answer ≡ true → IsReplayed base copy more next (xs ++ x ∷ [])
  replayed-out x out was named fresh agree = subst (λ (ys : List Said). Replays more copy next ys was) (sym (standing-out xs x out)) (replayed-named was named fresh agree)

  -- one that stands
  pub replayed-in : (x : Said) → is_left_out x.answer ≡ false → AreNamed copy → ((n : List ℕ) → is_among (named_by x.stmt) n ≡ true → is_among more n ≡ true)
      → x.answer ≡ (evaluated_freely copy x.stmt x.context next).answer
      → IsReplayed base (evaluated_freely copy x.stmt x.context next).tables more (evaluated_freely copy x.stmt x.context next).next (xs ++ x ∷ [])
  replayed-in x stands copied among answered was named fresh agree =
      subst (λ (ys : List Said). Replays more (evaluated_freely copy x.stmt x.context next).tables (evaluated_freely copy x.stmt x.context next).next ys was) (sym (standing-in xs x stands)) (record {
        answers =
            ap (λ (r : Replay). r.answers) (replay-last was 1 (standing xs) x)
            ∙ ap (λ (ys : List Answer). ys ++ (after_more (replay was 1 (standing xs)) x).answer ∷ []) one.answers
            ∙ ap (λ (a : Answer). map (λ (y : Said). y.answer) (standing xs) ++ a ∷ []) (said.answer ∙ sym answered)
            ∙ sym (map-append (standing xs) (x ∷ []));
        number = ap (λ (r : Replay). r.next) (replay-last was 1 (standing xs) x) ∙ said.next;
        beside = subst (λ (r : Replay). Beside more was (evaluated_freely copy x.stmt x.context next).tables r.tables) (sym (replay-last was 1 (standing xs) x)) said.beside;
      })
    where
      one : Replays more copy next (standing xs) was
      one = replayed-named was named fresh agree

      said : Stated more was (evaluated_freely copy x.stmt x.context next) (after_more (replay was 1 (standing xs)) x)
      said = subst (λ (k : ℕ). Stated more was (evaluated_freely copy x.stmt x.context next) (evaluated_freely (replay was 1 (standing xs)).tables x.stmt x.context k)) (sym one.number)
          (beside-stated more was copy (replay was 1 (standing xs)).tables x.stmt x.context next copied among one.beside)
