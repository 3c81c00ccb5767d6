-- Names of tables that a statement adds, and the versions that a commit without a conflict has seen.
use Rattle.std.proofs.Common.{◌≡◌, ℕ, ◌==◌, List, [], ◌∷◌, ◌++◌, Bool, true, false, cond, ◌||◌, bytes_eq, Some, None, refl, sym, ◌∙◌, ap, arith}
use Rattle.std.proofs.lemmas.Bool.Decides.{nat_tests}
use Rattle.std.specs.List.{list_any}
use Rattle.dl_base.specs.declared.answer.Refusal.TheVariants as reasons
use Rattle.dl_base.specs.declared.statement.Stmt.{Stmt}
use Rattle.dl_base.specs.declared.statement.Stmt.TheVariants as statements
use Rattle.meaning_merge.specs.History.{AreCurrent, changed_by, is_among}
use Rattle.meaning_merge.proofs.Keeping.{name-same}
use Rattle.meaning_tables.specs.Tables.{Tables, table_of, version}
use Rattle.meaning_system.specs.Claims.{conflict, version_of, with_names}
use Rattle.meaning_system.specs.Sql.{named_by}

false_true : false ≡ true → ⊥
false_true e = cc

pub either : (a b : Bool) → (a || b) ≡ false → (a ≡ false) × (b ≡ false)
either true b e = absurd (false_true (sym e))
either false b e = (refl, e)

among-append : (name : List ℕ) (xs ys : List (List ℕ)) → is_among (xs ++ ys) name ≡ (is_among xs name || is_among ys name)
among-append name [] ys = refl
among-append name (x ∷ xs) ys = by (bytes_eq name x) (among-append name xs ys)
  where
    by : (b : Bool) → is_among (xs ++ ys) name ≡ (is_among xs name || is_among ys name) → (b || is_among (xs ++ ys) name) ≡ ((b || is_among xs name) || is_among ys name)
    by true rest = refl
    by false rest = rest

-- a name that is not among more names is among neither
pub names-apart : (names more : List (List ℕ)) (name : List ℕ) → is_among (with_names names more) name ≡ false → (is_among names name ≡ false) × (is_among more name ≡ false)
names-apart names [] name e = (e, refl)
names-apart names (n ∷ ns) name e = by (list_any (bytes_eq n) names) refl (names-apart (cond (list_any (bytes_eq n) names) names (names ++ n ∷ [])) ns name e)
  where
    or-false : (a b : Bool) → a ≡ false → b ≡ false → (a || b) ≡ false
    or-false true b e f = absurd (false_true (sym e))
    or-false false b e f = f

    other : (b : Bool) → bytes_eq name n ≡ b → list_any (bytes_eq n) names ≡ true → is_among names name ≡ false → b ≡ false
    other true same here there = absurd (false_true (sym there ∙ ap (λ m. list_any (bytes_eq m) names) (name-same name n same) ∙ here))
    other false same here there = refl

    by : (b : Bool) → list_any (bytes_eq n) names ≡ b → (is_among (cond b names (names ++ n ∷ [])) name ≡ false) × (is_among ns name ≡ false) → (is_among names name ≡ false) × (is_among (n ∷ ns) name ≡ false)
    by true here rest = (rest.0, or-false (bytes_eq name n) (is_among ns name) (other (bytes_eq name n) refl here rest.0) rest.1)
    by false here rest =
        let two = either (is_among names name) (bytes_eq name n || false) (sym (among-append name names (n ∷ [])) ∙ rest.0) in
        (two.0, or-false (bytes_eq name n) (is_among ns name) (either (bytes_eq name n) false two.1).0 rest.1)

-- what a statement changes it names
pub changed-named : (stmt : Stmt) (name : List ℕ) → is_among (named_by stmt) name ≡ false → is_among (changed_by stmt) name ≡ false
changed-named statements.Begin name e = refl
changed-named statements.Commit name e = refl
changed-named statements.Rollback name e = refl
changed-named (statements.CreateTable n columns) name e = e
changed-named (statements.DropTable n) name e = e
changed-named (statements.Insert n names tuples) name e = e
changed-named (statements.Update n sets filter) name e = e
changed-named (statements.Delete n filter) name e = e
changed-named (statements.Select q) name e = refl

-- versions

same-number : (a b : ℕ) → (a == b) ≡ true → a ≡ b
same-number a b e = grind (arith, nat_tests)

pub current : (base now : Tables) (names : List (List ℕ)) → conflict base now names ≡ None → AreCurrent base now names
current base now [] none name among = absurd (false_true among)
current base now (n ∷ ns) none name among = by (current base now ns) (version_of base n == version_of now n) refl none
  where
    here : ((m : List ℕ) → is_among ns m ≡ true → version (table_of base m) ≡ version (table_of now m)) → version_of base n ≡ version_of now n → (b : Bool) → bytes_eq name n ≡ b → (b || is_among ns name) ≡ true → version (table_of base name) ≡ version (table_of now name)
    here rest seen true is any =
        let e : name ≡ n = name-same name n is in
        ap (λ m. version (table_of base m)) e ∙ seen ∙ ap (λ m. version (table_of now m)) (sym e)
    here rest seen false is any = rest name any

    by : (conflict base now ns ≡ None → AreCurrent base now ns) → (b : Bool) → (version_of base n == version_of now n) ≡ b → cond b (conflict base now ns) (Some (reasons.Conflict n (version_of base n) (version_of now n))) ≡ None
        → version (table_of base name) ≡ version (table_of now name)
    by rest true is passes = here (rest passes) (same-number (version_of base n) (version_of now n) is) (bytes_eq name n) refl among
    by rest false is passes = absurd cc
