-- Signs: what is found is spelled so, and what is spelled so is found.
use Rattle.std.proofs.Common.{◌≡◌, ℕ, zero, suc, Bool, true, false, ◌||◌, cond, ◌==◌, List, [], ◌∷◌, ◌++◌, length, Some, None, refl, sym, subst}
use Rattle.std.specs.Prelude.{slice_get}
use Rattle.std.proofs.lemmas.Bool.{eqb-true}
use Rattle.sql_lex.specs.declared.lexeme.LexKind.TheVariants.{Sign}
use Rattle.sql_lex.specs.Spelling.{signs, begins, goes_on}
use Rattle.sql_lex.specs.Scan.{Front, sign_front, front}
use Rattle.sql_lex.proofs.Found.{Found, found_if}

-- a sign of one byte, which no byte makes longer
single : (b c k : ℕ) (bs : List ℕ) → (b == c) ≡ true → slice_get signs k ≡ Some (c ∷ []) → begins (goes_on (Sign k)) bs ≡ false → Found (b ∷ bs) (Some (Sign k, 1))
single b c k bs e at ends = (b ∷ [], bs, refl, refl, (subst (λ x. slice_get signs k ≡ Some (x ∷ [])) (sym (eqb-true b c e)) at, ends))

-- a sign of two bytes
double : (b c d k : ℕ) (bs : List ℕ) → (b == c) ≡ true → begins (λ x. x == d) bs ≡ true → slice_get signs k ≡ Some (c ∷ d ∷ []) → ((x : ℕ) → goes_on (Sign k) x ≡ false) → Found (b ∷ bs) (Some (Sign k, 2))
double b c d k [] e f at none = absurd cc
double b c d k (x ∷ bs) e f at none = (b ∷ x ∷ [], bs, refl, refl, (subst (λ y. slice_get signs k ≡ Some (y ∷ x ∷ [])) (sym (eqb-true b c e)) (subst (λ y. slice_get signs k ≡ Some (c ∷ y ∷ [])) (sym (eqb-true x d f)) at), never (goes_on (Sign k)) bs none))
  where
    never : (p : ℕ → Bool) (bs : List ℕ) → ((x : ℕ) → p x ≡ false) → begins p bs ≡ false
    never p [] h = refl
    never p (y ∷ bs) h = h y

never_begins : (bs : List ℕ) (p : ℕ → Bool) → ((x : ℕ) → p x ≡ false) → begins p bs ≡ false
never_begins [] p h = refl
never_begins (x ∷ bs) p h = h x

neither : (bs : List ℕ) → begins (λ c. c == 62) bs ≡ false → begins (λ c. c == 61) bs ≡ false → begins (goes_on (Sign 11)) bs ≡ false
neither [] e f = refl
neither (x ∷ bs) e f = rw (e, f) refl

not_equals : (bs : List ℕ) → begins (λ c. c == 61) bs ≡ false → begins (goes_on (Sign 13)) bs ≡ false
not_equals [] f = refl
not_equals (x ∷ bs) f = rw f refl

pub sign_found : (b : ℕ) (bs : List ℕ) → Found (b ∷ bs) (sign_front b bs)
sign_found b bs =
    found_if (b ∷ bs) (b == 60) _ _ (λ e. found_if (b ∷ bs) (begins (λ c. c == 62) bs) _ _ (λ f. double b 60 62 10 bs e f refl (λ x. refl))
    (λ g. found_if (b ∷ bs) (begins (λ c. c == 61) bs) _ _ (λ f. double b 60 61 12 bs e f refl (λ x. refl)) (λ f. single b 60 11 bs e refl (neither bs g f))))
    (λ _. found_if (b ∷ bs) (b == 62) _ _ (λ e. found_if (b ∷ bs) (begins (λ c. c == 61) bs) _ _ (λ f. double b 62 61 14 bs e f refl (λ x. refl)) (λ f. single b 62 13 bs e refl (not_equals bs f)))
    (λ _. found_if (b ∷ bs) (b == 40) _ _ (λ e. single b 40 0 bs e refl (never_begins bs _ (λ x. refl)))
    (λ _. found_if (b ∷ bs) (b == 41) _ _ (λ e. single b 41 1 bs e refl (never_begins bs _ (λ x. refl)))
    (λ _. found_if (b ∷ bs) (b == 44) _ _ (λ e. single b 44 2 bs e refl (never_begins bs _ (λ x. refl)))
    (λ _. found_if (b ∷ bs) (b == 46) _ _ (λ e. single b 46 3 bs e refl (never_begins bs _ (λ x. refl)))
    (λ _. found_if (b ∷ bs) (b == 59) _ _ (λ e. single b 59 4 bs e refl (never_begins bs _ (λ x. refl)))
    (λ _. found_if (b ∷ bs) (b == 42) _ _ (λ e. single b 42 5 bs e refl (never_begins bs _ (λ x. refl)))
    (λ _. found_if (b ∷ bs) (b == 43) _ _ (λ e. single b 43 6 bs e refl (never_begins bs _ (λ x. refl)))
    (λ _. found_if (b ∷ bs) (b == 45) _ _ (λ e. single b 45 7 bs e refl (never_begins bs _ (λ x. refl)))
    (λ _. found_if (b ∷ bs) (b == 47) _ _ (λ e. single b 47 8 bs e refl (never_begins bs _ (λ x. refl)))
    (λ _. found_if (b ∷ bs) (b == 61) _ None (λ e. single b 61 9 bs e refl (never_begins bs _ (λ x. refl))) (λ _. tt))))))))))))

-- a sign as it is written
written : (s body rest : List ℕ) (k : ℕ) → Some s ≡ Some body → front (s ++ rest) ≡ Some (Sign k, length s) → front (body ++ rest) ≡ Some (Sign k, length body)
written s body rest k e h = let same : s ≡ body = cc in subst (λ (x : List ℕ). front (x ++ rest) ≡ Some (Sign k, length x)) same h

-- `<` and `>` with what may follow them
less_again : (rest : List ℕ) → begins (goes_on (Sign 11)) rest ≡ false → front (60 ∷ rest) ≡ Some (Sign 11, 1)
unfolding front
less_again [] e = refl
less_again (x ∷ rest) e = by_tests (x == 62) (x == 61) e
  where
    by_tests : (p q : Bool) → ((q || p) || false) ≡ false → cond {A = Front} p (Some (Sign 10, 2)) (cond q (Some (Sign 12, 2)) (Some (Sign 11, 1))) ≡ Some (Sign 11, 1)
    by_tests true true e = absurd cc
    by_tests true false e = absurd cc
    by_tests false true e = absurd cc
    by_tests false false e = refl

greater_again : (rest : List ℕ) → begins (goes_on (Sign 13)) rest ≡ false → front (62 ∷ rest) ≡ Some (Sign 13, 1)
unfolding front
greater_again [] e = refl
greater_again (x ∷ rest) e = by_test (x == 61) e
  where
    by_test : (q : Bool) → q ≡ false → cond {A = Front} q (Some (Sign 14, 2)) (Some (Sign 13, 1)) ≡ Some (Sign 13, 1)
    by_test true e = absurd cc
    by_test false e = refl

pattern abbrev six+ : ℕ → ℕ
six+ n = suc (suc (suc (suc (suc (suc n)))))

pub sign_again : (k : ℕ) (body rest : List ℕ) → slice_get signs k ≡ Some body → begins (goes_on (Sign k)) rest ≡ false → front (body ++ rest) ≡ Some (Sign k, length body)
unfolding front
sign_again zero body rest s e = written _ body rest 0 s refl
sign_again (suc zero) body rest s e = written _ body rest 1 s refl
sign_again (suc (suc zero)) body rest s e = written _ body rest 2 s refl
sign_again (suc (suc (suc zero))) body rest s e = written _ body rest 3 s refl
sign_again (suc (suc (suc (suc zero)))) body rest s e = written _ body rest 4 s refl
sign_again (suc (suc (suc (suc (suc zero))))) body rest s e = written _ body rest 5 s refl
sign_again (six+ zero) body rest s e = written _ body rest 6 s refl
sign_again (six+ (suc zero)) body rest s e = written _ body rest 7 s refl
sign_again (six+ (suc (suc zero))) body rest s e = written _ body rest 8 s refl
sign_again (six+ (suc (suc (suc zero)))) body rest s e = written _ body rest 9 s refl
sign_again (six+ (suc (suc (suc (suc zero))))) body rest s e = written _ body rest 10 s refl
sign_again (six+ (suc (suc (suc (suc (suc zero)))))) body rest s e = written _ body rest 11 s (less_again rest e)
sign_again (six+ (six+ zero)) body rest s e = written _ body rest 12 s refl
sign_again (six+ (six+ (suc zero))) body rest s e = written _ body rest 13 s (greater_again rest e)
sign_again (six+ (six+ (suc (suc zero)))) body rest s e = written _ body rest 14 s refl
sign_again (six+ (six+ (suc (suc (suc k))))) body rest s e = absurd cc
