-- ENTRIES THAT ARE PUT where nothing stands yet.
use Rattle.std.proofs.Common.{◌≡◌, ℕ, nat_eq, Bool, true, false, cond, List, Option, Some, None, is_some, refl, sym, ◌∙◌, ap}
use Rattle.std.specs.Cmp.Lexicographic.{nat_list_eq_equiv, pointwise, texts_ties}
use Rattle.std.specs.Option.{option_or}
use Rattle.compare_files.specs.Effects.{Entries, PutsBehind, entry}
use Rattle.meaning_settling.specs.Keyed.{is_at}
use Rattle.meaning_settling.proofs.KeyedLaws.{false_true, is_at-same}

pub or-none : {A : Type 0} (o : Option A) → option_or o None ≡ o
or-none None = refl
or-none (Some x) = refl

pub or-or : {A : Type 0} (a b d : Option A) → option_or (option_or a b) d ≡ option_or a (option_or b d)
or-or None b d = refl
or-or (Some x) b d = refl

pub turned : (k q : List ℕ) → pointwise nat_eq k q ≡ is_at q k
turned k q = nat_list_eq_equiv.symm k q ∙ texts_ties q k

module _ {X : Type 0} (k : List ℕ) (x : X) where
  pub put-there : (old : Entries X) → is_some (entry old k) ≡ true → PutsBehind old old (λ q. cond (is_at q k) (Some x) None)
  put-there old there q = by (is_at q k) refl
    where
      kept : (o : Option X) → is_some o ≡ true → o ≡ option_or o (Some x)
      kept None e = absurd (false_true e)
      kept (Some y) e = refl

      by : (b : Bool) → is_at q k ≡ b → entry old q ≡ option_or (entry old q) (cond b (Some x) None)
      by true e = kept (entry old q) (ap (λ (j : List ℕ). is_some (entry old j)) (is_at-same q k e) ∙ there)
      by false e = sym (or-none (entry old q))

  pub put-new : (old new : Entries X) → is_some (entry old k) ≡ false → ((q : List ℕ) → entry new q ≡ cond (pointwise nat_eq k q) (Some x) (entry old q)) → PutsBehind old new (λ q. cond (is_at q k) (Some x) None)
  put-new old new none updates q = updates q ∙ ap (λ b. cond b (Some x) (entry old q)) (turned k q) ∙ by (is_at q k) refl
    where
      first : (o : Option X) → is_some o ≡ false → Some x ≡ option_or o (Some x)
      first None e = refl
      first (Some y) e = absurd (false_true (sym e))

      by : (b : Bool) → is_at q k ≡ b → cond b (Some x) (entry old q) ≡ option_or (entry old q) (cond b (Some x) None)
      by true e = first (entry old q) (ap (λ (j : List ℕ). is_some (entry old j)) (is_at-same q k e) ∙ none)
      by false e = sym (or-none (entry old q))

-- what stands and what is to come are what stood and all
abbrev pub Reaches : {X : Type 0} → Entries X → Entries X → (List ℕ → Option X) → (List ℕ → Option X) → Type 0
Reaches old now rest all = (q : List ℕ) → option_or (entry now q) (rest q) ≡ option_or (entry old q) (all q)
