-- What a walk says of link numbers: where the old ones differ, and none is ahead, so it is of the new ones.
use Rattle.std.proofs.Common.{◌≡◌, ◌≢◌, ◌&&◌, ◌||◌, ◌<◌, ◌≤◌, ℕ, suc, Bool, true, false, not, List, [], ◌∷◌, map, refl, sym, ap, ◌∙◌, arith}
use Rattle.std.specs.List.{list_any}
use Rattle.std.proofs.lemmas.Bool.{and_parts, or_parts, not-true, not_from_false}
use Rattle.std.proofs.lemmas.Bool.Decides.{nat_tests}
use Rattle.dl_base.specs.declared.value.LinkNo.{LinkNo}
use Rattle.dl_base.specs.declared.value.LinkRow.{LinkRow}
use Rattle.meaning_tables.specs.Fits.{differ}
use Rattle.meaning_tables.specs.Links.{same_number}
use Rattle.sql_invariants.specs.Free.{is_ahead}
use Rattle.sql_invariants.proofs.Walks.{Walk, ends, drops, keeps, draws, rises}

either_fails : (a b : Bool) → a ≡ false → b ≡ false → (a || b) ≡ false
either_fails a b ha hb = rw ha hb

both_hold : (a b : Bool) → a ≡ true → b ≡ true → (a && b) ≡ true
both_hold a b ha hb = rw ha hb

any_fails : {A : Type 0} (p q : A → Bool) (xs : List A) → ((x : A) → p x ≡ false → q x ≡ false) → list_any p xs ≡ false → list_any q xs ≡ false
any_fails p q [] step none = refl
any_fails p q (x ∷ xs) step none =
    let both = or_parts (p x) (list_any p xs) none in
    either_fails (q x) (list_any q xs) (step x both.0) (any_fails p q xs step both.1)

pub any_mapped : {A B : Type 0} (p : B → Bool) (f : A → B) (xs : List A) → list_any p (map f xs) ≡ list_any (λ x. p (f x)) xs
any_mapped p f [] = refl
any_mapped p f (x ∷ xs) = ap (λ b. p (f x) || b) (any_mapped p f xs)

-- a test that fails of the old numbers, and of those that are drawn, fails of the new ones
fails : {tx k next : ℕ} {olds news : List LinkRow} (test : LinkNo → Bool) → Walk tx k next olds news
    → list_any (λ l. test l.link) olds ≡ false → ((n : ℕ) → k ≤ n → n < next → test (record { tx = tx; k = n }) ≡ false) → list_any (λ l. test l.link) news ≡ false
fails test ends none drawn = refl
fails test (drops {olds = olds} old walk) none drawn = fails test walk (or_parts (test old.link) (list_any (λ l. test l.link) olds) none).1 drawn
fails test (keeps {olds = olds} {news = news} old walk) none drawn =
    let both = or_parts (test old.link) (list_any (λ l. test l.link) olds) none in
    either_fails (test old.link) (list_any (λ l. test l.link) news) both.0 (fails test walk both.1 drawn)
fails {k = k} {next = next} test (draws {news = news} new is walk) none drawn =
    let past : suc k ≤ next = rises walk in
    either_fails (test new.link) (list_any (λ l. test l.link) news) (ap test is ∙ drawn k (omega arith) (omega arith))
    (fails test walk none (λ n from below. drawn n (omega (arith, from)) below))

-- no number is ahead
abbrev pub NoneAhead : ℕ → ℕ → List LinkRow → Type 0
NoneAhead tx k links = list_any (λ l. is_ahead tx k l.link) links ≡ false

later : (tx k m : ℕ) (l : LinkNo) → k ≤ m → is_ahead tx k l ≡ false → is_ahead tx m l ≡ false
later tx k m l le none = grind (arith, nat_tests)

behind : (tx k n : ℕ) (l : LinkNo) → k ≤ n → is_ahead tx k l ≡ false → same_number l (record { tx = tx; k = n }) ≡ false
behind tx k n l le none = grind (arith, nat_tests)

not_this : (tx k : ℕ) (l : LinkNo) → is_ahead tx k l ≡ false → same_number (record { tx = tx; k = k }) l ≡ false
not_this tx k l none = grind (arith, nat_tests)

not_later : (tx k n : ℕ) → suc k ≤ n → same_number (record { tx = tx; k = k }) (record { tx = tx; k = n }) ≡ false
not_later tx k n le = grind (arith, nat_tests)

not_ahead : (tx k n : ℕ) → n < k → is_ahead tx k (record { tx = tx; k = n }) ≡ false
not_ahead tx k n lt = grind (arith, nat_tests)

pub none_later : (tx k m : ℕ) (links : List LinkRow) → k ≤ m → NoneAhead tx k links → NoneAhead tx m links
none_later tx k m links le none = any_fails (λ (l : LinkRow). is_ahead tx k l.link) (λ l. is_ahead tx m l.link) links (λ l h. later tx k m l.link le h) none

pub stay_free : {tx k next : ℕ} {olds news : List LinkRow} → Walk tx k next olds news → NoneAhead tx k olds → NoneAhead tx next news
stay_free {tx} {k} {next} {olds} {news} walk none = fails (is_ahead tx next) walk (none_later tx k next olds (rises walk) none) (λ n from below. not_ahead tx next n below)

not_of : (tx first own n : ℕ) → tx ≢ own → is_ahead tx first (record { tx = own; k = n }) ≡ false
not_of tx first own n other = grind (arith, nat_tests)

-- no number of another transaction is drawn
pub stay_free_of : {own k next : ℕ} {olds news : List LinkRow} (tx first : ℕ) → tx ≢ own → Walk own k next olds news → NoneAhead tx first olds → NoneAhead tx first news
stay_free_of {own} tx first other walk none = fails (is_ahead tx first) walk none (λ n from below. not_of tx first own n other)

-- no two numbers are the same
abbrev pub AreApart : List LinkRow → Type 0
AreApart links = differ same_number (map (λ l. l.link) links) ≡ true

-- one more number that no later one has
one_apart : (number : LinkNo) (l : LinkRow) (links : List LinkRow) → l.link ≡ number → list_any (λ (x : LinkRow). same_number number x.link) links ≡ false → AreApart links → AreApart (l ∷ links)
one_apart number l links is other apart =
    both_hold (not (list_any (same_number l.link) (map (λ (x : LinkRow). x.link) links))) (differ same_number (map (λ (x : LinkRow). x.link) links))
    (rw is (not_from_false (list_any (same_number number) (map (λ (x : LinkRow). x.link) links)) (any_mapped (same_number number) (λ (x : LinkRow). x.link) links ∙ other)))
    apart

pub stay_apart : {tx k next : ℕ} {olds news : List LinkRow} → Walk tx k next olds news → NoneAhead tx k olds → AreApart olds → AreApart news
stay_apart ends none apart = refl
stay_apart {tx} {k} (drops {olds = olds} old walk) none apart =
    stay_apart walk (or_parts (is_ahead tx k old.link) (list_any (λ l. is_ahead tx k l.link) olds) none).1
    (and_parts (not (list_any (same_number old.link) (map (λ l. l.link) olds))) (differ same_number (map (λ l. l.link) olds)) apart).1
stay_apart {tx} {k} (keeps {olds = olds} {news = news} old walk) none apart =
    let free = or_parts (is_ahead tx k old.link) (list_any (λ l. is_ahead tx k l.link) olds) none in
    let both = and_parts (not (list_any (same_number old.link) (map (λ l. l.link) olds))) (differ same_number (map (λ l. l.link) olds)) apart in
    let others = sym (any_mapped (same_number old.link) (λ (l : LinkRow). l.link) olds) ∙ not-true (list_any (same_number old.link) (map (λ l. l.link) olds)) both.0 in
    one_apart old.link old news refl (fails (same_number old.link) walk others (λ n from below. behind tx k n old.link from free.0)) (stay_apart walk free.1 both.1)
stay_apart {tx} {k} (draws {olds = olds} {news = news} new is walk) none apart =
    let number : LinkNo = record { tx = tx; k = k } in
    let others = any_fails (λ (l : LinkRow). is_ahead tx k l.link) (λ l. same_number number l.link) olds (λ l h. not_this tx k l.link h) none in
    one_apart number new news is (fails (same_number number) walk others (λ n from below. not_later tx k n from)) (stay_apart walk (none_later tx k (suc k) olds (omega arith) none) apart)
