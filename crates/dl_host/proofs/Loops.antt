-- Calls that do a part, one after another.
use Rattle.std.proofs.Common.{◌≡◌, ℕ, ◌+◌, ◌-◌, ◌≤◌, List, ◌++◌, length, take, drop, Option, Some, None, refl, sym, ◌∙◌, ap, subst, arith, append_assoc, length-append, length-drop, take-append-drop, append-nil, inl, inr, ⊎_elim}
use Rattle.std.proofs.lemmas.List.{take_at, take_all, drop_at, drop-take, take-take, take-append-le, drop-drop, length-take-le}
use borrow.Rule.Slice.PartMut.{put_mid}
use Rattle.dl_base.specs.declared.area.Area.{Area}
use Rattle.dl_base.specs.Outside.{Outside, ChangesOnly, Says, Torn, TornFrom, TellsFront, replaced, overwritten, portion, extended}
use Rattle.dl_base.proofs.Moments.{touches_more, touches_then}
use Rattle.dl_host.specs.Hosts.{Hold, Stays}

pub stays_none : (h : Hold) → Stays h h
stays_none h = record { lock = λ is. is; names = λ a is. is }

pub stays_then : (h k l : Hold) → Stays h k → Stays k l → Stays h l
stays_then h k l first second = record { lock = λ is. second.lock (first.lock is); names = λ a is. second.names a (first.names a is) }

-- a front of more
pub take_plus : (a b : ℕ) (xs : List ℕ) → take a xs ++ take b (drop a xs) ≡ take (a + b) xs
take_plus a b xs =
    let split : take (a + b) xs ≡ take a (take (a + b) xs) ++ drop a (take (a + b) xs) = sym (take-append-drop a (take (a + b) xs)) in
    sym (split ∙ ap (λ (l : List ℕ). l ++ drop a (take (a + b) xs)) (take-take a (a + b) xs (omega arith)) ∙ ap (λ (l : List ℕ). take a xs ++ l) (drop-take a b xs))

-- a part of what a buffer is to be filled with
pub portion_plus : (at a b : ℕ) (xs : List ℕ) → portion at a xs ++ portion (at + a) b xs ≡ portion at (a + b) xs
portion_plus at a b xs = ap (λ (l : List ℕ). portion at a xs ++ take b l) (sym (drop-drop a at xs)) ∙ take_plus a b (drop at xs)

-- bytes in the place of others, right behind a front
replaced_behind : (front rest bytes : List ℕ) (at : ℕ) → length front ≡ at → replaced at bytes (front ++ rest) ≡ (front ++ bytes) ++ drop (length bytes) rest
replaced_behind front rest bytes at is =
    let head : take at (front ++ rest) ≡ front = take_at front rest at is in
    let tail : drop (at + length bytes) (front ++ rest) ≡ drop (length bytes) rest =
    sym (drop-drop (length bytes) at (front ++ rest)) ∙ ap (λ (l : List ℕ). drop (length bytes) l) (drop_at front rest at is) in
    ap (λ (l : List ℕ). l ++ (bytes ++ drop (at + length bytes) (front ++ rest))) head
    ∙ ap (λ (l : List ℕ). front ++ (bytes ++ l)) tail
    ∙ sym (append_assoc front bytes (drop (length bytes) rest))

-- two writes, the second right behind the first
replaced_then : (at : ℕ) (xs ys s : List ℕ) → at ≤ length s → replaced (at + length xs) ys (replaced at xs s) ≡ replaced at (xs ++ ys) s
replaced_then at xs ys s le =
    let front = take at s ++ xs in
    let rest = drop (at + length xs) s in
    let size : length front ≡ at + length xs = omega (arith, length-append (take at s) xs, length-take-le at s le) in
    let both : at + length (xs ++ ys) ≡ (at + length xs) + length ys = omega (arith, length-append xs ys) in
    let tail : drop (length ys) rest ≡ drop (at + length (xs ++ ys)) s = drop-drop (length ys) (at + length xs) s ∙ ap (λ (k : ℕ). drop k s) (sym both) in
    ap (λ (l : List ℕ). replaced (at + length xs) ys l) (sym (append_assoc (take at s) xs rest))
    ∙ replaced_behind front rest ys (at + length xs) size
    ∙ ap (λ (l : List ℕ). (front ++ ys) ++ l) tail
    ∙ append_assoc front ys (drop (at + length (xs ++ ys)) s)
    ∙ append_assoc (take at s) xs (ys ++ drop (at + length (xs ++ ys)) s)
    ∙ ap (λ (l : List ℕ). take at s ++ l) (sym (append_assoc xs ys (drop (at + length (xs ++ ys)) s)))

pub written_then : (at done n : ℕ) (bytes : List ℕ) (o m l : Option (List ℕ)) → done ≤ length bytes
    → ((s : List ℕ) → o ≡ Some s → at ≤ length s)
    → m ≡ overwritten at (take done bytes) o → l ≡ overwritten (at + done) (take n (drop done bytes)) m
    → l ≡ overwritten at (take (done + n) bytes) o
written_then at done n bytes None m l le begins first second = second ∙ ap (λ (x : Option (List ℕ)). overwritten (at + done) (take n (drop done bytes)) x) first
written_then at done n bytes (Some s) m l le begins first second =
    let size : length (take done bytes) ≡ done = length-take-le done bytes le in
    second
    ∙ ap (λ (x : Option (List ℕ)). overwritten (at + done) (take n (drop done bytes)) x) first
    ∙ ap (λ (k : ℕ). Some (replaced (at + k) (take n (drop done bytes)) (replaced at (take done bytes) s))) (sym size)
    ∙ ap (λ (x : List ℕ). Some x) (replaced_then at (take done bytes) (take n (drop done bytes)) s (begins s refl))
    ∙ ap (λ (x : List ℕ). Some (replaced at x s)) (take_plus done n bytes)

-- what is left by a write within the range of another, which came first
torn_within : (at n at' n' : ℕ) (c d e : List ℕ) → at ≤ at' → at' + n' ≤ at + n → TornFrom at n c d → TornFrom at' n' d e → TornFrom at n c e
torn_within at n at' n' c d e low high first second =
    let gap = (at + n) - (at' + n') in
    let end : (at' + n') + gap ≡ at + n = omega (arith, high) in
    let front : take at e ≡ take at d = sym (take-take at at' e low) ∙ ap (λ (l : List ℕ). take at l) second.before ∙ take-take at at' d low in
    let past : (x : List ℕ) → drop gap (drop (at' + n') x) ≡ drop (at + n) x = λ x. drop-drop gap (at' + n') x ∙ ap (λ (k : ℕ). drop k x) end in
    record {
      before = front ∙ first.before;
      after = sym (past e) ∙ ap (λ (l : List ℕ). drop gap l) second.after ∙ past d ∙ first.after;
      no_shorter = omega (arith, first.no_shorter, second.no_shorter);
      no_longer = omega (arith, first.no_longer, second.no_longer, low, high);
    }

torn_none : (at n : ℕ) (d : List ℕ) → TornFrom at n d d
torn_none at n d = record { before = refl; after = refl; no_shorter = omega arith; no_longer = omega arith }

pub nothing_torn : (at n : ℕ) (image : List ℕ → Type 0) (c : List ℕ) → image c → Torn at n image c
nothing_torn at n image c left = (c, left, torn_none at n c)

-- one more write within the range of all
pub touches_on : (area : Area) (at n at' n' : ℕ) (o m l : Outside) → at ≤ at' → at' + n' ≤ at + n
    → ChangesOnly area (Torn at n (o.image area)) o m → ChangesOnly area (Torn at' n' (m.image area)) m l → ChangesOnly area (Torn at n (o.image area)) o l
touches_on area at n at' n' o m l low high first second = touches_then area (Torn at n (o.image area)) o m l first (touches_more area (Torn at' n' (m.image area)) (Torn at n (o.image area)) m l wider second)
  where
    wider : (c : List ℕ) → Torn at' n' (m.image area) c → Torn at n (o.image area) c
    wider c left = let was = first.here left.0 left.1 in (was.0, was.1, torn_within at n at' n' was.0 left.0 c low high was.2 left.2)

-- a call that changes nothing in the area
pub touches_still : (area : Area) (Q : List ℕ → Type 0) (o m l : Outside) → ChangesOnly area Q o m → ChangesOnly area (m.image area) m l → ChangesOnly area Q o l
touches_still area Q o m l first t = touches_then area Q o m l first (touches_more area _ Q m l first.here t)

-- nothing is told yet
pub told_none : (bytes : List ℕ) (o : Option (List ℕ)) → o ≡ extended (take 0 bytes) o
told_none bytes None = refl
told_none bytes (Some told) = ap (λ (l : List ℕ). Some l) (sym (append-nil told))

pub says_none : (bytes : List ℕ) (o : Outside) → Says bytes o o
says_none bytes o = record {
  later = omega arith;
  faults = omega arith;
  still_told = λ is. is;
  told = λ told is. (0, told, is, sym (append-nil told));
  reads = λ a. refl;
  images = λ a c left. left;
  since = λ t p le left. inl left;
  keeps = λ t p left. left;
}

front_on : (bytes : List ℕ) (done : ℕ) (o m : Option (List ℕ)) (p : List ℕ) → m ≡ extended (take done bytes) o → TellsFront (drop done bytes) m p → TellsFront bytes o p
front_on bytes done None m p is front = absurd (cc (front.2, is))
front_on bytes done (Some told) m p is front =
    let n = front.0 in
    let was : front.1 ≡ told ++ take done bytes = cc (is, front.2) in
    (done + n, told, refl, front.3 ∙ ap (λ (l : List ℕ). l ++ take n (drop done bytes)) was ∙ append_assoc told (take done bytes) (take n (drop done bytes)) ∙ ap (λ (l : List ℕ). told ++ l) (take_plus done n bytes))

-- the rest is told, behind a front
pub says_on : (bytes : List ℕ) (done : ℕ) (o m l : Outside) → m.told ≡ extended (take done bytes) o.told → Says bytes o m → Says (drop done bytes) m l → Says bytes o l
says_on bytes done o m l is first second = record {
  later = omega (arith, first.later, second.later);
  faults = omega (arith, first.faults, second.faults);
  still_told = λ some. second.still_told (first.still_told some);
  told = λ told some. front_on bytes done o.told m.told told is (second.told told some);
  reads = λ a. second.reads a ∙ first.reads a;
  images = λ a c left. first.images a c (second.images a c left);
  since = λ t p le left. ⊎_elim
      (λ was. first.since t p le was)
      (λ now. inr (front_on bytes done o.told m.told p.told is now.0, λ a. first.images a (p.areas a) (now.1 a)))
      (second.since t p (omega (arith, le, first.later)) left);
  keeps = λ t p left. second.keeps t p (first.keeps t p left);
}

pub told_then : (bytes : List ℕ) (done n : ℕ) (o m l : Option (List ℕ)) → m ≡ extended (take done bytes) o → l ≡ extended (take n (drop done bytes)) m → l ≡ extended (take (done + n) bytes) o
told_then bytes done n None m l first second = second ∙ ap (λ (x : Option (List ℕ)). extended (take n (drop done bytes)) x) first
told_then bytes done n (Some told) m l first second =
    second ∙ ap (λ (x : Option (List ℕ)). extended (take n (drop done bytes)) x) first
    ∙ ap (λ (x : List ℕ). Some x) (append_assoc told (take done bytes) (take n (drop done bytes)) ∙ ap (λ (x : List ℕ). told ++ x) (take_plus done n bytes))

-- what is left of a buffer
rest_is : (done : ℕ) (bytes : List ℕ) → take (length bytes - done) (drop done bytes) ≡ drop done bytes
rest_is done bytes = take_all (length bytes - done) (drop done bytes) (omega (arith, length-drop done bytes))

pub touches_rest : (area : Area) (at done : ℕ) (bytes : List ℕ) (o m l : Outside) → done ≤ length bytes → ChangesOnly area (Torn at (length bytes) (o.image area)) o m
    → ChangesOnly area (Torn (at + done) (length (take (length bytes - done) (drop done bytes))) (m.image area)) m l → ChangesOnly area (Torn at (length bytes) (o.image area)) o l
touches_rest area at done bytes o m l le first second =
    touches_on area at (length bytes) (at + done) (length (take (length bytes - done) (drop done bytes))) o m l (omega arith) (omega (arith, le, ap length (rest_is done bytes), length-drop done bytes)) first second

pub written_rest : (at done n : ℕ) (bytes : List ℕ) (o m l : Option (List ℕ)) → done ≤ length bytes
    → ((s : List ℕ) → o ≡ Some s → at ≤ length s)
    → m ≡ overwritten at (take done bytes) o → l ≡ overwritten (at + done) (take n (take (length bytes - done) (drop done bytes))) m
    → l ≡ overwritten at (take (done + n) bytes) o
written_rest at done n bytes o m l le begins first second =
    written_then at done n bytes o m l le begins first (second ∙ ap (λ (x : List ℕ). overwritten (at + done) (take n x) m) (rest_is done bytes))

pub said_rest : (bytes : List ℕ) (done : ℕ) (o m l : Outside) → m.told ≡ extended (take done bytes) o.told → Says bytes o m → Says (take (length bytes - done) (drop done bytes)) m l → Says bytes o l
said_rest bytes done o m l is first second = says_on bytes done o m l is first (subst (λ (x : List ℕ). Says x m l) (rest_is done bytes) second)

pub told_rest : (bytes : List ℕ) (done n : ℕ) (o m l : Option (List ℕ)) → m ≡ extended (take done bytes) o → l ≡ extended (take n (take (length bytes - done) (drop done bytes))) m → l ≡ extended (take (done + n) bytes) o
told_rest bytes done n o m l first second = told_then bytes done n o m l first (second ∙ ap (λ (x : List ℕ). extended (take n x) m) (rest_is done bytes))

pub within_rest : (done n : ℕ) (bytes : List ℕ) → done ≤ length bytes → n ≤ length (take (length bytes - done) (drop done bytes)) → done + n ≤ length bytes
within_rest done n bytes le more = omega (arith, le, more, ap length (rest_is done bytes), length-drop done bytes)

pub long_rest : (done : ℕ) (into : List ℕ) → length (take (length into - done) (drop done into)) ≡ length into - done
long_rest done into = ap length (rest_is done into) ∙ length-drop done into

pub length_rest : (done : ℕ) (into part : List ℕ) → done ≤ length into → length part ≡ length into - done → length (put_mid done (length into - done) into part) ≡ length into
length_rest done into part le is =
    let rest = drop (length into - done) (drop done into) in
    omega (
      arith,
      le,
      is,
      length-append (take done into) (part ++ rest),
      length-append part rest,
      length-take-le done into le,
      length-drop (length into - done) (drop done into),
      length-drop done into,
    )

-- a buffer whose front was filled, and then more of it
pub filled_rest : (at done n : ℕ) (into part bytes : List ℕ) → done ≤ length into → length part ≡ length into - done → n ≤ length (take (length into - done) (drop done into))
    → take done into ≡ portion at done bytes → take n part ≡ portion (at + done) n bytes → take (done + n) (put_mid done (length into - done) into part) ≡ portion at (done + n) bytes
filled_rest at done n into part bytes le is more front next =
    let rest = drop (length into - done) (drop done into) in
    let whole = put_mid done (length into - done) into part in
    let size : length (take done into) ≡ done = length-take-le done into le in
    let n_le : n ≤ length part = omega (arith, is, more, long_rest done into) in
    let head : take done whole ≡ take done into = take_at (take done into) (part ++ rest) done size in
    let tail : take n (drop done whole) ≡ take n part = ap (λ (l : List ℕ). take n l) (drop_at (take done into) (part ++ rest) done size) ∙ take-append-le n part rest n_le in
    sym (take_plus done n whole) ∙ ap (λ (l : List ℕ). l ++ take n (drop done whole)) (head ∙ front) ∙ ap (λ (l : List ℕ). portion at done bytes ++ l) (tail ∙ next) ∙ portion_plus at done n bytes
