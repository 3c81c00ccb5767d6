-- Layouts are sound: what is read is spelled so, and what is spelled so is read.
use Rattle.std.proofs.Common.{◌≡◌, ℕ, zero, suc, ◌+◌, ◌^◌, ◌<◌, ◌≤◌, Bool, true, false, cond, ltb, List, [], ◌∷◌, ◌++◌, length, take, drop, Option, Some, None, refl, sym, ap, subst, ◌∙◌, append_assoc, arith, inl, inr}
use Rattle.std.specs.List.{flat_map, AllByRecursion}
use Rattle.std.specs.Int.{Width, w32, w64, byte_len, from_be_bytes, to_be_bytes, cast_signed, cast_unsigned}
use Rattle.std.proofs.lemmas.Bool.{cases_lt, ltb-false, le-ltb}
use Rattle.std.proofs.lemmas.List.{take_at, drop_at, take-append-drop, length-append, length-take, get_or-drop, get_or-take, get_or_past, append-nil}
use Rattle.std.proofs.lemmas.Nat.{be_bytes_4, be_bytes_8, from_be_bytes-to_be_bytes_4, from_be_bytes-to_be_bytes_8}
use Rattle.std.specs.Prelude.{ℤ, FitsSigned}
use Rattle.std.proofs.Common.{rules}
use Rattle.std.proofs.lemmas.Int.{ints, of_z-to_z, to_z-of_z}
use Rattle.dl_base.specs.Path.{path_test}
use Rattle.dl_base.specs.Name.{name_test}
use Rattle.dl_base.specs.Steps.{◌>>=◌}
use Rattle.dl_codec.specs.Layout.{Layout, IsBytes, Takes, IsSound, number, u32, u64, i64, text, bool, only, path, name, behind, bare, ended, whole, Decodes, option, pair, along, times, list}

-- ---- bytes

pub IsBytes-drop : (n : ℕ) (bytes : List ℕ) → IsBytes bytes → IsBytes (drop n bytes)
IsBytes-drop n bytes h i = rw get_or-drop (h (n + i))

IsBytes-take : (n : ℕ) (bytes : List ℕ) → IsBytes bytes → IsBytes (take n bytes)
IsBytes-take n bytes h i =
    elim (cases_lt i n) [
      | inl lt ↦ rw (get_or-take n bytes i 0 lt) (h i)
      | inr le ↦ rw (get_or_past (take n bytes) i 0 (omega (arith, length-take n bytes))) (omega arith)
    ]

-- what stands behind a part of bytes is bytes
pub IsBytes-behind : (front rest bytes : List ℕ) → bytes ≡ front ++ rest → IsBytes bytes → IsBytes rest
IsBytes-behind front rest bytes e h = subst IsBytes (ap (drop (length front)) e ∙ drop_at front rest (length front) refl) (IsBytes-drop (length front) bytes h)

-- ---- steps of reading

-- the value of a step that did not fail
pub bind_some : {A B : Type 0} (r : Option A) (f : A → Option B) (y : B) → (r >>= f) ≡ Some y → (x : A) × (r ≡ Some x) × (f x ≡ Some y)
bind_some (Some x) f y e = (x, refl, e)
bind_some None f y e = absurd cc

-- a test that did not fail
pub guard_some : {A : Type 0} (b : Bool) (x y : A) → cond b None (Some x) ≡ Some y → (b ≡ false) × (x ≡ y)
guard_some true x y e = absurd cc
guard_some false x y e = (refl, cc)

abbrev some : {A : Type 0} → A → Option A
some x = Some x

pub some_is : {A : Type 0} (x y : A) → some x ≡ some y → x ≡ y
some_is x y e = cc

-- ---- numbers

record IsWide (w : Width) (limit : ℕ) : Type 0 where
  len : (n : ℕ) → length (to_be_bytes w n) ≡ byte_len w
  back : (bytes : List ℕ) → length bytes ≡ byte_len w → IsBytes bytes → to_be_bytes w (from_be_bytes w bytes) ≡ bytes
  again : (n : ℕ) → n < limit → from_be_bytes w (to_be_bytes w n) ≡ n
  below : (bytes : List ℕ) → IsBytes bytes → from_be_bytes w bytes < limit

number_sound : (w : Width) (limit : ℕ) → IsWide w limit → IsSound (number w limit)
number_sound w limit wide = record {
  takes = λ bytes n rest fits e.
      let g = guard_some (ltb (length bytes) (byte_len w)) (from_be_bytes w (take (byte_len w) bytes), drop (byte_len w) bytes) (n, rest) e in
      let long : byte_len w ≤ length bytes = ltb-false _ _ g.0 in
      let n-is : from_be_bytes w (take (byte_len w) bytes) ≡ n = ap (λ (p : ℕ × List ℕ). p.0) g.1 in
      let rest-is : drop (byte_len w) bytes ≡ rest = ap (λ (p : ℕ × List ℕ). p.1) g.1 in
      let front : to_be_bytes w n ≡ take (byte_len w) bytes = rw (← n-is) (wide.back (take (byte_len w) bytes) (omega (arith, length-take (byte_len w) bytes)) (IsBytes-take (byte_len w) bytes fits)) in
      record { parts = rw (front, ← rest-is) (sym (take-append-drop (byte_len w) bytes)); fit = rw (← n-is) (wide.below (take (byte_len w) bytes) (IsBytes-take (byte_len w) bytes fits)) };
  again = λ n rest lt.
      let len = wide.len n in
      let long : ltb (length (to_be_bytes w n ++ rest)) (byte_len w) ≡ false = le-ltb _ _ (omega (arith, length-append (to_be_bytes w n) rest)) in
      rw (long, take_at (to_be_bytes w n) rest (byte_len w) len, drop_at (to_be_bytes w n) rest (byte_len w) len, wide.again n lt) refl;
}

pub u32_sound : IsSound u32
unfolding u32
u32_sound = number_sound w32 (2 ^ 32) (record {
  len = λ n. refl;
  back = λ bytes len fits. be_bytes_4 bytes _ len fits refl;
  again = λ n lt. from_be_bytes-to_be_bytes_4 n lt;
  below = λ bytes fits. omega (arith, fits 0, fits 1, fits 2, fits 3);
})

pub u64_sound : IsSound u64
unfolding u64
u64_sound = number_sound w64 (2 ^ 64) (record {
  len = λ n. refl;
  back = λ bytes len fits. be_bytes_8 bytes _ len fits refl;
  again = λ n lt. from_be_bytes-to_be_bytes_8 n lt;
  below = λ bytes fits. omega (arith, fits 0, fits 1, fits 2, fits 3, fits 4, fits 5, fits 6, fits 7);
})

-- ---- pairs and other forms

module _ {A B : Type 0} (f : Layout A) (g : Layout B) (fs : IsSound f) (gs : IsSound g) where
  pair_takes : (bytes : List ℕ) (p : A × B) (rest : List ℕ) → IsBytes bytes → (pair f g).reading bytes ≡ Some (p, rest) → Takes (pair f g) bytes p rest
  pair_takes bytes p rest fits e =
      let a = bind_some (f.reading bytes) (λ a. g.reading a.1 >>= λ b. Some ((a.0, b.0), b.1)) (p, rest) e in
      let b = bind_some (g.reading a.0.1) (λ b. Some ((a.0.0, b.0), b.1)) (p, rest) a.2 in
      let s = fs.takes bytes a.0.0 a.0.1 fits a.1 in
      let t = gs.takes a.0.1 b.0.0 b.0.1 (IsBytes-behind (f.spelling a.0.0) a.0.1 bytes s.parts fits) b.1 in
      let all : Takes (pair f g) bytes (a.0.0, b.0.0) b.0.1 = record { parts = s.parts ∙ ap (λ (r : List ℕ). f.spelling a.0.0 ++ r) t.parts ∙ sym (append_assoc (f.spelling a.0.0) (g.spelling b.0.0) b.0.1); fit = (s.fit, t.fit) } in
      subst (λ (x : (A × B) × List ℕ). Takes (pair f g) bytes x.0 x.1) (some_is ((a.0.0, b.0.0), b.0.1) (p, rest) b.2) all

  pub pair_sound : IsSound (pair f g)
  pair_sound = record {
    takes = pair_takes;
    again = λ p rest fits. rw (append_assoc (f.spelling p.0) (g.spelling p.1) rest, fs.again p.0 (g.spelling p.1 ++ rest) fits.0, gs.again p.1 rest fits.1) refl;
  }

pub along_sound : {A B : Type 0} (to : A → B) (from : B → A) (l : Layout A) → ((a : A) → from (to a) ≡ a) → ((b : B) → to (from b) ≡ b) → IsSound l → IsSound (along to from l)
along_sound {A} {B} to from l back forth s = record {
  takes = λ bytes y rest fits e.
      let a = bind_some (l.reading bytes) (λ x. Some (to x.0, x.1)) (y, rest) e in
      let t = s.takes bytes a.0.0 a.0.1 fits a.1 in
      let all : Takes (along to from l) bytes (to a.0.0) a.0.1 = record { parts = rw (back a.0.0) t.parts; fit = rw (back a.0.0) t.fit } in
      subst (λ (x : B × List ℕ). Takes (along to from l) bytes x.0 x.1) (some_is (to a.0.0, a.0.1) (y, rest) a.2) all;
  again = λ y rest fits. rw (s.again (from y) rest fits, forth y) refl;
}

-- ---- lists

module _ {A : Type 0} (l : Layout A) (s : IsSound l) where
  times_takes : (n : ℕ) (bytes : List ℕ) (xs : List A) (rest : List ℕ) → IsBytes bytes → times l.reading n bytes ≡ Some (xs, rest)
      → (bytes ≡ flat_map l.spelling xs ++ rest) × (length xs ≡ n) × AllByRecursion l.fits xs
  times_takes zero bytes xs rest fits e =
      subst (λ (x : List A × List ℕ). (bytes ≡ flat_map l.spelling x.0 ++ x.1) × (length x.0 ≡ 0) × AllByRecursion l.fits x.0) (some_is ([], bytes) (xs, rest) e) (refl, refl, tt)
  times_takes (suc n) bytes xs rest fits e =
      let a = bind_some (l.reading bytes) (λ x. times l.reading n x.1 >>= λ others. Some (x.0 ∷ others.0, others.1)) (xs, rest) e in
      let b = bind_some (times l.reading n a.0.1) (λ others. Some (a.0.0 ∷ others.0, others.1)) (xs, rest) a.2 in
      let t = s.takes bytes a.0.0 a.0.1 fits a.1 in
      let u = times_takes n a.0.1 b.0.0 b.0.1 (IsBytes-behind (l.spelling a.0.0) a.0.1 bytes t.parts fits) b.1 in
      let parts : bytes ≡ flat_map l.spelling (a.0.0 ∷ b.0.0) ++ b.0.1 = t.parts ∙ ap (λ (r : List ℕ). l.spelling a.0.0 ++ r) u.0 ∙ sym (append_assoc (l.spelling a.0.0) (flat_map l.spelling b.0.0) b.0.1) in
      subst (λ (x : List A × List ℕ). (bytes ≡ flat_map l.spelling x.0 ++ x.1) × (length x.0 ≡ suc n) × AllByRecursion l.fits x.0) (some_is (a.0.0 ∷ b.0.0, b.0.1) (xs, rest) b.2) (parts, ap suc u.1, (t.fit, u.2))

  times_again : (xs : List A) (rest : List ℕ) → AllByRecursion l.fits xs → times l.reading (length xs) (flat_map l.spelling xs ++ rest) ≡ Some (xs, rest)
  times_again [] rest fits = refl
  times_again (x ∷ xs) rest fits = rw (append_assoc (l.spelling x) (flat_map l.spelling xs) rest, s.again x (flat_map l.spelling xs ++ rest) fits.0, times_again xs rest fits.1) refl

  list_takes : (bytes : List ℕ) (xs : List A) (rest : List ℕ) → IsBytes bytes → (list l).reading bytes ≡ Some (xs, rest) → Takes (list l) bytes xs rest
  list_takes bytes xs rest fits e =
      let a = bind_some (u32.reading bytes) (λ n. times l.reading n.0 n.1) (xs, rest) e in
      let n = a.0.0 in
      let t = u32_sound.takes bytes n a.0.1 fits a.1 in
      let u = times_takes n a.0.1 xs rest (IsBytes-behind (u32.spelling n) a.0.1 bytes t.parts fits) a.2 in
      record {
        parts = rw (u.1) (t.parts ∙ ap (λ (r : List ℕ). u32.spelling n ++ r) u.0 ∙ sym (append_assoc (u32.spelling n) (flat_map l.spelling xs) rest));
        fit = (rw (u.1) t.fit, u.2);
      }

  pub list_sound : IsSound (list l)
  list_sound = record {
    takes = list_takes;
    again = λ xs rest fits. rw (append_assoc (u32.spelling (length xs)) (flat_map l.spelling xs) rest, u32_sound.again (length xs) (flat_map l.spelling xs ++ rest) fits.0) (times_again xs rest fits.1);
  }

-- ---- signed numbers, texts, tests

cast_signed_fits : (n : ℕ) → n < 2 ^ 64 → FitsSigned w64 (cast_signed w64 n)
cast_signed_fits n lt = search (rules, ints)

cast_unsigned_fits : (z : ℤ) → FitsSigned w64 z → cast_unsigned w64 z < 2 ^ 64
cast_unsigned_fits z fits = omega (arith, ints)

pub i64_sound : IsSound i64
unfolding i64 u64
i64_sound = record {
  takes = λ bytes z rest fits e.
      let a = bind_some (u64.reading bytes) (λ n. Some (cast_signed w64 n.0, n.1)) (z, rest) e in
      let t = u64_sound.takes bytes a.0.0 a.0.1 fits a.1 in
      let back : cast_unsigned w64 (cast_signed w64 a.0.0) ≡ a.0.0 = of_z-to_z w64 a.0.0 t.fit in
      let all : Takes i64 bytes (cast_signed w64 a.0.0) a.0.1 = record { parts = rw back t.parts; fit = cast_signed_fits a.0.0 t.fit } in
      subst (λ (x : ℤ × List ℕ). Takes i64 bytes x.0 x.1) (some_is (cast_signed w64 a.0.0, a.0.1) (z, rest) a.2) all;
  again = λ z rest fits. rw (u64_sound.again (cast_unsigned w64 z) rest (cast_unsigned_fits z fits), to_z-of_z w64 z fits) refl;
}

pub text_sound : IsSound text
unfolding text
text_sound = record {
  takes = λ bytes t rest fits e.
      let b = bind_some (u32.reading bytes) (λ n. cond (ltb (length n.1) n.0) None (Some (take n.0 n.1, drop n.0 n.1))) (t, rest) e in
      let n = b.0 in
      let s = u32_sound.takes bytes n.0 n.1 fits b.1 in
      let g = guard_some (ltb (length n.1) n.0) (take n.0 n.1, drop n.0 n.1) (t, rest) b.2 in
      let long : n.0 ≤ length n.1 = ltb-false _ _ g.0 in
      let len : length (take n.0 n.1) ≡ n.0 = omega (arith, length-take n.0 n.1) in
      let all : Takes text bytes (take n.0 n.1) (drop n.0 n.1) = record {
        parts = rw len (s.parts ∙ ap (λ (r : List ℕ). u32.spelling n.0 ++ r) (sym (take-append-drop n.0 n.1)) ∙ sym (append_assoc (u32.spelling n.0) (take n.0 n.1) (drop n.0 n.1)));
        fit = rw len s.fit;
      } in
      subst (λ (x : List ℕ × List ℕ). Takes text bytes x.0 x.1) g.1 all;
  again = λ t rest fits.
      let long : ltb (length (t ++ rest)) (length t) ≡ false = le-ltb _ _ (omega (arith, length-append t rest)) in
      rw (append_assoc (u32.spelling (length t)) t rest, u32_sound.again (length t) (t ++ rest) fits, long, take_at t rest (length t) refl, drop_at t rest (length t) refl) refl;
}

test_some : {A : Type 0} (b : Bool) (x y : A) → cond b (Some x) None ≡ Some y → (b ≡ true) × (x ≡ y)
test_some true x y e = (refl, cc)
test_some false x y e = absurd cc

pub only_sound : {A : Type 0} (test : A → Bool) (l : Layout A) → IsSound l → IsSound (only test l)
only_sound {A} test l s = record {
  takes = λ bytes y rest fits e.
      let a = bind_some (l.reading bytes) (λ x. cond (test x.0) (Some x) None) (y, rest) e in
      let g = test_some (test a.0.0) a.0 (y, rest) a.2 in
      let t = s.takes bytes a.0.0 a.0.1 fits a.1 in
      let all : Takes (only test l) bytes a.0.0 a.0.1 = record { parts = t.parts; fit = (t.fit, g.0) } in
      subst (λ (x : A × List ℕ). Takes (only test l) bytes x.0 x.1) g.1 all;
  again = λ x rest fits. rw (s.again x rest fits.0, fits.1) refl;
}

pub path_sound : IsSound path
unfolding path
path_sound = only_sound path_test text text_sound

pub name_sound : IsSound name
unfolding name
name_sound = only_sound name_test text text_sound

-- ---- a tag byte and what stands behind it

-- bytes behind a tag
pub IsBytes-rest : (b : ℕ) (bytes : List ℕ) → IsBytes (b ∷ bytes) → IsBytes bytes
IsBytes-rest b bytes h i = h (suc i)

-- to makes a value of what stands behind the tag
pub tag_takes : {A B : Type 0} (to : A → B) (l : Layout A) (whole : Layout B) (tag : ℕ) → IsSound l → ((x : A) → whole.spelling (to x) ≡ tag ∷ l.spelling x) → ((x : A) → l.fits x → whole.fits (to x))
    → (bytes : List ℕ) (y : B) (rest : List ℕ) → IsBytes (tag ∷ bytes) → behind to l bytes ≡ bare y rest → Takes whole (tag ∷ bytes) y rest
tag_takes {A} {B} to l whole tag s spelled fitting bytes y rest fits e =
    let a = bind_some (l.reading bytes) (λ x. Some (to x.0, x.1)) (y, rest) e in
    let t = s.takes bytes a.0.0 a.0.1 (IsBytes-rest tag bytes fits) a.1 in
    let all : Takes whole (tag ∷ bytes) (to a.0.0) a.0.1 = record { parts = rw (spelled a.0.0) (ap (λ (r : List ℕ). tag ∷ r) t.parts); fit = fitting a.0.0 t.fit } in
    subst (λ (x : B × List ℕ). Takes whole (tag ∷ bytes) x.0 x.1) (some_is (to a.0.0, a.0.1) (y, rest) a.2) all

-- a tag with nothing behind it
pub bare_takes : {B : Type 0} (z : B) (whole : Layout B) (tag : ℕ) → whole.spelling z ≡ tag ∷ [] → whole.fits z → (bytes : List ℕ) (y : B) (rest : List ℕ) → bare z bytes ≡ bare y rest → Takes whole (tag ∷ bytes) y rest
bare_takes {B} z whole tag spelled fit bytes y rest e =
    let all : Takes whole (tag ∷ bytes) z bytes = record { parts = rw spelled refl; fit = fit } in
    subst (λ (x : B × List ℕ). Takes whole (tag ∷ bytes) x.0 x.1) (some_is (z, bytes) (y, rest) e) all

module _ {A : Type 0} (l : Layout A) (s : IsSound l) where
  option_takes : (bytes : List ℕ) (o : Option A) (rest : List ℕ) → IsBytes bytes → (option l).reading bytes ≡ Some (o, rest) → Takes (option l) bytes o rest
  option_takes [] o rest fits e = absurd cc
  option_takes (zero ∷ bytes) o rest fits e = bare_takes None (option l) 0 refl tt bytes o rest e
  option_takes (suc zero ∷ bytes) o rest fits e = tag_takes (λ x. Some x) l (option l) 1 s (λ x. refl) (λ x h. h) bytes o rest fits e
  option_takes (suc (suc b) ∷ bytes) o rest fits e = absurd cc

  option_again : (o : Option A) (rest : List ℕ) → (option l).fits o → (option l).reading ((option l).spelling o ++ rest) ≡ Some (o, rest)
  option_again None rest fits = refl
  option_again (Some x) rest fits = rw (s.again x rest fits) refl

  pub option_sound : IsSound (option l)
  option_sound = record { takes = option_takes; again = option_again }

bool_takes : (bytes : List ℕ) (b : Bool) (rest : List ℕ) → IsBytes bytes → bool.reading bytes ≡ Some (b, rest) → Takes bool bytes b rest
unfolding bool
bool_takes [] b rest fits e = absurd cc
bool_takes (zero ∷ bytes) b rest fits e = bare_takes false bool 0 refl tt bytes b rest e
bool_takes (suc zero ∷ bytes) b rest fits e = bare_takes true bool 1 refl tt bytes b rest e
bool_takes (suc (suc n) ∷ bytes) b rest fits e = absurd cc

bool_again : (b : Bool) (rest : List ℕ) → bool.fits b → bool.reading (bool.spelling b ++ rest) ≡ Some (b, rest)
unfolding bool
bool_again false rest fits = refl
bool_again true rest fits = refl

pub bool_sound : IsSound bool
bool_sound = record { takes = bool_takes; again = bool_again }

-- ---- whole values

module _ {A : Type 0} (l : Layout A) (s : IsSound l) where
  -- a value that fits is read from its spelling
  pub whole-spelling : (x : A) → l.fits x → whole l (l.spelling x) ≡ Some x
  whole-spelling x fits =
      let e : l.reading (l.spelling x) ≡ Some (x, []) = subst (λ (bytes : List ℕ). l.reading bytes ≡ Some (x, [])) (append-nil (l.spelling x)) (s.again x [] fits) in
      rw e refl

  -- bytes that are read as a value are its spelling
  pub is_whole : (bytes : List ℕ) (x : A) → IsBytes bytes → whole l bytes ≡ Some x → l.fits x × (bytes ≡ l.spelling x)
  is_whole bytes x fits e =
      let a = bind_some (l.reading bytes) (λ x. ended x.0 x.1) x e in
      at_end a.0.1 a.0.0 (s.takes bytes a.0.0 a.0.1 fits a.1) a.2
    where
      at_end : (rest : List ℕ) (y : A) → Takes l bytes y rest → ended y rest ≡ Some x → l.fits x × (bytes ≡ l.spelling x)
      at_end [] y t h = subst (λ (z : A). l.fits z × (bytes ≡ l.spelling z)) (some_is y x h) (t.fit, t.parts ∙ append-nil (l.spelling y))
      at_end (b ∷ rest) y t h = absurd cc

  -- reading all of the bytes finds the one value that has them, if there is one
  pub whole_decodes : (bytes : List ℕ) (o : Option A) → IsBytes bytes → o ≡ whole l bytes → Decodes l bytes o
  whole_decodes bytes (Some x) fits e = is_whole bytes x fits (sym e)
  whole_decodes bytes None fits e = λ x has here. none_some (e ∙ ap (whole l) here ∙ whole-spelling x has)
    where
      none_some : {B : Type 0} {x : B} → ◌≡◌ {A = Option B} None (Some x) → ⊥
      none_some h = cc
