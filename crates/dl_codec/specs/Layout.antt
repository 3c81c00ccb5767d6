-- How values lie in bytes: a layout has the one spelling of a value, says which values have one, and reads from the front of bytes.
-- Numbers have their big end first.
use Rattle.std.specs.Prelude.{◌≡◌, ◌≢◌, ℕ, zero, suc, ◌<◌, ◌^◌, List, [], ◌∷◌, ◌++◌, length, take, drop, Option, Some, None, nat_lt, slice_index_or, Bool, true, false, IsTrue, if◌then◌else◌, Result, Ok, Err, ℤ, FitsSigned}
use Rattle.std.specs.List.{flat_map, AllByRecursion}
use Rattle.std.specs.Int.{Width, w32, w64, byte_len, to_be_bytes, from_be_bytes, cast_unsigned, cast_signed}
use Rattle.dl_base.specs.Path.{path_test}
use Rattle.dl_base.specs.Name.{name_test}
use Rattle.dl_base.specs.Steps.{◌>>=◌}
use Rattle.dl_codec.specs.declared.read_fault.ReadFault.{ReadFault}
use Rattle.dl_codec.specs.declared.read_fault.ReadFault.TheVariants.{Bad, Memory}

pub record Layout (A : Type 0) : Type 1 where
  -- the one spelling of a value
  pub spelling : A → List ℕ
  -- which values have one
  pub fits : A → Type 0
  -- the value at the front of bytes, and the bytes behind it
  pub reading : List ℕ → Option (A × List ℕ)

abbrev pub IsBytes : List ℕ → Type 0
IsBytes bytes = (i : ℕ) → slice_index_or bytes i 0 < 256

-- bytes begin with the spelling of x, which has one, and after it stands the rest
pub record Takes {A : Type 0} (l : Layout A) (bytes : List ℕ) (x : A) (rest : List ℕ) : Type 0 where
  pub parts : bytes ≡ l.spelling x ++ rest
  pub fit : l.fits x

-- What is read is spelled so; and what is spelled so is read, whatever stands behind it.
pub record IsSound {A : Type 0} (l : Layout A) : Type 0 where
  pub takes : (bytes : List ℕ) (x : A) (rest : List ℕ) → IsBytes bytes → l.reading bytes ≡ Some (x, rest) → Takes l bytes x rest
  pub again : (x : A) (rest : List ℕ) → l.fits x → l.reading (l.spelling x ++ rest) ≡ Some (x, rest)

-- What a reader returned is what reading gives, unless memory ran out.
abbrev pub Fails : {A : Type 0} → ReadFault → Option A → Type 0
Fails Memory read = Unit {0}
Fails Bad read = read ≡ None

abbrev pub DecodesTo : {X A : Type 0} → (X → A) → Result X ReadFault → Option A → Type 0
DecodesTo view (Ok x) read = read ≡ Some (view x)
DecodesTo view (Err e) read = Fails e read

-- ---- layouts

-- an unsigned number below a limit, big end first
abbrev pub number : Width → ℕ → Layout ℕ
number w limit = record {
  spelling = to_be_bytes w;
  fits = λ n. n < limit;
  reading = λ bytes. if nat_lt (length bytes) (byte_len w) then None else Some (from_be_bytes w (take (byte_len w) bytes), drop (byte_len w) bytes);
}

unfoldable pub u32 : Layout ℕ
u32 = number w32 (2 ^ 32)

unfoldable pub u64 : Layout ℕ
u64 = number w64 (2 ^ 64)

-- one after the other
abbrev pub pair : {A B : Type 0} → Layout A → Layout B → Layout (A × B)
pair f g = record {
  spelling = λ p. f.spelling p.0 ++ g.spelling p.1;
  fits = λ p. f.fits p.0 × g.fits p.1;
  reading = λ bytes. f.reading bytes >>= λ a. g.reading a.1 >>= λ b. Some ((a.0, b.0), b.1);
}

-- the same bytes for values of another form
abbrev pub along : {A B : Type 0} → (A → B) → (B → A) → Layout A → Layout B
along to from l = record {
  spelling = λ b. l.spelling (from b);
  fits = λ b. l.fits (from b);
  reading = λ bytes. l.reading bytes >>= λ x. Some (to x.0, x.1);
}

-- a value one after another, so many times
abbrev pub times : {A : Type 0} → (List ℕ → Option (A × List ℕ)) → ℕ → List ℕ → Option (List A × List ℕ)
times read zero bytes = Some ([], bytes)
times read (suc n) bytes = read bytes >>= λ first. times read n first.1 >>= λ others. Some (first.0 ∷ others.0, others.1)

-- a count, and that many
abbrev pub list : {A : Type 0} → Layout A → Layout (List A)
list l = record {
  spelling = λ xs. u32.spelling (length xs) ++ flat_map l.spelling xs;
  fits = λ xs. u32.fits (length xs) × AllByRecursion l.fits xs;
  reading = λ bytes. u32.reading bytes >>= λ n. times l.reading n.0 n.1;
}

-- a signed number, in two's complement
unfoldable pub i64 : Layout ℤ
i64 = record {
  spelling = λ z. u64.spelling (cast_unsigned w64 z);
  fits = FitsSigned w64;
  reading = λ bytes. u64.reading bytes >>= λ n. Some (cast_signed w64 n.0, n.1);
}

-- a length, and that many bytes
unfoldable pub text : Layout (List ℕ)
text = record {
  spelling = λ t. u32.spelling (length t) ++ t;
  fits = λ t. u32.fits (length t);
  reading = λ bytes. u32.reading bytes >>= λ n. if nat_lt (length n.1) n.0 then None else Some (take n.0 n.1, drop n.0 n.1);
}

-- a value that meets a test
abbrev pub only : {A : Type 0} → (A → Bool) → Layout A → Layout A
only test l = record {
  spelling = l.spelling;
  fits = λ x. l.fits x × IsTrue (test x);
  reading = λ bytes. l.reading bytes >>= λ x. if test x.0 then Some x else None;
}

-- a text that is a path, or a name
unfoldable pub path : Layout (List ℕ)
path = only path_test text

unfoldable pub name : Layout (List ℕ)
name = only name_test text

-- what follows a tag: a value, of which another is made; or nothing
abbrev pub behind : {A B : Type 0} → (A → B) → Layout A → List ℕ → Option (B × List ℕ)
behind to l bytes = l.reading bytes >>= λ x. Some (to x.0, x.1)

abbrev pub bare : {A : Type 0} → A → List ℕ → Option (A × List ℕ)
bare x bytes = Some (x, bytes)

-- 0, or 1 and a value
abbrev pub option_spelling : {A : Type 0} → Layout A → Option A → List ℕ
option_spelling l None = 0 ∷ []
option_spelling l (Some x) = 1 ∷ l.spelling x

abbrev pub option_fits : {A : Type 0} → Layout A → Option A → Type 0
option_fits l None = Unit {0}
option_fits l (Some x) = l.fits x

abbrev pub option_reading : {A : Type 0} → Layout A → List ℕ → Option (Option A × List ℕ)
option_reading l [] = None
option_reading l (zero ∷ rest) = bare None rest
option_reading l (suc zero ∷ rest) = behind (λ x. Some x) l rest
option_reading l (suc (suc b) ∷ rest) = None

abbrev pub option : {A : Type 0} → Layout A → Layout (Option A)
option l = record { spelling = option_spelling l; fits = option_fits l; reading = option_reading l }

-- 0 for false, 1 for true
abbrev pub bool_spelling : Bool → List ℕ
bool_spelling false = 0 ∷ []
bool_spelling true = 1 ∷ []

abbrev pub bool_reading : List ℕ → Option (Bool × List ℕ)
bool_reading [] = None
bool_reading (zero ∷ rest) = bare false rest
bool_reading (suc zero ∷ rest) = bare true rest
bool_reading (suc (suc b) ∷ rest) = None

unfoldable pub bool : Layout Bool
bool = record { spelling = bool_spelling; fits = λ _. Unit {0}; reading = bool_reading }

-- ---- whole values

-- the value that all of the bytes spell
abbrev pub ended : {A : Type 0} → A → List ℕ → Option A
ended x [] = Some x
ended x (b ∷ rest) = None

abbrev pub whole : {A : Type 0} → Layout A → List ℕ → Option A
whole l bytes = l.reading bytes >>= λ x. ended x.0 x.1

-- the bytes are the one spelling of the value; or no value has these bytes
abbrev pub Decodes : {A : Type 0} → Layout A → List ℕ → Option A → Type 0
Decodes l bytes (Some x) = l.fits x × (bytes ≡ l.spelling x)
Decodes {A} l bytes None = (x : A) → l.fits x → bytes ≢ l.spelling x
