-- What the committed branches in doubt make of files and of copies, once they are settled. A comparison looks at bytes alone.
use Rattle.std.specs.Prelude.{◌≡◌, ℕ, Bool, ◌&&◌, if◌then◌else◌, nat_eq, List, [], ◌∷◌, Option, Some, None}
use Rattle.std.specs.Cmp.Lexicographic.{pointwise}
use Rattle.std.specs.Map.{lookup}
use Rattle.std.specs.Option.{option_map, option_or}
use Rattle.dl_base.specs.declared.column.OnUnlink.{OnUnlink}
use Rattle.dl_base.specs.declared.column.OnUnlink.TheVariants as unlink
use Rattle.dl_base.specs.declared.file.File.{File}
use Rattle.dl_base.specs.declared.value.LinkRow.{LinkRow}
use Rattle.compare_files.specs.declared.effects.Effect.{Effect}
use Rattle.compare_files.specs.declared.effects.Effect.TheVariants as effects
use Rattle.meaning_settling.specs.Settling.{Copy, Moved, link_key, numbered, on}

abbrev pub Bytes : Type 0
Bytes = List ℕ

-- what a link that is taken, or given, makes of the file on its path

abbrev pub taken : Bool → LinkRow → Effect
taken fill t = if fill && t.options.recovery then effects.Fills t.link else effects.Keeps

abbrev pub unlinked : OnUnlink → Effect
unlinked unlink.Nothing = effects.Keeps
unlinked unlink.Restore = effects.Keeps
unlinked unlink.Delete = effects.Deletes

abbrev pub given : LinkRow → Effect
given g = unlinked g.options.unlink

-- what a transaction makes of the file on a path, if it gives or takes a link there: the take counts before the give
abbrev pub effect : List ℕ → Moved → Option Effect
effect path m = option_or (option_map (taken m.fill) (on m.takes path)) (option_map given (on m.gives path))

-- the path of the file of which a transaction makes a copy under a link number, if it gives that link and there is to be one
abbrev pub source : LinkRow → Option (List ℕ)
source g = if g.options.recovery then Some g.path else None

abbrev pub sourced : List ℕ → Moved → Option (Option (List ℕ))
sourced key m = option_map source (numbered m.gives key)

-- the first of some open transactions that has to do with it

abbrev pub of_open : {A : Type 0} → (Moved → Option A) → Option Moved → Option A
of_open what None = None
of_open what (Some m) = what m

abbrev pub first_open : {A : Type 0} → (Moved → Option A) → (ℕ → Option Moved) → List ℕ → Option A
first_open what open_at [] = None
first_open what open_at (t ∷ ts) = option_or (of_open what (open_at t)) (first_open what open_at ts)

-- what is left of a file, where copies have bytes under link numbers; and of a copy, where files have bytes on paths

abbrev pub file_bytes : Option File → Option Bytes
file_bytes o = option_map (λ f. f.bytes) o

abbrev pub copy_bytes : Option Copy → Option Bytes
copy_bytes o = option_map (λ c. c.bytes) o

abbrev pub after_effect : Option Effect → (List ℕ → Option Bytes) → Option Bytes → Option Bytes
after_effect None copies was = was
after_effect (Some effects.Keeps) copies was = was
after_effect (Some effects.Deletes) copies was = None
after_effect (Some (effects.Fills link)) copies was = option_or (copies (link_key link)) was

abbrev pub after_source : Option (Option (List ℕ)) → (List ℕ → Option Bytes) → Option Bytes → Option Bytes
after_source None files was = was
after_source (Some None) files was = was
after_source (Some (Some path)) files was = option_or was (files path)

-- ENTRIES OF A MAP from lists of numbers, and the entry of a key

abbrev pub Entries : Type 0 → Type 0
Entries X = List (List ℕ × X)

abbrev pub entry : {X : Type 0} → Entries X → List ℕ → Option X
entry es key = lookup (pointwise nat_eq key) es

-- some entries are those of before and, at keys that had none, more
abbrev pub PutsBehind : {X : Type 0} → Entries X → Entries X → (List ℕ → Option X) → Type 0
PutsBehind old new more = (key : List ℕ) → entry new key ≡ option_or (entry old key) (more key)

-- entries say at each key what the first of some open transactions has to do with it
abbrev pub SayOf : {X : Type 0} → (List ℕ → Moved → Option X) → (ℕ → Option Moved) → List ℕ → Entries X → Type 0
SayOf what open_at ts es = (key : List ℕ) → entry es key ≡ first_open (what key) open_at ts
