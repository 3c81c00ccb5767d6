-- Pieces as they are made.
use Rattle.std.proofs.Common.{◌≡◌, ℕ, suc, ◌+◌, ◌≤◌, Bool, true, false, cond, List, [], ◌∷◌, filter, length, map, Option, Some, None, refl, arith}
use Rattle.std.proofs.lemmas.Bool.{and_parts}
use Rattle.std.specs.List.{cons_option, filter_map, list_all}
use Rattle.dl_base.specs.declared.file.FileChange.{FileChange}
use Rattle.dl_base.specs.declared.file.FileChange.TheVariants as changes
use Rattle.dl_base.specs.declared.value.LinkRow.{LinkRow}
use Rattle.dl_codec.specs.declared.archive.FileCopy.{FileCopy}
use Rattle.fm_effects.specs.Reading.{is_no_put}
use Rattle.fm_pieces.proofs.Carrying.{cons-tail, written}
use Rattle.fs_files.specs.Batch.{put_count, puts}
use Rattle.meaning_areas.specs.Lists.{Written}

false_true : false ≡ true → ⊥
false_true e = cc

-- of a list that has at most one for each item of another there are no more
pub no-more : (f : LinkRow → Option Written) (gs : List LinkRow) (cs : List FileCopy) → map written cs ≡ filter_map f gs → length cs ≤ length gs
no-more f [] [] e = omega arith
no-more f [] (c ∷ cs) e = absurd cc
no-more f (g ∷ gs) cs e = by (f g) cs (λ ds h. no-more f gs ds h) e
  where
    longer : (a b : ℕ) → a ≤ b → a ≤ suc b
    longer a b le = omega (arith, le)

    both-longer : (a b : ℕ) → a ≤ b → suc a ≤ suc b
    both-longer a b le = omega (arith, le)

    by : (o : Option Written) (cs : List FileCopy) → ((ds : List FileCopy) → map written ds ≡ filter_map f gs → length ds ≤ length gs) → map written cs ≡ cons_option o (filter_map f gs) → length cs ≤ suc (length gs)
    by None cs rest e = longer (length cs) (length gs) (rest cs e)
    by (Some w) [] rest e = absurd cc
    by (Some w) (c ∷ cs) rest e = both-longer (length cs) (length gs) (rest cs (cons-tail (written c) w (map written cs) (filter_map f gs) e))

pub filtered-fewer : {A : Type 0} (test : A → Bool) (xs : List A) → length (filter test xs) ≤ length xs
filtered-fewer test [] = omega arith
filtered-fewer {A} test (x ∷ xs) = by (test x) (filtered-fewer test xs)
  where
    longer : (a b : ℕ) → a ≤ b → a ≤ suc b
    longer a b le = omega (arith, le)

    both-longer : (a b : ℕ) → a ≤ b → suc a ≤ suc b
    both-longer a b le = omega (arith, le)

    by : (b : Bool) → length (filter test xs) ≤ length xs → length (cond b (x ∷ filter test xs) (filter test xs)) ≤ suc (length xs)
    by true le = both-longer (length (filter test xs)) (length xs) le
    by false le = longer (length (filter test xs)) (length xs) le

-- changes that put no file
pub none-put : (cs : List FileChange) → list_all is_no_put cs ≡ true → puts cs ≡ 0
none-put [] e = refl
none-put (c ∷ cs) e = let two = and_parts (is_no_put c) (list_all is_no_put cs) e in λ i. one c two.0 i + none-put cs two.1 i
  where
    one : (x : FileChange) → is_no_put x ≡ true → put_count x ≡ 0
    one (changes.Removed path) is = refl
    one (changes.Put row) is = absurd (false_true is)
    one (changes.Kept path owner before) is = refl
