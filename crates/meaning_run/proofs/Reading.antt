-- The lines of each script are read in one way.
use Rattle.std.proofs.Common.{◌≡◌, ℕ, List, [], ◌∷◌, refl, sym, ◌∙◌}
use Rattle.meaning_run.specs.Running.{AreRead, IsRead, Read}
use Rattle.meaning_script.specs.Actors.{actor_of}
use Rattle.meaning_script.specs.declared.kind.Line.{Line}
use Rattle.run_lines.specs.Reading.{Reads}

abbrev pub ReadsEach : Type 0
ReadsEach = (bytes : List ℕ) → (l : Line) × Reads bytes l

abbrev pub ReadsOne : Type 0
ReadsOne = (bytes : List ℕ) (l m : Line) → Reads bytes l → Reads bytes m → l ≡ m

pub some_read : (lines : List (List ℕ)) → ReadsEach → (read : List Read) × AreRead lines read
some_read [] each = ([], tt)
some_read (bytes ∷ lines) each =
    let (l, reads) = each bytes in
    let (more, are) = some_read lines each in
    (record { actor = actor_of bytes; line = l } ∷ more, (record { actor = refl; line = reads }, are))

one_line : (bytes : List ℕ) (a b : Read) → ReadsOne → IsRead bytes a → IsRead bytes b → a ≡ b
one_line bytes a b one is also =
    let actor : a.actor ≡ b.actor = is.actor ∙ sym also.actor in
    let line : a.line ≡ b.line = one bytes a.line b.line is.line also.line in
    (λ i. record { actor = actor i; line = line i })

pub one_read : (lines : List (List ℕ)) (a b : List Read) → ReadsOne → AreRead lines a → AreRead lines b → a ≡ b
one_read [] [] [] one is also = refl
one_read [] [] (y ∷ ys) one is also = absurd also
one_read [] (x ∷ xs) b one is also = absurd is
one_read (bytes ∷ lines) [] b one is also = absurd is
one_read (bytes ∷ lines) (x ∷ xs) [] one is also = absurd also
one_read (bytes ∷ lines) (x ∷ xs) (y ∷ ys) one (is, are) (also, have) =
    let same = one_line bytes x y one is also in
    let more = one_read lines xs ys one are have in
    (λ i. same i ∷ more i)
