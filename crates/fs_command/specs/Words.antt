-- The words of a text, and reading them one after another.
use Rattle.std.specs.Prelude.{ℕ, ◌+◌, ◌==◌, not, List, [], ◌∷◌, length, drop, filter, slice_range}
use Rattle.std.specs.List.{slice_split}

-- a word, and the place of its first byte
pub record Word : Type 0 where
  pub place : ℕ
  pub bytes : List ℕ

-- parts of a text with one byte between each and the next, the first of them at a place
abbrev pub placed : ℕ → List (List ℕ) → List Word
placed at [] = []
placed at (part ∷ parts) = record { place = at; bytes = part } ∷ placed (at + length part + 1) parts

-- the words of some bytes, the first of which stands at a place: what stands between spaces, where that is not nothing
abbrev pub words : ℕ → List ℕ → List Word
words at bytes = filter (λ w. not (length w.bytes == 0)) (placed at (slice_split (λ b. b == 32) bytes))

-- the words from an index on, and the word between two indices, from 0
abbrev pub words_from : ℕ → List ℕ → List Word
words_from at text = words (at + 1) (drop at text)

abbrev pub word_at : List ℕ → ℕ → ℕ → Word
word_at text begin end = record { place = begin + 1; bytes = slice_range text begin end }
