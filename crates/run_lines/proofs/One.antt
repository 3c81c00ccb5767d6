-- Each line is read as something, and as one thing.
use Rattle.std.proofs.Common.{◌≡◌, ◌≢◌, ◌+◌, ℕ, List, drop, Ok, Err, refl, sym, ◌∙◌}
use Rattle.dl_base.specs.declared.answer.Refusal.TheVariants as refusals
use Rattle.meaning_script.specs.Outlines.{bad_at, outline}
use Rattle.meaning_script.specs.declared.kind.Line.{Line}
use Rattle.meaning_script.specs.declared.kind.Line.TheVariants as lines
use Rattle.meaning_script.specs.declared.kind.Outline.{Outline}
use Rattle.meaning_script.specs.declared.kind.Outline.TheVariants as outlines
use Rattle.meaning_script.specs.declared.kind.Sentence.TheVariants as sentences
use Rattle.sql_syntax.specs.Parsing.{Parses, Agrees}
use Rattle.sql_syntax.specs.declared.parser.ParseFault.TheVariants as faults
use Rattle.run_lines.specs.Reading.{IsStatement, IsFilled, Reads}
use Rattle.run_lines.proofs.Only.{Answer, only_line}

abbrev pub AnswersEach : Type 0
AnswersEach = (text : List ℕ) → (r : Answer) × Parses text r × (r ≢ Err faults.Memory)

abbrev pub AnswersOne : Type 0
AnswersOne = (text : List ℕ) (q r : Answer) → Parses text q → Parses text r → Agrees q r

said : (name : List ℕ) (before : ℕ) (text : List ℕ) (r : Answer) → Parses text r → r ≢ Err faults.Memory → (l : Line) × IsStatement name before text l
said name before text (Ok s) p known = (lines.Session name (sentences.Sql s), (Ok s, p, refl))
said name before text (Err (faults.BadChar k)) p known = (bad_at (k + before), (Err (faults.BadChar k), p, refl))
said name before text (Err (faults.Syntax k)) p known = (lines.Bad (refusals.Syntax (k + before)), (Err (faults.Syntax k), p, refl))
said name before text (Err faults.Memory) p known = absurd (known refl)

some_filled : (bytes : List ℕ) (o : Outline) → AnswersEach → (l : Line) × IsFilled bytes o l
some_filled bytes (outlines.Plain m) each = (m, refl)
some_filled bytes (outlines.Statement name before) each =
    let a = each (drop before bytes) in
    said name before (drop before bytes) a.0 a.1 a.2

pub some_reading : (bytes : List ℕ) → AnswersEach → (l : Line) × Reads bytes l
some_reading bytes each = some_filled bytes (outline bytes) each

one_filled : (bytes : List ℕ) (o : Outline) → AnswersOne → (l m : Line) → IsFilled bytes o l → IsFilled bytes o m → l ≡ m
one_filled bytes (outlines.Plain n) one l m a b = a ∙ sym b
one_filled bytes (outlines.Statement name before) one l m (r, p, shows) b =
    only_line name before (drop before bytes) r l m shows (λ q parses. one (drop before bytes) r q p parses) b

pub one_reading : (bytes : List ℕ) → AnswersOne → (l m : Line) → Reads bytes l → Reads bytes m → l ≡ m
one_reading bytes one l m a b = one_filled bytes (outline bytes) one l m a b
