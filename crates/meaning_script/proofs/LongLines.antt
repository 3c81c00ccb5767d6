-- Lines at the bound on their bytes.
use Rattle.std.proofs.Common.{◌≡◌, replicate, refl}
use Rattle.meaning_script.specs.Lines.{is_quiet}
use Rattle.meaning_script.specs.Outlines.{bad_at, outline, session_line}
use Rattle.meaning_script.specs.declared.kind.Outline.TheVariants as outlines

-- the longest line is read: it names no session
line_of_65536_bytes : outline (replicate 65536 120) ≡ outlines.Plain (bad_at 1)
unfolding outline is_quiet session_line
line_of_65536_bytes = refl

-- one byte more, and it is not
line_of_65537_bytes : outline (replicate 65537 120) ≡ outlines.Plain (bad_at 65537)
unfolding outline is_quiet
line_of_65537_bytes = refl
