-- WHAT IS MADE FOR A VOTE.
use Rattle.std.proofs.Common.{◌≡◌, ℕ, true, false, List, Some, sym, ◌∙◌, ap}
use Rattle.std.specs.FinMap as maps
use Rattle.dl_base.specs.declared.value.LinkRow.{LinkRow}
use Rattle.fm_links.specs.Claims.{moved}
use Rattle.fm_manager.specs.Managed.{Managed}
use Rattle.fm_manager.specs.Managed as managed
use Rattle.fm_manager.specs.Pieces.{AreOf, Pieces}
use Rattle.fm_pieces.specs.Keeping.{AreThere, HasPieces, left_of}
use Rattle.meaning_areas.specs.Finishing.{batch_changes, copy_records}
use Rattle.meaning_files.specs.Files.{Files}
use Rattle.meaning_settling.specs.Settling.{Copies, Kept, Moved}
use Rattle.meaning_system.specs.State.{State, Txn, has_links, kept_in, moved_of}

-- THE PIECES of the Finish of a transaction, for which no held link counts

abbrev kept-of : Files → Copies → Kept
kept-of files copies = record { files = files; copies = copies; held = maps.empty }

module _ (s : State) (t : Txn) (m : Managed) (gives takes : List LinkRow) (files : s.files ≡ m.files.files) (copies : s.copies ≡ m.archive.copies) (is_gives : gives ≡ (moved_of t).gives) (is_takes : takes ≡ (moved_of t).takes) where
  same-moved : moved gives takes ≡ moved_of t
  same-moved = λ i. record { gives = is_gives i; takes = is_takes i; fill = false }

  pub no-pieces : has_links (moved gives takes) ≡ false → has_links (moved_of t) ≡ false
  no-pieces none = ap has_links (sym same-moved) ∙ none

  pub pieces-made : (law : (n : Moved) (k : Kept) (p : Pieces) → AreOf p n k → AreOf (left_of k.copies p) n k)
      → (tx : ℕ) (p : Pieces) → has_links (moved gives takes) ≡ true → p.tx ≡ tx → AreOf p (moved gives takes) (managed.kept_in m) → AreThere s.files (moved_of t) → HasPieces s tx t (Some p)
  pieces-made law tx p has own of there = (
    ap has_links (sym same-moved) ∙ has,
    own,
    law (moved_of t) (kept_in s) p (record {
      copies = of.copies ∙ (λ i. copy_records (same-moved i) (kept-of (sym files i) (sym copies i)));
      changes = of.changes ∙ (λ i. batch_changes (same-moved i) (kept-of (sym files i) (sym copies i)));
    }),
    there,
  )
