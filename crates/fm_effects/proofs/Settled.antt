-- The copies once the links given have theirs are those of settling.
use Rattle.std.proofs.Common.{◌≡◌, ℕ, List}
use Rattle.std.specs.FinMap as maps
use Rattle.meaning_settling.specs.Settling.{Kept, Moved, copies_after, copy_after, settle_one}

pub settled-copies : ((m : Moved) (k : Kept) (n : List ℕ) → maps.get (settle_one m k).copies n ≡ copy_after m k.files n (maps.get k.copies n))
    → (m : Moved) (k : Kept) (n : List ℕ) → maps.get (copies_after m k) n ≡ copy_after m k.files n (maps.get k.copies n)
unfolding settle_one
settled-copies law = law
