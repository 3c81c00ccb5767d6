-- Room for commits: in the log, in the tables, and for the ends of branches.
use Rattle.std.proofs.Common.{ℕ, ◌+◌, ◌-◌, ◌*◌, ◌/◌, ◌≤◌, min, Result, Ok, Err, OnOk, arith}

pub room_for : (n a b e live count : ℕ) → n ≤ a → n * 256 ≤ b → count + n ≤ e → live ≤ count → n ≤ min (min a (b / 256)) (e - live)
room_for n a b e live count p q r s = omega (arith, p, q, r, s)

pub more_room : (a b c d e f live : ℕ) → a ≤ c → b ≤ d → e ≤ f → min (min a (b / 256)) (e - live) ≤ min (min c (d / 256)) (f - live)
more_room a b c d e f live p q r = omega (arith, p, q, r)

-- for a commit that takes the room of so many

pub room_tables : (rooms n a b room : ℕ) → n ≤ rooms * 256 → rooms ≤ min (min a (b / 256)) room → n ≤ b
room_tables rooms n a b room p q = omega (arith, p, q)

pub room_log : (rooms a b room : ℕ) → 1 ≤ rooms → rooms ≤ min (min a (b / 256)) room → 1 ≤ a
room_log rooms a b room p q = omega (arith, p, q)

-- after a commit, and after the end of a branch

tables_commit : (rooms n b d : ℕ) → n ≤ rooms * 256 → b ≤ d + n → b / 256 ≤ d / 256 + rooms
tables_commit rooms n b d p q = omega (arith, p, q)

pub spare_commit : (rooms n a b c d e live later : ℕ) → 1 ≤ rooms → n ≤ rooms * 256 → a ≤ c + 1 → b ≤ d + n → later ≤ live + 1 → min (min a (b / 256)) (e - live) ≤ min (min c (d / 256)) (e - later) + rooms
spare_commit rooms n a b c d e live later some few log tables more = let room = tables_commit rooms n b d few tables in omega (arith, some, log, room, more)

pub room_commit : (rooms a e live later : ℕ) → 1 ≤ rooms → rooms ≤ min a (e - live) → later ≤ live + 1 → later ≤ e
room_commit rooms a e live later some p q = omega (arith, some, p, q)

pub spare_end : (a e f live later : ℕ) → e ≤ f + 1 → later + 1 ≤ live → min a (e - live) ≤ min a (f - later)
spare_end a e f live later p q = omega (arith, p, q)

-- what three facts lead to, where each of them holds without a fault
pub on_ok : {X E A B C D : Type 0} (r : Result X E) → OnOk r A → OnOk r B → OnOk r C → (A → B → C → D) → OnOk r D
on_ok (Ok x) a b c leads = leads a b c
on_ok (Err e) a b c leads = tt
