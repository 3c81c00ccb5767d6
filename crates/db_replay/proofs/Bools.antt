-- Tests in other orders.
use Rattle.std.proofs.Common.{◌≡◌, ◌&&◌, ◌||◌, Bool, true, false, not, refl}

pub and_false : (a : Bool) → (a && false) ≡ false
and_false true = refl
and_false false = refl

pub or_false : (a : Bool) → (a || false) ≡ a
or_false true = refl
or_false false = refl

pub and_true : (a : Bool) → (a && true) ≡ a
and_true true = refl
and_true false = refl

pub joined : (a b c : Bool) → (a && (b && c)) ≡ ((a && b) && c)
joined true b c = refl
joined false b c = refl

-- two pairs of tests that fail
pub crossed : (a b c d : Bool) → (not (a || b) && (not c && d)) ≡ (not (a || c) && (not b && d))
crossed true b c d = refl
crossed false true true d = refl
crossed false true false d = refl
crossed false false true d = refl
crossed false false false d = refl

pub inner : (n q l d : Bool) → (n && ((q && l) && d)) ≡ ((n && l) && (q && d))
inner false q l d = refl
inner true true true d = refl
inner true true false d = refl
inner true false true d = refl
inner true false false d = refl

pub outer : (u w l d r : Bool) → (not (u || w) && ((l && d) && r)) ≡ (((not w && l) && (not u && d)) && r)
outer true true l d r = refl
outer true false true d r = refl
outer true false false d r = refl
outer false true l d r = refl
outer false false true d r = refl
outer false false false d r = refl

-- a row's three tests beside those of the rest: `f` and `k` of its table, `t` of the table without it, `r` of the other tables,
-- `n` of its links and `d` of the others
pub gathered : (f k t r n d : Bool) → ((((f && k) && t) && r) && (n && d)) ≡ (((f && k) && n) && ((t && r) && d))
gathered false k t r n d = refl
gathered true false t r n d = refl
gathered true true false r true d = refl
gathered true true false r false d = refl
gathered true true true false true d = refl
gathered true true true false false d = refl
gathered true true true true n d = refl
