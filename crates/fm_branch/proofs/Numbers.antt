-- Which numbers an opening may have.
use Rattle.std.proofs.Common.{◌≡◌, ℕ, ◌+◌, ◌-◌, ◌≤◌, ◌<◌, cond, Some, None, ap, ◌∙◌, arith}
use Rattle.std.proofs.lemmas.Bool.{le-ltb, lt-ltb}
use Rattle.dl_base.specs.Limits.{most_numbers}
use Rattle.dl_base.specs.declared.fault.Full.TheVariants as fulls
use Rattle.meaning_areas.specs.Full.{opening_full}

pub opening_ends : (n : ℕ) → 4294967294 ≤ n → opening_full (n + 1) ≡ Some (fulls.Openings n)
opening_ends n le =
    let same : n + 1 - 1 ≡ n = omega arith in
    ap (λ b. cond b (Some (fulls.Openings (n + 1 - 1))) None) (lt-ltb most_numbers (n + 1) (omega (arith, le)))
    ∙ ap (λ (m : ℕ). Some (fulls.Openings m)) same

pub opening_goes : (n : ℕ) → n < 4294967294 → opening_full (n + 1) ≡ None
opening_goes n lt = ap (λ b. cond b (Some (fulls.Openings (n + 1 - 1))) None) (le-ltb most_numbers (n + 1) (omega (arith, lt)))
