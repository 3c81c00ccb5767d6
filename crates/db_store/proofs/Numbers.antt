-- Which numbers an opening and a transaction may have.
use Rattle.std.proofs.Common.{◌≡◌, ℕ, ◌+◌, ◌-◌, ◌<◌, ◌≤◌, cond, Option, Some, None, sym, ap, ◌∙◌, arith}
use Rattle.std.proofs.lemmas.Bool.{lt-ltb, le-ltb}
use Rattle.std.specs.Option.{option_map}
use Rattle.dl_base.specs.Limits.{most_numbers}
use Rattle.dl_base.specs.declared.fault.AppendFault.{AppendFault}
use Rattle.dl_base.specs.declared.fault.AppendFault.TheVariants as appends
use Rattle.dl_base.specs.declared.fault.Full.{Full}
use Rattle.dl_base.specs.declared.fault.Full.TheVariants as fulls
use Rattle.meaning_areas.specs.Full.{draw_full, opening_full}

abbrev faults : Option Full → Option AppendFault
faults o = option_map (λ f. appends.Full f) o

pub opening_ends : (n : ℕ) → 4294967294 ≤ n → opening_full (n + 1) ≡ Some (fulls.Openings n)
opening_ends n le =
    let same : n + 1 - 1 ≡ n = omega arith in
    ap (λ b. cond b (Some (fulls.Openings (n + 1 - 1))) None) (lt-ltb most_numbers (n + 1) (omega (arith, le)))
    ∙ ap (λ (m : ℕ). Some (fulls.Openings m)) same

pub draw_fits : (n : ℕ) → n < 4294967294 → None ≡ faults (draw_full (n + 1))
draw_fits n lt = sym (ap (λ b. faults (cond b (Some (fulls.Transactions (n + 1 - 1))) None)) (le-ltb most_numbers (n + 1) (omega (arith, lt))))

pub draw_ends : (n m : ℕ) → n ≡ m → 4294967294 ≤ n → Some (appends.Full (fulls.Transactions n)) ≡ faults (draw_full (m + 1))
draw_ends n m is le =
    let same : m + 1 - 1 ≡ n = omega (arith, is) in
    sym (
    ap (λ b. faults (cond b (Some (fulls.Transactions (m + 1 - 1))) None)) (lt-ltb most_numbers (m + 1) (omega (arith, le, is)))
    ∙ ap (λ (k : ℕ). Some (appends.Full (fulls.Transactions k))) same)
