use Rattle.std.proofs.Common.{◌≡◌, ℕ, true, false, cond, List, Some, is_some, sym, ap, ◌∙◌, rules}
use Rattle.std.specs.BTreeMap.{get}
use Rattle.std.specs.Cmp.Lexicographic.{slice_cmp}
use Rattle.std.specs.Ordering.{nat_cmp}
use Rattle.fm_effects.proofs.Keys.{turned}
use Rattle.fm_effects.proofs.NumberLaws.{not-there, number-new, number-there}
use Rattle.meaning_settling.specs.Keyed.{is_at}
use Rattle.meaning_settling.specs.Settling.{link_key}
use Rattle.fm_effects.proofs.sources.put_number.Goals as goal

pub returns-then-contains_key : goal.returns-then-contains_key
returns-then-contains_key c q =
    let yes : c.contains_key.result ≡ true = search rules in
    number-there (get (slice_cmp nat_cmp) c.args.made.now) c.args.row.now q
    (ap (λ (n : List ℕ). is_some (get (slice_cmp nat_cmp) c.args.made.now n)) (sym c.number_of-number.ensures) ∙ sym c.contains_key.ensures ∙ yes)

pub returns : goal.returns
returns c q =
    let old = get (slice_cmp nat_cmp) c.args.made.now in
    let no : c.contains_key.result ≡ false = search rules in
    c.in_ok-insert.ensures.updates.0 q
    ∙ (λ i. cond ((turned c.number_of-number.result q ∙ ap (λ (n : List ℕ). is_at q n) c.number_of-number.ensures) i) (Some (c.in_ok-row.ensures i)) (old q))
    ∙ number-new old c.args.row.now q (not-there (old (link_key c.args.row.now.link)) (ap (λ (n : List ℕ). is_some (old n)) (sym c.number_of-number.ensures) ∙ sym c.contains_key.ensures ∙ no))
