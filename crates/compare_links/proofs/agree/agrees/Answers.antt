use Rattle.std.proofs.Common.{◌≡◌, ℕ, List, Some, sym, ap, ◌∙◌}
use Rattle.std.specs.BTreeMap.{get}
use Rattle.std.specs.Cmp.Lexicographic.{slice_cmp}
use Rattle.std.specs.Option.{option_copied}
use Rattle.std.specs.Ordering.{nat_cmp}
use Rattle.meaning_settling.specs.Settling.{link_key}
use Rattle.compare_links.proofs.Numbers.{agrees-by}
use Rattle.compare_links.proofs.agree.agrees.Goals as goal

pub returns-in-Some : goal.returns-in-Some
returns-in-Some c =
    let found : get (slice_cmp nat_cmp) c.args.rows.now (link_key c.args.link) ≡ Some c.in-Some.row.now =
    ap (λ (q : List ℕ). get (slice_cmp nat_cmp) c.args.rows.now q) (sym c.number_of.ensures) ∙ sym c.get.ensures.value ∙ ap option_copied c.in-Some.is in
    agrees-by (get (slice_cmp nat_cmp) c.args.rows.now (link_key c.args.link)) c.in-Some.row.now (record { link = c.args.link; path = c.args.path.now; options = c.args.options }) c.is_link.result found c.is_link.ensures
