use Rattle.std.proofs.Common.{ℕ, List, ap, ◌∙◌}
use Rattle.std.specs.Cmp.Lexicographic.{slice_cmp}
use Rattle.std.specs.FinMap as maps
use Rattle.std.specs.Ordering.{is_eq, nat_cmp}
use Rattle.fm_links.specs.Claims.{claim_on, claims_in}
use Rattle.fm_links.proofs.Entries.{put, query-ties}
use Rattle.fm_links.proofs.made.put.Goals as goal

pub returns : goal.returns
returns c =
    put (λ q k. is_eq (slice_cmp nat_cmp q k)) query-ties c.args.made.now.entries c.insert.new.self.entries c.in_ok-path.path c.args.claim c.in_ok-insert.ensures.updates.0
    ∙ ap (λ (p : List ℕ). maps.insert (claims_in c.args.made.now.entries) p (claim_on p c.args.claim)) c.in_ok-path.ensures
