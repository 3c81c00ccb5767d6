use Rattle.std.proofs.Common.{Some, refl, sym, ap, ◌∙◌}
use Rattle.std.specs.Option.{option_copied}
use Rattle.fm_links.proofs.Entries.{taken, untaken}
use Rattle.fm_links.proofs.made.taken_at.Goals as goal

pub returns-in-Some : goal.returns-in-Some
returns-in-Some c = taken c.args.made.now.entries c.args.path.now (Some c.in-Some.claim.now) (sym (ap option_copied c.in-Some.is) ∙ c.get.ensures.value) c.in-Some.claim.now.take refl

pub returns-in-None : goal.returns-in-None
returns-in-None c = untaken c.args.made.now.entries c.args.path.now (sym (ap option_copied c.in-None.is) ∙ c.get.ensures.value)
