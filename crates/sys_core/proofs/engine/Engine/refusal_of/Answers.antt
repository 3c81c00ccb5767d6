use Rattle.std.proofs.Common.{sym, ◌∙◌}
use Rattle.fm_manager.proofs.Parts.{if-ok}
use Rattle.sys_core.proofs.Voting.{doomed-first, files-first, files-of, opening-of, passes-without}
use Rattle.sys_core.specs.Claiming.{opening_in}
use Rattle.sys_core.proofs.engine.Engine.refusal_of.Goals as goal

pub returns-then-not-has_links : goal.returns-then-not-has_links
returns-then-not-has_links c first s tx t is seat = passes-without s tx t c.args.seat.now seat (sym c.has_links.ensures ∙ c.if-not-has_links.true)

pub returns-in-Some : goal.returns-in-Some
returns-in-Some c first s tx t is seat =
    let w = c.args.self.now in
    doomed-first s tx t c.args.seat.now seat (opening_in w) (opening-of first w s is) (sym c.has_links.ensures ∙ c.if-not-has_links.false) c.in-Some.refusal c.in-Some.ensures

pub returns-in-None : goal.returns-in-None
returns-in-None c first s tx t is seat =
    let w = c.args.self.now in
    if-ok c.files_refusal.result (c.files_refusal.ensures s (files-of first w s is))
    (λ why same. same ∙ files-first s tx t c.args.seat.now seat (opening_in w) (opening-of first w s is) (sym c.has_links.ensures ∙ c.if-not-has_links.false) c.in-None.ensures)
