use Rattle.std.proofs.Common.{Bool, Some, sym, ap, ◌∙◌}
use Rattle.std.proofs.lemmas.Bool.{false≢true}
use Rattle.std.specs.Bool.{then_some}
use Rattle.dl_codec.specs.declared.links.BranchPhase.TheVariants as phases
use Rattle.meaning_areas.specs.Branches.{Branch, branch, moved_by, with_branch}
use Rattle.fm_branch.specs.Linked.{Recorded}
use Rattle.fm_branch.proofs.history.History.prepares.Goals as goal

pub returns-then-not-branch : goal.returns-then-not-branch
returns-then-not-branch c =
    let entered = with_branch c.args.self.now.links c.args.tx (branch (moved_by c.args.gives c.args.takes) phases.Prepared) in
    record {
      links = c.in_ok-may_prepare.ensures.step ∙ ap (λ (b : Bool). then_some b entered) c.if-not-branch.true;
      prepared = λ taken. absurd (false≢true taken);
    }

pub returns : goal.returns
returns c =
    let l = c.args.self.now.links in
    let entered = with_branch l c.args.tx (branch (moved_by c.args.gives c.args.takes) phases.Prepared) in
    record {
      links = c.in_ok-may_prepare.ensures.step ∙ ap (λ (b : Bool). then_some b entered) c.if-not-branch.false
          ∙ sym (ap (λ (h : Recorded). Some h.links) c.in_ok-enter.ensures.ok ∙ ap (λ (e : Branch). Some (with_branch l c.args.tx e)) c.in_ok-entry.ensures);
      prepared = λ taken. ap (λ (h : Recorded). h.prepared) c.in_ok-enter.ensures.ok;
    }
