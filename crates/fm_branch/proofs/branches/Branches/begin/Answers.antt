use Rattle.std.proofs.Common.{◌≡◌, refl, subst}
use Rattle.dl_base.specs.declared.fault.BeginFault.TheVariants as begins
use Rattle.dl_journal.specs.Extent.{Extent}
use Rattle.dl_journal.specs.Open.{IsOpen, Keeps}
use Rattle.fm_branch.proofs.Seen.{journal_is, no_fault, seen}
use Rattle.fm_branch.specs.Linked.{extent}
use Rattle.fm_branch.proofs.branches.Branches.begin.Goals as goal

pub fold-requires : goal.fold-requires
fold-requires g c = c.in_ok-journal.ensures.keeps.fits

pub invariant_of-result : goal.invariant_of-result
invariant_of-result g c = c.in_ok-journal.ensures.journal.0

pub returns : goal.returns
returns g c =
    let O = g.B.Bench.outside in
    let j = c.in_ok-journal.journal in
    let h = c.in_ok-history.history in
    let bodies = c.in_ok-journal.bodies in
    let e = c.in_ok-journal.ensures in
    let is : j ≡ extent (seen j h) = journal_is j h (seen j h) refl e.journal.0 in
    record {
      opened = (
        bodies,
        record {
          area = refl;
          limit_is = e.journal.1;
          is_list = e.bodies;
          keeps = subst (λ (x : Extent). Keeps x bodies (O c.begin.new.bench)) is e.keeps;
          gate = subst (λ (x : Extent). IsOpen x (O c.begin.new.bench)) is e.open;
          clean = e.clean;
        },
        c.in_ok-history.ensures.links,
        c.in_ok-history.ensures.prepared,
      );
      opens = record { images = c.begin.ensures.images; same_list = c.begin.ensures.same_list };
      no_links = λ place err. no_fault (seen j h) (begins.NotAJournal place) err;
      untouched = λ place err. no_fault (seen j h) (begins.NotAJournal place) err;
      memory = λ err. no_fault (seen j h) begins.Memory err;
      device = λ err. no_fault (seen j h) begins.Device err;
    }
