use Rattle.std.proofs.Common.{Option, append-nil, sym, ap, ◌∙◌}
use Rattle.std.proofs.lemmas.Bool.{false≢true}
use Rattle.std.specs.Bool.{then_some}
use Rattle.std.specs.Option.{option_and_then}
use Rattle.dl_codec.specs.declared.links.LinksRecord.{LinksRecord}
use Rattle.dl_codec.specs.declared.links.LinksRecord.TheVariants as records
use Rattle.fm_branch.proofs.Folding.{read_links, read_prepared}
use Rattle.fm_branch.proofs.Results.{if_ok}
use Rattle.meaning_areas.specs.Branches.{links_step}
use Rattle.fm_branch.proofs.fold.take_record.Goals as goal

pub returns-in-Some-Opening : goal.returns-in-Some-Opening
returns-in-Some-Opening c =
    let was = c.args.history.now in
    let now = c.opens.new.self in
    let some = c.in-Some-Opening in
    let x = records.Opening some.number in
    record {
      links = read_links c.args.body.now c.in_ok-number.field-0 some.field-0 x c.in_ok-number.ensures.exact some.is some.field-0-is was.links (then_some c.opens.result now.links) c.opens.ensures.links;
      prepared = λ taken. read_prepared c.args.body.now c.in_ok-number.field-0 some.field-0 x c.in_ok-number.ensures.exact some.is some.field-0-is was.prepared now.prepared
          (c.opens.ensures.prepared ∙ sym (append-nil was.prepared));
    }

pub returns-in-Some-Committed : goal.returns-in-Some-Committed
returns-in-Some-Committed c =
    let was = c.args.history.now in
    let now = c.commits.new.self in
    let some = c.in-Some-Committed in
    let x = records.Committed some.tx in
    record {
      links = read_links c.args.body.now c.in_ok-number.field-0 some.field-0 x c.in_ok-number.ensures.exact some.is some.field-0-is was.links (then_some c.commits.result now.links) c.commits.ensures.links;
      prepared = λ taken. read_prepared c.args.body.now c.in_ok-number.field-0 some.field-0 x c.in_ok-number.ensures.exact some.is some.field-0-is was.prepared now.prepared
          (c.commits.ensures.prepared ∙ sym (append-nil was.prepared));
    }

pub returns-in-Some-Done : goal.returns-in-Some-Done
returns-in-Some-Done c =
    let was = c.args.history.now in
    let now = c.ends.new.self in
    let some = c.in-Some-Done in
    let x = records.Done some.tx in
    record {
      links = read_links c.args.body.now c.in_ok-number.field-0 some.field-0 x c.in_ok-number.ensures.exact some.is some.field-0-is was.links (then_some c.ends.result now.links) c.ends.ensures.links;
      prepared = λ taken. read_prepared c.args.body.now c.in_ok-number.field-0 some.field-0 x c.in_ok-number.ensures.exact some.is some.field-0-is was.prepared now.prepared
          (c.ends.ensures.prepared ∙ sym (append-nil was.prepared));
    }

pub returns-in-Some-Aborted : goal.returns-in-Some-Aborted
returns-in-Some-Aborted c =
    let was = c.args.history.now in
    let now = c.aborts.new.self in
    let some = c.in-Some-Aborted in
    let x = records.Aborted some.tx in
    record {
      links = read_links c.args.body.now c.in_ok-number.field-0 some.field-0 x c.in_ok-number.ensures.exact some.is some.field-0-is was.links (then_some c.aborts.result now.links) c.aborts.ensures.links;
      prepared = λ taken. read_prepared c.args.body.now c.in_ok-number.field-0 some.field-0 x c.in_ok-number.ensures.exact some.is some.field-0-is was.prepared now.prepared
          (c.aborts.ensures.prepared ∙ sym (append-nil was.prepared));
    }

pub returns-in-Some-Prepared : goal.returns-in-Some-Prepared
returns-in-Some-Prepared c =
    let was = c.args.history.now in
    let now = c.prepares.new.self in
    let some = c.in-Some-Prepared in
    let x = records.Prepared some.tx some.gives some.takes in
    record {
      links = if_ok c.prepares.result c.prepares.ensures.links (λ taken step.
          read_links c.args.body.now c.in_ok-number.field-0 some.field-0 x c.in_ok-number.ensures.exact some.is some.field-0-is was.links (then_some taken now.links) step);
      prepared = if_ok c.prepares.result c.prepares.ensures.prepared (λ taken more taken_is.
          read_prepared c.args.body.now c.in_ok-number.field-0 some.field-0 x c.in_ok-number.ensures.exact some.is some.field-0-is was.prepared now.prepared (more taken_is));
    }

pub returns-in-None : goal.returns-in-None
returns-in-None c = record {
  links = ap (λ (r : Option LinksRecord). option_and_then (links_step c.args.history.now.links) r) (sym c.in_ok-number.ensures.exact ∙ c.in-None.is);
  prepared = λ taken. absurd (false≢true taken);
}
