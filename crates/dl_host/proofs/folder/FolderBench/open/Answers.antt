use Rattle.std.proofs.Common.{sym, ◌∙◌}
use Rattle.dl_host.specs.Slots.{slot_of}
use Rattle.dl_host.proofs.Idle.{held_more}
use Rattle.dl_host.proofs.folder.FolderBench.open.Goals as goal

pub invariant_of-self-2 : goal.invariant_of-self-2
invariant_of-self-2 g c = record {
  locked = c.opened.ensures.stays.lock (c.enter.new.self.locked ∙ c.in_ok-enter.ensures.locked) ∙ sym c.in_ok-enter.ensures.locked;
  held = held_more g.row.H-File.Denot g.H.Host.area_of (slot_of c.enter.new.self.slots) (slot_of c.keep.new.self) (g.H.Host.hold c.enter.new.self.host) (g.H.Host.hold c.opened.new.host) c.args.area c.in_ok-file.file
      c.enter.new.self.held c.opened.ensures.stays c.keep.ensures.here c.keep.ensures.others c.in_ok-file.ensures.here c.in_ok-file.ensures.named;
}
