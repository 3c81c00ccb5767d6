use Rattle.std.proofs.Common.{ap, subst, sym}
use Rattle.fm_archive.specs.Copies.{AreFiled, Shelf}
use Rattle.fm_archive.proofs.Entries.{put_copies, put_filed}
use Rattle.fm_archive.proofs.copies.CopyTable.put.Goals as goal

pub returns-clause-ok : goal.returns-clause-ok
returns-clause-ok c =
    put_copies c.self.inside.entries.entries c.insert.new.self.entries c.key_of-key.result c.args.copy c.key_of-key.ensures c.in_ok-insert.ensures.updates.0
    c.args.self.now.copies (ap (λ (s : Shelf). s.copies) c.self.view_is)

pub invariant_of-self : goal.invariant_of-self
invariant_of-self c = subst AreFiled (sym c.in_err-insert.ensures.err) c.self.invariant

pub invariant_of-self-2 : goal.invariant_of-self-2
invariant_of-self-2 c =
    put_filed c.self.inside.entries.entries c.insert.new.self.entries c.key_of-key.result c.args.copy c.key_of-key.ensures c.in_ok-insert.ensures.updates.0
    c.self.invariant c.requires.digest
