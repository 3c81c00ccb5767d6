use Rattle.std.proofs.Common.{◌≤◌, ◌++◌, [], ◌∷◌, List, Some, None, length, arith, refl, ap, sym, ◌∙◌, subst}
use Rattle.std.specs.Vec.Iter.{into_iter_items}
use Rattle.dl_codec.specs.declared.archive.ArchiveRecord.TheVariants as records
use Rattle.dl_codec.specs.declared.archive.FileCopy.{FileCopy}
use Rattle.meaning_areas.specs.Lists.{Written, in_archive}
use Rattle.fm_manager.proofs.Storing.{Storing, managed, storing-fault, storing-first, storing-more, storing-new}
use Rattle.fm_manager.specs.Managed.{AreOpen, IsTakenBy, Managed, Manages, as_writes}
use Rattle.fm_manager.specs.Pieces.{copies_written}
use Rattle.fm_manager.proofs.manager.Manager.store_all.Goals as goal

pub store-requires-clause-ready : goal.store-requires-clause-ready
store-requires-clause-ready g c = c.loop-copy.invariant.ready.archive

pub store-requires-clause-room : goal.store-requires-clause-room
store-requires-clause-room g c = omega (arith, c.loop-copy.invariant.room, ap length c.in-Some.ensures.steps.0)

pub store-requires-clause-new : goal.store-requires-clause-new
store-requires-clause-new g c =
    let O = g.B.Bench.outside in
    storing-new (managed c.self.inside.branches c.self.inside.files c.self.inside.archive) (managed c.loop-copy.self-inside.branches c.loop-copy.self-inside.files c.loop-copy.self-inside.archive)
    c.args.copies (into_iter_items c.loop-copy.copy-iterator) (O c.args.bench.now) (O c.loop-copy.bench) c.loop-copy.invariant
    (subst (λ (m : Managed). IsTakenBy m (copies_written c.args.copies)) (sym c.self.view_is) c.requires.taken) c.in-Some.copy (into_iter_items c.next.new.self) c.in-Some.ensures.steps.0

pub loop-copy-init : goal.loop-copy-init
loop-copy-init g c =
    let O = g.B.Bench.outside in
    let m : Managed = managed c.self.inside.branches c.self.inside.files c.self.inside.archive in
    subst (λ (xs : List FileCopy). Storing m m c.args.copies xs (O c.args.bench.now) (O c.args.bench.now)) (sym (c.into_iter-copy-iterator.ensures.into_iter_gives.0 ∙ c.into_vec-copy-items.ensures))
    (storing-first m c.args.copies (O c.args.bench.now) (c.calls_of_the_manager.ensures.none m c.args.bench.now)
    (subst (λ (k : Managed). AreOpen k (O c.args.bench.now)) (sym c.self.view_is) c.requires.ready)
    (subst (λ (k : Managed). length c.args.copies ≤ k.archive.spare) (sym c.self.view_is) c.requires.room))

pub loop-copy-preserved : goal.loop-copy-preserved
loop-copy-preserved g c =
    let O = g.B.Bench.outside in
    let m : Managed = managed c.self.inside.branches c.self.inside.files c.self.inside.archive in
    let n : Managed = managed c.loop-copy.self-inside.branches c.loop-copy.self-inside.files c.loop-copy.self-inside.archive in
    let s = c.loop-copy.invariant in
    let one : List Written = in_archive (records.Copy c.in-Some.copy) ∷ [] in
    let stored = c.calls_of_the_manager.ensures.archive n c.store.new.self (as_writes one) None c.loop-copy.bench c.store.new.bench c.in-Ok.ensures.does in
    storing-more m n c.args.copies (into_iter_items c.loop-copy.copy-iterator) (O c.args.bench.now) (O c.loop-copy.bench) s c.in-Some.copy (into_iter_items c.next.new.self) c.in-Some.ensures.steps.0
    c.store.new.self (O c.store.new.bench) c.in-Ok.ensures.copies c.in-Ok.ensures.spare
    (c.calls_of_the_manager.ensures.then m n (managed c.loop-copy.self-inside.branches c.loop-copy.self-inside.files c.store.new.self) (as_writes (copies_written s.done)) (as_writes one) None c.args.bench.now c.loop-copy.bench c.store.new.bench s.manages stored)
    (stored.opens refl s.ready)

pub returns-in-Err-clause-does : goal.returns-in-Err-clause-does
returns-in-Err-clause-does g c =
    let O = g.B.Bench.outside in
    let m : Managed = managed c.self.inside.branches c.self.inside.files c.self.inside.archive in
    let n : Managed = managed c.loop-copy.self-inside.branches c.loop-copy.self-inside.files c.loop-copy.self-inside.archive in
    let l : Managed = managed c.loop-copy.self-inside.branches c.loop-copy.self-inside.files c.store.new.self in
    let s = c.loop-copy.invariant in
    let one : List Written = in_archive (records.Copy c.in-Some.copy) ∷ [] in
    let later = into_iter_items c.next.new.self in
    let stored = c.calls_of_the_manager.ensures.archive n c.store.new.self (as_writes one) (Some c.in-Err.fault) c.loop-copy.bench c.store.new.bench c.in-Err.ensures.does in
    let both = c.calls_of_the_manager.ensures.then m n l (as_writes (copies_written s.done)) (as_writes one) (Some c.in-Err.fault) c.args.bench.now c.loop-copy.bench c.store.new.bench s.manages stored in
    subst (λ (k : Managed). Manages k l (as_writes (copies_written c.args.copies)) (Some c.in-Err.fault) (O c.args.bench.now) (O c.store.new.bench)) c.self.view_is
    (storing-fault m n c.args.copies (into_iter_items c.loop-copy.copy-iterator) (O c.args.bench.now) (O c.loop-copy.bench) s c.in-Some.copy later c.in-Some.ensures.steps.0 c.store.new.self (O c.store.new.bench) c.in-Err.fault
    (c.calls_of_the_manager.ensures.stop m l (as_writes (copies_written s.done) ++ as_writes one) (as_writes (copies_written later)) c.in-Err.fault c.args.bench.now c.store.new.bench both))
