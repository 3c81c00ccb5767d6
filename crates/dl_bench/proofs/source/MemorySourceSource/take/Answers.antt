use Rattle.std.proofs.Common.{◌≡◌, ◌+◌, ◌++◌, take, drop, refl, sym, ap, arith}
use Rattle.std.proofs.lemmas.Grind.{common_steps}
use Rattle.std.proofs.lemmas.List.{take-append-drop, drop-drop}
use Rattle.dl_bench.specs.Feeds.{Feed}
use Rattle.dl_bench.proofs.source.MemorySourceSource.take.Goals as goal

pub returns-clause-bytes : goal.returns-clause-bytes
returns-clause-bytes c = λ left is.
    let at = c.self.inside.at in
    let items = c.self.inside.bytes.items in
    let n = c.fill-count.result in
    let rest : c.args.self.now.rest ≡ drop at items = sym (ap (λ (f : Feed). f.rest) c.self.view_is) in
    let front : take n c.fill-count.new.into ≡ take n (drop at items) = grind (arith, common_steps) in
    let all : left ≡ take n c.fill-count.new.into ++ drop (at + n) items = cc (is, rest, front, take-append-drop n (drop at items), drop-drop n at items) in
    (drop (at + n) items, refl, all)
