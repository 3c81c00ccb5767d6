use Rattle.std.proofs.Common.{◌≡◌, ◌-◌, List, ℕ, length, ◌∙◌, ap, arith}
use borrow.Rule.Slice.PartMut.{put_mid}
use Rattle.dl_base.specs.Outside.{portion}
use Rattle.dl_host.proofs.Loops.{touches_still, stays_then, within_rest, filled_rest, long_rest, length_rest}
use Rattle.dl_host.proofs.calls.read_all.Goals as goal

pub returns-in-Err-clause-crash : goal.returns-in-Err-clause-crash
returns-in-Err-clause-crash g c =
    let area = g.H.Host.area_of c.args.file.now in
    touches_still area ((g.H.Host.outside c.args.host.now).image area) (g.H.Host.outside c.args.host.now) (g.H.Host.outside c.more.host) (g.H.Host.outside c.read_some.new.host) c.more.invariant.crash c.read_some.ensures.crash

pub more-preserved : goal.more-preserved
more-preserved g c =
    let area = g.H.Host.area_of c.args.file.now in
    let o = g.H.Host.outside c.args.host.now in
    let m = g.H.Host.outside c.more.host in
    let n = g.H.Host.outside c.read_some.new.host in
    let into : List ℕ = c.more.into in
    let part : List ℕ = c.read_some.new.into in
    let long' : length part ≡ length into - c.more.done = c.read_some.auto.into ∙ long_rest c.more.done into in
    let long : length (put_mid c.more.done (length into - c.more.done) into part) ≡ length into = length_rest c.more.done into part c.more.invariant.within long' in
    record {
      within = omega (arith, long, within_rest c.more.done c.in-Ok.count into c.more.invariant.within c.in-Ok.ensures.count.1);
      long = long ∙ c.more.invariant.long;
      filled = λ bytes is. filled_rest c.args.at c.more.done c.in-Ok.count into part bytes c.more.invariant.within long' c.in-Ok.ensures.count.1 (c.more.invariant.filled bytes is) (c.in-Ok.ensures.bytes bytes (c.more.invariant.same ∙ is) ∙ ap (λ (k : ℕ). portion k c.in-Ok.count bytes) c.in-Some.ensures.1);
      same = c.read_some.ensures.same ∙ c.more.invariant.same;
      crash = touches_still area (o.image area) o m n c.more.invariant.crash c.read_some.ensures.crash;
      clean = c.in-Ok.ensures.clean ∙ c.more.invariant.clean;
      locked = c.read_some.ensures.stays.lock c.more.invariant.locked;
      stays = stays_then _ _ _ c.more.invariant.stays c.read_some.ensures.stays;
    }
