-- What a crash leaves since the begin of a call that writes.
use Rattle.std.proofs.Common.{List, [], refl, sym, subst}
use Rattle.dl_base.proofs.Moments.{since_begin}
use Rattle.dl_base.specs.Outside.{Outside, CrashState, AtEveryMoment, Now, IsLawful}
use Rattle.dl_base.specs.declared.area.Area.{Area}
use Rattle.dl_areas.specs.Lists.{Lists, Journals, Write, AreReady, AreKept}
use Rattle.dl_areas.specs.Writing.{LeavesPrefix}

-- at the begin none of the records is there
pub prefix-first : (js : Journals) (lists : Lists) (ws : List Write) (o : Outside) → AreReady js o → AreKept js lists o → (p : CrashState) → Now o p → LeavesPrefix lists ws o p
prefix-first js lists ws o ready kept p now = record {
  told = now.told;
  prefix = [];
  rest = ws;
  parts = refl;
  has = λ a. (kept a).images (p.areas a) (let I : Area → Type 0 = λ b. o.image b (p.areas a) in subst I (sym (ready.areas a)) (now.areas a));
}

pub prefix-since : (js : Journals) (lists : Lists) (ws : List Write) (o n : Outside) → IsLawful o → AreReady js o → AreKept js lists o → AtEveryMoment (LeavesPrefix lists ws o) o n
    → (p : CrashState) → n.since o.moment p → LeavesPrefix lists ws o p
prefix-since js lists ws o n lawful ready kept moments p left = since_begin (LeavesPrefix lists ws o) o n lawful moments (prefix-first js lists ws o ready kept) p left

pub prefix-now : (js : Journals) (lists : Lists) (ws : List Write) (o n : Outside) → IsLawful o → IsLawful n → AreReady js o → AreKept js lists o → AtEveryMoment (LeavesPrefix lists ws o) o n
    → (p : CrashState) → Now n p → LeavesPrefix lists ws o p
prefix-now js lists ws o n lawful later ready kept moments p now = prefix-since js lists ws o n lawful ready kept moments p (later.counts_now o.moment p moments.later now)
