use Rattle.dl_base.proofs.Moments.{moments_more, since_begin}
use Rattle.dl_base.specs.Outside.{CrashState}
use Rattle.meaning_system.specs.Writes.{opening}
use Rattle.sys_opening.specs.Begun.{IsOfOpening}
use Rattle.sys_recovery.specs.Left.{areas_of}
use Rattle.sys_reopening.proofs.Alike.{Laws, left-alike, moment-alike}
use Rattle.sys_reopening.proofs.laws.a_stopped_opening_keeps_what_stood.Given as given
use Rattle.sys_reopening.proofs.laws.a_stopped_opening_keeps_what_stood.Goals as goal
use Rattle.sys_reopening.specs.Again.{StandAlike}

laws : (g : given.Over) → goal.After-what_is_written_is_read g → Laws
laws g c = record {
  past = c.what_lists_stand_for_has_a_past.ensures;
  fronts = c.an_opening_leads_to_the_start.ensures.fronts;
  same = c.an_opening_may_be_stopped.ensures.same;
  one = c.areas_stand_where_all_compares.ensures.one;
  folded = c.what_is_written_is_read.ensures.folded;
  stand = c.what_is_written_is_read.ensures.stand;
}

pub returns-clause-same : goal.returns-clause-same
returns-clause-same g c lists f o = left-alike (laws g c) lists f (g.B.Bench.outside o)

pub returns-clause-agree : goal.returns-clause-agree
returns-clause-agree g c lists f s o p found every =
    moment-alike (laws g c) lists f (g.B.Bench.outside o) (g.met.B.Bench.lawful o) s found every (c.an_opening_finds_the_lists_of_its_begin.ensures o) p

pub returns-clause-crash : goal.returns-clause-crash
returns-clause-crash g c lists f s o n found every moments p left =
    let O = g.B.Bench.outside in
    let lawful = g.met.B.Bench.lawful o in
    since_begin (λ (q : CrashState). StandAlike (areas_of q) s) (O o) (O n) lawful
    (moments_more (IsOfOpening lists (opening f) (O o)) (λ (q : CrashState). StandAlike (areas_of q) s) (O o) (O n) (moment-alike (laws g c) lists f (O o) lawful s found every (c.an_opening_finds_the_lists_of_its_begin.ensures o)) moments)
    (λ q now. every q.areas now.areas) p left
