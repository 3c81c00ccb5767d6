use Rattle.std.proofs.Common.{◌≡◌, inl, Ok, Err, Some, None, Option, refl, sym, ◌∙◌, ap, subst, rules}
use Rattle.dl_areas.specs.Lists.{Lists}
use Rattle.dl_areas.specs.Opening.{IsInBegin, IsInOpening, journals_with}
use Rattle.dl_areas.specs.Writing.{full_in}
use Rattle.dl_base.proofs.Moments.{moments_more}
use Rattle.dl_base.specs.Outside.{AtEveryMoment}
use Rattle.dl_base.specs.declared.area.Area.{Area}
use Rattle.dl_base.specs.declared.area.Area.TheVariants as areas
use Rattle.fm_manager.specs.Managed.{as_writes}
use Rattle.meaning_areas.specs.Areas.{StandForNothing}
use Rattle.meaning_areas.specs.Lists.{Folds}
use Rattle.meaning_areas.specs.Stands.{stored_of}
use Rattle.meaning_system.specs.Writes.{opening}
use Rattle.sys_opening.proofs.Records.{opening-sound, same-folds}
use Rattle.sys_opening.proofs.Halts.{halts-images, halts-told, risen}
use Rattle.sys_opening.proofs.Reading.{found-told, full-there, stand-told, unlike-told}
use Rattle.sys_opening.proofs.Spelling.{all-spelled}
use Rattle.sys_opening.proofs.Trying.{tries-fronts, tries-whole}
use Rattle.sys_opening.specs.Begun.{IsOfOpening}
use Rattle.sys_opening.specs.Halting.{Halts}
use Rattle.sys_opening.specs.declared.fault.OpenFault.{OpenFault}
use Rattle.sys_opening.specs.declared.fault.OpenFault.TheVariants as faults
use Rattle.sys_owners.specs.Owned.{AreFolded, folds_in, journals_of}
use Rattle.sys_opening.proofs.beginning.begin.Goals as goal

-- where the areas do not open

pub returns-in_err-owners-clause-images : goal.returns-in_err-owners-clause-images
returns-in_err-owners-clause-images g c lists f found =
    let O = g.B.Bench.outside in
    moments_more (IsInOpening (O c.args.bench.now)) (IsInBegin c.args.limit lists (as_writes (opening f)) (O c.args.bench.now)) (O c.args.bench.now) (O c.open_all.new.bench) (λ p before. inl before) c.in_err-owners.ensures.opens.moments

pub returns-in_err-owners-clause-fronts : goal.returns-in_err-owners-clause-fronts
returns-in_err-owners-clause-fronts g c lists f found =
    let O = g.B.Bench.outside in
    moments_more (IsInOpening (O c.args.bench.now)) (IsOfOpening lists (opening f) (O c.args.bench.now)) (O c.args.bench.now) (O c.open_all.new.bench) (λ p before. inl before) c.in_err-owners.ensures.opens.moments

pub returns-in_err-owners-clause-no_store : goal.returns-in_err-owners-clause-no_store
returns-in_err-owners-clause-no_store g c area place is x told =
    let same : c.from_residual.result ≡ Err c.in_err-owners.field-0.0 = search rules in
    inl (c.in_err-owners.ensures.no_store area place (sym same ∙ is) x told)

pub returns-in_err-owners-clause-full : goal.returns-in_err-owners-clause-full
returns-in_err-owners-clause-full g c full is lists f found =
    let same : c.from_residual.result ≡ Err c.in_err-owners.field-0.0 = search rules in
    absurd (c.in_err-owners.ensures.no_full full (sym same ∙ is))

pub returns-in_err-owners-clause-there : goal.returns-in_err-owners-clause-there
returns-in_err-owners-clause-there g c full is lists f found p now =
    let same : c.from_residual.result ≡ Err c.in_err-owners.field-0.0 = search rules in
    absurd (c.in_err-owners.ensures.no_full full (sym same ∙ is))

pub returns-in_err-owners-clause-found : goal.returns-in_err-owners-clause-found
returns-in_err-owners-clause-found g c full is x told =
    let same : c.from_residual.result ≡ Err c.in_err-owners.field-0.0 = search rules in
    absurd (c.in_err-owners.ensures.no_full full (sym same ∙ is))

pub returns-in_err-owners-clause-stands : goal.returns-in_err-owners-clause-stands
returns-in_err-owners-clause-stands g c full is lists read =
    let same : c.from_residual.result ≡ Err c.in_err-owners.field-0.0 = search rules in
    absurd (c.in_err-owners.ensures.no_full full (sym same ∙ is))

pub returns-in_err-owners-clause-unopened : goal.returns-in_err-owners-clause-unopened
returns-in_err-owners-clause-unopened g c x told nothing = c.in_err-owners.ensures.opens.moments

-- where their lists do not fit each other, or there is no memory to compare them

pub compare-requires : goal.compare-requires
compare-requires g c = (c.in_ok-owners.ensures.opened.0, c.in_ok-owners.ensures.opened.2)

pub returns-in-Ok-Some-clause-images : goal.returns-in-Ok-Some-clause-images
returns-in-Ok-Some-clause-images g c lists f found =
    let O = g.B.Bench.outside in
    moments_more (IsInOpening (O c.args.bench.now)) (IsInBegin c.args.limit lists (as_writes (opening f)) (O c.args.bench.now)) (O c.args.bench.now) (O c.open_all.new.bench) (λ p before. inl before) c.in_ok-owners.ensures.opens.moments

pub returns-in-Ok-Some-clause-fronts : goal.returns-in-Ok-Some-clause-fronts
returns-in-Ok-Some-clause-fronts g c lists f found =
    let O = g.B.Bench.outside in
    moments_more (IsInOpening (O c.args.bench.now)) (IsOfOpening lists (opening f) (O c.args.bench.now)) (O c.args.bench.now) (O c.open_all.new.bench) (λ p before. inl before) c.in_ok-owners.ensures.opens.moments

pub returns-in-Ok-Some-clause-no_store : goal.returns-in-Ok-Some-clause-no_store
returns-in-Ok-Some-clause-no_store g c area place is x told =
    let O = g.B.Bench.outside in
    let w = c.in_ok-owners.owners in
    let opened = c.in_ok-owners.ensures.opened in
    let P : Area → Type 0 = λ a. StandForNothing x (a, place) in
    let at : c.in-Ok-Some.area ≡ area = cc in
    let long : c.length-place.result ≡ place = cc in
    subst P at
    (unlike-told c.args.limit (journals_of w) opened.0 (O c.args.bench.now) (O c.open_all.new.bench) opened.1 x told (folds_in w) opened.2 c.in-Ok-Some.area place (c.in-Ok-Some.ensures.unlike c.in-Ok-Some.area (ap (λ (a : Option Area). Ok a) c.in-Ok-Some.field-0-is)) (sym long ∙ c.length-place.ensures))

pub returns-in-Ok-Some-clause-unwritten : goal.returns-in-Ok-Some-clause-unwritten
returns-in-Ok-Some-clause-unwritten g c area place is = c.in_ok-owners.ensures.opens.moments

pub returns-in-Ok-Some-clause-unopened : goal.returns-in-Ok-Some-clause-unopened
returns-in-Ok-Some-clause-unopened g c x told nothing = c.in_ok-owners.ensures.opens.moments

pub returns-in-Err-clause-images : goal.returns-in-Err-clause-images
returns-in-Err-clause-images g c lists f found =
    let O = g.B.Bench.outside in
    moments_more (IsInOpening (O c.args.bench.now)) (IsInBegin c.args.limit lists (as_writes (opening f)) (O c.args.bench.now)) (O c.args.bench.now) (O c.open_all.new.bench) (λ p before. inl before) c.in_ok-owners.ensures.opens.moments

pub returns-in-Err-clause-fronts : goal.returns-in-Err-clause-fronts
returns-in-Err-clause-fronts g c lists f found =
    let O = g.B.Bench.outside in
    moments_more (IsInOpening (O c.args.bench.now)) (IsOfOpening lists (opening f) (O c.args.bench.now)) (O c.args.bench.now) (O c.open_all.new.bench) (λ p before. inl before) c.in_ok-owners.ensures.opens.moments

pub returns-in-Err-clause-unopened : goal.returns-in-Err-clause-unopened
returns-in-Err-clause-unopened g c x told nothing = c.in_ok-owners.ensures.opens.moments

-- the records

pub write_all-requires-clause-ready : goal.write_all-requires-clause-ready
write_all-requires-clause-ready g c =
    let opened = c.in_ok-owners.ensures.opened in
    c.open_areas_have_their_lists.ensures.ready c.args.limit (journals_of c.in_ok-owners.owners) opened.0 c.args.bench.now c.open_all.new.bench opened.1

pub write_all-requires-clause-stand : goal.write_all-requires-clause-stand
write_all-requires-clause-stand g c = c.in-Ok-None.ensures.fits (ap (λ (a : Option Area). Ok a) c.in-Ok-None.field-0-is)

pub write_all-requires-clause-past : goal.write_all-requires-clause-past
write_all-requires-clause-past g c =
    let opened = c.in_ok-owners.ensures.opened in
    let f = folds_in c.in_ok-owners.owners in
    c.what_lists_stand_for_has_a_past.ensures (opened.0 areas.Rows) f (stored_of f) opened.2.rows (c.in-Ok-None.ensures.fits (ap (λ (a : Option Area). Ok a) c.in-Ok-None.field-0-is))

pub returns-in-Ok-clause-begun : goal.returns-in-Ok-clause-begun
returns-in-Ok-clause-begun g c =
    let O = g.B.Bench.outside in
    let w = c.in_ok-owners.owners in
    let f = folds_in w in
    let opened = c.in_ok-owners.ensures.opened in
    let js = journals_of w in
    let ks = journals_of c.write_all.new.owners in
    let o = c.args.bench.now in
    let m = c.open_all.new.bench in
    let n = c.write_all.new.bench in
    let stand = c.in-Ok-None.ensures.fits (ap (λ (a : Option Area). Ok a) c.in-Ok-None.field-0-is) in
    let past = c.what_lists_stand_for_has_a_past.ensures (opened.0 areas.Rows) f (stored_of f) opened.2.rows stand in
    let does = c.in-Ok.ensures.halts in (
      opened.0,
      f,
      record {
        read = λ told are. c.open_areas_have_their_lists.ensures.lists c.args.limit js opened.0 told o m opened.1 are;
        found = λ x told. found-told c.args.limit js opened.0 (O o) (O m) opened.1 x told f opened.2 stand;
        folded = opened.2;
        stand = stand;
        begun = c.an_opening_writes_its_records.ensures.begun c.args.limit js ks opened.0 (as_writes (opening f)) o m n opened.1 does;
        kept = does.done refl opened.0 (c.open_areas_have_their_lists.ensures.kept c.args.limit js opened.0 o m opened.1);
        leads = c.in-Ok.ensures.leads;
        spelled = all-spelled (opening f) js (does.fits refl) (tries-whole js ks (O m) (O n) (opening f) c.in-Ok.ensures.tries);
        sound = opening-sound c.an_opening_leads_to_the_start.ensures.leads f (folds_in c.write_all.new.owners) (stored_of f) stand past c.in-Ok.ensures.leads;
        drawn = c.in-Ok.ensures.drawn;
      },
    )

pub returns-in-Ok-clause-images : goal.returns-in-Ok-clause-images
returns-in-Ok-clause-images g c lists f found =
    let O = g.B.Bench.outside in
    let w = c.in_ok-owners.owners in
    let opened = c.in_ok-owners.ensures.opened in
    let js = journals_of w in
    let ks = journals_of c.write_all.new.owners in
    let o = c.args.bench.now in
    let m = c.open_all.new.bench in
    let n = c.write_all.new.bench in
    let ws = as_writes (opening (folds_in w)) in
    let same = same-folds opened.0 lists (folds_in w) f (c.open_areas_have_their_lists.ensures.lists c.args.limit js opened.0 lists o m opened.1 found.read) opened.2 found.folded in
    subst (λ (h : Folds). AtEveryMoment (IsInBegin c.args.limit lists (as_writes (opening h)) (O o)) (O o) (O n)) same
    (halts-images js ks ws (O m) (O n) c.args.limit lists (O o) (λ us fault d. c.an_opening_writes_its_records.ensures.images c.args.limit js ks opened.0 lists us fault o m n opened.1 d found.read)
    None c.in-Ok.ensures.halts)

pub returns-in-Ok-clause-fronts : goal.returns-in-Ok-clause-fronts
returns-in-Ok-clause-fronts g c lists f found =
    let O = g.B.Bench.outside in
    let w = c.in_ok-owners.owners in
    let opened = c.in_ok-owners.ensures.opened in
    let js = journals_of w in
    let ks = journals_of c.write_all.new.owners in
    let o = c.args.bench.now in
    let m = c.open_all.new.bench in
    let n = c.write_all.new.bench in
    let same = same-folds opened.0 lists (folds_in w) f (c.open_areas_have_their_lists.ensures.lists c.args.limit js opened.0 lists o m opened.1 found.read) opened.2 found.folded in
    subst (λ (h : Folds). AtEveryMoment (IsOfOpening lists (opening h) (O o)) (O o) (O n)) same
    (tries-fronts c.args.limit lists js ks (opening (folds_in w)) None (O o) (O m) (O n) c.in-Ok.ensures.tries
    (λ us ending d. c.an_opening_writes_its_records.ensures.images c.args.limit js ks opened.0 lists us ending o m n opened.1 d found.read))

pub returns-in-Ok-clause-unopened : goal.returns-in-Ok-clause-unopened
returns-in-Ok-clause-unopened g c x told nothing =
    let O = g.B.Bench.outside in
    let w = c.in_ok-owners.owners in
    let opened = c.in_ok-owners.ensures.opened in
    let stand = c.in-Ok-None.ensures.fits (ap (λ (a : Option Area). Ok a) c.in-Ok-None.field-0-is) in
    absurd (nothing (stored_of (folds_in w)) (stand-told c.args.limit (journals_of w) opened.0 (O c.args.bench.now) (O c.open_all.new.bench) opened.1 x told (folds_in w) opened.2 stand))

pub returns-in-Ok-clause-told : goal.returns-in-Ok-clause-told
returns-in-Ok-clause-told g c = c.in-Ok.ensures.halts.told ∙ c.in_ok-owners.ensures.opens.told

pub returns-in-Err-write_all-clause-images : goal.returns-in-Err-write_all-clause-images
returns-in-Err-write_all-clause-images g c lists f found =
    let O = g.B.Bench.outside in
    let w = c.in_ok-owners.owners in
    let opened = c.in_ok-owners.ensures.opened in
    let js = journals_of w in
    let ks = journals_of c.write_all.new.owners in
    let o = c.args.bench.now in
    let m = c.open_all.new.bench in
    let n = c.write_all.new.bench in
    let ws = as_writes (opening (folds_in w)) in
    let same = same-folds opened.0 lists (folds_in w) f (c.open_areas_have_their_lists.ensures.lists c.args.limit js opened.0 lists o m opened.1 found.read) opened.2 found.folded in
    subst (λ (h : Folds). AtEveryMoment (IsInBegin c.args.limit lists (as_writes (opening h)) (O o)) (O o) (O n)) same
    (halts-images js ks ws (O m) (O n) c.args.limit lists (O o) (λ us fault d. c.an_opening_writes_its_records.ensures.images c.args.limit js ks opened.0 lists us fault o m n opened.1 d found.read)
    (Some c.in-Err-write_all.fault) c.in-Err-write_all.ensures.halts)

pub returns-in-Err-write_all-clause-fronts : goal.returns-in-Err-write_all-clause-fronts
returns-in-Err-write_all-clause-fronts g c lists f found =
    let O = g.B.Bench.outside in
    let w = c.in_ok-owners.owners in
    let opened = c.in_ok-owners.ensures.opened in
    let js = journals_of w in
    let ks = journals_of c.write_all.new.owners in
    let o = c.args.bench.now in
    let m = c.open_all.new.bench in
    let n = c.write_all.new.bench in
    let same = same-folds opened.0 lists (folds_in w) f (c.open_areas_have_their_lists.ensures.lists c.args.limit js opened.0 lists o m opened.1 found.read) opened.2 found.folded in
    subst (λ (h : Folds). AtEveryMoment (IsOfOpening lists (opening h) (O o)) (O o) (O n)) same
    (tries-fronts c.args.limit lists js ks (opening (folds_in w)) (Some c.in-Err-write_all.fault) (O o) (O m) (O n) c.in-Err-write_all.ensures.tries
    (λ us ending d. c.an_opening_writes_its_records.ensures.images c.args.limit js ks opened.0 lists us ending o m n opened.1 d found.read))

pub returns-in-Err-write_all-clause-told : goal.returns-in-Err-write_all-clause-told
returns-in-Err-write_all-clause-told g c =
    let O = g.B.Bench.outside in
    let w = c.in_ok-owners.owners in
    halts-told (journals_of w) (journals_of c.write_all.new.owners) (as_writes (opening (folds_in w))) (O c.open_all.new.bench) (O c.write_all.new.bench) (Some c.in-Err-write_all.fault) c.in-Err-write_all.ensures.halts
    ∙ c.in_ok-owners.ensures.opens.told

pub returns-in-Err-write_all-clause-no_store : goal.returns-in-Err-write_all-clause-no_store
returns-in-Err-write_all-clause-no_store g c area place is x told =
    let O = g.B.Bench.outside in
    let w = c.in_ok-owners.owners in
    let at : c.in-Err-write_all.fault ≡ faults.NotAStore area place = cc in
    absurd (subst (λ (e : OpenFault). Halts (journals_of w) (journals_of c.write_all.new.owners) (as_writes (opening (folds_in w))) (Some e) (O c.open_all.new.bench) (O c.write_all.new.bench)) at c.in-Err-write_all.ensures.halts)

pub returns-in-Err-write_all-clause-unwritten : goal.returns-in-Err-write_all-clause-unwritten
returns-in-Err-write_all-clause-unwritten g c area place is =
    let O = g.B.Bench.outside in
    let w = c.in_ok-owners.owners in
    let at : c.in-Err-write_all.fault ≡ faults.NotAStore area place = cc in
    absurd (subst (λ (e : OpenFault). Halts (journals_of w) (journals_of c.write_all.new.owners) (as_writes (opening (folds_in w))) (Some e) (O c.open_all.new.bench) (O c.write_all.new.bench)) at c.in-Err-write_all.ensures.halts)

pub returns-in-Err-write_all-clause-unopened : goal.returns-in-Err-write_all-clause-unopened
returns-in-Err-write_all-clause-unopened g c x told nothing =
    let O = g.B.Bench.outside in
    let w = c.in_ok-owners.owners in
    let opened = c.in_ok-owners.ensures.opened in
    let stand = c.in-Ok-None.ensures.fits (ap (λ (a : Option Area). Ok a) c.in-Ok-None.field-0-is) in
    absurd (nothing (stored_of (folds_in w)) (stand-told c.args.limit (journals_of w) opened.0 (O c.args.bench.now) (O c.open_all.new.bench) opened.1 x told (folds_in w) opened.2 stand))

pub returns-in-Err-write_all-clause-full : goal.returns-in-Err-write_all-clause-full
returns-in-Err-write_all-clause-full g c full is lists f found =
    let O = g.B.Bench.outside in
    let w = c.in_ok-owners.owners in
    let opened = c.in_ok-owners.ensures.opened in
    let js = journals_of w in
    let ks = journals_of c.write_all.new.owners in
    let o = c.args.bench.now in
    let m = c.open_all.new.bench in
    let n = c.write_all.new.bench in
    let ws = as_writes (opening (folds_in w)) in
    let at : c.in-Err-write_all.fault ≡ faults.Full full = cc in
    let same = same-folds opened.0 lists (folds_in w) f (c.open_areas_have_their_lists.ensures.lists c.args.limit js opened.0 lists o m opened.1 found.read) opened.2 found.folded in
    subst (λ (h : Folds). full_in (journals_with c.args.limit lists) (as_writes (opening h)) ≡ Some full) same
    (c.an_opening_writes_its_records.ensures.full c.args.limit js ks opened.0 lists ws full o m n opened.1
    (subst (λ (e : OpenFault). Halts js ks ws (Some e) (O m) (O n)) at c.in-Err-write_all.ensures.halts) found.read)

pub returns-in-Err-write_all-clause-there : goal.returns-in-Err-write_all-clause-there
returns-in-Err-write_all-clause-there g c full is lists f found p now =
    let O = g.B.Bench.outside in
    let w = c.in_ok-owners.owners in
    let opened = c.in_ok-owners.ensures.opened in
    let js = journals_of w in
    let ks = journals_of c.write_all.new.owners in
    let o = c.args.bench.now in
    let m = c.open_all.new.bench in
    let n = c.write_all.new.bench in
    let at : c.in-Err-write_all.fault ≡ faults.Full full = cc in
    let read = c.open_areas_have_their_lists.ensures.lists c.args.limit js opened.0 lists o m opened.1 found.read in
    full-there c.args.limit js c.write_all.new.owners opened.0 lists (folds_in w) f (O m) (O n) full (c.open_areas_have_their_lists.ensures.journals c.args.limit js opened.0 o m opened.1) read
    (same-folds opened.0 lists (folds_in w) f read opened.2 found.folded) (c.open_areas_have_their_lists.ensures.kept c.args.limit js opened.0 o m opened.1)
    (subst (λ (e : OpenFault). Halts js ks (as_writes (opening (folds_in w))) (Some e) (O m) (O n)) at c.in-Err-write_all.ensures.halts) p now

pub returns-in-Err-write_all-clause-found : goal.returns-in-Err-write_all-clause-found
returns-in-Err-write_all-clause-found g c full is x told =
    let O = g.B.Bench.outside in
    let w = c.in_ok-owners.owners in
    let opened = c.in_ok-owners.ensures.opened in (
      opened.0,
      folds_in w,
      found-told c.args.limit (journals_of w) opened.0 (O c.args.bench.now) (O c.open_all.new.bench) opened.1 x told (folds_in w) opened.2 (c.in-Ok-None.ensures.fits (ap (λ (a : Option Area). Ok a) c.in-Ok-None.field-0-is)),
    )

pub returns-in-Err-write_all-clause-stands : goal.returns-in-Err-write_all-clause-stands
returns-in-Err-write_all-clause-stands g c full is lists read =
    let w = c.in_ok-owners.owners in
    let opened = c.in_ok-owners.ensures.opened in
    let same = c.open_areas_have_their_lists.ensures.lists c.args.limit (journals_of w) opened.0 lists c.args.bench.now c.open_all.new.bench opened.1 read in (
      folds_in w,
      record {
        read = read;
        folded = subst (λ (l : Lists). AreFolded l (folds_in w)) same opened.2;
        stand = c.in-Ok-None.ensures.fits (ap (λ (a : Option Area). Ok a) c.in-Ok-None.field-0-is);
      },
    )

pub returns-in-Err-write_all-clause-device : goal.returns-in-Err-write_all-clause-device
returns-in-Err-write_all-clause-device g c is =
    let O = g.B.Bench.outside in
    let w = c.in_ok-owners.owners in
    let at : c.in-Err-write_all.fault ≡ faults.Device = cc in
    risen (O c.args.bench.now) (O c.open_all.new.bench) (O c.write_all.new.bench) c.in_ok-owners.ensures.opens.moments.faults
    ((subst (λ (e : OpenFault). Halts (journals_of w) (journals_of c.write_all.new.owners) (as_writes (opening (folds_in w))) (Some e) (O c.open_all.new.bench) (O c.write_all.new.bench)) at c.in-Err-write_all.ensures.halts).device refl)
