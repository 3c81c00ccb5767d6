use Rattle.std.proofs.Common.{◌≡◌, ℕ, List, [], ◌∷◌, ◌++◌, ◌+◌, length, arith, length-append, ◌∙◌, sym, ap, subst, Err}
use Rattle.dl_journal.specs.Records.{blocks, size, is_whole}
use Rattle.std.proofs.lemmas.List.{take_rest}
use Rattle.dl_journal.proofs.Records.{size-push, length-blocks, length-record, record_fits, record_less, pushed, ended, bad_at}
use Rattle.dl_journal.proofs.Faults.{same_place, place_no_device}
use Rattle.dl_journal.proofs.parse.parse.Goals as goal

pub loop-rest-preserved : goal.loop-rest-preserved
loop-rest-preserved c =
    let i = c.loop-rest.invariant in
    let w = c.in-Some.ensures.whole in
    let bytes = c.args.bytes.now in
    let next = c.in-Some.next.now in
    let body = c.in-Some.body.now in
    let grown : bytes ≡ blocks (c.loop-rest.bodies ++ body ∷ []) ++ next = pushed bytes c.loop-rest.rest.now next body c.loop-rest.bodies i.split i.more c.loop-rest-test.true (sym (take_rest c.loop-rest.rest.now 1) ∙ w.1) in
    let same : c.push.new.self ≡ c.loop-rest.bodies ++ body ∷ [] = c.in-Ok.ensures.ok ∙ ap (λ (t : List ℕ). c.loop-rest.bodies ++ t ∷ []) c.in_ok-text.ensures in
    let count : size c.push.new.self ≡ c.loop-rest.place + (9 + length body) = omega (arith, ap size same, size-push c.loop-rest.bodies body, i.count) in
    record {
      split = subst (λ (l : List (List ℕ)). bytes ≡ blocks l ++ next) (sym same) grown;
      more = w.0;
      count = count;
      all = omega (arith, ap length grown, length-append (blocks (c.loop-rest.bodies ++ body ∷ [])) next, length-blocks (c.loop-rest.bodies ++ body ∷ []), size-push c.loop-rest.bodies body, i.count);
    }

pub loop-rest-smaller : goal.loop-rest-smaller
loop-rest-smaller c =
    let rest = c.loop-rest.rest.now in
    let body = c.in-Some.body.now in
    let next = c.in-Some.next.now in
    record_less (length rest) (length body) (length next) (length-record rest next body c.loop-rest.invariant.more (sym (take_rest rest 1) ∙ c.in-Some.ensures.whole.1))

pub overflow_add-place-in-loop-rest : goal.overflow_add-place-in-loop-rest
overflow_add-place-in-loop-rest c =
    let i = c.loop-rest.invariant in
    let rest = c.loop-rest.rest.now in
    let body = c.in-Some.body.now in
    let next = c.in-Some.next.now in
    omega (arith, record_fits c.loop-rest.place (length rest) _ (length body) (length next) i.all c.requires.fits (length-record rest next body i.more (sym (take_rest rest 1) ∙ c.in-Some.ensures.whole.1)))

pub returns-clause-found : goal.returns-clause-found
returns-clause-found c =
    let i = c.loop-rest.invariant in
    ended c.args.bytes.now c.loop-rest.rest.now c.loop-rest.bodies c.loop-rest.place i.split i.more i.count i.all c.requires.fits c.loop-rest-test.false

pub returns-in_default-clause-bad : goal.returns-in_default-clause-bad
returns-in_default-clause-bad c = λ place is.
    let i = c.loop-rest.invariant in
    bad_at c.args.bytes.now c.loop-rest.rest.now c.loop-rest.bodies c.loop-rest.place i.split i.more i.count i.all c.requires.fits c.requires.enough c.loop-rest-test.true (ap is_whole (sym (take_rest c.loop-rest.rest.now 1)) ∙ c.in_default.ensures.bad)
    ∙ ap (λ (n : ℕ). Err n) (same_place _ _ is)

pub returns-in_default-clause-no_device : goal.returns-in_default-clause-no_device
returns-in_default-clause-no_device c = λ is. place_no_device _ is
