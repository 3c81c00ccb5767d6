use Rattle.std.proofs.Common.{◌≡◌, ◌≤◌, ◌-◌, ℕ, suc, None, sym, ap, ◌∙◌, subst, arith}
use Rattle.meaning_run.specs.Running.{phase_in}
use Rattle.meaning_system.specs.State.{txn_of}
use Rattle.sys_run.proofs.Phases.{none-first, none-there}
use Rattle.sys_run.proofs.Shown.{own-has, own-session}
use Rattle.sys_run.proofs.turn.phase_of.Goals as goal

pub returns-then-session-eq0 : goal.returns-then-session-eq0
returns-then-session-eq0 c first s is shown =
    let zero : 0 ≡ c.args.session = omega (arith, c.if-session-eq0.true) in
    subst (λ (n : ℕ). None ≡ phase_in (txn_of s n)) zero (sym (none-first s c.args.txns.now shown))

pub returns-in-Some : goal.returns-in-Some
returns-in-Some c first s is shown =
    let some : 1 ≤ c.args.session = omega (arith, c.if-session-eq0.false) in
    c.phase_in.ensures first s is (own-has s c.args.txns.now c.args.session c.in-Some.txn.now shown some (sym c.in-Some.ensures))
    ∙ ap (λ (n : ℕ). phase_in (txn_of s n)) (own-session s c.args.txns.now c.args.session c.in-Some.txn.now shown some (sym c.in-Some.ensures))

pub returns-in-None : goal.returns-in-None
returns-in-None c first s is shown =
    let up : suc (c.args.session - 1) ≡ c.args.session = omega (arith, c.if-session-eq0.false) in
    subst (λ (n : ℕ). None ≡ phase_in (txn_of s n)) up (sym (none-there s c.args.txns.now shown (c.args.session - 1) (sym c.in-None.ensures)))
