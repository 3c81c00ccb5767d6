use Rattle.std.proofs.Common.{◌≡◌, ◌∷◌, [], ap, rules, subst, sym, Option, Some}
use Rattle.std.specs.Result.{result_err}
use Rattle.bk_backup.specs.Saved.{Saved, backup_write, extent}
use Rattle.dl_areas.specs.Writing.{EndsAlone}
use Rattle.dl_base.specs.declared.fault.StepFault.{StepFault}
use Rattle.dl_base.specs.declared.fault.StepFault.TheVariants as steps
use Rattle.dl_journal.specs.Extent.{Extent}
use Rattle.bk_backup.proofs.backups.Backups.store.Goals as goal

pub returns-in_err-number-clause-does : goal.returns-in_err-number-clause-does
returns-in_err-number-clause-does g c =
    let before = extent c.args.self.now in
    let writes = backup_write c.args.self.now.backups c.args.commit c.args.tables.now ∷ [] in
    let outside = g.B.Bench.outside c.args.bench.now in
    let fault : result_err c.from_residual.result ≡ Some steps.Memory = search rules in
    subst (λ (k : Extent). EndsAlone before k writes (result_err c.from_residual.result) outside outside) (sym (ap (λ (s : Saved). extent s) c.self.view_is))
    (subst (λ (f : Option StepFault). EndsAlone before before writes f outside outside) (sym fault) (c.steps_end_so.ensures.alone_memory before writes c.args.bench.now))
