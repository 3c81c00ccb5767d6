use Rattle.meaning_tables.specs.Links.{gives}
use Rattle.sys_core.proofs.Refusals.{kept-number}
use Rattle.sys_core.specs.Guarded.{committed_in}
use Rattle.sys_core.proofs.engine.Engine.kept_on.Goals as goal

pub returns-in-Some : goal.returns-in-Some
returns-in-Some c =
    kept-number (gives c.args.txn.now.base c.args.txn.now.copy) (committed_in c.args.self.now c.args.path.now) (record { link = c.in-Some.link.link; path = c.args.path.now; options = c.in-Some.link.options })
    c.unless_given.result c.in-Some.ensures c.unless_given.ensures
