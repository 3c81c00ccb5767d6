use Rattle.std.proofs.Common.{Ok, refl}
use Rattle.meaning_script.specs.declared.kind.Line.TheVariants as lines
use Rattle.meaning_script.specs.declared.kind.Sentence.TheVariants as sentences
use Rattle.run_lines.proofs.Only.{only_line, shown_line, shown_only}
use Rattle.run_lines.proofs.read.statement.Goals as goal

pub returns-in-Ok-clause-exact : goal.returns-in-Ok-clause-exact
returns-in-Ok-clause-exact c = (Ok c.in-Ok.statement, c.in-Ok.ensures.exact, refl)

pub returns-in-Ok-clause-only : goal.returns-in-Ok-clause-only
returns-in-Ok-clause-only c = λ l says. only_line c.args.name c.args.before c.args.text.now (Ok c.in-Ok.statement) (lines.Session c.args.name (sentences.Sql c.in-Ok.statement)) l refl c.in-Ok.ensures.only says

pub returns-in-Err-clause-exact : goal.returns-in-Err-clause-exact
returns-in-Err-clause-exact c = shown_line c.args.name c.args.before c.args.text.now c.in-Err.fault c.no_statement.result c.in-Err.ensures.exact (c.no_statement.ensures.shown c.args.name)

pub returns-in-Err-clause-only : goal.returns-in-Err-clause-only
returns-in-Err-clause-only c = λ l says. shown_only c.args.name c.args.before c.args.text.now c.in-Err.fault c.no_statement.result c.in-Err.ensures.only (c.no_statement.ensures.shown c.args.name) l says
