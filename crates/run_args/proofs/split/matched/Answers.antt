use Rattle.std.proofs.Common.{map}
use Rattle.std.proofs.lemmas.Result.{IfOk-weaker}
use Rattle.clap.specs.Words.{app_of}
use Rattle.run_args.specs.Command.{command}
use Rattle.run_args.proofs.Rows.{simple, rows_are}
use Rattle.run_args.proofs.split.matched.Goals as goal

pub returns-clause-rows : goal.returns-clause-rows
returns-clause-rows c =
    IfOk-weaker c.try_get_matches_from.result _ _ (λ m h. rows_are (app_of c.in_ok-command.command) command (map (λ s. s.now) c.args.words.now) m c.in_ok-command.ensures simple h) c.try_get_matches_from.ensures.matches
