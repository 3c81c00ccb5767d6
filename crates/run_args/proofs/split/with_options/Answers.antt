use Rattle.std.proofs.Common.{◌≡◌, ℕ, List, codes, ap, ◌∙◌}
use Rattle.std.proofs.lemmas.Result.{IfOk-weaker}
use Rattle.clap.specs.Words.{App, app_of, with_rule}
use Rattle.run_args.specs.Command.{option}
use Rattle.run_args.proofs.split.with_options.Goals as goal

-- one option more
more : (name : List ℕ) (a b c : App) → a ≡ with_rule b (option name) → b ≡ c → a ≡ with_rule c (option name)
more name a b c h e = h ∙ ap (λ (x : App). with_rule x (option name)) e

pub returns : goal.returns
returns c =
    let server = more (codes "server") (app_of c.in_ok-command.command) (app_of c.bare-command.result) _ c.in_ok-command.ensures c.bare-command.ensures in
    let key = more (codes "key") (app_of c.in_ok-command-2.command) (app_of c.in_ok-command.command) _ c.in_ok-command-2.ensures server in
    let now = more (codes "now") (app_of c.in_ok-command-3.command) (app_of c.in_ok-command-2.command) _ c.in_ok-command-3.ensures key in
    let life = more (codes "life") (app_of c.in_ok-command-4.command) (app_of c.in_ok-command-3.command) _ c.in_ok-command-4.ensures now in
    IfOk-weaker c.with_option-5.result _ _ (λ r h. more (codes "area") (app_of r) (app_of c.in_ok-command-4.command) _ h life) c.with_option-5.ensures
