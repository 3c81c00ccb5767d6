use Rattle.std.proofs.Common.{sym, ◌∙◌}
use Rattle.fs_command.proofs.Asked.{asks-session, asks-token, asks-path, asks-nothing}
use Rattle.fs_command.proofs.command.source_of.Goals as goal

pub returns-in-Some : goal.returns-in-Some
returns-in-Some c = asks-session c.args.user c.args.word.now c.user.inside.items.items c.in_ok-session.field-0 c.in-Some.name.now c.user.view_is c.in_ok-session.ensures c.in-Some.ensures

pub returns-in-Some-2 : goal.returns-in-Some-2
returns-in-Some-2 c = asks-token c.args.user c.args.word.now c.in-Some-2.path c.in-Some-2.token c.asked.result c.in_default.ensures (sym c.in-Some-2.is ∙ c.in_ok-path.ensures.value) c.asked.ensures

pub returns-then-not-is_path : goal.returns-then-not-is_path
returns-then-not-is_path c = asks-nothing c.args.user c.args.word.now c.in_default.ensures (sym c.in_default-2.is ∙ c.in_ok-path.ensures.value) (sym c.if-not-is_path.ensures)

pub returns : goal.returns
returns c = asks-path c.args.user c.args.word.now c.in_ok-path-2.path c.asked-2.result c.in_default.ensures (sym c.in_default-2.is ∙ c.in_ok-path.ensures.value) (sym c.if-not-is_path.ensures) c.in_ok-path-2.ensures c.asked-2.ensures
