use Rattle.std.proofs.Common.{Option, ap, sym, ◌∙◌}
use Rattle.std.specs.Option.{option_map}
use Rattle.db_store.specs.declared.store.NextCommit.{NextCommit}
use Rattle.compare_links.proofs.Passing.{passed, past_none}
use Rattle.compare_links.proofs.walk.commit_after.Goals as goal

pub unreachable-requires : goal.unreachable-requires
unreachable-requires c =
    past_none c.args.before.now c.args.store.now.rows.commits c.args.index c.requires.before
    (ap (λ (o : Option NextCommit). option_map (λ m. m.tables) o) (sym c.in-None.is) ∙ c.in_ok-next.ensures.tables) c.requires.within

pub returns-clause-commit : goal.returns-clause-commit
returns-clause-commit c =
    passed c.args.before.now c.in-Some.next.tables c.args.store.now.rows.commits c.args.index c.named-tx.result.0 c.named-tx.result.1 c.requires.moved c.requires.before
    (ap (λ (o : Option NextCommit). option_map (λ m. m.tables) o) (sym c.in-Some.is) ∙ c.in_ok-next.ensures.tables) c.named-tx.ensures
