use Rattle.std.proofs.Common.{◌≡◌, [], true, sym, ◌∙◌, rules, arith}
use Rattle.db_store.proofs.Ending.{end_keeps, end_room}
use Rattle.db_store.proofs.HistoryLaws.{ends_yes, ends_no}
use Rattle.db_store.specs.Log.{commits_from}
use Rattle.db_store.proofs.history.History.ends.Goals as goal

pub put-requires-clause-room : goal.put-requires-clause-room
put-requires-clause-room c =
    let can : c.can_end.result ≡ true = search rules in
    end_room c.args.self.now c.self.inside.opening (commits_from 1 [] c.self.inside.log.entries) c.self.inside.ended.numbers c.self.view_is c.args.tx (sym c.can_end.ensures ∙ can)
    c.self.inside.ended.spare c.self.invariant.4

pub invariant_of-self : goal.invariant_of-self
invariant_of-self c =
    let can : c.can_end.result ≡ true = search rules in
    let inv = c.self.invariant in (
      inv.0,
      inv.1,
      inv.2,
      inv.3,
      end_keeps c.args.self.now c.self.inside.opening (commits_from 1 [] c.self.inside.log.entries) c.self.inside.ended.numbers c.self.view_is c.args.tx (sym c.can_end.ensures ∙ can)
          c.put.new.self.numbers c.self.inside.ended.spare c.put.new.self.spare c.put.ensures.numbers inv.4 c.put.ensures.spare,
    )

pub returns : goal.returns
returns c =
    let can : c.can_end.result ≡ true = search rules in
    ends_yes c.args.self.now c.args.tx c.self.inside.opening (commits_from 1 [] c.self.inside.log.entries) c.self.inside.ended.numbers c.put.new.self.numbers c.self.view_is (sym c.can_end.ensures ∙ can)
    c.put.ensures.numbers

pub returns-then-not-can_end : goal.returns-then-not-can_end
returns-then-not-can_end c = grind (arith, ends_yes, ends_no)
