use Rattle.std.proofs.Common.{◌≡◌, ◌+◌, ◌≤◌, ◌∷◌, ◌++◌, [], ℕ, List, Some, length, true, nat_eq, sym, ap, ◌∙◌, rules, arith}
use Rattle.std.specs.Map.{lookup}
use Rattle.meaning_areas.specs.Commits.{Commits}
use Rattle.db_store.proofs.Ending.{log_more}
use Rattle.db_store.proofs.HistoryLaws.{after_all, commits_fit, commits_none, commits_unfit, none_open, record_leads}
use Rattle.db_store.proofs.LogLaws.{of_some}
use Rattle.db_store.proofs.Versions.{replay_committed}
use Rattle.db_store.specs.Log.{commits_from}
use Rattle.db_store.specs.declared.log.Entry.{Entry}
use Rattle.db_store.proofs.history.History.commits.Goals as goal

pub push-requires-clause-new : goal.push-requires-clause-new
push-requires-clause-new c =
    let next : c.is_next.result ≡ true = search rules in
    ap (λ (l : List (ℕ × Entry)). lookup (λ k. nat_eq c.args.tx k) l) c.make_room.ensures.entries
    ∙ none_open c.args.self.now c.args.tx c.args.number c.self.inside.opening c.self.inside.log.entries c.self.inside.ended.numbers c.self.view_is (sym c.is_next.ensures ∙ next)

pub invariant_of-self-in-Some : goal.invariant_of-self-in-Some
invariant_of-self-in-Some c =
    let later = c.in-Some.tables in
    let e : Entry = record { branch = c.args.branch; body = c.args.body } in
    let es = c.self.inside.log.entries in
    let all = c.push.new.self.entries in
    let grown : all ≡ es ++ (c.args.tx, e) ∷ [] = c.push.ensures.entries ∙ ap (λ (l : List (ℕ × Entry)). l ++ (c.args.tx, e) ∷ []) c.make_room.ensures.entries in
    let of = c.in_ok-tables.ensures in
    let next : c.is_next.result ≡ true = search rules in
    let leads = record_leads c.args.self.now c.args.tx c.args.number c.args.branch c.args.changes.now c.self.inside.opening es c.self.inside.ended.numbers c.self.view_is c.self.inside.tables c.self.invariant.0
    later c.args.body (sym c.is_next.ensures ∙ next) (sym c.in-Some.is ∙ of.exact) c.requires in
    let room : length es + 1 ≤ c.make_room-2.new.self.spare = omega (arith, c.len.ensures.value, ap (λ (l : List (ℕ × Entry)). length l) c.make_room.ensures.entries, c.in_ok-make_room-2.ensures.room) in (
      after_all es all c.args.tx e c.self.inside.tables later grown c.self.invariant.0 leads,
      of_some _ c.in_ok-tables.field-0 later c.in-Some.is of.fit,
      of_some _ c.in_ok-tables.field-0 later c.in-Some.is of.columns,
      replay_committed es all c.args.tx e c.self.inside.tables later grown c.self.invariant.0 c.self.invariant.3 leads,
      log_more es all (c.args.tx, e) c.make_room-2.new.self.numbers c.make_room-2.new.self.spare grown room,
    )

pub returns-in-Some : goal.returns-in-Some
returns-in-Some c =
    let e : Entry = record { branch = c.args.branch; body = c.args.body } in
    let es = c.self.inside.log.entries in
    let grown : c.push.new.self.entries ≡ es ++ (c.args.tx, e) ∷ [] = c.push.ensures.entries ∙ ap (λ (l : List (ℕ × Entry)). l ++ (c.args.tx, e) ∷ []) c.make_room.ensures.entries in
    let next : c.is_next.result ≡ true = search rules in
    commits_fit c.args.self.now c.args.tx c.args.number c.args.branch c.args.changes.now c.self.inside.opening es c.self.inside.ended.numbers c.self.view_is c.self.inside.tables c.self.invariant.0
    c.in-Some.tables c.args.body c.push.new.self.entries (sym c.is_next.ensures ∙ next) (sym c.in-Some.is ∙ c.in_ok-tables.ensures.exact) c.requires grown
    ∙ ap (λ (l : List ℕ). Some (let x : Commits = record { opening = c.self.inside.opening; commits = commits_from 1 [] c.push.new.self.entries; ended = l } in x)) (sym c.make_room-2.ensures.numbers)

pub invariant_of-self-in_err-make_room-2 : goal.invariant_of-self-in_err-make_room-2
invariant_of-self-in_err-make_room-2 c = grind (arith, commits_none, commits_unfit, commits_fit, none_open, after_all)

pub invariant_of-self-in_err-tables : goal.invariant_of-self-in_err-tables
invariant_of-self-in_err-tables c = grind (arith, commits_none, commits_unfit, commits_fit, none_open, after_all)

pub returns-in-None : goal.returns-in-None
returns-in-None c = grind (arith, commits_none, commits_unfit, commits_fit, none_open, after_all)

pub returns-then-not-is_next : goal.returns-then-not-is_next
returns-then-not-is_next c = grind (arith, commits_none, commits_unfit, commits_fit, none_open, after_all)

pub push-requires-clause-room : goal.push-requires-clause-room
push-requires-clause-room c = grind (arith, commits_none, commits_unfit, commits_fit, none_open, after_all)

pub replay-requires-clause-fit : goal.replay-requires-clause-fit
replay-requires-clause-fit c = grind (arith, commits_none, commits_unfit, commits_fit, none_open, after_all)

pub replay-requires-clause-columns : goal.replay-requires-clause-columns
replay-requires-clause-columns c = grind (arith, commits_none, commits_unfit, commits_fit, none_open, after_all)

pub invariant_of-self-in-None-1 : goal.invariant_of-self-in-None-1
invariant_of-self-in-None-1 c = grind (arith, commits_none, commits_unfit, commits_fit, none_open, after_all)
