use Rattle.std.proofs.Common.{◌≡◌, ◌+◌, ◌&&◌, ℕ, Bool, true, false, not, bytes_eq, drop, List, map, refl, sym, ap, ◌∙◌, rules, arith}
use Rattle.std.specs.List.{list_any}
use Rattle.dl_base.specs.declared.column.Column.{Column}
use Rattle.meaning_tables.specs.Fits.{differ}
use Rattle.db_replay.proofs.Loops.{any_mapped, next}
use Rattle.std.proofs.lemmas.Grind.{common_steps}
use Rattle.db_replay.proofs.columns.names_differ.Goals as goal

abbrev name_of : Column → List ℕ
name_of c = c.name

pub returns-then-stands : goal.returns-then-stands
returns-then-stands c =
    let cs = c.args.columns.now in
    let d = c.index-columns-i.result in
    let rest = drop (c.loop-i.i + 1) cs in
    let at = next cs cs c.loop-i.i d refl c.loop-i-test.true c.index-columns-i.is in
    let stood : list_any (λ (x : Column). bytes_eq d.name x.name) rest ≡ true = search rules in
    let there = any_mapped (bytes_eq d.name) name_of rest ∙ stood in
    sym (sym c.loop-i.invariant ∙ ap (λ (xs : List Column). differ bytes_eq (map name_of xs)) at ∙ ap (λ (b : Bool). not b && differ bytes_eq (map name_of rest)) there)

pub loop-i-preserved : goal.loop-i-preserved
loop-i-preserved c =
    let cs = c.args.columns.now in
    let d = c.index-columns-i.result in
    let rest = drop (c.loop-i.i + 1) cs in
    let at = next cs cs c.loop-i.i d refl c.loop-i-test.true c.index-columns-i.is in
    let new : list_any (λ (x : Column). bytes_eq d.name x.name) rest ≡ false = search rules in
    let none = any_mapped (bytes_eq d.name) name_of rest ∙ new in
    ap (λ (b : Bool). not b && differ bytes_eq (map name_of rest)) (sym none) ∙ ap (λ (xs : List Column). differ bytes_eq (map name_of xs)) (sym at) ∙ c.loop-i.invariant

pub returns : goal.returns
returns c = grind (arith, common_steps)
