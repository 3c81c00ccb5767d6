use Rattle.std.proofs.Common.{◌==◌, length, map, ap, sym, subst, ◌∙◌}
use Rattle.std.specs.Cmp.Lexicographic.{pointwise}
use Rattle.std.specs.List.{IsDistinct}
use Rattle.sql_table.specs.Roomy.{Roomy}
use Rattle.sql_table.proofs.Named.{keys-zip, length-zip}
use Rattle.sql_table.proofs.roomy.RoomyTables.len.Goals as goal

pub returns-clause-value : goal.returns-clause-value
returns-clause-value c =
    c.len.ensures ∙ c.self.inside.names.ok.0 ∙ sym (length-zip c.self.inside.names.items c.self.inside.tables.items c.self.invariant.0.each) ∙ ap (λ (r : Roomy). length r.tables) c.self.view_is

pub returns-clause-distinct : goal.returns-clause-distinct
returns-clause-distinct c =
    subst (λ (r : Roomy). IsDistinct (pointwise ◌==◌) (map (λ t. t.0) r.tables)) c.self.view_is
    (subst (λ ks. IsDistinct (pointwise ◌==◌) ks) (sym (keys-zip c.self.inside.names.items c.self.inside.tables.items c.self.invariant.0.each)) c.self.invariant.0.distinct)
