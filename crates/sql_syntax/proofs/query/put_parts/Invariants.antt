use Rattle.std.proofs.Common.{◌≡◌, ◌++◌, map}
use Rattle.sql_grammar.specs.Statements.{conditions_of}
use Rattle.sql_syntax.proofs.query.put_parts.Given as goal

-- the sources and the conditions of those taken so far
abbrev pub invariant-parts : goal.invariant-parts
invariant-parts l = (l.from ≡ l.fn.from ++ map (λ x. x.0) l.yielded) × (l.conditions ≡ l.fn.conditions ++ conditions_of l.yielded)
