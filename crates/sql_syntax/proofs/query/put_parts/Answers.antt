use Rattle.std.proofs.Common.{◌≡◌, ◌∷◌, ◌++◌, [], List, append_assoc, map, sym, ap, ◌∙◌}
use Rattle.std.proofs.lemmas.List.{map_push}
use Rattle.dl_base.specs.declared.statement.TableRef.{TableRef}
use Rattle.dl_base.specs.declared.statement.Expr.{Expr}
use Rattle.sql_grammar.specs.Statements.{Following, conditions_of}
use Rattle.sql_syntax.proofs.Sources.{conditions_push}
use Rattle.sql_syntax.proofs.query.put_parts.Goals as goal

-- one source more
one_source : (old now then : List TableRef) (xs : List Following) (x : Following) → now ≡ old ++ map (λ x. x.0) xs → then ≡ now ++ x.0 ∷ [] → then ≡ old ++ map (λ x. x.0) (xs ++ x ∷ [])
one_source old now then xs x e p =
    p ∙ ap (λ (ys : List TableRef). ys ++ x.0 ∷ []) e
    ∙ append_assoc old (map (λ x. x.0) xs) (x.0 ∷ [])
    ∙ ap (λ (ys : List TableRef). old ++ ys) (sym (map_push (λ (x : Following). x.0) xs x))

-- its condition, if it has one
one_condition : (old now then : List Expr) (xs : List Following) (x : Following) → now ≡ old ++ conditions_of xs → then ≡ now ++ conditions_of (x ∷ []) → then ≡ old ++ conditions_of (xs ++ x ∷ [])
one_condition old now then xs x e p =
    p ∙ ap (λ (ys : List Expr). ys ++ conditions_of (x ∷ [])) e
    ∙ append_assoc old (conditions_of xs) (conditions_of (x ∷ []))
    ∙ ap (λ (ys : List Expr). old ++ ys) (sym (conditions_push xs x))

pub parts-preserved : goal.parts-preserved
parts-preserved c = (
  one_source c.args.from.now c.parts.from c.put_part.new.from c.parts.yielded c.in-Some.part c.parts.invariant.0 c.in_ok-put_part.ensures.from,
  one_condition c.args.conditions.now c.parts.conditions c.put_part.new.conditions c.parts.yielded c.in-Some.part c.parts.invariant.1 c.in_ok-put_part.ensures.conditions,
)
