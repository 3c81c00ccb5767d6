-- The language: the reserved words.
use Rattle.std.specs.Prelude.{ℕ, List, [], ◌∷◌}
use Rattle.sql_grammar.specs.declared.symbol.Symbol.{Symbol}
use Rattle.sql_grammar.specs.declared.symbol.Symbol.TheVariants as symbol

-- each word in lower case, with its symbol
abbrev pub reserved : List (List ℕ × Symbol)
reserved =
    (97 ∷ 110 ∷ 100 ∷ [], symbol.And)
    ∷ (97 ∷ 115 ∷ [], symbol.As)
    ∷ (97 ∷ 115 ∷ 99 ∷ [], symbol.Asc)
    ∷ (98 ∷ 101 ∷ 103 ∷ 105 ∷ 110 ∷ [], symbol.Begin)
    ∷ (98 ∷ 105 ∷ 103 ∷ 105 ∷ 110 ∷ 116 ∷ [], symbol.Bigint)
    ∷ (98 ∷ 121 ∷ [], symbol.By)
    ∷ (99 ∷ 111 ∷ 109 ∷ 109 ∷ 105 ∷ 116 ∷ [], symbol.Commit)
    ∷ (99 ∷ 114 ∷ 101 ∷ 97 ∷ 116 ∷ 101 ∷ [], symbol.Create)
    ∷ (100 ∷ 97 ∷ 116 ∷ 97 ∷ 108 ∷ 105 ∷ 110 ∷ 107 ∷ [], symbol.Datalink)
    ∷ (100 ∷ 101 ∷ 108 ∷ 101 ∷ 116 ∷ 101 ∷ [], symbol.Delete)
    ∷ (100 ∷ 101 ∷ 115 ∷ 99 ∷ [], symbol.Desc)
    ∷ (100 ∷ 114 ∷ 111 ∷ 112 ∷ [], symbol.Drop)
    ∷ (102 ∷ 114 ∷ 111 ∷ 109 ∷ [], symbol.From)
    ∷ (103 ∷ 114 ∷ 111 ∷ 117 ∷ 112 ∷ [], symbol.Group)
    ∷ (105 ∷ 110 ∷ 110 ∷ 101 ∷ 114 ∷ [], symbol.Inner)
    ∷ (105 ∷ 110 ∷ 115 ∷ 101 ∷ 114 ∷ 116 ∷ [], symbol.Insert)
    ∷ (105 ∷ 110 ∷ 116 ∷ 101 ∷ 103 ∷ 101 ∷ 114 ∷ [], symbol.Integer)
    ∷ (105 ∷ 110 ∷ 116 ∷ 111 ∷ [], symbol.Into)
    ∷ (105 ∷ 115 ∷ [], symbol.Is)
    ∷ (106 ∷ 111 ∷ 105 ∷ 110 ∷ [], symbol.Join)
    ∷ (107 ∷ 101 ∷ 121 ∷ [], symbol.Key)
    ∷ (110 ∷ 111 ∷ 116 ∷ [], symbol.Not)
    ∷ (110 ∷ 117 ∷ 108 ∷ 108 ∷ [], symbol.Null)
    ∷ (111 ∷ 110 ∷ [], symbol.On)
    ∷ (111 ∷ 114 ∷ [], symbol.Or)
    ∷ (111 ∷ 114 ∷ 100 ∷ 101 ∷ 114 ∷ [], symbol.Order)
    ∷ (112 ∷ 114 ∷ 105 ∷ 109 ∷ 97 ∷ 114 ∷ 121 ∷ [], symbol.Primary)
    ∷ (114 ∷ 111 ∷ 108 ∷ 108 ∷ 98 ∷ 97 ∷ 99 ∷ 107 ∷ [], symbol.Rollback)
    ∷ (115 ∷ 101 ∷ 108 ∷ 101 ∷ 99 ∷ 116 ∷ [], symbol.Select)
    ∷ (115 ∷ 101 ∷ 116 ∷ [], symbol.Set)
    ∷ (116 ∷ 97 ∷ 98 ∷ 108 ∷ 101 ∷ [], symbol.Table)
    ∷ (117 ∷ 112 ∷ 100 ∷ 97 ∷ 116 ∷ 101 ∷ [], symbol.Update)
    ∷ (118 ∷ 97 ∷ 108 ∷ 117 ∷ 101 ∷ 115 ∷ [], symbol.Values)
    ∷ (118 ∷ 97 ∷ 114 ∷ 99 ∷ 104 ∷ 97 ∷ 114 ∷ [], symbol.Varchar)
    ∷ (119 ∷ 104 ∷ 101 ∷ 114 ∷ 101 ∷ [], symbol.Where)
    ∷ []
