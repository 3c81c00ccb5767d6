-- The links of a row, and those that others lack.
use Rattle.std.proofs.Common.{◌≡◌, true, List, [], ◌∷◌, refl}
use Rattle.std.specs.List.{list_any}
use Rattle.dl_base.specs.declared.value.LinkRow.{LinkRow}
use Rattle.dl_base.specs.declared.column.Column.{Column}
use Rattle.meaning_tables.specs.Links.{row_links, same_number, lacking}

pub none_past_the_end : (cs : List Column) → row_links cs [] ≡ []
none_past_the_end [] = refl
none_past_the_end (c ∷ cs) = refl

pub held : (x : LinkRow) (xs others : List LinkRow) → list_any (λ y. same_number x.link y.link) others ≡ true → lacking (x ∷ xs) others ≡ lacking xs others
held x xs others is = rw is refl
