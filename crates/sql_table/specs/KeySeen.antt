-- What a key is seen as: its kind, 0 for a whole number and 1 for a text, and the number and the text, of which a key has one.
use Rattle.std.specs.Prelude.{ℕ, ℤ, pos, List, []}
use Rattle.sql_table.specs.declared.key.Held.{Held}
use Rattle.sql_table.specs.declared.key.Held.TheVariants as held

pub record Key : Type 0 where
  pub kind : ℕ
  pub number : ℤ
  pub text : List ℕ

abbrev pub seen : Held → Key
seen (held.Number z) = record { kind = 0; number = z; text = [] }
seen (held.Text hash t) = record { kind = 1; number = pos 0; text = t.value }
