-- Worked rows: a transaction that reads b, makes c and would drop a, on the tables that it saw and on others.
use Rattle.std.proofs.Common.{◌≡◌, ℕ, List, [], ◌∷◌, length, codes, None, refl, pos}
use Rattle.dl_base.specs.declared.answer.Answer.{Answer}
use Rattle.dl_base.specs.declared.answer.Answer.TheVariants as answers
use Rattle.dl_base.specs.declared.answer.ClaimRefusal.TheVariants as claims
use Rattle.dl_base.specs.declared.answer.Limit.TheVariants as limits
use Rattle.dl_base.specs.declared.answer.Refusal.TheVariants as reasons
use Rattle.dl_base.specs.declared.column.Column.{Column}
use Rattle.dl_base.specs.declared.column.ColumnRule.TheVariants as rules
use Rattle.dl_base.specs.declared.column.Kind.TheVariants as kinds
use Rattle.dl_base.specs.declared.sql_fault.SqlFault.TheVariants as faults
use Rattle.dl_base.specs.declared.statement.KindDef.TheVariants as defs
use Rattle.dl_base.specs.declared.statement.Stmt.{Stmt}
use Rattle.dl_base.specs.declared.statement.Stmt.TheVariants as statements
use Rattle.dl_base.specs.declared.value.Row.{Row}
use Rattle.dl_base.specs.declared.value.Value.TheVariants as values
use Rattle.meaning_sql.specs.declared.Context.{Context}
use Rattle.meaning_sql.specs.Values.{cell}
use Rattle.meaning_statements.specs.Changing.{create, drop_table}
use Rattle.meaning_statements.specs.Selecting.{select}
use Rattle.meaning_system.specs.Sql.{evaluated}
use Rattle.meaning_tables.specs.Tables.{Rows, Tables, new_table, table_of}
use Rattle.meaning_serial.specs.Freely.{create_freely, evaluated_freely}
use Rattle.meaning_serial.specs.Serial.{AnswerAgain, Said, names_in, replay, standing, without_versions}

abbrev a : List ℕ
a = 97 ∷ []

abbrev b : List ℕ
b = 98 ∷ []

abbrev c : List ℕ
c = 99 ∷ []

abbrev numbers : List Column
numbers = record { name = 110 ∷ []; kind = kinds.Int; rule = rules.Plain } ∷ []

abbrev row : ℕ → Row
row n = record { values = values.Int (pos n) ∷ [] }

abbrev table : ℕ → ℕ → List (ℕ × Row) → Rows
table version next rows = record { version = version; columns = numbers; next = next; rows = rows }

-- behind commit 1, and behind commit 2, which put a row into b
abbrev first : Tables
first = (a, table 1 2 ((1, row 5) ∷ [])) ∷ (b, table 1 1 []) ∷ []

abbrev second : Tables
second = (a, table 1 2 ((1, row 5) ∷ [])) ∷ (b, table 2 2 ((1, row 7) ∷ [])) ∷ []

-- behind a commit that put a row into another table
abbrev third : Tables
third = (100 ∷ [], table 2 2 ((1, row 7) ∷ [])) ∷ first

abbrev at_moment : Context
at_moment = record { server = codes "fs1"; key = []; now = 0; life = 60; tx = 9 }

abbrev asked : Stmt → Answer → Said
asked stmt answer = record { stmt = stmt; context = at_moment; answer = answer }

-- SELECT * FROM b
abbrev reads_b : Stmt
reads_b = statements.Select (record { items = None; from = record { table = b; alias = None } ∷ []; conditions = []; filter = None; group = []; order = [] })

abbrev makes_c : Stmt
makes_c = statements.CreateTable c (record { name = 110 ∷ []; kind = defs.Integer; not_null = 0; key = 0 } ∷ [])

-- DROP TABLE c is refused by its meaning, CREATE TABLE c is done, DROP TABLE a is refused by its claim, and b has no rows
abbrev four : List Said
four =
    asked (statements.DropTable c) (answers.Refused (reasons.Sql (faults.NoTable c)))
    ∷ asked makes_c answers.Done
    ∷ asked (statements.DropTable a) (answers.Refused (reasons.Claim (claims.Busy (47 ∷ []) 8)))
    ∷ asked reads_b (answers.Rows (record { rows = [] }))
    ∷ []

-- they name what they read too
names-of-four : names_in four ≡ c ∷ c ∷ a ∷ b ∷ []
names-of-four = refl

-- three stand, and a is still there
three-stand : length (standing four) ≡ 3
three-stand = refl

answers-again : AnswerAgain first four
unfolding evaluated_freely evaluated create_freely drop_table select cell
answers-again = refl

tables-behind : without_versions (replay first 1 (standing four)).tables ≡ (a, table 0 2 ((1, row 5) ∷ [])) ∷ (b, table 0 1 []) ∷ (c, new_table numbers) ∷ []
unfolding evaluated_freely evaluated create_freely drop_table select cell
tables-behind = refl

-- a table that is not named is not looked at
answers-beside : AnswerAgain third four
unfolding evaluated_freely evaluated create_freely drop_table select cell
answers-beside = refl

tables-beside : without_versions (replay third 1 (standing four)).tables ≡ (100 ∷ [], table 0 2 ((1, row 7) ∷ [])) ∷ (a, table 0 2 ((1, row 5) ∷ [])) ∷ (b, table 0 1 []) ∷ (c, new_table numbers) ∷ []
unfolding evaluated_freely evaluated create_freely drop_table select cell
tables-beside = refl

-- one that is read alone is: over its later rows the query answers otherwise, so a Decide has to look at it
reads-otherwise : (replay second 1 (standing four)).answers ≡ answers.Refused (reasons.Sql (faults.NoTable c)) ∷ answers.Done ∷ answers.Rows (record { rows = row 7 ∷ [] }) ∷ []
unfolding evaluated_freely evaluated create_freely drop_table select cell
reads-otherwise = refl

-- one table too many for a copy is none too many here
too-many : (others : Tables) → table_of others c ≡ None → length others ≡ 256 → (evaluated others makes_c at_moment 1).answer ≡ answers.Refused (reasons.Sql (faults.Limit limits.Tables))
unfolding evaluated create
too-many others absent h = rw (absent, h) refl

none-too-many : (others : Tables) → table_of others c ≡ None → length others ≡ 256 → (evaluated_freely others makes_c at_moment 1).answer ≡ answers.Done
unfolding evaluated_freely create_freely
none-too-many others absent h = rw absent refl
