-- The laws of every change.
use Rattle.std.proofs.Common.{◌≡◌, ◌≢◌, ◌≤◌, ◌⊎◌, inl, inr, ℕ, Bool, map, All, Contains, Ok}
use Rattle.std.specs.List.{list_any}
use Rattle.std.proofs.lemmas.List.Elements.{All-from_recursion, All-contains_itself, All-weaker, recursion_from_All}
use Rattle.std.proofs.lemmas.Bool.{and_parts, and_from, not-true, not_from_false}
use Rattle.dl_base.specs.declared.statement.Stmt.{Stmt}
use Rattle.dl_base.specs.declared.value.LinkRow.{LinkRow}
use Rattle.meaning_sql.specs.declared.Context.{Context}
use Rattle.meaning_statements.specs.Changing.{Changed, change}
use Rattle.meaning_tables.specs.Fits.{Fits, RowsFit, differ}
use Rattle.meaning_tables.specs.Links.{links, same_number}
use Rattle.meaning_tables.specs.Tables.{Tables}
use Rattle.sql_invariants.specs.Free.{IsFree, IsDrawn, is_ahead}
use Rattle.sql_invariants.proofs.Changes.{change_made}
use Rattle.sql_invariants.proofs.Made.{ValuesAreTyped}
use Rattle.sql_invariants.proofs.Numbers.{stay_apart, stay_free, stay_free_of}
use Rattle.sql_invariants.proofs.Put.{all_fit}
use Rattle.sql_invariants.proofs.Walks.{origin, rises}

abbrev apart : Tables → Bool
apart tables = differ same_number (map (λ (l : LinkRow). l.link) (links tables))

pub kept_fitting : ValuesAreTyped → (tables : Tables) (stmt : Stmt) (context : Context) (k : ℕ) (after : Changed)
    → Fits tables → IsFree tables context.tx k → change tables stmt context k ≡ Ok after → Fits after.tables × (k ≤ after.next) × IsFree after.tables context.tx after.next
kept_fitting law tables stmt context k after fits free is =
    let both = and_parts (all_fit tables) (apart tables) fits in
    let none = not-true (list_any (λ (l : LinkRow). is_ahead context.tx k l.link) (links tables)) free in
    let made = change_made tables stmt context k after is in (
      and_from (all_fit after.tables) (apart after.tables) (made.fit law both.0) (stay_apart made.walk none both.1),
      rises made.walk,
      not_from_false (list_any (λ (l : LinkRow). is_ahead context.tx after.next l.link) (links after.tables)) (stay_free made.walk none),
    )

pub kept_rows_fitting : ValuesAreTyped → (tables : Tables) (stmt : Stmt) (context : Context) (k : ℕ) (after : Changed) → RowsFit tables → change tables stmt context k ≡ Ok after → RowsFit after.tables
kept_rows_fitting law tables stmt context k after fit is = (change_made tables stmt context k after is).fit law fit

pub others_free : (tables : Tables) (stmt : Stmt) (context : Context) (k : ℕ) (after : Changed) (tx first : ℕ) → change tables stmt context k ≡ Ok after → tx ≢ context.tx → IsFree tables tx first → IsFree after.tables tx first
others_free tables stmt context k after tx first is other free =
    let none = not-true (list_any (λ (l : LinkRow). is_ahead tx first l.link) (links tables)) free in
    not_from_false (list_any (λ (l : LinkRow). is_ahead tx first l.link) (links after.tables)) (stay_free_of tx first other (change_made tables stmt context k after is).walk none)

pub kept_or_drawn : (tables : Tables) (stmt : Stmt) (context : Context) (k : ℕ) (after : Changed) → change tables stmt context k ≡ Ok after → All (λ l. Contains (links tables) l ⊎ IsDrawn context.tx k after.next l.link) (links after.tables)
kept_or_drawn tables stmt context k after is =
    let Of : LinkRow → Type 0 = λ l. Contains (links tables) l ⊎ IsDrawn context.tx k after.next l.link in
    let olds = All-weaker (λ (l : LinkRow). Contains (links tables) l) Of (λ l there. inl there) (links tables) (All-contains_itself (links tables)) in
    All-from_recursion Of (links after.tables) (origin Of (change_made tables stmt context k after is).walk (recursion_from_All Of (links tables) olds) (λ l drawn. inr drawn))
