-- What is put into a cell fits its column, and its link is kept, drawn or none.
use Rattle.std.proofs.Common.{◌≡◌, ℕ, suc, Bool, true, false, List, [], nat_le, bytes_eq, Option, Some, None, Ok, if◌then◌else◌, refl, sym, subst, ℤ}
use Rattle.std.specs.Cmp.Lexicographic.{bytes_decides}
use Rattle.std.proofs.lemmas.Bool.{and_parts}
use Rattle.dl_base.specs.Limits.{most_links}
use Rattle.dl_base.specs.declared.answer.Limit.TheVariants as limits
use Rattle.dl_base.specs.declared.column.Column.{Column}
use Rattle.dl_base.specs.declared.column.ColumnRule.{ColumnRule}
use Rattle.dl_base.specs.declared.column.ColumnRule.TheVariants as rules
use Rattle.dl_base.specs.declared.column.Kind.{Kind}
use Rattle.dl_base.specs.declared.column.Kind.TheVariants as kinds
use Rattle.dl_base.specs.declared.column.Options.{Options}
use Rattle.dl_base.specs.declared.sql_fault.SqlFault.TheVariants as faults
use Rattle.dl_base.specs.declared.value.Dl.{Dl}
use Rattle.dl_base.specs.declared.value.LinkNo.{LinkNo}
use Rattle.dl_base.specs.declared.value.LinkRow.{LinkRow}
use Rattle.dl_base.specs.declared.value.Value.{Value}
use Rattle.dl_base.specs.declared.value.Value.TheVariants as values
use Rattle.dl_location.specs.Accessors.{host_part}
use Rattle.meaning_sql.specs.Fitting.{is_of_type}
use Rattle.meaning_sql.specs.Types.{kind_type}
use Rattle.meaning_statements.specs.Assigning.{stored, stored_link, numbered, kept_link, is_same_file, is_plain, is_within}
use Rattle.meaning_tables.specs.Fits.{fits_kind, fits_rule}
use Rattle.meaning_tables.specs.Links.{cell_links, link_row}
use Rattle.sql_invariants.proofs.Steps.{held, given}
use Rattle.sql_invariants.proofs.Walks.{Walk, ends, keeps, draws, all_dropped}

abbrev pub Stored : Type 0
Stored = Value × ℕ

-- a value fits a column
pub record CellFits (kind : Kind) (rule : ColumnRule) (v : Value) : Type 0 where
  pub of_kind : fits_kind kind v ≡ true
  pub by_rule : fits_rule rule v ≡ true

null_by_rule : (rule : ColumnRule) → is_plain rule ≡ true → fits_rule rule values.Null ≡ true
null_by_rule rules.Plain plain = refl
null_by_rule rules.NotNull plain = plain
null_by_rule rules.Key plain = plain

-- what may stand under NOT NULL may stand under each rule
any_rule : (rule : ColumnRule) (v : Value) → fits_rule rules.NotNull v ≡ true → fits_rule rule v ≡ true
any_rule rules.Plain v h = refl
any_rule rules.NotNull v h = h
any_rule rules.Key values.Null h = h
any_rule rules.Key (values.Int z) h = h
any_rule rules.Key (values.Text t) h = h
any_rule rules.Key (values.Link d) h = h

int_of_kind : (kind : Kind) (z : ℤ) → is_of_type (kind_type kind) (values.Int z) ≡ true → fits_kind kind (values.Int z) ≡ true
int_of_kind kinds.Int z h = refl
int_of_kind (kinds.Text most) z h = h
int_of_kind kinds.Free z h = h
int_of_kind (kinds.Linked options) z h = h

text_of_kind : (kind : Kind) (t : List ℕ) → is_of_type (kind_type kind) (values.Text t) ≡ true → is_within kind t ≡ true → fits_kind kind (values.Text t) ≡ true
text_of_kind kinds.Int t h within = h
text_of_kind (kinds.Text most) t h within = within
text_of_kind kinds.Free t h within = h
text_of_kind (kinds.Linked options) t h within = h

-- a datalink under a number
linked_fits : (options : Options) (rule : ColumnRule) (tx k : ℕ) (d : Dl) (link : Option LinkNo) (q : Stored) → numbered tx k d link ≡ Ok q → CellFits (kinds.Linked options) rule q.0
linked_fits options rule tx k d (Some link) q is =
    subst (λ (p : Stored). CellFits (kinds.Linked options) rule p.0) (given _ q is) (record { of_kind = refl; by_rule = any_rule rule (values.Link (record d { link = Some link })) refl })
linked_fits options rule tx k d None q is =
    let drawn = held (nat_le k most_links) (values.Link (record d { link = Some (record { tx = tx; k = k }) }), suc k) q (faults.Limit limits.Links) is in
    subst (λ (p : Stored). CellFits (kinds.Linked options) rule p.0) drawn.same (record { of_kind = refl; by_rule = any_rule rule (values.Link (record d { link = Some (record { tx = tx; k = k }) })) refl })

link_fits : (kind : Kind) (rule : ColumnRule) (tx k : ℕ) (old : Value) (d : Dl) (q : Stored) → stored_link tx k kind old d ≡ Ok q → CellFits kind rule q.0
link_fits kinds.Int rule tx k old d q is = absurd (cc)
link_fits (kinds.Text most) rule tx k old d q is = absurd (cc)
link_fits kinds.Free rule tx k old d q is =
    subst (λ (p : Stored). CellFits kinds.Free rule p.0) (given _ q is) (record { of_kind = refl; by_rule = any_rule rule (values.Link (record d { link = None })) refl })
link_fits (kinds.Linked options) rule tx k old d q is = linked_fits options rule tx k d (kept_link old d) q is

-- a value of the column's type that is put into a cell fits the column
pub cell_fits : (tx k : ℕ) (c : Column) (old new : Value) (q : Stored) → stored tx k c old new ≡ Ok q → is_of_type (kind_type c.kind) new ≡ true → CellFits c.kind c.rule q.0
unfolding stored
cell_fits tx k c old values.Null q is type =
    let plain = held (is_plain c.rule) (values.Null, k) q (faults.NullKey c.name) is in
    subst (λ (p : Stored). CellFits c.kind c.rule p.0) plain.same (record { of_kind = refl; by_rule = null_by_rule c.rule plain.test })
cell_fits tx k c old (values.Int z) q is type =
    subst (λ (p : Stored). CellFits c.kind c.rule p.0) (given _ q is) (record { of_kind = int_of_kind c.kind z type; by_rule = any_rule c.rule (values.Int z) refl })
cell_fits tx k c old (values.Text t) q is type =
    let short = held (is_within c.kind t) (values.Text t, k) q (faults.TooLong c.name) is in
    subst (λ (p : Stored). CellFits c.kind c.rule p.0) short.same (record { of_kind = text_of_kind c.kind t type short.test; by_rule = any_rule c.rule (values.Text t) refl })
cell_fits tx k c old (values.Link d) q is type = link_fits c.kind c.rule tx k old d q is

-- links

-- a new datalink draws the next number
drawn : (options : Options) (tx k : ℕ) (d : Dl) (olds : List LinkRow) (q : Stored) → numbered tx k d None ≡ Ok q → Walk tx k q.1 olds (cell_links (kinds.Linked options) q.0)
drawn options tx k d olds q is =
    let took = held (nat_le k most_links) (values.Link (record d { link = Some (record { tx = tx; k = k }) }), suc k) q (faults.Limit limits.Links) is in
    subst (λ (p : Stored). Walk tx k p.1 olds (cell_links (kinds.Linked options) p.0)) took.same
    (draws (record { link = record { tx = tx; k = k }; path = d.path; options = options }) refl (all_dropped tx (suc k) olds))

-- one that names the same file keeps the old link, if there is one
kept_or_drawn : (options : Options) (tx k : ℕ) (d : Dl) (path : List ℕ) (old : Option LinkNo) (same : Bool) (q : Stored) → (same ≡ true → path ≡ d.path)
    → numbered tx k d (if same then old else None) ≡ Ok q → Walk tx k q.1 (link_row options path old) (cell_links (kinds.Linked options) q.0)
kept_or_drawn options tx k d path old false q paths is = drawn options tx k d (link_row options path old) q is
kept_or_drawn options tx k d path None true q paths is = drawn options tx k d [] q is
kept_or_drawn options tx k d path (Some link) true q paths is =
    subst (λ (p : Stored). Walk tx k p.1 (link_row options path (Some link)) (cell_links (kinds.Linked options) p.0)) (given _ q is)
    (subst (λ (here : List ℕ). Walk tx k k (link_row options path (Some link)) (link_row options here (Some link))) (paths refl) (keeps (record { link = link; path = path; options = options }) ends))

same_path : (old new : Dl) → is_same_file old new ≡ true → old.path ≡ new.path
same_path old new same = (bytes_decides old.path new.path).0 (and_parts (bytes_eq (host_part old.location) (host_part new.location)) (bytes_eq old.path new.path) same).1

linked_walk : (options : Options) (tx k : ℕ) (old : Value) (d : Dl) (q : Stored) → numbered tx k d (kept_link old d) ≡ Ok q → Walk tx k q.1 (cell_links (kinds.Linked options) old) (cell_links (kinds.Linked options) q.0)
linked_walk options tx k (values.Link e) d q is = kept_or_drawn options tx k d e.path e.link (is_same_file e d) q (same_path e d) is
linked_walk options tx k values.Null d q is = drawn options tx k d [] q is
linked_walk options tx k (values.Int z) d q is = drawn options tx k d [] q is
linked_walk options tx k (values.Text t) d q is = drawn options tx k d [] q is

link_walk : (kind : Kind) (tx k : ℕ) (old : Value) (d : Dl) (q : Stored) → stored_link tx k kind old d ≡ Ok q → Walk tx k q.1 (cell_links kind old) (cell_links kind q.0)
link_walk kinds.Int tx k old d q is = absurd (cc)
link_walk (kinds.Text most) tx k old d q is = absurd (cc)
link_walk kinds.Free tx k old d q is = subst (λ (p : Stored). Walk tx k p.1 [] []) (given _ q is) ends
link_walk (kinds.Linked options) tx k old d q is = linked_walk options tx k old d q is

-- a cell that is no datalink has no link
pub null_unlinked : (kind : Kind) → cell_links kind values.Null ≡ []
null_unlinked kinds.Int = refl
null_unlinked (kinds.Text most) = refl
null_unlinked kinds.Free = refl
null_unlinked (kinds.Linked options) = refl

int_unlinked : (kind : Kind) (z : ℤ) → cell_links kind (values.Int z) ≡ []
int_unlinked kinds.Int z = refl
int_unlinked (kinds.Text most) z = refl
int_unlinked kinds.Free z = refl
int_unlinked (kinds.Linked options) z = refl

text_unlinked : (kind : Kind) (t : List ℕ) → cell_links kind (values.Text t) ≡ []
text_unlinked kinds.Int t = refl
text_unlinked (kinds.Text most) t = refl
text_unlinked kinds.Free t = refl
text_unlinked (kinds.Linked options) t = refl

unlinked : (tx k : ℕ) (kind : Kind) (old new : Value) → cell_links kind new ≡ [] → Walk tx k k (cell_links kind old) (cell_links kind new)
unlinked tx k kind old new none = subst (λ (news : List LinkRow). Walk tx k k (cell_links kind old) news) (sym none) (all_dropped tx k (cell_links kind old))

-- the links of a cell before and after
pub cell_walk : (tx k : ℕ) (c : Column) (old new : Value) (q : Stored) → stored tx k c old new ≡ Ok q → Walk tx k q.1 (cell_links c.kind old) (cell_links c.kind q.0)
unfolding stored
cell_walk tx k c old values.Null q is =
    let plain = held (is_plain c.rule) (values.Null, k) q (faults.NullKey c.name) is in
    subst (λ (p : Stored). Walk tx k p.1 (cell_links c.kind old) (cell_links c.kind p.0)) plain.same (unlinked tx k c.kind old values.Null (null_unlinked c.kind))
cell_walk tx k c old (values.Int z) q is =
    subst (λ (p : Stored). Walk tx k p.1 (cell_links c.kind old) (cell_links c.kind p.0)) (given _ q is) (unlinked tx k c.kind old (values.Int z) (int_unlinked c.kind z))
cell_walk tx k c old (values.Text t) q is =
    let short = held (is_within c.kind t) (values.Text t, k) q (faults.TooLong c.name) is in
    subst (λ (p : Stored). Walk tx k p.1 (cell_links c.kind old) (cell_links c.kind p.0)) short.same (unlinked tx k c.kind old (values.Text t) (text_unlinked c.kind t))
cell_walk tx k c old (values.Link d) q is = link_walk c.kind tx k old d q is
