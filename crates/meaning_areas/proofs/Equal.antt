-- The tests of equality decide equality.
use Rattle.std.proofs.Common.{◌≡◌, ℕ, ◌==◌, ◌&&◌, Bool, true, false, List, [], ◌∷◌, Option, Some, None, bytes_eq, refl, sym, ◌∙◌, ap}
use Rattle.std.proofs.lemmas.Bool.Decides.{Decides-eqb, Decides-int_eq}
use Rattle.std.proofs.lemmas.Slice.Eq.{bytes_eq-Decides}
use Rattle.std.specs.Bool.{Decides}
use Rattle.std.specs.Cmp.Lexicographic.{pointwise, pointwise_decides}
use Rattle.dl_base.specs.declared.column.Column.{Column}
use Rattle.dl_base.specs.declared.column.ColumnRule.{ColumnRule}
use Rattle.dl_base.specs.declared.column.ColumnRule.TheVariants as rules
use Rattle.dl_base.specs.declared.column.Kind.{Kind}
use Rattle.dl_base.specs.declared.column.Kind.TheVariants as kinds
use Rattle.dl_base.specs.declared.column.OnUnlink.{OnUnlink}
use Rattle.dl_base.specs.declared.column.OnUnlink.TheVariants as unlink
use Rattle.dl_base.specs.declared.column.Options.{Options}
use Rattle.dl_base.specs.declared.column.ReadBy.{ReadBy}
use Rattle.dl_base.specs.declared.column.ReadBy.TheVariants as read
use Rattle.dl_base.specs.declared.column.WriteBy.{WriteBy}
use Rattle.dl_base.specs.declared.column.WriteBy.TheVariants as write
use Rattle.dl_base.specs.declared.value.Dl.{Dl}
use Rattle.dl_base.specs.declared.value.LinkNo.{LinkNo}
use Rattle.dl_base.specs.declared.value.LinkRow.{LinkRow}
use Rattle.dl_base.specs.declared.value.Row.{Row}
use Rattle.dl_base.specs.declared.value.Value.{Value}
use Rattle.dl_base.specs.declared.value.Value.TheVariants as values
use Rattle.meaning_settling.specs.Keyed.{is_at}
use Rattle.meaning_settling.specs.Settling.{link_key}
use Rattle.meaning_settling.proofs.KeyedLaws.{is_at-same, is_at-self}
use Rattle.meaning_tables.specs.Links.{same_number}
use Rattle.meaning_tables.specs.Tables.{Rows, Tables}
use Rattle.meaning_areas.specs.Same.{read_number, write_number, unlink_number, same_truth, same_options, same_link, same_option, same_value, same_row, same_kind, rule_number, same_column, same_columns, same_rows, same_tables}

wrong : {P : Type 0} → false ≡ true → P
wrong e = absurd (no e)
  where
    no : false ≡ true → ⊥
    no x = cc

both : (a b : Bool) → (a && b) ≡ true → (a ≡ true) × (b ≡ true)
both true b e = (refl, e)
both false b e = wrong e

all : (a b : Bool) → a ≡ true → b ≡ true → (a && b) ≡ true
all true b e f = f
all false b e f = wrong e

-- a test that passes at the same, and only there
decided : {A : Type 0} (same : A → A → Bool) → ((a : A) → same a a ≡ true) → ((a b : A) → same a b ≡ true → a ≡ b) → (a b : A) → Decides (same a b) (a ≡ b)
decided same self is a b = (is a b, λ p. ap (same a) (sym p) ∙ self a)

self : {A : Type 0} (same : A → A → Bool) → ((a b : A) → Decides (same a b) (a ≡ b)) → (a : A) → same a a ≡ true
self same decides a = (decides a a).1 refl

truth : (a b : Bool) → same_truth a b ≡ true → a ≡ b
truth true true e = refl
truth true false e = wrong e
truth false true e = wrong e
truth false false e = refl

truth-self : (a : Bool) → same_truth a a ≡ true
truth-self true = refl
truth-self false = refl

reads : (a b : ReadBy) → (read_number a == read_number b) ≡ true → a ≡ b
reads read.Fs read.Fs e = refl
reads read.Fs read.Db e = wrong e
reads read.Db read.Fs e = wrong e
reads read.Db read.Db e = refl

writes : (a b : WriteBy) → (write_number a == write_number b) ≡ true → a ≡ b
writes write.Fs write.Fs e = refl
writes write.Fs write.Blocked e = wrong e
writes write.Fs write.Admin e = wrong e
writes write.Blocked write.Fs e = wrong e
writes write.Blocked write.Blocked e = refl
writes write.Blocked write.Admin e = wrong e
writes write.Admin write.Fs e = wrong e
writes write.Admin write.Blocked e = wrong e
writes write.Admin write.Admin e = refl

unlinks : (a b : OnUnlink) → (unlink_number a == unlink_number b) ≡ true → a ≡ b
unlinks unlink.Nothing unlink.Nothing e = refl
unlinks unlink.Nothing unlink.Restore e = wrong e
unlinks unlink.Nothing unlink.Delete e = wrong e
unlinks unlink.Restore unlink.Nothing e = wrong e
unlinks unlink.Restore unlink.Restore e = refl
unlinks unlink.Restore unlink.Delete e = wrong e
unlinks unlink.Delete unlink.Nothing e = wrong e
unlinks unlink.Delete unlink.Restore e = wrong e
unlinks unlink.Delete unlink.Delete e = refl

rule : (a b : ColumnRule) → (rule_number a == rule_number b) ≡ true → a ≡ b
rule rules.Plain rules.Plain e = refl
rule rules.Plain rules.NotNull e = wrong e
rule rules.Plain rules.Key e = wrong e
rule rules.NotNull rules.Plain e = wrong e
rule rules.NotNull rules.NotNull e = refl
rule rules.NotNull rules.Key e = wrong e
rule rules.Key rules.Plain e = wrong e
rule rules.Key rules.NotNull e = wrong e
rule rules.Key rules.Key e = refl

number-self : (n : ℕ) → (n == n) ≡ true
number-self n = (Decides-eqb n n).1 refl

bytes-self : (xs : List ℕ) → bytes_eq xs xs ≡ true
bytes-self xs = (bytes_eq-Decides xs xs).1 refl

pub options-decide : (a b : Options) → Decides (same_options a b) (a ≡ b)
options-decide = decided same_options
    (λ o. all _ _ (all _ _ (all _ _ (number-self (read_number o.read)) (number-self (write_number o.write))) (truth-self o.recovery)) (number-self (unlink_number o.unlink)))
    (λ a b e.
    let one = both ((read_number a.read == read_number b.read) && (write_number a.write == write_number b.write) && same_truth a.recovery b.recovery) (unlink_number a.unlink == unlink_number b.unlink) e in
    let two = both ((read_number a.read == read_number b.read) && (write_number a.write == write_number b.write)) (same_truth a.recovery b.recovery) one.0 in
    let three = both (read_number a.read == read_number b.read) (write_number a.write == write_number b.write) two.0 in
    λ i. record { read = reads a.read b.read three.0 i; write = writes a.write b.write three.1 i; recovery = truth a.recovery b.recovery two.1 i; unlink = unlinks a.unlink b.unlink one.1 i })

link-decides : (a b : LinkNo) → Decides (same_number a b) (a ≡ b)
link-decides = decided same_number
    (λ l. all _ _ (number-self l.tx) (number-self l.k))
    (λ a b e. (let one = both (a.tx == b.tx) (a.k == b.k) e in λ i. record { tx = (Decides-eqb a.tx b.tx).0 one.0 i; k = (Decides-eqb a.k b.k).0 one.1 i }))

option-same : (a b : Option LinkNo) → same_option same_number a b ≡ true → a ≡ b
option-same None None e = refl
option-same (Some a) (Some b) e = ap (λ (x : LinkNo). Some x) ((link-decides a b).0 e)
option-same None (Some b) e = wrong e
option-same (Some a) None e = wrong e

option-self : (a : Option LinkNo) → same_option same_number a a ≡ true
option-self None = refl
option-self (Some a) = self same_number link-decides a

datalink : (a b : Dl) → (bytes_eq a.location b.location && bytes_eq a.path b.path && bytes_eq a.comment b.comment && same_option same_number a.link b.link) ≡ true → a ≡ b
datalink a b e =
    let one = both (bytes_eq a.location b.location && bytes_eq a.path b.path && bytes_eq a.comment b.comment) (same_option same_number a.link b.link) e in
    let two = both (bytes_eq a.location b.location && bytes_eq a.path b.path) (bytes_eq a.comment b.comment) one.0 in
    let three = both (bytes_eq a.location b.location) (bytes_eq a.path b.path) two.0 in
    λ i. record { location = (bytes_eq-Decides a.location b.location).0 three.0 i; path = (bytes_eq-Decides a.path b.path).0 three.1 i; comment = (bytes_eq-Decides a.comment b.comment).0 two.1 i; link = option-same a.link b.link one.1 i }

value-self : (v : Value) → same_value v v ≡ true
value-self values.Null = refl
value-self (values.Int z) = (Decides-int_eq z z).1 refl
value-self (values.Text t) = bytes-self t
value-self (values.Link d) = all _ _ (all _ _ (all _ _ (bytes-self d.location) (bytes-self d.path)) (bytes-self d.comment)) (option-self d.link)

value-same : (a b : Value) → same_value a b ≡ true → a ≡ b
value-same values.Null values.Null e = refl
value-same values.Null (values.Int y) e = wrong e
value-same values.Null (values.Text y) e = wrong e
value-same values.Null (values.Link y) e = wrong e
value-same (values.Int x) values.Null e = wrong e
value-same (values.Int x) (values.Int y) e = ap (λ z. values.Int z) ((Decides-int_eq x y).0 e)
value-same (values.Int x) (values.Text y) e = wrong e
value-same (values.Int x) (values.Link y) e = wrong e
value-same (values.Text x) values.Null e = wrong e
value-same (values.Text x) (values.Int y) e = wrong e
value-same (values.Text x) (values.Text y) e = ap (λ t. values.Text t) ((bytes_eq-Decides x y).0 e)
value-same (values.Text x) (values.Link y) e = wrong e
value-same (values.Link x) values.Null e = wrong e
value-same (values.Link x) (values.Int y) e = wrong e
value-same (values.Link x) (values.Text y) e = wrong e
value-same (values.Link x) (values.Link y) e = ap (λ d. values.Link d) (datalink x y e)

pub values-decide : (a b : Value) → Decides (same_value a b) (a ≡ b)
values-decide = decided same_value value-self value-same

pub row-decides : (a b : ℕ × Row) → Decides (same_row a b) (a ≡ b)
row-decides = decided same_row
    (λ r. all _ _ (number-self r.0) ((pointwise_decides values-decide r.1.values r.1.values).1 refl))
    (λ a b e. (let one = both (a.0 == b.0) (pointwise same_value a.1.values b.1.values) e in λ i. ((Decides-eqb a.0 b.0).0 one.0 i, record { values = (pointwise_decides values-decide a.1.values b.1.values).0 one.1 i })))

kind-self : (k : Kind) → same_kind k k ≡ true
kind-self kinds.Int = refl
kind-self (kinds.Text most) = number-self most
kind-self kinds.Free = refl
kind-self (kinds.Linked o) = self same_options options-decide o

kind-same : (a b : Kind) → same_kind a b ≡ true → a ≡ b
kind-same kinds.Int kinds.Int e = refl
kind-same kinds.Int (kinds.Text y) e = wrong e
kind-same kinds.Int kinds.Free e = wrong e
kind-same kinds.Int (kinds.Linked y) e = wrong e
kind-same (kinds.Text x) kinds.Int e = wrong e
kind-same (kinds.Text x) (kinds.Text y) e = ap (λ n. kinds.Text n) ((Decides-eqb x y).0 e)
kind-same (kinds.Text x) kinds.Free e = wrong e
kind-same (kinds.Text x) (kinds.Linked y) e = wrong e
kind-same kinds.Free kinds.Int e = wrong e
kind-same kinds.Free (kinds.Text y) e = wrong e
kind-same kinds.Free kinds.Free e = refl
kind-same kinds.Free (kinds.Linked y) e = wrong e
kind-same (kinds.Linked x) kinds.Int e = wrong e
kind-same (kinds.Linked x) (kinds.Text y) e = wrong e
kind-same (kinds.Linked x) kinds.Free e = wrong e
kind-same (kinds.Linked x) (kinds.Linked y) e = ap (λ o. kinds.Linked o) ((options-decide x y).0 e)

column-decides : (a b : Column) → Decides (same_column a b) (a ≡ b)
column-decides = decided same_column
    (λ c. all _ _ (all _ _ (bytes-self c.name) (kind-self c.kind)) (number-self (rule_number c.rule)))
    (λ a b e.
    let one = both (bytes_eq a.name b.name && same_kind a.kind b.kind) (rule_number a.rule == rule_number b.rule) e in
    let two = both (bytes_eq a.name b.name) (same_kind a.kind b.kind) one.0 in
    λ i. record { name = (bytes_eq-Decides a.name b.name).0 two.0 i; kind = kind-same a.kind b.kind two.1 i; rule = rule a.rule b.rule one.1 i })

pub rows-decide : (a b : Rows) → Decides (same_rows a b) (a ≡ b)
rows-decide = decided same_rows
    (λ t. all _ _ (all _ _ (all _ _ (number-self t.version) ((pointwise_decides column-decides t.columns t.columns).1 refl)) (number-self t.next)) ((pointwise_decides row-decides t.rows t.rows).1 refl))
    (λ a b e.
    let one = both ((a.version == b.version) && same_columns a b && (a.next == b.next)) (pointwise same_row a.rows b.rows) e in
    let two = both ((a.version == b.version) && same_columns a b) (a.next == b.next) one.0 in
    let three = both (a.version == b.version) (same_columns a b) two.0 in
    λ i. record { version = (Decides-eqb a.version b.version).0 three.0 i; columns = (pointwise_decides column-decides a.columns b.columns).0 three.1 i; next = (Decides-eqb a.next b.next).0 two.1 i; rows = (pointwise_decides row-decides a.rows b.rows).0 one.1 i })

-- THE SAME TABLES are one list
pub tables-decide : (a b : Tables) → Decides (same_tables a b) (a ≡ b)
tables-decide a b = pointwise_decides {E = λ x y. bytes_eq x.0 y.0 && same_rows x.1 y.1} (decided (λ x y. bytes_eq x.0 y.0 && same_rows x.1 y.1)
    (λ t. all _ _ (bytes-self t.0) (self same_rows rows-decide t.1))
    (λ x y e. (let one = both (bytes_eq x.0 y.0) (same_rows x.1 y.1) e in λ i. ((bytes_eq-Decides x.0 y.0).0 one.0 i, (rows-decide x.1 y.1).0 one.1 i)))) a b

-- THE SAME LINK is one link

pub number-same : (a b : LinkNo) → link_key a ≡ link_key b → a ≡ b
number-same a b key = λ i. record { tx = first a.tx (a.k ∷ []) b.tx (b.k ∷ []) key i; k = first a.k [] b.k [] (rest a.tx (a.k ∷ []) b.tx (b.k ∷ []) key) i }
  where
    first : (x : ℕ) (xs : List ℕ) (y : ℕ) (ys : List ℕ) → x ∷ xs ≡ y ∷ ys → x ≡ y
    first x xs y ys e = cc e

    rest : (x : ℕ) (xs : List ℕ) (y : ℕ) (ys : List ℕ) → x ∷ xs ≡ y ∷ ys → xs ≡ ys
    rest x xs y ys e = cc e

row-link-same : (a b : LinkRow) → same_link a b ≡ true → a ≡ b
row-link-same a b e =
    let one = both (is_at (link_key a.link) (link_key b.link) && is_at a.path b.path) (same_options a.options b.options) e in
    let two = both (is_at (link_key a.link) (link_key b.link)) (is_at a.path b.path) one.0 in
    λ i. record { link = number-same a.link b.link (is_at-same (link_key a.link) (link_key b.link) two.0) i; path = is_at-same a.path b.path two.1 i; options = (options-decide a.options b.options).0 one.1 i }

pub row-link-decides : (a b : LinkRow) → Decides (same_link a b) (a ≡ b)
row-link-decides = decided same_link (λ l. all _ _ (all _ _ (is_at-self (link_key l.link)) (is_at-self l.path)) (self same_options options-decide l.options)) row-link-same
