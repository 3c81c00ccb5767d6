-- The readers of statements are exact.
use Rattle.std.proofs.Common.{◌≡◌, ℕ, true, false, List, [], ◌∷◌, ◌++◌, Some, None, inl, inr, refl, sym, ap, ◌∙◌, subst}
use Rattle.std.specs.Prelude.{slice_get}
use Rattle.dl_base.specs.declared.statement.KeyBy.TheVariants as key_by
use Rattle.dl_base.specs.declared.statement.Stmt.TheVariants as stmt
use Rattle.sql_grammar.specs.declared.symbol.Symbol.TheVariants as symbol
use Rattle.sql_grammar.specs.declared.token.Token.{Token}
use Rattle.sql_grammar.specs.declared.token.Token.TheVariants.{Symbol}
use Rattle.sql_grammar.specs.declared.terminal.Terminal.{Terminal}
use Rattle.sql_grammar.specs.declared.terminal.Terminal.TheVariants as terminal
use Rattle.sql_grammar.specs.Forms.{Form, number, literal, null, column, parens, not, minus, binary, is_null, count_all, aggregate, access, dlvalue1, dlvalue2, dlvalue3, null_text, text}
use Rattle.sql_grammar.specs.Levels.{symbol_of}
use Rattle.sql_grammar.specs.Readers.{Rises, Climbs, is_token, one_or, many_at, listed_at, expression_at}
use Rattle.sql_grammar.specs.Lang.{Just, After, Then, As, Maybe, Many, Listed, Enclosed, Expression}
use Rattle.sql_grammar.specs.Statements.{name_of, key_of, Name, Tuple, InsertTail, Filter, Assigned, UpdateTail, DeleteTail, item_of, ItemText, Items, Alias, source_of, Source, Following, JoinTail, Joined, Sources, some_or_none, ref_of, RefText, Group, Direction, key_with, KeyText, Order, FromTail, select_of, SelectTail, Sentence, Statement}
use Rattle.sql_grammar.specs.Reading.{tuple_at, columns_at, insert_at, filter_at, assigned_at, update_at, delete_at, item_at, items_at, alias_at, source_at, join_at, joined_at, begins_joined, sources_at, ref_at, group_at, direction_at, key_at, order_at, from_at, select_at, sentence_at, statement_at}
use Rattle.sql_grammar.proofs.Sound.{name_proper}
use Rattle.sql_grammar.proofs.Readers.{Has, Reads, Any, Without, Apart, reads_then, reads_map, reads_branch, reads_after, reads_just, reads_one, reads_maybe, reads_maybe_one, reads_closed, reads_before, apart_after, apart_or, apart_just, has_then, has_after, has_map, has_just, has_left, has_none, has_closed, reads_rise}
use Rattle.sql_grammar.proofs.Many.{Passes, Fails, reads_many, reads_listed, reads_climb, has_many, has_listed}
use Rattle.sql_grammar.proofs.Whole.{reads_expression, has_expression}
use Rattle.sql_grammar.proofs.Follow.{Heads, heads, lacks, follow, Starts, starts_after, starts_maybe, starts_as, starts_then, starts_any}
use Rattle.sql_grammar.proofs.Columns.{reads_name, has_name, has_create, reads_create, has_drop, reads_drop}

-- the end of a sentence
end_rest : List Token
end_rest = Symbol symbol.Semicolon ∷ []

-- ---- INSERT

-- behind an expression in a list of them in parentheses
tuple_rest : List Token
tuple_rest = Symbol symbol.Comma ∷ Symbol symbol.Close ∷ []

has_tuple : Has Tuple
has_tuple = has_after (Symbol symbol.Open) (has_closed (Symbol symbol.Close) (has_listed has_expression))

reads_tuple : (E : List Terminal → Type 0) → Reads tuple_at Tuple E
unfolding tuple_at tuple_rest
reads_tuple E =
    reads_after (Symbol symbol.Open) (has_closed (Symbol symbol.Close) (has_listed has_expression))
    (reads_closed (Symbol symbol.Close) E (λ rest. (inr (inl refl), refl)) (reads_listed has_expression (follow tuple_rest tt (λ ws. tt, (λ ws. tt, tt)) reads_expression) (λ rest. inl refl)))

reads_insert_columns : Reads columns_at (Maybe (Enclosed (Listed Name))) (λ rest. Any rest × Without (Symbol symbol.Open) rest)
unfolding columns_at
reads_insert_columns = reads_maybe (Symbol symbol.Open) (has_closed (Symbol symbol.Close) (has_listed has_name)) (reads_closed (Symbol symbol.Close) Any (λ rest. (tt, refl)) (reads_listed has_name (reads_name Any) (λ rest. tt)))

has_values : Has (After (Symbol symbol.Values) (Listed Tuple))
has_values = has_after (Symbol symbol.Values) (has_listed has_tuple)

has_insert : Has InsertTail
has_insert = has_map (λ p. stmt.Insert p.0 p.1.0 p.1.1) (has_after (Symbol symbol.Into) (has_then has_name (has_then (has_none (Enclosed (Listed Name))) has_values)))

reads_insert : Reads insert_at InsertTail (Heads end_rest)
unfolding insert_at end_rest
reads_insert =
    reads_map (λ p. stmt.Insert p.0 p.1.0 p.1.1)
    (reads_after (Symbol symbol.Into) (has_then has_name (has_then (has_none (Enclosed (Listed Name))) has_values))
    (reads_then (reads_name Any)
    (reads_then reads_insert_columns
    (reads_after (Symbol symbol.Values) (has_listed has_tuple) (follow end_rest (tt, refl) (λ ws. (tt, refl), tt) (reads_listed has_tuple (reads_tuple Any) (λ rest. tt))))
    has_values (λ y b rest says ends. subst (λ (z : List Terminal). Any (z ++ rest) × Without (Symbol symbol.Open) (z ++ rest)) (sym says.1) (tt, refl)))
    (has_then (has_none (Enclosed (Listed Name))) has_values) (starts_any (Then (Maybe (Enclosed (Listed Name))) (After (Symbol symbol.Values) (Listed Tuple))) (Heads end_rest))))

-- ---- UPDATE and DELETE

reads_filter_end : Reads filter_at Filter (Heads end_rest)
unfolding filter_at end_rest
reads_filter_end = follow end_rest (tt, refl) (λ ws. (tt, refl), tt) (reads_maybe (Symbol symbol.Where) has_expression reads_expression)

has_filter : Has Filter
has_filter = has_none (After (Symbol symbol.Where) Expression)

-- behind an assignment
assigned_rest : List Token
assigned_rest = Symbol symbol.Where ∷ end_rest

has_assigned : Has Assigned
has_assigned = has_then has_name (has_after (Symbol symbol.Equal) has_expression)

-- a comma, or what follows assignments
abbrev AssignedEnds : List Terminal → Type 0
AssignedEnds = Heads (Symbol symbol.Comma ∷ assigned_rest)

reads_assigned : Reads assigned_at Assigned AssignedEnds
unfolding assigned_at assigned_rest end_rest
reads_assigned =
    reads_then (reads_name Any) (reads_after (Symbol symbol.Equal) has_expression (follow (Symbol symbol.Comma ∷ assigned_rest) tt (λ ws. tt, (λ ws. tt, (λ ws. tt, tt))) reads_expression)) (has_after (Symbol symbol.Equal) has_expression) (starts_any (After (Symbol symbol.Equal) Expression) AssignedEnds)

more_heads : (t : Token) (fs : List Token) (rest : List Terminal) → Heads fs rest → Heads (t ∷ fs) rest
more_heads t fs [] h = h
more_heads t fs (w ∷ ws) h = inr h

reads_assignments : Reads (listed_at assigned_at) (Listed Assigned) (Heads assigned_rest)
unfolding assigned_rest end_rest
reads_assignments = reads_before (Heads assigned_rest) (λ rest h. (more_heads (Symbol symbol.Comma) assigned_rest rest h, lacks (Symbol symbol.Comma) assigned_rest refl (λ ws. refl, (λ ws. refl, tt)) rest h)) (reads_listed has_assigned reads_assigned (λ rest. inl refl))

has_changes : Has (After (Symbol symbol.Set) (Then (Listed Assigned) Filter))
has_changes = has_after (Symbol symbol.Set) (has_then (has_listed has_assigned) has_filter)

has_update : Has UpdateTail
has_update = has_map (λ p. stmt.Update p.0 p.1.0 p.1.1) (has_then has_name has_changes)

reads_update : Reads update_at UpdateTail (Heads end_rest)
unfolding update_at assigned_rest
reads_update =
    reads_map (λ p. stmt.Update p.0 p.1.0 p.1.1)
    (reads_then (reads_name Any)
    (reads_after (Symbol symbol.Set) (has_then (has_listed has_assigned) has_filter) (reads_then reads_assignments reads_filter_end has_filter (starts_maybe (Symbol symbol.Where) Expression end_rest)))
    has_changes (starts_any (After (Symbol symbol.Set) (Then (Listed Assigned) Filter)) (Heads end_rest)))

has_delete : Has DeleteTail
has_delete = has_map (λ p. stmt.Delete p.0 p.1) (has_after (Symbol symbol.From) (has_then has_name has_filter))

reads_delete : Reads delete_at DeleteTail (Heads end_rest)
unfolding delete_at
reads_delete =
    reads_map (λ p. stmt.Delete p.0 p.1) (reads_after (Symbol symbol.From) (has_then has_name has_filter)
    (reads_then (reads_name Any) reads_filter_end has_filter (starts_any Filter (Heads end_rest))))

-- ---- items

-- behind the items
items_rest : List Token
items_rest = Symbol symbol.From ∷ []

-- behind an item
item_rest : List Token
item_rest = Symbol symbol.Comma ∷ items_rest

has_item : Has ItemText
has_item = has_map item_of (has_then has_expression (has_none (After (Symbol symbol.As) Name)))

reads_item : Reads item_at ItemText (Heads item_rest)
unfolding item_at item_rest items_rest
reads_item =
    reads_map item_of
    (reads_then (follow (Symbol symbol.As ∷ item_rest) tt (λ ws. tt, (λ ws. tt, (λ ws. tt, tt))) reads_expression) (follow item_rest (tt, refl) (λ ws. (tt, refl), (λ ws. (tt, refl), tt)) (reads_maybe (Symbol symbol.As) has_name (reads_name Any)))
    (has_none (After (Symbol symbol.As) Name)) (starts_maybe (Symbol symbol.As) Name item_rest))

-- no expression begins with `*`
form_first : (f : Form) → (w : Terminal) × (tail : List Terminal) × (text f ≡ w ∷ tail) × (is_token (Symbol symbol.Star) (Some w) ≡ false)
form_first (number n) = (terminal.Number n, [], refl, refl)
form_first (literal x) = (terminal.Literal x, [], refl, refl)
form_first null = (terminal.Fixed symbol.Null, [], refl, refl)
form_first (column None c) = (terminal.Word c, [], refl, refl)
form_first (column (Some x) c) = (terminal.Word x, terminal.Fixed symbol.Dot ∷ terminal.Word c ∷ [], refl, refl)
form_first (parens f) = (terminal.Fixed symbol.Open, _, refl, refl)
form_first (not f) = (terminal.Fixed symbol.Not, _, refl, refl)
form_first (minus f) = (terminal.Fixed symbol.Minus, _, refl, refl)
form_first (binary o f g) = let h = form_first f in (h.0, h.1 ++ terminal.Fixed (symbol_of o) ∷ text g, ap (λ (x : List Terminal). x ++ terminal.Fixed (symbol_of o) ∷ text g) h.2, h.3)
form_first (is_null f b) = let h = form_first f in (h.0, h.1 ++ terminal.Fixed symbol.Is ∷ null_text b, ap (λ (x : List Terminal). x ++ terminal.Fixed symbol.Is ∷ null_text b) h.2, h.3)
form_first count_all = (_, _, refl, refl)
form_first (aggregate g f) = (_, _, refl, refl)
form_first (access p f) = (_, _, refl, refl)
form_first (dlvalue1 f) = (_, _, refl, refl)
form_first (dlvalue2 f g) = (_, _, refl, refl)
form_first (dlvalue3 f g h) = (_, _, refl, refl)

items_apart : Apart (Symbol symbol.Star) (As Some (Listed ItemText)) (Heads items_rest)
items_apart x here rest says ends =
    let parts = says.2.2 in
    let item = parts.3.2 in
    let d = item.3 in
    let f = form_first d.form in
    let first : item.0 ≡ f.0 ∷ f.1 = sym d.text_is ∙ f.2 in
    let all : here ≡ f.0 ∷ ((f.1 ++ item.1) ++ parts.1) = parts.2 ∙ ap (λ (z : List Terminal). z ++ parts.1) (item.2 ∙ ap (λ (z : List Terminal). z ++ item.1) first) in
    ap (λ (z : List Terminal). is_token (Symbol symbol.Star) (slice_get (z ++ rest) 0)) all ∙ f.3

has_items : Has Items
has_items = has_left _ (has_after (Symbol symbol.Star) (has_just None))

reads_items : Reads items_at Items (Heads items_rest)
unfolding items_at item_rest items_rest
reads_items =
    reads_branch (Symbol symbol.Star) (has_just None) (reads_just None (Heads items_rest))
    (reads_map Some (reads_before (Heads items_rest) (λ rest h. (more_heads (Symbol symbol.Comma) items_rest rest h, lacks (Symbol symbol.Comma) items_rest refl (λ ws. refl, tt) rest h)) (reads_listed has_item reads_item (λ rest. inl refl))))
    items_apart

-- ---- sources

-- behind the sources, behind WHERE and behind GROUP BY
group_rest : List Token
group_rest = Symbol symbol.Order ∷ end_rest

filter_rest : List Token
filter_rest = Symbol symbol.Group ∷ group_rest

sources_rest : List Token
sources_rest = Symbol symbol.Where ∷ filter_rest

-- behind one source
source_rest : List Token
source_rest = Symbol symbol.Comma ∷ Symbol symbol.Join ∷ Symbol symbol.Inner ∷ sources_rest

has_alias : Has Alias
has_alias = has_left _ (has_after (Symbol symbol.As) (has_map Some has_name))

-- no alias goes on
abbrev AliasEnds : List Terminal → Type 0
AliasEnds rest = (one_or name_of (slice_get rest 0) ≡ None) × Without (Symbol symbol.As) rest

alias_apart : Apart (Symbol symbol.As) (Maybe Name) AliasEnds
alias_apart None here rest says ends = ap (λ (z : List Terminal). is_token (Symbol symbol.As) (slice_get (z ++ rest) 0)) says ∙ ends.1
alias_apart (Some x) here rest says ends = ap (λ (z : List Terminal). is_token (Symbol symbol.As) (slice_get (z ++ rest) 0)) says.1 ∙ word_is_no_symbol says.0 x says.2
  where
    word_is_no_symbol : (w : Terminal) (x : List ℕ) → name_of w ≡ Some x → is_token (Symbol symbol.As) (Some w) ≡ false
    word_is_no_symbol (terminal.Word y) x e = refl
    word_is_no_symbol (terminal.Fixed m) x e = absurd cc
    word_is_no_symbol (terminal.Number z) x e = absurd cc
    word_is_no_symbol (terminal.Literal y) x e = absurd cc

reads_alias : Reads alias_at Alias AliasEnds
unfolding alias_at
reads_alias = reads_branch (Symbol symbol.As) (has_map Some has_name) (reads_map Some (reads_name AliasEnds)) (reads_before AliasEnds (λ rest h. h.0) (reads_maybe_one name_of)) alias_apart

has_source : Has Source
has_source = has_map source_of (has_then has_name has_alias)

reads_source : Reads source_at Source AliasEnds
unfolding source_at
reads_source = reads_map source_of (reads_then (reads_name Any) reads_alias has_alias (starts_any Alias AliasEnds))

has_join : Has JoinTail
has_join = has_map (λ p. (p.0, Some p.1)) (has_then has_source (has_after (Symbol symbol.On) has_expression))

reads_join : Reads join_at JoinTail (Heads source_rest)
unfolding join_at source_rest sources_rest filter_rest group_rest end_rest
reads_join =
    reads_map (λ p. (p.0, Some p.1))
    (reads_then reads_source (reads_after (Symbol symbol.On) has_expression (follow source_rest tt (λ ws. tt, (λ ws. tt, (λ ws. tt, (λ ws. tt, (λ ws. tt, (λ ws. tt, (λ ws. tt, tt))))))) reads_expression)) (has_after (Symbol symbol.On) has_expression)
    (λ y b rest says ends. subst (λ (z : List Terminal). AliasEnds (z ++ rest)) (sym says.1) (refl, refl)))

has_joined : Has Joined
has_joined = has_left _ (has_after (Symbol symbol.Comma) (has_map (λ s. (s, None)) has_source))

reads_joined : Reads joined_at Joined (Heads source_rest)
unfolding joined_at source_rest sources_rest filter_rest group_rest end_rest
reads_joined =
    let E : List Terminal → Type 0 = Heads source_rest in
    reads_branch (Symbol symbol.Comma) (has_map (λ s. (s, None)) has_source) (reads_map (λ s. (s, None)) (follow source_rest (refl, refl) (λ ws. (refl, refl), (λ ws. (refl, refl), (λ ws. (refl, refl), (λ ws. (refl, refl), (λ ws. (refl, refl), (λ ws. (refl, refl), (λ ws. (refl, refl), tt))))))) reads_source))
    (reads_branch (Symbol symbol.Join) has_join reads_join (reads_after (Symbol symbol.Inner) (has_after (Symbol symbol.Join) has_join) (reads_after (Symbol symbol.Join) has_join reads_join)) (apart_after (Symbol symbol.Join) (Symbol symbol.Inner) _ E refl))
    (apart_or (Symbol symbol.Comma) _ _ E (apart_after (Symbol symbol.Comma) (Symbol symbol.Join) _ E refl) (apart_after (Symbol symbol.Comma) (Symbol symbol.Inner) _ E refl))

joined_passes : Passes begins_joined Joined
joined_passes x a (inl says) = (terminal.Fixed symbol.Comma, says.0, says.1, refl)
joined_passes x a (inr (inl says)) = (terminal.Fixed symbol.Join, says.0, says.1, refl)
joined_passes x a (inr (inr says)) = (terminal.Fixed symbol.Inner, says.0, says.1, refl)

-- what begins one more source follows a source
joined_heads : (w : Terminal) (rest : List Terminal) → begins_joined (Some w) ≡ true → Heads source_rest (w ∷ rest)
unfolding source_rest
joined_heads (terminal.Fixed symbol.Comma) rest e = inl refl
joined_heads (terminal.Fixed symbol.Join) rest e = inr (inl refl)
joined_heads (terminal.Fixed symbol.Inner) rest e = inr (inr (inl refl))
joined_heads (terminal.Fixed _) rest e = absurd cc
joined_heads _ rest e = absurd cc

reads_following : Reads (many_at begins_joined joined_at) (Many Joined) (Heads sources_rest)
unfolding source_rest sources_rest filter_rest group_rest end_rest
reads_following =
    reads_before (Heads sources_rest) (λ rest h. (more_heads (Symbol symbol.Comma) (Symbol symbol.Join ∷ Symbol symbol.Inner ∷ sources_rest) rest (more_heads (Symbol symbol.Join) (Symbol symbol.Inner ∷ sources_rest) rest (more_heads (Symbol symbol.Inner) sources_rest rest h)), heads sources_rest (Fails begins_joined) refl (λ ws. refl, (λ ws. refl, (λ ws. refl, (λ ws. refl, tt)))) rest h))
    (reads_many begins_joined reads_joined joined_passes refl joined_heads)

following_start : (y : List Following) (b rest : List Terminal) → Many Joined y b → Heads sources_rest rest → AliasEnds (b ++ rest)
unfolding sources_rest filter_rest group_rest end_rest
following_start [] b rest says ends = subst (λ (z : List Terminal). AliasEnds (z ++ rest)) (sym says) (heads sources_rest AliasEnds (refl, refl) (λ ws. (refl, refl), (λ ws. (refl, refl), (λ ws. (refl, refl), (λ ws. (refl, refl), tt)))) rest ends)
following_start (x ∷ xs) b rest says ends = first says.3
  where
    with_first : (m : Terminal) (tail : List Terminal) → says.0 ≡ m ∷ tail → (one_or name_of (Some m) ≡ None) × (is_token (Symbol symbol.As) (Some m) ≡ false) → AliasEnds (b ++ rest)
    with_first m tail e h = let all : b ≡ m ∷ (tail ++ says.1) = says.2 ∙ ap (λ (z : List Terminal). z ++ says.1) e in subst (λ (z : List Terminal). AliasEnds (z ++ rest)) (sym all) h

    first : Joined x says.0 → AliasEnds (b ++ rest)
    first (inl s) = with_first (terminal.Fixed symbol.Comma) s.0 s.1 (refl, refl)
    first (inr (inl s)) = with_first (terminal.Fixed symbol.Join) s.0 s.1 (refl, refl)
    first (inr (inr s)) = with_first (terminal.Fixed symbol.Inner) s.0 s.1 (refl, refl)

has_sources : Has Sources
has_sources = has_then has_source (has_many Joined)

reads_sources : Reads sources_at Sources (Heads sources_rest)
unfolding sources_at
reads_sources = reads_then reads_source reads_following (has_many Joined) following_start

-- ---- WHERE, GROUP BY and ORDER BY

reads_filter_select : Reads filter_at Filter (Heads filter_rest)
unfolding filter_at filter_rest group_rest end_rest
reads_filter_select = follow filter_rest (tt, refl) (λ ws. (tt, refl), (λ ws. (tt, refl), (λ ws. (tt, refl), tt))) (reads_maybe (Symbol symbol.Where) has_expression reads_expression)

has_ref : Has RefText
has_ref = has_map ref_of (has_then has_name (has_none (After (Symbol symbol.Dot) Name)))

reads_ref : Reads ref_at RefText (λ rest. Any rest × Without (Symbol symbol.Dot) rest)
unfolding ref_at
reads_ref = reads_map ref_of (reads_then (reads_name Any) (reads_maybe (Symbol symbol.Dot) has_name (reads_name Any)) (has_none (After (Symbol symbol.Dot) Name)) (starts_any (Maybe (After (Symbol symbol.Dot) Name)) (λ rest. Any rest × Without (Symbol symbol.Dot) rest)))

has_group : Has Group
has_group = has_map some_or_none (has_none (After (Symbol symbol.Group) (After (Symbol symbol.By) (Listed RefText))))

reads_group : Reads group_at Group (Heads group_rest)
unfolding group_at group_rest end_rest
reads_group =
    follow group_rest (((tt, refl), refl), refl) (λ ws. (((tt, refl), refl), refl), (λ ws. (((tt, refl), refl), refl), tt))
    (reads_map some_or_none (reads_maybe (Symbol symbol.Group) (has_after (Symbol symbol.By) (has_listed has_ref)) (reads_after (Symbol symbol.By) (has_listed has_ref) (reads_listed has_ref reads_ref (λ rest. (tt, refl))))))

has_direction : Has Direction
has_direction = has_left _ (has_after (Symbol symbol.Asc) (has_just false))

-- behind a key
key_rest : List Token
key_rest = Symbol symbol.Comma ∷ end_rest

reads_direction : Reads direction_at Direction (Heads key_rest)
unfolding direction_at key_rest end_rest
reads_direction =
    let E : List Terminal → Type 0 = Heads key_rest in
    reads_branch (Symbol symbol.Asc) (has_just false) (reads_just false E)
    (reads_branch (Symbol symbol.Desc) (has_just true) (reads_just true E) (reads_just false E) (apart_just (Symbol symbol.Desc) false E (lacks (Symbol symbol.Desc) key_rest refl (λ ws. refl, (λ ws. refl, tt)))))
    (apart_or (Symbol symbol.Asc) _ _ E (apart_after (Symbol symbol.Asc) (Symbol symbol.Desc) _ E refl) (apart_just (Symbol symbol.Asc) false E (lacks (Symbol symbol.Asc) key_rest refl (λ ws. refl, (λ ws. refl, tt)))))

has_key : Has KeyText
has_key = has_map key_with (has_then (record { value = key_by.Name (97 ∷ []); text = terminal.Word (97 ∷ []) ∷ []; says = (terminal.Word (97 ∷ []), refl, refl); proper = name_proper }) has_direction)

reads_key : Reads key_at KeyText (Heads key_rest)
unfolding key_at
reads_key = reads_map key_with (reads_then (reads_one key_of Any) reads_direction has_direction (starts_any Direction (Heads key_rest)))

has_order : Has Order
has_order = has_map some_or_none (has_none (After (Symbol symbol.Order) (After (Symbol symbol.By) (Listed KeyText))))

reads_order : Reads order_at Order (Heads end_rest)
unfolding order_at key_rest end_rest
reads_order =
    follow end_rest ((tt, refl), refl) (λ ws. ((inr (inl refl), refl), refl), tt)
    (reads_map some_or_none (reads_maybe (Symbol symbol.Order) (has_after (Symbol symbol.By) (has_listed has_key)) (reads_after (Symbol symbol.By) (has_listed has_key) (reads_listed has_key reads_key (λ rest. inl refl)))))

-- ---- SELECT

order_start : Starts Order (Heads group_rest) (Heads end_rest)
unfolding group_rest
order_start = starts_as some_or_none (Maybe (After (Symbol symbol.Order) (After (Symbol symbol.By) (Listed KeyText)))) (Heads group_rest) (Heads end_rest) (starts_maybe (Symbol symbol.Order) (After (Symbol symbol.By) (Listed KeyText)) end_rest)

group_start : Starts Group (Heads filter_rest) (Heads group_rest)
unfolding filter_rest
group_start = starts_as some_or_none (Maybe (After (Symbol symbol.Group) (After (Symbol symbol.By) (Listed RefText)))) (Heads filter_rest) (Heads group_rest) (starts_maybe (Symbol symbol.Group) (After (Symbol symbol.By) (Listed RefText)) group_rest)

filter_start : Starts Filter (Heads sources_rest) (Heads filter_rest)
unfolding sources_rest
filter_start = starts_maybe (Symbol symbol.Where) Expression filter_rest

grouped_start : Starts (Then Group Order) (Heads filter_rest) (Heads end_rest)
grouped_start = starts_then Group Order (Heads filter_rest) (Heads group_rest) (Heads end_rest) group_start order_start

has_grouped : Has (Then Group Order)
has_grouped = has_then has_group has_order

has_from : Has FromTail
has_from = has_then has_sources (has_then has_filter has_grouped)

reads_from : Reads from_at FromTail (Heads end_rest)
unfolding from_at
reads_from =
    reads_then reads_sources (reads_then reads_filter_select (reads_then reads_group reads_order has_order order_start) has_grouped grouped_start) (has_then has_filter has_grouped)
    (starts_then Filter (Then Group Order) (Heads sources_rest) (Heads filter_rest) (Heads end_rest) filter_start grouped_start)

has_select : Has SelectTail
has_select = has_map select_of (has_then has_items (has_after (Symbol symbol.From) has_from))

reads_select : Reads select_at SelectTail (Heads end_rest)
unfolding select_at items_rest
reads_select =
    reads_map select_of (reads_then reads_items (reads_after (Symbol symbol.From) has_from reads_from) (has_after (Symbol symbol.From) has_from) (starts_after (Symbol symbol.From) FromTail [] (Heads end_rest)))

-- ---- all of them

has_sentence : Has Sentence
has_sentence = has_left _ (has_after (Symbol symbol.Begin) (has_just stmt.Begin))

reads_sentence : Reads sentence_at Sentence (Heads end_rest)
unfolding sentence_at
reads_sentence =
    let E : List Terminal → Type 0 = Heads end_rest in
    reads_branch (Symbol symbol.Begin) (has_just stmt.Begin) (reads_just stmt.Begin E)
    (reads_branch (Symbol symbol.Commit) (has_just stmt.Commit) (reads_just stmt.Commit E)
    (reads_branch (Symbol symbol.Rollback) (has_just stmt.Rollback) (reads_just stmt.Rollback E)
    (reads_branch (Symbol symbol.Create) has_create (reads_create E)
    (reads_branch (Symbol symbol.Drop) has_drop (reads_drop E)
    (reads_branch (Symbol symbol.Insert) has_insert reads_insert
    (reads_branch (Symbol symbol.Update) has_update reads_update
    (reads_branch (Symbol symbol.Delete) has_delete reads_delete
    (reads_after (Symbol symbol.Select) has_select reads_select)
    (apart_after (Symbol symbol.Delete) (Symbol symbol.Select) _ E refl))
    (apart_or (Symbol symbol.Update) _ _ E (apart_after (Symbol symbol.Update) (Symbol symbol.Delete) _ E refl) (apart_after (Symbol symbol.Update) (Symbol symbol.Select) _ E refl)))
    (apart_or (Symbol symbol.Insert) _ _ E (apart_after (Symbol symbol.Insert) (Symbol symbol.Update) _ E refl) (apart_or (Symbol symbol.Insert) _ _ E (apart_after (Symbol symbol.Insert) (Symbol symbol.Delete) _ E refl) (apart_after (Symbol symbol.Insert) (Symbol symbol.Select) _ E refl))))
    (apart_or (Symbol symbol.Drop) _ _ E (apart_after (Symbol symbol.Drop) (Symbol symbol.Insert) _ E refl) (apart_or (Symbol symbol.Drop) _ _ E (apart_after (Symbol symbol.Drop) (Symbol symbol.Update) _ E refl) (apart_or (Symbol symbol.Drop) _ _ E (apart_after (Symbol symbol.Drop) (Symbol symbol.Delete) _ E refl) (apart_after (Symbol symbol.Drop) (Symbol symbol.Select) _ E refl)))))
    (apart_or (Symbol symbol.Create) _ _ E (apart_after (Symbol symbol.Create) (Symbol symbol.Drop) _ E refl) (apart_or (Symbol symbol.Create) _ _ E (apart_after (Symbol symbol.Create) (Symbol symbol.Insert) _ E refl) (apart_or (Symbol symbol.Create) _ _ E (apart_after (Symbol symbol.Create) (Symbol symbol.Update) _ E refl) (apart_or (Symbol symbol.Create) _ _ E (apart_after (Symbol symbol.Create) (Symbol symbol.Delete) _ E refl) (apart_after (Symbol symbol.Create) (Symbol symbol.Select) _ E refl))))))
    (apart_or (Symbol symbol.Rollback) _ _ E (apart_after (Symbol symbol.Rollback) (Symbol symbol.Create) _ E refl) (apart_or (Symbol symbol.Rollback) _ _ E (apart_after (Symbol symbol.Rollback) (Symbol symbol.Drop) _ E refl) (apart_or (Symbol symbol.Rollback) _ _ E (apart_after (Symbol symbol.Rollback) (Symbol symbol.Insert) _ E refl) (apart_or (Symbol symbol.Rollback) _ _ E (apart_after (Symbol symbol.Rollback) (Symbol symbol.Update) _ E refl) (apart_or (Symbol symbol.Rollback) _ _ E (apart_after (Symbol symbol.Rollback) (Symbol symbol.Delete) _ E refl) (apart_after (Symbol symbol.Rollback) (Symbol symbol.Select) _ E refl)))))))
    (apart_or (Symbol symbol.Commit) _ _ E (apart_after (Symbol symbol.Commit) (Symbol symbol.Rollback) _ E refl) (apart_or (Symbol symbol.Commit) _ _ E (apart_after (Symbol symbol.Commit) (Symbol symbol.Create) _ E refl) (apart_or (Symbol symbol.Commit) _ _ E (apart_after (Symbol symbol.Commit) (Symbol symbol.Drop) _ E refl) (apart_or (Symbol symbol.Commit) _ _ E (apart_after (Symbol symbol.Commit) (Symbol symbol.Insert) _ E refl) (apart_or (Symbol symbol.Commit) _ _ E (apart_after (Symbol symbol.Commit) (Symbol symbol.Update) _ E refl) (apart_or (Symbol symbol.Commit) _ _ E (apart_after (Symbol symbol.Commit) (Symbol symbol.Delete) _ E refl) (apart_after (Symbol symbol.Commit) (Symbol symbol.Select) _ E refl))))))))
    (apart_or (Symbol symbol.Begin) _ _ E (apart_after (Symbol symbol.Begin) (Symbol symbol.Commit) _ E refl) (apart_or (Symbol symbol.Begin) _ _ E (apart_after (Symbol symbol.Begin) (Symbol symbol.Rollback) _ E refl) (apart_or (Symbol symbol.Begin) _ _ E (apart_after (Symbol symbol.Begin) (Symbol symbol.Create) _ E refl) (apart_or (Symbol symbol.Begin) _ _ E (apart_after (Symbol symbol.Begin) (Symbol symbol.Drop) _ E refl) (apart_or (Symbol symbol.Begin) _ _ E (apart_after (Symbol symbol.Begin) (Symbol symbol.Insert) _ E refl) (apart_or (Symbol symbol.Begin) _ _ E (apart_after (Symbol symbol.Begin) (Symbol symbol.Update) _ E refl) (apart_or (Symbol symbol.Begin) _ _ E (apart_after (Symbol symbol.Begin) (Symbol symbol.Delete) _ E refl) (apart_after (Symbol symbol.Begin) (Symbol symbol.Select) _ E refl))))))))

pub has_statement : Has Statement
has_statement = has_map (λ p. p.0) (has_then has_sentence (has_none (After (Symbol symbol.Semicolon) (Just {A = Unit {0}} tt))))

-- nothing follows a statement
abbrev pub AtEnd : List Terminal → Type 0
AtEnd rest = rest ≡ []

end_start : Starts (Maybe (After (Symbol symbol.Semicolon) (Just {A = Unit {0}} tt))) (Heads end_rest) AtEnd
unfolding end_rest
end_start y b rest says ends = starts_maybe (Symbol symbol.Semicolon) (Just {A = Unit {0}} tt) [] y b rest says (subst (Heads []) (sym ends) tt)

pub reads_statement : Reads statement_at Statement AtEnd
unfolding statement_at
reads_statement =
    reads_map (λ p. p.0) (reads_then reads_sentence
    (reads_before AtEnd (λ rest h. subst (λ (z : List Terminal). AtEnd z × Without (Symbol symbol.Semicolon) z) (sym h) (refl, refl)) (reads_maybe (Symbol symbol.Semicolon) (has_just tt) (reads_just tt AtEnd)))
    (has_none (After (Symbol symbol.Semicolon) (Just {A = Unit {0}} tt))) end_start)

-- ---- where reading goes on

pub expression_rises : Rises expression_at
expression_rises = reads_rise reads_expression

pub tuple_rises : Rises tuple_at
tuple_rises = reads_rise (reads_tuple Any)

pub assigned_rises : Rises assigned_at
assigned_rises = reads_rise reads_assigned

pub item_rises : Rises item_at
item_rises = reads_rise reads_item

pub joined_climbs : Climbs begins_joined joined_at
joined_climbs = reads_climb begins_joined reads_joined joined_passes

pub ref_rises : Rises ref_at
ref_rises = reads_rise reads_ref

pub key_rises : Rises key_at
key_rises = reads_rise reads_key
