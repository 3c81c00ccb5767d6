-- Entries put in order one after the other, and the files that they are.
use Rattle.std.proofs.Common.{◌≡◌, ℕ, List, [], ◌∷◌, ◌++◌, length, map, cond, false, refl, sym, ap, subst, ◌∙◌, Option, Some, None, nat_eq, Bor}
use Rattle.std.proofs.lemmas.Map.Iter.{rest_more, rest_so_far}
use Rattle.std.specs.BTreeMap.{insert_entry}
use Rattle.std.specs.Cmp.Lexicographic.{slice_cmp, pointwise, nat_list_cmp_total, nat_list_eq_equiv}
use Rattle.std.specs.FinMap as files
use Rattle.std.specs.FinMap.Entries.{by_order, put}
use Rattle.std.specs.List.{IsDistinct, AllByRecursion}
use Rattle.std.specs.Iterator.{Yields}
use Rattle.std.specs.Map.{lookup, keys_of}
use Rattle.std.specs.Map.Iter.{TakesFirst, deref_pair}
use Rattle.std.specs.Ordering.{nat_cmp, match_ordering}
use Rattle.std.specs.declared.cmp.Ordering.{Ordering}
use Rattle.std.specs.declared.cmp.Ordering.TheVariants.{Less, Equal, Greater}
use Rattle.dl_base.specs.declared.file.File.{File}
use Rattle.fs_files.proofs.Tables.{files_of, found, only_same}

abbrev Entries : Type 0
Entries = List (List ℕ × File)

same_choice : (r : Ordering) (a b c : Entries) → match_ordering r a b c ≡ by_order r a b c
same_choice Less a b c = refl
same_choice Equal a b c = refl
same_choice Greater a b c = refl

-- a tree of entries puts one in as a finite map does
insert-put : (k : List ℕ) (v : File) (es : Entries) → insert_entry (slice_cmp nat_cmp) es k v ≡ put (slice_cmp nat_cmp) k v es
insert-put k v [] = refl
insert-put k v (e ∷ es) =
    same_choice (slice_cmp nat_cmp k e.0) ((k, v) ∷ e ∷ es) ((e.0, v) ∷ es) (e ∷ insert_entry (slice_cmp nat_cmp) es k v)
    ∙ ap (λ (rest : Entries). by_order (slice_cmp nat_cmp k e.0) ((k, v) ∷ e ∷ es) ((e.0, v) ∷ es) (e ∷ rest)) (insert-put k v es)

-- of different keys, none of the first is the next one
apart : (k : List ℕ) (v : File) (x : List ℕ) (es rest : Entries) → AllByRecursion (λ y. pointwise nat_eq x y ≡ false) (keys_of (es ++ (k, v) ∷ rest)) → pointwise nat_eq x k ≡ false
apart k v x [] rest all = all.0
apart k v x (e ∷ es) rest all = apart k v x es rest all.1

new-key : (k : List ℕ) (v : File) (es rest : Entries) → IsDistinct (pointwise nat_eq) (keys_of (es ++ (k, v) ∷ rest)) → lookup (pointwise nat_eq k) es ≡ None
unfolding IsDistinct
new-key k v [] rest distinct = refl
new-key k v (e ∷ es) rest distinct =
    ap (λ b. cond b (Some e.1) (lookup (pointwise nat_eq k) es)) (nat_list_eq_equiv.symm k e.0 ∙ apart k v e.0 es rest distinct.0)
    ∙ new-key k v es rest distinct.1

-- one more entry
pub listed-more : (all es rest : Entries) (k : List ℕ) (v : File) → all ≡ es ++ (k, v) ∷ rest → IsDistinct (pointwise nat_eq) (keys_of all)
    → (made : Entries) → made ≡ files.entries (files_of es) → insert_entry (slice_cmp nat_cmp) made k v ≡ files.entries (files_of (es ++ (k, v) ∷ []))
listed-more all es rest k v is distinct made so_far =
    insert-put k v made ∙ ap (put (slice_cmp nat_cmp) k v) so_far ∙ sym (files.entries-insert nat_list_cmp_total (files_of es) k v)
    ∙ ap files.entries (sym (files.from_entries_push nat_list_cmp_total only_same es k v
    (found k es ∙ new-key k v es rest (subst (λ (xs : Entries). IsDistinct (pointwise nat_eq) (keys_of xs)) is distinct))))

-- a turn of the loop over entries, by what was yielded and what is left
shown-more : (xs : List (Bor (List ℕ) × Bor File)) (x : Bor (List ℕ) × Bor File) → map deref_pair (xs ++ x ∷ []) ≡ map deref_pair xs ++ deref_pair x ∷ []
shown-more [] x = refl
shown-more (y ∷ ys) x = ap (λ (l : Entries). deref_pair y ∷ l) (shown-more ys x)

pub listed-turn : (all : Entries) (xs : List (Bor (List ℕ) × Bor File)) (s t u : Entries) (r : Option (Bor (List ℕ) × Bor File)) → s ≡ all → Yields (TakesFirst deref_pair) s xs t
    → (path : Bor (List ℕ)) (file : Bor File) → r ≡ Some (path, file) → TakesFirst deref_pair t r u → IsDistinct (pointwise nat_eq) (keys_of all)
    → (made : Entries) → made ≡ files.entries (files_of (map deref_pair xs)) → (k : List ℕ) (v : File) → k ≡ path.now → v ≡ file.now
    → (later : Entries) → later ≡ insert_entry (slice_cmp nat_cmp) made k v → later ≡ files.entries (files_of (map deref_pair (xs ++ (path, file) ∷ [])))
listed-turn all xs s t u r start y path file is step distinct made so_far k v k_is v_is later later_is =
    let next : t ≡ (path.now, file.now) ∷ u = rest_more deref_pair t u r (path, file) is step in
    let split : all ≡ map deref_pair xs ++ (path.now, file.now) ∷ u = sym start ∙ rest_so_far deref_pair xs s t y ∙ ap (λ (l : Entries). map deref_pair xs ++ l) next in
    later_is ∙ (λ i. insert_entry (slice_cmp nat_cmp) made (k_is i) (v_is i))
    ∙ listed-more all (map deref_pair xs) u path.now file.now split distinct made so_far
    ∙ ap (λ (l : Entries). files.entries (files_of l)) (sym (shown-more xs (path, file)))

-- no entry
no_entries : (es : Entries) → length es ≡ 0 → es ≡ []
no_entries [] e = refl
no_entries (x ∷ es) e = absurd cc

pub none-listed : files.entries (files_of []) ≡ []
none-listed = no_entries (files.entries (files_of [])) (sym (files.len-entries (files_of [])) ∙ files.len-empty (slice_cmp nat_cmp) File)
