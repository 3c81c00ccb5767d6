-- The changes of a batch do what settling does.
use Rattle.std.proofs.Common.{◌≡◌, ℕ, Bool, true, false, cond, ◌&&◌, ◌||◌, List, [], ◌∷◌, map, bytes_eq, Option, Some, None, is_some, refl, sym, ap, ◌∙◌}
use Rattle.std.proofs.lemmas.Bool.{and_parts, false≢true}
use Rattle.std.proofs.lemmas.Slice.Eq.{bytes_eq-Decides}
use Rattle.std.specs.Cmp.{tied_itself}
use Rattle.std.specs.Cmp.Lexicographic.{slice_cmp, nat_list_cmp_total}
use Rattle.std.specs.FinMap as maps
use Rattle.std.specs.FinMap.Entries.{below_all}
use Rattle.std.specs.List.{cons_option, list_any}
use Rattle.std.specs.Option.{option_and_then}
use Rattle.std.specs.Ordering.{is_lt, nat_cmp}
use Rattle.std.specs.Prelude.{T}
use Rattle.dl_base.specs.declared.file.File.{File}
use Rattle.dl_base.specs.declared.file.FileChange.{FileChange}
use Rattle.dl_base.specs.declared.file.FileChange.TheVariants as changes
use Rattle.dl_base.specs.declared.file.Owner.{Owner}
use Rattle.dl_base.specs.declared.value.LinkRow.{LinkRow}
use Rattle.fm_effects.proofs.Keys.{at-key, is_at-self, only_same, or-right, same-key}
use Rattle.fm_effects.proofs.SortedSites.{has-sorted, path-on}
use Rattle.meaning_areas.specs.Finishing.{batch_changes, change_to, changes_on, path_set, sorted_paths}
use Rattle.meaning_areas.specs.Same.{same_before, same_file, same_owner, same_truth}
use Rattle.meaning_files.specs.Files.{Files, if_there, with_change, with_changes, with_owner}
use Rattle.meaning_settling.specs.Apart.{has_path}
use Rattle.meaning_settling.specs.Keyed.{is_at}
use Rattle.meaning_settling.specs.Settling.{Kept, Moved, by_links, copies_after, file_after, on, paths_of, settle_one}

-- files that compare as the same are the same

truth-same : (a b : Bool) → same_truth a b ≡ true → a ≡ b
truth-same true b e = sym e
truth-same false false e = refl
truth-same false true e = absurd (false≢true e)

owner-same : (a b : Owner) → same_owner a b ≡ true → a ≡ b
owner-same a b e =
    let two = and_parts (bytes_eq a.name b.name) (same_truth a.writable b.writable) e in
    λ i. record { name = (bytes_eq-Decides a.name b.name).0 two.0 i; writable = truth-same a.writable b.writable two.1 i }

before-same : (a b : Option Owner) → same_before a b ≡ true → a ≡ b
before-same None None e = refl
before-same (Some a) (Some b) e = ap (λ (x : Owner). Some x) (owner-same a b e)
before-same None (Some b) e = absurd (false≢true e)
before-same (Some a) None e = absurd (false≢true e)

file-same : (a b : File) → same_file a b ≡ true → a ≡ b
file-same a b e =
    let first = and_parts (same_owner a.owner b.owner && bytes_eq a.bytes b.bytes) (same_before a.before b.before) e in
    let second = and_parts (same_owner a.owner b.owner) (bytes_eq a.bytes b.bytes) first.0 in
    λ i. record { owner = owner-same a.owner b.owner second.0 i; bytes = (bytes_eq-Decides a.bytes b.bytes).0 second.1 i; before = before-same a.before b.before first.1 i }

-- one change

abbrev changed_by : Files → Option FileChange → Option Files
changed_by files None = Some files
changed_by files (Some c) = with_change files c

-- the files with this, or nothing, at a path
record Does (files : Files) (p : List ℕ) (b : Option File) (change : Option FileChange) : Type 0 where
  later : Files
  taken : changed_by files change ≡ Some later
  at : (q : List ℕ) → maps.get later q ≡ cond (is_at q p) b (maps.get files q)

does-put : (files : Files) (p : List ℕ) (x : File) → Does files p (Some x) (Some (changes.Put (record { path = p; file = x })))
does-put files p x = record { later = maps.insert files p x; taken = refl; at = maps.get-insert nat_list_cmp_total files p x }

does-nothing : (files : Files) (p : List ℕ) (o : Option File) → maps.get files p ≡ o → Does files p o None
does-nothing files p o is = record { later = files; taken = refl; at = λ q. sym (at-key (maps.get files) q p o (maps.get files q) (sym is) refl) }

does-keep : (files : Files) (p : List ℕ) (f x : File) → maps.get files p ≡ Some f → f.bytes ≡ x.bytes → Does files p (Some x) (Some (changes.Kept p x.owner x.before))
does-keep files p f x is bytes = record {
  later = maps.insert files p x;
  taken = ap (λ (o : Option File). if_there o (with_owner files p x.owner x.before o)) is
      ∙ ap (λ (b : List ℕ). Some (maps.insert files p (record { owner = x.owner; bytes = b; before = x.before }))) bytes;
  at = maps.get-insert nat_list_cmp_total files p x;
}

change-does : (files : Files) (p : List ℕ) (a b : Option File) → maps.get files p ≡ a → Does files p b (change_to p a b)
change-does files p None None is = does-nothing files p None is
change-does files p None (Some x) is = does-put files p x
change-does files p (Some f) None is = record { later = maps.remove files p; taken = ap (λ (o : Option File). if_there o (maps.remove files p)) is; at = maps.get-remove nat_list_cmp_total files p }
change-does files p (Some f) (Some x) is = by (same_file f x) (bytes_eq f.bytes x.bytes) refl refl
  where
    by : (s b : Bool) → same_file f x ≡ s → bytes_eq f.bytes x.bytes ≡ b → Does files p (Some x) (cond s None (cond b (Some (changes.Kept p x.owner x.before)) (Some (changes.Put (record { path = p; file = x })))))
    by true b e e2 = does-nothing files p (Some x) (is ∙ ap (λ (y : File). Some y) (file-same f x e))
    by false true e e2 = does-keep files p f x is ((bytes_eq-Decides f.bytes x.bytes).0 e2)
    by false false e e2 = does-put files p x

-- changes on paths, each once

abbrev Once : List (List ℕ) → Type 0
Once [] = Unit {0}
Once (p ∷ ps) = ((q : List ℕ) → list_any (is_at q) ps ≡ true → is_at q p ≡ false) × Once ps

after-one : (files later : Files) (o : Option FileChange) (cs : List FileChange) → changed_by files o ≡ Some later → with_changes files (cons_option o cs) ≡ with_changes later cs
after-one files later None cs is = ap (λ (o : Option Files). option_and_then (λ (x : Files). with_changes x cs) o) is
after-one files later (Some c) cs is = ap (λ (o : Option Files). option_and_then (λ (x : Files). with_changes x cs) o) is

record DoesAll (change : List ℕ → Option File → Option File) (ps : List (List ℕ)) (first files : Files) : Type 0 where
  later : Files
  taken : with_changes files (changes_on ps change first) ≡ Some later
  at : (q : List ℕ) → maps.get later q ≡ cond (list_any (is_at q) ps) (change q (maps.get first q)) (maps.get files q)

changes-do : (change : List ℕ → Option File → Option File) (ps : List (List ℕ)) (first files : Files) → Once ps → ((q : List ℕ) → list_any (is_at q) ps ≡ true → maps.get files q ≡ maps.get first q) → DoesAll change ps first files
changes-do change [] first files once same = record { later = files; taken = refl; at = λ q. refl }
changes-do change (p ∷ ps) first files once same =
    let one = change-does files p (maps.get first p) (change p (maps.get first p)) (same p (ap (λ b. b || list_any (is_at p) ps) (is_at-self p))) in
    let rest = changes-do change ps first one.later once.1 (λ q has. one.at q ∙ ap (λ b. cond b (change p (maps.get first p)) (maps.get files q)) (once.0 q has) ∙ same q (or-right (is_at q p) (list_any (is_at q) ps) has)) in
    record {
      later = rest.later;
      taken = after-one files one.later (change_to p (maps.get first p) (change p (maps.get first p))) (changes_on ps change first) one.taken ∙ rest.taken;
      at = λ q. rest.at q ∙ ap (λ (o : Option File). cond (list_any (is_at q) ps) (change q (maps.get first q)) o) (one.at q) ∙ join q (is_at q p) (list_any (is_at q) ps) refl;
    }
  where
    join : (q : List ℕ) (a b : Bool) → is_at q p ≡ a
        → cond b (change q (maps.get first q)) (cond a (change p (maps.get first p)) (maps.get files q)) ≡ cond (a || b) (change q (maps.get first q)) (maps.get files q)
    join q true true e = refl
    join q true false e = ap (λ (x : List ℕ). change x (maps.get first x)) (sym (same-key q p e))
    join q false true e = refl
    join q false false e = refl

-- the sorted paths are different

not-first : (x : List ℕ) (es : List (List ℕ × Unit {0})) → below_all (slice_cmp nat_cmp) x es ≡ true → (q : List ℕ) → list_any (is_at q) (map (λ e. e.0) es) ≡ true → is_at q x ≡ false
not-first x [] s q has = absurd (false≢true has)
not-first x (e ∷ es) s q has = by (is_at q e.0) refl has (not-first x es two.1 q)
  where
    two : (is_lt (slice_cmp nat_cmp x e.0) ≡ true) × (below_all (slice_cmp nat_cmp) x es ≡ true)
    two = and_parts (is_lt (slice_cmp nat_cmp x e.0)) (below_all (slice_cmp nat_cmp) x es) s

    apart : is_at q e.0 ≡ true → (b : Bool) → is_at q x ≡ b → b ≡ false
    apart here true same = absurd (false≢true (
        ap is_lt (sym (tied_itself nat_list_cmp_total x)) ∙ ap (λ (y : List ℕ). is_lt (slice_cmp nat_cmp x y)) (sym (same-key q x same) ∙ same-key q e.0 here) ∙ two.0))
    apart here false same = refl

    by : (b : Bool) → is_at q e.0 ≡ b → (b || list_any (is_at q) (map (λ y. y.0) es)) ≡ true → (list_any (is_at q) (map (λ y. y.0) es) ≡ true → is_at q x ≡ false) → is_at q x ≡ false
    by true here any rest = apart here (is_at q x) refl
    by false here any rest = rest any

once-sorted : (es : List (List ℕ × Unit {0})) → maps.is_sorted (slice_cmp nat_cmp) es ≡ true → Once (map (λ e. e.0) es)
once-sorted [] s = tt
once-sorted (e ∷ es) s =
    let two = and_parts (below_all (slice_cmp nat_cmp) e.0 es) (maps.is_sorted (slice_cmp nat_cmp) es) s in
    (not-first e.0 es two.0, once-sorted es two.1)

truth : (b : Bool) → T b → b ≡ true
truth true t = refl
truth false t = absurd t

-- a file on another path stays
off : (m : Moved) (k : Kept) (q : List ℕ) (f : Option File) → has_path m q ≡ false → file_after m (copies_after m k) q f ≡ f
off m k q f e = by (on m.gives q) (on m.takes q) (sym (path-on m q) ∙ e)
  where
    by : (g t : Option LinkRow) → (is_some g || is_some t) ≡ false → by_links m.fill (copies_after m k) g t f ≡ f
    by None None n = refl
    by None (Some t) n = absurd (false≢true (sym n))
    by (Some g) t n = absurd (false≢true (sym n))

-- THE BATCH
pub settles : (m : Moved) (k : Kept) → ((p : List ℕ) → maps.get (settle_one m k).files p ≡ file_after m (settle_one m k).copies p (maps.get k.files p)) → with_changes k.files (batch_changes m k) ≡ Some (settle_one m k).files
unfolding settle_one
settles m k law =
    let es = maps.entries (path_set (paths_of m)) in
    let all = changes-do (file_after m (copies_after m k)) (sorted_paths m) k.files k.files (once-sorted es (truth (maps.is_sorted (slice_cmp nat_cmp) es) (maps.entries_sorted (path_set (paths_of m))))) (λ q has. refl) in
    all.taken ∙ ap (λ (x : Files). Some x) (maps.same_map nat_list_cmp_total only_same all.later (settle_one m k).files (λ q.
    all.at q ∙ ap (λ b. cond b (file_after m (copies_after m k) q (maps.get k.files q)) (maps.get k.files q)) (has-sorted m q) ∙ by q (has_path m q) refl ∙ sym (law q)))
  where
    by : (q : List ℕ) (b : Bool) → has_path m q ≡ b → cond b (file_after m (copies_after m k) q (maps.get k.files q)) (maps.get k.files q) ≡ file_after m (copies_after m k) q (maps.get k.files q)
    by q true e = refl
    by q false e = sym (off m k q (maps.get k.files q) e)
