-- The record of the files does what settling does.
use Rattle.std.proofs.Common.{◌≡◌, ⊎_elim, ℕ, List, [], ◌∷◌, Bool, true, false, cond, ◌&&◌, ◌||◌, bytes_eq, map, Option, Some, None, is_some, refl, sym, ◌∙◌, ap}
use Rattle.std.specs.List.{list_any}
use Rattle.std.specs.FinMap as maps
use Rattle.std.specs.FinMap.Entries.{below_all}
use Rattle.std.specs.FinMap.{is_sorted, entries_sorted, contains_key-keys, get-insert, get-empty}
use Rattle.std.specs.Cmp.{tied_itself}
use Rattle.std.specs.Cmp.Lexicographic.{slice_cmp, nat_list_cmp_total}
use Rattle.std.specs.Prelude.{T}
use Rattle.std.specs.Option.{option_and_then}
use Rattle.std.specs.Ordering.{nat_cmp, is_lt}
use Rattle.std.proofs.lemmas.Slice.Eq.{bytes_eq-Decides}
use Rattle.dl_base.specs.declared.file.File.{File}
use Rattle.dl_base.specs.declared.file.FileChange.{FileChange}
use Rattle.dl_base.specs.declared.file.FileChange.TheVariants as changes
use Rattle.dl_base.specs.declared.file.Owner.{Owner}
use Rattle.meaning_files.specs.Files.{Files, with_owner, if_there, with_change, with_changes}
use Rattle.meaning_settling.specs.Apart.{has_path}
use Rattle.meaning_settling.specs.Keyed.{Keyed, is_at, put_at, over}
use Rattle.meaning_settling.specs.Settling.{Moved, Kept, paths_of, file_after, copies_after, settle_one}
use Rattle.meaning_settling.proofs.KeyedLaws.{either, is_at-same, is_at-self, get-put, same_keyed, get-over}
use Rattle.meaning_settling.proofs.PartLaws.{get-files}
use Rattle.meaning_settling.proofs.SettlingLaws.{file-again, file-off}
use Rattle.meaning_areas.specs.Same.{same_truth, same_owner, same_before, same_file}
use Rattle.meaning_areas.specs.Finishing.{change_to, path_set, sorted_paths, changes_on, batch_changes}
use Rattle.meaning_areas.proofs.Tables.{some_same}

false_true : false ≡ true → ⊥
false_true e = cc

both : (a b : Bool) → (a && b) ≡ true → (a ≡ true) × (b ≡ true)
both true b e = (refl, e)
both false b e = absurd (false_true e)

truth-same : (a b : Bool) → same_truth a b ≡ true → a ≡ b
truth-same true true e = refl
truth-same true false e = absurd (false_true e)
truth-same false true e = absurd (false_true e)
truth-same false false e = refl

pub owner-same : (a b : Owner) → same_owner a b ≡ true → a ≡ b
owner-same a b e =
    let two = both (bytes_eq a.name b.name) (same_truth a.writable b.writable) e in
    λ i. record { name = (bytes_eq-Decides a.name b.name).0 two.0 i; writable = truth-same a.writable b.writable two.1 i }

before-same : (a b : Option Owner) → same_before a b ≡ true → a ≡ b
before-same None None e = refl
before-same (Some a) (Some b) e = ap (λ (x : Owner). Some x) (owner-same a b e)
before-same None (Some b) e = absurd (false_true e)
before-same (Some a) None e = absurd (false_true e)

pub file-same : (a b : File) → same_file a b ≡ true → a ≡ b
file-same a b e =
    let first = both (same_owner a.owner b.owner && bytes_eq a.bytes b.bytes) (same_before a.before b.before) e in
    let second = both (same_owner a.owner b.owner) (bytes_eq a.bytes b.bytes) first.0 in
    λ i. record { owner = owner-same a.owner b.owner second.0 i; bytes = (bytes_eq-Decides a.bytes b.bytes).0 second.1 i; before = before-same a.before b.before first.1 i }

-- what is put where it is already
pub put-there : {X : Type 0} (m : Keyed X) (p : List ℕ) (o : Option X) → maps.get m p ≡ o → put_at m p o ≡ m
put-there {X} m p o is = same_keyed (put_at m p o) m (λ q. get-put m p q o ∙ ⊎_elim
    (λ (here : is_at q p ≡ true). ap (λ b. cond b o (maps.get m q)) here ∙ sym is ∙ ap (maps.get m) (sym (is_at-same q p here)))
    (λ (there : is_at q p ≡ false). ap (λ b. cond b o (maps.get m q)) there)
    (either (is_at q p)))

-- one change
abbrev changed_by : Files → Option FileChange → Option Files
changed_by files None = Some files
changed_by files (Some c) = with_change files c

change-does : (files : Files) (p : List ℕ) (a b : Option File) → maps.get files p ≡ a → changed_by files (change_to p a b) ≡ Some (put_at files p b)
change-does files p None None is = ap (λ (x : Files). Some x) (sym (put-there files p None is))
change-does files p None (Some after) is = refl
change-does files p (Some before) None is = ap (λ (o : Option File). if_there o (maps.remove files p)) is
change-does files p (Some before) (Some after) is = by (same_file before after) refl
  where
    kept : bytes_eq before.bytes after.bytes ≡ true → with_change files (changes.Kept p after.owner after.before) ≡ Some (maps.insert files p after)
    kept e =
        ap (λ (o : Option File). if_there o (with_owner files p after.owner after.before o)) is
        ∙ ap (λ (bytes : List ℕ). Some (maps.insert files p (record { owner = after.owner; bytes = bytes; before = after.before }))) ((bytes_eq-Decides before.bytes after.bytes).0 e)

    by_bytes : (b : Bool) → bytes_eq before.bytes after.bytes ≡ b → changed_by files (cond b (Some (changes.Kept p after.owner after.before)) (Some (changes.Put (record { path = p; file = after })))) ≡ Some (maps.insert files p after)
    by_bytes true e = kept e
    by_bytes false e = refl

    by : (b : Bool) → same_file before after ≡ b → changed_by files (cond b None (cond (bytes_eq before.bytes after.bytes) (Some (changes.Kept p after.owner after.before)) (Some (changes.Put (record { path = p; file = after }))))) ≡ Some (put_at files p (Some after))
    by true e = ap (λ (x : Files). Some x) (sym (put-there files p (Some after) (is ∙ ap (λ (x : File). Some x) (file-same before after e))))
    by false e = by_bytes (bytes_eq before.bytes after.bytes) refl

-- each path once
abbrev Once : List (List ℕ) → Type 0
Once [] = Unit {0}
Once (p ∷ ps) = ((q : List ℕ) → list_any (is_at q) ps ≡ true → is_at q p ≡ false) × Once ps

step-does : (files : Files) (o : Option FileChange) (cs : List FileChange) (later : Files) → changed_by files o ≡ Some later → with_changes files (Rattle.std.specs.List.cons_option o cs) ≡ with_changes later cs
step-does files None cs later is = ap (λ (x : Files). with_changes x cs) (some_same files later is)
step-does files (Some c) cs later is = ap (λ (o : Option Files). option_and_then (λ (x : Files). with_changes x cs) o) is

changes-do : (change : List ℕ → Option File → Option File) (ps : List (List ℕ)) (first files : Files) → Once ps → ((q : List ℕ) → list_any (is_at q) ps ≡ true → maps.get files q ≡ maps.get first q)
    → with_changes files (changes_on ps change first) ≡ Some (over ps change files)
changes-do change [] first files once same = refl
changes-do change (p ∷ ps) first files once same =
    let at_p : maps.get files p ≡ maps.get first p = same p (ap (λ b. b || list_any (is_at p) ps) (is_at-self p)) in
    step-does files (change_to p (maps.get first p) (change p (maps.get first p))) (changes_on ps change first) (put_at files p (change p (maps.get first p))) (change-does files p (maps.get first p) (change p (maps.get first p)) at_p)
    ∙ changes-do change ps first (put_at files p (change p (maps.get first p))) once.1 (λ q has.
    get-put files p q (change p (maps.get first p)) ∙ ap (λ b. cond b (change p (maps.get first p)) (maps.get files q)) (once.0 q has) ∙ same q (right (is_at q p) has))
    ∙ ap (λ (o : Option File). Some (over ps change (put_at files p (change p o)))) (sym at_p)
  where
    right : (a : Bool) {b : Bool} → b ≡ true → (a || b) ≡ true
    right true e = refl
    right false e = e

-- the sorted paths
above : (x : List ℕ) (es : List (List ℕ × Unit {0})) → below_all (slice_cmp nat_cmp) x es ≡ true → (q : List ℕ) → list_any (is_at q) (map (λ e. e.0) es) ≡ true → is_at q x ≡ false
above x [] s q has = absurd (false_true has)
above x (e ∷ es) s q has = ⊎_elim
    (λ (here : is_at q e.0 ≡ true). ⊎_elim
    (λ (same : is_at q x ≡ true). absurd (false_true (sym (ap (λ (y : List ℕ). is_lt (slice_cmp nat_cmp x y)) (sym (is_at-same q e.0 here) ∙ is_at-same q x same) ∙ ap is_lt (tied_itself nat_list_cmp_total x)) ∙ (both (is_lt (slice_cmp nat_cmp x e.0)) (below_all (slice_cmp nat_cmp) x es) s).0)))
    (λ (other : is_at q x ≡ false). other)
    (either (is_at q x)))
    (λ (there : is_at q e.0 ≡ false). above x es (both (is_lt (slice_cmp nat_cmp x e.0)) (below_all (slice_cmp nat_cmp) x es) s).1 q (sym (ap (λ b. b || list_any (is_at q) (map (λ y. y.0) es)) there) ∙ has))
    (either (is_at q e.0))

once-sorted : (es : List (List ℕ × Unit {0})) → is_sorted (slice_cmp nat_cmp) es ≡ true → Once (map (λ e. e.0) es)
once-sorted [] s = tt
once-sorted (e ∷ es) s =
    let two = both (below_all (slice_cmp nat_cmp) e.0 es) (is_sorted (slice_cmp nat_cmp) es) s in
    (above e.0 es two.0, once-sorted es two.1)

truth : (b : Bool) → T b → b ≡ true
truth true t = refl
truth false t = absurd t

get-path_set : (ps : List (List ℕ)) (q : List ℕ) → is_some (maps.get (path_set ps) q) ≡ list_any (is_at q) ps
get-path_set [] q = ap is_some (get-empty (slice_cmp nat_cmp) q)
get-path_set (p ∷ ps) q = ap is_some (get-insert nat_list_cmp_total (path_set ps) p tt q) ∙ by (is_at q p) (get-path_set ps q)
  where
    by : (b : Bool) → is_some (maps.get (path_set ps) q) ≡ list_any (is_at q) ps → is_some (cond b (Some tt) (maps.get (path_set ps) q)) ≡ (b || list_any (is_at q) ps)
    by true e = refl
    by false e = e

has-sorted : (m : Moved) (q : List ℕ) → list_any (is_at q) (sorted_paths m) ≡ has_path m q
has-sorted m q = sym (contains_key-keys (path_set (paths_of m)) q) ∙ get-path_set (paths_of m) q

-- THE LAW OF THE BATCH
pub batch-does : (m : Moved) (k : Kept) → with_changes k.files (batch_changes m k) ≡ Some (settle_one m k).files
batch-does m k =
    changes-do (file_after m (copies_after m k)) (sorted_paths m) k.files k.files (once-sorted (maps.entries (path_set (paths_of m))) (truth (is_sorted (slice_cmp nat_cmp) (maps.entries (path_set (paths_of m)))) (entries_sorted (path_set (paths_of m))))) (λ q has. refl)
    ∙ ap (λ (x : Files). Some x) (same_keyed _ _ (λ q.
    get-over (file_after m (copies_after m k)) (file-again m (copies_after m k)) (sorted_paths m) k.files q (λ e o. file-off m (copies_after m k) q o (sym (has-sorted m q) ∙ e))
    ∙ sym (get-files m k q)))
