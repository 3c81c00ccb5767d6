-- Entries in any order, and the files that they are.
use Rattle.std.proofs.Common.{◌≡◌, ℕ, ◌+◌, Bool, true, false, cond, List, [], ◌∷◌, length, is_some, refl, sym, ap, subst, ◌∙◌, arith, Option, Some, None, nat_eq}
use Rattle.std.specs.Cmp.Lexicographic.{slice_cmp, pointwise, nat_list_cmp_total, nat_list_eq_equiv, texts_ties, bytes_decides}
use Rattle.std.specs.FinMap as files
use Rattle.std.specs.List.{IsDistinct, AllByRecursion}
use Rattle.std.specs.Map.{lookup, keys_of}
use Rattle.std.specs.Ordering.{nat_cmp, eq_by_cmp}
use Rattle.std.specs.Option.{option_map}
use Rattle.dl_base.specs.declared.file.File.{File}
use Rattle.dl_base.specs.declared.file.Owner.{Owner}
use Rattle.meaning_files.specs.Files.{Files, with_owner}

-- the files of some entries
abbrev pub files_of : List (List ℕ × File) → Files
files_of es = files.from_entries es

pub only_same : files.IsAntisymmetric (slice_cmp nat_cmp)
only_same = files.slice_cmp-IsAntisymmetric files.nat_cmp-IsAntisymmetric

pub found : (q : List ℕ) (es : List (List ℕ × File)) → files.find (slice_cmp nat_cmp) q es ≡ lookup (pointwise nat_eq q) es
found q [] = refl
found q (e ∷ es) = λ i. cond (sym (texts_ties q e.0) i) (Some e.1) (found q es i)

-- what a look-up by equal bytes finds
pub get-files_of : (es : List (List ℕ × File)) (q : List ℕ) → files.get (files_of es) q ≡ lookup (pointwise nat_eq q) es
get-files_of es q = files.get-from_entries nat_list_cmp_total es q ∙ found q es

-- the order of the entries is of no matter
pub files_of_reordered : (old new : List (List ℕ × File)) → ((q : List ℕ) → lookup (pointwise nat_eq q) new ≡ lookup (pointwise nat_eq q) old) → files_of new ≡ files_of old
files_of_reordered old new same = files.same_map nat_list_cmp_total only_same _ _ (λ q. get-files_of new q ∙ same q ∙ sym (get-files_of old q))

turned : (k q : List ℕ) → pointwise nat_eq k q ≡ eq_by_cmp (slice_cmp nat_cmp) q k
turned k q = nat_list_eq_equiv.symm k q ∙ texts_ties q k

pub files_of_put : (old new : List (List ℕ × File)) (k : List ℕ) (v : File)
    → ((q : List ℕ) → lookup (pointwise nat_eq q) new ≡ cond (pointwise nat_eq k q) (Some v) (lookup (pointwise nat_eq q) old))
    → files_of new ≡ files.insert (files_of old) k v
files_of_put old new k v updates = files.same_map nat_list_cmp_total only_same _ _ (λ q.
    get-files_of new q ∙ updates q ∙ (λ i. cond (turned k q i) (Some v) (sym (get-files_of old q) i))
    ∙ sym (files.get-insert nat_list_cmp_total (files_of old) k v q))

pub files_of_removed : (old new : List (List ℕ × File)) (k : List ℕ)
    → ((q : List ℕ) → lookup (pointwise nat_eq q) new ≡ cond (pointwise nat_eq k q) None (lookup (pointwise nat_eq q) old))
    → files_of new ≡ files.remove (files_of old) k
files_of_removed old new k updates = files.same_map nat_list_cmp_total only_same _ _ (λ q.
    get-files_of new q ∙ updates q ∙ (λ i. cond (turned k q i) None (sym (get-files_of old q) i))
    ∙ sym (files.get-remove nat_list_cmp_total (files_of old) k q))

module _ (old new : List (List ℕ × File)) (k : List ℕ) (others : (q : List ℕ) → pointwise nat_eq k q ≡ false → lookup (pointwise nat_eq q) new ≡ lookup (pointwise nat_eq q) old) where
  -- a key with a new file, where the other keys keep theirs
  pub files_of_renewed : (v : File) → lookup (pointwise nat_eq k) new ≡ Some v → files_of new ≡ files.insert (files_of old) k v
  files_of_renewed v here = files_of_put old new k v (λ q. by q (pointwise nat_eq k q) refl)
    where
      by : (q : List ℕ) (b : Bool) → pointwise nat_eq k q ≡ b → lookup (pointwise nat_eq q) new ≡ cond b (Some v) (lookup (pointwise nat_eq q) old)
      by q true same = subst (λ (x : List ℕ). lookup (pointwise nat_eq x) new ≡ Some v) ((bytes_decides k q).0 same) here
      by q false other = others q other

  -- a key that has no file before or after
  pub files_of_same : lookup (pointwise nat_eq k) new ≡ None → lookup (pointwise nat_eq k) old ≡ None → files_of new ≡ files_of old
  files_of_same none was = files_of_reordered old new (λ q. by q (pointwise nat_eq k q) refl)
    where
      by : (q : List ℕ) (b : Bool) → pointwise nat_eq k q ≡ b → lookup (pointwise nat_eq q) new ≡ lookup (pointwise nat_eq q) old
      by q true same = subst (λ (x : List ℕ). lookup (pointwise nat_eq x) new ≡ lookup (pointwise nat_eq x) old) ((bytes_decides k q).0 same) (none ∙ sym was)
      by q false other = others q other

  -- new owners for the file at the key, if there is one
  pub files_of_with_owner : (owner : Owner) (before : Option Owner) (at : Option File) → at ≡ lookup (pointwise nat_eq k) old
      → lookup (pointwise nat_eq k) new ≡ option_map (λ (f : File). record { owner = owner; bytes = f.bytes; before = before }) at
      → files_of new ≡ with_owner (files_of old) k owner before at
  files_of_with_owner owner before None was now = files_of_same now (sym was)
  files_of_with_owner owner before (Some f) was now = files_of_renewed (record { owner = owner; bytes = f.bytes; before = before }) now

-- a key that no entry has is not found
missed : (k : List ℕ) (es : List (List ℕ × File)) → AllByRecursion (λ y. pointwise nat_eq k y ≡ false) (keys_of es) → lookup (pointwise nat_eq k) es ≡ None
missed k [] all = refl
missed k (e ∷ es) all = λ i. cond (all.0 i) (Some e.1) (missed k es all.1 i)

pub len-files_of : (es : List (List ℕ × File)) → IsDistinct (pointwise nat_eq) (keys_of es) → files.len (files_of es) ≡ length es
unfolding IsDistinct
len-files_of [] distinct = files.len-empty (slice_cmp nat_cmp) File
len-files_of (e ∷ es) distinct =
    files.len-insert nat_list_cmp_total (files_of es) e.0 e.1
    ∙ (λ i. cond (is_some ((get-files_of es e.0 ∙ missed e.0 es distinct.0) i)) (files.len (files_of es)) (files.len (files_of es) + 1))
    ∙ ap (λ (n : ℕ). n + 1) (len-files_of es distinct.1) ∙ omega arith
