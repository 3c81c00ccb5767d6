-- Entries in any order, and the copies that they are.
use Rattle.std.proofs.Common.{◌≡◌, ◌&&◌, ℕ, Bool, true, false, cond, List, [], ◌∷◌, ◌++◌, nat_eq, get_or, bytes_eq, is_none, is_some, not, refl, sym, ap, subst, ◌∙◌, Option, Some, None, IfSome}
use Rattle.std.proofs.lemmas.List.{map-append}
use Rattle.std.proofs.lemmas.Slice.Eq.{bytes_eq-Decides}
use Rattle.std.specs.Cmp.Lexicographic.{bytes_decides, nat_list_cmp_total, nat_list_eq_equiv, pointwise, slice_cmp, texts_ties}
use Rattle.std.specs.FinMap as maps
use Rattle.std.specs.Map.{lookup}
use Rattle.std.specs.Option.{option_map}
use Rattle.std.specs.Ordering.{eq_by_cmp, nat_cmp}
use Rattle.dl_codec.specs.declared.archive.ArchiveRecord.TheVariants as archived
use Rattle.dl_codec.specs.declared.archive.FileCopy.{FileCopy}
use Rattle.fm_archive.specs.Copies.{AreFiled, can_take, code, copies_in, entries_of, file_copy, key_of, link_of, same}
use Rattle.fm_archive.specs.declared.copies.Key.{Key}
use Rattle.meaning_areas.specs.Copies.{copies_on, copies_step, copy_of}
use Rattle.meaning_settling.specs.Settling.{Copies, Copy, link_key}
use Rattle.sha2.specs.Sha256.{sha256}

and-true : (b : Bool) → (b && true) ≡ b
and-true true = refl
and-true false = refl

and-false : (b : Bool) → (b && false) ≡ false
and-false true = refl
and-false false = refl

pub coded-same : (a b : Key) → pointwise nat_eq (code a) (code b) ≡ same a b
coded-same a b = ap (λ x. nat_eq a.tx b.tx && x) (and-true (nat_eq a.k b.k))

same-key : (a b : Key) → same a b ≡ true → a ≡ b
same-key a b e =
    let is = (bytes_decides (code a) (code b)).0 (coded-same a b ∙ e) in
    λ i. record { tx = get_or (is i) 0 0; k = get_or (is i) 1 0 }

only_same : maps.IsAntisymmetric (slice_cmp nat_cmp)
only_same = maps.slice_cmp-IsAntisymmetric maps.nat_cmp-IsAntisymmetric

found : (q : Key) (es : List (Key × FileCopy)) → maps.find (slice_cmp nat_cmp) (code q) (entries_of es) ≡ option_map copy_of (lookup (same q) es)
found q [] = refl
found q (e ∷ es) =
    (λ i. cond ((sym (texts_ties (code q) (code e.0)) ∙ coded-same q e.0) i) (Some (copy_of e.1)) (found q es i))
    ∙ by (same q e.0)
  where
    by : (b : Bool) → cond b (Some (copy_of e.1)) (option_map copy_of (lookup (same q) es)) ≡ option_map copy_of (cond b (Some e.1) (lookup (same q) es))
    by true = refl
    by false = refl

-- what a look-up by equal keys finds
pub get-copies_in : (es : List (Key × FileCopy)) (q : Key) → maps.get (copies_in es) (code q) ≡ option_map copy_of (lookup (same q) es)
get-copies_in es q = maps.get-from_entries nat_list_cmp_total (entries_of es) (code q) ∙ found q es

-- a list of numbers that is the code of no key is found in no copies
missed : (q : List ℕ) → ((x : Key) → pointwise nat_eq q (code x) ≡ false) → (es : List (Key × FileCopy)) → maps.find (slice_cmp nat_cmp) q (entries_of es) ≡ None
missed q none [] = refl
missed q none (e ∷ es) = λ i. cond ((sym (texts_ties q (code e.0)) ∙ none e.0) i) (Some (copy_of e.1)) (missed q none es i)

get-none : (q : List ℕ) → ((x : Key) → pointwise nat_eq q (code x) ≡ false) → (es : List (Key × FileCopy)) → maps.get (copies_in es) q ≡ None
get-none q none es = maps.get-from_entries nat_list_cmp_total (entries_of es) q ∙ missed q none es

-- what holds of the codes of keys and of all lists that are none
by_code : (P : List ℕ → Type 0) → ((x : Key) → P (code x)) → ((q : List ℕ) → ((x : Key) → pointwise nat_eq q (code x) ≡ false) → P q) → (q : List ℕ) → P q
by_code P coded other [] = other [] (λ x. refl)
by_code P coded other (a ∷ []) = other (a ∷ []) (λ x. and-false (nat_eq a x.tx))
by_code P coded other (a ∷ b ∷ []) = coded (record { tx = a; k = b })
by_code P coded other (a ∷ b ∷ c ∷ q) = other (a ∷ b ∷ c ∷ q) (λ x. ap (λ y. nat_eq a x.tx && y) (and-false (nat_eq b x.k)) ∙ and-false (nat_eq a x.tx))

-- the same entries in another order
module _ (old new : List (Key × FileCopy)) (is : (q : Key) → lookup (same q) new ≡ lookup (same q) old) where
  pub copies_reordered : copies_in new ≡ copies_in old
  copies_reordered = maps.same_map nat_list_cmp_total only_same _ _ (by_code (λ q. maps.get (copies_in new) q ≡ maps.get (copies_in old) q)
      (λ q. get-copies_in new q ∙ ap (λ o. option_map copy_of o) (is q) ∙ sym (get-copies_in old q))
      (λ q none. get-none q none new ∙ sym (get-none q none old)))

  pub filed_reordered : AreFiled old → AreFiled new
  filed_reordered filed q = subst (λ (o : Option FileCopy). IfSome o (λ c. c ≡ file_copy (link_of q) (copy_of c))) (sym (is q)) (filed q)

-- what is found among entries that are filed
pub got : (es : List (Key × FileCopy)) (q : Key) → AreFiled es → lookup (same q) es ≡ option_map (file_copy (link_of q)) (maps.get (copies_in es) (code q))
got es q filed = by (lookup (same q) es) (filed q) ∙ ap (λ o. option_map (file_copy (link_of q)) o) (sym (get-copies_in es q))
  where
    by : (o : Option FileCopy) → IfSome o (λ c. c ≡ file_copy (link_of q) (copy_of c)) → o ≡ option_map (file_copy (link_of q)) (option_map copy_of o)
    by None is = refl
    by (Some v) is = ap (λ c. Some c) is

-- one more entry, of a new key
pub copies_push : (es : List (Key × FileCopy)) (q : Key) (v : FileCopy) → lookup (same q) es ≡ None → copies_in (es ++ (q, v) ∷ []) ≡ maps.insert (copies_in es) (code q) (copy_of v)
copies_push es q v none =
    ap (λ (xs : List (List ℕ × Copy)). maps.from_entries {R = slice_cmp nat_cmp} xs) (map-append (λ e. (code e.0, copy_of e.1)) es ((q, v) ∷ []))
    ∙ maps.from_entries_push nat_list_cmp_total only_same (entries_of es) (code q) (copy_of v) (found q es ∙ ap (λ o. option_map copy_of o) none)

-- what a look-up says of a map
pub some-there : (es : List (Key × FileCopy)) (q : Key) → is_some (lookup (same q) es) ≡ is_some (maps.get (copies_in es) (code q))
some-there es q = by (lookup (same q) es) ∙ ap is_some (sym (get-copies_in es q))
  where
    by : (o : Option FileCopy) → is_some o ≡ is_some (option_map copy_of o)
    by None = refl
    by (Some v) = refl

pub not_some : {A : Type 0} (o : Option A) → not (is_some o) ≡ is_none o
not_some None = refl
not_some (Some x) = refl

-- the copy with its digest, under its key
pub filed : (q : Key) (v : FileCopy) → q ≡ record { tx = v.link.tx; k = v.link.k } → v.digest ≡ sha256 v.bytes → v ≡ file_copy (link_of q) (copy_of v)
filed q v key digest =
    let whole : v ≡ file_copy v.link (copy_of v) = λ i. record { link = v.link; owner = v.owner; digest = digest i; bytes = v.bytes } in
    whole ∙ ap (λ (k : Key). file_copy (link_of k) (copy_of v)) (sym key)

-- what the fold asks of a copy
pub can_take-parts : (copies : Copies) (c : FileCopy) → can_take copies c ≡ true → (maps.get copies (link_key c.link) ≡ None) × (c.digest ≡ sha256 c.bytes)
can_take-parts copies c e = by (maps.get copies (link_key c.link)) e
  where
    by : (o : Option Copy) → (is_none o && bytes_eq c.digest (sha256 c.bytes)) ≡ true → (o ≡ None) × (c.digest ≡ sha256 c.bytes)
    by None e = (refl, (bytes_eq-Decides c.digest (sha256 c.bytes)).0 e)
    by (Some earlier) e = absurd cc

-- A COPY under the key of its link
module _ (old new : List (Key × FileCopy)) (k : Key) (v : FileCopy) (key : k ≡ key_of v.link) (updates : (q : Key) → lookup (same q) new ≡ cond (same k q) (Some v) (lookup (same q) old)) where
  copies_put : copies_in new ≡ maps.insert (copies_in old) (code k) (copy_of v)
  copies_put = maps.same_map nat_list_cmp_total only_same _ _ (by_code (λ q. maps.get (copies_in new) q ≡ maps.get (maps.insert (copies_in old) (code k) (copy_of v)) q) coded other)
    where
      turned : (q : Key) → same k q ≡ eq_by_cmp (slice_cmp nat_cmp) (code q) (code k)
      turned q = sym (coded-same k q) ∙ nat_list_eq_equiv.symm (code k) (code q) ∙ texts_ties (code q) (code k)

      by : (b : Bool) (o : Option FileCopy) → option_map copy_of (cond b (Some v) o) ≡ cond b (Some (copy_of v)) (option_map copy_of o)
      by true o = refl
      by false o = refl

      coded : (q : Key) → maps.get (copies_in new) (code q) ≡ maps.get (maps.insert (copies_in old) (code k) (copy_of v)) (code q)
      coded q =
          get-copies_in new q ∙ ap (λ o. option_map copy_of o) (updates q) ∙ by (same k q) (lookup (same q) old)
          ∙ (λ i. cond (turned q i) (Some (copy_of v)) (sym (get-copies_in old q) i))
          ∙ sym (maps.get-insert nat_list_cmp_total (copies_in old) (code k) (copy_of v) (code q))

      other : (q : List ℕ) → ((x : Key) → pointwise nat_eq q (code x) ≡ false) → maps.get (copies_in new) q ≡ maps.get (maps.insert (copies_in old) (code k) (copy_of v)) q
      other q none =
          get-none q none new
          ∙ sym (maps.get-insert nat_list_cmp_total (copies_in old) (code k) (copy_of v) q
          ∙ (λ i. cond ((sym (texts_ties q (code k)) ∙ none k) i) (Some (copy_of v)) (get-none q none old i)))

  pub put_copies : (copies : Copies) → copies_in old ≡ copies → copies_in new ≡ maps.insert copies (link_key v.link) (copy_of v)
  put_copies copies at = copies_put ∙ (λ i. maps.insert (at i) (code (key i)) (copy_of v))

  pub put_filed : AreFiled old → v.digest ≡ sha256 v.bytes → AreFiled new
  put_filed were digest q = subst (λ (o : Option FileCopy). IfSome o (λ c. c ≡ file_copy (link_of q) (copy_of c))) (sym (updates q)) (by (same k q) refl (were q))
    where
      by : (b : Bool) → same k q ≡ b → IfSome (lookup (same q) old) (λ c. c ≡ file_copy (link_of q) (copy_of c))
          → IfSome (cond b (Some v) (lookup (same q) old)) (λ c. c ≡ file_copy (link_of q) (copy_of c))
      by true is rest = filed k v key digest ∙ ap (λ (x : Key). file_copy (link_of x) (copy_of v)) (same-key k q is)
      by false is rest = rest

-- the fold takes a copy of a link that has none, with its digest
pub step_takes : (copies : Copies) (c : FileCopy) → maps.get copies (link_key c.link) ≡ None → c.digest ≡ sha256 c.bytes → copies_step copies (archived.Copy c) ≡ Some (maps.insert copies (link_key c.link) (copy_of c))
step_takes copies c none digest =
    ap (λ (o : Option Copy). copies_on copies c o) none
    ∙ ap (λ b. cond b (Some (maps.insert copies (link_key c.link) (copy_of c))) None) ((bytes_eq-Decides c.digest (sha256 c.bytes)).1 digest)
