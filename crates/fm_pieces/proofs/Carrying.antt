-- The pieces of a Finish over other files and copies: where each path is changed alike, and no copy is gone, they are its pieces still,
-- without the copies that are stored by now.
use Rattle.std.proofs.Common.{◌≡◌, ◌⊎◌, inl, inr, ⊎_elim, ℕ, Bool, true, false, cond, List, [], ◌∷◌, filter, map, Option, Some, None, is_none, is_some, refl, sym, ap, ◌∙◌}
use Rattle.std.specs.FinMap as maps
use Rattle.std.specs.List.{cons_option, filter_map, list_any}
use Rattle.dl_base.specs.declared.file.File.{File}
use Rattle.dl_base.specs.declared.file.FileChange.{FileChange}
use Rattle.dl_base.specs.declared.value.LinkNo.{LinkNo}
use Rattle.dl_base.specs.declared.value.LinkRow.{LinkRow}
use Rattle.dl_codec.specs.declared.archive.ArchiveRecord.TheVariants as archive_records
use Rattle.dl_codec.specs.declared.archive.FileCopy.{FileCopy}
use Rattle.fm_effects.proofs.SortedSites.{has-sorted}
use Rattle.fm_manager.specs.Pieces.{AreOf, Pieces}
use Rattle.fm_pieces.specs.Keeping.{left_of}
use Rattle.meaning_areas.specs.Finishing.{batch_changes, change_to, copy_by, copy_records, file_copy, sorted_paths}
use Rattle.meaning_areas.specs.Lists.{Written, in_archive}
use Rattle.meaning_areas.proofs.Tables.{some_same}
use Rattle.meaning_merge.specs.Touching.{In}
use Rattle.meaning_settling.specs.Apart.{has_path}
use Rattle.meaning_settling.specs.Keyed.{is_at}
use Rattle.meaning_settling.specs.Settling.{Copies, Copy, Kept, Moved, by_links, copies_after, file_after, link_key, on}
use Rattle.meaning_settling.proofs.KeyedLaws.{is_at-self, or-left, or-right}
use Rattle.meaning_system.specs.State.{Txn, moved_of}

false_true : false ≡ true → ⊥
false_true e = cc

-- COPIES

abbrev pub written : FileCopy → Written
written c = in_archive (archive_records.Copy c)

-- whether a copy is not stored yet
abbrev absent : Copies → FileCopy → Bool
absent copies c = is_none (maps.get copies (link_key c.link))

same-copy : (a b : FileCopy) → in_archive (archive_records.Copy a) ≡ in_archive (archive_records.Copy b) → a ≡ b
same-copy a b e = cc

pub cons-head : {A : Type 0} (x y : A) (xs ys : List A) → x ∷ xs ≡ y ∷ ys → x ≡ y
cons-head x y xs ys e = cc

pub cons-tail : {A : Type 0} (x y : A) (xs ys : List A) → x ∷ xs ≡ y ∷ ys → xs ≡ ys
cons-tail x y xs ys e = cc

-- the copy of a link has its number
number-of : (g : LinkRow) (c : FileCopy) (o : Option Copy) (f : Option File) → copy_by g o f ≡ Some (in_archive (archive_records.Copy c)) → c.link ≡ g.link
number-of g c (Some x) f e = absurd cc
number-of g c None None e = absurd cc
number-of g c None (Some f) e = by g.options.recovery e
  where
    by : (b : Bool) → cond b (Some (in_archive (archive_records.Copy (file_copy g f)))) None ≡ Some (in_archive (archive_records.Copy c)) → c.link ≡ g.link
    by true is = sym (ap (λ (x : FileCopy). x.link) (same-copy (file_copy g f) c (some_same _ _ is)))
    by false is = absurd cc

-- what is not stored later, of what was not stored before
module _ (a b : Copies) (fewer : (n : List ℕ) → is_none (maps.get b n) ≡ true → is_none (maps.get a n) ≡ true) where
  twice : (cs : List FileCopy) → filter (absent b) cs ≡ filter (absent b) (filter (absent a) cs)
  twice [] = refl
  twice (c ∷ cs) = by (absent b c) (absent a c) refl refl (twice cs)
    where
      by : (y x : Bool) → absent b c ≡ y → absent a c ≡ x → filter (absent b) cs ≡ filter (absent b) (filter (absent a) cs)
          → cond y (c ∷ filter (absent b) cs) (filter (absent b) cs) ≡ filter (absent b) (cond x (c ∷ filter (absent a) cs) (filter (absent a) cs))
      by true true e h rest = ap (λ (l : List FileCopy). c ∷ l) rest ∙ sym (ap (λ t. cond t (c ∷ filter (absent b) (filter (absent a) cs)) (filter (absent b) (filter (absent a) cs))) e)
      by false true e h rest = rest ∙ sym (ap (λ t. cond t (c ∷ filter (absent b) (filter (absent a) cs)) (filter (absent b) (filter (absent a) cs))) e)
      by true false e h rest = absurd (false_true (sym h ∙ fewer (link_key c.link) e))
      by false false e h rest = rest

module _ (m : Moved) (k l : Kept) (more : (n : List ℕ) → (maps.get l.copies n ≡ maps.get k.copies n) ⊎ (is_some (maps.get l.copies n) ≡ true)) where
  fewer-absent : (n : List ℕ) → is_none (maps.get l.copies n) ≡ true → is_none (maps.get k.copies n) ≡ true
  fewer-absent n e = ⊎_elim
      (λ (same : maps.get l.copies n ≡ maps.get k.copies n). ap is_none (sym same) ∙ e)
      (λ (some : is_some (maps.get l.copies n) ≡ true). absurd (never (maps.get l.copies n) some e))
      (more n)
    where
      never : (o : Option Copy) → is_some o ≡ true → is_none o ≡ true → ⊥
      never None some none = false_true some
      never (Some x) some none = false_true none

  module _ (files : (g : LinkRow) → In g m.gives → g.options.recovery ≡ true → maps.get l.files g.path ≡ maps.get k.files g.path) where
    -- the copy of a link that is given, unless it is stored by now
    copy-now : (g : LinkRow) → In g m.gives
        → copy_by g (maps.get l.copies (link_key g.link)) (maps.get l.files g.path) ≡ cond (is_none (maps.get l.copies (link_key g.link))) (copy_by g (maps.get k.copies (link_key g.link)) (maps.get k.files g.path)) None
    copy-now g is = ⊎_elim
        (λ (same : maps.get l.copies (link_key g.link) ≡ maps.get k.copies (link_key g.link)). alike (maps.get l.copies (link_key g.link)) (maps.get k.copies (link_key g.link)) same)
        (λ (some : is_some (maps.get l.copies (link_key g.link)) ≡ true). stored (maps.get l.copies (link_key g.link)) some)
        (more (link_key g.link))
      where
        stored : (c : Option Copy) → is_some c ≡ true → copy_by g c (maps.get l.files g.path) ≡ cond (is_none c) (copy_by g (maps.get k.copies (link_key g.link)) (maps.get k.files g.path)) None
        stored (Some x) e = refl
        stored None e = absurd (false_true e)

        off : g.options.recovery ≡ false → (o : Option File) → copy_by g None o ≡ None
        off r None = refl
        off r (Some x) = ap (λ b. cond b (Some (in_archive (archive_records.Copy (file_copy g x)))) None) r

        uncopied : (b : Bool) → g.options.recovery ≡ b → copy_by g None (maps.get l.files g.path) ≡ copy_by g None (maps.get k.files g.path)
        uncopied true r = ap (copy_by g None) (files g is r)
        uncopied false r = off r (maps.get l.files g.path) ∙ sym (off r (maps.get k.files g.path))

        alike : (c d : Option Copy) → c ≡ d → copy_by g c (maps.get l.files g.path) ≡ cond (is_none c) (copy_by g d (maps.get k.files g.path)) None
        alike (Some x) d e = refl
        alike None d e = uncopied g.options.recovery refl ∙ ap (λ (c : Option Copy). copy_by g c (maps.get k.files g.path)) e

    -- the copies of some links, as they were and as they are

    abbrev was : List LinkRow → List Written
    was gs = filter_map (λ g. copy_by g (maps.get k.copies (link_key g.link)) (maps.get k.files g.path)) gs

    abbrev now : List LinkRow → List Written
    now gs = filter_map (λ g. copy_by g (maps.get l.copies (link_key g.link)) (maps.get l.files g.path)) gs

    chosen : (gs : List LinkRow) (w : Written) (c : FileCopy) (cs : List FileCopy) → in_archive (archive_records.Copy c) ≡ w → map written (filter (absent l.copies) cs) ≡ now gs
        → (b : Bool) → absent l.copies c ≡ b → map written (filter (absent l.copies) (c ∷ cs)) ≡ cons_option (cond b (Some w) None) (now gs)
    chosen gs w c cs head rest true e = ap (λ b. map written (cond b (c ∷ filter (absent l.copies) cs) (filter (absent l.copies) cs))) e ∙ (λ i. head i ∷ rest i)
    chosen gs w c cs head rest false e = ap (λ b. map written (cond b (c ∷ filter (absent l.copies) cs) (filter (absent l.copies) cs))) e ∙ rest

    pub still-copied : (gs : List LinkRow) (cs : List FileCopy) → ((g : LinkRow) → In g gs → In g m.gives) → map written cs ≡ was gs → map written (filter (absent l.copies) cs) ≡ now gs
    still-copied [] [] within e = refl
    still-copied [] (c ∷ cs) within e = absurd cc
    still-copied (g ∷ gs) cs within e =
        by (copy_by g (maps.get k.copies (link_key g.link)) (maps.get k.files g.path)) refl cs (λ ds h. still-copied gs ds (λ x is. within x (inr is)) h) e
        ∙ sym (ap (λ (o : Option Written). cons_option o (now gs)) (copy-now g (within g (inl refl))))
      where
        nothing : (b : Bool) → now gs ≡ cons_option (cond b None None) (now gs)
        nothing true = refl
        nothing false = refl

        by : (o : Option Written) → copy_by g (maps.get k.copies (link_key g.link)) (maps.get k.files g.path) ≡ o → (cs : List FileCopy)
            → ((ds : List FileCopy) → map written ds ≡ was gs → map written (filter (absent l.copies) ds) ≡ now gs) → map written cs ≡ cons_option o (was gs)
            → map written (filter (absent l.copies) cs) ≡ cons_option (cond (is_none (maps.get l.copies (link_key g.link))) o None) (now gs)
        by None at cs rest e = rest cs e ∙ nothing (is_none (maps.get l.copies (link_key g.link)))
        by (Some w) at [] rest e = absurd cc
        by (Some w) at (c ∷ cs) rest e =
            let head : in_archive (archive_records.Copy c) ≡ w = cons-head (in_archive (archive_records.Copy c)) w (map written cs) (was gs) e in
            let tail : map written cs ≡ was gs = cons-tail (in_archive (archive_records.Copy c)) w (map written cs) (was gs) e in
            let number : c.link ≡ g.link = number-of g c (maps.get k.copies (link_key g.link)) (maps.get k.files g.path) (at ∙ ap (λ (x : Written). Some x) (sym head)) in
            chosen gs w c cs head (rest cs tail) (is_none (maps.get l.copies (link_key g.link))) (ap (λ (n : LinkNo). is_none (maps.get l.copies (link_key n))) number)

    pub copies-carried : (p : Pieces) → map written (left_of k.copies p).copies ≡ copy_records m k → map written (left_of l.copies p).copies ≡ copy_records m l
    copies-carried p e = ap (λ (cs : List FileCopy). map written cs) (twice k.copies l.copies fewer-absent p.copies) ∙ still-copied m.gives (left_of k.copies p).copies (λ g is. is) e

-- CHANGES OF FILES

each-path : {Y : Type 0} (f g : List ℕ → Option Y) (ps : List (List ℕ)) → ((p : List ℕ) → list_any (is_at p) ps ≡ true → f p ≡ g p) → filter_map f ps ≡ filter_map g ps
each-path f g [] same = refl
each-path f g (p ∷ ps) same = λ i. cons_option (same p (or-left (is_at p p) (list_any (is_at p) ps) (is_at-self p)) i)
    (each-path f g ps (λ q has. same q (or-right (is_at q p) (list_any (is_at q) ps) has)) i)

-- what the Finish of a transaction changes on a path
abbrev pub change_on : Txn → Kept → List ℕ → Option FileChange
change_on t k p = change_to p (maps.get k.files p) (file_after (moved_of t) (copies_after (moved_of t) k) p (maps.get k.files p))

changes-carried : (t : Txn) (k l : Kept) → ((p : List ℕ) → has_path (moved_of t) p ≡ true → change_on t k p ≡ change_on t l p) → batch_changes (moved_of t) k ≡ batch_changes (moved_of t) l
changes-carried t k l same = each-path (change_on t k) (change_on t l) (sorted_paths (moved_of t)) (λ p has. same p (sym (has-sorted (moved_of t) p) ∙ has))

-- of a transaction it looks at no copy
unfilled : (t : Txn) (c d : Copies) (p : List ℕ) (f : Option File) → file_after (moved_of t) c p f ≡ file_after (moved_of t) d p f
unfilled t c d p f = by (on (moved_of t).gives p) (on (moved_of t).takes p)
  where
    by : (g x : Option LinkRow) → by_links false c g x f ≡ by_links false d g x f
    by g (Some x) = refl
    by (Some g) None = refl
    by None None = refl

pub same-change : (t : Txn) (k l : Kept) (p : List ℕ) → maps.get l.files p ≡ maps.get k.files p → change_on t k p ≡ change_on t l p
same-change t k l p same =
    ap (λ (o : Option File). change_to p o (file_after (moved_of t) (copies_after (moved_of t) k) p o)) (sym same)
    ∙ ap (change_to p (maps.get l.files p)) (unfilled t (copies_after (moved_of t) k) (copies_after (moved_of t) l) p (maps.get l.files p))

-- THE PIECES ARE THOSE OF BEFORE
pub carried : (t : Txn) (k l : Kept) (p : Pieces) → ((n : List ℕ) → (maps.get l.copies n ≡ maps.get k.copies n) ⊎ (is_some (maps.get l.copies n) ≡ true))
    → ((g : LinkRow) → In g (moved_of t).gives → g.options.recovery ≡ true → maps.get l.files g.path ≡ maps.get k.files g.path)
    → ((p : List ℕ) → has_path (moved_of t) p ≡ true → change_on t k p ≡ change_on t l p) → AreOf (left_of k.copies p) (moved_of t) k → AreOf (left_of l.copies p) (moved_of t) l
carried t k l p more files changed are = record { copies = copies-carried (moved_of t) k l more files p are.copies; changes = are.changes ∙ changes-carried t k l changed }
