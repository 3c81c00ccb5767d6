-- What a Finish reads, and that it puts no file where none is filled.
use Rattle.std.proofs.Common.{◌≡◌, ℕ, Bool, true, false, cond, ◌&&◌, List, [], ◌∷◌, map, bytes_eq, Option, Some, None, refl, sym, ap, ◌∙◌}
use Rattle.std.proofs.lemmas.Bool.{and_from}
use Rattle.std.proofs.lemmas.List.Folds.{list_any-append}
use Rattle.std.proofs.lemmas.Slice.Eq.{bytes_eq-Decides}
use Rattle.std.specs.FinMap as maps
use Rattle.std.specs.List.{cons_option, filter_map, find, list_all, list_any}
use Rattle.dl_base.specs.declared.column.OnUnlink.{OnUnlink}
use Rattle.dl_base.specs.declared.column.OnUnlink.TheVariants as unlink
use Rattle.dl_base.specs.declared.column.ReadBy.{ReadBy}
use Rattle.dl_base.specs.declared.column.WriteBy.{WriteBy}
use Rattle.dl_base.specs.declared.column.WriteBy.TheVariants as write
use Rattle.dl_base.specs.declared.file.File.{File}
use Rattle.dl_base.specs.declared.file.FileChange.{FileChange}
use Rattle.dl_base.specs.declared.file.FileChange.TheVariants as changes
use Rattle.dl_base.specs.declared.file.Owner.{Owner}
use Rattle.dl_base.specs.declared.value.LinkRow.{LinkRow}
use Rattle.fm_effects.proofs.Keys.{is_at-self, or-left, or-right}
use Rattle.fm_effects.proofs.SortedSites.{has-sorted}
use Rattle.fm_effects.specs.Reading.{AgreeAt, is_no_put}
use Rattle.meaning_areas.specs.Finishing.{batch_changes, change_to, copy_by, copy_records, sorted_paths}
use Rattle.meaning_areas.specs.Same.{same_file}
use Rattle.meaning_settling.specs.Apart.{has_key, has_path}
use Rattle.meaning_settling.specs.Keyed.{is_at}
use Rattle.meaning_settling.specs.Settling.{Copies, Copy, Kept, Moved, by_give, by_links, copies_after, file_after, filled, first_copy, given_back, link_key, numbered, on, original, taken_over}

-- what is made of each item of a list alike
filter_map-on : {Y : Type 0} (f g : List ℕ → Option Y) (ps : List (List ℕ)) → ((p : List ℕ) → list_any (is_at p) ps ≡ true → f p ≡ g p) → filter_map f ps ≡ filter_map g ps
filter_map-on f g [] same = refl
filter_map-on f g (p ∷ ps) same = λ i. cons_option (same p (or-left (is_at p p) (list_any (is_at p) ps) (is_at-self p)) i)
    (filter_map-on f g ps (λ q has. same q (or-right (is_at q p) (list_any (is_at q) ps) has)) i)

-- the other key of an item that is found
found-other : {A : Type 0} (key other : A → List ℕ) (xs : List A) (q : List ℕ) (x : A) → find (λ y. is_at q (key y)) xs ≡ Some x → list_any (is_at (other x)) (map other xs) ≡ true
found-other key other [] q x is = absurd (none_some is)
  where
    none_some : None ≡ Some x → ⊥
    none_some e = cc
found-other {A} key other (y ∷ ys) q x is = by (is_at q (key y)) is (found-other key other ys q x)
  where
    inside : Some y ≡ Some x → y ≡ x
    inside e = cc

    by : (b : Bool) → cond b (Some y) (find (λ z. is_at q (key z)) ys) ≡ Some x → (find (λ z. is_at q (key z)) ys ≡ Some x → list_any (is_at (other x)) (map other ys) ≡ true)
        → list_any (is_at (other x)) (map other (y ∷ ys)) ≡ true
    by true e rest = or-left (is_at (other x) (other y)) (list_any (is_at (other x)) (map other ys)) (ap (λ (z : A). is_at (other x) (other z)) (inside e) ∙ is_at-self (other x))
    by false e rest = or-right (is_at (other x) (other y)) (list_any (is_at (other x)) (map other ys)) (rest e)

-- the links of a transaction are on its paths and have its numbers

module _ (m : Moved) where
  path-given : (p : List ℕ) → list_any (is_at p) (map (λ (l : LinkRow). l.path) m.gives) ≡ true → has_path m p ≡ true
  path-given p e =
      list_any-append (is_at p) (map (λ (l : LinkRow). l.path) m.gives) (map (λ (l : LinkRow). l.path) m.takes)
      ∙ or-left (list_any (is_at p) (map (λ (l : LinkRow). l.path) m.gives)) (list_any (is_at p) (map (λ (l : LinkRow). l.path) m.takes)) e

  key-given : (n : List ℕ) → list_any (is_at n) (map (λ (l : LinkRow). link_key l.link) m.gives) ≡ true → has_key m n ≡ true
  key-given n e =
      list_any-append (is_at n) (map (λ (l : LinkRow). link_key l.link) m.gives) (map (λ (l : LinkRow). link_key l.link) m.takes)
      ∙ or-left (list_any (is_at n) (map (λ (l : LinkRow). link_key l.link) m.gives)) (list_any (is_at n) (map (λ (l : LinkRow). link_key l.link) m.takes)) e

  key-taken : (n : List ℕ) → list_any (is_at n) (map (λ (l : LinkRow). link_key l.link) m.takes) ≡ true → has_key m n ≡ true
  key-taken n e =
      list_any-append (is_at n) (map (λ (l : LinkRow). link_key l.link) m.gives) (map (λ (l : LinkRow). link_key l.link) m.takes)
      ∙ or-right (list_any (is_at n) (map (λ (l : LinkRow). link_key l.link) m.gives)) (list_any (is_at n) (map (λ (l : LinkRow). link_key l.link) m.takes)) e

-- WHAT A FINISH READS
module _ (m : Moved) (k l : Kept) (agree : AgreeAt m k l) where
  copies-agree : (n : List ℕ) → has_key m n ≡ true → by_give k.files (numbered m.gives n) (maps.get k.copies n) ≡ by_give l.files (numbered m.gives n) (maps.get l.copies n)
  copies-agree n has = ap (λ (o : Option Copy). by_give k.files (numbered m.gives n) o) (agree.copies n has) ∙ by (numbered m.gives n) refl
    where
      by : (g : Option LinkRow) → numbered m.gives n ≡ g → by_give k.files g (maps.get l.copies n) ≡ by_give l.files g (maps.get l.copies n)
      by None is = refl
      by (Some g) is = ap (λ (o : Option File). by_file o) (agree.files g.path (path-given m g.path (found-other (λ (x : LinkRow). link_key x.link) (λ (x : LinkRow). x.path) m.gives n g is)))
        where
          by_file : Option File → Option Copy
          by_file o = cond g.options.recovery (first_copy (maps.get l.copies n) o) (maps.get l.copies n)

  module _ (settled : (x : Kept) (n : List ℕ) → maps.get (copies_after m x) n ≡ by_give x.files (numbered m.gives n) (maps.get x.copies n)) where
    files-agree : (p : List ℕ) (f : Option File) → file_after m (copies_after m k) p f ≡ file_after m (copies_after m l) p f
    files-agree p f = by (on m.gives p) (on m.takes p) refl
      where
        by : (g t : Option LinkRow) → on m.takes p ≡ t → by_links m.fill (copies_after m k) g t f ≡ by_links m.fill (copies_after m l) g t f
        by g (Some t) is = ap (λ (c : Option Copy). taken_over t.options.write t.options.read (cond (m.fill && t.options.recovery) (filled c f) f))
            (settled k (link_key t.link)
            ∙ copies-agree (link_key t.link) (key-taken m (link_key t.link) (found-other (λ (x : LinkRow). x.path) (λ (x : LinkRow). link_key x.link) m.takes p t is))
            ∙ sym (settled l (link_key t.link)))
        by (Some g) None is = refl
        by None None is = refl

    pub changes-agree : batch_changes m k ≡ batch_changes m l
    changes-agree = filter_map-on (λ p. change_to p (maps.get k.files p) (file_after m (copies_after m k) p (maps.get k.files p))) (λ p. change_to p (maps.get l.files p) (file_after m (copies_after m l) p (maps.get l.files p))) (sorted_paths m)
        (λ p has.
        ap (λ (f : Option File). change_to p f (file_after m (copies_after m k) p f)) (agree.files p (sym (has-sorted m p) ∙ has))
        ∙ ap (λ (f : Option File). change_to p (maps.get l.files p) f) (files-agree p (maps.get l.files p)))

  copied : (gs : List LinkRow) → ((p : List ℕ) → list_any (is_at p) (map (λ (x : LinkRow). x.path) gs) ≡ true → has_path m p ≡ true) → ((n : List ℕ) → list_any (is_at n) (map (λ (x : LinkRow). link_key x.link) gs) ≡ true → has_key m n ≡ true)
      → filter_map (λ g. copy_by g (maps.get k.copies (link_key g.link)) (maps.get k.files g.path)) gs ≡ filter_map (λ g. copy_by g (maps.get l.copies (link_key g.link)) (maps.get l.files g.path)) gs
  copied [] paths keys = refl
  copied (g ∷ gs) paths keys =
      let files : maps.get k.files g.path ≡ maps.get l.files g.path = agree.files g.path (paths g.path (or-left (is_at g.path g.path) (list_any (is_at g.path) (map (λ (x : LinkRow). x.path) gs)) (is_at-self g.path))) in
      let copies : maps.get k.copies (link_key g.link) ≡ maps.get l.copies (link_key g.link) = agree.copies (link_key g.link) (keys (link_key g.link) (or-left (is_at (link_key g.link) (link_key g.link)) (list_any (is_at (link_key g.link)) (map (λ (x : LinkRow). link_key x.link) gs)) (is_at-self (link_key g.link)))) in
      let rest = copied gs (λ p has. paths p (or-right (is_at p g.path) (list_any (is_at p) (map (λ (x : LinkRow). x.path) gs)) has)) (λ n has. keys n (or-right (is_at n (link_key g.link)) (list_any (is_at n) (map (λ (x : LinkRow). link_key x.link) gs)) has)) in
      λ i. cons_option (copy_by g (copies i) (files i)) (rest i)

  pub copies-written : copy_records m k ≡ copy_records m l
  copies-written = copied m.gives (path-given m) (key-given m)

-- NO FILE IS PUT where none is filled

abbrev puts_none : Option FileChange → Bool
puts_none None = true
puts_none (Some c) = is_no_put c

-- where the bytes stay
owners-kept : (p : List ℕ) (f : File) (owner : Owner) (before : Option Owner) → puts_none (change_to p (Some f) (Some (record { owner = owner; bytes = f.bytes; before = before }))) ≡ true
owners-kept p f owner before = by (same_file f (record { owner = owner; bytes = f.bytes; before = before }))
  where
    same : bytes_eq f.bytes f.bytes ≡ true
    same = (bytes_eq-Decides f.bytes f.bytes).1 refl

    by : (b : Bool) → puts_none (cond b None (cond (bytes_eq f.bytes f.bytes) (Some (changes.Kept p owner before)) (Some (changes.Put (record { path = p; file = record { owner = owner; bytes = f.bytes; before = before } }))))) ≡ true
    by true = refl
    by false = ap (λ b. puts_none (cond b (Some (changes.Kept p owner before)) (Some (changes.Put (record { path = p; file = record { owner = owner; bytes = f.bytes; before = before } }))))) same

given-kept : (p : List ℕ) (u : OnUnlink) (f : Option File) → puts_none (change_to p f (given_back u f)) ≡ true
given-kept p unlink.Nothing None = refl
given-kept p unlink.Nothing (Some f) = owners-kept p f f.owner f.before
given-kept p unlink.Restore None = refl
given-kept p unlink.Restore (Some f) = owners-kept p f (original f) None
given-kept p unlink.Delete None = refl
given-kept p unlink.Delete (Some f) = refl

taken-kept : (p : List ℕ) (w : WriteBy) (r : ReadBy) (f : Option File) → puts_none (change_to p f (taken_over w r f)) ≡ true
taken-kept p write.Fs r None = refl
taken-kept p write.Fs r (Some f) = owners-kept p f _ _
taken-kept p write.Blocked r None = refl
taken-kept p write.Blocked r (Some f) = owners-kept p f _ _
taken-kept p write.Admin r None = refl
taken-kept p write.Admin r (Some f) = owners-kept p f _ _

links-kept : (p : List ℕ) (copies : Copies) (g t : Option LinkRow) (f : Option File) → puts_none (change_to p f (by_links false copies g t f)) ≡ true
links-kept p copies g (Some t) f = taken-kept p t.options.write t.options.read f
links-kept p copies (Some g) None f = given-kept p g.options.unlink f
links-kept p copies None None None = refl
links-kept p copies None None (Some f) = owners-kept p f f.owner f.before

all-kept : (f : List ℕ → Option FileChange) → ((p : List ℕ) → puts_none (f p) ≡ true) → (ps : List (List ℕ)) → list_all is_no_put (filter_map f ps) ≡ true
all-kept f each [] = refl
all-kept f each (p ∷ ps) = by (f p) (each p) (all-kept f each ps)
  where
    by : (o : Option FileChange) → puts_none o ≡ true → list_all is_no_put (filter_map f ps) ≡ true → list_all is_no_put (cons_option o (filter_map f ps)) ≡ true
    by None e rest = rest
    by (Some c) e rest = and_from (is_no_put c) (list_all is_no_put (filter_map f ps)) e rest

pub none-put : (m : Moved) (k : Kept) → m.fill ≡ false → list_all is_no_put (batch_changes m k) ≡ true
none-put m k e = all-kept (λ p. change_to p (maps.get k.files p) (file_after m (copies_after m k) p (maps.get k.files p)))
    (λ p. ap (λ b. puts_none (change_to p (maps.get k.files p) (by_links b (copies_after m k) (on m.gives p) (on m.takes p) (maps.get k.files p)))) e
    ∙ links-kept p (copies_after m k) (on m.gives p) (on m.takes p) (maps.get k.files p))
    (sorted_paths m)
