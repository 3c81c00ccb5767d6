-- Settling transactions that have nothing in common, and settling one that was settled in part.
use Rattle.std.proofs.Common.{◌≡◌, ℕ, List, Bool, true, false, cond, ◌&&◌, Option, Some, None, refl, sym, ◌∙◌, ap, map}
use Rattle.std.specs.List.{list_any}
use Rattle.std.specs.FinMap as maps
use Rattle.dl_base.specs.declared.column.OnUnlink.{OnUnlink}
use Rattle.dl_base.specs.declared.column.OnUnlink.TheVariants as unlink
use Rattle.dl_base.specs.declared.column.ReadBy.{ReadBy}
use Rattle.dl_base.specs.declared.column.WriteBy.{WriteBy}
use Rattle.dl_base.specs.declared.column.WriteBy.TheVariants as write
use Rattle.dl_base.specs.declared.file.File.{File}
use Rattle.dl_base.specs.declared.value.LinkRow.{LinkRow}
use Rattle.meaning_files.specs.Files.{Files}
use Rattle.meaning_settling.specs.Keyed.{is_at}
use Rattle.meaning_settling.specs.Settling.{Copy, Copies, Moved, on, numbered, link_key, given_back, taken_over, filled, by_links, file_after, first_copy, by_give, copy_after, held_by, held_after}
use Rattle.meaning_settling.specs.Apart.{has_path, has_key}
use Rattle.meaning_settling.proofs.KeyedLaws.{any-append, none-or, or-left, or-right, find-none, find-any}

-- a second time nothing changes

take-again : (w : WriteBy) (r : ReadBy) (b : Bool) (c : Option Copy) (f : Option File)
    → taken_over w r (cond b (filled c (taken_over w r (cond b (filled c f) f))) (taken_over w r (cond b (filled c f) f))) ≡ taken_over w r (cond b (filled c f) f)
take-again write.Fs r true None None = refl
take-again write.Fs r true None (Some f) = refl
take-again write.Fs r true (Some c) None = refl
take-again write.Fs r true (Some c) (Some f) = refl
take-again write.Fs r false c None = refl
take-again write.Fs r false c (Some f) = refl
take-again write.Blocked r true None None = refl
take-again write.Blocked r true None (Some f) = refl
take-again write.Blocked r true (Some c) None = refl
take-again write.Blocked r true (Some c) (Some f) = refl
take-again write.Blocked r false c None = refl
take-again write.Blocked r false c (Some f) = refl
take-again write.Admin r true None None = refl
take-again write.Admin r true None (Some f) = refl
take-again write.Admin r true (Some c) None = refl
take-again write.Admin r true (Some c) (Some f) = refl
take-again write.Admin r false c None = refl
take-again write.Admin r false c (Some f) = refl

give-again : (u : OnUnlink) (f : Option File) → given_back u (given_back u f) ≡ given_back u f
give-again unlink.Nothing f = refl
give-again unlink.Restore None = refl
give-again unlink.Restore (Some f) = refl
give-again unlink.Delete f = refl

links-again : (fill : Bool) (copies : Copies) (g t : Option LinkRow) (f : Option File) → by_links fill copies g t (by_links fill copies g t f) ≡ by_links fill copies g t f
links-again fill copies g (Some t) f = take-again t.options.write t.options.read (fill && t.options.recovery) (maps.get copies (link_key t.link)) f
links-again fill copies (Some g) None f = give-again g.options.unlink f
links-again fill copies None None f = refl

pub file-again : (m : Moved) (copies : Copies) (p : List ℕ) (f : Option File) → file_after m copies p (file_after m copies p f) ≡ file_after m copies p f
file-again m copies p f = links-again m.fill copies (on m.gives p) (on m.takes p) f

copy-twice : (r : Bool) (c : Option Copy) (f : Option File) → cond r (first_copy (cond r (first_copy c f) c) f) (cond r (first_copy c f) c) ≡ cond r (first_copy c f) c
copy-twice true None None = refl
copy-twice true None (Some f) = refl
copy-twice true (Some c) f = refl
copy-twice false c f = refl

give-twice : (files : Files) (g : Option LinkRow) (c : Option Copy) → by_give files g (by_give files g c) ≡ by_give files g c
give-twice files None c = refl
give-twice files (Some g) c = copy-twice g.options.recovery c (maps.get files g.path)

pub copy-again : (m : Moved) (files : Files) (n : List ℕ) (c : Option Copy) → copy_after m files n (copy_after m files n c) ≡ copy_after m files n c
copy-again m files n c = give-twice files (numbered m.gives n) c

held-twice : (g t was : Option LinkRow) → held_by g t (held_by g t was) ≡ held_by g t was
held-twice g (Some t) was = refl
held-twice (Some g) None was = refl
held-twice None None was = refl

pub held-again : (m : Moved) (p : List ℕ) (h : Option LinkRow) → held_after m p (held_after m p h) ≡ held_after m p h
held-again m p h = held-twice (on m.gives p) (on m.takes p) h

-- what a transaction has nothing to do with

module _ (m : Moved) where
  gives-key : (n : List ℕ) → has_key m n ≡ false → numbered m.gives n ≡ None
  gives-key n e = find-none (λ (l : LinkRow). link_key l.link) m.gives n (none-or (list_any (is_at n) (map (λ (l : LinkRow). link_key l.link) m.gives)) (list_any (is_at n) (map (λ (l : LinkRow). link_key l.link) m.takes)) (sym (any-append (is_at n) (map (λ (l : LinkRow). link_key l.link) m.gives) (map (λ (l : LinkRow). link_key l.link) m.takes)) ∙ e)).0

  gives-path : (p : List ℕ) → has_path m p ≡ false → on m.gives p ≡ None
  gives-path p e = find-none (λ (l : LinkRow). l.path) m.gives p (none-or (list_any (is_at p) (map (λ (l : LinkRow). l.path) m.gives)) (list_any (is_at p) (map (λ (l : LinkRow). l.path) m.takes)) (sym (any-append (is_at p) (map (λ (l : LinkRow). l.path) m.gives) (map (λ (l : LinkRow). l.path) m.takes)) ∙ e)).0

  takes-path : (p : List ℕ) → has_path m p ≡ false → on m.takes p ≡ None
  takes-path p e = find-none (λ (l : LinkRow). l.path) m.takes p (none-or (list_any (is_at p) (map (λ (l : LinkRow). l.path) m.gives)) (list_any (is_at p) (map (λ (l : LinkRow). l.path) m.takes)) (sym (any-append (is_at p) (map (λ (l : LinkRow). l.path) m.gives) (map (λ (l : LinkRow). l.path) m.takes)) ∙ e)).1

  pub file-off : (copies : Copies) (p : List ℕ) (f : Option File) → has_path m p ≡ false → file_after m copies p f ≡ f
  file-off copies p f e = ap (λ (g : Option LinkRow). by_links m.fill copies g (on m.takes p) f) (gives-path p e) ∙ ap (λ (t : Option LinkRow). by_links m.fill copies None t f) (takes-path p e)

  pub copy-off : (files : Files) (n : List ℕ) (c : Option Copy) → has_key m n ≡ false → copy_after m files n c ≡ c
  copy-off files n c e = ap (λ (g : Option LinkRow). by_give files g c) (gives-key n e)

  pub held-off : (p : List ℕ) (h : Option LinkRow) → has_path m p ≡ false → held_after m p h ≡ h
  held-off p h e = ap (λ (g : Option LinkRow). held_by g (on m.takes p) h) (gives-path p e) ∙ ap (λ (t : Option LinkRow). held_by None t h) (takes-path p e)

  -- what it reads of copies and of files

  pub file-reads : (c d : Copies) (p : List ℕ) (f : Option File) → ((n : List ℕ) → has_key m n ≡ true → maps.get c n ≡ maps.get d n) → file_after m c p f ≡ file_after m d p f
  file-reads c d p f same = at (on m.gives p) (on m.takes p) refl
    where
      at : (g t : Option LinkRow) → on m.takes p ≡ t → by_links m.fill c g t f ≡ by_links m.fill d g t f
      at g (Some t) is = ap (λ (x : Option Copy). taken_over t.options.write t.options.read (cond (m.fill && t.options.recovery) (filled x f) f))
          (same (link_key t.link) (any-append (is_at (link_key t.link)) (map (λ (l : LinkRow). link_key l.link) m.gives) (map (λ (l : LinkRow). link_key l.link) m.takes)
          ∙ or-right (list_any (is_at (link_key t.link)) (map (λ (l : LinkRow). link_key l.link) m.gives)) (list_any (is_at (link_key t.link)) (map (λ (l : LinkRow). link_key l.link) m.takes))
          (find-any (λ (l : LinkRow). l.path) (λ (l : LinkRow). link_key l.link) m.takes p t is)))
      at (Some g) None is = refl
      at None None is = refl

  pub copy-reads : (f g : Files) (n : List ℕ) (c : Option Copy) → ((p : List ℕ) → has_path m p ≡ true → maps.get f p ≡ maps.get g p) → copy_after m f n c ≡ copy_after m g n c
  copy-reads f g n c same = at (numbered m.gives n) refl
    where
      at : (x : Option LinkRow) → numbered m.gives n ≡ x → by_give f x c ≡ by_give g x c
      at None is = refl
      at (Some x) is = ap (λ (o : Option File). cond x.options.recovery (first_copy c o) c)
          (same x.path (any-append (is_at x.path) (map (λ (l : LinkRow). l.path) m.gives) (map (λ (l : LinkRow). l.path) m.takes)
          ∙ or-left (list_any (is_at x.path) (map (λ (l : LinkRow). l.path) m.gives)) (list_any (is_at x.path) (map (λ (l : LinkRow). l.path) m.takes))
          (find-any (λ (l : LinkRow). link_key l.link) (λ (l : LinkRow). l.path) m.gives n x is)))
