-- THE BYTES OF FILES AND COPIES THAT ARE SETTLED, from those before and from what the first transaction on a path, or of a number,
-- does. Where the transactions have nothing in common, no other changes them.
use Rattle.std.proofs.Common.{◌≡◌, ⊎_elim, inl, inr, ℕ, List, [], ◌∷◌, Bool, true, false, cond, ◌&&◌, map, Option, Some, None, refl, sym, ◌∙◌, ap, subst}
use Rattle.std.specs.List.{list_any}
use Rattle.std.specs.FinMap as maps
use Rattle.std.specs.Option.{option_map, option_or}
use Rattle.dl_base.specs.declared.column.OnUnlink.{OnUnlink}
use Rattle.dl_base.specs.declared.column.OnUnlink.TheVariants as unlink
use Rattle.dl_base.specs.declared.column.ReadBy.{ReadBy}
use Rattle.dl_base.specs.declared.column.WriteBy.{WriteBy}
use Rattle.dl_base.specs.declared.column.WriteBy.TheVariants as write
use Rattle.dl_base.specs.declared.file.File.{File}
use Rattle.dl_base.specs.declared.value.LinkNo.{LinkNo}
use Rattle.dl_base.specs.declared.value.LinkRow.{LinkRow}
use Rattle.compare_files.specs.Effects.{Bytes, after_effect, after_source, copy_bytes, effect, file_bytes, first_open, given, of_open, sourced, source, taken, unlinked}
use Rattle.compare_files.specs.declared.effects.Effect.{Effect}
use Rattle.compare_files.specs.declared.effects.Effect.TheVariants as effects
use Rattle.meaning_areas.proofs.Tables.{not_none, some_same}
use Rattle.meaning_files.specs.Files.{Files}
use Rattle.meaning_settling.specs.Apart.{Apart, has_key, has_path}
use Rattle.meaning_settling.specs.Keyed.{is_at}
use Rattle.meaning_settling.specs.Settled.{AreApart, AreDistinct, IsIn, settle_open, settled}
use Rattle.meaning_settling.specs.Settling.{Copies, Copy, Kept, Moved, by_give, by_links, copies_after, copy_after, file_after, filled, first_copy, given_back, link_key, numbered, on, settle_one, taken_over}
use Rattle.meaning_settling.proofs.KeyedLaws.{any-append, either, find-any, find-none, false_true, none-or, or-right}
use Rattle.meaning_settling.proofs.PartLaws.{get-copies, get-copies-after, get-files, gives-has}
use Rattle.meaning_settling.proofs.SettledLaws.{in-not, settled-copies}
use Rattle.meaning_settling.proofs.SettlingLaws.{file-off}

-- one transaction

take_over : (w : WriteBy) (r : ReadBy) (f : Option File) → file_bytes (taken_over w r f) ≡ file_bytes f
take_over write.Fs r None = refl
take_over write.Fs r (Some f) = refl
take_over write.Blocked r None = refl
take_over write.Blocked r (Some f) = refl
take_over write.Admin r None = refl
take_over write.Admin r (Some f) = refl

give_back : (u : OnUnlink) (copies : List ℕ → Option Bytes) (f : Option File) → file_bytes (given_back u f) ≡ after_effect (Some (unlinked u)) copies (file_bytes f)
give_back unlink.Nothing copies f = refl
give_back unlink.Restore copies None = refl
give_back unlink.Restore copies (Some f) = refl
give_back unlink.Delete copies f = refl

fill_in : (c : Option Copy) (f : Option File) → file_bytes (filled c f) ≡ option_or (copy_bytes c) (file_bytes f)
fill_in None f = refl
fill_in (Some c) None = refl
fill_in (Some c) (Some f) = refl

pub file-one : (m : Moved) (copies : Copies) (p : List ℕ) (f : Option File) → file_bytes (file_after m copies p f) ≡ after_effect (effect p m) (λ n. copy_bytes (maps.get copies n)) (file_bytes f)
file-one m copies p f = by (on m.gives p) (on m.takes p)
  where
    fills : (t : LinkRow) (b : Bool) → file_bytes (cond b (filled (maps.get copies (link_key t.link)) f) f) ≡ after_effect (Some (cond b (effects.Fills t.link) effects.Keeps)) (λ n. copy_bytes (maps.get copies n)) (file_bytes f)
    fills t true = fill_in (maps.get copies (link_key t.link)) f
    fills t false = refl

    by : (g t : Option LinkRow) → file_bytes (by_links m.fill copies g t f) ≡ after_effect (option_or (option_map (taken m.fill) t) (option_map given g)) (λ n. copy_bytes (maps.get copies n)) (file_bytes f)
    by g (Some t) = take_over t.options.write t.options.read (cond (m.fill && t.options.recovery) (filled (maps.get copies (link_key t.link)) f) f) ∙ fills t (m.fill && t.options.recovery)
    by (Some g) None = give_back g.options.unlink (λ n. copy_bytes (maps.get copies n)) f
    by None None = refl

pub copy-one : (m : Moved) (files : Files) (n : List ℕ) (c : Option Copy) → copy_bytes (copy_after m files n c) ≡ after_source (sourced n m) (λ p. file_bytes (maps.get files p)) (copy_bytes c)
copy-one m files n c = by (numbered m.gives n)
  where
    firsts : (c : Option Copy) (f : Option File) → copy_bytes (first_copy c f) ≡ option_or (copy_bytes c) (file_bytes f)
    firsts (Some c) f = refl
    firsts None None = refl
    firsts None (Some f) = refl

    made : (g : LinkRow) (b : Bool) → copy_bytes (cond b (first_copy c (maps.get files g.path)) c) ≡ after_source (Some (cond b (Some g.path) None)) (λ p. file_bytes (maps.get files p)) (copy_bytes c)
    made g true = firsts c (maps.get files g.path)
    made g false = refl

    by : (g : Option LinkRow) → copy_bytes (by_give files g c) ≡ after_source (option_map source g) (λ p. file_bytes (maps.get files p)) (copy_bytes c)
    by None = refl
    by (Some g) = made g g.options.recovery

-- a transaction that does something on a path, or to a number, has that path or number

module _ (m : Moved) where
  none-found : {A B : Type 0} (a : Option A) (b : Option B) → a ≡ None → b ≡ None → (f : A → Effect) (g : B → Effect) → option_or (option_map f a) (option_map g b) ≡ None
  none-found a b none never f g = ap (λ x. option_or (option_map f x) (option_map g b)) none ∙ ap (λ x. option_map g x) never

  off-path : (p : List ℕ) → has_path m p ≡ false → effect p m ≡ None
  off-path p off =
      let two = none-or (list_any (is_at p) (map (λ (l : LinkRow). l.path) m.gives)) (list_any (is_at p) (map (λ (l : LinkRow). l.path) m.takes))
      (sym (any-append (is_at p) (map (λ (l : LinkRow). l.path) m.gives) (map (λ (l : LinkRow). l.path) m.takes)) ∙ off) in
      none-found (on m.takes p) (on m.gives p) (find-none (λ (l : LinkRow). l.path) m.takes p two.1) (find-none (λ (l : LinkRow). l.path) m.gives p two.0) (taken m.fill) given

  pub effect-path : (p : List ℕ) (e : Effect) → effect p m ≡ Some e → has_path m p ≡ true
  effect-path p e is = ⊎_elim (λ (has : has_path m p ≡ true). has) (λ (off : has_path m p ≡ false). absurd (not_none e (effect p m) is (off-path p off))) (either (has_path m p))

  pub fills-key : (p : List ℕ) (link : LinkNo) → effect p m ≡ Some (effects.Fills link) → has_key m (link_key link) ≡ true
  fills-key p link is = by (on m.takes p) refl is
    where
      stays : (u : OnUnlink) → Some (unlinked u) ≡ Some (effects.Fills link) → ⊥
      stays unlink.Nothing e = cc
      stays unlink.Restore e = cc
      stays unlink.Delete e = cc

      gave : (g : Option LinkRow) → option_map given g ≡ Some (effects.Fills link) → ⊥
      gave None e = cc
      gave (Some g) e = stays g.options.unlink e

      filled_by : (t : LinkRow) (b : Bool) → Some (cond b (effects.Fills t.link) effects.Keeps) ≡ Some (effects.Fills link) → t.link ≡ link
      filled_by t true e = cc
      filled_by t false e = absurd (keeps e)
        where
          keeps : Some effects.Keeps ≡ Some (effects.Fills link) → ⊥
          keeps e = cc

      by : (o : Option LinkRow) → on m.takes p ≡ o → option_or (option_map (taken m.fill) o) (option_map given (on m.gives p)) ≡ Some (effects.Fills link) → has_key m (link_key link) ≡ true
      by None at e = absurd (gave (on m.gives p) e)
      by (Some t) at e =
          ap (λ (l : LinkNo). has_key m (link_key l)) (sym (filled_by t (m.fill && t.options.recovery) e))
          ∙ any-append (is_at (link_key t.link)) (map (λ (l : LinkRow). link_key l.link) m.gives) (map (λ (l : LinkRow). link_key l.link) m.takes)
          ∙ or-right (list_any (is_at (link_key t.link)) (map (λ (l : LinkRow). link_key l.link) m.gives)) (list_any (is_at (link_key t.link)) (map (λ (l : LinkRow). link_key l.link) m.takes))
          (find-any (λ (l : LinkRow). l.path) (λ (l : LinkRow). link_key l.link) m.takes p t at)

  -- a link that is given under a number
  pub sourced-given : (n : List ℕ) (x : Option (List ℕ)) → sourced n m ≡ Some x → (g : LinkRow) × (numbered m.gives n ≡ Some g) × (source g ≡ x)
  sourced-given n x is = by (numbered m.gives n) refl is
    where
      by : (o : Option LinkRow) → numbered m.gives n ≡ o → option_map source o ≡ Some x → (g : LinkRow) × (numbered m.gives n ≡ Some g) × (source g ≡ x)
      by None at e = absurd cc
      by (Some g) at e = (g, at, some_same (source g) x e)

  pub sourced-key : (n : List ℕ) (x : Option (List ℕ)) → sourced n m ≡ Some x → has_key m n ≡ true
  sourced-key n x is = let it = sourced-given n x is in (gives-has m n it.0 it.1).0

  pub source-is : (g : LinkRow) (p : List ℕ) → source g ≡ Some p → (g.options.recovery ≡ true) × (g.path ≡ p)
  source-is g p e = by g.options.recovery refl e
    where
      by : (b : Bool) → g.options.recovery ≡ b → cond b (Some g.path) None ≡ Some p → (g.options.recovery ≡ true) × (g.path ≡ p)
      by true is e = (is, cc)
      by false is e = absurd cc

  pub sourced-path : (n p : List ℕ) → sourced n m ≡ Some (Some p) → has_path m p ≡ true
  sourced-path n p is =
      let it = sourced-given n (Some p) is in
      ap (has_path m) (sym (source-is it.0 p it.2).1) ∙ (gives-has m n it.0 it.1).1

-- what other transactions leave as it is

pub files-stay : (open_at : ℕ → Option Moved) (ts : List ℕ) (k : Kept) (p : List ℕ) → ((t : ℕ) (a : Moved) → IsIn t ts → open_at t ≡ Some a → has_path a p ≡ false) → maps.get (settled open_at ts k).files p ≡ maps.get k.files p
files-stay open_at [] k p off = refl
files-stay open_at (t ∷ ts) k p off = files-stay open_at ts (settle_open (open_at t) k) p (λ u a is. off u a (inr is)) ∙ by (open_at t) refl
  where
    by : (o : Option Moved) → open_at t ≡ o → maps.get (settle_open o k).files p ≡ maps.get k.files p
    by None e = refl
    by (Some a) e = get-files a k p ∙ file-off a (copies_after a k) p (maps.get k.files p) (off t a (inl refl) e)

module _ (open_at : ℕ → Option Moved) (t : ℕ) (ts : List ℕ) (apart : AreApart open_at (t ∷ ts)) (once : AreDistinct (t ∷ ts)) where
  later-apart : AreApart open_at ts
  later-apart x y in_x in_y = apart x y (inr in_x) (inr in_y)

  others : (m : Moved) → open_at t ≡ Some m → (u : ℕ) (a : Moved) → IsIn u ts → open_at u ≡ Some a → Apart m a
  others m at u a is at_u = apart t u (inl refl) (inr is) (λ (e : t ≡ u). in-not t ts (let P : ℕ → Type 0 = λ x. IsIn x ts in subst P (sym e) is) once.0) m a at at_u

  other-path : (m : Moved) → open_at t ≡ Some m → (p : List ℕ) → has_path m p ≡ true → (u : ℕ) (a : Moved) → IsIn u ts → open_at u ≡ Some a → has_path a p ≡ false
  other-path m at p has u a is at_u = ⊎_elim (λ (off : has_path m p ≡ false). absurd (false_true (sym off ∙ has))) (λ (off : has_path a p ≡ false). off) ((others m at u a is at_u).paths p)

  own-path : (m : Moved) → open_at t ≡ Some m → (p : List ℕ) (u : ℕ) (a : Moved) → IsIn u ts → open_at u ≡ Some a → has_path a p ≡ true → has_path m p ≡ false
  own-path m at p u a is at_u has = ⊎_elim (λ (off : has_path m p ≡ false). off) (λ (off : has_path a p ≡ false). absurd (false_true (sym off ∙ has))) ((others m at u a is at_u).paths p)

  other-key : (m : Moved) → open_at t ≡ Some m → (n : List ℕ) → has_key m n ≡ true → (u : ℕ) (a : Moved) → IsIn u ts → open_at u ≡ Some a → has_key a n ≡ false
  other-key m at n has u a is at_u = ⊎_elim (λ (off : has_key m n ≡ false). absurd (false_true (sym off ∙ has))) (λ (off : has_key a n ≡ false). off) ((others m at u a is at_u).keys n)

-- COPIES, of which each is made before any file changes
pub copies-settled : (open_at : ℕ → Option Moved) (ts : List ℕ) (k : Kept) (files : Files) → AreApart open_at ts → AreDistinct ts
    → ((t : ℕ) (a : Moved) (p : List ℕ) → IsIn t ts → open_at t ≡ Some a → has_path a p ≡ true → maps.get k.files p ≡ maps.get files p) → (n : List ℕ)
    → copy_bytes (maps.get (settled open_at ts k).copies n) ≡ after_source (first_open (sourced n) open_at ts) (λ p. file_bytes (maps.get files p)) (copy_bytes (maps.get k.copies n))
copies-settled open_at [] k files apart once same n = refl
copies-settled open_at (t ∷ ts) k files apart once same n = by (λ x alike. copies-settled open_at ts x files (later-apart open_at t ts apart once) once.1 alike n) (open_at t) refl
  where
    reads : (x : Option (List ℕ)) (c : Option Bytes) (f g : List ℕ → Option Bytes) → ((p : List ℕ) → x ≡ Some p → f p ≡ g p) → after_source (Some x) f c ≡ after_source (Some x) g c
    reads None c f g alike = refl
    reads (Some p) c f g alike = ap (option_or c) (alike p refl)

    one : ((x : Kept) → ((u : ℕ) (a : Moved) (p : List ℕ) → IsIn u ts → open_at u ≡ Some a → has_path a p ≡ true → maps.get x.files p ≡ maps.get files p)
        → copy_bytes (maps.get (settled open_at ts x).copies n) ≡ after_source (first_open (sourced n) open_at ts) (λ p. file_bytes (maps.get files p)) (copy_bytes (maps.get x.copies n)))
        → (m : Moved) → open_at t ≡ Some m → (s : Option (Option (List ℕ))) → sourced n m ≡ s
        → copy_bytes (maps.get (settled open_at ts (settle_one m k)).copies n) ≡ after_source (option_or s (first_open (sourced n) open_at ts)) (λ p. file_bytes (maps.get files p)) (copy_bytes (maps.get k.copies n))
    one rest m at None is =
        rest (settle_one m k)
        (λ u a p among at_u has. get-files m k p ∙ file-off m (copies_after m k) p (maps.get k.files p) (own-path open_at t ts apart once m at p u a among at_u has) ∙ same u a p (inr among) at_u has)
        ∙ ap (λ c. after_source (first_open (sourced n) open_at ts) (λ p. file_bytes (maps.get files p)) c)
        (ap copy_bytes (get-copies m k n) ∙ copy-one m k.files n (maps.get k.copies n) ∙ ap (λ x. after_source x (λ p. file_bytes (maps.get k.files p)) (copy_bytes (maps.get k.copies n))) is)
    one rest m at (Some x) is =
        ap copy_bytes (settled-copies open_at ts (settle_one m k) n (other-key open_at t ts apart once m at n (sourced-key m n x is)) ∙ get-copies m k n)
        ∙ copy-one m k.files n (maps.get k.copies n) ∙ ap (λ y. after_source y (λ p. file_bytes (maps.get k.files p)) (copy_bytes (maps.get k.copies n))) is
        ∙ reads x (copy_bytes (maps.get k.copies n)) (λ p. file_bytes (maps.get k.files p)) (λ p. file_bytes (maps.get files p))
        (λ p e. ap file_bytes (same t m p (inl refl) at (sourced-path m n p (is ∙ ap (λ y. Some y) e))))

    by : ((x : Kept) → ((u : ℕ) (a : Moved) (p : List ℕ) → IsIn u ts → open_at u ≡ Some a → has_path a p ≡ true → maps.get x.files p ≡ maps.get files p)
        → copy_bytes (maps.get (settled open_at ts x).copies n) ≡ after_source (first_open (sourced n) open_at ts) (λ p. file_bytes (maps.get files p)) (copy_bytes (maps.get x.copies n)))
        → (o : Option Moved) → open_at t ≡ o
        → copy_bytes (maps.get (settled open_at ts (settle_open o k)).copies n) ≡ after_source (option_or (of_open (sourced n) o) (first_open (sourced n) open_at ts)) (λ p. file_bytes (maps.get files p)) (copy_bytes (maps.get k.copies n))
    by rest None at = rest k (λ u a p among. same u a p (inr among))
    by rest (Some m) at = one rest m at (sourced n m) refl

-- FILES, behind the copies
pub files-settled : (open_at : ℕ → Option Moved) (ts : List ℕ) (k : Kept) → AreApart open_at ts → AreDistinct ts → (p : List ℕ)
    → file_bytes (maps.get (settled open_at ts k).files p) ≡ after_effect (first_open (effect p) open_at ts) (λ n. copy_bytes (maps.get (settled open_at ts k).copies n)) (file_bytes (maps.get k.files p))
files-settled open_at [] k apart once p = refl
files-settled open_at (t ∷ ts) k apart once p = by (λ x. files-settled open_at ts x (later-apart open_at t ts apart once) once.1 p) (open_at t) refl
  where
    reads : (e : Effect) (was : Option Bytes) (f g : List ℕ → Option Bytes) → ((link : LinkNo) → e ≡ effects.Fills link → f (link_key link) ≡ g (link_key link)) → after_effect (Some e) f was ≡ after_effect (Some e) g was
    reads effects.Keeps was f g alike = refl
    reads effects.Deletes was f g alike = refl
    reads (effects.Fills link) was f g alike = ap (λ o. option_or o was) (alike link refl)

    one : ((x : Kept) → file_bytes (maps.get (settled open_at ts x).files p) ≡ after_effect (first_open (effect p) open_at ts) (λ n. copy_bytes (maps.get (settled open_at ts x).copies n)) (file_bytes (maps.get x.files p)))
        → (m : Moved) → open_at t ≡ Some m → (s : Option Effect) → effect p m ≡ s
        → file_bytes (maps.get (settled open_at ts (settle_one m k)).files p) ≡ after_effect (option_or s (first_open (effect p) open_at ts)) (λ n. copy_bytes (maps.get (settled open_at ts (settle_one m k)).copies n)) (file_bytes (maps.get k.files p))
    one rest m at None is =
        rest (settle_one m k)
        ∙ ap (λ f. after_effect (first_open (effect p) open_at ts) (λ n. copy_bytes (maps.get (settled open_at ts (settle_one m k)).copies n)) f)
        (ap file_bytes (get-files m k p) ∙ file-one m (copies_after m k) p (maps.get k.files p) ∙ ap (λ x. after_effect x (λ n. copy_bytes (maps.get (copies_after m k) n)) (file_bytes (maps.get k.files p))) is)
    one rest m at (Some e) is =
        ap file_bytes (files-stay open_at ts (settle_one m k) p (other-path open_at t ts apart once m at p (effect-path m p e is)) ∙ get-files m k p)
        ∙ file-one m (copies_after m k) p (maps.get k.files p) ∙ ap (λ x. after_effect x (λ n. copy_bytes (maps.get (copies_after m k) n)) (file_bytes (maps.get k.files p))) is
        ∙ reads e (file_bytes (maps.get k.files p)) (λ n. copy_bytes (maps.get (copies_after m k) n)) (λ n. copy_bytes (maps.get (settled open_at ts (settle_one m k)).copies n))
        (λ link fills. ap copy_bytes (get-copies-after m k (link_key link) ∙ sym (get-copies m k (link_key link))
        ∙ sym (settled-copies open_at ts (settle_one m k) (link_key link) (other-key open_at t ts apart once m at (link_key link) (fills-key m p link (is ∙ ap (λ y. Some y) fills))))))

    by : ((x : Kept) → file_bytes (maps.get (settled open_at ts x).files p) ≡ after_effect (first_open (effect p) open_at ts) (λ n. copy_bytes (maps.get (settled open_at ts x).copies n)) (file_bytes (maps.get x.files p)))
        → (o : Option Moved) → open_at t ≡ o
        → file_bytes (maps.get (settled open_at ts (settle_open o k)).files p) ≡ after_effect (option_or (of_open (effect p) o) (first_open (effect p) open_at ts)) (λ n. copy_bytes (maps.get (settled open_at ts (settle_open o k)).copies n)) (file_bytes (maps.get k.files p))
    by rest None at = rest k
    by rest (Some m) at = one rest m at (effect p m) refl
