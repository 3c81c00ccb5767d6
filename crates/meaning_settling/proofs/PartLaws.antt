-- THE LAWS OF SETTLING: one that was settled in part ends as the whole; and transactions that are apart do not care for order.
use Rattle.std.proofs.Common.{◌≡◌, ⊎_elim, ℕ, List, Bool, true, false, cond, Option, Some, None, is_some, refl, sym, ◌∙◌, ap, map}
use Rattle.std.specs.List.{list_any}
use Rattle.std.specs.FinMap as maps
use Rattle.dl_base.specs.declared.file.File.{File}
use Rattle.dl_base.specs.declared.value.LinkRow.{LinkRow}
use Rattle.meaning_settling.specs.Keyed.{is_at}
use Rattle.meaning_settling.specs.Settling.{Copy, Copies, Moved, Kept, numbered, file_after, first_copy, by_give, copy_after, held_after, paths_of, keys_of, link_key, copies_after, settle_one}
use Rattle.meaning_settling.specs.Apart.{has_path, has_key, Apart, IsReady, IsPart}
use Rattle.meaning_settling.proofs.KeyedLaws.{either, false_true, get-over, same_keyed, any-append, or-left, find-none, find-any, find-key}
use Rattle.meaning_settling.proofs.SettlingLaws.{file-again, copy-again, held-again, file-off, copy-off, held-off, file-reads, copy-reads}

pub same_kept : (a b : Kept) → a.files ≡ b.files → a.copies ≡ b.copies → a.held ≡ b.held → a ≡ b
same_kept a b f c h = λ i. record { files = f i; copies = c i; held = h i }

module _ (m : Moved) (k : Kept) where
  pub get-copies-after : (n : List ℕ) → maps.get (copies_after m k) n ≡ copy_after m k.files n (maps.get k.copies n)
  get-copies-after n = get-over (copy_after m k.files) (copy-again m k.files) (map (λ (l : LinkRow). link_key l.link) m.gives) k.copies n
      (λ e o. ap (λ (g : Option LinkRow). by_give k.files g o) (find-none (λ (l : LinkRow). link_key l.link) m.gives n e))

  pub get-copies : (n : List ℕ) → maps.get (settle_one m k).copies n ≡ copy_after m k.files n (maps.get k.copies n)
  unfolding settle_one
  get-copies n = get-copies-after n

  pub get-files : (p : List ℕ) → maps.get (settle_one m k).files p ≡ file_after m (copies_after m k) p (maps.get k.files p)
  unfolding settle_one
  get-files p = get-over (file_after m (copies_after m k)) (file-again m (copies_after m k)) (paths_of m) k.files p (λ e o. file-off m (copies_after m k) p o e)

  pub get-held : (n : List ℕ) → maps.get (settle_one m k).held n ≡ held_after m n (maps.get k.held n)
  unfolding settle_one
  get-held n = get-over (held_after m) (held-again m) (paths_of m) k.held n (λ e o. held-off m n o e)

  all : List ℕ → Bool
  all n = true

  pub settled-whole : IsPart (λ n. true) true true m k (settle_one m k)
  settled-whole = record { at_copies = get-copies; at_files = get-files; at_held = get-held; order = λ e n. refl }

  pub whole-settled : (later : Kept) → IsPart (λ n. true) true true m k later → later ≡ settle_one m k
  whole-settled later is = same_kept later (settle_one m k)
      (same_keyed _ _ (λ p. is.at_files p ∙ sym (get-files p)))
      (same_keyed _ _ (λ n. is.at_copies n ∙ sym (get-copies n)))
      (same_keyed _ _ (λ n. is.at_held n ∙ sym (get-held n)))

  -- a part, and then the whole
  module _ (copies : List ℕ → Bool) (files held : Bool) (later : Kept) (ready : IsReady m k) (is : IsPart copies files held m k later) where
    ready-copy : (g : Option LinkRow) (n : List ℕ) (o : Option File) → numbered m.gives n ≡ g → by_give later.files g (by_give k.files g (maps.get k.copies n)) ≡ by_give k.files g (maps.get k.copies n)
    ready-copy None n o e = refl
    ready-copy (Some g) n o e = by g.options.recovery refl
      where
        kept : (c : Option Copy) (f : Option File) → is_some c ≡ true → first_copy c f ≡ c
        kept (Some c) f some = refl
        kept None f some = absurd (false_true some)

        by : (r : Bool) → g.options.recovery ≡ r → cond r (first_copy (cond r (first_copy (maps.get k.copies n) (maps.get k.files g.path)) (maps.get k.copies n)) (maps.get later.files g.path)) (cond r (first_copy (maps.get k.copies n) (maps.get k.files g.path)) (maps.get k.copies n)) ≡ cond r (first_copy (maps.get k.copies n) (maps.get k.files g.path)) (maps.get k.copies n)
        by true r = kept _ (maps.get later.files g.path) (ready n g e r)
        by false r = refl

    part-copy : (n : List ℕ) → copy_after m later.files n (maps.get later.copies n) ≡ copy_after m k.files n (maps.get k.copies n)
    part-copy n = ⊎_elim
        (λ (all_done : files ≡ true).
        ap (copy_after m later.files n) (is.at_copies n ∙ ap (λ b. cond b (copy_after m k.files n (maps.get k.copies n)) (maps.get k.copies n)) (is.order all_done n))
        ∙ ready-copy (numbered m.gives n) n None refl)
        (λ (not_yet : files ≡ false).
        copy-reads m later.files k.files n (maps.get later.copies n) (λ p has. is.at_files p ∙ ap (λ b. cond b (file_after m (copies_after m k) p (maps.get k.files p)) (maps.get k.files p)) not_yet)
        ∙ ap (copy_after m k.files n) (is.at_copies n) ∙ done (copies n))
        (either files)
      where
        done : (b : Bool) → copy_after m k.files n (cond b (copy_after m k.files n (maps.get k.copies n)) (maps.get k.copies n)) ≡ copy_after m k.files n (maps.get k.copies n)
        done true = copy-again m k.files n (maps.get k.copies n)
        done false = refl

    same-copies : copies_after m later ≡ copies_after m k
    same-copies = same_keyed _ _ (λ n. (get-over (copy_after m later.files) (copy-again m later.files) (map (λ (l : LinkRow). link_key l.link) m.gives) later.copies n
        (λ e o. ap (λ (g : Option LinkRow). by_give later.files g o) (find-none (λ (l : LinkRow). link_key l.link) m.gives n e))) ∙ part-copy n ∙ sym (get-copies-after n))

    part-file : (p : List ℕ) → file_after m (copies_after m later) p (maps.get later.files p) ≡ file_after m (copies_after m k) p (maps.get k.files p)
    part-file p = ap (λ (c : Copies). file_after m c p (maps.get later.files p)) same-copies ∙ ap (file_after m (copies_after m k) p) (is.at_files p) ∙ done files
      where
        done : (b : Bool) → file_after m (copies_after m k) p (cond b (file_after m (copies_after m k) p (maps.get k.files p)) (maps.get k.files p)) ≡ file_after m (copies_after m k) p (maps.get k.files p)
        done true = file-again m (copies_after m k) p (maps.get k.files p)
        done false = refl

    part-held : (n : List ℕ) → held_after m n (maps.get later.held n) ≡ held_after m n (maps.get k.held n)
    part-held n = ap (held_after m n) (is.at_held n) ∙ done held
      where
        done : (b : Bool) → held_after m n (cond b (held_after m n (maps.get k.held n)) (maps.get k.held n)) ≡ held_after m n (maps.get k.held n)
        done true = held-again m n (maps.get k.held n)
        done false = refl

-- THE FIRST LAW
pub part-settled : (m : Moved) (copies : List ℕ → Bool) (files held : Bool) (k later : Kept) → IsReady m k → IsPart copies files held m k later → settle_one m later ≡ settle_one m k
part-settled m copies files held k later ready is = whole-settled m k (settle_one m later) (record {
  at_copies = λ n. get-copies m later n ∙ part-copy m k copies files held later ready is n;
  at_files = λ p. get-files m later p ∙ part-file m k copies files held later ready is p;
  at_held = λ n. get-held m later n ∙ part-held m k copies files held later ready is n;
  order = λ e n. refl;
})

-- THE SECOND LAW: what is settled in part stays so when another one is settled before
module _ (a m : Moved) (apart : Apart a m) (k : Kept) where
  off-key : (n : List ℕ) → has_key a n ≡ true → has_key m n ≡ false
  off-key n e = ⊎_elim (λ (f : has_key a n ≡ false). absurd (false_true (sym f ∙ e))) (λ (f : has_key m n ≡ false). f) (apart.keys n)

  key-off : (n : List ℕ) → has_key m n ≡ true → has_key a n ≡ false
  key-off n e = ⊎_elim (λ (f : has_key a n ≡ false). f) (λ (f : has_key m n ≡ false). absurd (false_true (sym f ∙ e))) (apart.keys n)

  off-path : (p : List ℕ) → has_path a p ≡ true → has_path m p ≡ false
  off-path p e = ⊎_elim (λ (f : has_path a p ≡ false). absurd (false_true (sym f ∙ e))) (λ (f : has_path m p ≡ false). f) (apart.paths p)

  path-off : (p : List ℕ) → has_path m p ≡ true → has_path a p ≡ false
  path-off p e = ⊎_elim (λ (f : has_path a p ≡ false). f) (λ (f : has_path m p ≡ false). absurd (false_true (sym f ∙ e))) (apart.paths p)

  copies-swap : (n : List ℕ) (c : Option Copy) → copy_after a k.files n (copy_after m k.files n c) ≡ copy_after m k.files n (copy_after a k.files n c)
  copies-swap n c = ⊎_elim
      (λ (e : has_key a n ≡ false). copy-off a k.files n (copy_after m k.files n c) e ∙ ap (copy_after m k.files n) (sym (copy-off a k.files n c e)))
      (λ (e : has_key m n ≡ false). ap (copy_after a k.files n) (copy-off m k.files n c e) ∙ sym (copy-off m k.files n (copy_after a k.files n c) e))
      (apart.keys n)

  held-swap : (n : List ℕ) (h : Option LinkRow) → held_after a n (held_after m n h) ≡ held_after m n (held_after a n h)
  held-swap n h = ⊎_elim
      (λ (e : has_path a n ≡ false). held-off a n (held_after m n h) e ∙ ap (held_after m n) (sym (held-off a n h e)))
      (λ (e : has_path m n ≡ false). ap (held_after a n) (held-off m n h e) ∙ sym (held-off m n (held_after a n h) e))
      (apart.paths n)

  files-swap : (c d : Copies) (p : List ℕ) (f : Option File) → file_after a c p (file_after m d p f) ≡ file_after m d p (file_after a c p f)
  files-swap c d p f = ⊎_elim
      (λ (e : has_path a p ≡ false). file-off a c p (file_after m d p f) e ∙ ap (file_after m d p) (sym (file-off a c p f e)))
      (λ (e : has_path m p ≡ false). ap (file_after a c p) (file-off m d p f e) ∙ sym (file-off m d p (file_after a c p f) e))
      (apart.paths p)

  -- what m reads is as before
  m-copy : (n : List ℕ) (c : Option Copy) → copy_after m (settle_one a k).files n c ≡ copy_after m k.files n c
  m-copy n c = copy-reads m (settle_one a k).files k.files n c (λ p has. get-files a k p ∙ file-off a (copies_after a k) p (maps.get k.files p) (path-off p has))

  m-copies : (n : List ℕ) → has_key m n ≡ true → maps.get (copies_after m (settle_one a k)) n ≡ maps.get (copies_after m k) n
  m-copies n has = get-copies-after m (settle_one a k) n ∙ m-copy n (maps.get (settle_one a k).copies n)
      ∙ ap (copy_after m k.files n) (get-copies a k n ∙ copy-off a k.files n (maps.get k.copies n) (key-off n has)) ∙ sym (get-copies-after m k n)

  module _ (copies : List ℕ → Bool) (files held : Bool) (later : Kept) (is : IsPart copies files held m k later) where
    a-files : (p : List ℕ) → has_path a p ≡ true → maps.get later.files p ≡ maps.get k.files p
    a-files p has = is.at_files p ∙ off files
      where
        off : (b : Bool) → cond b (file_after m (copies_after m k) p (maps.get k.files p)) (maps.get k.files p) ≡ maps.get k.files p
        off true = file-off m (copies_after m k) p (maps.get k.files p) (off-path p has)
        off false = refl

    a-copy : (n : List ℕ) (c : Option Copy) → copy_after a later.files n c ≡ copy_after a k.files n c
    a-copy n c = copy-reads a later.files k.files n c a-files

    a-copies : (n : List ℕ) → has_key a n ≡ true → maps.get (copies_after a later) n ≡ maps.get (copies_after a k) n
    a-copies n has = get-copies-after a later n ∙ a-copy n (maps.get later.copies n) ∙ ap (copy_after a k.files n) (is.at_copies n ∙ off (copies n)) ∙ sym (get-copies-after a k n)
      where
        off : (b : Bool) → cond b (copy_after m k.files n (maps.get k.copies n)) (maps.get k.copies n) ≡ maps.get k.copies n
        off true = copy-off m k.files n (maps.get k.copies n) (off-key n has)
        off false = refl

    pub part-passes : IsPart copies files held m (settle_one a k) (settle_one a later)
    part-passes = record {
      at_copies = λ n.
          get-copies a later n ∙ a-copy n (maps.get later.copies n) ∙ ap (copy_after a k.files n) (is.at_copies n)
          ∙ copies-by n (copies n);
      at_files = λ p.
          get-files a later p ∙ file-reads a (copies_after a later) (copies_after a k) p (maps.get later.files p) a-copies ∙ ap (file_after a (copies_after a k) p) (is.at_files p)
          ∙ files-by p files;
      at_held = λ n. get-held a later n ∙ ap (held_after a n) (is.at_held n) ∙ held-by n held;
      order = is.order;
    }
      where
        copies-by : (n : List ℕ) (b : Bool) → copy_after a k.files n (cond b (copy_after m k.files n (maps.get k.copies n)) (maps.get k.copies n)) ≡ cond b (copy_after m (settle_one a k).files n (maps.get (settle_one a k).copies n)) (maps.get (settle_one a k).copies n)
        copies-by n true = copies-swap n (maps.get k.copies n) ∙ sym (m-copy n (maps.get (settle_one a k).copies n) ∙ ap (copy_after m k.files n) (get-copies a k n))
        copies-by n false = sym (get-copies a k n)

        files-by : (p : List ℕ) (b : Bool) → file_after a (copies_after a k) p (cond b (file_after m (copies_after m k) p (maps.get k.files p)) (maps.get k.files p)) ≡ cond b (file_after m (copies_after m (settle_one a k)) p (maps.get (settle_one a k).files p)) (maps.get (settle_one a k).files p)
        files-by p true = files-swap (copies_after a k) (copies_after m k) p (maps.get k.files p)
            ∙ sym (file-reads m (copies_after m (settle_one a k)) (copies_after m k) p (maps.get (settle_one a k).files p) m-copies ∙ ap (file_after m (copies_after m k) p) (get-files a k p))
        files-by p false = sym (get-files a k p)

        held-by : (n : List ℕ) (b : Bool) → held_after a n (cond b (held_after m n (maps.get k.held n)) (maps.get k.held n)) ≡ cond b (held_after m n (maps.get (settle_one a k).held n)) (maps.get (settle_one a k).held n)
        held-by n true = held-swap n (maps.get k.held n) ∙ sym (ap (held_after m n) (get-held a k n))
        held-by n false = sym (get-held a k n)

-- THE THIRD LAW: the order of two that are apart
pub settled-swap : (a b : Moved) (k : Kept) → Apart a b → settle_one a (settle_one b k) ≡ settle_one b (settle_one a k)
settled-swap a b k apart = whole-settled b (settle_one a k) (settle_one a (settle_one b k)) (part-passes a b apart k (λ n. true) true true (settle_one b k) (settled-whole b k))

-- it is ready still
pub gives-has : (m : Moved) (n : List ℕ) (g : LinkRow) → numbered m.gives n ≡ Some g → (has_key m n ≡ true) × (has_path m g.path ≡ true)
gives-has m n g e = (
  ap (λ (x : List ℕ). list_any (is_at x) (keys_of m)) (find-key (λ (l : LinkRow). link_key l.link) m.gives n g e)
      ∙ any-append (is_at (link_key g.link)) (map (λ (l : LinkRow). link_key l.link) m.gives) (map (λ (l : LinkRow). link_key l.link) m.takes)
      ∙ or-left (list_any (is_at (link_key g.link)) (map (λ (l : LinkRow). link_key l.link) m.gives)) (list_any (is_at (link_key g.link)) (map (λ (l : LinkRow). link_key l.link) m.takes)) (find-any (λ (l : LinkRow). link_key l.link) (λ (l : LinkRow). link_key l.link) m.gives n g e),
  any-append (is_at g.path) (map (λ (l : LinkRow). l.path) m.gives) (map (λ (l : LinkRow). l.path) m.takes)
      ∙ or-left (list_any (is_at g.path) (map (λ (l : LinkRow). l.path) m.gives)) (list_any (is_at g.path) (map (λ (l : LinkRow). l.path) m.takes)) (find-any (λ (l : LinkRow). link_key l.link) (λ (l : LinkRow). l.path) m.gives n g e),
)

pub ready-passes : (a m : Moved) (k : Kept) → Apart a m → IsReady m k → IsReady m (settle_one a k)
ready-passes a m k apart ready n g e r =
    let has = gives-has m n g e in
    ap (λ (c : Option Copy). is_some (first_copy c (maps.get (settle_one a k).files g.path))) (get-copies a k n ∙ copy-off a k.files n (maps.get k.copies n) (key-off a m apart k n has.0))
    ∙ ap (λ (f : Option File). is_some (first_copy (maps.get k.copies n) f)) (get-files a k g.path ∙ file-off a (copies_after a k) g.path (maps.get k.files g.path) (path-off a m apart k g.path has.1))
    ∙ ready n g e r

-- where the copies are there afterwards, it was ready
pub ready-of-copies : (m : Moved) (k : Kept) → ((n : List ℕ) (g : LinkRow) → numbered m.gives n ≡ Some g → g.options.recovery ≡ true → is_some (maps.get (settle_one m k).copies n) ≡ true) → IsReady m k
ready-of-copies m k there n g e r =
    sym (ap is_some (get-copies m k n ∙ ap (λ (x : Option LinkRow). by_give k.files x (maps.get k.copies n)) e ∙ ap (λ b. cond b (first_copy (maps.get k.copies n) (maps.get k.files g.path)) (maps.get k.copies n)) r)) ∙ there n g e r

-- what is ready stays ready while one is settled

some-first : (c : Option Copy) (f : Option File) → is_some c ≡ true → is_some (first_copy c f) ≡ true
some-first (Some c) f e = refl
some-first None f e = absurd (false_true e)

module _ (copies : List ℕ → Bool) (files held : Bool) (m : Moved) (k later : Kept) (is : IsPart copies files held m k later) where
  pub ready-part : IsReady m k → IsReady m later
  ready-part ready n g e r = ⊎_elim
      (λ (done : copies n ≡ true). some-first (maps.get later.copies n) (maps.get later.files g.path)
      (ap is_some (is.at_copies n ∙ ap (λ b. cond b (copy_after m k.files n (maps.get k.copies n)) (maps.get k.copies n)) done ∙ first) ∙ ready n g e r))
      (λ (not_yet : copies n ≡ false). ⊎_elim
      (λ (all_done : files ≡ true). absurd (false_true (sym not_yet ∙ is.order all_done n)))
      (λ (none : files ≡ false).
      ap (λ (c : Option Copy). is_some (first_copy c (maps.get later.files g.path))) (is.at_copies n ∙ ap (λ b. cond b (copy_after m k.files n (maps.get k.copies n)) (maps.get k.copies n)) not_yet)
      ∙ ap (λ (f : Option File). is_some (first_copy (maps.get k.copies n) f)) (is.at_files g.path ∙ ap (λ b. cond b (file_after m (copies_after m k) g.path (maps.get k.files g.path)) (maps.get k.files g.path)) none)
      ∙ ready n g e r)
      (either files))
      (either (copies n))
    where
      first : copy_after m k.files n (maps.get k.copies n) ≡ first_copy (maps.get k.copies n) (maps.get k.files g.path)
      first = ap (λ (x : Option LinkRow). by_give k.files x (maps.get k.copies n)) e ∙ ap (λ b. cond b (first_copy (maps.get k.copies n) (maps.get k.files g.path)) (maps.get k.copies n)) r

  pub ready-other : (a : Moved) → Apart a m → IsReady a k → IsReady a later
  ready-other a apart ready n g e r =
      let has = gives-has a n g e in
      ap (λ (c : Option Copy). is_some (first_copy c (maps.get later.files g.path))) (is.at_copies n ∙ off_copy (copies n) (off-key a m apart k n has.0))
      ∙ ap (λ (f : Option File). is_some (first_copy (maps.get k.copies n) f)) (is.at_files g.path ∙ off_file files (off-path a m apart k g.path has.1))
      ∙ ready n g e r
    where
      off_copy : (b : Bool) → has_key m n ≡ false → cond b (copy_after m k.files n (maps.get k.copies n)) (maps.get k.copies n) ≡ maps.get k.copies n
      off_copy true off = copy-off m k.files n (maps.get k.copies n) off
      off_copy false off = refl

      off_file : (b : Bool) → has_path m g.path ≡ false → cond b (file_after m (copies_after m k) g.path (maps.get k.files g.path)) (maps.get k.files g.path) ≡ maps.get k.files g.path
      off_file true off = file-off m (copies_after m k) g.path (maps.get k.files g.path) off
      off_file false off = refl
