-- AN ARCHIVED COPY of the file of a committed link: it is a part of giving that link up, which no open transaction has to do with.
use Rattle.std.proofs.Common.{◌≡◌, inl, inr, ⊎_elim, ℕ, List, [], ◌∷◌, Bool, true, false, cond, ◌||◌, Option, Some, None, is_some, refl, sym, ◌∙◌, ap, subst}
use Rattle.std.specs.FinMap as maps
use Rattle.std.specs.FinMap.{get-insert}
use Rattle.std.specs.Cmp.Lexicographic.{nat_list_cmp_total}
use Rattle.dl_base.specs.declared.file.File.{File}
use Rattle.dl_base.specs.declared.value.LinkRow.{LinkRow}
use Rattle.meaning_files.specs.Files.{Files}
use Rattle.meaning_settling.specs.Apart.{Apart, IsPart, IsReady, has_key, has_path}
use Rattle.meaning_settling.specs.Keyed.{is_at}
use Rattle.meaning_settling.specs.Settled.{settle_open, settled}
use Rattle.meaning_settling.specs.Settling.{Copies, Copy, Kept, Moved, by_give, copy_after, copy_of, first_copy, link_key, numbered, on}
use Rattle.meaning_settling.proofs.KeyedLaws.{either, is_at-same, same_keyed}
use Rattle.meaning_settling.proofs.PartLaws.{part-passes}
use Rattle.meaning_settling.proofs.SettledLaws.{settled-copies, settled-files}
use Rattle.meaning_tables.specs.Links.{links}
use Rattle.meaning_areas.specs.Commits.{Commit, tables_after}
use Rattle.meaning_areas.specs.Core.{Core, core_kept, core_stored, decided_in}
use Rattle.meaning_areas.specs.Joint.{Joint}
use Rattle.meaning_areas.specs.Lists.{Folds}
use Rattle.meaning_areas.specs.Moving.{core_kept_as, with_kept}
use Rattle.meaning_areas.specs.Stands.{IsCommit, IsWhole, kept_of, txs_of}
use Rattle.meaning_areas.proofs.Deciding.{joint-kept}
use Rattle.meaning_areas.proofs.Whole.{whole-archived}

false_true : false ≡ true → ⊥
false_true e = cc

-- a part of one that nobody has to do with is one still, when others are settled
settled-passes : (open_at : ℕ → Option Moved) (ts : List ℕ) (copies : List ℕ → Bool) (m : Moved) (k later : Kept) → ((t : ℕ) (a : Moved) → open_at t ≡ Some a → Apart a m) → IsPart copies false false m k later → IsPart copies false false m (settled open_at ts k) (settled open_at ts later)
settled-passes open_at [] copies m k later apart part = part
settled-passes open_at (t ∷ ts) copies m k later apart part = settled-passes open_at ts copies m (settle_open (open_at t) k) (settle_open (open_at t) later) apart (by (open_at t) refl)
  where
    by : (o : Option Moved) → open_at t ≡ o → IsPart copies false false m (settle_open o k) (settle_open o later)
    by None e = part
    by (Some a) e = part-passes a m (apart t a e) k copies false false later part

module _ (f : Folds) (c : Core) (joint : Joint f c) (l : LinkRow) (file : File) (recovers : l.options.recovery ≡ true) (there : maps.get c.files l.path ≡ Some file) (none : maps.get c.copies (link_key l.link) ≡ None)
    (off : (t : ℕ) (a : Moved) → decided_in c t ≡ Some a → (has_path a l.path ≡ false) × (has_key a (link_key l.link) ≡ false)) where
  abbrev one : Moved
  one = record { gives = l ∷ []; takes = []; fill = false }

  abbrev copied : Copies
  copied = maps.insert c.copies (link_key l.link) (copy_of file)

  abbrev here : List ℕ → Bool
  here n = is_at n (link_key l.link)

  apart : (t : ℕ) (a : Moved) → decided_in c t ≡ Some a → Apart a (record { gives = l ∷ []; takes = []; fill = false })
  apart t a e = record {
    paths = λ p. ⊎_elim
        (λ (at : is_at p l.path ≡ true). inl (ap (has_path a) (is_at-same p l.path at) ∙ (off t a e).0))
        (λ (other : is_at p l.path ≡ false). inr (ap (λ b. b || false) other))
        (either (is_at p l.path));
    keys = λ n. ⊎_elim
        (λ (at : is_at n (link_key l.link) ≡ true). inl (ap (has_key a) (is_at-same n (link_key l.link) at) ∙ (off t a e).1))
        (λ (other : is_at n (link_key l.link) ≡ false). inr (ap (λ b. b || false) other))
        (either (is_at n (link_key l.link)));
  }

  -- the copy that giving the link would make
  made : (files : Files) (o : Option Copy) (n : List ℕ) → maps.get files l.path ≡ Some file → o ≡ None → is_at n (link_key l.link) ≡ true → copy_after (record { gives = l ∷ []; takes = []; fill = false }) files n o ≡ Some (copy_of file)
  made files o n at empty is =
      ap (λ b. by_give files (cond b (Some l) None) o) is
      ∙ ap (λ b. cond b (first_copy o (maps.get files l.path)) o) recovers
      ∙ ap (λ (x : Option Copy). first_copy x (maps.get files l.path)) empty
      ∙ ap (first_copy None) at

  part : IsPart (λ n. is_at n (link_key l.link)) false false (record { gives = l ∷ []; takes = []; fill = false }) (core_kept c) (core_kept (core_kept_as c c.files copied))
  part = record {
    at_copies = λ n. get-insert nat_list_cmp_total c.copies (link_key l.link) (copy_of file) n ∙ by n (is_at n (link_key l.link)) refl;
    at_files = λ p. refl;
    at_held = λ p. refl;
    order = λ e. absurd (false_true e);
  }
    where
      by : (n : List ℕ) (b : Bool) → is_at n (link_key l.link) ≡ b → cond b (Some (copy_of file)) (maps.get c.copies n) ≡ cond b (copy_after (record { gives = l ∷ []; takes = []; fill = false }) c.files n (maps.get c.copies n)) (maps.get c.copies n)
      by n true is = sym (made c.files (maps.get c.copies n) n there (ap (maps.get c.copies) (is_at-same n (link_key l.link) is) ∙ none) is)
      by n false is = refl

  abbrev before : Kept
  before = settled (decided_in c) (txs_of c.commits) (core_kept c)

  abbrev behind : Kept
  behind = settled (decided_in c) (txs_of c.commits) (core_kept (core_kept_as c c.files copied))

  file-there : maps.get before.files l.path ≡ Some file
  file-there = settled-files (decided_in c) (txs_of c.commits) (core_kept c) l.path (λ t a e. (off t a e).0) ∙ there

  copy-none : maps.get before.copies (link_key l.link) ≡ None
  copy-none = settled-copies (decided_in c) (txs_of c.commits) (core_kept c) (link_key l.link) (λ t a among e. (off t a e).1) ∙ none

  passes : IsPart (λ n. is_at n (link_key l.link)) false false (record { gives = l ∷ []; takes = []; fill = false }) before behind
  passes = settled-passes (decided_in c) (txs_of c.commits) (λ n. is_at n (link_key l.link)) (record { gives = l ∷ []; takes = []; fill = false }) (core_kept c) (core_kept (core_kept_as c c.files copied)) apart part

  same-files : behind.files ≡ before.files
  same-files = same_keyed behind.files before.files (λ p. passes.at_files p)

  same-copies : behind.copies ≡ maps.insert before.copies (link_key l.link) (copy_of file)
  same-copies = same_keyed behind.copies (maps.insert before.copies (link_key l.link) (copy_of file))
      (λ n. passes.at_copies n ∙ by n (is_at n (link_key l.link)) refl ∙ sym (get-insert nat_list_cmp_total before.copies (link_key l.link) (copy_of file) n))
    where
      by : (n : List ℕ) (b : Bool) → is_at n (link_key l.link) ≡ b → cond b (copy_after (record { gives = l ∷ []; takes = []; fill = false }) before.files n (maps.get before.copies n)) (maps.get before.copies n) ≡ cond b (Some (copy_of file)) (maps.get before.copies n)
      by n true is = made before.files (maps.get before.copies n) n file-there (ap (maps.get before.copies) (is_at-same n (link_key l.link) is) ∙ copy-none) is
      by n false is = refl

  -- THE LISTS WITH THE COPY go with the core that has it
  pub joint-archived : (x : Commit) → IsCommit x c.commits → on (links (tables_after [] c.commits)) l.path ≡ Some l → numbered (links x.tables) (link_key l.link) ≡ Some l
      → ((q : List ℕ) (t : LinkRow) → on (links (tables_after [] c.commits)) q ≡ Some t → is_at (link_key t.link) (link_key l.link) ≡ true → q ≡ l.path)
      → Joint (with_kept f c.files copied) (core_kept_as c c.files copied)
  joint-archived x is_commit at number only =
      let whole = whole-archived (core_stored c) l.path l (copy_of file) file x joint.whole at recovers file-there refl is_commit number only in
      let same : core_stored (core_kept_as c c.files copied) ≡ record { commits = c.commits; files = before.files; copies = maps.insert before.copies (link_key l.link) (copy_of file); backups = c.backups; rows_opening = c.rows_opening; links_opening = c.links_opening } =
      λ i. record { commits = c.commits; files = same-files i; copies = same-copies i; backups = c.backups; rows_opening = c.rows_opening; links_opening = c.links_opening } in
      joint-kept f c joint c.files copied ready (subst IsWhole (sym same) whole)
    where
      ready : (t : ℕ) (m : Moved) → decided_in c t ≡ Some m → IsReady m (kept_of (with_kept f c.files copied))
      ready t m e n g is r =
          ap (λ (o : Option Copy). is_some (first_copy o (maps.get c.files g.path))) (get-insert nat_list_cmp_total c.copies (link_key l.link) (copy_of file) n)
          ∙ by (is_at n (link_key l.link)) (ap (λ (files : Files). is_some (first_copy (maps.get c.copies n) (maps.get files g.path))) (sym joint.files) ∙ ap (λ (copies : Copies). is_some (first_copy (maps.get copies n) (maps.get f.files g.path))) (sym joint.copies) ∙ joint.ready t m e n g is r)
        where
          by : (b : Bool) → is_some (first_copy (maps.get c.copies n) (maps.get c.files g.path)) ≡ true → is_some (first_copy (cond b (Some (copy_of file)) (maps.get c.copies n)) (maps.get c.files g.path)) ≡ true
          by true was = refl
          by false was = was
