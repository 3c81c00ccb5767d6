-- A commit, an archived copy and a backup keep what holds of each stored part.
use Rattle.std.proofs.Common.{◌≡◌, inl, inr, ⊎_elim, ℕ, zero, suc, List, [], ◌∷◌, ◌++◌, Bool, true, false, cond, map, Option, Some, None, is_some, refl, sym, ◌∙◌, ap, subst}
use Rattle.std.specs.Prelude.{IsTrue}
use Rattle.std.specs.FinMap as maps
use Rattle.std.specs.FinMap.{get-insert}
use Rattle.std.specs.Cmp.Lexicographic.{nat_list_cmp_total}
use Rattle.std.proofs.lemmas.List.Elements.{All-push}
use Rattle.dl_base.specs.declared.file.File.{File}
use Rattle.dl_base.specs.declared.value.LinkRow.{LinkRow}
use Rattle.meaning_tables.specs.Fits.{differ}
use Rattle.meaning_tables.specs.Links.{links}
use Rattle.meaning_tables.specs.Tables.{Tables}
use Rattle.meaning_settling.specs.Apart.{IsReady}
use Rattle.meaning_settling.specs.Keyed.{is_at}
use Rattle.meaning_settling.specs.Settling.{Copy, Moved, Kept, on, numbered, link_key, first_copy, by_give, copy_after, by_links, copies_after, held_by, settle_one}
use Rattle.meaning_settling.proofs.KeyedLaws.{either, is_at-same}
use Rattle.meaning_settling.proofs.PartLaws.{get-copies, get-files}
use Rattle.meaning_files.specs.Files.{Files}
use Rattle.meaning_areas.specs.Commits.{Commit, tables_after}
use Rattle.meaning_areas.specs.Merges.{Merges}
use Rattle.meaning_areas.specs.Copies.{Backup}
use Rattle.meaning_areas.specs.Stands.{past, Stored, stored_with, IsCommit, IsWhole}
use Rattle.meaning_areas.proofs.Tables.{some_same, not_none, tables-push, commit-push, one-link-push}

false_true : false ≡ true → ⊥
false_true e = cc

pub in-more : (x d : Commit) (cs : List Commit) → IsCommit x cs → IsCommit x (cs ++ d ∷ [])
in-more x d [] is = absurd is
in-more x d (c ∷ cs) is = ⊎_elim (λ e. inl e) (λ later. inr (in-more x d cs later)) is

pub in-last : (d : Commit) (cs : List Commit) → IsCommit d (cs ++ d ∷ [])
in-last d [] = inl refl
in-last d (c ∷ cs) = inr (in-last d cs)

past-push : (t : Tables) (d : Commit) (cs : List Commit) (n : ℕ) (x : Tables) → past t cs n ≡ Some x → past t (cs ++ d ∷ []) n ≡ Some x
past-push t d [] zero x e = e
past-push t d [] (suc n) x e = absurd cc
past-push t d (c ∷ cs) zero x e = e
past-push t d (c ∷ cs) (suc n) x e = past-push c.tables d cs n x e

-- A COMMIT
module _ (cs : List Commit) (bs : List Backup) (ro lo : ℕ) (k : Kept) (m : Moved) (d : Commit) (whole : IsWhole (stored_with cs bs ro lo k)) (merges : Merges cs k m d.tables) (ready : IsReady m k) where
  last : tables_after [] (cs ++ d ∷ []) ≡ d.tables
  last = tables-push [] d cs

  on-last : (p : List ℕ) (l : LinkRow) → on (links (tables_after [] (cs ++ d ∷ []))) p ≡ Some l → held_by (on m.gives p) (on m.takes p) (on (links (tables_after [] cs)) p) ≡ Some l
  on-last p l e = sym (merges.moved p) ∙ ap (λ (t : Tables). on (links t) p) (sym last) ∙ e

  kept-copy : (n : List ℕ) → is_some (maps.get k.copies n) ≡ true → is_some (maps.get (settle_one m k).copies n) ≡ true
  kept-copy n some = ap is_some (get-copies m k n) ∙ by (numbered m.gives n) (maps.get k.copies n) some
    where
      of : (b : Bool) (c : Option Copy) (f : Option File) → is_some c ≡ true → is_some (cond b (first_copy c f) c) ≡ true
      of true (Some c) f e = refl
      of true None f e = absurd (false_true e)
      of false c f e = e

      by : (x : Option LinkRow) (c : Option Copy) → is_some c ≡ true → is_some (by_give k.files x c) ≡ true
      by None c e = e
      by (Some g) c e = of g.options.recovery c (maps.get k.files g.path) e

  new-copy : (n : List ℕ) (g : LinkRow) → numbered m.gives n ≡ Some g → g.options.recovery ≡ true → is_some (maps.get (settle_one m k).copies n) ≡ true
  new-copy n g e r = ap is_some (get-copies m k n ∙ ap (λ (x : Option LinkRow). by_give k.files x (maps.get k.copies n)) e ∙ ap (λ b. cond b (first_copy (maps.get k.copies n) (maps.get k.files g.path)) (maps.get k.copies n)) r) ∙ ready n g e r

  pub whole-decided : IsWhole (stored_with (cs ++ d ∷ []) bs ro lo (settle_one m k))
  whole-decided = record {
    paths = λ x is. ⊎_elim (λ old. whole.paths x old) (λ (e : x ≡ d). subst (λ (y : Commit). IsTrue (differ is_at (map (λ (l : LinkRow). l.path) (links y.tables)))) (sym e) merges.paths) (commit-push x d cs is);
    one_path = one-link-push cs d whole.one_path merges.one_path;
    files = λ p l e. file p l (on m.gives p) (on m.takes p) refl refl (on-last p l e);
    copies = λ n some. copy n (maps.get k.copies n) refl (sym (ap is_some (get-copies m k n)) ∙ some);
    archived = λ x n l is at r none. ⊎_elim
        (λ old. ⊎_elim
        (λ before. kept-copy n (whole.archived x n l old at r before))
        (λ (given : numbered m.gives n ≡ Some l). new-copy n l given r)
        (merges.gone x n l old at (ap (λ (t : Tables). numbered (links t) n) (sym last) ∙ none)))
        (λ (e : x ≡ d). absurd (not_none l _ at (ap (λ (z : Commit). numbered (links z.tables) n) e ∙ ap (λ (t : Tables). numbered (links t) n) (sym last) ∙ none)))
        (commit-push x d cs is);
    bytes = λ p l c f e at_c at_f. same_bytes p l c f (on m.gives p) (on m.takes p) refl refl (on-last p l e) at_c at_f;
    backups = λ i x lt. past-push [] d cs _ _ (whole.backups i x lt);
  }
    where
      file : (p : List ℕ) (l : LinkRow) (g t : Option LinkRow) → on m.gives p ≡ g → on m.takes p ≡ t → held_by g t (on (links (tables_after [] cs)) p) ≡ Some l → is_some (maps.get (settle_one m k).files p) ≡ true
      file p l g (Some t) at_g at_t e = merges.there p t at_t
      file p l (Some g) None at_g at_t e = absurd cc
      file p l None None at_g at_t e =
          ap is_some (get-files m k p ∙ ap (λ (x : Option LinkRow). by_links m.fill (copies_after m k) x (on m.takes p) (maps.get k.files p)) at_g ∙ ap (λ (x : Option LinkRow). by_links m.fill (copies_after m k) None x (maps.get k.files p)) at_t)
          ∙ whole.files p l e

      copy : (n : List ℕ) (c : Option Copy) → maps.get k.copies n ≡ c → is_some (copy_after m k.files n (maps.get k.copies n)) ≡ true
          → (x : Commit) × (l : LinkRow) × IsCommit x (cs ++ d ∷ []) × (numbered (links x.tables) n ≡ Some l) × (l.options.recovery ≡ true)
      copy n (Some c) e some = let old = whole.copies n (ap is_some e) in (old.0, old.1, in-more old.0 d cs old.2, old.3, old.4)
      copy n None e some = of (numbered m.gives n) refl (sym (ap (λ (c : Option Copy). is_some (copy_after m k.files n c)) e) ∙ some)
        where
          recovers : (b : Bool) (f : Option File) → is_some (cond b (first_copy None f) None) ≡ true → b ≡ true
          recovers true f h = refl
          recovers false f h = absurd (false_true h)

          of : (g : Option LinkRow) → numbered m.gives n ≡ g → is_some (by_give k.files (numbered m.gives n) None) ≡ true → (x : Commit) × (l : LinkRow) × IsCommit x (cs ++ d ∷ []) × (numbered (links x.tables) n ≡ Some l) × (l.options.recovery ≡ true)
          of None at h = absurd (false_true (sym (ap (λ (x : Option LinkRow). is_some (by_give k.files x None)) at) ∙ h))
          of (Some g) at h =
              let was = merges.given n g at in
              (was.0, g, in-more was.0 d cs was.1, was.2, recovers g.options.recovery (maps.get k.files g.path) (sym (ap (λ (x : Option LinkRow). is_some (by_give k.files x None)) at) ∙ h))

      same_bytes : (p : List ℕ) (l : LinkRow) (c : Copy) (f : File) (g t : Option LinkRow) → on m.gives p ≡ g → on m.takes p ≡ t → held_by g t (on (links (tables_after [] cs)) p) ≡ Some l
          → maps.get (settle_one m k).copies (link_key l.link) ≡ Some c → maps.get (settle_one m k).files p ≡ Some f → f.bytes ≡ c.bytes
      same_bytes p l c f g (Some t) at_g at_t e at_c at_f =
          merges.taken p t c f at_t (ap (λ (x : LinkRow). maps.get (settle_one m k).copies (link_key x.link)) (some_same t l e) ∙ at_c) at_f
      same_bytes p l c f (Some g) None at_g at_t e at_c at_f = absurd cc
      same_bytes p l c f None None at_g at_t e at_c at_f =
          whole.bytes p l c f e
          (sym (get-copies m k (link_key l.link) ∙ ap (λ (x : Option LinkRow). by_give k.files x (maps.get k.copies (link_key l.link))) (merges.stays p l at_t at_g e)) ∙ at_c)
          (sym (get-files m k p ∙ ap (λ (x : Option LinkRow). by_links m.fill (copies_after m k) x (on m.takes p) (maps.get k.files p)) at_g ∙ ap (λ (x : Option LinkRow). by_links m.fill (copies_after m k) None x (maps.get k.files p)) at_t) ∙ at_f)

-- A BACKUP of the committed tables
pub whole-backup : (s : Stored) (b : Backup) → IsWhole s → past [] s.commits b.commit ≡ Some b.tables → IsWhole (record { commits = s.commits; files = s.files; copies = s.copies; backups = s.backups ++ b ∷ []; rows_opening = s.rows_opening; links_opening = s.links_opening })
whole-backup s b w is = record {
  paths = w.paths;
  one_path = w.one_path;
  files = w.files;
  copies = w.copies;
  archived = w.archived;
  bytes = w.bytes;
  backups = All-push (λ (x : Backup). past [] s.commits x.commit ≡ Some x.tables) s.backups b w.backups is;
}

-- A FILE COMMAND: each committed link has a file still, which has the bytes of the copy if there is one
pub whole-files : (s : Stored) (files : Files) → IsWhole s
    → ((p : List ℕ) (l : LinkRow) → on (links (tables_after [] s.commits)) p ≡ Some l → is_some (maps.get files p) ≡ true)
    → ((p : List ℕ) (l : LinkRow) (c : Copy) (f : File) → on (links (tables_after [] s.commits)) p ≡ Some l → maps.get s.copies (link_key l.link) ≡ Some c → maps.get files p ≡ Some f → f.bytes ≡ c.bytes)
    → IsWhole (record { commits = s.commits; files = files; copies = s.copies; backups = s.backups; rows_opening = s.rows_opening; links_opening = s.links_opening })
whole-files s files w there bytes = record { paths = w.paths; one_path = w.one_path; files = there; copies = w.copies; archived = w.archived; bytes = bytes; backups = w.backups }

-- AN ARCHIVED COPY of the file of a committed link, whose number no other has
pub whole-archived : (s : Stored) (p : List ℕ) (l : LinkRow) (c : Copy) (f : File) (x : Commit) → IsWhole s
    → on (links (tables_after [] s.commits)) p ≡ Some l → l.options.recovery ≡ true → maps.get s.files p ≡ Some f → f.bytes ≡ c.bytes
    → IsCommit x s.commits → numbered (links x.tables) (link_key l.link) ≡ Some l
    → ((q : List ℕ) (t : LinkRow) → on (links (tables_after [] s.commits)) q ≡ Some t → is_at (link_key t.link) (link_key l.link) ≡ true → q ≡ p)
    → IsWhole (record { commits = s.commits; files = s.files; copies = maps.insert s.copies (link_key l.link) c; backups = s.backups; rows_opening = s.rows_opening; links_opening = s.links_opening })
whole-archived s p l c f x w at recovers file same is_commit number only = record {
  paths = w.paths;
  one_path = w.one_path;
  files = w.files;
  copies = λ n some. ⊎_elim
      (λ (here : is_at n (link_key l.link) ≡ true). (x, l, is_commit, ap (numbered (links x.tables)) (is_at-same n (link_key l.link) here) ∙ number, recovers))
      (λ (there : is_at n (link_key l.link) ≡ false). w.copies n (sym (ap is_some (get-at n ∙ ap (λ b. cond b (Some c) (maps.get s.copies n)) there)) ∙ some))
      (either (is_at n (link_key l.link)));
  archived = λ y n t is is_t r gone. ⊎_elim
      (λ (here : is_at n (link_key l.link) ≡ true). ap is_some (get-at n ∙ ap (λ b. cond b (Some c) (maps.get s.copies n)) here))
      (λ (there : is_at n (link_key l.link) ≡ false). ap is_some (get-at n ∙ ap (λ b. cond b (Some c) (maps.get s.copies n)) there) ∙ w.archived y n t is is_t r gone)
      (either (is_at n (link_key l.link)));
  bytes = λ q t d g at_t at_d at_g. ⊎_elim
      (λ (here : is_at (link_key t.link) (link_key l.link) ≡ true).
      ap (λ (y : File). y.bytes) (some_same g f (sym at_g ∙ ap (maps.get s.files) (only q t at_t here) ∙ file)) ∙ same
      ∙ ap (λ (y : Copy). y.bytes) (some_same c d (sym (get-at (link_key t.link) ∙ ap (λ b. cond b (Some c) (maps.get s.copies (link_key t.link))) here) ∙ at_d)))
      (λ (there : is_at (link_key t.link) (link_key l.link) ≡ false). w.bytes q t d g at_t (sym (get-at (link_key t.link) ∙ ap (λ b. cond b (Some c) (maps.get s.copies (link_key t.link))) there) ∙ at_d) at_g)
      (either (is_at (link_key t.link) (link_key l.link)));
  backups = w.backups;
}
  where
    get-at : (n : List ℕ) → maps.get (maps.insert s.copies (link_key l.link) c) n ≡ cond (is_at n (link_key l.link)) (Some c) (maps.get s.copies n)
    get-at n = get-insert nat_list_cmp_total s.copies (link_key l.link) c n
