-- THE LAW OF ONE APPEND for the records of a Finish as they are.
use Rattle.std.proofs.Common.{◌≡◌, ⊎_elim, ℕ, List, [], ◌∷◌, Bool, true, false, cond, ◌&&◌, Option, Some, None, is_some, is_none, refl, sym, ◌∙◌, ap}
use Rattle.std.specs.List.{find}
use Rattle.std.specs.FinMap as maps
use Rattle.std.specs.FinMap.{get-insert}
use Rattle.std.specs.Cmp.Lexicographic.{nat_list_cmp_total}
use Rattle.std.proofs.lemmas.Slice.Eq.{bytes_eq-Decides}
use Rattle.sha2.specs.Sha256.{sha256}
use Rattle.dl_base.specs.declared.file.FileChange.{FileChange}
use Rattle.dl_base.specs.declared.value.LinkRow.{LinkRow}
use Rattle.dl_codec.specs.declared.archive.ArchiveRecord.TheVariants as archive_records
use Rattle.dl_codec.specs.declared.links.BranchPhase.TheVariants.{Committed}
use Rattle.meaning_files.specs.Files.{Files, with_changes}
use Rattle.meaning_settling.specs.Keyed.{is_at}
use Rattle.meaning_settling.specs.Settling.{Copy, Moved, Kept, link_key, numbered, first_copy, by_give, copy_after, settle_one}
use Rattle.meaning_settling.proofs.KeyedLaws.{either, is_at-same, find-key}
use Rattle.meaning_settling.proofs.PartLaws.{get-files}
use Rattle.meaning_areas.specs.Branches.{branch}
use Rattle.meaning_areas.specs.Commits.{commit_of}
use Rattle.meaning_areas.specs.Finishing.{made_copy, is_missing, missing, batch_changes, after_copies, or_copy, by_missing, next_record}
use Rattle.meaning_areas.specs.Lists.{Folds, in_archive, with_files, with_copies}
use Rattle.meaning_areas.specs.Copies.{copies_on}
use Rattle.meaning_areas.specs.Stands.{kept_of, Stored, IsStand}
use Rattle.meaning_areas.proofs.Append.{append-part, append-done}
use Rattle.meaning_areas.proofs.Batches.{batch-does}
use Rattle.meaning_areas.proofs.Tables.{some_same}
use Rattle.meaning_areas.specs.Moving.{with_kept, Stays}

false_true : false ≡ true → ⊥
false_true e = cc

both : (a b : Bool) → (a && b) ≡ true → (a ≡ true) × (b ≡ true)
both true b e = (refl, e)
both false b e = absurd (false_true e)

is-none : {A : Type 0} (o : Option A) → is_none o ≡ true → o ≡ None
is-none None e = refl
is-none (Some x) e = absurd (false_true e)

module _ {A : Type 0} where
  find-passes : (p : A → Bool) (xs : List A) (t : A) → find p xs ≡ Some t → p t ≡ true
  find-passes p [] t e = absurd cc
  find-passes p (x ∷ xs) t e = ⊎_elim
      (λ (here : p x ≡ true). ap p (sym (some_same x t (sym (ap (λ b. cond b (Some x) (find p xs)) here) ∙ e))) ∙ here)
      (λ (there : p x ≡ false). find-passes p xs t (sym (ap (λ b. cond b (Some x) (find p xs)) there) ∙ e))
      (either (p x))

  -- where none passes, none that another test finds does
  none-passes : (p q : A → Bool) (xs : List A) (t : A) → find p xs ≡ None → find q xs ≡ Some t → p t ≡ false
  none-passes p q [] t none e = absurd cc
  none-passes p q (x ∷ xs) t none e = ⊎_elim
      (λ (here : p x ≡ true). absurd (some_none x (sym (ap (λ b. cond b (Some x) (find p xs)) here) ∙ none)))
      (λ (not_x : p x ≡ false). ⊎_elim
      (λ (found : q x ≡ true). ap p (sym (some_same x t (sym (ap (λ b. cond b (Some x) (find q xs)) found) ∙ e))) ∙ not_x)
      (λ (not_found : q x ≡ false). none-passes p q xs t (sym (ap (λ b. cond b (Some x) (find p xs)) not_x) ∙ none) (sym (ap (λ b. cond b (Some x) (find q xs)) not_found) ∙ e))
      (either (q x)))
      (either (p x))
    where
      some_none : (x : A) → Some x ≡ None → ⊥
      some_none x e = cc

-- where no copy is missing all are there
copies-done : (m : Moved) (k : Kept) → missing m k ≡ None → (n : List ℕ) → maps.get k.copies n ≡ copy_after m k.files n (maps.get k.copies n)
copies-done m k none n = at (maps.get k.copies n) refl
  where
    kept : (x : Option LinkRow) (c : Copy) → Some c ≡ by_give k.files x (Some c)
    kept None c = refl
    kept (Some g) c = by g.options.recovery
      where
        by : (b : Bool) → Some c ≡ cond b (first_copy (Some c) (maps.get k.files g.path)) (Some c)
        by true = refl
        by false = refl

    not_some : (o : Option Copy) → is_some o ≡ false → None ≡ o
    not_some None e = refl
    not_some (Some c) e = absurd (false_true (sym e))

    last : (b c : Bool) → b ≡ true → (b && c) ≡ false → c ≡ false
    last true c e f = f
    last false c e f = absurd (false_true e)

    wants : maps.get k.copies n ≡ None → (x : Option LinkRow) → numbered m.gives n ≡ x → None ≡ by_give k.files x None
    wants empty None e = refl
    wants empty (Some g) e =
        let is_n : n ≡ link_key g.link = find-key (λ (l : LinkRow). link_key l.link) m.gives n g e in
        let fails : is_missing m k.files k.copies g ≡ false = none-passes (is_missing m k.files k.copies) (λ (l : LinkRow). is_at n (link_key l.link)) m.gives g none e in
        not_some _ (last (is_none (maps.get k.copies n)) (is_some (by_give k.files (Some g) None)) (ap is_none empty)
        (ap (λ (x : Option LinkRow). is_none (maps.get k.copies n) && is_some (by_give k.files x None)) (sym e) ∙ ap (λ (y : List ℕ). is_none (maps.get k.copies y) && is_some (copy_after m k.files y None)) is_n ∙ fails))

    at : (c : Option Copy) → maps.get k.copies n ≡ c → maps.get k.copies n ≡ copy_after m k.files n (maps.get k.copies n)
    at (Some c) e = e ∙ kept (numbered m.gives n) c ∙ ap (copy_after m k.files n) (sym e)
    at None e = e ∙ wants e (numbered m.gives n) refl ∙ ap (copy_after m k.files n) (sym e)

module _ (f : Folds) (s : Stored) (stand : IsStand f s) (tx : ℕ) (m : Moved) (committed : is_some (commit_of tx f.rows.commits) ≡ true) (at : maps.get f.links.table tx ≡ Some (branch m Committed)) where
  -- a copy
  copy-stays : (g : LinkRow) (c : Copy) → missing m (kept_of f) ≡ Some g → copy_after m f.files (link_key g.link) None ≡ Some c
      → Stays f (with_kept f f.files (maps.insert f.copies (link_key g.link) c)) (in_archive (archive_records.Copy (made_copy g.link c))) s
  copy-stays g c found makes =
      let passes = both (is_none (maps.get f.copies (link_key g.link))) (is_some (copy_after m f.files (link_key g.link) None)) (find-passes (is_missing m f.files f.copies) m.gives g found) in
      let empty : maps.get f.copies (link_key g.link) ≡ None = is-none (maps.get f.copies (link_key g.link)) passes.0 in
      record {
        accepted = ap (λ (o : Option Copy). with_copies f (copies_on f.copies (made_copy g.link c) o)) empty
            ∙ ap (λ b. with_copies f (cond b (Some (maps.insert f.copies (link_key g.link) c)) None)) ((bytes_eq-Decides (sha256 c.bytes) (sha256 c.bytes)).1 refl);
        stand = append-part f s stand tx m Committed (λ n. is_at n (link_key g.link)) false f.files (maps.insert f.copies (link_key g.link) c) committed at refl (record {
          at_copies = λ n. get-insert nat_list_cmp_total f.copies (link_key g.link) c n ∙ ⊎_elim
              (λ (here : is_at n (link_key g.link) ≡ true).
              ap (λ b. cond b (Some c) (maps.get f.copies n)) here ∙ sym makes
              ∙ ap (copy_after m f.files (link_key g.link)) (sym empty) ∙ ap (λ (y : List ℕ). copy_after m f.files y (maps.get f.copies y)) (sym (is_at-same n (link_key g.link) here))
              ∙ sym (ap (λ b. cond b (copy_after m f.files n (maps.get f.copies n)) (maps.get f.copies n)) here))
              (λ (there : is_at n (link_key g.link) ≡ false).
              ap (λ b. cond b (Some c) (maps.get f.copies n)) there ∙ sym (ap (λ b. cond b (copy_after m f.files n (maps.get f.copies n)) (maps.get f.copies n)) there))
              (either (is_at n (link_key g.link)));
          at_files = λ p. refl;
          at_held = λ p. refl;
          order = λ e. absurd (false_true e);
        });
      }

  -- the files, or Done
  rest-stays : ((n : List ℕ) → maps.get f.copies n ≡ copy_after m f.files n (maps.get f.copies n)) → (cs : List FileChange) → with_changes f.files cs ≡ Some (settle_one m (kept_of f)).files → (later : Folds) × Stays f later (after_copies tx cs) s
  rest-stays copies [] does =
      let same : f.files ≡ (settle_one m (kept_of f)).files = some_same f.files (settle_one m (kept_of f)).files does in
      (_, append-done f s stand tx m committed at copies (λ p. ap (λ (x : Files). maps.get x p) same ∙ get-files m (kept_of f) p))
  rest-stays copies (c ∷ cs) does = (
    with_kept f (settle_one m (kept_of f)).files f.copies,
    record {
      accepted = ap (with_files f) does;
      stand = append-part f s stand tx m Committed (λ n. true) true (settle_one m (kept_of f)).files f.copies committed at refl (record {
        at_copies = copies;
        at_files = get-files m (kept_of f);
        at_held = λ p. refl;
        order = λ e n. refl;
      });
    },
  )

  -- THE NEXT RECORD is accepted, and the lists stand for the same
  pub next-stays : (later : Folds) × Stays f later (next_record tx m (kept_of f)) s
  next-stays = by (missing m (kept_of f)) refl
    where
      made : (g : LinkRow) → missing m (kept_of f) ≡ Some g → (o : Option Copy) → copy_after m f.files (link_key g.link) None ≡ o
          → (later : Folds) × Stays f later (or_copy m f.files (after_copies tx (batch_changes m (kept_of f))) g o) s
      made g found (Some c) e = (with_kept f f.files (maps.insert f.copies (link_key g.link) c), copy-stays g c found e)
      made g found None e = absurd (false_true (ap is_some (sym e) ∙ (both (is_none (maps.get f.copies (link_key g.link))) (is_some (copy_after m f.files (link_key g.link) None)) (find-passes (is_missing m f.files f.copies) m.gives g found)).1))

      by : (o : Option LinkRow) → missing m (kept_of f) ≡ o → (later : Folds) × Stays f later (by_missing tx m (kept_of f) o) s
      by None none = rest-stays (copies-done m (kept_of f) none) (batch_changes m (kept_of f)) (batch-does m (kept_of f))
      by (Some g) found = made g found (copy_after m f.files (link_key g.link) None) refl
