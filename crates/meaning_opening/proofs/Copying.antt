-- THE COPIES OF A FINISH are taken one after another, and the lists stand for the same behind each.
use Rattle.std.proofs.Common.{◌≡◌, ℕ, List, [], ◌∷◌, ◌++◌, Bool, true, false, cond, ◌&&◌, Option, Some, None, is_none, is_some, refl, sym, ◌∙◌, ap, subst}
use Rattle.std.specs.Cmp.Lexicographic.{nat_list_cmp_total}
use Rattle.std.specs.FinMap as maps
use Rattle.std.specs.FinMap.{get-insert}
use Rattle.std.specs.List.{cons_option, filter_map, find, list_any}
use Rattle.dl_base.specs.declared.file.File.{File}
use Rattle.dl_base.specs.declared.value.LinkRow.{LinkRow}
use Rattle.dl_codec.specs.declared.archive.ArchiveRecord.TheVariants as archive_records
use Rattle.dl_codec.specs.declared.links.BranchPhase.TheVariants as phases
use Rattle.meaning_areas.specs.Branches.{branch}
use Rattle.meaning_areas.specs.Commits.{commit_of}
use Rattle.meaning_areas.specs.Copies.{copies_step}
use Rattle.meaning_areas.specs.Finishing.{AreNumbered, after_copies, batch_changes, by_missing, copy_by, file_copy, is_missing, next_record, or_copy}
use Rattle.meaning_areas.specs.Lists.{Folds, Written, folds_on, folds_step, in_archive, with_copies}
use Rattle.meaning_areas.specs.Moving.{Stays, with_kept}
use Rattle.meaning_areas.specs.Stands.{IsStand, Stored, kept_of}
use Rattle.meaning_settling.specs.Keyed.{is_at}
use Rattle.meaning_settling.specs.Settling.{Copies, Copy, Moved, by_give, copy_after, copy_of, first_copy, link_key, numbered}
use Rattle.meaning_opening.proofs.Plain.{is_at-self, or-left, or-right, some_same}
use Rattle.meaning_opening.proofs.Walks.{Walk}

-- WHAT THE CRATES BELOW PROMISE of one record

abbrev pub NextStays : Type 0
NextStays = (f : Folds) (s : Stored) (tx : ℕ) (m : Moved) → IsStand f s → is_some (commit_of tx f.rows.commits) ≡ true → maps.get f.links.table tx ≡ Some (branch m phases.Committed)
    → (later : Folds) × Stays f later (next_record tx m (kept_of f)) s

abbrev pub CopyIsTaken : Type 0
CopyIsTaken = (copies : Copies) (l : LinkRow) (f : File) → maps.get copies (link_key l.link) ≡ None → copies_step copies (archive_records.Copy (file_copy l f)) ≡ Some (maps.insert copies (link_key l.link) (copy_of f))

-- links each of which is the first of its number
abbrev pub AreOwn : List LinkRow → List LinkRow → Type 0
AreOwn all [] = Unit {0}
AreOwn all (g ∷ gs) = (numbered all (link_key g.link) ≡ Some g) × AreOwn all gs

abbrev pub IsAmong : List LinkRow → LinkRow → Type 0
IsAmong ls x = list_any (λ (y : LinkRow). is_at (link_key x.link) (link_key y.link)) ls ≡ true

own-more : (l : LinkRow) (all ls : List LinkRow) → ((x : LinkRow) → IsAmong ls x → is_at (link_key x.link) (link_key l.link) ≡ false) → AreOwn all ls → AreOwn (l ∷ all) ls
own-more l all [] differs own = tt
own-more l all (x ∷ xs) differs own = (
  ap (λ b. cond b (Some l) (numbered all (link_key x.link))) (differs x (or-left (is_at (link_key x.link) (link_key x.link)) (list_any (λ (y : LinkRow). is_at (link_key x.link) (link_key y.link)) xs) (is_at-self (link_key x.link)))) ∙ own.0,
  own-more l all xs (λ y among. differs y (or-right (is_at (link_key y.link) (link_key x.link)) (list_any (λ (z : LinkRow). is_at (link_key y.link) (link_key z.link)) xs) among)) own.1,
)

pub own-all : (ls : List LinkRow) → AreNumbered ls → AreOwn ls ls
own-all [] once = tt
own-all (l ∷ ls) once = (ap (λ b. cond b (Some l) (numbered ls (link_key l.link))) (is_at-self (link_key l.link)), own-more l ls ls once.0 (own-all ls once.1))

-- the records of the copies of some links, by what there was at first
abbrev pub copying : Copies → Folds → List LinkRow → List Written
copying first f gs = filter_map (λ (g : LinkRow). copy_by g (maps.get first (link_key g.link)) (maps.get f.files g.path)) gs

module _ (f : Folds) (m : Moved) where
  -- whether a copy is missing
  pub missing-is : (copies : Copies) (g : LinkRow) (o : Option LinkRow) (c : Option Copy) → numbered m.gives (link_key g.link) ≡ o → maps.get copies (link_key g.link) ≡ c
      → is_missing m f.files copies g ≡ (is_none c && is_some (by_give f.files o None))
  missing-is copies g o c own there = λ i. is_none (there i) && is_some (by_give f.files (own i) None)

  -- once the copy of one is there, it is not missing, nor is one more
  less-here : (copies : Copies) (g : LinkRow) (c : Copy) → is_missing m f.files (maps.insert copies (link_key g.link) c) g ≡ false
  less-here copies g c =
      ap (λ (o : Option Copy). is_none o && is_some (copy_after m f.files (link_key g.link) None))
      (get-insert nat_list_cmp_total copies (link_key g.link) c (link_key g.link) ∙ ap (λ b. cond b (Some c) (maps.get copies (link_key g.link))) (is_at-self (link_key g.link)))

  less-there : (copies : Copies) (g x : LinkRow) (c : Copy) → is_missing m f.files copies x ≡ false → is_missing m f.files (maps.insert copies (link_key g.link) c) x ≡ false
  less-there copies g x c fails =
      ap (λ (o : Option Copy). is_none o && is_some (copy_after m f.files (link_key x.link) None)) (get-insert nat_list_cmp_total copies (link_key g.link) c (link_key x.link))
      ∙ by (is_at (link_key x.link) (link_key g.link))
    where
      by : (b : Bool) → (is_none (cond b (Some c) (maps.get copies (link_key x.link))) && is_some (copy_after m f.files (link_key x.link) None)) ≡ false
      by true = refl
      by false = fails

  -- one that is missing can be made of the file
  pub copy-makes : (g : LinkRow) (file : File) → numbered m.gives (link_key g.link) ≡ Some g → maps.get f.files g.path ≡ Some file → g.options.recovery ≡ true → copy_after m f.files (link_key g.link) None ≡ Some (copy_of file)
  copy-makes g file own there kept =
      ap (λ (o : Option LinkRow). by_give f.files o None) own ∙ ap (λ b. cond b (first_copy None (maps.get f.files g.path)) None) kept ∙ ap (first_copy None) there

  pub copy-misses : (copies : Copies) (g : LinkRow) (file : File) → numbered m.gives (link_key g.link) ≡ Some g → maps.get copies (link_key g.link) ≡ None → maps.get f.files g.path ≡ Some file → g.options.recovery ≡ true → is_missing m f.files copies g ≡ true
  copy-misses copies g file own none there kept = λ i. is_none (none i) && is_some (copy-makes g file own there kept i)

  -- THE NEXT RECORD is the copy of the first link whose copy is missing
  pub next-copy : (tx : ℕ) (copies : Copies) (g : LinkRow) (file : File) → numbered m.gives (link_key g.link) ≡ Some g → maps.get f.files g.path ≡ Some file → g.options.recovery ≡ true
      → find (is_missing m f.files copies) m.gives ≡ Some g → next_record tx m (kept_of (with_kept f f.files copies)) ≡ in_archive (archive_records.Copy (file_copy g file))
  next-copy tx copies g file own there kept found =
      ap (by_missing tx m (kept_of (with_kept f f.files copies))) found
      ∙ ap (or_copy m f.files (after_copies tx (batch_changes m (kept_of (with_kept f f.files copies)))) g) (copy-makes g file own there kept)

module _ (next : NextStays) (copied : CopyIsTaken) (f : Folds) (s : Stored) (tx : ℕ) (m : Moved) (committed : is_some (commit_of tx f.rows.commits) ≡ true) (at : maps.get f.links.table tx ≡ Some (branch m phases.Committed)) where
  module _ (last : Folds) (first : Copies) (tail : List Written)
      (behind : (copies : Copies) → IsStand (with_kept f f.files copies) s → folds_on (Some (with_kept f f.files copies)) tail ≡ Some last → Walk (with_kept f f.files copies) tail last s) where
    abbrev Skips : Copies → List LinkRow → Type 0
    Skips copies gs = (q : LinkRow → Bool) → ((x : LinkRow) → is_missing m f.files copies x ≡ false → q x ≡ false) → find q m.gives ≡ find q gs

    abbrev Same : Copies → List LinkRow → Type 0
    Same copies gs = (x : LinkRow) → IsAmong gs x → maps.get copies (link_key x.link) ≡ maps.get first (link_key x.link)

    abbrev Rest : List LinkRow → Type 0
    Rest gs = (c : Copies) → Same c gs → Skips c gs → IsStand (with_kept f f.files c) s → folds_on (Some (with_kept f f.files c)) (copying first f gs ++ tail) ≡ Some last → Walk (with_kept f f.files c) (copying first f gs ++ tail) last s

    pub copies-walk : (gs : List LinkRow) (copies : Copies) → AreNumbered gs → AreOwn m.gives gs → Same copies gs → Skips copies gs → IsStand (with_kept f f.files copies) s
        → folds_on (Some (with_kept f f.files copies)) (copying first f gs ++ tail) ≡ Some last → Walk (with_kept f f.files copies) (copying first f gs ++ tail) last s
    copies-walk [] copies once own same skips stand taken = behind copies stand taken
    copies-walk (g ∷ gs) copies once own same skips stand taken =
        by (λ c. copies-walk gs c once.1 own.1) (maps.get first (link_key g.link)) refl (maps.get f.files g.path) refl taken
      where
        there : maps.get copies (link_key g.link) ≡ maps.get first (link_key g.link)
        there = same g (or-left (is_at (link_key g.link) (link_key g.link)) (list_any (λ (y : LinkRow). is_at (link_key g.link) (link_key y.link)) gs) (is_at-self (link_key g.link)))

        -- no copy is missing
        skip : Rest gs → is_missing m f.files copies g ≡ false → folds_on (Some (with_kept f f.files copies)) (copying first f gs ++ tail) ≡ Some last → Walk (with_kept f f.files copies) (copying first f gs ++ tail) last s
        skip go fails = go copies
            (λ x among. same x (or-right (is_at (link_key x.link) (link_key g.link)) (list_any (λ (y : LinkRow). is_at (link_key x.link) (link_key y.link)) gs) among))
            (λ q less. skips q less ∙ ap (λ b. cond b (Some g) (find q gs)) (less g fails))
            stand

        -- one is
        make : Rest gs → (file : File) → maps.get first (link_key g.link) ≡ None → maps.get f.files g.path ≡ Some file → g.options.recovery ≡ true
            → folds_on (Some (with_kept f f.files copies)) (in_archive (archive_records.Copy (file_copy g file)) ∷ (copying first f gs ++ tail)) ≡ Some last
            → Walk (with_kept f f.files copies) (in_archive (archive_records.Copy (file_copy g file)) ∷ (copying first f gs ++ tail)) last s
        make go file none at_path kept all =
            let record_of : Written = in_archive (archive_records.Copy (file_copy g file)) in
            let more : Copies = maps.insert copies (link_key g.link) (copy_of file) in
            let step : folds_step (with_kept f f.files copies) record_of ≡ Some (with_kept f f.files more) = ap (with_copies (with_kept f f.files copies)) (copied copies g file (there ∙ none)) in
            let stays = next (with_kept f f.files copies) s tx m stand committed at in
            let is_next : next_record tx m (kept_of (with_kept f f.files copies)) ≡ record_of = next-copy f m tx copies g file own.0 at_path kept (skips (is_missing m f.files copies) (λ x e. e) ∙ ap (λ b. cond b (Some g) (find (is_missing m f.files copies) gs)) (copy-misses f m copies g file own.0 (there ∙ none) at_path kept)) in
            let accepted : folds_step (with_kept f f.files copies) record_of ≡ Some stays.0 = ap (folds_step (with_kept f f.files copies)) (sym is_next) ∙ stays.1.accepted in
            let stand_more : IsStand (with_kept f f.files more) s = subst (λ (g : Folds). IsStand g s) (some_same stays.0 (with_kept f f.files more) (sym accepted ∙ step)) stays.1.stand in (
              stand,
              with_kept f f.files more,
              step,
              go more
                  (λ x among.
                  get-insert nat_list_cmp_total copies (link_key g.link) (copy_of file) (link_key x.link)
                  ∙ ap (λ b. cond b (Some (copy_of file)) (maps.get copies (link_key x.link))) (once.0 x among)
                  ∙ same x (or-right (is_at (link_key x.link) (link_key g.link)) (list_any (λ (y : LinkRow). is_at (link_key x.link) (link_key y.link)) gs) among))
                  (λ q less. skips q (λ x e. less x (less-there f m copies g x (copy_of file) e)) ∙ ap (λ b. cond b (Some g) (find q gs)) (less g (less-here f m copies g (copy_of file))))
                  stand_more
                  (ap (λ (o : Option Folds). folds_on o (copying first f gs ++ tail)) (sym step) ∙ all),
            )

        by : Rest gs → (c : Option Copy) → maps.get first (link_key g.link) ≡ c → (o : Option File) → maps.get f.files g.path ≡ o
            → folds_on (Some (with_kept f f.files copies)) (cons_option (copy_by g c o) (copying first f gs) ++ tail) ≡ Some last → Walk (with_kept f f.files copies) (cons_option (copy_by g c o) (copying first f gs) ++ tail) last s
        by go (Some c) is o at_path = skip go (missing-is f m copies g (Some g) (Some c) own.0 (there ∙ is))
        by go None is None at_path = skip go
            (missing-is f m copies g (Some g) None own.0 (there ∙ is) ∙ ap (λ (o : Option File). is_some (cond g.options.recovery (first_copy None o) None)) at_path ∙ neither g.options.recovery)
          where
            neither : (b : Bool) → is_some (cond b (first_copy None None) None) ≡ false
            neither true = refl
            neither false = refl
        by go None is (Some file) at_path = kept g.options.recovery refl
          where
            kept : (b : Bool) → g.options.recovery ≡ b → folds_on (Some (with_kept f f.files copies)) (cons_option (cond b (Some (in_archive (archive_records.Copy (file_copy g file)))) None) (copying first f gs) ++ tail) ≡ Some last
                → Walk (with_kept f f.files copies) (cons_option (cond b (Some (in_archive (archive_records.Copy (file_copy g file)))) None) (copying first f gs) ++ tail) last s
            kept true e = make go file is at_path e
            kept false e = skip go (missing-is f m copies g (Some g) None own.0 (there ∙ is) ∙ ap (λ b. is_some (cond b (first_copy None (maps.get f.files g.path)) None)) e)
