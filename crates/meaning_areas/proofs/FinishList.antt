-- THE RECORDS OF A FINISH, one after another, lead to the lists after it.
use Rattle.std.proofs.Common.{◌≡◌, ⊎_elim, ℕ, List, [], ◌∷◌, ◌++◌, Bool, true, false, not, cond, ◌==◌, ◌&&◌, ◌||◌, map, Option, Some, None, is_some, refl, sym, ◌∙◌, ap, subst}
use Rattle.std.specs.List.{filter_map, list_any, cons_option}
use Rattle.std.specs.FinMap as maps
use Rattle.std.specs.FinMap.{same_map, nat_cmp-IsAntisymmetric}
use Rattle.std.specs.Cmp.{nat_cmp_total}
use Rattle.std.specs.Ordering.{nat_cmp}
use Rattle.std.specs.Option.{option_and_then}
use Rattle.std.proofs.lemmas.Slice.Eq.{bytes_eq-Decides}
use Rattle.sha2.specs.Sha256.{sha256}
use Rattle.dl_base.specs.declared.file.File.{File}
use Rattle.dl_base.specs.declared.file.FileChange.{FileChange}
use Rattle.dl_base.specs.declared.value.LinkRow.{LinkRow}
use Rattle.dl_codec.specs.declared.archive.ArchiveRecord.TheVariants as archive_records
use Rattle.dl_codec.specs.declared.links.BranchPhase.{BranchPhase}
use Rattle.dl_codec.specs.declared.links.BranchPhase.TheVariants.{Prepared, Committed, Done}
use Rattle.dl_codec.specs.declared.links.LinksRecord.TheVariants as links_records
use Rattle.dl_codec.specs.declared.rows.RowsRecord.TheVariants as rows_records
use Rattle.meaning_files.specs.Files.{Files, with_changes}
use Rattle.meaning_settling.specs.Keyed.{is_at, put_at, over}
use Rattle.meaning_settling.specs.Settling.{Copy, Copies, Moved, Kept, link_key, numbered, copy_of, first_copy, by_give, copy_after, copies_after, settle_one}
use Rattle.meaning_settling.proofs.KeyedLaws.{either, is_at-self, get-put, or-left, or-right}
use Rattle.meaning_areas.specs.Branches.{Branch, branch, is_phase, moves_on, done_on}
use Rattle.meaning_areas.specs.Commits.{Commit, commit_of, has_number, with_ended, ends_on}
use Rattle.meaning_areas.specs.Finishing.{AreNumbered, file_copy, copy_by, copy_records, batch_changes, batch_of, finish_records}
use Rattle.meaning_areas.specs.Lists.{Folds, Written, in_rows, in_links, in_archive, with_rows, with_links, with_files, with_copies, folds_step, folds_on}
use Rattle.meaning_areas.specs.Copies.{copies_on}
use Rattle.meaning_areas.specs.Stands.{is_open, kept_of}
use Rattle.meaning_areas.proofs.Append.{same_phase}
use Rattle.meaning_areas.proofs.Batches.{batch-does, put-there}
use Rattle.meaning_areas.proofs.Tables.{get-at, get-here, some_same}
use Rattle.meaning_areas.specs.Core.{Stage, decided, Work, Core}
use Rattle.meaning_areas.specs.Joint.{branch_for, IsCommitOf, AgreesAt, Joint}
use Rattle.meaning_areas.specs.Moving.{with_kept, with_finish, core_finished}
use Rattle.meaning_areas.proofs.Deciding.{joint-finished}
use Rattle.meaning_areas.proofs.Steps.{agrees-of}

false_true : false ≡ true → ⊥
false_true e = cc

pub folds-append : (o : Option Folds) (xs ys : List Written) → folds_on o (xs ++ ys) ≡ folds_on (folds_on o xs) ys
folds-append o [] ys = refl
folds-append o (x ∷ xs) ys = folds-append (option_and_then (λ (f : Folds). folds_step f x) o) xs ys

folds-option : (f later : Folds) (o : Option Written) (xs : List Written) → (cond (is_some o) (folds_on (Some f) (cons_option o [])) (Some f)) ≡ Some later → folds_on (Some f) (cons_option o xs) ≡ folds_on (Some later) xs
folds-option f later None xs is = ap (λ (x : Option Folds). folds_on x xs) is
folds-option f later (Some x) xs is = ap (λ (y : Option Folds). folds_on y xs) is

one-copy : (f : Folds) (copies : Copies) (g : LinkRow) (c : Option Copy) (file : Option File) → maps.get copies (link_key g.link) ≡ c
    → cond (is_some (copy_by g c file)) (folds_on (Some (with_kept f f.files copies)) (cons_option (copy_by g c file) [])) (Some (with_kept f f.files copies)) ≡ Some (with_kept f f.files (put_at copies (link_key g.link) (cond g.options.recovery (first_copy c file) c)))
one-copy f copies g (Some c) file is = ap (λ (x : Copies). Some (with_kept f f.files x)) (sym (by g.options.recovery))
  where
    by : (b : Bool) → put_at copies (link_key g.link) (cond b (first_copy (Some c) file) (Some c)) ≡ copies
    by true = put-there copies (link_key g.link) (Some c) is
    by false = put-there copies (link_key g.link) (Some c) is
one-copy f copies g None None is = ap (λ (x : Copies). Some (with_kept f f.files x)) (sym (by g.options.recovery))
  where
    by : (b : Bool) → put_at copies (link_key g.link) (cond b (first_copy None None) None) ≡ copies
    by true = put-there copies (link_key g.link) None is
    by false = put-there copies (link_key g.link) None is
one-copy f copies g None (Some file) is = by g.options.recovery
  where
    by : (b : Bool) → cond (is_some (cond b (Some (in_archive (archive_records.Copy (file_copy g file)))) None)) (folds_on (Some (with_kept f f.files copies)) (cons_option (cond b (Some (in_archive (archive_records.Copy (file_copy g file)))) None) [])) (Some (with_kept f f.files copies))
        ≡ Some (with_kept f f.files (put_at copies (link_key g.link) (cond b (first_copy None (Some file)) None)))
    by true = ap (λ (o : Option Copy). with_copies (with_kept f f.files copies) (copies_on copies (file_copy g file) o)) is
        ∙ ap (λ b. with_copies (with_kept f f.files copies) (cond b (Some (maps.insert copies (link_key g.link) (copy_of file))) None)) ((bytes_eq-Decides (sha256 file.bytes) (sha256 file.bytes)).1 refl)
    by false = ap (λ (x : Copies). Some (with_kept f f.files x)) (sym (put-there copies (link_key g.link) None is))

copies-do : (f : Folds) (m : Moved) (first copies : Copies) (gs : List LinkRow) → AreNumbered gs → ((g : LinkRow) → list_any (λ y. is_at (link_key g.link) (link_key y.link)) gs ≡ true → maps.get copies (link_key g.link) ≡ maps.get first (link_key g.link))
    → ((g : LinkRow) (pre : List LinkRow) (post : List LinkRow) → gs ≡ pre ++ g ∷ post → numbered m.gives (link_key g.link) ≡ Some g)
    → folds_on (Some (with_kept f f.files copies)) (filter_map (λ g. copy_by g (maps.get first (link_key g.link)) (maps.get f.files g.path)) gs) ≡ Some (with_kept f f.files (over (map (λ g. link_key g.link) gs) (copy_after m f.files) copies))
copies-do f m first copies [] once same at = refl
copies-do f m first copies (g ∷ gs) once same at =
    let now : maps.get copies (link_key g.link) ≡ maps.get first (link_key g.link) = same g (ap (λ b. b || list_any (λ (y : LinkRow). is_at (link_key g.link) (link_key y.link)) gs) (is_at-self (link_key g.link))) in
    let does : copy_after m f.files (link_key g.link) (maps.get copies (link_key g.link)) ≡ cond g.options.recovery (first_copy (maps.get first (link_key g.link)) (maps.get f.files g.path)) (maps.get first (link_key g.link)) =
    ap (λ (x : Option LinkRow). by_give f.files x (maps.get copies (link_key g.link))) (at g [] gs refl) ∙ ap (λ (c : Option Copy). cond g.options.recovery (first_copy c (maps.get f.files g.path)) c) now in
    let later : Copies = put_at copies (link_key g.link) (cond g.options.recovery (first_copy (maps.get first (link_key g.link)) (maps.get f.files g.path)) (maps.get first (link_key g.link))) in
    folds-option (with_kept f f.files copies) (with_kept f f.files later) (copy_by g (maps.get first (link_key g.link)) (maps.get f.files g.path)) (filter_map (λ (x : LinkRow). copy_by x (maps.get first (link_key x.link)) (maps.get f.files x.path)) gs)
    (one-copy f copies g (maps.get first (link_key g.link)) (maps.get f.files g.path) now)
    ∙ copies-do f m first later gs once.1 (λ x has.
    get-put copies (link_key g.link) (link_key x.link) (cond g.options.recovery (first_copy (maps.get first (link_key g.link)) (maps.get f.files g.path)) (maps.get first (link_key g.link)))
    ∙ ap (λ b. cond b (cond g.options.recovery (first_copy (maps.get first (link_key g.link)) (maps.get f.files g.path)) (maps.get first (link_key g.link))) (maps.get copies (link_key x.link))) (once.0 x has)
    ∙ same x (right (is_at (link_key x.link) (link_key g.link)) has)) (λ x pre post e. at x (g ∷ pre) post (ap (λ (ys : List LinkRow). g ∷ ys) e))
    ∙ ap (λ (o : Option Copy). Some (with_kept f f.files (over (map (λ (x : LinkRow). link_key x.link) gs) (copy_after m f.files) (put_at copies (link_key g.link) o)))) (sym does)
  where
    right : (a : Bool) {b : Bool} → b ≡ true → (a || b) ≡ true
    right true e = refl
    right false e = e

-- the table after two changes of one transaction
insert-twice : (t : maps.FinMap nat_cmp Branch) (tx : ℕ) (a b : Branch) → maps.insert (maps.insert t tx a) tx b ≡ maps.insert t tx b
insert-twice t tx a b = same_map nat_cmp_total nat_cmp-IsAntisymmetric _ _ (λ q.
    get-at (maps.insert t tx a) tx b q ∙ ap (cond (q == tx) (Some b)) (get-at t tx a q) ∙ shadowed (q == tx) (maps.get t q) ∙ sym (get-at t tx b q))
  where
    shadowed : (x : Bool) (o : Option Branch) → cond x (Some b) (cond x (Some a) o) ≡ cond x (Some b) o
    shadowed true o = refl
    shadowed false o = refl

abbrev moving : Folds → maps.FinMap nat_cmp Branch → Files → Copies → Folds
moving f table files copies = record { rows = f.rows; links = record { opening = f.links.opening; table = table; held = f.links.held }; files = files; copies = copies; backups = f.backups }

-- THE RECORDS OF A WHOLE FINISH
pub finish-list : (f : Folds) (tx : ℕ) (m : Moved) (c : Commit) → maps.get f.links.table tx ≡ Some (branch m Prepared) → commit_of tx f.rows.commits ≡ Some c → c.branch ≡ true → has_number tx f.rows.ended ≡ false
    → AreNumbered m.gives → ((g : LinkRow) (pre post : List LinkRow) → m.gives ≡ pre ++ g ∷ post → numbered m.gives (link_key g.link) ≡ Some g)
    → folds_on (Some f) (finish_records tx Prepared m (kept_of f)) ≡ Some (with_finish f tx m)
unfolding settle_one
finish-list f tx m c at committed has once numbers at_g =
    let k : Kept = kept_of f in
    let table : maps.FinMap nat_cmp Branch = maps.insert f.links.table tx (branch m Committed) in
    let ends : List Written = in_links (links_records.Done tx) ∷ in_rows (rows_records.Ended tx) ∷ [] in
    let files : List Written = batch_of tx (batch_changes m k) in
    ap (λ (o : Option Folds). folds_on o ((copy_records m k ++ files) ++ ends)) (ap (λ (o : Option Branch). with_links f (moves_on Prepared Committed f.links tx o)) at)
    ∙ folds-append (Some (moving f table f.files f.copies)) (copy_records m k ++ files) ends
    ∙ ap (λ (o : Option Folds). folds_on o ends) (folds-append (Some (moving f table f.files f.copies)) (copy_records m k) files
    ∙ ap (λ (o : Option Folds). folds_on o files) (copies-do (moving f table f.files f.copies) m f.copies f.copies m.gives numbers (λ g e. refl) at_g))
    ∙ batch (batch_changes m k) (batch-does m k)
  where
    last : (files : Files) (copies : Copies) → folds_on (Some (moving f (maps.insert f.links.table tx (branch m Committed)) files copies)) (in_links (links_records.Done tx) ∷ in_rows (rows_records.Ended tx) ∷ [])
        ≡ Some (record { rows = with_ended f.rows tx; links = record { opening = f.links.opening; table = maps.insert f.links.table tx (branch m Done); held = (settle_one m (kept_of f)).held }; files = files; copies = copies; backups = f.backups })
    last files copies =
        ap (λ (o : Option Branch). folds_on (with_links (moving f (maps.insert f.links.table tx (branch m Committed)) files copies) (done_on (record { opening = f.links.opening; table = maps.insert f.links.table tx (branch m Committed); held = f.links.held }) tx o)) (in_rows (rows_records.Ended tx) ∷ [])) (get-here f.links.table tx (branch m Committed))
        ∙ ap (λ (o : Option Commit). with_rows (record { rows = f.rows; links = record { opening = f.links.opening; table = maps.insert (maps.insert f.links.table tx (branch m Committed)) tx (branch m Done); held = (settle_one m (kept_of f)).held }; files = files; copies = copies; backups = f.backups }) (ends_on f.rows tx o)) committed
        ∙ ap (λ b. with_rows (record { rows = f.rows; links = record { opening = f.links.opening; table = maps.insert (maps.insert f.links.table tx (branch m Committed)) tx (branch m Done); held = (settle_one m (kept_of f)).held }; files = files; copies = copies; backups = f.backups }) (cond (b && not (has_number tx f.rows.ended)) (Some (with_ended f.rows tx)) None)) has
        ∙ ap (λ b. with_rows (record { rows = f.rows; links = record { opening = f.links.opening; table = maps.insert (maps.insert f.links.table tx (branch m Committed)) tx (branch m Done); held = (settle_one m (kept_of f)).held }; files = files; copies = copies; backups = f.backups }) (cond (not b) (Some (with_ended f.rows tx)) None)) once
        ∙ ap (λ (t : maps.FinMap nat_cmp Branch). Some (record { rows = with_ended f.rows tx; links = record { opening = f.links.opening; table = t; held = (settle_one m (kept_of f)).held }; files = files; copies = copies; backups = f.backups })) (insert-twice f.links.table tx (branch m Committed) (branch m Done))

    batch : (cs : List FileChange) → with_changes f.files cs ≡ Some (settle_one m (kept_of f)).files
        → folds_on (folds_on (Some (moving f (maps.insert f.links.table tx (branch m Committed)) f.files (copies_after m (kept_of f)))) (batch_of tx cs)) (in_links (links_records.Done tx) ∷ in_rows (rows_records.Ended tx) ∷ []) ≡ Some (with_finish f tx m)
    batch [] does = last f.files (copies_after m (kept_of f)) ∙ ap (λ (files : Files). Some (record { rows = with_ended f.rows tx; links = record { opening = f.links.opening; table = maps.insert f.links.table tx (branch m Done); held = (settle_one m (kept_of f)).held }; files = files; copies = copies_after m (kept_of f); backups = f.backups })) (some_same f.files (settle_one m (kept_of f)).files does)
    batch (c ∷ cs) does =
        ap (λ (o : Option Files). folds_on (with_files (moving f (maps.insert f.links.table tx (branch m Committed)) f.files (copies_after m (kept_of f))) o) (in_links (links_records.Done tx) ∷ in_rows (rows_records.Ended tx) ∷ [])) does
        ∙ last (settle_one m (kept_of f)).files (copies_after m (kept_of f))

-- of links with different numbers each is the first of its own
in-middle : (pre post : List LinkRow) (g : LinkRow) → list_any (λ y. is_at (link_key g.link) (link_key y.link)) (pre ++ g ∷ post) ≡ true
in-middle [] post g = or-left (is_at (link_key g.link) (link_key g.link)) (list_any (λ y. is_at (link_key g.link) (link_key y.link)) post) (is_at-self (link_key g.link))
in-middle (p ∷ pre) post g = or-right (is_at (link_key g.link) (link_key p.link)) (list_any (λ y. is_at (link_key g.link) (link_key y.link)) (pre ++ g ∷ post)) (in-middle pre post g)

numbered-at : (pre post : List LinkRow) (g : LinkRow) → AreNumbered (pre ++ g ∷ post) → numbered (pre ++ g ∷ post) (link_key g.link) ≡ Some g
numbered-at [] post g one = ap (λ b. cond b (Some g) (numbered post (link_key g.link))) (is_at-self (link_key g.link))
numbered-at (p ∷ pre) post g one = ap (λ b. cond b (Some p) (numbered (pre ++ g ∷ post) (link_key g.link))) (one.0 g (in-middle pre post g)) ∙ numbered-at pre post g one.1

done_once : (m n : Moved) → Some (branch m Prepared) ≡ Some (branch n Done) → ⊥
done_once m n e = false_true (ap (λ (p : BranchPhase). is_phase p Done) (same_phase m n Prepared Done e))

-- THE RECORDS OF A FINISH of a decided transaction that has none yet
pub finish-joint : (f : Folds) (c : Core) (tx : ℕ) (w : Work) → Joint f c → c.works tx ≡ Some w → w.stage ≡ decided → w.branch ≡ true → maps.get f.links.table tx ≡ Some (branch w.moved Prepared) → AreNumbered w.moved.gives
    → (folds_on (Some f) (finish_records tx Prepared w.moved (kept_of f)) ≡ Some (with_finish f tx w.moved)) × Joint (with_finish f tx w.moved) (core_finished c tx w.moved)
finish-joint f c tx w joint is was has at one =
    let P : Stage → Type 0 = λ s. AgreesAt s w (commit_of tx f.rows.commits) (maps.get f.links.table tx) in
    let agrees : IsCommitOf w (commit_of tx f.rows.commits) × (p : BranchPhase) × (maps.get f.links.table tx ≡ branch_for w p) × (is_open p ≡ true) = subst P was (agrees-of f c joint tx w is) in
    let once : has_number tx f.rows.ended ≡ false = ⊎_elim
    (λ (e : has_number tx f.rows.ended ≡ true). (let done = joint.ended tx e in absurd (done_once w.moved done.0 (sym at ∙ done.1))))
    (λ (e : has_number tx f.rows.ended ≡ false). e) (either (has_number tx f.rows.ended)) in (
      finish-list f tx w.moved agrees.0.commit at agrees.0.at (agrees.0.branch ∙ has) once one (λ g pre post same. (let Q : List LinkRow → Type 0 = λ ls. AreNumbered ls in
          ap (λ (ls : List LinkRow). numbered ls (link_key g.link)) same ∙ numbered-at pre post g (subst Q same one))),
      joint-finished f c joint tx w is was has,
    )
