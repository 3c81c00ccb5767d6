-- What a Finish finds whose copies are there, and whose files are.
use Rattle.std.proofs.Common.{◌≡◌, ℕ, List, [], ◌∷◌, Bool, true, false, cond, ◌&&◌, bytes_eq, Option, Some, None, is_none, is_some, refl, sym, ◌∙◌, ap}
use Rattle.std.proofs.lemmas.Slice.Eq.{bytes_eq-Decides}
use Rattle.std.specs.FinMap as maps
use Rattle.std.specs.List.{cons_option, find}
use Rattle.dl_base.specs.declared.file.File.{File}
use Rattle.dl_base.specs.declared.file.FileChange.{FileChange}
use Rattle.dl_base.specs.declared.file.FileChange.TheVariants as changes
use Rattle.dl_base.specs.declared.file.Owner.{Owner}
use Rattle.dl_base.specs.declared.value.LinkRow.{LinkRow}
use Rattle.meaning_files.specs.Files.{Files}
use Rattle.meaning_areas.specs.Finishing.{batch_changes, change_to, changes_on, is_missing, missing, sorted_paths}
use Rattle.meaning_areas.specs.Same.{same_before, same_file, same_owner, same_truth}
use Rattle.meaning_settling.specs.Apart.{IsPart, IsReady}
use Rattle.meaning_settling.specs.Settling.{Copies, Copy, Kept, Moved, by_give, copies_after, copy_after, file_after, first_copy, link_key, numbered, settle_one}
use Rattle.meaning_opening.proofs.Plain.{and-false, false_true}

-- WHAT THE CRATE OF SETTLING PROMISES

abbrev pub PartsSettle : Type 0
PartsSettle = (m : Moved) (copies : List ℕ → Bool) (files held : Bool) (k later : Kept) → IsReady m k → IsPart copies files held m k later → settle_one m later ≡ settle_one m k

abbrev pub CopiesAre : Type 0
CopiesAre = (m : Moved) (k : Kept) (n : List ℕ) → maps.get (settle_one m k).copies n ≡ copy_after m k.files n (maps.get k.copies n)

abbrev pub FilesAre : Type 0
FilesAre = (m : Moved) (k : Kept) (p : List ℕ) → maps.get (settle_one m k).files p ≡ file_after m (settle_one m k).copies p (maps.get k.files p)

-- a file is the same as itself

both-true : (a b : Bool) → a ≡ true → b ≡ true → (a && b) ≡ true
both-true a b x y = λ i. x i && y i

truth-self : (b : Bool) → same_truth b b ≡ true
truth-self true = refl
truth-self false = refl

owner-self : (o : Owner) → same_owner o o ≡ true
owner-self o = both-true (bytes_eq o.name o.name) (same_truth o.writable o.writable) ((bytes_eq-Decides o.name o.name).1 refl) (truth-self o.writable)

before-self : (o : Option Owner) → same_before o o ≡ true
before-self None = refl
before-self (Some o) = owner-self o

file-self : (f : File) → same_file f f ≡ true
file-self f =
    both-true (same_owner f.owner f.owner && bytes_eq f.bytes f.bytes) (same_before f.before f.before)
    (both-true (same_owner f.owner f.owner) (bytes_eq f.bytes f.bytes) (owner-self f.owner) ((bytes_eq-Decides f.bytes f.bytes).1 refl))
    (before-self f.before)

-- no change of a file is none
unchanged : (p : List ℕ) (o : Option File) → change_to p o o ≡ None
unchanged p None = refl
unchanged p (Some f) = ap (λ b. cond b None (cond (bytes_eq f.bytes f.bytes) (Some (changes.Kept p f.owner f.before)) (Some (changes.Put (record { path = p; file = f }))))) (file-self f)

no-changes : (change : List ℕ → Option File → Option File) (files : Files) (ps : List (List ℕ)) → ((p : List ℕ) → change p (maps.get files p) ≡ maps.get files p) → changes_on ps change files ≡ []
no-changes change files [] same = refl
no-changes change files (p ∷ ps) same =
    ap (λ (o : Option FileChange). cons_option o (changes_on ps change files)) (ap (change_to p (maps.get files p)) (same p) ∙ unchanged p (maps.get files p))
    ∙ no-changes change files ps same

-- behind all copies none is missing, whatever became of the files

not-missing : (files later : Files) (o : Option LinkRow) (c : Option Copy) → ((g : LinkRow) → o ≡ Some g → g.options.recovery ≡ true → is_some (first_copy c (maps.get files g.path)) ≡ true)
    → (is_none (by_give files o c) && is_some (by_give later o None)) ≡ false
not-missing files later None c ready = and-false (is_none c)
not-missing files later (Some g) c ready = by g.options.recovery refl
  where
    there : (x : Option Copy) → is_some x ≡ true → (b : Bool) → (is_none x && b) ≡ false
    there (Some x) e b = refl
    there None e b = absurd (false_true e)

    by : (b : Bool) → g.options.recovery ≡ b → (is_none (cond b (first_copy c (maps.get files g.path)) c) && is_some (cond b (first_copy None (maps.get later g.path)) None)) ≡ false
    by true e = there (first_copy c (maps.get files g.path)) (ready g refl e) (is_some (first_copy None (maps.get later g.path)))
    by false e = and-false (is_none c)

find-none : (p : LinkRow → Bool) (gs : List LinkRow) → ((g : LinkRow) → p g ≡ false) → find p gs ≡ None
find-none p [] fails = refl
find-none p (g ∷ gs) fails = ap (λ b. cond b (Some g) (find p gs)) (fails g) ∙ find-none p gs fails

pub each-there : CopiesAre → (m : Moved) (k later : Kept) → IsReady m k → later.copies ≡ (settle_one m k).copies → (g : LinkRow) → is_missing m later.files later.copies g ≡ false
each-there copies_are m k later ready same g =
    ap (λ (c : Option Copy). is_none c && is_some (copy_after m later.files (link_key g.link) None)) (ap (λ (c : Copies). maps.get c (link_key g.link)) same ∙ copies_are m k (link_key g.link))
    ∙ not-missing k.files later.files (numbered m.gives (link_key g.link)) (maps.get k.copies (link_key g.link)) (λ x is. ready (link_key g.link) x is)

pub none-missing : CopiesAre → (m : Moved) (k later : Kept) → IsReady m k → later.copies ≡ (settle_one m k).copies → missing m later ≡ None
none-missing copies_are m k later ready same = find-none (is_missing m later.files later.copies) m.gives (each-there copies_are m k later ready same)

module _ (parts : PartsSettle) (copies_are : CopiesAre) (files_are : FilesAre) (m : Moved) (k : Kept) (ready : IsReady m k) where
  -- with some copies alone the files have still to change as at first
  pub part-batch : (test : List ℕ → Bool) (copies : Copies) → IsPart test false false m k (record { files = k.files; copies = copies; held = k.held }) → batch_changes m (record { files = k.files; copies = copies; held = k.held }) ≡ batch_changes m k
  unfolding settle_one
  part-batch test copies part =
      ap (λ (x : Kept). changes_on (sorted_paths m) (file_after m x.copies) k.files) (parts m test false false k (record { files = k.files; copies = copies; held = k.held }) ready part)

  pub same-batch : batch_changes m (record { files = k.files; copies = (settle_one m k).copies; held = k.held }) ≡ batch_changes m k
  same-batch = part-batch (λ n. true) (settle_one m k).copies (record { at_copies = copies_are m k; at_files = λ p. refl; at_held = λ p. refl; order = λ e. absurd (false_true e) })

  -- with the files too nothing is left to change
  pub no-batch : batch_changes m (record { files = (settle_one m k).files; copies = (settle_one m k).copies; held = k.held }) ≡ []
  unfolding settle_one
  no-batch =
      let later : Kept = record { files = (settle_one m k).files; copies = (settle_one m k).copies; held = k.held } in
      let part : IsPart (λ n. true) true false m k later = record { at_copies = copies_are m k; at_files = files_are m k; at_held = λ p. refl; order = λ e n. refl } in
      no-changes (file_after m (copies_after m later)) later.files (sorted_paths m)
      (λ p. sym (files_are m later p) ∙ ap (λ (x : Kept). maps.get x.files p) (parts m (λ n. true) true false k later ready part))
