-- THE PENDING LINKS BEHIND AN ARCHIVE of the first of them: it is archived, and the others are left.
use Rattle.std.proofs.Common.{◌≡◌, inl, ℕ, List, [], ◌∷◌, Bool, true, false, not, cond, ◌&&◌, ◌||◌, filter, map, is_none, is_some, Option, Some, None, refl, sym, ◌∙◌, ap, subst}
use Rattle.std.specs.Cmp.Lexicographic.{nat_list_cmp_total}
use Rattle.std.specs.FinMap as maps
use Rattle.std.specs.FinMap.{get-insert}
use Rattle.std.specs.List.{find, list_any}
use Rattle.dl_base.specs.declared.answer.Answer.{Answer}
use Rattle.dl_base.specs.declared.answer.Answer.TheVariants as answers
use Rattle.dl_base.specs.declared.file.File.{File}
use Rattle.dl_base.specs.declared.step.Step.TheVariants as steps
use Rattle.dl_base.specs.declared.value.LinkNo.{LinkNo}
use Rattle.dl_base.specs.declared.value.LinkRow.{LinkRow}
use Rattle.meaning_areas.specs.Core.{core_kept, decided_in}
use Rattle.meaning_areas.specs.Lists.{Folds}
use Rattle.meaning_areas.specs.Stands.{txs_of}
use Rattle.meaning_history.specs.Sound.{AreSound}
use Rattle.meaning_merge.specs.Touching.{In}
use Rattle.meaning_settling.proofs.KeyedLaws.{is_at-self, is_at-sym}
use Rattle.meaning_settling.proofs.SettledLaws.{settled-files}
use Rattle.meaning_settling.specs.Keyed.{is_at}
use Rattle.meaning_settling.specs.Settling.{Copy, copy_of, link_key}
use Rattle.meaning_system.specs.CoreOf.{core_of}
use Rattle.meaning_system.specs.Machine.{archive_file, archive_on, pending, step, with_copy}
use Rattle.meaning_system.specs.State.{State, tables_of}
use Rattle.meaning_tables.specs.Fits.{differ}
use Rattle.meaning_tables.specs.Links.{links, same_number}
use Rattle.sys_core.proofs.Awaiting.{both, false_true, filter-same, kept, key-number, numbers-differ, off-path, on-path, taken}

-- lists of links of different numbers

not-false : (b : Bool) → not b ≡ true → b ≡ false
not-false true e = absurd (false_true e)
not-false false e = refl

or-false : (a b : Bool) → (a || b) ≡ false → (a ≡ false) × (b ≡ false)
or-false true b e = absurd (false_true (sym e))
or-false false b e = (refl, e)

abbrev numbers : List LinkRow → List LinkNo
numbers ls = map (λ (l : LinkRow). l.link) ls

fewer : (n : LinkNo) (keep : LinkRow → Bool) (ls : List LinkRow) → list_any (same_number n) (numbers ls) ≡ false → list_any (same_number n) (numbers (filter keep ls)) ≡ false
fewer n keep [] none = refl
fewer n keep (l ∷ ls) none = let two = or-false (same_number n l.link) (list_any (same_number n) (numbers ls)) none in by (keep l) two.0 (fewer n keep ls two.1)
  where
    by : (b : Bool) → same_number n l.link ≡ false → list_any (same_number n) (numbers (filter keep ls)) ≡ false → list_any (same_number n) (numbers (cond b (l ∷ filter keep ls) (filter keep ls))) ≡ false
    by true here rest = ap (λ a. a || list_any (same_number n) (numbers (filter keep ls))) here ∙ rest
    by false here rest = rest

filter-differ : (keep : LinkRow → Bool) (ls : List LinkRow) → differ same_number (numbers ls) ≡ true → differ same_number (numbers (filter keep ls)) ≡ true
filter-differ keep [] d = refl
filter-differ keep (l ∷ ls) d =
    let two = both (not (list_any (same_number l.link) (numbers ls))) (differ same_number (numbers ls)) d in
    by (keep l) (fewer l.link keep ls (not-false (list_any (same_number l.link) (numbers ls)) two.0)) (filter-differ keep ls two.1)
  where
    by : (b : Bool) → list_any (same_number l.link) (numbers (filter keep ls)) ≡ false → differ same_number (numbers (filter keep ls)) ≡ true → differ same_number (numbers (cond b (l ∷ filter keep ls) (filter keep ls))) ≡ true
    by true none rest = ap (λ a. not a && differ same_number (numbers (filter keep ls))) none ∙ rest
    by false none rest = rest

filter-both : (p keep : LinkRow → Bool) (ls : List LinkRow) → filter (λ l. p l && keep l) ls ≡ filter keep (filter p ls)
filter-both p keep [] = refl
filter-both p keep (l ∷ ls) = by (p l) (filter-both p keep ls)
  where
    by : (b : Bool) → filter (λ x. p x && keep x) ls ≡ filter keep (filter p ls) → cond (b && keep l) (l ∷ filter (λ x. p x && keep x) ls) (filter (λ x. p x && keep x) ls) ≡ filter keep (cond b (l ∷ filter p ls) (filter p ls))
    by true rest = λ i. cond (keep l) (l ∷ rest i) (rest i)
    by false rest = rest

-- all but those of a number
abbrev other : LinkNo → LinkRow → Bool
other n l = not (is_at (link_key l.link) (link_key n))

all-others : (n : LinkNo) (ls : List LinkRow) → list_any (same_number n) (numbers ls) ≡ false → filter (other n) ls ≡ ls
all-others n [] none = refl
all-others n (l ∷ ls) none =
    let two = or-false (same_number n l.link) (list_any (same_number n) (numbers ls)) none in
    let here : is_at (link_key l.link) (link_key n) ≡ false = is_at-sym (link_key n) (link_key l.link) (key-number n l.link ∙ two.0) in
    ap (λ b. cond (not b) (l ∷ filter (other n) ls) (filter (other n) ls)) here ∙ ap (λ (xs : List LinkRow). l ∷ xs) (all-others n ls two.1)

first-gone : (l : LinkRow) (ls : List LinkRow) → differ same_number (numbers (l ∷ ls)) ≡ true → filter (other l.link) (l ∷ ls) ≡ ls
first-gone l ls d =
    let two = both (not (list_any (same_number l.link) (numbers ls))) (differ same_number (numbers ls)) d in
    ap (λ b. cond (not b) (l ∷ filter (other l.link) ls) (filter (other l.link) ls)) (is_at-self (link_key l.link)) ∙ all-others l.link ls (not-false (list_any (same_number l.link) (numbers ls)) two.0)

-- A PENDING LINK IS ARCHIVED
module _ (first : ℕ) (f : Folds) (s : State) (sound : AreSound first f s) (l : LinkRow) (ls : List LinkRow) (is : pending s ≡ l ∷ ls) where
  abbrev waits : LinkRow → Bool
  waits x = x.options.recovery && is_none (maps.get s.copies (link_key x.link)) && not (taken first f s sound x.link)

  it : (waits l ≡ true) × In l (links (tables_of s))
  it = kept waits (links (tables_of s)) l (subst (λ (xs : List LinkRow). In l xs) (sym is) (inl refl))

  untaken : taken first f s sound l.link ≡ false
  untaken = not-false (taken first f s sound l.link) (both (l.options.recovery && is_none (maps.get s.copies (link_key l.link))) (not (taken first f s sound l.link)) it.0).1

  has-file : is_some (maps.get s.files l.path) ≡ true
  has-file =
      ap is_some (sym (settled-files (decided_in (core_of s)) (txs_of s.commits) (core_kept (core_of s)) l.path (λ t a e. off-path first f s sound l it.1 untaken t a e)))
      ∙ sound.follows.joint.whole.files l.path l (on-path first f s sound l it.1)

  -- behind it the same links wait but those of its number
  left : (file : File) → pending (with_copy s l.link file) ≡ ls
  left file =
      filter-same waits-then (λ x. waits x && other l.link x) (links (tables_of s)) (λ x among. fewer-wait x)
      ∙ filter-both waits (other l.link) (links (tables_of s))
      ∙ ap (filter (other l.link)) is
      ∙ first-gone l ls (ap (λ (xs : List LinkRow). differ same_number (numbers xs)) (sym is) ∙ filter-differ waits (links (tables_of s)) (numbers-differ first f s sound))
    where
      waits-then : LinkRow → Bool
      waits-then x = x.options.recovery && is_none (maps.get (maps.insert s.copies (link_key l.link) (copy_of file)) (link_key x.link)) && not (taken first f s sound x.link)

      moved-out : (a b c d : Bool) → (a && (not d && b) && c) ≡ ((a && b && c) && not d)
      moved-out true true true true = refl
      moved-out true true true false = refl
      moved-out true true false true = refl
      moved-out true true false false = refl
      moved-out true false true true = refl
      moved-out true false true false = refl
      moved-out true false false true = refl
      moved-out true false false false = refl
      moved-out false b c d = refl

      gone : (b : Bool) (c : Copy) (o : Option Copy) → is_none (cond b (Some c) o) ≡ (not b && is_none o)
      gone true c o = refl
      gone false c o = refl

      fewer-wait : (x : LinkRow) → waits-then x ≡ (waits x && other l.link x)
      fewer-wait x =
          ap (λ (o : Option Copy). x.options.recovery && is_none o && not (taken first f s sound x.link)) (get-insert nat_list_cmp_total s.copies (link_key l.link) (copy_of file) (link_key x.link))
          ∙ ap (λ b. x.options.recovery && b && not (taken first f s sound x.link)) (gone (is_at (link_key x.link) (link_key l.link)) (copy_of file) (maps.get s.copies (link_key x.link)))
          ∙ moved-out x.options.recovery (is_none (maps.get s.copies (link_key x.link))) (not (taken first f s sound x.link)) (is_at (link_key x.link) (link_key l.link))

  archived-so : (o : Option File) → maps.get s.files l.path ≡ o → is_some o ≡ true → ((step s (steps.Archive l.link)).0 ≡ answers.Archived 1) × (pending (step s (steps.Archive l.link)).1 ≡ ls)
  unfolding step
  archived-so None at some = absurd (false_true some)
  archived-so (Some file) at some =
      let found : find (λ (x : LinkRow). is_at (link_key l.link) (link_key x.link)) (pending s) ≡ Some l =
      ap (find (λ (x : LinkRow). is_at (link_key l.link) (link_key x.link))) is ∙ ap (λ b. cond b (Some l) (find (λ (x : LinkRow). is_at (link_key l.link) (link_key x.link)) ls)) (is_at-self (link_key l.link)) in
      let so : step s (steps.Archive l.link) ≡ (answers.Archived 1, with_copy s l.link file) = ap (archive_on s l.link) found ∙ ap (archive_file s l.link) at in
      (ap (λ (r : Answer × State). r.0) so, ap (λ (r : Answer × State). pending r.1) so ∙ left file)

  pub first-archived : (step s (steps.Archive l.link)).0 ≡ answers.Archived 1
  first-archived = (archived-so (maps.get s.files l.path) refl has-file).0

  pub others-pending : pending (step s (steps.Archive l.link)).1 ≡ ls
  others-pending = (archived-so (maps.get s.files l.path) refl has-file).1
