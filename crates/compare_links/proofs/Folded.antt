-- What holds of all lists of Rows and Links that are taken: an ended transaction has a commit, the rows after each commit fit, and a
-- link is held on its own path.
use Rattle.std.proofs.Common.{◌≡◌, inl, inr, ⊎_elim, ℕ, ◌+◌, ◌/◌, ◌^◌, ◌==◌, List, [], ◌∷◌, ◌++◌, length, Bool, true, false, not, cond, ◌&&◌, Option, Some, None, is_none, is_some, Result, Ok, Err, refl, sym, ◌∙◌, ap, subst}
use Rattle.std.specs.FinMap as maps
use Rattle.std.specs.Option.{ok_or, option_and_then}
use Rattle.dl_base.specs.declared.value.LinkRow.{LinkRow}
use Rattle.dl_codec.specs.Layout.{whole}
use Rattle.dl_codec.specs.Links.{links_record}
use Rattle.dl_codec.specs.Rows.{rows_record}
use Rattle.dl_codec.specs.declared.links.BranchPhase.TheVariants as phases
use Rattle.dl_codec.specs.declared.links.LinksRecord.{LinksRecord}
use Rattle.dl_codec.specs.declared.links.LinksRecord.TheVariants as links_records
use Rattle.dl_codec.specs.declared.rows.RowsRecord.{RowsRecord}
use Rattle.dl_codec.specs.declared.rows.RowsRecord.TheVariants as rows_records
use Rattle.meaning_areas.proofs.FoldLaws.{folded-err}
use Rattle.meaning_areas.specs.Areas.{branches_of, links_body, rows_body, rows_of}
use Rattle.meaning_areas.specs.Branches.{Branch, Branches, branch, done_on, is_phase, links_step, may_prepare, moved_by, moves_on, no_branches, prepares_on, with_branch, with_done}
use Rattle.meaning_areas.specs.Commits.{Commit, Commits, commit_of, commit_to, ends_on, fitting, has_number, no_commits, rows_step, tables_after, with_commit, with_ended, with_table_changes}
use Rattle.meaning_areas.specs.Folds.{folded}
use Rattle.meaning_areas.specs.Stands.{IsCommit}
use Rattle.meaning_areas.proofs.Tables.{has-push}
use Rattle.meaning_settling.proofs.KeyedLaws.{find-key, get-over}
use Rattle.meaning_settling.proofs.SettlingLaws.{held-again, held-off}
use Rattle.meaning_settling.specs.Keyed.{Keyed, over}
use Rattle.meaning_settling.specs.Settling.{Moved, held_after, held_by, on, paths_of}
use Rattle.meaning_tables.specs.Fits.{Fits, fits}
use Rattle.meaning_tables.specs.Tables.{Tables}
use Rattle.compare_links.specs.Fitting.{EachCommit, HasOwnPaths}
use Rattle.compare_every.proofs.Deciding.{false_true, some-if, some_same}
use Rattle.compare_every.proofs.Lists.{none_some}

-- what each record keeps holds of all that is folded
module _ {S : Type 0} (step : S → List ℕ → Option S) (P : S → Type 0) (keeps : (s later : S) (body : List ℕ) → step s body ≡ Some later → P s → P later) where
  pub folded-keeps : (bodies : List (List ℕ)) (place : ℕ) (first s : S) → folded step place (Ok first) bodies ≡ Ok s → P first → P s
  folded-keeps [] place first s e p = subst P (inside e) p
    where
      inside : ◌≡◌ {A = Result S ℕ} (Ok first) (Ok s) → first ≡ s
      inside is = cc
  folded-keeps (x ∷ xs) place first s e p = by (λ later at is. folded-keeps xs (place + 9 + length x) later s is (keeps first later x at p)) (step first x) refl e
    where
      never : ◌≡◌ {A = Result S ℕ} (Err place) (Ok s) → ⊥
      never is = cc

      by : ((later : S) → step first x ≡ Some later → folded step (place + 9 + length x) (Ok later) xs ≡ Ok s → P s)
          → (o : Option S) → step first x ≡ o → folded step (place + 9 + length x) (ok_or o place) xs ≡ Ok s → P s
      by rest None at is = absurd (never (sym (folded-err step (place + 9 + length x) place xs) ∙ is))
      by rest (Some later) at is = rest later at is

-- AN ENDED TRANSACTION HAS A COMMIT

abbrev pub EndedHave : Commits → Type 0
EndedHave r = (tx : ℕ) → has_number tx r.ended ≡ true → is_some (commit_of tx r.commits) ≡ true

commit-more : (tx : ℕ) (cs : List Commit) (d : Commit) → is_some (commit_of tx cs) ≡ true → is_some (commit_of tx (cs ++ d ∷ [])) ≡ true
commit-more tx [] d e = absurd (false_true e)
commit-more tx (c ∷ cs) d e = by (c.tx == tx) e (commit-more tx cs d)
  where
    by : (b : Bool) → is_some (cond b (Some c) (commit_of tx cs)) ≡ true → (is_some (commit_of tx cs) ≡ true → is_some (commit_of tx (cs ++ d ∷ [])) ≡ true) → is_some (cond b (Some c) (commit_of tx (cs ++ d ∷ []))) ≡ true
    by true is rest = refl
    by false is rest = rest is

fitting-ended : (r later : Commits) (tx : ℕ) (b : Bool) (o : Option Tables) → fitting r tx b o ≡ Some later → EndedHave r → EndedHave later
fitting-ended r later tx b None e have = absurd cc
fitting-ended r later tx b (Some tables) e have =
    let d = commit_to r.commits tx b tables in
    subst EndedHave (some-if (fits tables) (with_commit r d) later e) (λ (t : ℕ) (is : has_number t r.ended ≡ true). commit-more t r.commits d (have t is))

ends-ended : (r later : Commits) (tx : ℕ) (o : Option Commit) → commit_of tx r.commits ≡ o → ends_on r tx o ≡ Some later → EndedHave r → EndedHave later
ends-ended r later tx None at e have = absurd cc
ends-ended r later tx (Some c) at e have =
    subst EndedHave (some-if (c.branch && not (has_number tx r.ended)) (with_ended r tx) later e)
    (λ (t : ℕ) (is : has_number t (r.ended ++ tx ∷ []) ≡ true). ⊎_elim (λ (old : has_number t r.ended ≡ true). have t old) (λ (new : t ≡ tx). ap (λ (x : ℕ). is_some (commit_of x r.commits)) new ∙ ap is_some at) (has-push t tx r.ended is))

step-ended : (r later : Commits) (x : RowsRecord) → rows_step r x ≡ Some later → EndedHave r → EndedHave later
step-ended r later (rows_records.Opening number) e have = subst EndedHave (some-if (number == r.opening + 1) (record { opening = number; commits = r.commits; ended = r.ended }) later e) have
step-ended r later (rows_records.Commit tx number b changes) e have =
    by ((number == length r.commits + 1) && is_none (commit_of tx r.commits) && (tx / 2 ^ 32 == r.opening)) e
  where
    by : (t : Bool) → cond t (fitting r tx b (with_table_changes number (tables_after [] r.commits) changes)) None ≡ Some later → EndedHave later
    by true is = fitting-ended r later tx b (with_table_changes number (tables_after [] r.commits) changes) is have
    by false is = absurd cc
step-ended r later (rows_records.Ended tx) e have = ends-ended r later tx (commit_of tx r.commits) refl e have

body-ended : (r later : Commits) (body : List ℕ) → rows_body r body ≡ Some later → EndedHave r → EndedHave later
body-ended r later body e have = by (whole rows_record body) e
  where
    by : (o : Option RowsRecord) → option_and_then (rows_step r) o ≡ Some later → EndedHave later
    by None is = absurd cc
    by (Some x) is = step-ended r later x is have

pub ended-have : (bodies : List (List ℕ)) (r : Commits) → rows_of bodies ≡ Ok r → EndedHave r
ended-have bodies r e = folded-keeps rows_body EndedHave body-ended bodies 0 no_commits r e (λ tx is. absurd (false_true is))

-- THE ROWS AFTER EACH COMMIT FIT

abbrev AllFit : Commits → Type 0
AllFit r = EachCommit (λ c. Fits c.tables) r.commits

each-push : (P : Commit → Type 0) (cs : List Commit) (d : Commit) → EachCommit P cs → P d → EachCommit P (cs ++ d ∷ [])
each-push P [] d each holds c is = ⊎_elim (λ (here : c ≡ d). subst P (sym here) holds) (λ never. absurd never) is
each-push P (x ∷ xs) d each holds c is = ⊎_elim (λ (here : c ≡ x). each c (inl here)) (λ (later : IsCommit c (xs ++ d ∷ [])). each-push P xs d (λ e there. each e (inr there)) holds c later) is

fitting-fit : (r later : Commits) (tx : ℕ) (b : Bool) (o : Option Tables) → fitting r tx b o ≡ Some later → AllFit r → AllFit later
fitting-fit r later tx b None e fit = absurd (none_some later e)
fitting-fit r later tx b (Some tables) e fit = by (fits tables) refl e
  where
    d : Commit
    d = commit_to r.commits tx b tables

    by : (t : Bool) → fits tables ≡ t → cond t (Some (with_commit r d)) None ≡ Some later → AllFit later
    by true fits is = subst AllFit (some_same (with_commit r d) later is) (each-push (λ c. Fits c.tables) r.commits d fit fits)
    by false fits is = absurd (none_some later is)

step-fit : (r later : Commits) (x : RowsRecord) → rows_step r x ≡ Some later → AllFit r → AllFit later
step-fit r later (rows_records.Opening number) e fit = subst AllFit (some-if (number == r.opening + 1) (record { opening = number; commits = r.commits; ended = r.ended }) later e) fit
step-fit r later (rows_records.Commit tx number b changes) e fit =
    by ((number == length r.commits + 1) && is_none (commit_of tx r.commits) && (tx / 2 ^ 32 == r.opening)) e
  where
    by : (t : Bool) → cond t (fitting r tx b (with_table_changes number (tables_after [] r.commits) changes)) None ≡ Some later → AllFit later
    by true is = fitting-fit r later tx b (with_table_changes number (tables_after [] r.commits) changes) is fit
    by false is = absurd (none_some later is)
step-fit r later (rows_records.Ended tx) e fit = of (commit_of tx r.commits) e
  where
    of : (o : Option Commit) → ends_on r tx o ≡ Some later → AllFit later
    of None is = absurd (none_some later is)
    of (Some c) is = subst AllFit (some-if (c.branch && not (has_number tx r.ended)) (with_ended r tx) later is) fit

body-fit : (r later : Commits) (body : List ℕ) → rows_body r body ≡ Some later → AllFit r → AllFit later
body-fit r later body e fit = by (whole rows_record body) e
  where
    by : (o : Option RowsRecord) → option_and_then (rows_step r) o ≡ Some later → AllFit later
    by None is = absurd (none_some later is)
    by (Some x) is = step-fit r later x is fit

pub rows-fit : (bodies : List (List ℕ)) (r : Commits) → rows_of bodies ≡ Ok r → EachCommit (λ c. Fits c.tables) r.commits
rows-fit bodies r e = folded-keeps rows_body AllFit body-fit bodies 0 no_commits r e (λ c never. absurd never)

-- A LINK IS HELD ON ITS OWN PATH

abbrev Own : Branches → Type 0
Own l = HasOwnPaths l.held

done-own : (m : Moved) (held : Keyed LinkRow) → HasOwnPaths held → HasOwnPaths (over (paths_of m) (held_after m) held)
done-own m held own p x e = by (on m.gives p) (on m.takes p) refl (maps.get held p) refl (sym (get-over (held_after m) (held-again m) (paths_of m) held p (λ f o. held-off m p o f)) ∙ e)
  where
    by : (g t : Option LinkRow) → on m.takes p ≡ t → (o : Option LinkRow) → maps.get held p ≡ o → held_by g t o ≡ Some x → p ≡ x.path
    by g (Some t) at o was is = find-key (λ (l : LinkRow). l.path) m.takes p x (at ∙ is)
    by (Some g) None at o was is = absurd cc
    by None None at o was is = own p x (was ∙ is)

step-own : (l later : Branches) (x : LinksRecord) → links_step l x ≡ Some later → Own l → Own later
step-own l later (links_records.Opening number) e own = subst Own (some-if (number == l.opening + 1) (record { opening = number; table = l.table; held = l.held }) later e) own
step-own l later (links_records.Prepared tx gives takes) e own = by (maps.get l.table tx) e
  where
    by : (o : Option Branch) → prepares_on l tx gives takes o ≡ Some later → Own later
    by (Some b) is = absurd cc
    by None is = subst Own (some-if (may_prepare l gives takes) (with_branch l tx (branch (moved_by gives takes) phases.Prepared)) later is) own
step-own l later (links_records.Committed tx) e own = by (maps.get l.table tx) e
  where
    by : (o : Option Branch) → moves_on phases.Prepared phases.Committed l tx o ≡ Some later → Own later
    by None is = absurd cc
    by (Some b) is = subst Own (some-if (is_phase b.phase phases.Prepared) (with_branch l tx (branch b.moved phases.Committed)) later is) own
step-own l later (links_records.Done tx) e own = by (maps.get l.table tx) e
  where
    by : (o : Option Branch) → done_on l tx o ≡ Some later → Own later
    by None is = absurd cc
    by (Some b) is = subst Own (some-if (is_phase b.phase phases.Committed) (with_done l tx b.moved) later is) (done-own b.moved l.held own)
step-own l later (links_records.Aborted tx) e own = by (maps.get l.table tx) e
  where
    by : (o : Option Branch) → moves_on phases.Prepared phases.Aborted l tx o ≡ Some later → Own later
    by None is = absurd cc
    by (Some b) is = subst Own (some-if (is_phase b.phase phases.Prepared) (with_branch l tx (branch b.moved phases.Aborted)) later is) own

body-own : (l later : Branches) (body : List ℕ) → links_body l body ≡ Some later → Own l → Own later
body-own l later body e own = by (whole links_record body) e
  where
    by : (o : Option LinksRecord) → option_and_then (links_step l) o ≡ Some later → Own later
    by None is = absurd cc
    by (Some x) is = step-own l later x is own

pub own-paths : (bodies : List (List ℕ)) (l : Branches) → branches_of bodies ≡ Ok l → HasOwnPaths l.held
own-paths bodies l e = folded-keeps links_body Own body-own bodies 0 no_branches l e (λ p x is. absurd (none p x is))
  where
    none : (p : List ℕ) (x : LinkRow) → maps.get no_branches.held p ≡ Some x → ⊥
    none p x is = never (sym (maps.get-empty _ p) ∙ is)
      where
        never : None ≡ Some x → ⊥
        never e = cc
