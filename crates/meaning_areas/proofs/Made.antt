-- A list of Rows that is taken has one commit of a transaction at most, and each has the links that it took away and added.
use Rattle.std.proofs.Common.{◌≡◌, ℕ, ◌+◌, ◌/◌, ◌^◌, ◌==◌, List, [], ◌∷◌, ◌++◌, length, Bool, true, false, not, cond, ◌&&◌, Option, Some, None, is_none, Result, Ok, Err, refl, sym, ◌∙◌, ap, subst}
use Rattle.std.specs.Option.{ok_or, option_and_then}
use Rattle.dl_codec.specs.Layout.{whole}
use Rattle.dl_codec.specs.Rows.{rows_record}
use Rattle.dl_codec.specs.declared.rows.RowsRecord.{RowsRecord}
use Rattle.dl_codec.specs.declared.rows.RowsRecord.TheVariants as records
use Rattle.meaning_settling.specs.Settled.{AreDistinct}
use Rattle.meaning_tables.specs.Fits.{fits}
use Rattle.meaning_tables.specs.Tables.{Tables}
use Rattle.meaning_areas.specs.Areas.{rows_body, rows_of}
use Rattle.meaning_areas.specs.Commits.{Commit, Commits, HaveMoved, commit_of, commit_to, ends_on, fitting, has_number, no_commits, rows_step, tables_after, with_commit, with_ended, with_table_changes}
use Rattle.meaning_areas.specs.Folds.{folded}
use Rattle.meaning_areas.specs.Stands.{txs_of}
use Rattle.meaning_areas.proofs.Deciding.{moved-push}
use Rattle.meaning_areas.proofs.FoldLaws.{folded-err}
use Rattle.meaning_areas.proofs.Tables.{distinct-push, in-commit, some_none, some_same, txs-push}

abbrev Made : List Commit → Type 0
Made cs = AreDistinct (txs_of cs) × HaveMoved [] cs

false_true : false ≡ true → ⊥
false_true e = cc

both : (a b : Bool) → (a && b) ≡ true → (a ≡ true) × (b ≡ true)
both true b e = (refl, e)
both false b e = absurd (false_true e)

is-none : (o : Option Commit) → is_none o ≡ true → o ≡ None
is-none None e = refl
is-none (Some c) e = absurd cc

made-same : (r later : Commits) → Some r ≡ Some later → Made r.commits → Made later.commits
made-same r later e made = subst Made (ap (λ (x : Commits). x.commits) (some_same r later e)) made

made-push : (r : Commits) (d : Commit) → commit_of d.tx r.commits ≡ None → d ≡ commit_to r.commits d.tx d.branch d.tables → Made r.commits → Made (r.commits ++ d ∷ [])
made-push r d new is made = (
  subst AreDistinct (sym (txs-push d r.commits)) (distinct-push (txs_of r.commits) d.tx made.0 (λ among. some_none (commit_of d.tx r.commits) (in-commit d.tx r.commits among) new)),
  moved-push [] d r.commits made.1 (ap (λ (x : Commit). x.gives) is) (ap (λ (x : Commit). x.takes) is),
)

fitting-made : (r later : Commits) (tx : ℕ) (branch : Bool) (o : Option Tables) → commit_of tx r.commits ≡ None → fitting r tx branch o ≡ Some later → Made r.commits → Made later.commits
fitting-made r later tx branch None new e made = absurd cc
fitting-made r later tx branch (Some tables) new e made = by (fits tables) e
  where
    by : (b : Bool) → cond b (Some (with_commit r (commit_to r.commits tx branch tables))) None ≡ Some later → Made later.commits
    by true is = made-same (with_commit r (commit_to r.commits tx branch tables)) later is (made-push r (commit_to r.commits tx branch tables) new refl made)
    by false is = absurd cc

step-made : (r later : Commits) (x : RowsRecord) → rows_step r x ≡ Some later → Made r.commits → Made later.commits
step-made r later (records.Opening number) e made = by (number == r.opening + 1) e
  where
    by : (b : Bool) → cond b (Some (record { opening = number; commits = r.commits; ended = r.ended })) None ≡ Some later → Made later.commits
    by true is = made-same (record { opening = number; commits = r.commits; ended = r.ended }) later is made
    by false is = absurd cc
step-made r later (records.Commit tx number branch changes) e made = by ((number == length r.commits + 1) && is_none (commit_of tx r.commits) && (tx / 2 ^ 32 == r.opening)) refl e
  where
    by : (b : Bool) → ((number == length r.commits + 1) && is_none (commit_of tx r.commits) && (tx / 2 ^ 32 == r.opening)) ≡ b
        → cond b (fitting r tx branch (with_table_changes number (tables_after [] r.commits) changes)) None ≡ Some later → Made later.commits
    by true tests is =
        let one = both ((number == length r.commits + 1) && is_none (commit_of tx r.commits)) (tx / 2 ^ 32 == r.opening) tests in
        let two = both (number == length r.commits + 1) (is_none (commit_of tx r.commits)) one.0 in
        fitting-made r later tx branch (with_table_changes number (tables_after [] r.commits) changes) (is-none (commit_of tx r.commits) two.1) is made
    by false tests is = absurd cc
step-made r later (records.Ended tx) e made = of (commit_of tx r.commits) e
  where
    by : (b : Bool) → cond b (Some (with_ended r tx)) None ≡ Some later → Made later.commits
    by true is = made-same (with_ended r tx) later is made
    by false is = absurd cc

    of : (o : Option Commit) → ends_on r tx o ≡ Some later → Made later.commits
    of None is = absurd cc
    of (Some c) is = by (c.branch && not (has_number tx r.ended)) is

body-made : (r later : Commits) (body : List ℕ) → rows_body r body ≡ Some later → Made r.commits → Made later.commits
body-made r later body e made = by (whole rows_record body) e
  where
    by : (o : Option RowsRecord) → option_and_then (rows_step r) o ≡ Some later → Made later.commits
    by None is = absurd cc
    by (Some x) is = step-made r later x is made

-- what each record keeps holds of all that is folded
folded-made : (bodies : List (List ℕ)) (place : ℕ) (first r : Commits) → folded rows_body place (Ok first) bodies ≡ Ok r → Made first.commits → Made r.commits
folded-made [] place first r e made = subst Made (ap (λ (x : Commits). x.commits) (inside e)) made
  where
    inside : ◌≡◌ {A = Result Commits ℕ} (Ok first) (Ok r) → first ≡ r
    inside is = cc
folded-made (x ∷ xs) place first r e made = by (λ later step made_too is. folded-made xs (place + 9 + length x) later r is made_too) (rows_body first x) refl e
  where
    never : ◌≡◌ {A = Result Commits ℕ} (Err place) (Ok r) → ⊥
    never is = cc

    by : ((later : Commits) → rows_body first x ≡ Some later → Made later.commits → folded rows_body (place + 9 + length x) (Ok later) xs ≡ Ok r → Made r.commits)
        → (o : Option Commits) → rows_body first x ≡ o → folded rows_body (place + 9 + length x) (ok_or o place) xs ≡ Ok r → Made r.commits
    by rest None at is = absurd (never (sym (folded-err rows_body (place + 9 + length x) place xs) ∙ is))
    by rest (Some later) at is = rest later at (body-made first later x at made) is

pub rows-made : (bodies : List (List ℕ)) (r : Commits) → rows_of bodies ≡ Ok r → AreDistinct (txs_of r.commits) × HaveMoved [] r.commits
rows-made bodies r e = folded-made bodies 0 no_commits r e (tt, tt)
