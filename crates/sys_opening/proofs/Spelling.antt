-- WHAT HAS A SPELLING: the records of an opening, and those that fit.
use Rattle.std.proofs.Common.{◌≡◌, ◌<◌, ◌+◌, ◌-◌, ◌^◌, ℕ, List, [], ◌∷◌, ◌++◌, Bool, true, false, cond, nat_lt, is_none, Option, Some, None, refl, sym, ap, arith}
use Rattle.std.proofs.lemmas.Bool.Decides.{nat_tests}
use Rattle.std.specs.Option.{option_or}
use Rattle.dl_areas.specs.Lists.{Journals, Write, grown_by}
use Rattle.dl_areas.specs.Writing.{fitting, full_in, past_limit, refused, unless_full}
use Rattle.dl_base.specs.Limits.{most_numbers}
use Rattle.dl_base.specs.declared.fault.Full.{Full}
use Rattle.dl_base.specs.declared.fault.Full.TheVariants as fulls
use Rattle.dl_codec.specs.Layout.{u32, u64}
use Rattle.dl_codec.specs.Links.{links_record}
use Rattle.dl_codec.specs.Rows.{rows_record}
use Rattle.dl_codec.specs.declared.links.LinksRecord.TheVariants as links_records
use Rattle.dl_codec.specs.declared.rows.RowsRecord.TheVariants as rows_records
use Rattle.fm_manager.specs.Managed.{AreSpelled, IsSpelled, as_write, as_writes}
use Rattle.meaning_areas.specs.Commits.{commit_of}
use Rattle.meaning_areas.specs.Lists.{Folds, Written, in_links}
use Rattle.meaning_opening.proofs.Plain.{none_some}
use Rattle.meaning_areas.specs.Full.{number_full, opening_full}
use Rattle.meaning_system.specs.Writes.{when}
use Rattle.sys_opening.proofs.Records.{counts}
use Rattle.sys_opening.specs.Halting.{HaveSpellings}
use Rattle.sys_opening.specs.Resolving.{drop_writes}

-- RECORDS ONE BEHIND ANOTHER

pub have-append : (xs ys : List Written) → HaveSpellings xs → HaveSpellings ys → HaveSpellings (xs ++ ys)
have-append [] ys first second = second
have-append (x ∷ xs) ys first second = (first.0, have-append xs ys first.1 second)

pub spelled-have : (xs : List Written) → AreSpelled xs → HaveSpellings xs
spelled-have [] all = tt
spelled-have (x ∷ xs) all = (λ fits. all.0, spelled-have xs all.1)

-- THE OPENINGS that have a number

below : (n : ℕ) → nat_lt most_numbers n ≡ false → n < 2 ^ 32
below n is = grind (arith, nat_tests)

numbered : (n : ℕ) → opening_full n ≡ None → n < 2 ^ 32
numbered n is = by (nat_lt most_numbers n) refl is
  where
    by : (b : Bool) → nat_lt most_numbers n ≡ b → cond b (Some (fulls.Openings (n - 1))) None ≡ None → n < 2 ^ 32
    by true past e = absurd (none_some (fulls.Openings (n - 1)) (sym e))
    by false within e = below n within

rows-opening : (n : ℕ) → opening_full n ≡ None → rows_record.fits (rows_records.Opening n)
unfolding rows_record u32
rows-opening n is = numbered n is

links-opening : (n : ℕ) → opening_full n ≡ None → links_record.fits (links_records.Opening n)
unfolding links_record u32
links-opening n is = numbered n is

pub counts-have : (f : Folds) → HaveSpellings (counts f)
counts-have f = (rows-opening (f.rows.opening + 1), (links-opening (f.links.opening + 1), tt))

-- A BRANCH THAT IS DROPPED

aborted-fits : (tx : ℕ) → tx < 2 ^ 64 → links_record.fits (links_records.Aborted tx)
unfolding links_record u64
aborted-fits tx lt = lt

pub drop-spelled : (f : Folds) (tx : ℕ) → tx < 2 ^ 64 → AreSpelled (drop_writes f tx)
drop-spelled f tx lt = by (is_none (commit_of tx f.rows.commits))
  where
    by : (b : Bool) → AreSpelled (when b (in_links (links_records.Aborted tx) ∷ []))
    by true = (aborted-fits tx lt, tt)
    by false = tt

-- THOSE THAT FIT have a number

no-cause : (a b : Option Full) → option_or a b ≡ None → (a ≡ None) × (b ≡ None)
no-cause (Some f) b is = absurd (none_some f (sym is))
no-cause None b is = (refl, is)

has-number : (js : Journals) (x : Written) → refused js (as_write x) ≡ None → number_full x ≡ None
has-number js x is = (no-cause (number_full x) (past_limit js (as_write x)) is).0

pub all-spelled : (xs : List Written) (js : Journals) → full_in js (as_writes xs) ≡ None → HaveSpellings xs → AreSpelled xs
unfolding full_in
all-spelled [] js fit have = tt
all-spelled (x ∷ xs) js fit have =
    let e = no-cause (refused js (as_write x)) (full_in (grown_by (as_write x) js) (as_writes xs)) fit in
    (have.0 (has-number js x e.0), all-spelled xs (grown_by (as_write x) js) e.1 have.1)

-- the first of those that fit are the first of all
pub record Front (xs : List Written) (prefix : List Write) : Type 0 where
  pub front : List Written
  pub rest : List Written
  pub parts : front ++ rest ≡ xs
  pub spelled : AreSpelled front
  pub same : as_writes front ≡ prefix

head-same : (v w : Write) (vs ws : List Write) → v ∷ vs ≡ w ∷ ws → v ≡ w
head-same v w vs ws e = cc

tail-same : (v w : Write) (vs ws : List Write) → v ∷ vs ≡ w ∷ ws → vs ≡ ws
tail-same v w vs ws e = cc

nothing-more : (w : Write) (ws : List Write) → w ∷ ws ≡ [] → ⊥
nothing-more w ws e = cc

front-more : (x : Written) (xs : List Written) (w : Write) (ws : List Write) → IsSpelled x → as_write x ≡ w → Front xs ws → Front (x ∷ xs) (w ∷ ws)
front-more x xs w ws spelled is f = record {
  front = x ∷ f.front;
  rest = f.rest;
  parts = ap (λ (ys : List Written). x ∷ ys) f.parts;
  spelled = (spelled, f.spelled);
  same = λ i. is i ∷ f.same i;
}

pub fitting-front : (xs : List Written) (js : Journals) → HaveSpellings xs → (prefix rest : List Write) → prefix ++ rest ≡ fitting js (as_writes xs) → Front xs prefix
unfolding fitting
fitting-front xs js have [] rest parts = record { front = []; rest = xs; parts = refl; spelled = tt; same = refl }
fitting-front [] js have (w ∷ ws) rest parts = absurd (nothing-more w (ws ++ rest) parts)
fitting-front (x ∷ xs) js have (w ∷ ws) rest parts = by (fitting-front xs (grown_by (as_write x) js) have.1 ws rest) (refused js (as_write x)) refl parts
  where
    by : (ws ++ rest ≡ fitting (grown_by (as_write x) js) (as_writes xs) → Front xs ws)
        → (o : Option Full) → refused js (as_write x) ≡ o → w ∷ (ws ++ rest) ≡ unless_full o (as_write x ∷ fitting (grown_by (as_write x) js) (as_writes xs)) → Front (x ∷ xs) (w ∷ ws)
    by go (Some full) is same = absurd (nothing-more w (ws ++ rest) same)
    by go None is same =
        front-more x xs w ws (have.0 (has-number js x is)) (sym (head-same w (as_write x) (ws ++ rest) (fitting (grown_by (as_write x) js) (as_writes xs)) same))
        (go (tail-same w (as_write x) (ws ++ rest) (fitting (grown_by (as_write x) js) (as_writes xs)) same))
