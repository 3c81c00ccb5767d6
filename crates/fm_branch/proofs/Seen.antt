-- What contracts see of open branches, by the journal and the records.
use Rattle.std.proofs.Common.{◌≡◌, ℕ, List, [], ◌∷◌, Option, Some, None, Result, Ok, Err, OnOk, OnErr, cond, Bool, true, false, is_some, refl, sym, ◌∙◌, subst}
use Rattle.std.proofs.lemmas.Bool.{false≢true}
use Rattle.std.specs.Result.{result_err}
use Rattle.dl_areas.specs.Lists.{write_of}
use Rattle.dl_areas.specs.Writing.{DoesAlone}
use Rattle.dl_base.specs.Outside.{Outside}
use Rattle.dl_base.specs.declared.area.Area.{Area}
use Rattle.dl_base.specs.declared.area.Area.TheVariants as areas
use Rattle.dl_base.specs.declared.fault.AppendFault.{AppendFault}
use Rattle.dl_base.specs.declared.value.LinkRow.{LinkRow}
use Rattle.dl_codec.specs.declared.links.BranchPhase.TheVariants as phases
use Rattle.dl_codec.specs.declared.links.Taken.{Taken}
use Rattle.dl_journal.specs.Extent.{Extent}
use Rattle.dl_journal.specs.Open.{IsOpen}
use Rattle.meaning_areas.specs.Branches.{Branch, Branches, branch, may_prepare, moved_by, prepares_on, with_branch}
use Rattle.fm_branch.specs.Linked.{Linked, Recorded, extent}

abbrev pub seen : Extent → Recorded → Linked
seen j h = record { links = h.links; prepared = h.prepared; length = j.length; limit = j.limit }

-- the journal is that which is seen
pub journal_is : (j : Extent) (h : Recorded) (s : Linked) → seen j h ≡ s → j.area ≡ areas.Links → j ≡ extent s
journal_is j h s is at = λ i. record { area = at i; length = (is i).length; limit = (is i).limit }

pub open_seen : (j : Extent) (h : Recorded) (s : Linked) (o : Outside) → seen j h ≡ s → j.area ≡ areas.Links → IsOpen (extent s) o → IsOpen j o
open_seen j h s o is at ready = subst (λ (x : Extent). IsOpen x o) (sym (journal_is j h s is at)) ready

-- the write of a record, of the branches as they are seen
pub does_seen : (j k : Extent) (h later : Recorded) (s : Linked) (body spelling : List ℕ) (r : Result Unit AppendFault) (fault : Option AppendFault) (o n : Outside)
    → seen j h ≡ s → j.area ≡ areas.Links → body ≡ spelling → result_err r ≡ fault
    → DoesAlone j k (write_of j.area body None ∷ []) (result_err r) o n
    → DoesAlone (extent s) (extent (seen k later)) (write_of areas.Links spelling None ∷ []) fault o n
does_seen j k h later s body spelling r fault o n is at spelled ended does =
    subst (λ (x : Extent). DoesAlone x (extent (seen k later)) (write_of areas.Links spelling None ∷ []) fault o n) (journal_is j h s is at)
    (subst (λ (x : Extent). DoesAlone j x (write_of areas.Links spelling None ∷ []) fault o n) (journal_is k later (seen k later) refl (does.area ∙ at))
    (subst (λ (a : Area). DoesAlone j k (write_of a spelling None ∷ []) fault o n) at
    (subst (λ (b : List ℕ). DoesAlone j k (write_of j.area b None ∷ []) fault o n) spelled
    (subst (λ (f : Option AppendFault). DoesAlone j k (write_of j.area body None ∷ []) f o n) ended does))))

-- what a call that fails says of an answer, and one that says it of each fault

pub fails_ok : {A E : Type 0} (P : Type 0) (r : Result A E) (e : E) → r ≡ Err e → OnOk r P
fails_ok P (Ok a) e is = absurd cc
fails_ok P (Err f) e is = tt

pub fails_so : {A E : Type 0} {P : Type 0} (r : Result A E) → P → OnErr r P
fails_so (Ok a) p = tt
fails_so (Err f) p = p

pub no_fault : {A E : Type 0} {X : Type 0} (a : A) (e : E) → Ok a ≡ Err e → X
no_fault a e is = absurd cc

-- a Prepared that the fold takes

taken_test : {A : Type 0} (t : Bool) (x : A) → is_some (cond t (Some x) None) ≡ true → cond t (Some x) None ≡ Some x
taken_test true x some = refl
taken_test false x some = absurd (false≢true some)

pub prepared_taken : (l : Branches) (tx : ℕ) (gives : List LinkRow) (takes : List Taken) (o : Option Branch) → is_some (prepares_on l tx gives takes o) ≡ true
    → prepares_on l tx gives takes o ≡ Some (with_branch l tx (branch (moved_by gives takes) phases.Prepared))
prepared_taken l tx gives takes (Some b) some = absurd (false≢true some)
prepared_taken l tx gives takes None some = taken_test (may_prepare l gives takes) (with_branch l tx (branch (moved_by gives takes) phases.Prepared)) some

pub prepared_new : (l : Branches) (tx : ℕ) (gives : List LinkRow) (takes : List Taken) (o : Option Branch) → is_some (prepares_on l tx gives takes o) ≡ true → o ≡ None
prepared_new l tx gives takes (Some b) some = absurd (false≢true some)
prepared_new l tx gives takes None some = refl
