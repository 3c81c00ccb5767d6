-- Records among others, in lists and in what a crash left.
use Rattle.std.proofs.Common.{◌≡◌, ℕ, Bool, true, false, if◌then◌else◌, List, [], ◌∷◌, ◌++◌, refl, sym, ap, ◌∙◌, subst, arith}
use Rattle.std.specs.List.{Contains}
use Rattle.std.proofs.lemmas.List.Elements.{Contains-append_left, Contains-append_right}
use Rattle.dl_areas.proofs.Fitting.{puts-then}
use Rattle.dl_areas.specs.Lists.{HasLists, Lists, Write, put, puts}
use Rattle.dl_base.specs.Areas.{is_area}
use Rattle.dl_base.specs.Outside.{CrashState}
use Rattle.dl_base.specs.declared.area.Area.{Area}
use Rattle.dl_base.specs.declared.area.Area.TheVariants as areas
use Rattle.dl_journal.proofs.Records.{records-at_rest}
use Rattle.fm_manager.specs.Managed.{as_write, as_writes}
use Rattle.meaning_areas.specs.Lists.{Written}
use Rattle.meaning_areas.specs.Full.{body_of}
use Rattle.sys_promises.specs.Recorded.{HasRecords, IsThere}

pub nil : {A : Type 0} (l : List A) → l ++ [] ≡ l
nil [] = refl
nil (x ∷ l) = ap (λ (r : List _). x ∷ r) (nil l)

pub assoc : {A : Type 0} (a b c : List A) → (a ++ b) ++ c ≡ a ++ (b ++ c)
assoc [] b c = refl
assoc (x ∷ a) b c = ap (λ (r : List _). x ∷ r) (assoc a b c)

writes-then : (xs ys : List Written) → as_writes (xs ++ ys) ≡ as_writes xs ++ as_writes ys
writes-then [] ys = refl
writes-then (x ∷ xs) ys = ap (λ (ws : List Write). as_write x ∷ ws) (writes-then xs ys)

own-area : (a : Area) → is_area a a ≡ true
own-area areas.Rows = refl
own-area areas.Links = refl
own-area areas.Files = refl
own-area areas.Archive = refl
own-area areas.Backups = refl

-- a body that is put is there
put-there : (w : Write) (lists : Lists) → Contains (put w lists w.area) w.body
put-there w lists = by (is_area w.area w.area) (own-area w.area)
  where
    by : (b : Bool) → b ≡ true → Contains (if b then lists w.area ++ w.body ∷ [] else lists w.area) w.body
    by true is = Contains-append_right (lists w.area) (w.body ∷ []) w.body (0, omega arith, refl)
    by false is = absurd cc

-- and stays there
put-keeps : (w : Write) (lists : Lists) (a : Area) (body : List ℕ) → Contains (lists a) body → Contains (put w lists a) body
put-keeps w lists a body has = by (is_area w.area a)
  where
    by : (b : Bool) → Contains (if b then lists a ++ w.body ∷ [] else lists a) body
    by true = Contains-append_left (lists a) (w.body ∷ []) body has
    by false = has

puts-keep : (ws : List Write) (lists : Lists) (a : Area) (body : List ℕ) → Contains (lists a) body → Contains (puts ws lists a) body
puts-keep [] lists a body has = has
puts-keep (w ∷ ws) lists a body has = puts-keep ws (put w lists) a body (put-keeps w lists a body has)

puts-there : (front back : List Written) (x : Written) (lists : Lists) → Contains (puts (as_writes (front ++ x ∷ back)) lists (body_of x).0) (body_of x).1
puts-there front back x lists =
    let base : Lists = puts (as_writes front) lists in
    let there = puts-keep (as_writes back) (put (as_write x) base) (body_of x).0 (body_of x).1 (put-there (as_write x) base) in
    let parts : puts (as_writes (front ++ x ∷ back)) lists ≡ puts (as_writes (x ∷ back)) base = ap (λ (ws : List Write). puts ws lists) (writes-then front (x ∷ back)) ∙ puts-then (as_writes front) (as_writes (x ∷ back)) lists in
    subst (λ (ls : Lists). Contains (ls (body_of x).0) (body_of x).1) (sym parts) there

-- each of some records that are there
pub each-there : (lists : Lists) (front back : List Written) (x : Written) (p : CrashState) → HasRecords lists (front ++ x ∷ back) p → IsThere x p
each-there lists front back x p has =
    let before : List Written = has.earlier ++ front in
    let behind : List Written = back ++ has.later in
    let parts : has.earlier ++ ((front ++ x ∷ back) ++ has.later) ≡ before ++ x ∷ behind =
    ap (λ (l : List Written). has.earlier ++ l) (assoc front (x ∷ back) has.later) ∙ sym (assoc has.earlier front (x ∷ behind)) in
    let all : HasLists (puts (as_writes (before ++ x ∷ behind)) lists) p = subst (λ (l : List Written). HasLists (puts (as_writes l) lists) p) parts has.has in
    record {
      bodies = puts (as_writes (before ++ x ∷ behind)) lists (body_of x).0;
      listed = records-at_rest (puts (as_writes (before ++ x ∷ behind)) lists (body_of x).0) (p.areas (body_of x).0) (all (body_of x).0);
      among = puts-there before behind x lists;
    }

pub one-there : (lists : Lists) (x : Written) (p : CrashState) → HasRecords lists (x ∷ []) p → IsThere x p
one-there lists x p has = each-there lists [] [] x p has
