-- Tables with the same link on each path have the same links: a change from one to the other takes none away and adds none.
use Rattle.std.proofs.Common.{◌≡◌, inl, inr, ⊎_elim, ℕ, List, [], ◌∷◌, Bool, true, false, not, cond, ◌==◌, ◌&&◌, ◌||◌, map, Some, refl, sym, ◌∙◌, ap}
use Rattle.std.specs.Prelude.{IsTrue}
use Rattle.std.specs.List.{list_any}
use Rattle.dl_base.specs.declared.value.LinkNo.{LinkNo}
use Rattle.dl_base.specs.declared.value.LinkRow.{LinkRow}
use Rattle.meaning_settling.specs.Keyed.{is_at}
use Rattle.meaning_settling.specs.Settling.{on}
use Rattle.meaning_settling.proofs.KeyedLaws.{either, find-any, find-key, is_at-same, is_at-self, or-left, or-right}
use Rattle.meaning_tables.specs.Fits.{differ}
use Rattle.meaning_tables.specs.Links.{lacking, links, same_number}
use Rattle.meaning_tables.specs.Tables.{Tables}
use Rattle.meaning_areas.specs.Commits.{Commit, tables_after}
use Rattle.meaning_areas.specs.Stands.{IsCommit}
use Rattle.meaning_areas.proofs.Tables.{some_same, test-same}

false_true : false ≡ true → ⊥
false_true e = cc

-- one path a link
abbrev pub Differ : Tables → Type 0
Differ tables = IsTrue (differ is_at (map (λ l. l.path) (links tables)))

pub last-differs : (before : Tables) (cs : List Commit) → Differ before → ((c : Commit) → IsCommit c cs → Differ c.tables) → Differ (tables_after before cs)
last-differs before [] first each = first
last-differs before (c ∷ cs) first each = last-differs c.tables cs (each c (inl refl)) (λ d is. each d (inr is))

same-self : (a : LinkNo) → same_number a a ≡ true
same-self a = ap (λ b. b && (a.k == a.k)) (test-same a.tx a.tx refl) ∙ test-same a.k a.k refl

has-number : (ys : List LinkRow) (p : List ℕ) (z : LinkRow) → on ys p ≡ Some z → list_any (λ y. same_number z.link y.link) ys ≡ true
has-number [] p z e = absurd cc
has-number (y ∷ ys) p z e = by (has-number ys p z) (is_at p y.path) e
  where
    by : (on ys p ≡ Some z → list_any (λ x. same_number z.link x.link) ys ≡ true) → (b : Bool) → cond b (Some y) (on ys p) ≡ Some z → (same_number z.link y.link || list_any (λ x. same_number z.link x.link) ys) ≡ true
    by rest true is = or-left (same_number z.link y.link) (list_any (λ x. same_number z.link x.link) ys) (ap (λ (l : LinkRow). same_number z.link l.link) (some_same y z is) ∙ same-self z.link)
    by rest false is = or-right (same_number z.link y.link) (list_any (λ x. same_number z.link x.link) ys) (rest is)

pub lacks-none : (zs ys : List LinkRow) → IsTrue (differ is_at (map (λ l. l.path) zs)) → ((p : List ℕ) (l : LinkRow) → on zs p ≡ Some l → on ys p ≡ Some l) → lacking zs ys ≡ []
lacks-none [] ys differs same = refl
lacks-none (z ∷ zs) ys differs same =
    let two = both (not (list_any (is_at z.path) (map (λ (l : LinkRow). l.path) zs))) (differ is_at (map (λ (l : LinkRow). l.path) zs)) differs in
    let has : list_any (λ y. same_number z.link y.link) ys ≡ true = has-number ys z.path z (same z.path z (ap (λ b. cond b (Some z) (on zs z.path)) (is_at-self z.path))) in
    ap (λ b. cond (not b) (z ∷ lacking zs ys) (lacking zs ys)) has ∙ lacks-none zs ys two.1 (λ p l at. ⊎_elim
    (λ (here : is_at p z.path ≡ true). absurd (never two.0 p l here at))
    (λ (there : is_at p z.path ≡ false). same p l (ap (λ b. cond b (Some z) (on zs p)) there ∙ at))
    (either (is_at p z.path)))
  where
    both : (a b : Bool) → (a && b) ≡ true → (a ≡ true) × (b ≡ true)
    both true b e = (refl, e)
    both false b e = absurd (false_true e)

    no : (b : Bool) → not b ≡ true → b ≡ true → ⊥
    no true e f = false_true e
    no false e f = false_true f

    -- no later link is on its path
    never : not (list_any (is_at z.path) (map (λ l. l.path) zs)) ≡ true → (p : List ℕ) (l : LinkRow) → is_at p z.path ≡ true → on zs p ≡ Some l → ⊥
    never first p l here at =
        no (list_any (is_at z.path) (map (λ (x : LinkRow). x.path) zs)) first
        (ap (λ (q : List ℕ). list_any (is_at q) (map (λ (x : LinkRow). x.path) zs)) (sym (is_at-same p z.path here) ∙ find-key (λ (x : LinkRow). x.path) zs p l at)
        ∙ find-any (λ (x : LinkRow). x.path) (λ (x : LinkRow). x.path) zs p l at)
