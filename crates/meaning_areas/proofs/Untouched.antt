-- The path of a committed link that no open commit takes has nothing open on it.
use Rattle.std.proofs.Common.{◌≡◌, ◌≢◌, ⊎_elim, ℕ, List, [], ◌∷◌, Bool, true, false, cond, ◌==◌, ◌||◌, map, Option, Some, None, is_some, refl, sym, ◌∙◌, ap, subst}
use Rattle.std.proofs.lemmas.Bool.{cases_eq}
use Rattle.std.specs.FinMap as maps
use Rattle.std.specs.List.{list_any}
use Rattle.dl_base.specs.declared.value.LinkRow.{LinkRow}
use Rattle.meaning_settling.specs.Apart.{has_path}
use Rattle.meaning_settling.specs.Keyed.{is_at}
use Rattle.meaning_settling.specs.Settled.{IsIn}
use Rattle.meaning_settling.specs.Settling.{Kept, Moved, held_by, on, settle_one}
use Rattle.meaning_settling.proofs.KeyedLaws.{any-append}
use Rattle.meaning_settling.proofs.PartLaws.{get-held}
use Rattle.meaning_settling.proofs.SettledLaws.{settled-front, settled-held}
use Rattle.meaning_tables.specs.Links.{links}
use Rattle.meaning_areas.specs.Commits.{commit_of, tables_after}
use Rattle.meaning_areas.specs.Core.{Core, Stage, decided_in}
use Rattle.meaning_areas.specs.Joint.{AgreesAt, Joint}
use Rattle.meaning_areas.specs.Lists.{Folds}
use Rattle.meaning_areas.specs.Stands.{kept_of, txs_of}
use Rattle.meaning_areas.proofs.OwnNumbers.{decided-apart, decided-is}
use Rattle.meaning_areas.proofs.Steps.{agrees-of}
use Rattle.meaning_areas.proofs.Tables.{commit-in, not_none, test-other, test-same}

false_true : false ≡ true → ⊥
false_true e = cc

found-none : (ls : List LinkRow) (p : List ℕ) → on ls p ≡ None → list_any (is_at p) (map (λ l. l.path) ls) ≡ false
found-none [] p e = refl
found-none (l ∷ ls) p e = by (found-none ls p) (is_at p l.path) e
  where
    by : (on ls p ≡ None → list_any (is_at p) (map (λ (x : LinkRow). x.path) ls) ≡ false) → (b : Bool) → cond b (Some l) (on ls p) ≡ None → (b || list_any (is_at p) (map (λ (x : LinkRow). x.path) ls)) ≡ false
    by rest true is = absurd cc
    by rest false is = rest is

module _ (f : Folds) (c : Core) (joint : Joint f c) where
  pub open-off : (p : List ℕ) (l : LinkRow) → on (links (tables_after [] f.rows.commits)) p ≡ Some l → ((t : ℕ) (m : Moved) → decided_in c t ≡ Some m → on m.takes p ≡ Some l → ⊥) → (t : ℕ) (m : Moved) → decided_in c t ≡ Some m → has_path m p ≡ false
  open-off p l at never t m is = by (has_path m p) refl
    where
      others : ℕ → Option Moved
      others q = cond (q == t) None (decided_in c q)

      other-at : (q : ℕ) → q ≢ t → decided_in c q ≡ cond (q == t) None (decided_in c q)
      other-at q not_t = sym (ap (λ b. cond b None (decided_in c q)) (test-other q t not_t))

      none-at : cond (t == t) None (decided_in c t) ≡ None
      none-at = ap (λ b. cond b None (decided_in c t)) (test-same t t refl)

      -- the others are on other paths
      off : has_path m p ≡ true → (q : ℕ) (a : Moved) → cond (q == t) None (decided_in c q) ≡ Some a → has_path a p ≡ false
      off has q a e = ⊎_elim
          (λ (same : q ≡ t). absurd (not_none a _ e (ap (λ b. cond b None (decided_in c q)) (test-same q t same))))
          (λ (not_t : q ≢ t). ⊎_elim
          (λ (lacks : has_path a p ≡ false). lacks)
          (λ (lacks : has_path m p ≡ false). absurd (false_true (sym lacks ∙ has)))
          ((decided-apart f c joint q t not_t a m (other-at q not_t ∙ e) is).paths p))
          (cases_eq q t)

      committed : IsIn t (txs_of f.rows.commits)
      committed =
          let w = decided-is c t m is in
          let P : Stage → Type 0 = λ s. AgreesAt s w.0 (commit_of t f.rows.commits) (maps.get f.links.table t) in
          let agrees = subst P w.2 (agrees-of f c joint t w.0 w.1) in
          commit-in t f.rows.commits (ap is_some agrees.0.at)

      behind : has_path m p ≡ true → held_by (on m.gives p) (on m.takes p) (maps.get f.links.held p) ≡ Some l
      behind has =
          sym (ap (λ (k : Kept). maps.get k.held p) (settled-front (decided_in c) (λ q. cond (q == t) None (decided_in c q)) (txs_of f.rows.commits) t m (kept_of f) (λ q u in_q in_u. decided-apart f c joint q u) is other-at none-at committed joint.distinct)
          ∙ settled-held (λ q. cond (q == t) None (decided_in c q)) (txs_of f.rows.commits) (settle_one m (kept_of f)) p (off has) ∙ get-held m (kept_of f) p)
          ∙ joint.held p ∙ at

      cases : (g x : Option LinkRow) → on m.gives p ≡ g → on m.takes p ≡ x → held_by g x (maps.get f.links.held p) ≡ Some l → has_path m p ≡ false
      cases g (Some x) at_g at_x e = absurd (never t m is (at_x ∙ e))
      cases (Some g) None at_g at_x e = absurd cc
      cases None None at_g at_x e =
          any-append (is_at p) (map (λ (x : LinkRow). x.path) m.gives) (map (λ (x : LinkRow). x.path) m.takes)
          ∙ (λ i. found-none m.gives p at_g i || found-none m.takes p at_x i)

      by : (b : Bool) → has_path m p ≡ b → has_path m p ≡ false
      by true has = cases (on m.gives p) (on m.takes p) refl refl (behind has)
      by false lacks = lacks
