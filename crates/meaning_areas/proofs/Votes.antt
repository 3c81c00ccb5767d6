-- The fold of Links takes a Prepared, where a claim stands.
use Rattle.std.proofs.Common.{◌≡◌, ◌≢◌, ⊎_elim, ℕ, List, [], ◌∷◌, Bool, true, false, cond, ◌&&◌, ◌||◌, Option, Some, None, refl, sym, ◌∙◌, ap, subst}
use Rattle.std.proofs.lemmas.Bool.{cases_eq}
use Rattle.std.specs.FinMap as maps
use Rattle.std.specs.List.{list_all, list_any}
use Rattle.dl_base.specs.declared.column.Options.{Options}
use Rattle.dl_base.specs.declared.value.LinkRow.{LinkRow}
use Rattle.dl_codec.specs.declared.links.BranchPhase.TheVariants.{Prepared}
use Rattle.dl_codec.specs.declared.links.LinksRecord.TheVariants as records
use Rattle.dl_codec.specs.declared.links.Taken.{Taken}
use Rattle.meaning_tables.specs.Links.{links}
use Rattle.meaning_settling.specs.Apart.{has_path}
use Rattle.meaning_settling.specs.Keyed.{is_at}
use Rattle.meaning_settling.specs.Settling.{Moved, on, link_key}
use Rattle.meaning_settling.proofs.KeyedLaws.{is_at-self, or-right}
use Rattle.meaning_settling.proofs.SettledLaws.{settled-held}
use Rattle.meaning_areas.specs.Branches.{branch, holds, is_free, given_on, moved_by, may_prepare, with_branch, prepares_on, links_step}
use Rattle.meaning_areas.specs.Same.{read_number, write_number, unlink_number, same_truth, same_options, same_link}
use Rattle.meaning_areas.specs.Commits.{commit_of, tables_after}
use Rattle.meaning_areas.specs.Core.{Stage, active, Work, Core, is_decided, decided_work, decided_in}
use Rattle.meaning_areas.specs.Lists.{Folds}
use Rattle.meaning_areas.specs.Joint.{AgreesAt, Joint}
use Rattle.meaning_areas.specs.Stands.{txs_of, kept_of}
use Rattle.meaning_areas.proofs.Tables.{test-same, some_same, not_none}
use Rattle.meaning_areas.proofs.Steps.{agrees-of}
use Rattle.meaning_areas.specs.Moving.{IsClaim}

false_true : false ≡ true → ⊥
false_true e = cc

all_true : (a b : Bool) → a ≡ true → b ≡ true → (a && b) ≡ true
all_true true b e f = f
all_true false b e f = absurd (false_true e)

truth-self : (b : Bool) → same_truth b b ≡ true
truth-self true = refl
truth-self false = refl

options-self : (o : Options) → same_options o o ≡ true
options-self o = all_true _ _ (all_true _ _ (all_true _ _ (test-same (read_number o.read) (read_number o.read) refl) (test-same (write_number o.write) (write_number o.write) refl)) (truth-self o.recovery)) (test-same (unlink_number o.unlink) (unlink_number o.unlink) refl)

pub link-self : (l : LinkRow) → same_link l l ≡ true
link-self l = all_true _ _ (all_true _ _ (is_at-self (link_key l.link)) (is_at-self l.path)) (options-self l.options)

-- A CLAIM THAT STANDS: what is given is committed, and the paths of what is taken are free or given
module _ (f : Folds) (c : Core) (joint : Joint f c) (tx : ℕ) (w : Work) (is : c.works tx ≡ Some w) (was : w.stage ≡ active) where
  -- on the paths of a claim, what is held is what is committed
  pub held-is : (p : List ℕ) → has_path w.moved p ≡ true → maps.get f.links.held p ≡ on (links (tables_after [] f.rows.commits)) p
  held-is p has = sym (settled-held (decided_in c) (txs_of f.rows.commits) (kept_of f) p (λ t a e. off t a (c.works t) refl e)) ∙ joint.held p
    where
      chosen : (v : Work) (b : Bool) (a : Moved) → cond b (Some v.moved) None ≡ Some a → v.moved ≡ a
      chosen v true a e = some_same v.moved a e
      chosen v false a e = absurd cc

      undecided : (v : Work) → v.stage ≡ active → (a : Moved) → decided_work (Some v) ≡ Some a → ⊥
      undecided v e a d = not_none a _ d (ap (λ (s : Stage). cond (is_decided s && v.branch) (Some v.moved) None) e)

      off : (t : ℕ) (a : Moved) (o : Option Work) → c.works t ≡ o → decided_work (c.works t) ≡ Some a → has_path a p ≡ false
      off t a None at d = absurd (not_none a _ d (ap decided_work at))
      off t a (Some v) at d = ⊎_elim
          (λ (e : t ≡ tx). absurd (undecided w was a (sym (ap decided_work (ap c.works e ∙ is)) ∙ d)))
          (λ (other : t ≢ tx).
          let same : v.moved ≡ a = chosen v (is_decided v.stage && v.branch) a (sym (ap decided_work at) ∙ d) in
          subst (λ (x : Moved). has_path x p ≡ false) same (⊎_elim
          (λ (lacks : has_path v.moved p ≡ false). lacks)
          (λ (lacks : has_path w.moved p ≡ false). absurd (false_true (sym lacks ∙ has)))
          (joint.apart t tx other v w at is p)))
          (cases_eq t tx)

  gives-hold : (gs : List LinkRow) → ((g : LinkRow) → list_any (same_link g) gs ≡ true → has_path w.moved g.path ≡ true) → ((g : LinkRow) → list_any (same_link g) gs ≡ true → on (links (tables_after [] f.rows.commits)) g.path ≡ Some g)
      → list_all (λ g. holds (maps.get f.links.held g.path) g) gs ≡ true
  gives-hold [] has at = refl
  gives-hold (g ∷ gs) has at =
      let here : list_any (same_link g) (g ∷ gs) ≡ true = ap (λ b. b || list_any (same_link g) gs) (link-self g) in
      all_true _ _ (ap (λ (o : Option LinkRow). holds o g) (held-is g.path (has g here) ∙ at g here) ∙ link-self g)
      (gives-hold gs (λ x e. has x (or-right (same_link x g) (list_any (same_link x) gs) e)) (λ x e. at x (or-right (same_link x g) (list_any (same_link x) gs) e)))

  takes-free : (ts : List Taken) → ((t : Taken) → list_any (λ u. is_at t.link.path u.link.path) ts ≡ true → has_path w.moved t.link.path ≡ true)
      → list_all (λ t. is_free (on (links (tables_after [] f.rows.commits)) t.link.path) (given_on w.moved.gives t.link.path)) ts ≡ true
      → list_all (λ t. is_free (maps.get f.links.held t.link.path) (given_on w.moved.gives t.link.path)) ts ≡ true
  takes-free [] has free = refl
  takes-free (t ∷ ts) has free =
      let here : list_any (λ u. is_at t.link.path u.link.path) (t ∷ ts) ≡ true = ap (λ b. b || list_any (λ u. is_at t.link.path u.link.path) ts) (is_at-self t.link.path) in
      let two = both (is_free (on (links (tables_after [] f.rows.commits)) t.link.path) (given_on w.moved.gives t.link.path)) _ free in
      all_true _ _ (ap (λ (o : Option LinkRow). is_free o (given_on w.moved.gives t.link.path)) (held-is t.link.path (has t here)) ∙ two.0)
      (takes-free ts (λ x e. has x (or-right (is_at x.link.path t.link.path) (list_any (λ u. is_at x.link.path u.link.path) ts) e)) two.1)
    where
      both : (a b : Bool) → (a && b) ≡ true → (a ≡ true) × (b ≡ true)
      both true b e = (refl, e)
      both false b e = absurd (false_true e)

  -- THE RECORD IS ACCEPTED
  pub prepared-accepted : (takes : List Taken) → IsClaim c w.moved takes
      → ((g : LinkRow) → list_any (same_link g) w.moved.gives ≡ true → has_path w.moved g.path ≡ true) → ((t : Taken) → list_any (λ u. is_at t.link.path u.link.path) takes ≡ true → has_path w.moved t.link.path ≡ true)
      → links_step f.links (records.Prepared tx w.moved.gives takes) ≡ Some (with_branch f.links tx (branch w.moved Prepared))
  prepared-accepted takes claim has_g has_t =
      let P : Stage → Type 0 = λ s. AgreesAt s w (commit_of tx f.rows.commits) (maps.get f.links.table tx) in
      let none : (commit_of tx f.rows.commits ≡ None) × (maps.get f.links.table tx ≡ None) = subst P was (agrees-of f c joint tx w is) in
      let on_c : (p : List ℕ) → on (links (tables_after [] f.rows.commits)) p ≡ on (links (tables_after [] c.commits)) p = λ p. ap (λ cs. on (links (tables_after [] cs)) p) joint.commits in
      let may : may_prepare f.links w.moved.gives takes ≡ true =
      all_true _ _ (all_true _ _ (gives-hold w.moved.gives has_g (λ g e. on_c g.path ∙ claim.given g e))
      (takes-free takes has_t (ap (λ cs. list_all (λ t. is_free (on (links (tables_after [] cs)) t.link.path) (given_on w.moved.gives t.link.path)) takes) joint.commits ∙ claim.free)))
      claim.fills in
      ap (prepares_on f.links tx w.moved.gives takes) none.1
      ∙ ap (λ b. cond b (Some (with_branch f.links tx (branch (moved_by w.moved.gives takes) Prepared))) None) may
      ∙ ap (λ (m : Moved). Some (with_branch f.links tx (branch m Prepared))) claim.is
