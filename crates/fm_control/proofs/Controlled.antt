-- Between two steps the committed links, those that forbid commands, and files are under control.
use Rattle.std.proofs.Common.{◌≡◌, ⊎_elim, inl, inr, ℕ, Bool, true, false, not, cond, ◌&&◌, List, [], ◌∷◌, ◌++◌, Option, Some, None, is_some, refl, sym, ◌∙◌, ap, subst}
use Rattle.std.specs.Cmp.Lexicographic.{slice_cmp}
use Rattle.std.specs.FinMap as maps
use Rattle.std.specs.List.{find}
use Rattle.std.specs.Option.{option_map, option_to_list}
use Rattle.std.specs.Ordering.{nat_cmp}
use Rattle.dl_base.specs.declared.step.Phase.{Phase}
use Rattle.dl_base.specs.declared.step.Phase.TheVariants as phases
use Rattle.dl_base.specs.declared.value.LinkRow.{LinkRow}
use Rattle.fm_control.specs.Control.{AreGuards, HaveTheirs, IsControlled}
use Rattle.fm_links.proofs.Guarding.{forbidding-law, linked-law}
use Rattle.fm_links.proofs.Moving.{get-with}
use Rattle.fm_links.proofs.Searching.{IsOnly, Owner, are-apart, claims-only, lacking, not-its, of_it, owner}
use Rattle.fm_links.specs.Claims.{PathClaim, claim_by, with_claim}
use Rattle.fm_links.specs.Guarding.{committed_on, guards, phase_in, unless_among}
use Rattle.fm_links.specs.Searching.{AreClaims, claim_of, has_claim}
use Rattle.fm_pieces.proofs.Guarded.{decided-rests, never-doomed}
use Rattle.meaning_areas.proofs.OnPaths.{last-differs}
use Rattle.meaning_areas.proofs.Tables.{some_same}
use Rattle.meaning_areas.specs.Core.{core_kept, decided_in}
use Rattle.meaning_areas.specs.Lists.{Folds}
use Rattle.meaning_areas.specs.Stands.{txs_of}
use Rattle.meaning_history.proofs.Claims.{on-in}
use Rattle.meaning_history.proofs.Steps.{have-fits}
use Rattle.meaning_history.specs.Sound.{AreSound}
use Rattle.meaning_history.specs.Standing.{ClaimStands}
use Rattle.meaning_merge.proofs.MovedLaws.{has-number, in-on, none-in}
use Rattle.meaning_merge.proofs.Numbers.{Distinct, distinct-same, number-same}
use Rattle.meaning_merge.proofs.Paths.{differ-one}
use Rattle.meaning_merge.proofs.Touched.{fits-distinct}
use Rattle.meaning_merge.specs.Touching.{In, OnePath, is_in}
use Rattle.meaning_settling.proofs.KeyedLaws.{either, is_at-self}
use Rattle.meaning_settling.proofs.SettledLaws.{settled-files}
use Rattle.meaning_settling.specs.Apart.{has_path}
use Rattle.meaning_settling.specs.Keyed.{Keyed, is_at}
use Rattle.meaning_settling.specs.Settling.{Moved, on}
use Rattle.meaning_tables.specs.Links.{links}
use Rattle.meaning_system.proofs.Archiving.{decided-txn}
use Rattle.meaning_system.proofs.Resolved.{both}
use Rattle.meaning_system.specs.Claims.{not_among}
use Rattle.meaning_system.specs.Commands.{forbidding}
use Rattle.meaning_system.specs.CoreOf.{core_of}
use Rattle.meaning_system.specs.State.{State, Txn, is_active, is_decided, is_doomed, moved_of, tables_of}

false_true : false ≡ true → ⊥
false_true e = cc

-- THE CLAIMS OF A STATE can be made of its transactions

abbrev made : State → List (ℕ × Txn) → Keyed PathClaim
made s [] = maps.empty
made s (e ∷ es) = cond (is_doomed s e.1) (made s es) (with_claim e.0 (moved_of e.1) (made s es))

get-made : (s : State) (p : List ℕ) (es : List (ℕ × Txn)) → maps.get (made s es) p ≡ claim_of p (find (has_claim s p) es)
get-made s p [] = maps.get-empty (slice_cmp nat_cmp) p
get-made s p (e ∷ es) = by (is_doomed s e.1) (get-made s p es)
  where
    chosen : maps.get (made s es) p ≡ claim_of p (find (has_claim s p) es) → (b : Bool) → cond b (Some (claim_by e.0 (moved_of e.1) p)) (maps.get (made s es) p) ≡ claim_of p (cond b (Some e) (find (has_claim s p) es))
    chosen rest true = refl
    chosen rest false = rest

    by : (d : Bool) → maps.get (made s es) p ≡ claim_of p (find (has_claim s p) es)
        → maps.get (cond d (made s es) (with_claim e.0 (moved_of e.1) (made s es))) p ≡ claim_of p (cond (not d && has_path (moved_of e.1) p) (Some e) (find (has_claim s p) es))
    by true rest = rest
    by false rest = get-with e.0 (moved_of e.1) (made s es) p ∙ chosen rest (has_path (moved_of e.1) p)

claims-made : (s : State) → AreClaims (made s (maps.entries s.txs)) s
claims-made s p = get-made s p (maps.entries s.txs)

-- where nothing is given, all links are left

all-left : (ls : List LinkRow) → not_among [] ls ≡ ls
all-left [] = refl
all-left (l ∷ ls) = ap (λ (xs : List LinkRow). l ∷ xs) (all-left ls)

still-there : (o : Option LinkRow) → unless_among [] o ≡ o
still-there None = refl
still-there (Some l) = refl

module _ (first : ℕ) (f : Folds) (s : State) (sound : AreSound first f s) where
  paths-differ : OnePath (links (tables_of s))
  paths-differ = differ-one (links (tables_of s)) (last-differs [] s.commits refl sound.follows.joint.whole.paths)

  numbers-differ : Distinct (links (tables_of s))
  numbers-differ = fits-distinct (tables_of s) (have-fits first s sound.history).committed

  module _ (p : List ℕ) where
    -- THE LINKS THAT FORBID, and the committed one, by the claim on the path
    only : IsOnly s p (maps.get (made s (maps.entries s.txs)) p)
    only = claims-only s (made s (maps.entries s.txs)) (are-apart f s sound.follows.joint) (claims-made s) p

    forbids : forbidding s p ≡ guards (maps.get f.links.held p) (maps.get (made s (maps.entries s.txs)) p) (phase_in s (maps.get (made s (maps.entries s.txs)) p))
    forbids = forbidding-law first f s (made s (maps.entries s.txs)) p sound (claims-made s)

    committed : on (links (tables_of s)) p ≡ committed_on (maps.get f.links.held p) (maps.get (made s (maps.entries s.txs)) p) (phase_in s (maps.get (made s (maps.entries s.txs)) p))
    committed =
        ap (λ (ls : List LinkRow). on ls p) (sym (all-left (links (tables_of s))))
        ∙ linked-law first f s (made s (maps.entries s.txs)) [] p sound (claims-made s)
        ∙ still-there (committed_on (maps.get f.links.held p) (maps.get (made s (maps.entries s.txs)) p) (phase_in s (maps.get (made s (maps.entries s.txs)) p)))

    -- a committed link on a path that is taken is given there
    module _ (t : Txn) (stands : ClaimStands s t) (l x : LinkRow) (linked : on (links (tables_of s)) p ≡ Some l) (taken : on (moved_of t).takes p ≡ Some x) where
      its : In l (links (tables_of s)) × (p ≡ l.path)
      its = on-in (links (tables_of s)) p l linked

      among-gives : In l (moved_of t).gives
      among-gives = ⊎_elim
          (λ (yes : is_in (moved_of t).gives l ≡ true).
          let g = has-number (moved_of t).gives l yes in
          let same : l ≡ g.0 = distinct-same (links (tables_of s)) l g.0 numbers-differ its.0 (stands.given g.0 g.1) (number-same l.link g.0.link g.2) in
          subst (λ (y : LinkRow). In y (moved_of t).gives) (sym same) g.1)
          (λ (no : is_in (moved_of t).gives l ≡ false).
          let it = on-in (moved_of t).takes p x taken in
          let here : is_at l.path x.path ≡ true = ap (λ (q : List ℕ). is_at l.path q) (sym it.1 ∙ its.1) ∙ is_at-self l.path in
          absurd (false_true (sym (stands.free x l it.0 its.0 no) ∙ here)))
          (either (is_in (moved_of t).gives l))

      given-on : on (moved_of t).gives p ≡ Some l
      given-on = by (on (moved_of t).gives p) refl
        where
          by : (o : Option LinkRow) → on (moved_of t).gives p ≡ o → on (moved_of t).gives p ≡ Some l
          by None e = absurd (none-in (moved_of t).gives l (ap (on (moved_of t).gives) (sym its.1) ∙ e) among-gives)
          by (Some z) e =
              let is = on-in (moved_of t).gives p z e in
              e ∙ ap (λ (y : LinkRow). Some y) (some_same z l (sym (in-on (links (tables_of s)) z paths-differ (stands.given z is.0)) ∙ ap (on (links (tables_of s))) (sym is.1) ∙ linked))

    -- AT MOST TWO
    alone : (h : Option LinkRow) → AreGuards s p (option_to_list h ++ [])
    alone None = tt
    alone (Some l) = tt

    module _ (c : PathClaim) (t : Txn) (at : maps.get s.txs c.tx ≡ Some t) (same : claim_by c.tx (moved_of t) p ≡ c) where
      gives-is : (o : Option LinkRow) → c.give ≡ o → on (moved_of t).gives p ≡ o
      gives-is o e = ap (λ (y : PathClaim). y.give) same ∙ e

      takes-is : (o : Option LinkRow) → c.take ≡ o → on (moved_of t).takes p ≡ o
      takes-is o e = ap (λ (y : PathClaim). y.take) same ∙ e

      waits : t.phase ≡ phases.Prepared → (h x : Option LinkRow) → c.take ≡ x → on (links (tables_of s)) p ≡ h → AreGuards s p (option_to_list h ++ option_to_list x)
      waits is None None e linked = tt
      waits is None (Some x) e linked = tt
      waits is (Some l) None e linked = tt
      waits is (Some l) (Some x) e linked = inl (record {
        tx = c.tx;
        txn = t;
        at = at;
        unfinished = ap is_active is;
        gives = given-on t (sound.standing c.tx t at (ap is_decided is) (never-doomed s t (ap is_active is))) l x linked (takes-is (Some x) e);
        takes = takes-is (Some x) e;
      })

      goes : t.phase ≡ phases.Decided → (h g x : Option LinkRow) → c.give ≡ g → c.take ≡ x → AreGuards s p (option_to_list (committed_on h (Some (record { tx = c.tx; give = g; take = x })) (Some phases.Decided)) ++ option_to_list g)
      goes is None None None gives takes = tt
      goes is (Some l) None None gives takes = tt
      goes is h None (Some x) gives takes = tt
      goes is h (Some g) None gives takes = tt
      goes is h (Some g) (Some x) gives takes = inr (record {
        tx = c.tx;
        txn = t;
        at = at;
        unfinished = ap is_active is;
        gives = gives-is (Some g) gives;
        takes = takes-is (Some x) takes;
      })

      by-phase : (h : Option LinkRow) (x : Phase) → t.phase ≡ x → on (links (tables_of s)) p ≡ committed_on h (Some c) (Some x) → AreGuards s p (guards h (Some c) (Some x))
      by-phase h phases.Active is linked = alone h
      by-phase h phases.Prepared is linked = waits is h c.take refl linked
      by-phase h phases.Decided is linked = goes is h c.give c.take refl refl
      by-phase h phases.Finished is linked = alone h
      by-phase h phases.Dropped is linked = alone h

    guards-are : (h : Option LinkRow) (o : Option PathClaim) → IsOnly s p o → on (links (tables_of s)) p ≡ committed_on h o (phase_in s o) → AreGuards s p (guards h o (phase_in s o))
    guards-are h None one linked = alone h
    guards-are h (Some c) one linked =
        let it : Owner s p c = owner s p c one in
        let phase : phase_in s (Some c) ≡ Some it.0.phase = ap (option_map (λ (t : Txn). t.phase)) it.1 in
        subst (λ (x : Option Phase). AreGuards s p (guards h (Some c) x)) (sym phase) (by-phase c it.0 it.1 it.3 h it.0.phase refl (linked ∙ ap (committed_on h (Some c)) phase))

    -- FILES: where no decided transaction has the path, the file is that of the stored part
    stored-file : ((u : ℕ) (m : Moved) → decided_in (core_of s) u ≡ Some m → has_path m p ≡ false) → (l : LinkRow) → on (links (tables_of s)) p ≡ Some l → is_some (maps.get s.files p) ≡ true
    stored-file off l linked = ap is_some (sym (settled-files (decided_in (core_of s)) (txs_of s.commits) (core_kept (core_of s)) p off)) ∙ sound.follows.joint.whole.files p l linked

    no-decided : (o : Option PathClaim) → IsOnly s p o → ((u : ℕ) (v : Txn) → maps.get s.txs u ≡ Some v → is_decided v.phase ≡ true → of_it u o ≡ None) → (u : ℕ) (m : Moved) → decided_in (core_of s) u ≡ Some m → has_path m p ≡ false
    no-decided o one others u m e =
        let v = decided-txn s u m e in
        ap (λ (x : Moved). has_path x p) (sym v.3) ∙ sym (ap (λ b. not b && has_path (moved_of v.0) p) (never-doomed s v.0 (decided-rests v.0 v.2)))
        ∙ lacking s p o one u v.0 v.1 (others u v.0 v.1 v.2)

    in-alone : (h : Option LinkRow) → on (links (tables_of s)) p ≡ h → (l : LinkRow) → In l (option_to_list h ++ []) → on (links (tables_of s)) p ≡ Some l
    in-alone None e l is = absurd is
    in-alone (Some x) e l is = ⊎_elim
        (λ (same : l ≡ x). e ∙ ap (λ (y : LinkRow). Some y) (sym same))
        (λ (none : In l []). absurd none) is

    module _ (theirs : HaveTheirs s) (l : LinkRow) where
      claimed-file : (c : PathClaim) → IsOnly s p (Some c) → (t : Txn) → maps.get s.txs c.tx ≡ Some t → has_path (moved_of t) p ≡ true
          → (h : Option LinkRow) (x : Phase) → t.phase ≡ x → on (links (tables_of s)) p ≡ committed_on h (Some c) (Some x) → In l (guards h (Some c) (Some x)) → is_some (maps.get s.files p) ≡ true
      claimed-file c one t at has h phases.Active is linked among = stored-file (no-decided (Some c) one others) l (in-alone h linked l among)
        where
          others : (u : ℕ) (v : Txn) → maps.get s.txs u ≡ Some v → is_decided v.phase ≡ true → of_it u (Some c) ≡ None
          others u v there decided = not-its s p c u (λ (e : c.tx ≡ u).
              let same : t ≡ v = some_same t v (sym at ∙ ap (maps.get s.txs) e ∙ there) in
              false_true (sym (decided-rests v decided) ∙ ap (λ (y : Txn). is_active y.phase) (sym same) ∙ ap is_active is))
      claimed-file c one t at has h phases.Prepared is linked among = theirs c.tx t at (ap is_active is) p has
      claimed-file c one t at has h phases.Decided is linked among = theirs c.tx t at (ap is_active is) p has
      claimed-file c one t at has h phases.Finished is linked among = theirs c.tx t at (ap is_active is) p has
      claimed-file c one t at has h phases.Dropped is linked among = theirs c.tx t at (ap is_active is) p has

      files-are : (h : Option LinkRow) (o : Option PathClaim) → IsOnly s p o → on (links (tables_of s)) p ≡ committed_on h o (phase_in s o) → In l (guards h o (phase_in s o)) → is_some (maps.get s.files p) ≡ true
      files-are h None one linked among = stored-file (no-decided None one (λ u v there decided. refl)) l (in-alone h linked l among)
      files-are h (Some c) one linked among =
          let it : Owner s p c = owner s p c one in
          let phase : phase_in s (Some c) ≡ Some it.0.phase = ap (option_map (λ (t : Txn). t.phase)) it.1 in
          let has : has_path (moved_of it.0) p ≡ true = (both (not (is_doomed s it.0)) (has_path (moved_of it.0) p) it.2).1 in
          claimed-file c one it.0 it.1 has h it.0.phase refl (linked ∙ ap (committed_on h (Some c)) phase) (subst (λ (x : Option Phase). In l (guards h (Some c) x)) phase among)

-- THE LAW
pub controlled : (first : ℕ) (f : Folds) (s : State) → AreSound first f s → HaveTheirs s → IsControlled s
controlled first f s sound theirs = record {
  paths = paths-differ first f s sound;
  guards = λ p. subst (AreGuards s p) (sym (forbids first f s sound p)) (guards-are first f s sound p (maps.get f.links.held p) (maps.get (made s (maps.entries s.txs)) p) (only first f s sound p) (committed first f s sound p));
  files = λ p l among. files-are first f s sound p theirs l (maps.get f.links.held p) (maps.get (made s (maps.entries s.txs)) p) (only first f s sound p) (committed first f s sound p)
      (subst (λ (ls : List LinkRow). In l ls) (forbids first f s sound p) among);
}
