-- Before the first step committed links alone forbid commands, and each has its file.
use Rattle.std.proofs.Common.{◌≡◌, ⊎_elim, ℕ, List, [], ◌∷◌, ◌++◌, filter, length, Option, Some, None, refl, sym, ◌∙◌, ap, subst}
use Rattle.std.proofs.lemmas.List.{append-nil}
use Rattle.std.specs.FinMap as maps
use Rattle.std.specs.List.{flat_map}
use Rattle.std.specs.Option.{option_to_list}
use Rattle.std.specs.Ordering.{nat_cmp}
use Rattle.dl_base.specs.declared.step.Settings.{Settings}
use Rattle.dl_base.specs.declared.value.LinkRow.{LinkRow}
use Rattle.fm_control.specs.Control.{AreGuards, IsControlled, committed_at}
use Rattle.fm_links.proofs.Guarding.{filter-on}
use Rattle.meaning_areas.proofs.OnPaths.{last-differs}
use Rattle.meaning_areas.specs.Commits.{tables_after}
use Rattle.meaning_areas.specs.Stands.{HaveFiles, HavePaths, Stored}
use Rattle.meaning_merge.proofs.Paths.{differ-one}
use Rattle.meaning_merge.specs.Touching.{In, OnePath}
use Rattle.meaning_settling.specs.Keyed.{is_at}
use Rattle.meaning_settling.specs.Settling.{on}
use Rattle.meaning_tables.specs.Links.{links}
use Rattle.meaning_system.specs.Commands.{decided_gives, forbidding, prepared_takes}
use Rattle.meaning_system.specs.Machine.{start}
use Rattle.meaning_system.specs.State.{Txn}

-- A RUN BEGINS WITH NO TRANSACTION, so that none forbids a command

no_items : {A : Type 0} (xs : List A) → length xs ≡ 0 → xs ≡ []
no_items [] e = refl
no_items (x ∷ xs) e = absurd cc

none-there : maps.entries (maps.empty {X = Txn} {R = nat_cmp}) ≡ []
none-there = no_items (maps.entries (maps.empty {X = Txn} {R = nat_cmp})) (sym (maps.len-entries (maps.empty {X = Txn} {R = nat_cmp})) ∙ maps.len-empty nat_cmp Txn)

pub committed-alone : (given : Settings) (x : Stored) (path : List ℕ) → forbidding (start given x) path ≡ committed_at x path
committed-alone given x path =
    let linked : List LinkRow = links (tables_after [] x.commits) in
    ap (λ (es : List (ℕ × Txn)). filter (λ l. is_at path l.path) (linked ++ flat_map prepared_takes es ++ flat_map decided_gives es)) none-there
    ∙ ap (λ (ls : List LinkRow). filter (λ l. is_at path l.path) ls) (append-nil (linked ++ []) ∙ append-nil linked)

-- COMMITTED LINKS on paths of their own: one at most forbids commands on a path

the-one : (o : Option LinkRow) (l : LinkRow) → In l (option_to_list o) → o ≡ Some l
the-one None l is = absurd is
the-one (Some x) l is = ⊎_elim
    (λ (same : l ≡ x). ap (λ (y : LinkRow). Some y) (sym same))
    (λ (none : In l []). absurd none) is

module _ (given : Settings) (x : Stored) (paths : HavePaths x) where
  one-path : OnePath (links (tables_after [] x.commits))
  one-path = differ-one (links (tables_after [] x.commits)) (last-differs [] x.commits refl paths)

  one-forbids : (path : List ℕ) → forbidding (start given x) path ≡ option_to_list (on (links (tables_after [] x.commits)) path)
  one-forbids path = committed-alone given x path ∙ filter-on path (links (tables_after [] x.commits)) one-path

  one-guards : (path : List ℕ) (o : Option LinkRow) → AreGuards (start given x) path (option_to_list o)
  one-guards path None = tt
  one-guards path (Some l) = tt

  pub begins-controlled : HaveFiles x → IsControlled (start given x)
  begins-controlled files = record {
    paths = one-path;
    guards = λ path. subst (AreGuards (start given x) path) (sym (one-forbids path)) (one-guards path (on (links (tables_after [] x.commits)) path));
    files = λ path l among. files path l (the-one (on (links (tables_after [] x.commits)) path) l (subst (λ (ls : List LinkRow). In l ls) (one-forbids path) among));
  }
