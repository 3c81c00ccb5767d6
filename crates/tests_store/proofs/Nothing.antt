-- A commit of nothing, behind no commits, and the end of its branch.
use Rattle.std.proofs.Common.{◌≡◌, ℕ, ◌+◌, ◌*◌, ◌/◌, ◌^◌, true, false, not, cond, List, [], Some, None, refl, sym, ap, subst, ◌∙◌, arith}
use Rattle.std.proofs.lemmas.Bool.{eq-eqb}
use Rattle.meaning_areas.specs.Commits.{Commit, Commits, commit_to, ends_on, has_number, with_commit, with_ended}
use Rattle.db_changes.specs.Made.{Making}
use Rattle.db_store.specs.Store.{CanEnd, IsTaken, committed_with}

abbrev nothing : ℕ → Making
nothing tx = record { tx = tx; branch = true; changes = []; handles = []; rooms = 1 }

abbrev none_yet : ℕ → List ℕ → Commits
none_yet opening ended = record { opening = opening; commits = []; ended = ended }

abbrev one_now : ℕ → List ℕ → ℕ → Commits
one_now opening ended tx = with_commit (none_yet opening ended) (commit_to [] tx true [])

pub first_number : (tx opening drawn : ℕ) → tx ≡ opening * 2 ^ 32 + drawn + 1 → drawn ≡ 0 → tx / 2 ^ 32 ≡ opening
first_number tx opening drawn is none = omega (arith, is, none)

taken : (opening : ℕ) (ended : List ℕ) (tx : ℕ) → tx / 2 ^ 32 ≡ opening → IsTaken (none_yet opening ended) (nothing tx)
taken opening ended tx same = ap (λ b. cond b (Some (one_now opening ended tx)) None) (eq-eqb (tx / 2 ^ 32) opening same)

ends : (opening : ℕ) (ended : List ℕ) (tx : ℕ) → has_number tx ended ≡ false → CanEnd (one_now opening ended tx) tx
ends opening ended tx none =
    ap (λ b. ends_on (one_now opening ended tx) tx (cond b (Some (commit_to [] tx true [])) None)) (eq-eqb tx tx refl)
    ∙ ap (λ b. cond (not b) (Some (with_ended (one_now opening ended tx) tx)) None) none

pub nothing_taken : (r : Commits) (m : Making) (tx : ℕ) → r.commits ≡ [] → m ≡ nothing tx → tx / 2 ^ 32 ≡ r.opening → IsTaken r m
nothing_taken r m tx none is same =
    subst (λ (x : Making). IsTaken r x) (sym is)
    (subst (λ (cs : List Commit). IsTaken (record { opening = r.opening; commits = cs; ended = r.ended }) (nothing tx)) (sym none) (taken r.opening r.ended tx same))

pub nothing_ends : (r later : Commits) (m : Making) (tx : ℕ) → r.commits ≡ [] → m ≡ nothing tx → has_number tx r.ended ≡ false → later ≡ committed_with r m → CanEnd later tx
nothing_ends r later m tx none is lacks after =
    subst (λ (x : Commits). CanEnd x tx) (sym after)
    (subst (λ (x : Making). CanEnd (committed_with r x) tx) (sym is)
    (subst (λ (cs : List Commit). CanEnd (committed_with (record { opening = r.opening; commits = cs; ended = r.ended }) (nothing tx)) tx) (sym none) (ends r.opening r.ended tx lacks)))
