-- Held links when a branch is done.
use Rattle.std.proofs.Common.{◌≡◌, ℕ, Bool, true, false, cond, List, [], ◌∷◌, Option, Some, None, refl, sym, ap, ◌∙◌}
use Rattle.std.specs.Cmp.Lexicographic.{nat_list_cmp_total}
use Rattle.std.specs.FinMap as maps
use Rattle.dl_base.specs.declared.value.LinkRow.{LinkRow}
use Rattle.meaning_settling.proofs.KeyedLaws.{get-over, same_keyed}
use Rattle.meaning_settling.proofs.SettlingLaws.{held-again, held-off}
use Rattle.meaning_settling.specs.Keyed.{Keyed, is_at, over}
use Rattle.meaning_settling.specs.Settling.{Moved, held_after, held_by, on, paths_of}
use Rattle.fm_branch.specs.Held.{with_links, without_links}

abbrev less_given : Option LinkRow → Option LinkRow → Option LinkRow
less_given None o = o
less_given (Some g) o = None

abbrev or_taken : Option LinkRow → Option LinkRow → Option LinkRow
or_taken None o = o
or_taken (Some t) o = Some t

get-without : (gs : List LinkRow) (held : Keyed LinkRow) (q : List ℕ) → maps.get (without_links gs held) q ≡ less_given (on gs q) (maps.get held q)
get-without [] held q = refl
get-without (g ∷ gs) held q =
    get-without gs (maps.remove held g.path) q
    ∙ ap (λ (o : Option LinkRow). less_given (on gs q) o) (maps.get-remove nat_list_cmp_total held g.path q)
    ∙ by (is_at q g.path) (on gs q)
  where
    by : (b : Bool) (o : Option LinkRow) → less_given o (cond b None (maps.get held q)) ≡ less_given (cond b (Some g) o) (maps.get held q)
    by true None = refl
    by true (Some l) = refl
    by false o = refl

get-with : (ts : List LinkRow) (held : Keyed LinkRow) (q : List ℕ) → maps.get (with_links ts held) q ≡ or_taken (on ts q) (maps.get held q)
get-with [] held q = refl
get-with (t ∷ ts) held q =
    maps.get-insert nat_list_cmp_total (with_links ts held) t.path t q
    ∙ ap (λ (o : Option LinkRow). cond (is_at q t.path) (Some t) o) (get-with ts held q)
    ∙ by (is_at q t.path)
  where
    by : (b : Bool) → cond b (Some t) (or_taken (on ts q) (maps.get held q)) ≡ or_taken (cond b (Some t) (on ts q)) (maps.get held q)
    by true = refl
    by false = refl

pub moved-held : (m : Moved) (held : Keyed LinkRow) → with_links m.takes (without_links m.gives held) ≡ over (paths_of m) (held_after m) held
moved-held m held = same_keyed _ _ (λ q.
    get-with m.takes (without_links m.gives held) q
    ∙ ap (λ (o : Option LinkRow). or_taken (on m.takes q) o) (get-without m.gives held q)
    ∙ by (on m.gives q) (on m.takes q) (maps.get held q)
    ∙ sym (get-over (held_after m) (held-again m) (paths_of m) held q (λ e o. held-off m q o e)))
  where
    by : (g t o : Option LinkRow) → or_taken t (less_given g o) ≡ held_by g t o
    by None None o = refl
    by None (Some t) o = refl
    by (Some g) None o = refl
    by (Some g) (Some t) o = refl
