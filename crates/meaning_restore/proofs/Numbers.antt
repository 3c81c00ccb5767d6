-- What a restore gives has different numbers.
use Rattle.std.proofs.Common.{◌≡◌, ℕ, List, [], ◌∷◌, ◌||◌, Bool, true, false, refl, sym, ◌∙◌, ap}
use Rattle.std.specs.List.{list_any}
use Rattle.dl_base.specs.declared.value.LinkNo.{LinkNo}
use Rattle.dl_base.specs.declared.value.LinkRow.{LinkRow}
use Rattle.meaning_areas.specs.Finishing.{AreNumbered}
use Rattle.meaning_merge.specs.Touching.{is_in}
use Rattle.meaning_merge.proofs.MovedLaws.{number-self}
use Rattle.meaning_merge.proofs.Numbers.{Distinct, never}
use Rattle.meaning_merge.proofs.Paths.{key-same}
use Rattle.meaning_settling.specs.Keyed.{is_at}
use Rattle.meaning_settling.specs.Settling.{link_key}
use Rattle.meaning_settling.proofs.KeyedLaws.{false_true, is_at-same, or-left, or-right}
use Rattle.meaning_tables.specs.Links.{same_number}
use Rattle.meaning_tables.specs.Tables.{Tables}
use Rattle.meaning_system.specs.Machine.{restore_moved, restore_to}
use Rattle.meaning_system.specs.State.{State}
use Rattle.meaning_restore.proofs.Let.{IsLet, given, given-distinct}

any-number : (x : LinkRow) (gs : List LinkRow) → list_any (λ y. is_at (link_key x.link) (link_key y.link)) gs ≡ true → is_in gs x ≡ true
any-number x [] e = absurd (false_true e)
any-number x (g ∷ gs) e = by (is_at (link_key x.link) (link_key g.link)) refl e (λ h. any-number x gs h)
  where
    here : is_at (link_key x.link) (link_key g.link) ≡ true → same_number x.link g.link ≡ true
    here at = ap (λ (n : LinkNo). same_number x.link n) (sym (key-same x.link g.link (is_at-same (link_key x.link) (link_key g.link) at))) ∙ number-self x

    by : (b : Bool) → is_at (link_key x.link) (link_key g.link) ≡ b → (b || list_any (λ y. is_at (link_key x.link) (link_key y.link)) gs) ≡ true
        → (list_any (λ y. is_at (link_key x.link) (link_key y.link)) gs ≡ true → is_in gs x ≡ true) → is_in (g ∷ gs) x ≡ true
    by true at h rest = or-left (same_number x.link g.link) (is_in gs x) (here at)
    by false at h rest = or-right (same_number x.link g.link) (is_in gs x) (rest h)

numbered : (ls : List LinkRow) → Distinct ls → AreNumbered ls
numbered [] each = tt
numbered (g ∷ gs) each = (
  (λ x more. never (is_at (link_key x.link) (link_key g.link)) (λ at.
      false_true (sym each.0 ∙ ap (λ (n : LinkNo). list_any (λ (y : LinkRow). same_number n y.link) gs) (sym (key-same x.link g.link (is_at-same (link_key x.link) (link_key g.link) at))) ∙ any-number x gs more))),
  numbered gs each.1,
)

pub given-numbered : (first : ℕ) (s : State) (target : Tables) → IsLet first s target → AreNumbered (restore_moved s (restore_to s target)).gives
given-numbered first s target has = numbered (given first s target has) (given-distinct first s target has)
