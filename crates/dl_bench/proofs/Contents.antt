-- What one area has goes on with the events.
use Rattle.std.proofs.Common.{◌≡◌, ◌≢◌, ⊎_elim, ℕ, ◌+◌, ◌<◌, List, [], ◌∷◌, ◌++◌, length, take, Bool, true, false, cond, nat_le, get_or, refl, sym, ◌∙◌, ap, subst}
use Rattle.std.proofs.lemmas.List.{take_more}
use Rattle.dl_base.specs.declared.area.Area.{Area}
use Rattle.dl_base.specs.Areas.{is_area}
use Rattle.dl_base.proofs.Areas.{same_area, is_area-here, is_area-other}
use Rattle.dl_bench.specs.declared.event.Event.{Event}
use Rattle.dl_bench.specs.declared.event.Event.TheVariants.{Put, Write, Sync, Say}
use Rattle.dl_bench.specs.Replay.{State, wrote, settled, step, start, state_after}
use Rattle.dl_bench.specs.Laws.{run-push}
use Rattle.dl_bench.specs.Contents.{Content, content_at, content_step, all_synced, rewritten}

cond-content : (v : Bool) (k k' l l' t t' : List ℕ) → (let c : Content = record { kept = cond v k k'; lost = cond v l l'; torn = cond v t t' } in c) ≡ cond v (record { kept = k; lost = l; torn = t }) (record { kept = k'; lost = l'; torn = t' })
cond-content true k k' l l' t t' = refl
cond-content false k k' l l' t t' = refl

cond-state : (v : Bool) (a : Area) (s s' : State) → content_at (cond v s s') a ≡ cond v (content_at s a) (content_at s' a)
cond-state true a s s' = refl
cond-state false a s s' = refl

cond-same : (v : Bool) (c : Content) → cond v c c ≡ c
cond-same true c = refl
cond-same false c = refl

settled-here : (a b : Area) (s : State) → content_at (settled b (s.kept b) s) a ≡ cond (is_area b a) (all_synced (s.kept b)) (content_at s a)
settled-here a b s = cond-content (is_area b a) (s.kept b) (s.kept a) (s.kept b) (s.lost a) (s.kept b) (s.torn a)

step-sync : (a b : Area) (s : State) → content_at (step (Sync b) s) a ≡ content_step a (Sync b) (content_at s a)
step-sync a b s = settled-here a b s ∙ ⊎_elim
    (λ (is : b ≡ a). ap (λ (x : Area). cond (is_area b a) (all_synced (s.kept x)) (content_at s a)) is)
    (λ (other : b ≢ a). rw (is_area-other b a (λ is. other (sym is))) refl)
    (same_area b a)

write-here : (a : Area) (at : ℕ) (bytes : List ℕ) (s : State) → content_at (step (Write a at bytes) s) a ≡ content_step a (Write a at bytes) (content_at s a)
write-here a at bytes s =
    let v : Bool = nat_le at (length (s.kept a)) in
    let c : Content = content_at s a in
    let new : content_at (wrote a at bytes s) a ≡ rewritten at bytes c = cond-content (is_area a a) _ _ _ _ _ _ ∙ ap (λ (w : Bool). cond w (rewritten at bytes c) c) (is_area-here a) in
    cond-state v a (wrote a at bytes s) s
    ∙ ap (λ (x : Content). cond v x c) new
    ∙ sym (ap (λ (w : Bool). cond w (cond v (rewritten at bytes c) c) c) (is_area-here a))

write-other : (a b : Area) (at : ℕ) (bytes : List ℕ) (s : State) → b ≢ a → content_at (step (Write b at bytes) s) a ≡ content_step a (Write b at bytes) (content_at s a)
write-other a b at bytes s other =
    let v : Bool = nat_le at (length (s.kept b)) in
    let c : Content = content_at s a in
    let no : is_area b a ≡ false = is_area-other b a (λ is. other (sym is)) in
    let new : content_at (wrote b at bytes s) a ≡ c = cond-content (is_area b a) _ _ _ _ _ _ ∙ ap (λ (w : Bool). cond w (rewritten at bytes (content_at s b)) c) no in
    cond-state v a (wrote b at bytes s) s
    ∙ ap (λ (x : Content). cond v x c) new
    ∙ cond-same v c
    ∙ sym (ap (λ (w : Bool). cond w (cond (nat_le at (length (s.kept a))) (rewritten at bytes c) c) c) no)

pub content-step : (a : Area) (e : Event) (s : State) → content_at (step e s) a ≡ content_step a e (content_at s a)
content-step a (Put b bytes) s = cond-content (is_area b a) bytes (s.kept a) bytes (s.lost a) bytes (s.torn a)
content-step a (Sync b) s = step-sync a b s
content-step a (Say bytes) s = refl
content-step a (Write b at bytes) s = ⊎_elim
    (λ (is : b ≡ a). subst (λ (x : Area). content_at (step (Write x at bytes) s) a ≡ content_step a (Write x at bytes) (content_at s a)) (sym is) (write-here a at bytes s))
    (λ (other : b ≢ a). write-other a b at bytes s other)
    (same_area b a)

-- at the next event of a list
pub content_more : (a : Area) (es : List Event) (i : ℕ) (e : Event) → i < length es → e ≡ get_or es i e
    → content_at (state_after (take (i + 1) es)) a ≡ content_step a e (content_at (state_after (take i es)) a)
content_more a es i e lt is =
    let more : take (i + 1) es ≡ take i es ++ e ∷ [] = take_more es i e lt ∙ ap (λ (x : Event). take i es ++ x ∷ []) (sym is) in
    ap (λ (l : List Event). content_at (state_after l) a) more
    ∙ ap (λ (s : State). content_at s a) (run-push start (take i es) e)
    ∙ content-step a e (state_after (take i es))
