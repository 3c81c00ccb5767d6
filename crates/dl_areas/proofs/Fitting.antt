-- Which of several records fit.
use Rattle.std.proofs.Common.{◌≡◌, List, [], ◌∷◌, ◌++◌, refl, ◌∙◌, ap, Option, Some, None}
use Rattle.std.specs.Option.{option_or}
use Rattle.dl_base.specs.declared.fault.Full.{Full}
use Rattle.dl_areas.specs.Lists.{Lists, Journals, Write, put, puts, grown_by, all_grown}
use Rattle.dl_areas.specs.Writing.{unless_full, refused, full_in, fitting}

pub puts-then : (ws vs : List Write) (lists : Lists) → puts (ws ++ vs) lists ≡ puts vs (puts ws lists)
puts-then [] vs lists = refl
puts-then (w ∷ ws) vs lists = puts-then ws vs (put w lists)

pub grown-then : (ws vs : List Write) (js : Journals) → all_grown (ws ++ vs) js ≡ all_grown vs (all_grown ws js)
grown-then [] vs js = refl
grown-then (w ∷ ws) vs js = grown-then ws vs (grown_by w js)

or-none : (a b : Option Full) → option_or a b ≡ None → (a ≡ None) × (b ≡ None)
or-none (Some f) b is = absurd cc
or-none None b is = (refl, is)

-- where the first all fit

pub full-then : (ws vs : List Write) (js : Journals) → full_in js ws ≡ None → full_in js (ws ++ vs) ≡ full_in (all_grown ws js) vs
unfolding full_in
full-then [] vs js fit = refl
full-then (w ∷ ws) vs js fit =
    let e = or-none (refused js w) (full_in (grown_by w js) ws) fit in
    ap (λ (o : Option Full). option_or o (full_in (grown_by w js) (ws ++ vs))) e.0 ∙ full-then ws vs (grown_by w js) e.1

pub fitting-then : (ws vs : List Write) (js : Journals) → full_in js ws ≡ None → fitting js (ws ++ vs) ≡ ws ++ fitting (all_grown ws js) vs
unfolding full_in fitting
fitting-then [] vs js fit = refl
fitting-then (w ∷ ws) vs js fit =
    let e = or-none (refused js w) (full_in (grown_by w js) ws) fit in
    ap (λ (o : Option Full). unless_full o (w ∷ fitting (grown_by w js) (ws ++ vs))) e.0 ∙ ap (λ (l : List Write). w ∷ l) (fitting-then ws vs (grown_by w js) e.1)

-- where one of the first doesn't fit

some-or : (a b c : Option Full) (f : Full) → option_or a b ≡ Some f → (b ≡ Some f → c ≡ Some f) → option_or a c ≡ Some f
some-or (Some g) b c f is later = is
some-or None b c f is later = later is

pub full-stop : (ws vs : List Write) (js : Journals) (f : Full) → full_in js ws ≡ Some f → full_in js (ws ++ vs) ≡ Some f
unfolding full_in
full-stop [] vs js f is = absurd cc
full-stop (w ∷ ws) vs js f is = some-or (refused js w) (full_in (grown_by w js) ws) (full_in (grown_by w js) (ws ++ vs)) f is (full-stop ws vs (grown_by w js) f)

stop-at : (a b : Option Full) (w : Write) (xs ys : List Write) (f : Full) → option_or a b ≡ Some f → (b ≡ Some f → xs ≡ ys) → unless_full a (w ∷ xs) ≡ unless_full a (w ∷ ys)
stop-at (Some g) b w xs ys f is same = refl
stop-at None b w xs ys f is same = ap (λ (l : List Write). w ∷ l) (same is)

pub fitting-stop : (ws vs : List Write) (js : Journals) (f : Full) → full_in js ws ≡ Some f → fitting js (ws ++ vs) ≡ fitting js ws
unfolding full_in fitting
fitting-stop [] vs js f is = absurd cc
fitting-stop (w ∷ ws) vs js f is = stop-at (refused js w) (full_in (grown_by w js) ws) w (fitting (grown_by w js) (ws ++ vs)) (fitting (grown_by w js) ws) f is (fitting-stop ws vs (grown_by w js) f)

-- all are there where all fit
pub fitting-all : (ws : List Write) (js : Journals) → full_in js ws ≡ None → fitting js ws ≡ ws
unfolding full_in fitting
fitting-all [] js fit = refl
fitting-all (w ∷ ws) js fit =
    let e = or-none (refused js w) (full_in (grown_by w js) ws) fit in
    ap (λ (o : Option Full). unless_full o (w ∷ fitting (grown_by w js) ws)) e.0 ∙ ap (λ (l : List Write). w ∷ l) (fitting-all ws (grown_by w js) e.1)

-- those that fit of some are a prefix of those that fit of more

more-at : (a : Option Full) (w : Write) (xs ys : List Write) → (rest : List Write) × (xs ++ rest ≡ ys) → (rest : List Write) × (unless_full a (w ∷ xs) ++ rest ≡ unless_full a (w ∷ ys))
more-at (Some g) w xs ys r = ([], refl)
more-at None w xs ys r = (r.0, ap (λ (l : List Write). w ∷ l) r.1)

pub fitting-front : (ws vs : List Write) (js : Journals) → (rest : List Write) × (fitting js ws ++ rest ≡ fitting js (ws ++ vs))
unfolding fitting
fitting-front [] vs js = (fitting js vs, refl)
fitting-front (w ∷ ws) vs js = more-at (refused js w) w (fitting (grown_by w js) ws) (fitting (grown_by w js) (ws ++ vs)) (fitting-front ws vs (grown_by w js))

-- those that fit are a prefix
pub fitting-rest : (ws : List Write) (js : Journals) → (rest : List Write) × (fitting js ws ++ rest ≡ ws)
unfolding fitting
fitting-rest [] js = ([], refl)
fitting-rest (w ∷ ws) js = at (refused js w) (fitting (grown_by w js) ws) (fitting-rest ws (grown_by w js))
  where
    at : (a : Option Full) (xs : List Write) → (rest : List Write) × (xs ++ rest ≡ ws) → (rest : List Write) × (unless_full a (w ∷ xs) ++ rest ≡ w ∷ ws)
    at (Some g) xs r = (w ∷ ws, refl)
    at None xs r = (r.0, ap (λ (l : List Write). w ∷ l) r.1)
