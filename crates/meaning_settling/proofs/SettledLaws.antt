-- Laws of settling all.
use Rattle.std.proofs.Common.{◌≡◌, ◌≢◌, inl, inr, ⊎_elim, ℕ, List, [], ◌∷◌, ◌++◌, Bool, true, false, Option, Some, None, is_some, refl, sym, ◌∙◌, ap, subst}
use Rattle.std.proofs.lemmas.Bool.{cases_eq}
use Rattle.std.specs.FinMap as maps
use Rattle.dl_base.specs.declared.value.LinkRow.{LinkRow}
use Rattle.meaning_settling.specs.Settling.{Moved, Kept, numbered, copies_after, settle_one}
use Rattle.meaning_settling.specs.Apart.{has_path, has_key, Apart, IsReady, IsPart}
use Rattle.meaning_settling.specs.Settled.{settle_open, settled, IsIn, IsNot, AreDistinct, AreApart}
use Rattle.meaning_settling.proofs.KeyedLaws.{false_true}
use Rattle.meaning_settling.proofs.SettlingLaws.{file-off, copy-off, held-off}
use Rattle.meaning_settling.proofs.PartLaws.{get-copies, get-files, get-held, part-settled, part-passes, settled-swap, ready-passes, ready-of-copies, gives-has}

pub settled-tests : (f g : ℕ → Option Moved) (ts : List ℕ) (k : Kept) → ((t : ℕ) → IsIn t ts → f t ≡ g t) → settled f ts k ≡ settled g ts k
settled-tests f g [] k same = refl
settled-tests f g (t ∷ ts) k same = ap (λ (o : Option Moved). settled f ts (settle_open o k)) (same t (inl refl)) ∙ settled-tests f g ts (settle_open (g t) k) (λ u is. same u (inr is))

pub settled-push : (f : ℕ → Option Moved) (ts : List ℕ) (t : ℕ) (k : Kept) → settled f (ts ++ t ∷ []) k ≡ settle_open (f t) (settled f ts k)
settled-push f [] t k = refl
settled-push f (u ∷ us) t k = settled-push f us t (settle_open (f u) k)

pub in-not : (t : ℕ) (ts : List ℕ) → IsIn t ts → IsNot t ts → ⊥
in-not t [] is never = absurd is
in-not t (u ∷ us) is never = ⊎_elim (λ (e : t ≡ u). never.0 (sym e)) (λ (later : IsIn t us). in-not t us later never.1) is

apart-rest : (f : ℕ → Option Moved) (t : ℕ) (ts : List ℕ) → AreApart f (t ∷ ts) → AreApart f ts
apart-rest f t ts apart x y in_x in_y = apart x y (inr in_x) (inr in_y)

-- one that is settled in part
pub settled-part : (f : ℕ → Option Moved) (ts : List ℕ) (copies : List ℕ → Bool) (files held : Bool) (tx : ℕ) (m : Moved) (k later : Kept)
    → AreApart f ts → f tx ≡ Some m → IsIn tx ts → IsReady m k → IsPart copies files held m k later → settled f ts later ≡ settled f ts k
settled-part f [] copies files held tx m k later apart at is ready part = absurd is
settled-part f (t ∷ ts) copies files held tx m k later apart at is ready part = ⊎_elim
    (λ (e : t ≡ tx). ap (settled f ts) (here (f t) (ap f e ∙ at)))
    (λ (other : t ≢ tx). ⊎_elim (λ (e : tx ≡ t). absurd (other (sym e)))
    (λ (rest : IsIn tx ts). there (λ a e. apart t tx (inl refl) (inr rest) other a m e at) (λ x y r p. settled-part f ts copies files held tx m x y (apart-rest f t ts apart) at rest r p) (f t) refl) is)
    (cases_eq t tx)
  where
    here : (o : Option Moved) → o ≡ Some m → settle_open o later ≡ settle_open o k
    here o e = ap (λ (x : Option Moved). settle_open x later) e ∙ part-settled m copies files held k later ready part ∙ sym (ap (λ (x : Option Moved). settle_open x k) e)

    there : ((a : Moved) → f t ≡ Some a → Apart a m) → ((x y : Kept) → IsReady m x → IsPart copies files held m x y → settled f ts y ≡ settled f ts x) → (o : Option Moved) → f t ≡ o → settled f ts (settle_open o later) ≡ settled f ts (settle_open o k)
    there two go None e = go k later ready part
    there two go (Some a) e = go (settle_one a k) (settle_one a later) (ready-passes a m k (two a e) ready) (part-passes a m (two a e) k copies files held later part)

-- one that is settled whole need not be open
pub settled-less : (f g : ℕ → Option Moved) (ts : List ℕ) (tx : ℕ) (m : Moved) (k : Kept)
    → ((t : ℕ) (a : Moved) → IsIn t ts → t ≢ tx → f t ≡ Some a → Apart a m) → f tx ≡ Some m → ((t : ℕ) → t ≢ tx → f t ≡ g t) → g tx ≡ None → settle_one m k ≡ k → settled f ts k ≡ settled g ts k
settled-less f g [] tx m k apart at same none done = refl
settled-less f g (t ∷ ts) tx m k apart at same none done = ⊎_elim
    (λ (e : t ≡ tx).
    ap (λ (o : Option Moved). settled f ts (settle_open o k)) (ap f e ∙ at) ∙ ap (settled f ts) done ∙ settled-less f g ts tx m k (λ u a is. apart u a (inr is)) at same none done
    ∙ sym (ap (λ (o : Option Moved). settled g ts (settle_open o k)) (ap g e ∙ none)))
    (λ (other : t ≢ tx). there (λ a e. apart t a (inl refl) other e) (λ x d. settled-less f g ts tx m x (λ u a is. apart u a (inr is)) at same none d) (f t) refl ∙ ap (λ (o : Option Moved). settled g ts (settle_open o k)) (same t other))
    (cases_eq t tx)
  where
    there : ((a : Moved) → f t ≡ Some a → Apart a m) → ((x : Kept) → settle_one m x ≡ x → settled f ts x ≡ settled g ts x) → (o : Option Moved) → f t ≡ o → settled f ts (settle_open o k) ≡ settled g ts (settle_open o k)
    there two go None e = go k done
    there two go (Some a) e = go (settle_one a k) (sym (settled-swap a m k (two a e)) ∙ ap (settle_one a) done)

-- one may be settled first
pub settled-front : (f g : ℕ → Option Moved) (ts : List ℕ) (tx : ℕ) (m : Moved) (k : Kept)
    → AreApart f ts → f tx ≡ Some m → ((t : ℕ) → t ≢ tx → f t ≡ g t) → g tx ≡ None → IsIn tx ts → AreDistinct ts → settled f ts k ≡ settled g ts (settle_one m k)
settled-front f g [] tx m k apart at same none is once = absurd is
settled-front f g (t ∷ ts) tx m k apart at same none is once = ⊎_elim
    (λ (e : t ≡ tx).
    ap (λ (o : Option Moved). settled f ts (settle_open o k)) (ap f e ∙ at)
    ∙ settled-tests f g ts (settle_one m k) (λ u in_rest. same u (λ (is_tx : u ≡ tx). in-not u ts in_rest (let P : ℕ → Type 0 = λ x. IsNot x ts in subst P (e ∙ sym is_tx) once.0)))
    ∙ sym (ap (λ (o : Option Moved). settled g ts (settle_open o (settle_one m k))) (ap g e ∙ none)))
    (λ (other : t ≢ tx). ⊎_elim (λ (e : tx ≡ t). absurd (other (sym e)))
    (λ (rest : IsIn tx ts). there (λ a e. apart t tx (inl refl) (inr rest) other a m e at) (λ x. settled-front f g ts tx m x (apart-rest f t ts apart) at same none rest once.1) (f t) refl ∙ ap (λ (o : Option Moved). settled g ts (settle_open o (settle_one m k))) (same t other)) is)
    (cases_eq t tx)
  where
    there : ((a : Moved) → f t ≡ Some a → Apart a m) → ((x : Kept) → settled f ts x ≡ settled g ts (settle_one m x)) → (o : Option Moved) → f t ≡ o → settled f ts (settle_open o k) ≡ settled g ts (settle_open o (settle_one m k))
    there two go None e = go k
    there two go (Some a) e = go (settle_one a k) ∙ ap (settled g ts) (sym (settled-swap a m k (two a e)))

-- what no open one has to do with stays

pub settled-files : (f : ℕ → Option Moved) (ts : List ℕ) (k : Kept) (p : List ℕ) → ((t : ℕ) (a : Moved) → f t ≡ Some a → has_path a p ≡ false) → maps.get (settled f ts k).files p ≡ maps.get k.files p
settled-files f [] k p off = refl
settled-files f (t ∷ ts) k p off = settled-files f ts (settle_open (f t) k) p off ∙ by (f t) refl
  where
    by : (o : Option Moved) → f t ≡ o → maps.get (settle_open o k).files p ≡ maps.get k.files p
    by None e = refl
    by (Some a) e = get-files a k p ∙ file-off a (copies_after a k) p (maps.get k.files p) (off t a e)

pub settled-copies : (f : ℕ → Option Moved) (ts : List ℕ) (k : Kept) (n : List ℕ) → ((t : ℕ) (a : Moved) → IsIn t ts → f t ≡ Some a → has_key a n ≡ false) → maps.get (settled f ts k).copies n ≡ maps.get k.copies n
settled-copies f [] k n off = refl
settled-copies f (t ∷ ts) k n off = settled-copies f ts (settle_open (f t) k) n (λ u a among. off u a (inr among)) ∙ by (f t) refl
  where
    by : (o : Option Moved) → f t ≡ o → maps.get (settle_open o k).copies n ≡ maps.get k.copies n
    by None e = refl
    by (Some a) e = get-copies a k n ∙ copy-off a k.files n (maps.get k.copies n) (off t a (inl refl) e)

pub settled-held : (f : ℕ → Option Moved) (ts : List ℕ) (k : Kept) (n : List ℕ) → ((t : ℕ) (a : Moved) → f t ≡ Some a → has_path a n ≡ false) → maps.get (settled f ts k).held n ≡ maps.get k.held n
settled-held f [] k n off = refl
settled-held f (t ∷ ts) k n off = settled-held f ts (settle_open (f t) k) n off ∙ by (f t) refl
  where
    by : (o : Option Moved) → f t ≡ o → maps.get (settle_open o k).held n ≡ maps.get k.held n
    by None e = refl
    by (Some a) e = get-held a k n ∙ held-off a n (maps.get k.held n) (off t a e)

-- where copies of what an open one gives are there in the end, it is ready
pub settled-ready : (f g : ℕ → Option Moved) (ts : List ℕ) (tx : ℕ) (m : Moved) (k : Kept)
    → AreApart f ts → f tx ≡ Some m → ((t : ℕ) → t ≢ tx → f t ≡ g t) → g tx ≡ None → IsIn tx ts → AreDistinct ts
    → ((n : List ℕ) (g : LinkRow) → numbered m.gives n ≡ Some g → g.options.recovery ≡ true → is_some (maps.get (settled f ts k).copies n) ≡ true) → IsReady m k
settled-ready f g ts tx m k apart at same none is once there = ready-of-copies m k (λ n x e r.
    sym (ap is_some (ap (λ (y : Kept). maps.get y.copies n) (settled-front f g ts tx m k apart at same none is once)
    ∙ settled-copies g ts (settle_one m k) n (λ t a among e2. ⊎_elim
    (λ (is_tx : t ≡ tx). absurd (not_some a (sym e2 ∙ ap g is_tx ∙ none)))
    (λ (other : t ≢ tx). ⊎_elim (λ off. off) (λ (off : has_key m n ≡ false). absurd (false_true (sym off ∙ (gives-has m n x e).0))) ((apart t tx among is other a m (same t other ∙ e2) at).keys n))
    (cases_eq t tx))))
    ∙ there n x e r)
  where
    not_some : (a : Moved) → Some a ≡ None → ⊥
    not_some a e = cc
