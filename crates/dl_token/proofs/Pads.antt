-- The loop that pads a key.
use Rattle.std.proofs.Common.{◌≡◌, ℕ, zero, suc, ◌+◌, ◌-◌, ◌<◌, ◌≤◌, List, [], ◌∷◌, ◌++◌, length, take, map, replicate, set, get_or, refl, sym, ap, ◌∙◌, arith, length-take}
use Rattle.std.proofs.lemmas.List.{map_more, map-append, length-map, append_assoc}
use Rattle.std.proofs.Math.Seq.{set-append_seam, take-length}

pub map-replicate : (f : ℕ → ℕ) (n x : ℕ) → map f (replicate n x) ≡ replicate n (f x)
map-replicate f zero x = refl
map-replicate f (suc n) x = ap (λ (r : List ℕ). f x ∷ r) (map-replicate f n x)

pub pad_step : (f : ℕ → ℕ) (key : List ℕ) (i b : ℕ) → i < length key → length key ≤ 64
    → set (map f (take i key) ++ replicate (64 - i) b) i (f (get_or key i 0)) ≡ map f (take (i + 1) key) ++ replicate (64 - (i + 1)) b
pad_step f key i b lt le =
    let e : 64 - i ≡ suc (64 - (i + 1)) = omega arith in
    let len : length (map f (take i key)) ≡ i = omega (arith, length-map (take i key) f, length-take i key) in
    let seam = set-append_seam (map f (take i key)) b (replicate (64 - (i + 1)) b) (f (get_or key i 0)) in
    ap (λ (n : ℕ). set (map f (take i key) ++ replicate n b) i (f (get_or key i 0))) e
    ∙ ap (λ (n : ℕ). set (map f (take i key) ++ b ∷ replicate (64 - (i + 1)) b) n (f (get_or key i 0))) (sym len)
    ∙ seam
    ∙ sym (append_assoc (map f (take i key)) (f (get_or key i 0) ∷ []) (replicate (64 - (i + 1)) b))
    ∙ ap (λ (l : List ℕ). l ++ replicate (64 - (i + 1)) b) (sym (map_more f key i 0 lt))

pub pad_done : (f : ℕ → ℕ) (key : List ℕ) (n b : ℕ) → n ≡ length key → f 0 ≡ b
    → map f (take n key) ++ replicate (64 - n) b ≡ map f (key ++ replicate (64 - length key) 0)
pad_done f key n b e z =
    ap (λ (k : ℕ). map f (take k key) ++ replicate (64 - k) b) e
    ∙ ap (λ (l : List ℕ). map f l ++ replicate (64 - length key) b) (take-length key)
    ∙ ap (λ (y : ℕ). map f key ++ replicate (64 - length key) y) (sym z)
    ∙ ap (λ (l : List ℕ). map f key ++ l) (sym (map-replicate f (64 - length key) 0))
    ∙ sym (map-append f key (replicate (64 - length key) 0))
