-- What writes leave of an area, as laws on lists of bytes.
use Rattle.std.proofs.Common.{◌≡◌, inl, inr, ℕ, ◌+◌, ◌≤◌, ◌<◌, ◌^◌, List, [], ◌∷◌, ◌++◌, length, get_or, take, drop, refl, sym, ◌∙◌, ap, subst, arith, append_assoc, length-append, take-append-drop, Option, Some, None, length-drop, Result, Ok, Err, OnOk}
use Rattle.std.proofs.lemmas.List.{take_at, drop_at, drop_all, drop_more, take-take, drop-drop, length-take-le}
use Rattle.std.proofs.lemmas.Bool.{cases_eq}
use Rattle.dl_base.specs.Outside.{TornFrom, replaced, overwritten}
use Rattle.dl_journal.specs.Records.{blocks, size, IsAtRest, AllAtRest, HasOldOrNew}
use Rattle.dl_journal.specs.Open.{Reaches}
use Rattle.dl_journal.specs.Steps.{IsStaged, AllStaged}
use Rattle.dl_journal.proofs.Records.{header, length-header, length-blocks, size-push, blocks-push, split, joined}

-- bytes in the place of others, right behind a front
pub replaced_behind : (front rest bytes : List ℕ) (at : ℕ) → length front ≡ at → replaced at bytes (front ++ rest) ≡ (front ++ bytes) ++ drop (length bytes) rest
replaced_behind front rest bytes at is =
    let head : take at (front ++ rest) ≡ front = take_at front rest at is in
    let tail : drop (at + length bytes) (front ++ rest) ≡ drop (length bytes) rest =
    sym (drop-drop (length bytes) at (front ++ rest)) ∙ ap (λ (l : List ℕ). drop (length bytes) l) (drop_at front rest at is) in
    ap (λ (l : List ℕ). l ++ (bytes ++ drop (at + length bytes) (front ++ rest))) head
    ∙ ap (λ (l : List ℕ). front ++ (bytes ++ l)) tail
    ∙ sym (append_assoc front bytes (drop (length bytes) rest))

length-replaced : (at : ℕ) (bytes old : List ℕ) → at ≤ length old → length (replaced at bytes old) ≡ at + length bytes + length (drop (at + length bytes) old)
length-replaced at bytes old le = omega (arith, length-append (take at old) (bytes ++ drop (at + length bytes) old), length-append bytes (drop (at + length bytes) old), length-take-le at old le)

-- a write at a place within the area ends within it
pub long_after : (at : ℕ) (bytes s t : List ℕ) → at ≤ length s → replaced at bytes s ≡ t → at + length bytes ≤ length t
long_after at bytes s t le is = omega (arith, ap length is, length-replaced at bytes s le)

pub no_shorter : (at : ℕ) (bytes s t : List ℕ) → at ≤ length s → replaced at bytes s ≡ t → length s ≤ length t
no_shorter at bytes s t le is = omega (arith, ap length is, length-replaced at bytes s le, length-drop (at + length bytes) s)

-- what was there before a write that is there after it
pub was_there : (at : ℕ) (bytes : List ℕ) (o : Option (List ℕ)) (c : List ℕ) → overwritten at bytes o ≡ Some c → (s : List ℕ) × (o ≡ Some s) × (replaced at bytes s ≡ c)
was_there at bytes None c is = absurd (cc is)
was_there at bytes (Some s) c is = (s, refl, cc is)

-- what a write leaves reaches the write's end
pub reaches_written : (at : ℕ) (bytes : List ℕ) (before after : Option (List ℕ)) → Reaches at before → after ≡ overwritten at bytes before → Reaches (at + length bytes) after
reaches_written at bytes before after reached written s is =
    let was = was_there at bytes before s (sym written ∙ is) in
    long_after at bytes was.0 s (reached was.0 was.1) was.2

-- the three writes of a record: its length, its body, and the closed gate behind it
module _ (place : ℕ) (body head : List ℕ) (o0 o1 : Option (List ℕ)) (is : head ≡ header body) (w1 : o1 ≡ overwritten (place + 1) head o0) where
  length_written : o1 ≡ overwritten (place + 1) (header body) o0
  length_written = w1 ∙ ap (λ (bytes : List ℕ). overwritten (place + 1) bytes o0) is

  pub reaches_body : Reaches (place + 1) o0 → Reaches (place + 9) o1
  reaches_body reached s at = omega (arith, length-header body, reaches_written (place + 1) (header body) o0 o1 reached length_written s at)

  pub reaches_gate : (o2 : Option (List ℕ)) → o2 ≡ overwritten (place + 9) body o1 → Reaches (place + 1) o0 → Reaches (place + 9 + length body) o2
  reaches_gate o2 w2 reached = reaches_written (place + 9) body o1 o2 (reaches_body reached) w2

  pub reaches_end : (o2 o3 : Option (List ℕ)) → o2 ≡ overwritten (place + 9) body o1 → o3 ≡ overwritten (place + 9 + length body) (0 ∷ []) o2 → Reaches (place + 1) o0 → Reaches (place + 10 + length body) o3
  reaches_end o2 o3 w2 w3 reached s at = omega (arith, reaches_written (place + 9 + length body) (0 ∷ []) o2 o3 (reaches_gate o2 w2 reached) w3 s at)

-- the first gate, written over fewer than two bytes and synced, is all that a crash leaves
pub first_gate : {X E : Type 0} (r : Result X E) (before middle : Option (List ℕ)) (image : List ℕ → Type 0) → ((s : List ℕ) → before ≡ Some s → length s < 2) → middle ≡ overwritten 0 (0 ∷ []) before
    → OnOk r ((c : List ℕ) → image c → middle ≡ Some c) → OnOk r ((c : List ℕ) → image c → c ≡ 0 ∷ [])
first_gate (Err e) before middle image short written durable = tt
first_gate (Ok x) before middle image short written durable = λ c left.
    let was = was_there 0 (0 ∷ []) before c (sym written ∙ durable c left) in
    sym was.2 ∙ ap (λ (l : List ℕ). 0 ∷ l) (drop_all 1 was.0 (omega (arith, short was.0 was.1)))

module _ (bodies : List (List ℕ)) where
  split_gate : (gate : ℕ) (rest : List ℕ) → blocks bodies ++ gate ∷ rest ≡ (blocks bodies ++ gate ∷ []) ++ rest
  split_gate gate rest = sym (append_assoc (blocks bodies) (gate ∷ []) rest)

  length-front : (gate : ℕ) → length (blocks bodies ++ gate ∷ []) ≡ size bodies + 1
  length-front gate = omega (arith, length-append (blocks bodies) (gate ∷ []), length-blocks bodies)

  -- a write behind the closed gate, torn or not, leaves the list
  pub torn_behind : (at n : ℕ) (d c : List ℕ) → size bodies + 1 ≤ at → IsAtRest bodies d → TornFrom at n d c → IsAtRest bodies c
  torn_behind at n d c behind is_at_rest torn =
      let at_rest = split bodies d is_at_rest in
      let k = size bodies + 1 in
      let front : take k c ≡ blocks bodies ++ at_rest.gate ∷ [] =
      sym (take-take k at c behind) ∙ ap (λ (l : List ℕ). take k l) torn.before ∙ take-take k at d behind
      ∙ ap (λ (l : List ℕ). take k l) (at_rest.is ∙ split_gate at_rest.gate at_rest.rest)
      ∙ take_at (blocks bodies ++ at_rest.gate ∷ []) at_rest.rest k (length-front at_rest.gate) in
      joined bodies c is_at_rest.fits (record {
        gate = at_rest.gate;
        rest = drop k c;
        closed = at_rest.closed;
        is = sym (take-append-drop k c) ∙ ap (λ (l : List ℕ). l ++ drop k c) front ∙ append_assoc (blocks bodies) (at_rest.gate ∷ []) (drop k c);
      })

  -- the three writes of a record behind the gate
  pub staged : (body s0 s1 s2 s3 : List ℕ) → size bodies + 9 + length body < 2 ^ 63 → IsAtRest bodies s0
      → replaced (size bodies + 1) (header body) s0 ≡ s1
      → replaced (size bodies + 9) body s1 ≡ s2
      → replaced (size bodies + 9 + length body) (0 ∷ []) s2 ≡ s3
      → IsStaged bodies body s3
  staged body s0 s1 s2 s3 fits is_at_rest w1 w2 w3 =
      let at_rest = split bodies s0 is_at_rest in
      let f0 = blocks bodies ++ at_rest.gate ∷ [] in
      let f1 = f0 ++ header body in
      let f2 = f1 ++ body in
      let r1 = drop (length (header body)) at_rest.rest in
      let r2 = drop (length body) r1 in
      let r3 = drop (length {A = ℕ} (0 ∷ [])) r2 in
      let l1 : length f1 ≡ size bodies + 9 = omega (arith, length-append f0 (header body), length-front at_rest.gate, length-header body) in
      let l2 : length f2 ≡ size bodies + 9 + length body = omega (arith, length-append f1 body, l1) in
      let e1 : s1 ≡ f1 ++ r1 = sym w1 ∙ ap (λ (l : List ℕ). replaced (size bodies + 1) (header body) l) (at_rest.is ∙ split_gate at_rest.gate at_rest.rest) ∙ replaced_behind f0 at_rest.rest (header body) (size bodies + 1) (length-front at_rest.gate) in
      let e2 : s2 ≡ f2 ++ r2 = sym w2 ∙ ap (λ (l : List ℕ). replaced (size bodies + 9) body l) e1 ∙ replaced_behind f1 r1 body (size bodies + 9) l1 in
      let e3 : s3 ≡ (f2 ++ 0 ∷ []) ++ r3 = sym w3 ∙ ap (λ (l : List ℕ). replaced (size bodies + 9 + length body) (0 ∷ []) l) e2 ∙ replaced_behind f2 r2 (0 ∷ []) (size bodies + 9 + length body) l2 in
      record {
        fits = omega (arith, size-push bodies body);
        gate = at_rest.gate;
        rest = r3;
        closed = at_rest.closed;
        is = e3 ∙ append_assoc f2 (0 ∷ []) r3 ∙ append_assoc f1 body (0 ∷ r3) ∙ append_assoc f0 (header body) (body ++ 0 ∷ r3) ∙ append_assoc (blocks bodies) (at_rest.gate ∷ []) (header body ++ (body ++ 0 ∷ r3));
      }

  -- once the gate is open the record counts
  opened : (body rest c : List ℕ) → size (bodies ++ body ∷ []) < 2 ^ 63 → c ≡ blocks bodies ++ 1 ∷ (header body ++ (body ++ 0 ∷ rest)) → IsAtRest (bodies ++ body ∷ []) c
  opened body rest c fits is = joined (bodies ++ body ∷ []) c fits (record { gate = 0; rest = rest; closed = λ e. cc; is = is ∙ sym (blocks-push bodies body (0 ∷ rest)) })

  -- the gate is torn: the record counts or it doesn't
  pub torn_gate : (body d c : List ℕ) → IsStaged bodies body d → TornFrom (size bodies) 1 d c → HasOldOrNew bodies body c
  torn_gate body d c staged torn =
      let k = size bodies in
      let behind = header body ++ (body ++ 0 ∷ staged.rest) in
      let gate = get_or c k 0 in
      let front : take k c ≡ blocks bodies = torn.before ∙ ap (λ (l : List ℕ). take k l) staged.is ∙ take_at (blocks bodies) (staged.gate ∷ behind) k (length-blocks bodies) in
      let back : drop (k + 1) c ≡ behind = torn.after ∙ ap (λ (l : List ℕ). drop (k + 1) l) (staged.is ∙ split_gate staged.gate behind) ∙ drop_at (blocks bodies ++ staged.gate ∷ []) behind (k + 1) (length-front staged.gate) in
      let long : k < length c = omega (arith, torn.no_shorter, ap length staged.is, length-append (blocks bodies) (staged.gate ∷ behind), length-blocks bodies) in
      let whole : c ≡ blocks bodies ++ gate ∷ behind =
      sym (take-append-drop k c) ∙ ap (λ (l : List ℕ). l ++ drop k c) front ∙ ap (λ (l : List ℕ). blocks bodies ++ l) (drop_more c k 0 long ∙ ap (λ (l : List ℕ). gate ∷ l) back) in
      let fits : size bodies < 2 ^ 63 = omega (arith, staged.fits, size-push bodies body) in
      elim (cases_eq gate 1) [
        | inl is_open ↦ inr (opened body staged.rest c staged.fits (whole ∙ ap (λ (g : ℕ). blocks bodies ++ g ∷ behind) is_open))
        | inr shut ↦ inl (joined bodies c fits (record { gate = gate; rest = behind; closed = shut; is = whole }))
      ]

  pub written_gate : (body d c : List ℕ) → IsStaged bodies body d → replaced (size bodies) (1 ∷ []) d ≡ c → IsAtRest (bodies ++ body ∷ []) c
  written_gate body d c staged w =
      let behind = header body ++ (body ++ 0 ∷ staged.rest) in
      opened body staged.rest c staged.fits (
      sym w ∙ ap (λ (l : List ℕ). replaced (size bodies) (1 ∷ []) l) staged.is
      ∙ replaced_behind (blocks bodies) (staged.gate ∷ behind) (1 ∷ []) (size bodies) (length-blocks bodies)
      ∙ append_assoc (blocks bodies) (1 ∷ []) behind)

-- the three writes, synced, leave the record staged in whatever a crash leaves
pub all_staged : (place : ℕ) (body head : List ℕ) (o0 o1 o2 o3 : Option (List ℕ)) (image after : List ℕ → Type 0) → place + 10 + length body ≤ 2 ^ 63 → head ≡ header body
    → o1 ≡ overwritten (place + 1) head o0 → o2 ≡ overwritten (place + 9) body o1 → o3 ≡ overwritten (place + 9 + length body) (0 ∷ []) o2
    → ((s : List ℕ) → o0 ≡ Some s → image s) → ((c : List ℕ) → after c → o3 ≡ Some c)
    → (bodies : List (List ℕ)) → size bodies ≡ place → AllAtRest bodies image → AllStaged bodies body after
all_staged place body head o0 o1 o2 o3 image after room is w1 w2 w3 reads durable bodies fits all d left =
    let was2 = was_there (place + 9 + length body) (0 ∷ []) o2 d (sym w3 ∙ durable d left) in
    let was1 = was_there (place + 9) body o1 was2.0 (sym w2 ∙ was2.1) in
    let was0 = was_there (place + 1) (header body) o0 was1.0 (sym (length_written place body head o0 o1 is w1) ∙ was1.1) in
    staged bodies body was0.0 was1.0 was2.0 d (omega (arith, fits, room)) (all was0.0 (reads was0.0 was0.1))
    (subst (λ (k : ℕ). replaced (k + 1) (header body) was0.0 ≡ was1.0) (sym fits) was0.2)
    (subst (λ (k : ℕ). replaced (k + 9) body was1.0 ≡ was2.0) (sym fits) was1.2)
    (subst (λ (k : ℕ). replaced (k + 9 + length body) (0 ∷ []) was2.0 ≡ d) (sym fits) was2.2)
