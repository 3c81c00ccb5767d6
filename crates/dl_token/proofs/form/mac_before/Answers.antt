use Rattle.std.proofs.Common.{◌≡◌, ℕ, List, ◌∷◌, ◌∙◌, ap, sym, take, drop}
use Rattle.std.proofs.lemmas.List.{take_rest}
use Rattle.hex.specs.Hex.{decode_of}
use Rattle.dl_token.specs.Tokens.{decoded}
use Rattle.dl_token.proofs.Forms.{behind_mac, mac_found}
use Rattle.dl_token.proofs.form.mac_before.Goals as goal

pub returns : goal.returns
returns c =
    let rest : List ℕ = c.in_ok-dot.rest.now in
    let behind : List ℕ = c.split_at.result.1.now in
    let whole : c.args.bytes.now ≡ 46 ∷ rest = c.in_ok-dot.ensures.cases.0 ∙ ap (λ (b : ℕ). b ∷ rest) c.if-dot-ne46.false in
    let front : c.split_at.result.0.now ≡ take 32 (drop 1 c.args.bytes.now) =
    c.split_at.ensures.front ∙ ap (λ (bs : List ℕ). take 32 (drop 1 bs)) (sym whole) in (
      mac_found _ _ _ _ whole c.if-rest-lt32.false c.split_at.ensures.front c.split_at.ensures.back c.in_ok-mac.ensures.0 (sym c.goes_on.ensures ∙ c.if-not-goes_on.false),
      c.in_ok-mac.ensures.1 ∙ ap (λ (ds : List ℕ). decoded (decode_of ds)) front,
      take_rest behind 1 ∙ behind_mac _ _ _ whole c.split_at.ensures.back,
    )
