use Rattle.std.proofs.Common.{◌≡◌, ◌∙◌, sym, ap, refl, Some}
use Rattle.std.specs.Result.{result_ok}
use Rattle.hex.specs.Hex.{decode_of}
use Rattle.dl_token.specs.Tokens.{decoded}
use Rattle.dl_token.proofs.Forms.{mac_read}
use Rattle.dl_token.proofs.form.mac_of.Goals as goal

pub returns : goal.returns
returns c =
    let lower = sym c.are_lower_hex.ensures ∙ c.if-not-are_lower_hex.false in
    let e : c.ok.result ≡ Some (decoded (decode_of c.args.digits.now)) =
    c.ok.ensures.value ∙ ap result_ok c.from_hex.ensures ∙ mac_read c.args.digits.now c.requires lower in
    rw e (lower, refl)
