use Rattle.std.proofs.Common.{ap, drop, ◌+◌, ◌∙◌}
use Rattle.dl_token.specs.Tokens.{begins_with_token, digit_count, last_name, token_of}
use Rattle.dl_token.proofs.Forms.{named, of_token}
use Rattle.dl_token.proofs.laws.form_is_of_a_token.Goals as goal

pub returns : goal.returns
returns c text = (
  λ is.
      let of = of_token (last_name text) is in
      (token_of (last_name text), drop (digit_count (last_name text) + 34) (last_name text), record { is_token = of.is_token; last = of.same; not_empty = of.some }),
  λ has. ap begins_with_token has.2.last ∙ (named has.0 has.1 has.2.is_token has.2.not_empty).begins,
)
