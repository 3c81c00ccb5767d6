use Rattle.std.proofs.Common.{◌∙◌, ap, ℕ, List, arith, bit_xor, slice_set, get_or}
use Rattle.std.specs.Int.Bits.{xor_zero_l}
use Rattle.dl_token.proofs.Pads.{pad_step, pad_done}
use Rattle.dl_token.proofs.hmac.padded.Goals as goal

pub loop-i-preserved : goal.loop-i-preserved
loop-i-preserved c =
    ap (λ (l : List ℕ). slice_set l c.loop-i.i (bit_xor (get_or c.args.key.now c.loop-i.i 0) c.args.b)) c.loop-i.invariant
    ∙ pad_step (λ k. bit_xor k c.args.b) c.args.key.now c.loop-i.i c.args.b c.loop-i-test.true c.requires

pub returns : goal.returns
returns c = c.loop-i.invariant ∙ pad_done (λ k. bit_xor k c.args.b) c.args.key.now c.loop-i.i c.args.b (omega arith) (xor_zero_l c.args.b)
