use Rattle.std.proofs.Common.{◌≡◌, ◌-◌, ◌++◌, map, take, replicate, bit_xor}
use Rattle.dl_token.proofs.hmac.padded.Given as goal

abbrev pub invariant-loop-i : goal.invariant-loop-i
invariant-loop-i l = l.block ≡ map (λ k. bit_xor k l.b) (take l.i l.key) ++ replicate (64 - l.i) l.b
