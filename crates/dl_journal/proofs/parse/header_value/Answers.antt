use Rattle.std.proofs.Common.{arith}
use Rattle.std.proofs.lemmas.Nat.{be_bytes_8}
use Rattle.dl_journal.proofs.parse.header_value.Goals as goal

pub returns-clause-bytes : goal.returns-clause-bytes
returns-clause-bytes c = be_bytes_8 c.args.header.now c.from_be_bytes.result c.requires (λ i. omega (arith, c.type_inv.header i)) c.from_be_bytes.ensures
