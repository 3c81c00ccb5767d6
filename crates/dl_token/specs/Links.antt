-- How the number of a transaction and of a link is printed.
use Rattle.std.specs.Prelude.{ℕ, ◌/◌, ◌%◌, ◌^◌, List, ◌∷◌, ◌++◌, decimal}
use Rattle.dl_base.specs.declared.value.LinkNo.{LinkNo}

-- a transaction's number: the opening and the count inside it, with a dash between
abbrev pub transaction_text : ℕ → List ℕ
transaction_text tx = decimal (tx / 2 ^ 32) ++ 45 ∷ decimal (tx % 2 ^ 32)

-- a link's number: that of its transaction, a dash, and the count inside the transaction
abbrev pub link_text : LinkNo → List ℕ
link_text link = transaction_text link.tx ++ 45 ∷ decimal link.k
