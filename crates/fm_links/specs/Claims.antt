-- The claims of transactions, path by path.
use Rattle.std.specs.Prelude.{ℕ, false, List, [], ◌∷◌, Option, Some, None, refl}
use Rattle.std.specs.Coded.{Coded, code_by, coded×, coded_ℕ, coded_list, coded_option}
use Rattle.std.specs.FinMap as maps
use Rattle.dl_base.specs.declared.value.LinkRow.{LinkRow}
use Rattle.meaning_settling.specs.Keyed.{Keyed, over}
use Rattle.meaning_settling.specs.Settling.{Moved, on, paths_of}
use Rattle.fm_branch.specs.Codes.{row_code}
use Rattle.fm_links.specs.declared.claims.Claim.{Claim}
use Rattle.fm_links.specs.declared.claims.ClaimedLink.{ClaimedLink}

-- THE CLAIM OF A PATH: which transaction has it, and the links that it gives and takes there.
pub record PathClaim : Type 0 where
  pub tx : ℕ
  pub give : Option LinkRow
  pub take : Option LinkRow

-- The claims by their paths, and for how many more there is room.
pub record ClaimTable : Type 0 where
  pub claims : Keyed PathClaim
  pub spare : ℕ

abbrev pub claim_code : Coded PathClaim
claim_code =
    code_by (ℕ × (Option LinkRow × Option LinkRow)) (coded× coded_ℕ (coded× (coded_option row_code) (coded_option row_code)))
    (λ c. (c.tx, (c.give, c.take))) (λ p. record { tx = p.0; give = p.1.0; take = p.1.1 }) (λ _. refl)

abbrev pub table_code : Coded ClaimTable
table_code =
    code_by (Keyed PathClaim × ℕ) (coded× (maps.code (coded_list coded_ℕ) claim_code) coded_ℕ)
    (λ t. (t.claims, t.spare)) (λ p. record { claims = p.0; spare = p.1 }) (λ _. refl)

-- a claim and its links as they stand beside a path

abbrev pub row_on : List ℕ → Option ClaimedLink → Option LinkRow
row_on path None = None
row_on path (Some l) = Some (record { link = l.link; path = path; options = l.options })

abbrev pub claim_on : List ℕ → Claim → PathClaim
claim_on path c = record { tx = c.tx; give = row_on path c.give; take = row_on path c.take }

-- the claims of some entries
abbrev pub claims_in : List (List ℕ × Claim) → Keyed PathClaim
claims_in [] = maps.empty
claims_in (e ∷ es) = maps.insert (claims_in es) e.0 (claim_on e.0 e.1)

-- what a claim gives and takes
abbrev pub moved : List LinkRow → List LinkRow → Moved
moved gives takes = record { gives = gives; takes = takes; fill = false }

-- the claim that a transaction has on a path where it gives or takes a link
abbrev pub claim_by : ℕ → Moved → List ℕ → PathClaim
claim_by tx m path = record { tx = tx; give = on m.gives path; take = on m.takes path }

-- THE CLAIMS with none on any path of what is moved, and with those of a transaction on all of them
unfoldable pub without_claim : Moved → Keyed PathClaim → Keyed PathClaim
without_claim m claims = over (paths_of m) (λ path was. None) claims

unfoldable pub with_claim : ℕ → Moved → Keyed PathClaim → Keyed PathClaim
with_claim tx m claims = over (paths_of m) (λ path was. Some (claim_by tx m path)) claims

-- the same, link by link

abbrev pub unclaimed : List LinkRow → Keyed PathClaim → Keyed PathClaim
unclaimed [] claims = claims
unclaimed (l ∷ ls) claims = unclaimed ls (maps.remove claims l.path)

-- the take of a claim
abbrev pub take_of : Option PathClaim → Option LinkRow
take_of None = None
take_of (Some c) = c.take

-- of two links on one path the first counts
abbrev pub taking : ℕ → List LinkRow → Keyed PathClaim → Keyed PathClaim
taking tx [] claims = claims
taking tx (t ∷ ts) claims = maps.insert (taking tx ts claims) t.path (record { tx = tx; give = None; take = Some t })

abbrev pub giving : ℕ → List LinkRow → Keyed PathClaim → Keyed PathClaim
giving tx [] claims = claims
giving tx (g ∷ gs) claims =
    let later = giving tx gs claims in
    maps.insert later g.path (record { tx = tx; give = Some g; take = take_of (maps.get later g.path) })

-- the claims with those of some entries, one after the other
abbrev pub laid : List (List ℕ × Claim) → Keyed PathClaim → Keyed PathClaim
laid [] claims = claims
laid (e ∷ es) claims = laid es (maps.insert claims e.0 (claim_on e.0 e.1))
