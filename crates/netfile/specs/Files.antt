-- The network file: which bytes are the file of a network.
use Rattle.std.specs.Prelude.{ℕ, zero, suc, ◌+◌, ◌*◌, ◌/◌, ◌%◌, cond, List, [], ◌∷◌, ◌++◌, Some, None, Option, ◌==◌, slice_index}
use Rattle.network.specs.declared.figures.Figures.{Figures}
use Rattle.network.specs.declared.figures.Member.{Member}
use Rattle.network.specs.Entries.{member_at, claim_at}

-- a number as four bytes, the highest first, and the number that stands in four bytes from the k-th on
abbrev pub four_bytes : ℕ → List ℕ
four_bytes x = (x / 16777216 % 256) ∷ (x / 65536 % 256) ∷ (x / 256 % 256) ∷ (x % 256) ∷ []

abbrev pub number_at : List ℕ → ℕ → ℕ
number_at t k = slice_index t k * 16777216 + slice_index t (k + 1) * 65536 + slice_index t (k + 2) * 256 + slice_index t (k + 3)

abbrev pub network_record : ℕ → List ℕ
network_record n = 1 ∷ n ∷ []

abbrev pub member_record : ℕ → Member → List ℕ
member_record i m = 2 ∷ i ∷ m.house ∷ m.class ∷ four_bytes m.endowment

abbrev pub claim_record : ℕ → ℕ → ℕ → List ℕ
claim_record debtor creditor units = 3 ∷ debtor ∷ creditor ∷ four_bytes units

abbrev pub end_record : List ℕ
end_record = 4 ∷ []

-- what F gives for p, p + 1 and so on, c in all, one behind the other
unfoldable pub run : (ℕ → List ℕ) → ℕ → ℕ → List ℕ
run F p zero = []
run F p (suc c) = F p ++ run F (p + 1) c

abbrev pub member_bytes : Figures → ℕ → List ℕ
member_bytes f i = member_record i (member_at f i)

-- the place of a claim is 32 times its debtor plus its creditor
abbrev pub claim_of : Figures → ℕ → ℕ
claim_of f place = claim_at f (place / 32) (place % 32)

-- a claim of 0 has no record
abbrev pub units_bytes : ℕ → ℕ → ℕ → List ℕ
units_bytes debtor creditor units = cond (units == 0) [] (claim_record debtor creditor units)

abbrev pub claim_bytes : Figures → ℕ → List ℕ
claim_bytes f place = units_bytes (place / 32) (place % 32) (claim_of f place)

-- the place behind the last claim
abbrev pub place_after : Option (ℕ × ℕ) → ℕ
place_after None = 0
place_after (Some last) = 32 * last.0 + last.1 + 1

abbrev pub members_of : Figures → List ℕ
members_of f = run (member_bytes f) 0 f.n

-- the records of the claims on one debtor, whose row is given
abbrev pub row_bytes : ℕ → List ℕ → ℕ → List ℕ
row_bytes debtor row creditor = units_bytes debtor creditor (slice_index row creditor)

abbrev pub row_of : ℕ → List ℕ → List ℕ
row_of debtor row = run (row_bytes debtor row) 0 32

abbrev pub claims_of : Figures → List ℕ
claims_of f = run (claim_bytes f) 0 1024

-- the file of f: the Network record, one record for each member and each claim above 0, the End record
unfoldable pub file_of : Figures → List ℕ
file_of f = ((network_record f.n ++ members_of f) ++ claims_of f) ++ end_record

-- the file as far as the record of member i, and as far as the claim at a place
abbrev pub members_to : Figures → ℕ → List ℕ
members_to f i = network_record f.n ++ run (member_bytes f) 0 i

abbrev pub claims_to : Figures → ℕ → List ℕ
claims_to f place = members_to f f.n ++ run (claim_bytes f) 0 place
