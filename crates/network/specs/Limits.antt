-- What every entry of a network keeps to.
use Rattle.std.specs.Prelude.{◌≡◌, ℕ, ◌≤◌, ◌⊎◌, List, [], slice_index, slice_index_or}
use Rattle.network.specs.declared.figures.Member.{Member}

-- a member of which nothing is entered
abbrev pub nobody : Member
nobody = record { house = 0; class = 0; endowment = 0 }

abbrev pub member_in : List Member → ℕ → Member
member_in members i = slice_index_or members i nobody

-- the claim of creditor j on debtor i
abbrev pub claim_in : List (List ℕ) → ℕ → ℕ → ℕ
claim_in claims i j = slice_index (slice_index_or claims i []) j

-- what may be entered of member i among n: nothing at or past n
abbrev pub MemberFits : ℕ → ℕ → Member → Type 0
MemberFits n i m = (m.class ≤ 7) × (m.endowment ≤ 1000000) × (n ≤ i → m ≡ nobody)

-- among n members, no claim of j on i can be: i is j, or one of them is no member
abbrev pub Barred : ℕ → ℕ → ℕ → Type 0
Barred n i j = (i ≡ j) ⊎ ((n ≤ i) ⊎ (n ≤ j))

abbrev pub MembersFit : ℕ → List Member → Type 0
MembersFit n members = (i : ℕ) → MemberFits n i (member_in members i)

abbrev pub ClaimsFit : List (List ℕ) → Type 0
ClaimsFit claims = (i j : ℕ) → claim_in claims i j ≤ 10000

abbrev pub ClaimsAllowed : ℕ → List (List ℕ) → Type 0
ClaimsAllowed n claims = (i j : ℕ) → Barred n i j → claim_in claims i j ≡ 0
