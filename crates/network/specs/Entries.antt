-- The entries of a network's figures, and what each call that enters one makes of them.
use Rattle.std.specs.Prelude.{◌≡◌, ℕ, [], slice_index_or, slice_set}
use Rattle.network.specs.declared.figures.Member.{Member}
use Rattle.network.specs.declared.figures.Figures.{Figures}
use Rattle.network.specs.Limits.{nobody, member_in, claim_in}

abbrev pub member_at : Figures → ℕ → Member
member_at f i = member_in f.members i

abbrev pub claim_at : Figures → ℕ → ℕ → ℕ
claim_at f i j = claim_in f.claims i j

-- n members of which nothing is entered
pub record Blank (n : ℕ) (f : Figures) : Type 0 where
  pub count : f.n ≡ n
  pub members : (i : ℕ) → member_at f i ≡ nobody
  pub claims : (i j : ℕ) → claim_at f i j ≡ 0

-- one member is entered, and nothing else changes
pub record MemberSet (before : Figures) (member house class endowment : ℕ) (after : Figures) : Type 0 where
  pub count : after.n ≡ before.n
  pub members : after.members ≡ slice_set before.members member (record { house = house; class = class; endowment = endowment })
  pub claims : after.claims ≡ before.claims

-- one claim is entered, and nothing else changes
pub record ClaimSet (before : Figures) (debtor creditor units : ℕ) (after : Figures) : Type 0 where
  pub count : after.n ≡ before.n
  pub members : after.members ≡ before.members
  pub claims : after.claims ≡ slice_set before.claims debtor (slice_set (slice_index_or before.claims debtor []) creditor units)
