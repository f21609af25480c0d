-- Figures and tables of payments, read as a network and its payment matrix.
use Rattle.std.specs.Prelude.{ℕ, ◌<◌, ◌≤◌, List, [], slice_index, slice_index_or}
use Rattle.network.specs.declared.figures.Figures.{Figures}
use Rattle.network.specs.Entries.{member_at, claim_at}
use Rattle.clearing.specs.Networks.{Network, Payments, outlay, estate}

-- the entry in row i and column j, and 0 outside the table
abbrev pub cells : List (List ℕ) → Payments
cells rows i j = slice_index (slice_index_or rows i []) j

abbrev pub network_of : Figures → Network
network_of F = record { members = F.n; endowment = λ i. (member_at F i).endowment; claim = claim_at F }

-- nothing is paid above its claim, and so nothing outside the members
abbrev pub Capped : Network → Payments → Type 0
Capped N P = (i j : ℕ) → P i j ≤ N.claim i j

-- nobody has paid more than its estate
abbrev pub Solvent : Network → Payments → Type 0
Solvent N P = (i : ℕ) → i < N.members → outlay N P i ≤ estate N P i
