-- Past the members nothing is owed, paid or left.
use Rattle.std.proofs.Common.{◌≡◌, ℕ, ◌≤◌, false, ltb, ap, inl, inr, arith}
use Rattle.std.proofs.lemmas.Bool.{le-ltb}
use Rattle.network.specs.declared.figures.Figures.{Figures}
use Rattle.network.specs.declared.figures.Member.{Member}
use Rattle.network.specs.Entries.{claim_at}
use Rattle.clearing.specs.Networks.{Payments, owed, outlay, cash}
use Rattle.clearing.proofs.Totals.{total_eq, total_none}
use Rattle.book.specs.Tables.{network_of, Capped}

pub claim_past : (F : Figures) (i j : ℕ) → F.n ≤ i → claim_at F i j ≡ 0
claim_past F i j h = F.allowed i j (inr (inl h))

pub column_past : (F : Figures) (i j : ℕ) → F.n ≤ j → claim_at F i j ≡ 0
column_past F i j h = F.allowed i j (inr (inr h))

module _ (F : Figures) (P : Payments) (k : ℕ) (past : F.n ≤ k) where
  pub cash_past : Capped (network_of F) P → cash (network_of F) P k ≡ 0
  cash_past capped =
      omega (
        arith,
        ap (λ (m : Member). m.endowment) ((F.fit k).2 past),
        total_eq F.n (λ i. P i k) (λ _. 0) (λ i _. omega (arith, capped i k, column_past F i k past)),
        total_none F.n,
      )

  pub default_past : ltb (outlay (network_of F) P k) (owed (network_of F) k) ≡ false
  default_past =
      le-ltb (outlay (network_of F) P k) (owed (network_of F) k)
      (omega (arith, total_eq F.n (claim_at F k) (λ _. 0) (λ j _. claim_past F k j past), total_none F.n))
