-- The turns of close: one round more, or rest.
use Rattle.std.proofs.Common.{◌≡◌, ℕ, suc, ◌+◌, ◌-◌, ◌<◌, ◌≤◌, true, false, sym, ap, ◌∙◌, subst, inl, inr, le_antisymm, add-one, arith}
use Rattle.std.proofs.lemmas.Bool.{cases_Bool}
use Rattle.network.specs.declared.figures.Figures.{Figures}
use Rattle.clearing.specs.Networks.{Network, Division, Payments, AtMost, Equal, units_paid}
use Rattle.clearing.specs.Settling.{moved, passed_over, round, rounds}
use Rattle.clearing.proofs.Closing.{paid_le, paid_lt, unmoved}
use Rattle.clearing.proofs.Loops.{rounds_on, moving_more, close_rests, under_equal}
use Rattle.book.specs.Tables.{network_of}
use Rattle.book.specs.Rulebooks.{Meaning, division}
use Rattle.book.specs.Views.{payments_of}
use Rattle.book.specs.Calls.{GoesRound}
use Rattle.book.specs.Rests.{Rests}
use Rattle.book.specs.declared.book.Book.{Book}
use Rattle.book.proofs.Turning.{paid_cap, paid_eq, passed_eq, settle_below_raises}

-- r rounds have moved u units in all, and each of them some
pub record Rounded (A : Meaning) (F : Figures) (P : Payments) (r u : ℕ) (B : Book) : Type 0 where
  pub figures : B.figures ≡ F
  pub payments : Equal (network_of F) (payments_of B) (rounds (network_of F) (division A F) r P)
  pub moving : (k : ℕ) → k < r → moved (network_of F) (rounds (network_of F) (division A F) k P) (rounds (network_of F) (division A F) (suc k) P) ≡ true
  pub units : u + units_paid (network_of F) P ≡ units_paid (network_of F) (payments_of B)
  pub count : r ≤ u

-- a round, over the figures F that the book has had all along
record Gone (A : Meaning) (F : Figures) (B : Book) (x : ℕ × ℕ) (B' : Book) : Type 0 where
  figures : B'.figures ≡ F
  payments : Equal (network_of F) (payments_of B') (round (network_of F) (division A F) (payments_of B))
  units : x.0 ≡ units_paid (network_of F) (payments_of B') - units_paid (network_of F) (payments_of B)
  passed : x.1 ≡ passed_over (network_of F) (division A F) (payments_of B)

module _ (A : Meaning) (O : Book) (r u : ℕ) (B B' : Book) (x : ℕ × ℕ) (t : Rounded A O.figures (payments_of O) r u B) (s : GoesRound A B x B') where
  abbrev F : Figures
  F = O.figures

  abbrev N : Network
  N = network_of O.figures

  abbrev D : Division
  D = division A O.figures

  abbrev P : Payments
  P = payments_of O

  abbrev Q : Payments
  Q = payments_of B

  abbrev Q' : Payments
  Q' = payments_of B'

  gone : Gone A O.figures B x B'
  gone = subst (λ (X : Figures). Gone A X B x B') t.figures (record { figures = s.figures; payments = s.payments; units = s.units; passed = s.passed })

  raised : AtMost N Q Q'
  raised = under_equal N Q Q' (round N D Q) (settle_below_raises N D N.members Q) gone.payments

  some_moved : (x.0 ≡ 0 → ⊥) → moved N Q Q' ≡ true
  some_moved h = elim (cases_Bool (moved N Q Q')) [ inl e ↦ e | inr e ↦ absurd (h (omega (arith, gone.units, paid_le N Q' Q (unmoved N Q Q' e)))) ]

  none_moved : x.0 ≡ 0 → moved N Q Q' ≡ false
  none_moved z = elim (cases_Bool (moved N Q Q')) [ inl e ↦ absurd (omega (arith, gone.units, paid_lt N Q Q' raised e)) | inr e ↦ e ]

  pub rounds_again : (x.0 ≡ 0 → ⊥) → Rounded A O.figures (payments_of O) (r + 1) (u + x.0) B'
  rounds_again h =
      record {
        figures = gone.figures;
        payments = λ i j a b. rounds_on N D P Q Q' r t.payments gone.payments i j a b ∙ sym (ap (λ k. rounds N D k P i j) (add-one r));
        moving = moving_more N D P Q Q' r t.payments gone.payments (some_moved h) t.moving;
        units = omega (arith, t.units, gone.units, paid_le N Q Q' raised);
        count = omega (arith, t.count, h);
      }

  pub rounds_less : (x.0 ≡ 0 → ⊥) → 10240000 - units_paid (network_of O.figures) (payments_of B') < 10240000 - units_paid (network_of O.figures) (payments_of B)
  rounds_less h = omega (arith, paid_lt N Q Q' raised (some_moved h), paid_cap F B' gone.figures)

  pub rounds_fit : (x.0 ≡ 0 → ⊥) → (u + x.0 ≤ 10240000) × (r + 1 ≤ 10240000)
  rounds_fit h = let on = rounds_again h in (omega (arith, on.units, paid_cap F B' gone.figures), omega (arith, on.units, on.count, paid_cap F B' gone.figures))

  pub rounds_rest : x.0 ≡ 0 → Rests A O r u x.1 B'
  rounds_rest z =
      let still = none_moved z in
      let same : Equal N Q' Q = λ i j a b. le_antisymm (unmoved N Q Q' still i j a b) (raised i j a b) in
      record {
        figures = gone.figures;
        closes = close_rests N D P Q Q' r t.payments gone.payments still t.moving;
        payments = λ i j a b. same i j a b ∙ t.payments i j a b;
        units = omega (arith, t.units, paid_eq N D Q' Q same);
        passed = gone.passed ∙ passed_eq N D Q Q' (λ i j a b. sym (same i j a b));
      }
