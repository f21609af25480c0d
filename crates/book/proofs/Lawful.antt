-- Lawful rules make the division of a network lawful.
use Rattle.std.proofs.Common.{◌≡◌, ℕ, ◌<◌, ◌≤◌, min, List, [], length, get_or, sum, sym, ap, ◌∙◌, inl, inr, le_trans, le_of_eq, le_refl, arith, get_or-take}
use Rattle.std.proofs.lemmas.List.{length-take-le, get_or_past, take_all}
use Rattle.std.proofs.lemmas.Bool.{cases_lt}
use Rattle.network.specs.declared.figures.Figures.{Figures}
use Rattle.network.specs.Entries.{member_at, claim_at}
use Rattle.rules.specs.Claims.{Admitted}
use Rattle.clearing.specs.Networks.{LawfulDivision, total, owed}
use Rattle.clearing.proofs.Totals.{total_eq}
use Rattle.book.specs.Tables.{network_of}
use Rattle.book.specs.Rulebooks.{Meaning, LawfulMeaning, claims_on, division}
use Rattle.book.proofs.Sums.{sum_total_front}

sum_total : (xs : List ℕ) → sum xs ≡ total (length xs) (λ k. get_or xs k 0)
sum_total xs = ap sum (sym (take_all (length xs) xs (le_refl (length xs)))) ∙ sum_total_front xs (length xs) (le_refl (length xs))

-- of any of the 32 seats
module _ (F : Figures) (i : ℕ) (l : i < 32) where
  pub claims_length : length (claims_on F i) ≡ F.n
  claims_length = length-take-le F.n (get_or F.claims i []) (omega (arith, F.few, F.columns i l))

  pub claims_at : (j : ℕ) → j < F.n → get_or (claims_on F i) j 0 ≡ claim_at F i j
  claims_at j b = get_or-take F.n (get_or F.claims i []) j 0 b

  pub claims_admitted : Admitted (claims_on F i)
  claims_admitted =
      record {
        few = omega (arith, claims_length, F.few);
        small = λ k. elim (cases_lt k F.n) [
          | inl b ↦ omega (arith, claims_at k b, F.small i k)
          | inr b ↦ omega (arith, get_or_past (claims_on F i) k 0 (omega (arith, claims_length)))
        ];
      }

  pub claims_total : sum (claims_on F i) ≡ owed (network_of F) i
  claims_total =
      sum_total (claims_on F i) ∙ ap (λ m. total m (λ k. get_or (claims_on F i) k 0)) claims_length
      ∙ total_eq F.n (λ k. get_or (claims_on F i) k 0) (claim_at F i) claims_at

module _ (A : Meaning) (law : LawfulMeaning A) (F : Figures) where
  pub awards_length : (i E : ℕ) → i < 32 → length (A (member_at F i).house E (claims_on F i)) ≡ F.n
  awards_length i E l = (law (member_at F i).house).count E (claims_on F i) (claims_admitted F i l) ∙ claims_length F i l

  pub all_awarded : (i E : ℕ) → i < 32 → total F.n (division A F i E) ≡ min E (owed (network_of F) i)
  all_awarded i E l =
      let awards = A (member_at F i).house E (claims_on F i) in
      ap (λ m. total m (λ k. get_or awards k 0)) (sym (awards_length i E l)) ∙ sym (sum_total awards)
      ∙ (law (member_at F i).house).total E (claims_on F i) (claims_admitted F i l) ∙ ap (λ s. min E s) (claims_total F i l)

  pub none_above : (i E j : ℕ) → i < 32 → j < F.n → division A F i E j ≤ claim_at F i j
  none_above i E j l b = le_trans ((law (member_at F i).house).within E (claims_on F i) (claims_admitted F i l) j) (le_of_eq (claims_at F i l j b))

  pub division_lawful : LawfulDivision (network_of F) (division A F)
  division_lawful =
      let low : (i : ℕ) → i < F.n → i < 32 = λ i l. omega (arith, F.few) in
      record {
        exhausts = λ i E l. all_awarded i E (low i l);
        capped = λ i E j l b. none_above i E j (low i l) b;
        monotone = λ i E E' j l b more. (law (member_at F i).house).grows E E' (claims_on F i) (claims_admitted F i (low i l)) more j;
      }
