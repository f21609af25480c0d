-- The claims on one debtor, pushed behind those on the debtors before it.
use Rattle.std.proofs.Common.{◌≡◌, ◌==◌, ◌<◌, ℕ, ◌++◌, List, [], ◌∷◌, length, get_or, map, filter, not, refl, sym, ap, ◌∙◌, arith}
use Rattle.std.specs.List.{zip, range_with_len}
use Rattle.std.proofs.lemmas.List.{length-append}
use Rattle.network.specs.declared.figures.Figures.{Figures}
use Rattle.network.specs.Entries.{claim_at}
use Rattle.network.proofs.Growing.{grown}
use Rattle.network.proofs.Walks.{walked_some, not_cond}
use Rattle.nettext.specs.declared.line.TextLine.{TextLine}
use Rattle.nettext.specs.declared.line.TextLine.TheVariants.{Claim}
use Rattle.nettext.specs.Networks.{row_lines, claim_lines}

row_is : (F : Figures) (d : ℕ) → d < F.n →
    map (λ p. Claim d p.0 p.1) (filter (λ p. not (p.1 == 0)) (zip (range_with_len 0 F.n) (get_or F.claims d []))) ≡ row_lines F d F.n
row_is F d below =
    let wide : length (get_or F.claims d []) ≡ 32 = F.columns d (omega (arith, F.few)) in
    walked_some (λ m u. not (u == 0)) (λ m u. Claim d m u) 0 (row_lines F d) F.n (get_or F.claims d []) refl (omega (arith, wide, F.few))
    (λ m l. ap (λ xs. row_lines F d m ++ xs) (not_cond (claim_at F d m == 0) [] (Claim d m (claim_at F d m) ∷ [])))

pub row_pushed :
    {X : Type 0} (F : Figures) (before now next : List TextLine) (xs : List X) (x : X) (d : ℕ) (row : List ℕ) →
    (length xs < F.n) × (d ≡ length xs) × (row ≡ get_or F.claims (length xs) []) → now ≡ before ++ claim_lines F (length xs) →
    next ≡ now ++ map (λ p. Claim d p.0 p.1) (filter (λ p. not (p.1 == 0)) (zip (range_with_len 0 F.n) row)) →
    next ≡ before ++ claim_lines F (length (xs ++ x ∷ []))
row_pushed F before now next xs x d row (below, at, is) inv pushed =
    let k = length xs in
    let same : next ≡ now ++ row_lines F k F.n = pushed ∙ ap (λ ys. now ++ ys) (rw at (rw is (row_is F k below))) in
    grown before now next (claim_lines F) k (row_lines F k F.n) inv same refl ∙ ap (λ n. before ++ claim_lines F n) (sym (length-append xs (x ∷ [])))
