-- The claims of a network, row after row, and the bytes of those above 0.
use Rattle.std.proofs.Common.{◌≡◌, ℕ, zero, suc, ◌+◌, ◌*◌, ◌/◌, ◌%◌, ◌<◌, ◌≤◌, Bool, count_by, ltb, List, [], length, get_or, take, sym, refl, ap, ◌∙◌, ⊎_elim, add-one, arith}
use Rattle.std.specs.List.{flat_map, sum_by}
use Rattle.std.proofs.lemmas.List.{length-append, take_all}
use Rattle.std.proofs.lemmas.List.Concat.{length-flat_map, get_or-flat_map}
use Rattle.std.proofs.lemmas.List.Sums.{sum_by_more, count_by_more_yes, count_by_more_no, count_by-le-length}
use Rattle.std.proofs.lemmas.Bool.{cases_lt, lt-ltb, le-ltb}
use Rattle.network.specs.declared.figures.Figures.{Figures}
use Rattle.netfile.specs.Files.{run, claim_of, claim_bytes, claims_of}
use Rattle.netfile.proofs.Files.{claim_none, claim_some}
use Rattle.netfile.proofs.Runs.{run_more}

abbrev pub whole_row : List ℕ → List ℕ
whole_row row = row

abbrev pub cells : Figures → List ℕ
cells f = flat_map (λ row. row) f.claims

abbrev pub above_0 : ℕ → Bool
above_0 x = ltb 0 x

module _ (f : Figures) where
  pub length_rows : (i : ℕ) → i ≤ 32 → length (flat_map whole_row (take i f.claims)) ≡ 32 * i
  length_rows zero h = refl
  length_rows (suc i) h =
      let row : i < length f.claims = omega (arith, f.rows) in
      let more = ap (λ k. sum_by (λ (r : List ℕ). length r) (take k f.claims)) (sym (add-one i)) ∙ sum_by_more (λ (r : List ℕ). length r) f.claims i [] row in
      let before = sym (length-flat_map whole_row (take i f.claims)) ∙ length_rows i (omega arith) in
      omega (arith, length-flat_map whole_row (take (suc i) f.claims), more, before, f.columns i (omega arith))

  length_cells : length (cells f) ≡ 1024
  length_cells =
      let all = ap (λ C. length (flat_map whole_row C)) (take_all 32 f.claims (omega (arith, f.rows))) in
      omega (arith, all, length_rows 32 (omega arith))

  cell_at : (q : ℕ) → q < 1024 → get_or (cells f) q 0 ≡ claim_of f q
  cell_at q h =
      let i = q / 32 in
      let j = q % 32 in
      let row : i < length f.claims = omega (arith, f.rows) in
      let cell : j < length (get_or f.claims i []) = omega (arith, f.columns i (omega arith)) in
      let place : length (flat_map whole_row (take i f.claims)) + j ≡ q = omega (arith, length_rows i (omega arith)) in
      ap (λ k. get_or (cells f) k 0) (sym place) ∙ get_or-flat_map whole_row f.claims i j [] 0 row cell

  length_below : (c : ℕ) → c ≤ 1024 → length (run (claim_bytes f) 0 c) ≡ 7 * count_by above_0 (take c (cells f))
  unfolding run
  length_below zero h = refl
  length_below (suc c) h =
      let more = ap (λ k. length (run (claim_bytes f) 0 k)) (sym (add-one c)) ∙ (ap length (run_more (claim_bytes f) c) ∙ length-append (run (claim_bytes f) 0 c) (claim_bytes f c)) in
      let so = length_below c (omega arith) in
      let in_list : c < length (cells f) = omega (arith, length_cells) in
      let here = cell_at c (omega arith) in
      let next = ap (λ k. count_by above_0 (take k (cells f))) (sym (add-one c)) in
      ⊎_elim
      (λ (y : 0 < claim_of f c).
      let yes = count_by_more_yes above_0 (cells f) c 0 in_list (ap above_0 here ∙ lt-ltb 0 (claim_of f c) y) in
      omega (arith, more, so, next, yes, ap length (claim_some (c / 32) (c % 32) (claim_of f c) y)))
      (λ (y : claim_of f c ≤ 0).
      let no = count_by_more_no above_0 (cells f) c 0 in_list (ap above_0 here ∙ le-ltb 0 (claim_of f c) y) in
      omega (arith, more, so, next, no, ap length (claim_none (c / 32) (c % 32) (claim_of f c) y)))
      (cases_lt 0 (claim_of f c))

  pub length_claims : length (claims_of f) ≡ 7 * count_by above_0 (cells f)
  length_claims = length_below 1024 (omega arith) ∙ ap (λ (xs : List ℕ). 7 * count_by above_0 xs) (take_all 1024 (cells f) (omega (arith, length_cells)))

  pub few_claims : count_by above_0 (cells f) ≤ 1024
  few_claims = omega (arith, count_by-le-length above_0 (cells f), length_cells)
