use Rattle.std.proofs.Common.{◌≡◌, ℕ, suc, ◌+◌, ◌-◌, ◌<◌, ◌≤◌, min, List, length, get_or, drop, set, sum, sym, ap, ◌∙◌, ⊎_elim, add-one, arith}
use Rattle.std.proofs.lemmas.List.FromFn.{fill_by_all}
use Rattle.std.proofs.lemmas.List.{drop_all, get_or-set_same, get_or-set_other}
use Rattle.std.proofs.lemmas.List.Sums.{sum_by-drop_more}
use Rattle.std.proofs.lemmas.Bool.{cases_eq}
use Rattle.other_rule.specs.Reverse.{reverse_award}
use Rattle.other_rule.proofs.reverse.pay_from_last.Goals as goal

pub loop-k-init : goal.loop-k-init
loop-k-init c =
    let none = ap sum (drop_all (length c.args.claims.now) c.args.claims.now (omega arith)) in
    (omega arith, λ j le lt. absurd (omega arith))

module _ (e : ℕ) (cs out : List ℕ) (i k left award : ℕ) (before : k ≡ suc i) (listed : i < length cs) (room : length out ≡ length cs)
    (rest : left ≡ e - sum (drop k cs)) (is : award ≡ min left (get_or cs i 0))
    (filled : (j : ℕ) → k ≤ j → j < length cs → get_or out j 0 ≡ reverse_award e cs j) where
  from_i : sum (drop i cs) ≡ get_or cs i 0 + sum (drop k cs)
  from_i = sum_by-drop_more (λ x. x) cs i 0 listed ∙ ap (λ n. get_or cs i 0 + sum (drop n cs)) (add-one i ∙ sym before)

  award_is : award ≡ reverse_award e cs i
  award_is = omega (arith, ap (λ n. sum (drop n cs)) before)

  next_rest : left - award ≡ e - sum (drop i cs)
  next_rest = omega (arith, from_i)

  next_filled : (j : ℕ) → i ≤ j → j < length cs → get_or (set out i award) j 0 ≡ reverse_award e cs j
  next_filled j le lt =
      ⊎_elim
      (λ same. rw same (get_or-set_same out i award 0 (omega arith) ∙ award_is))
      (λ ne. get_or-set_other out i j award 0 ne ∙ filled j (omega arith) lt)
      (cases_eq j i)

pub loop-k-preserved : goal.loop-k-preserved
loop-k-preserved c =
    let k : ℕ = c.loop-k.k in
    let claims : List ℕ = c.args.claims.now in (
      next_rest c.args.estate claims c.loop-k.awards (k - 1) k c.loop-k.left c.min-award.result
          (omega arith) (omega arith) (omega arith) c.loop-k.invariant.0 c.min-award.ensures c.loop-k.invariant.1,
      next_filled c.args.estate claims c.loop-k.awards (k - 1) k c.loop-k.left c.min-award.result
          (omega arith) (omega arith) (omega arith) c.loop-k.invariant.0 c.min-award.ensures c.loop-k.invariant.1,
    )

pub returns : goal.returns
returns c =
    fill_by_all (reverse_award c.args.estate c.args.claims.now) c.loop-k.awards _ 0 (omega arith)
    (λ k lt. c.loop-k.invariant.1 k (omega arith) lt)
