use Rattle.std.proofs.Common.{◌≡◌, ℕ, ◌-◌, ◌<◌, ◌≤◌, List, length, get_or, sym, ◌∙◌, arith}
use Rattle.std.proofs.lemmas.List.{ext_get_or}
use Rattle.rules.specs.Places.{minus}
use Rattle.rules.specs.Lists.{length_minus, get_or_minus}
use Rattle.rules.proofs.dual.take_from.Goals as goal

last : (now was cs : List ℕ) (n : ℕ) → length now ≡ length cs → length cs ≤ n → ((k : ℕ) → k < n → get_or now k 0 ≡ get_or cs k 0 - get_or was k 0) → now ≡ minus cs was
last now was cs n same past inv =
    ext_get_or 0 now (minus cs was) (same ∙ sym (length_minus cs was)) (λ k lt. inv k (omega arith) ∙ sym (get_or_minus cs was k))

pub returns : goal.returns
returns c = last c.loop-k.awards c.args.awards.now c.args.claims.now c.loop-k.k (omega arith) (omega arith) c.loop-k.invariant.0
