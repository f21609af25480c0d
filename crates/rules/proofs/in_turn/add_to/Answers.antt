use Rattle.std.proofs.Common.{◌≡◌, ℕ, ◌+◌, ◌<◌, ◌≤◌, List, length, get_or, sym, ◌∙◌, arith}
use Rattle.std.proofs.lemmas.List.{ext_get_or}
use Rattle.rules.specs.Places.{plus}
use Rattle.rules.specs.Lists.{length_plus, get_or_plus}
use Rattle.rules.proofs.in_turn.add_to.Goals as goal

last : (now was more : List ℕ) (n : ℕ) → length now ≡ length was → length was ≡ length more → length more ≤ n → ((k : ℕ) → k < n → get_or now k 0 ≡ get_or was k 0 + get_or more k 0) → now ≡ plus was more
last now was more n kept same past inv =
    ext_get_or 0 now (plus was more) (kept ∙ sym (length_plus was more same)) (λ k lt. inv k (omega arith) ∙ sym (get_or_plus was more k))

pub returns : goal.returns
returns c =
    last c.loop-k.awards c.args.awards.now c.args.more.now c.loop-k.k (omega arith) (omega arith) (omega arith) c.loop-k.invariant.0
