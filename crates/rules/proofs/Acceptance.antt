-- Claims that can be divided, with room for the awards, are not refused.
use Rattle.std.proofs.Common.{◌≡◌, ℕ, ◌≤◌, ltb, List, length, get_or, position, None, Ok, Err, Result, ⊎_elim, arith}
use Rattle.std.proofs.lemmas.List.{get_or_past}
use Rattle.std.proofs.lemmas.List.Sums.{position_or_len_is, fails_before_first}
use Rattle.std.specs.List.{position_or_len}
use Rattle.std.proofs.lemmas.Bool.{le-ltb, lt-ltb, ltb-false, cases_lt}
use Rattle.std.proofs.lemmas.Bool.Decides.{nat_tests}
use Rattle.network.specs.Answers.{Gives}
use Rattle.network.specs.declared.fault.Fault.{Fault}
use Rattle.rules.specs.Claims.{Admitted, awards_fault}

none_large : (cs : List ℕ) → ((k : ℕ) → get_or cs k 0 ≤ 10000) → position (ltb 10000) cs ≡ None
none_large cs small =
    let past = position_or_len_is (ltb 10000) cs (length cs) 0 (omega arith) (λ k lt. le-ltb 10000 (get_or cs k 0) (small k)) (λ lt. absurd (omega arith)) in
    grind (arith, nat_tests)

pub all_small : (cs : List ℕ) → position (ltb 10000) cs ≡ None → (k : ℕ) → get_or cs k 0 ≤ 10000
all_small cs none k =
    ⊎_elim
    (λ first. let is = lt-ltb (position_or_len (ltb 10000) cs) (length cs) first in absurd (grind (arith, nat_tests)))
    (λ past.
    ⊎_elim
    (λ lt. ltb-false 10000 (get_or cs k 0) (fails_before_first (ltb 10000) cs k 0 (omega arith)))
    (λ le. omega (arith, get_or_past cs k 0 le))
    (cases_lt k (length cs)))
    (cases_lt (position_or_len (ltb 10000) cs) (length cs))

pub accepted : (cs : List ℕ) (room : ℕ) → Admitted cs → room ≡ length cs → awards_fault cs room ≡ None
accepted cs room ok same =
    let few = ok.few in
    let none = none_large cs ok.small in
    grind (arith, nat_tests)

-- so the awards are filled in
pub filled :
    (cs : List ℕ) (room : ℕ) (r : Result (Unit {0}) Fault) (new old after : List ℕ) →
    Admitted cs → room ≡ length cs → Gives (awards_fault cs room) (λ _. after ≡ new) (after ≡ old) r → after ≡ new
filled cs room (Ok _) new old after ok same gives = gives.1
filled cs room (Err e) new old after ok same gives =
    let none = accepted cs room ok same in
    let z : ◌≡◌ {A = ℕ} 0 1 = cc (none, gives.0) in
    absurd (omega arith)
