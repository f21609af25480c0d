use Rattle.std.proofs.Common.{rules, tests, ◌≡◌, ℕ, ltb, List, position, Some, sym, ◌∙◌, arith}
use Rattle.std.proofs.lemmas.Bool.Decides.{nat_tests}
use Rattle.std.proofs.lemmas.Iterator.{YieldsList-from_slice}
use Rattle.std.proofs.lemmas.Iterator.Search.{position_from_yields_List}
use Rattle.rules.proofs.Acceptance.{all_small}
use Rattle.rules.proofs.rulebook.check_claims.Goals as goal

pub returns-in-Some : goal.returns-in-Some
returns-in-Some c =
    let xs : List ℕ = c.args.claims.now in
    let is : c.position.result ≡ position (ltb 10000) xs = position_from_yields_List (ltb 10000) _ _ c.position.result c.position.ensures.ran (YieldsList-from_slice xs cc) (λ x b q k. search (rules, tests)) in
    let first : position (ltb 10000) xs ≡ Some c.in-Some.first = sym is ∙ c.in-Some.is in
    (grind (arith, nat_tests), tt)

pub returns-in-None : goal.returns-in-None
returns-in-None c =
    let xs : List ℕ = c.args.claims.now in
    let is : c.position.result ≡ position (ltb 10000) xs = position_from_yields_List (ltb 10000) _ _ c.position.result c.position.ensures.ran (YieldsList-from_slice xs cc) (λ x b q k. search (rules, tests)) in
    let none = sym is ∙ c.in-None.is in
    (grind (arith, nat_tests), (record { few = omega arith; small = all_small xs none }, omega arith))
