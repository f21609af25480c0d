-- The dual of a lawful rule is lawful.
use Rattle.std.proofs.Common.{arith}
use Rattle.rules.specs.Dual.{shortfall, dual}
use Rattle.rules.specs.Laws.{Rule, Lawful}
use Rattle.rules.specs.Lists.{length_minus, get_or_minus, sum_minus}

pub dual_laws : (f : Rule) → Lawful f → Lawful (dual f)
dual_laws f laws = record {
  count = λ e cs ok. length_minus cs (f (shortfall e cs) cs);
  total = λ e cs ok.
      let x = shortfall e cs in
      omega (arith, laws.total x cs ok, sum_minus cs (f x cs) (laws.count x cs ok) (laws.within x cs ok));
  within = λ e cs ok k. omega (arith, get_or_minus cs (f (shortfall e cs) cs) k);
  grows = λ e more cs ok le k.
      let x = shortfall e cs in
      let y = shortfall more cs in
      omega (arith, get_or_minus cs (f x cs) k, get_or_minus cs (f y cs) k, laws.grows y x cs ok (omega arith) k);
}
