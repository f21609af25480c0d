use Rattle.std.proofs.Common.{ℕ, ◌≤◌, sym, refl, subst, arith}
use Rattle.network.specs.Limits.{nobody, MemberFits}
use Rattle.network.proofs.Tables.{get_or_same, blank, wide}
use Rattle.network.proofs.figures.Figures.blank.Goals as goal

pub invariant_of-result : goal.invariant_of-result
invariant_of-result c =
    let n : ℕ = c.get.result in record {
      some = omega (arith, c.args.count.some, c.get.ensures);
      few = omega (arith, c.args.count.few, c.get.ensures);
      table = refl;
      rows = refl;
      columns = λ i h. wide 32 32 i h;
      fit = λ i. subst (MemberFits n i) (sym (get_or_same 32 i nobody)) (omega arith, omega arith, λ _. refl);
      small = λ i j. subst (λ (x : ℕ). x ≤ 10000) (sym (blank 32 32 i j)) (omega arith);
      allowed = λ i j _. blank 32 32 i j;
    }

pub returns : goal.returns
returns c = record { count = c.get.ensures; members = λ i. get_or_same 32 i nobody; claims = blank 32 32 }
