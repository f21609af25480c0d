-- Which calls on a draft are refused, and how: the first of the checks, in their order, that fails.
use Rattle.std.specs.Prelude.{ℕ, cond, ◌||◌, Some, None, Option, ◌==◌, nat_le, nat_lt}
use Rattle.network.specs.declared.fault.Cause.TheVariants.{MemberCount, NoSuchMember, ClassTooHigh, EndowmentTooLarge, ClaimOnItself, ClaimTooLarge}
use Rattle.network.specs.declared.fault.Layer.TheVariants.{Draft}
use Rattle.network.specs.declared.fault.Fault.{Fault}
use Rattle.network.specs.Faults.{of_nobody, of_member, of_pair}

abbrev pub count_fault : ℕ → Option Fault
count_fault n = cond (n == 0 || nat_lt 32 n) (Some (of_nobody Draft MemberCount)) None

abbrev pub member_fault : ℕ → ℕ → ℕ → ℕ → Option Fault
member_fault n member class endowment =
    cond (nat_le n member) (Some (of_member Draft NoSuchMember member))
    (cond (nat_lt 7 class) (Some (of_member Draft ClassTooHigh member))
    (cond (nat_lt 1000000 endowment) (Some (of_member Draft EndowmentTooLarge member))
    None))

abbrev pub claim_fault : ℕ → ℕ → ℕ → ℕ → Option Fault
claim_fault n debtor creditor units =
    cond (nat_le n debtor || nat_le n creditor) (Some (of_pair Draft NoSuchMember debtor creditor))
    (cond (debtor == creditor) (Some (of_pair Draft ClaimOnItself debtor creditor))
    (cond (nat_lt 10000 units) (Some (of_pair Draft ClaimTooLarge debtor creditor))
    None))
