use Rattle.std.proofs.Common.{rules}
use Rattle.rules.specs.Lists.{admitted_total}
use Rattle.rules.proofs.claims.ClaimList.total.Goals as goal

pub sum-requires : goal.sum-requires
sum-requires c = let small = admitted_total c.args.self.now.list.now c.args.self.now.admitted in search rules
