use Rattle.std.proofs.Common.{arith}
use Rattle.std.proofs.lemmas.Grind.{common_steps, take_at_read, flat_map-append}
use Rattle.report.proofs.line.print.Goals as goal

pub loop-line-preserved : goal.loop-line-preserved
loop-line-preserved c = grind (arith, common_steps, take_at_read, flat_map-append)
