use Rattle.clearing.proofs.Moments.{least_exists}
use Rattle.clearing.proofs.least_exists.Goals as goal

pub returns : goal.returns
returns c = least_exists
