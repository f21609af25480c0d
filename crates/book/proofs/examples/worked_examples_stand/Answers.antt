use Rattle.book.proofs.Worked.{examples}
use Rattle.book.proofs.examples.worked_examples_stand.Goals as goal

pub returns : goal.returns
returns c = examples c.examples_stand.ensures
