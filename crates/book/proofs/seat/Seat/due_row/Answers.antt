use Rattle.book.proofs.Tables.{due_row_is}
use Rattle.book.proofs.seat.Seat.due_row.Goals as goal

pub returns : goal.returns
returns g c =
    due_row_is (g.R.Rulebook.awarded c.args.rulebook.now) (g.met.R.Rulebook.lawful c.args.rulebook.now) c.args.self.now.book.now c.args.self.now.at c.args.self.now.inside
    c.awards.new.awards c.awards.result c.args.estate c.requires c.awards.ensures
