use Rattle.book.proofs.Visiting.{stays_settled, stays_receded}
use Rattle.book.proofs.book.Book.visit.Goals as goal

pub returns-in-Settled-clause-settles : goal.returns-in-Settled-clause-settles
returns-in-Settled-clause-settles g c =
    stays_settled (g.R.Rulebook.awarded c.args.rulebook.now) c.args.self.now c.args.member c.args.tallies.now c.requires.kept c.requires.member
    c.in-Settled.then c.if-then-estate.true c.in-Settled.is

pub returns-in-PassedOver-clause-settles : goal.returns-in-PassedOver-clause-settles
returns-in-PassedOver-clause-settles g c =
    stays_receded (g.R.Rulebook.awarded c.args.rulebook.now) c.args.self.now c.args.member c.args.tallies.now c.requires.kept c.requires.member
    c.in-PassedOver.then c.if-then-estate-2.true c.in-PassedOver.is
