use Rattle.book.proofs.book.Book.round.Goals as goal

pub visit_all-requires : goal.visit_all-requires
visit_all-requires g c = c.no_visits-tallies.ensures (g.R.Rulebook.awarded c.args.rulebook.now)
