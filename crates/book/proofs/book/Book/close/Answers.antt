use Rattle.book.proofs.Order.{ends_of, order_decides_nothing}
use Rattle.book.proofs.book.Book.close.Goals as goal

pub returns : goal.returns
returns g c =
    let A = g.R.Rulebook.awarded c.args.rulebook.now in
    let law = g.met.R.Rulebook.lawful c.args.rulebook.now in
    let x = c.come_to_rest-rounds.result in
    record {
      ends = ends_of A c.args.self c.come_to_rest-rounds.new.self x.0 x.1 x.2 c.equities-equities.result c.defaults-defaults.result
          c.come_to_rest-rounds.ensures c.equities-equities.ensures c.defaults-defaults.ensures;
      order = λ draft draft' same tasks tasks' O S' o w e two.
          order_decides_nothing A law draft draft' same tasks tasks' _ S' (record { opened = O; worked = c.args.self; opens = o; works = w; ends = e }) two;
    }
