use Rattle.book.specs.Lives.{Life}
use Rattle.book.proofs.lives.work_both.Goals as goal

pub returns : goal.returns
returns g c =
    let A = g.R.Rulebook.awarded c.args.rulebook.now in
    let second : Life A c.args.second c.work-2.new.tasks c.close-2.result =
    record { opened = c.open-two.result; worked = c.work-2.new.self; opens = c.open-two.ensures; works = c.work-2.ensures.works; ends = c.close-2.ensures.ends } in
    record {
      lives = record {
        one = record { opened = c.open-one.result; worked = c.work.new.self; opens = c.open-one.ensures; works = c.work.ensures.works; ends = c.close.ensures.ends };
        two = second;
        decides = λ same. c.close.ensures.order c.args.first c.args.second same c.work.new.tasks c.work-2.new.tasks c.open-one.result c.close-2.result
            c.open-one.ensures c.work.ensures.works c.close.ensures.ends second;
      };
      calls = c.work.ensures.calls;
      other_calls = c.work-2.ensures.calls;
    }
