use Rattle.std.proofs.Common.{arith}
use Rattle.std.proofs.lemmas.Fmt.{decimal_digit}
use Rattle.report.proofs.Printing.{number_more}
use Rattle.report.proofs.writing.+push_number.Goals as goal

pub returns-then-n-lt10 : goal.returns-then-n-lt10
returns-then-n-lt10 t c = rw (decimal_digit c.args.n c.if-n-lt10.true) c.push_digit.ensures

pub returns : goal.returns
returns t c =
    number_more c.push_digit-2.result _ _ _ c.args.n c.if-n-lt10.false (omega arith) c.in_ok-push_number.ensures c.push_digit-2.ensures
