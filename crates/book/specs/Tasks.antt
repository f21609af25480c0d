-- The text of calls on a book and of their answers.
use Rattle.std.specs.Prelude.{ℕ, List, [], ◌∷◌, ◌++◌, Some, None, Ok, Err, codes, decimal, Option}
use Rattle.network.specs.Words.{spaced}
use Rattle.network.specs.Faults.{fault_text}
use Rattle.book.specs.declared.call.Call.{Call}
use Rattle.book.specs.declared.call.Call.TheVariants.{Pay, Settle, Round, Paid, Cash, Due, Next}
use Rattle.book.specs.declared.call.Answer.{Answer}
use Rattle.book.specs.declared.call.Answer.TheVariants.{Units, Rounded, Member}
use Rattle.book.specs.declared.call.Task.{Task}

abbrev pub call_text : Call → List ℕ
call_text (Pay debtor creditor units) = spaced (codes "pay") (decimal debtor ∷ decimal creditor ∷ decimal units ∷ [])
call_text (Settle member) = spaced (codes "settle") (decimal member ∷ [])
call_text Round = codes "round"
call_text (Paid debtor creditor) = spaced (codes "paid") (decimal debtor ∷ decimal creditor ∷ [])
call_text (Cash member) = spaced (codes "cash") (decimal member ∷ [])
call_text (Due debtor creditor) = spaced (codes "due") (decimal debtor ∷ decimal creditor ∷ [])
call_text Next = codes "next"

abbrev pub member_text : Option ℕ → List ℕ
member_text (Some member) = decimal member
member_text None = codes "none"

abbrev pub answer_text : Answer → List ℕ
answer_text (Units (Ok units)) = decimal units
answer_text (Units (Err fault)) = fault_text fault
answer_text (Rounded units passed) = spaced (decimal units) (decimal passed ∷ [])
answer_text (Member member) = member_text member

abbrev pub noted_text : Option Answer → List ℕ
noted_text (Some answer) = answer_text answer
noted_text None = codes "not made"

abbrev pub task_text : Task → List ℕ
task_text task = call_text task.call ++ (codes ": " ++ noted_text task.answer)
