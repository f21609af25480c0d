-- The turns of a loop that makes calls and notes their answers.
use Rattle.std.proofs.Common.{◌≡◌, ℕ, zero, suc, ◌+◌, ◌<◌, ◌≤◌, List, [], ◌∷◌, ◌++◌, length, get_or, take, set, Some, Option, sym, refl, ap, subst}
use Rattle.std.proofs.lemmas.List.{take_more_set, take_all}
use Rattle.book.specs.Rulebooks.{Meaning}
use Rattle.book.specs.Lives.{Step, Works, rest, then, calls_of}
use Rattle.book.specs.declared.book.Book.{Book}
use Rattle.book.specs.declared.call.Answer.{Answer}
use Rattle.book.specs.declared.call.Task.{Task}

-- one task more at the end
works_push : {A : Meaning} {B B' B'' : Book} {tasks : List Task} (task : Task) (a : Answer) → task.answer ≡ Some a → Works A B tasks B' → Step A B' task.call a B'' → Works A B (tasks ++ task ∷ []) B''
works_push task a is rest s = then {task = task} a is s rest
works_push task a is (then {task = first} b was t w) s = then {task = first} b was t (works_push task a is w s)

abbrev noted : Task → Answer → Task
noted task a = record { call = task.call; answer = Some a }

pub works_more : (A : Meaning) (B B' B'' : Book) (tasks : List Task) (i : ℕ) (d : Task) (a : Answer) → i < length tasks → Works A B (take i tasks) B'
    → Step A B' (get_or tasks i d).call a B'' → Works A B (take (i + 1) (set tasks i (record { call = (get_or tasks i d).call; answer = Some a }))) B''
works_more A B B' B'' tasks i d a l w s =
    subst (λ (ts : List Task). Works A B ts B'') (sym (take_more_set tasks i (noted (get_or tasks i d) a) l)) (works_push (noted (get_or tasks i d) a) a refl w s)

pub works_all : (A : Meaning) (B B' : Book) (tasks : List Task) (i : ℕ) → length tasks ≤ i → Works A B (take i tasks) B' → Works A B tasks B'
works_all A B B' tasks i past w = subst (λ (ts : List Task). Works A B ts B') (take_all i tasks past) w

-- the calls stay as they were
pub calls_set : (tasks : List Task) (i : ℕ) (d : Task) (a : Option Answer) → calls_of (set tasks i (record { call = (get_or tasks i d).call; answer = a })) ≡ calls_of tasks
calls_set [] i d a = refl
calls_set (t ∷ ts) zero d a = refl
calls_set (t ∷ ts) (suc i) d a = ap (λ cs. t.call ∷ cs) (calls_set ts i d a)
