-- The lives of books: open, calls in any order, refused ones among them, and close; and the theorem that which calls
-- are made, and in what order, decides nothing.
use Rattle.std.specs.Prelude.{◌≡◌, ℕ, ◌+◌, ◌<◌, ◌≤◌, false, cond, ◌↔◌, List, [], ◌∷◌, map, take, Some, None, Option, Result, slice_index, slice_index_or}
use Rattle.network.specs.declared.fault.Fault.{Fault}
use Rattle.network.specs.declared.draft.Draft.{Draft}
use Rattle.network.specs.Entries.{member_at, claim_at}
use Rattle.clearing.specs.Networks.{Payments, Least, Equal, SomeBelow, total, units_of_claims}
use Rattle.clearing.specs.Settling.{moved}
use Rattle.clearing.specs.Promises.{Sound, Tracked}
use Rattle.book.specs.Tables.{cells, network_of}
use Rattle.book.specs.Rulebooks.{Meaning, LawfulMeaning, division}
use Rattle.book.specs.Views.{net_of, payments_of}
use Rattle.book.specs.Calls.{Opens, Pays, Settles, GoesRound, ShowsPaid, ShowsCash, ShowsDue, ShowsNext, Ends}
use Rattle.book.specs.declared.book.Book.{Book}
use Rattle.book.specs.declared.sheet.Sheet.{Sheet}
use Rattle.book.specs.declared.call.Call.{Call}
use Rattle.book.specs.declared.call.Call.TheVariants.{Pay, Settle, Round, Paid, Cash, Due, Next}
use Rattle.book.specs.declared.call.Answer.{Answer}
use Rattle.book.specs.declared.call.Answer.TheVariants.{Units, Rounded, Member}
use Rattle.book.specs.declared.call.Task.{Task}

-- one call and its answer, by what the call's own contract says; a question leaves the book as it was
abbrev pub Step : Meaning → Book → Call → Answer → Book → Type 0
Step A B (Pay d c u) a B' = (r : Result ℕ Fault) × (a ≡ Units r) × Pays A B d c u r B'
Step A B (Settle m) a B' = (r : Result ℕ Fault) × (a ≡ Units r) × Settles A B m r B'
Step A B Round a B' = (r : ℕ × ℕ) × (a ≡ Rounded r.0 r.1) × GoesRound A B r B'
Step A B (Paid d c) a B' = (r : Result ℕ Fault) × (a ≡ Units r) × ShowsPaid B d c r × (B' ≡ B)
Step A B (Cash m) a B' = (r : Result ℕ Fault) × (a ≡ Units r) × ShowsCash B m r × (B' ≡ B)
Step A B (Due d c) a B' = (r : Result ℕ Fault) × (a ≡ Units r) × ShowsDue A B d c r × (B' ≡ B)
Step A B Next a B' = (r : Option ℕ) × (a ≡ Member r) × ShowsNext A B r × (B' ≡ B)

-- tasks made one after another, each with its answer noted
pub data Works (A : Meaning) : Book → List Task → Book → Type 0 where
  rest : {B : Book} → Works A B [] B
  then : {B B' B'' : Book} {task : Task} {tasks : List Task} (a : Answer) → task.answer ≡ Some a → Step A B task.call a B' → Works A B' tasks B'' → Works A B (task ∷ tasks) B''

abbrev pub calls_of : List Task → List Call
calls_of tasks = map (λ (t : Task). t.call) tasks

-- a life: a book is opened on a draft, worked through tasks, and closed with a sheet
pub record Life (A : Meaning) (draft : Draft) (tasks : List Task) (S : Sheet) : Type 0 where
  pub opened : Book
  pub worked : Book
  pub opens : Opens draft opened
  pub works : Works A opened tasks worked
  pub ends : Ends A worked S

-- the book after open and some of the tasks
pub record Moment (A : Meaning) (draft : Draft) (tasks : List Task) (B : Book) : Type 0 where
  pub opened : Book
  pub opens : Opens draft opened
  pub count : ℕ
  pub works : Works A opened (take count tasks) B

-- how many tasks pay, which is to move at least one unit
abbrev pub paying : {A : Meaning} {B B' : Book} {tasks : List Task} → Works A B tasks B' → ℕ
paying rest = 0
paying (then {B} {B'} a _ _ w) = cond (moved (net_of B) (payments_of B) (payments_of B')) 1 0 + paying w

-- how many calls of a life pay, close being one call
abbrev pub paying_calls : {A : Meaning} {draft : Draft} {tasks : List Task} {S : Sheet} → Life A draft tasks S → ℕ
paying_calls {S = S} life = paying life.works + cond (moved (net_of life.worked) (payments_of life.worked) (cells S.paid)) 1 0

-- what is promised of a life, L being the least clearing matrix
pub record Promised (A : Meaning) (draft : Draft) (tasks : List Task) (S : Sheet) (life : Life A draft tasks S) (L : Payments) : Type 0 where
  pub least : Least (network_of draft.figures) (division A draft.figures) L
  -- before close: never above L, no negative cash, total cash constant
  pub sound : (B : Book) → Moment A draft tasks B → Sound (network_of draft.figures) L (payments_of B)
  -- before close: some settle would pay, and next answers a member, exactly while an entry is short of L
  pub tracked : (B : Book) → Moment A draft tasks B → Tracked (network_of draft.figures) (division A draft.figures) L (payments_of B)
  pub told : (B : Book) → Moment A draft tasks B → (r : Option ℕ) → ShowsNext A B r → (r ≡ None) ↔ (SomeBelow (network_of draft.figures) (payments_of B) L → ⊥)
  -- after close: the sheet's payments are L, and its equities add up to the endowments
  pub closed : Sound (network_of draft.figures) L (cells S.paid)
  pub ends : Equal (network_of draft.figures) (cells S.paid) L
  pub equities : total draft.figures.n (λ i. slice_index S.equities i) ≡ total draft.figures.n (network_of draft.figures).endowment
  -- no more paying calls than units of claims
  pub bounded : paying_calls life ≤ units_of_claims (network_of draft.figures)

-- drafts that agree in n and in every endowment, house and claim
pub record EqualDrafts (one two : Draft) : Type 0 where
  pub members : one.figures.n ≡ two.figures.n
  pub endowments : (i : ℕ) → i < one.figures.n → (member_at one.figures i).endowment ≡ (member_at two.figures i).endowment
  pub houses : (i : ℕ) → i < one.figures.n → (member_at one.figures i).house ≡ (member_at two.figures i).house
  pub claims : (i j : ℕ) → i < one.figures.n → j < one.figures.n → claim_at one.figures i j ≡ claim_at two.figures i j

pub record EqualSheets (S S' : Sheet) : Type 0 where
  pub payments : (i j : ℕ) → cells S.paid i j ≡ cells S'.paid i j
  pub equities : (i : ℕ) → slice_index S.equities i ≡ slice_index S'.equities i
  pub defaults : (i : ℕ) → slice_index_or S.defaults i false ≡ slice_index_or S'.defaults i false

-- what is promised of two lives on equal drafts
pub record TwoLives (A : Meaning) (draft draft' : Draft) (tasks tasks' : List Task) (S S' : Sheet) (one : Life A draft tasks S) (two : Life A draft' tasks' S') : Type 0 where
  pub least : Payments
  pub first : Promised A draft tasks S one least
  pub second : Promised A draft' tasks' S' two least
  pub equal : EqualSheets S S'

abbrev pub OrderDecidesNothing : Type 0
OrderDecidesNothing = (A : Meaning) → LawfulMeaning A → (draft draft' : Draft) → EqualDrafts draft draft'
    → (tasks tasks' : List Task) (S S' : Sheet) (one : Life A draft tasks S) (two : Life A draft' tasks' S') → TwoLives A draft draft' tasks tasks' S S' one two

-- the theorem, of a book B that closes with the sheet S: wherever its life came from, and whatever other life there was
abbrev pub WhateverTheOrder : Meaning → Book → Sheet → Type 0
WhateverTheOrder A B S = (draft draft' : Draft) → EqualDrafts draft draft' → (tasks tasks' : List Task) (O : Book) (S' : Sheet)
    (opens : Opens draft O) (works : Works A O tasks B) (ends : Ends A B S) (two : Life A draft' tasks' S')
    → TwoLives A draft draft' tasks tasks' S S' (record { opened = O; worked = B; opens = opens; works = works; ends = ends }) two

-- two lives that were run, and what is promised of them if their drafts are equal
pub record BothLives (A : Meaning) (draft draft' : Draft) (tasks tasks' : List Task) (S S' : Sheet) : Type 0 where
  pub one : Life A draft tasks S
  pub two : Life A draft' tasks' S'
  pub decides : EqualDrafts draft draft' → TwoLives A draft draft' tasks tasks' S S' one two
