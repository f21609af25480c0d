-- Settled examples of books, of every draft that holds the figures and every life on it.
use Rattle.std.specs.Prelude.{◌≡◌, ℕ, true, false, List, [], ◌∷◌, length, Some, None, Ok, slice_index, slice_index_or}
use Rattle.network.specs.declared.draft.Draft.{Draft}
use Rattle.network.specs.declared.fault.Cause.TheVariants.{AboveDue, Receded}
use Rattle.network.specs.declared.fault.Layer.TheVariants.{Book as BookLayer}
use Rattle.network.specs.Entries.{member_at, claim_at}
use Rattle.network.specs.Faults.{of_member, of_pair}
use Rattle.rules.specs.Dual.{dual}
use Rattle.rules.specs.Examples.{Examples as RuleExamples}
use Rattle.rules.specs.Priority.{priority}
use Rattle.rules.specs.Unit.{equal_awards}
use Rattle.clearing.specs.Networks.{Clearing}
use Rattle.book.specs.Tables.{cells, network_of}
use Rattle.book.specs.Rulebooks.{Meaning, division}
use Rattle.book.specs.Calls.{Opens, Settles, pay_fault, settle_fault}
use Rattle.book.specs.Lives.{Life}
use Rattle.book.specs.declared.book.Book.{Book}
use Rattle.book.specs.declared.call.Task.{Task}
use Rattle.book.specs.declared.sheet.Sheet.{Sheet}

-- the draft holds these members, in house 0 and class 0, with these endowments and claims, and nothing else
pub record Holds (draft : Draft) (endowments : List ℕ) (claims : List (List ℕ)) : Type 0 where
  pub count : draft.figures.n ≡ length endowments
  pub members : (i : ℕ) → member_at draft.figures i ≡ record { house = 0; class = 0; endowment = slice_index endowments i }
  pub claims_are : (i j : ℕ) → claim_at draft.figures i j ≡ slice_index (slice_index_or claims i []) j

-- every house divides by priority
abbrev pub by_priority : Meaning
by_priority _ = priority

-- every house divides by the dual of equal awards
abbrev pub by_dual : Meaning
by_dual _ = dual equal_awards

pub record Examples : Type 0 where
  pub rules : RuleExamples
  -- two members with nothing claim 5 of each other: nothing is paid and both default, although 5 and 5 also clears
  pub circle : (draft : Draft) → Holds draft (0 ∷ 0 ∷ []) ((0 ∷ 5 ∷ []) ∷ (5 ∷ 0 ∷ []) ∷ []) →
      ((tasks : List Task) (S : Sheet) → Life by_priority draft tasks S →
      (cells S.paid 0 1 ≡ 0) × (cells S.paid 1 0 ≡ 0) × (slice_index_or S.defaults 0 false ≡ true) × (slice_index_or S.defaults 1 false ≡ true))
      × Clearing (network_of draft.figures) (division by_priority draft.figures) (claim_at draft.figures)
  -- an endowment of 3 against one claim of 3
  pub enough : (draft : Draft) → Holds draft (3 ∷ 0 ∷ []) ((0 ∷ 3 ∷ []) ∷ (0 ∷ 0 ∷ []) ∷ []) → (tasks : List Task) (S : Sheet) → Life by_priority draft tasks S →
      (cells S.paid 0 1 ≡ 3) × (slice_index S.equities 0 ≡ 0) × (slice_index_or S.defaults 0 false ≡ false)
  -- and of 2
  pub short : (draft : Draft) → Holds draft (2 ∷ 0 ∷ []) ((0 ∷ 3 ∷ []) ∷ (0 ∷ 0 ∷ []) ∷ []) → (tasks : List Task) (S : Sheet) → Life by_priority draft tasks S →
      (cells S.paid 0 1 ≡ 2) × (slice_index_or S.defaults 0 false ≡ true)
  -- member 0 has 2 and owes members 1 and 2 the claims 4 and 2: before any call it may pay member 1 the 2 units, and not 3
  pub first_payment : (draft : Draft) → (A : Meaning) → A 0 ≡ priority →
      Holds draft (2 ∷ 0 ∷ 1 ∷ []) ((0 ∷ 4 ∷ 2 ∷ []) ∷ (1 ∷ 0 ∷ 5 ∷ []) ∷ (5 ∷ 0 ∷ 0 ∷ []) ∷ []) → (B : Book) → Opens draft B →
      (pay_fault A B 0 1 2 ≡ None) × (pay_fault A B 0 1 3 ≡ Some (of_pair BookLayer AboveDue 0 1))
  -- member 0 has 1 and owes 1 each to members 1 and 2: settled under priority it has receded under the dual of equal awards
  pub two_rulebooks : (draft : Draft) → Holds draft (1 ∷ 0 ∷ 0 ∷ []) ((0 ∷ 1 ∷ 1 ∷ []) ∷ (0 ∷ 0 ∷ 0 ∷ []) ∷ (0 ∷ 0 ∷ 0 ∷ []) ∷ []) →
      (B B' : Book) (units : ℕ) → Opens draft B → Settles by_priority B 0 (Ok units) B' →
      settle_fault by_dual B' 0 ≡ Some (of_member BookLayer Receded 0)
