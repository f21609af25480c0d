-- The ring's rulebook: which rule each house has.
use Rattle.std.specs.Prelude.{◌≡◌, ℕ, ◌+◌, List}
use Rattle.rules.specs.Choice.{choice}
use Rattle.rules.specs.Claims.{Admitted}
use Rattle.rules.specs.Classes.{by_class}
use Rattle.rules.specs.Dual.{dual}
use Rattle.rules.specs.Laws.{Rule}
use Rattle.rules.specs.Priority.{priority}
use Rattle.rules.specs.Theorems.{Only, InOrder, Level, LevelLosses, Proportionate, LowerQuota, ByClass}
use Rattle.rules.specs.Unit.{equal_awards, jefferson}
use Rattle.rules.specs.declared.ring.RingRulebook.{RingRulebook}

-- what the ring's rulebook does for each house, given the classes that it serves by
abbrev pub ring_rule : List ℕ → ℕ → Rule
ring_rule ts =
    choice (λ _. priority)
    (choice (λ _. equal_awards)
    (choice (λ _. jefferson)
    (choice (λ _. dual equal_awards)
    (λ _. by_class ts jefferson))))

-- the classes that the ring's rulebook serves by
abbrev pub ring_classes : RingRulebook → List ℕ
ring_classes r = r.houses.second.second.second.second.table.classes

-- the rule of each house, given the classes of the members
pub record RingRules (rules : ℕ → Rule) (ts : List ℕ) : Type 0 where
  pub house_0 : rules 0 ≡ priority
  pub house_1 : rules 1 ≡ equal_awards
  pub house_2 : rules 2 ≡ jefferson
  pub house_3 : rules 3 ≡ dual equal_awards
  pub others : (h : ℕ) → rules (4 + h) ≡ by_class ts jefferson

-- what sets each of these rules apart; house 2 also keeps to the proportional shares
pub record RingApart (rules : ℕ → Rule) (ts : List ℕ) : Type 0 where
  pub house_0 : Only (rules 0) InOrder
  pub house_1 : Only (rules 1) Level
  pub house_2 : Only (rules 2) Proportionate
  pub quota_2 : (e : ℕ) (cs : List ℕ) → Admitted cs → LowerQuota cs (rules 2 e cs)
  pub house_3 : Only (rules 3) LevelLosses
  pub others : ByClass ts jefferson
