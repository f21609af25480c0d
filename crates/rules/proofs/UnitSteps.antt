-- The unit rule as its estate grows by one unit at a time.
use Rattle.std.proofs.Common.{◌≡◌, ℕ, suc, ◌+◌, ◌<◌, ◌≤◌, min, List, length, get_or, set, Some, None, sum, Option, sym, refl, ap, ◌∙◌, arith}
use Rattle.rules.specs.Standards.{Scoring}
use Rattle.rules.specs.Theorems.{UnitByUnit}
use Rattle.rules.specs.Unit.{First, raised, dealt}
use Rattle.rules.proofs.Exchange.{same_by_sum}
use Rattle.rules.specs.Lists.{sum_le}
use Rattle.rules.specs.Picks.{FirstOf, first_among_all}
use Rattle.rules.specs.UnitLaws.{next_pick, next_first, length_dealt, dealt_within, sum_dealt}

abbrev Goes : Scoring → List ℕ → List ℕ → List ℕ → Type 0
Goes f cs hs next = (j : ℕ) × First f cs hs j × (next ≡ set hs j (get_or hs j 0 + 1))

goes_to : (f : Scoring) (cs hs : List ℕ) (o : Option ℕ) → length hs ≡ length cs → sum hs < sum cs → FirstOf f cs hs (length cs) o → Goes f cs hs (raised hs o)
goes_to f cs hs None same less full = absurd (omega (arith, sum_le cs hs (sym same) full))
goes_to f cs hs (Some j) same less first = (j, first_among_all f cs hs (Some j) first, refl)

pub unit_by_unit : (f : Scoring) → ((creditor claim held : ℕ) → 1 ≤ (f creditor claim held).1) → UnitByUnit f
unit_by_unit f positive = record {
  start = λ cs. let none : min 0 (sum cs) ≡ 0 = omega arith in ap (dealt f cs) none;
  next = λ e cs less.
      let now : min e (sum cs) ≡ e = omega arith in
      let more : min (e + 1) (sum cs) ≡ suc e = omega arith in
      let held = sum_dealt f positive cs e (omega arith) in
      rw (now, more)
      (goes_to f cs (dealt f cs e) (next_pick f positive cs e) (length_dealt f positive cs e) (omega arith) (next_first f positive cs e));
  full = λ e cs enough.
      let all : min e (sum cs) ≡ sum cs = omega arith in
      ap (dealt f cs) all ∙
      same_by_sum (dealt f cs (sum cs)) cs (length_dealt f positive cs (sum cs)) (dealt_within f positive cs (sum cs)) (omega (arith, sum_dealt f positive cs (sum cs) (omega arith)));
}
