-- What sets the awards by each of the two standards apart from all other divisions.
use Rattle.std.proofs.Common.{ℕ, ◌≤◌, List, get_or, ⊎_elim, arith}
use Rattle.std.proofs.lemmas.Bool.{cases_lt}
use Rattle.rules.specs.Claims.{Admitted}
use Rattle.rules.specs.Standards.{equal_score, jefferson_score}
use Rattle.rules.specs.Theorems.{Only, Level, Proportionate, Foremost}
use Rattle.rules.specs.Unit.{equal_awards, jefferson}
use Rattle.rules.proofs.ForemostAwards.{foremost_only}
use Rattle.rules.proofs.StandardScores.{over_next_never_rises, next_is, last_is, equal_positive, jefferson_positive}
use Rattle.rules.specs.UnitLaws.{unit_laws}

module _ (cs hs : List ℕ) (ok : Admitted cs) (within : (k : ℕ) → get_or hs k 0 ≤ get_or cs k 0) where
  level_from_foremost : Foremost equal_score cs hs → Level cs hs
  level_from_foremost first i j short =
      ⊎_elim
      (λ some.
      let ahead = rw (next_is (λ claim. 1) cs hs ok within j short, last_is (λ claim. 1) cs hs ok within i some) at (first i j some short) in
      (omega arith, λ lt. omega (arith, ahead.1 lt)))
      (λ none. (omega arith, λ lt. omega arith))
      (cases_lt 0 (get_or hs i 0))

  foremost_from_level : Level cs hs → Foremost equal_score cs hs
  foremost_from_level level i j some short =
      let even = level i j short in
      rw (next_is (λ claim. 1) cs hs ok within j short, last_is (λ claim. 1) cs hs ok within i some)
      (omega arith, λ lt. omega (arith, even.1 lt))

  proportionate_from_foremost : Foremost jefferson_score cs hs → Proportionate cs hs
  proportionate_from_foremost first i j some short =
      rw (next_is (λ claim. claim) cs hs ok within j short, last_is (λ claim. claim) cs hs ok within i some) at (first i j some short)

  foremost_from_proportionate : Proportionate cs hs → Foremost jefferson_score cs hs
  foremost_from_proportionate even i j some short =
      rw (next_is (λ claim. claim) cs hs ok within j short, last_is (λ claim. claim) cs hs ok within i some) (even i j some short)

pub equal_only : Only equal_awards Level
equal_only =
    let first = foremost_only equal_score equal_positive (over_next_never_rises (λ claim. 1)) in
    record {
      holds = λ e cs ok. level_from_foremost cs (equal_awards e cs) ok ((unit_laws equal_score equal_positive).within e cs ok) (first.holds e cs ok);
      alone = λ e cs hs ok d level. first.alone e cs hs ok d (foremost_from_level cs hs ok d.within level);
    }

pub jefferson_only : Only jefferson Proportionate
jefferson_only =
    let first = foremost_only jefferson_score jefferson_positive (over_next_never_rises (λ claim. claim)) in
    record {
      holds = λ e cs ok. proportionate_from_foremost cs (jefferson e cs) ok ((unit_laws jefferson_score jefferson_positive).within e cs ok) (first.holds e cs ok);
      alone = λ e cs hs ok d even. first.alone e cs hs ok d (foremost_from_proportionate cs hs ok d.within even);
    }
