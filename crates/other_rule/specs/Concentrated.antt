-- A standard by which whoever holds most comes first.
use Rattle.std.specs.Prelude.{◌+◌}
use Rattle.rules.specs.Standards.{Scoring, within_reach}

-- one more than the units held, over 1
abbrev pub concentrated_score : Scoring
concentrated_score = within_reach (λ creditor claim held. (held + 1, 1))
