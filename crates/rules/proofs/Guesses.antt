-- A guess whose units all score above every unit that is still wanted is what single steps come to.
use Rattle.std.proofs.Common.{◌≡◌, ℕ, ◌+◌, ◌*◌, ◌<◌, ◌≤◌, min, true, false, leb, List, length, get_or, take, sum, ap, ◌∙◌, inl, inr, arith, below_more, length-take}
use Rattle.std.proofs.lemmas.Bool.{cases_eq, cases_lt, lt-leb, ltb-true, ltb-false}
use Rattle.std.proofs.lemmas.List.{get_or-take}
use Rattle.std.proofs.lemmas.List.Folds.{list_all_at}
use Rattle.std.proofs.lemmas.Slice.Zip.{length-zip, get_or-zip}
use Rattle.std.specs.List.{list_all, zip}
use Rattle.rules.specs.Claims.{Admitted}
use Rattle.rules.specs.Kept.{Heads, OverFirst, Small, UnderHeld, head}
use Rattle.rules.specs.Standards.{Score, Scoring}
use Rattle.rules.specs.Theorems.{Foremost, NeverRises, last_score}
use Rattle.rules.specs.Unit.{Below, NotAbove, above, dealt, next_score}
use Rattle.rules.proofs.ForemostAwards.{foremost_only}
use Rattle.rules.specs.Fractions.{below_trans, below_not_above, not_above_trans}
use Rattle.rules.specs.Lists.{sum_le}
use Rattle.rules.specs.Picks.{in_list}

-- the least score of a unit held, with one creditor more
module _ (f : Scoring) (cs hs : List ℕ) (k : ℕ) (least : Score) (small : Small least) (under : UnderHeld f cs hs k least) where
  pub least_stays : get_or hs k 0 ≤ 0 → UnderHeld f cs hs (k + 1) least
  least_stays none j lt some = elim (cases_eq j k) [ inl e ↦ absurd (omega (arith, ap (λ i. get_or hs i 0) e)) | inr ne ↦ under j (omega arith) some ]

  module _ (last : Score) (is : last ≡ last_score f cs hs k) where
    pub least_kept : above least last ≡ false → UnderHeld f cs hs (k + 1) least
    least_kept down j lt some = elim (cases_eq j k) [ inl e ↦ rw (e, ← is) (ltb-false _ _ down) | inr ne ↦ under j (omega arith) some ]

    pub least_falls : above least last ≡ true → UnderHeld f cs hs (k + 1) last
    least_falls up j lt some =
        let below = ltb-true (last.0 * least.1) (least.0 * last.1) up in
        elim (cases_eq j k) [
          | inl e ↦ rw (e, ← is) (omega arith)
          | inr ne ↦ not_above_trans last least (last_score f cs hs j) small.positive (omega arith) (under j (omega arith) some)
        ]

-- the greatest score, with one more
module _ (heads : List Score) (k : ℕ) (greatest : Score) (small : Small greatest) (over : OverFirst heads k greatest) where
  pub greatest_kept : above (head heads k) greatest ≡ false → OverFirst heads (k + 1) greatest
  greatest_kept down = below_more _ _ over (ltb-false _ _ down)

  pub greatest_rises : above (head heads k) greatest ≡ true → OverFirst heads (k + 1) (head heads k)
  greatest_rises up =
      let above-it = ltb-true (greatest.0 * (head heads k).1) ((head heads k).0 * greatest.1) up in
      below_more _ _ (λ j lt. not_above_trans (head heads j) greatest (head heads k) small.positive (over j lt) (omega arith)) (omega arith)

-- nobody holds more than its claim
pub within_is : (hs cs : List ℕ) → length hs ≡ length cs → list_all (λ p. leb p.0 p.1) (zip hs cs) ≡ true → (k : ℕ) → get_or hs k 0 ≤ get_or cs k 0
within_is hs cs same all k = elim (cases_lt (get_or cs k 0) (get_or hs k 0)) [
  | inl above ↦
      let in_list : k < length hs = in_list hs k (omega arith) in
      let fails : leb (get_or hs k 0) (get_or cs k 0) ≡ false = lt-leb _ _ above in
      let none = list_all_at (λ (p : ℕ × ℕ). leb p.0 p.1) (zip hs cs) k (0, 0) (omega (arith, length-zip hs cs)) (rw (get_or-zip hs cs k (0, 0) in_list (omega arith)) fails) in
      let no : ⊥ = cc in
      absurd no
  | inr le ↦ le
]

module _ (f : Scoring) (positive : (creditor claim held : ℕ) → 1 ≤ (f creditor claim held).1) (cs hs : List ℕ) (heads : List Score)
    (within : (k : ℕ) → get_or hs k 0 ≤ get_or cs k 0) (scores : Heads f cs hs heads) (least greatest : Score)
    (under : UnderHeld f cs hs (length cs) least) (over : OverFirst (take (length cs) heads) (length (take (length cs) heads)) greatest) (apart : Below greatest least) where
  held_before_wanted : (i j : ℕ) → 0 < get_or hs i 0 → get_or hs j 0 < get_or cs j 0 → Below (next_score f cs hs j) (last_score f cs hs i)
  held_before_wanted i j some short =
      let in-i : i < length cs = in_list cs i (omega (arith, within i)) in
      let in-j : j < length cs = in_list cs j (omega arith) in
      let wanted : NotAbove (next_score f cs hs j) greatest =
      rw (get_or-take (length cs) heads j (0, 0) in-j, (scores.next j in-j).is) at (over j (omega (arith, length-take (length cs) heads, scores.count))) in
      let below : Below (next_score f cs hs j) least = below_trans (next_score f cs hs j) greatest least (positive _ _ _) wanted apart in
      below_not_above (next_score f cs hs j) least (last_score f cs hs i) (positive _ _ _) below (under i in-i some)

  pub guess_is_dealt : NeverRises f → Admitted cs → hs ≡ dealt f cs (sum hs)
  guess_is_dealt falls ok =
      let fits : sum hs ≤ sum cs = sum_le hs cs scores.listed (λ k _. within k) in
      let all : min (sum hs) (sum cs) ≡ sum hs = omega arith in
      let first : Foremost f cs hs = λ i j some short. let before = held_before_wanted i j some short in (omega arith, λ _. before) in
      (foremost_only f positive falls).alone (sum hs) cs hs ok (record { count = scores.listed; total = omega arith; within = within }) first ∙ ap (dealt f cs) all
