-- The unit rule by a score that never rises is the one division in which no unit that is still wanted scores higher
-- than one that is held.
use Rattle.std.proofs.Common.{◌≡◌, ℕ, zero, suc, ◌+◌, ◌-◌, ◌<◌, ◌≤◌, min, List, length, get_or, set, Some, None, sum, Option, sym, ap, ◌∙◌, ⊎_elim, arith}
use Rattle.std.proofs.lemmas.List.{get_or-set_same, get_or-set_other}
use Rattle.std.proofs.lemmas.Bool.{cases_eq, cases_lt}
use Rattle.rules.specs.Standards.{Score, Scoring}
use Rattle.rules.specs.Theorems.{Only, NeverRises, last_score, Foremost}
use Rattle.rules.specs.Unit.{Below, NotAbove, next_score, raised, dealt, unit_rule}
use Rattle.rules.proofs.Exchange.{same_unless}
use Rattle.rules.specs.Fractions.{below_trans, not_above_trans}
use Rattle.rules.specs.Lists.{get_or_zeros}
use Rattle.rules.specs.Picks.{FirstOf, in_list}
use Rattle.rules.specs.UnitLaws.{next_pick, next_first, length_dealt, unit_laws}

module _ (f : Scoring) (positive : (creditor claim held : ℕ) → 1 ≤ (f creditor claim held).1) (falls : NeverRises f) (cs : List ℕ) where
  -- one unit more, for the creditor that comes first, keeps the order of scores
  raised_foremost : (hs : List ℕ) (o : Option ℕ) → length hs ≡ length cs → FirstOf f cs hs (length cs) o → Foremost f cs hs → Foremost f cs (raised hs o)
  raised_foremost hs None same first before i j held short = before i j held short
  raised_foremost hs (Some b) same (lt, wants, highest, earliest) before i j held short =
      let v : ℕ = get_or hs b 0 + 1 in
      let new : List ℕ = set hs b v in
      let at_b : get_or new b 0 ≡ v = get_or-set_same hs b v 0 (omega arith) in
      let in-j : j < length cs = in_list cs j (omega arith) in
      let still : (j ≡ b → ⊥) → get_or hs j 0 < get_or cs j 0 = λ ne. omega (arith, get_or-set_other hs b j v 0 ne) in
      let top : Score = next_score f cs hs b in
      let i-last : Score = last_score f cs new i in
      let j-next : Score = next_score f cs new j in
      -- the last unit of i is the one that b got, or an older one
      let last-same : i ≡ b → i-last ≡ top =
      λ ib.
      let held-now : get_or new i 0 - 1 ≡ get_or hs b 0 = omega (arith, ap (λ k. get_or new k 0) ib) in
      ap (λ h. f i (get_or cs i 0) h) held-now ∙ ap (λ k. f k (get_or cs k 0) (get_or hs b 0)) ib in
      let next-other : (j ≡ b → ⊥) → j-next ≡ next_score f cs hs j = λ ne. ap (λ h. f j (get_or cs j 0) h) (get_or-set_other hs b j v 0 ne) in
      let next-same : j ≡ b → NotAbove j-next top =
      λ jb.
      let held-now : get_or new j 0 ≡ v = ap (λ k. get_or new k 0) jb ∙ at_b in
      let is : j-next ≡ f b (get_or cs b 0) v = ap (λ h. f j (get_or cs j 0) h) held-now ∙ ap (λ k. f k (get_or cs k 0) v) jb in
      rw is (falls b (get_or cs b 0) (get_or hs b 0) v (omega arith) (omega (arith, ap (λ k. get_or cs k 0) jb))) in
      let Goal : Type 0 = NotAbove j-next i-last × (j < i → Below j-next i-last) in
      let at_i : i ≡ b → Goal =
      λ ib.
      rw (last-same ib)
      (⊎_elim
      (λ jb. (next-same jb, λ less. absurd (omega arith)))
      (λ ne. rw (next-other ne) (highest j in-j (still ne), λ less. earliest j (omega arith) (still ne)))
      (cases_eq j b)) in
      let past-i : (i ≡ b → ⊥) → Goal =
      λ ne.
      let same-i : get_or new i 0 ≡ get_or hs i 0 = get_or-set_other hs b i v 0 ne in
      let is : i-last ≡ last_score f cs hs i = ap (λ h. f i (get_or cs i 0) (h - 1)) same-i in
      rw is
      (⊎_elim
      (λ jb.
      let older = before i b (omega arith) wants in (
        not_above_trans j-next top (last_score f cs hs i) (positive _ _ _) (next-same jb) older.0,
        λ less. below_trans j-next top (last_score f cs hs i) (positive _ _ _) (next-same jb) (older.1 (omega arith)),
      ))
      (λ nj. rw (next-other nj) (before i j (omega arith) (still nj)))
      (cases_eq j b)) in
      ⊎_elim at_i past-i (cases_eq i b)

  dealt_foremost : (n : ℕ) → Foremost f cs (dealt f cs n)
  dealt_foremost zero i j held short = absurd (omega (arith, get_or_zeros (length cs) i))
  dealt_foremost (suc n) i j held short =
      raised_foremost (dealt f cs n) (next_pick f positive cs n) (length_dealt f positive cs n) (next_first f positive cs n) (dealt_foremost n) i j held short

  -- of two such divisions neither gives a creditor more: its last unit there would score as high as its next one here
  never_both :
      (bs hs : List ℕ) → ((k : ℕ) → get_or bs k 0 ≤ get_or cs k 0) → ((k : ℕ) → get_or hs k 0 ≤ get_or cs k 0) → Foremost f cs bs → Foremost f cs hs →
      (i j : ℕ) → get_or bs i 0 < get_or hs i 0 → get_or hs j 0 < get_or bs j 0 → ⊥
  never_both bs hs within_b within-h first-b first-h i j more less =
      let i-next : Score = next_score f cs bs i in
      let i-last : Score = last_score f cs hs i in
      let j-next : Score = next_score f cs hs j in
      let j-last : Score = last_score f cs bs j in
      let over-i : NotAbove i-last i-next = falls i (get_or cs i 0) (get_or bs i 0) (get_or hs i 0 - 1) (omega arith) (omega (arith, within-h i)) in
      let over-j : NotAbove j-last j-next = falls j (get_or cs j 0) (get_or hs j 0) (get_or bs j 0 - 1) (omega arith) (omega (arith, within_b j)) in
      let h-ahead = first-h i j (omega arith) (omega (arith, within_b j)) in
      let b-ahead = first-b j i (omega arith) (omega (arith, within-h i)) in
      let there : NotAbove j-next i-next = not_above_trans j-next i-last i-next (positive _ _ _) h-ahead.0 over-i in
      let back : NotAbove i-next j-next = not_above_trans i-next j-last j-next (positive _ _ _) b-ahead.0 over-j in
      ⊎_elim
      (λ is. omega (arith, ap (λ k. get_or bs k 0) is, ap (λ k. get_or hs k 0) is))
      (λ ne.
      ⊎_elim
      (λ lt.
      let up : Below i-next j-last = b-ahead.1 lt in
      let down : Below j-next j-last = below_trans j-next i-next j-last (positive _ _ _) there up in
      omega arith)
      (λ le.
      let up : Below j-next i-last = h-ahead.1 (omega arith) in
      let down : Below i-next i-last = below_trans i-next j-next i-last (positive _ _ _) back up in
      omega arith)
      (cases_lt i j))
      (cases_eq i j)

pub foremost_only : (f : Scoring) → ((creditor claim held : ℕ) → 1 ≤ (f creditor claim held).1) → NeverRises f → Only (unit_rule f) (Foremost f)
foremost_only f positive falls =
    let laws = unit_laws f positive in
    record {
      holds = λ e cs ok. dealt_foremost f positive falls cs (min e (sum cs));
      alone = λ e cs hs ok d first.
          sym (same_unless (unit_rule f e cs) hs (laws.count e cs ok ∙ sym d.count) (laws.total e cs ok ∙ sym d.total)
          (never_both f positive falls cs (unit_rule f e cs) hs (laws.within e cs ok) d.within (dealt_foremost f positive falls cs (min e (sum cs))) first));
    }
