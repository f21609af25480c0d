-- Handing out units by kept scores is handing them out by the standard.
use Rattle.std.proofs.Common.{◌≡◌, ℕ, zero, suc, ◌+◌, ◌-◌, ◌*◌, ◌<◌, ◌≤◌, Bool, true, false, cond, ltb, List, length, get_or, set, take, drop, All, position, Some, None, Option, sym, refl, ap, ◌∙◌, ap₂, inl, inr, add-one, arith, length-drop, length-take}
use Rattle.std.proofs.lemmas.List.{length-set, get_or-drop, get_or-take, get_or-set_same, get_or-set_other}
use Rattle.std.proofs.lemmas.List.Elements.{All-from_get_or}
use Rattle.std.proofs.lemmas.List.Quantifiers.{position-Some}
use Rattle.std.proofs.lemmas.List.Sums.{fails_before_first}
use Rattle.std.proofs.lemmas.Slice.Zip.{length-zip, get_or-zip}
use Rattle.std.proofs.lemmas.Bool.{cases_eq, cases_lt, cond_both, cond-true, cond-false, le-ltb, lt-ltb, ltb-true, ltb-false}
use Rattle.std.specs.List.{position_or_len, zip}
use Rattle.rules.specs.Kept.{Answers, Heads, Small, Underway, head}
use Rattle.rules.specs.Standards.{Score, Scoring}
use Rattle.rules.specs.Unit.{above, better, contended, dealt, next_score, picked, raised}

-- where `position` finds none, none passes
position-None : {X : Type 0} → (p : X → Bool) (xs : List X) (d : X) → position p xs ≡ None → (k : ℕ) → k < length xs → p (get_or xs k d) ≡ false
position-None p xs d is k lt = elim (cases_lt (position_or_len p xs) (length xs)) [
  | inl found ↦
      let some : position p xs ≡ Some (position_or_len p xs) = cond-true _ (Some (position_or_len p xs)) None (lt-ltb _ _ found) in
      let no : ⊥ = cc in
      absurd no
  | inr past ↦ fails_before_first p xs k d (omega arith)
]

-- creditor b is the best of the first b + 1, and so far of all
pub record Best (f : Scoring) (cs hs : List ℕ) (b : ℕ) : Type 0 where
  pub listed : b < length cs
  pub short : get_or hs b 0 < get_or cs b 0
  pub picked_so : picked f cs hs (b + 1) ≡ Some b

-- the scan for the best: from the first that holds less than its claim, on to the next higher score
module _ (f : Scoring) (cs hs : List ℕ) where
  none_short : (n : ℕ) → ((k : ℕ) → k < n → get_or cs k 0 ≤ get_or hs k 0) → picked f cs hs n ≡ None
  none_short zero full = refl
  none_short (suc n) full =
      ap (λ o. contended f cs hs o n) (none_short n (λ k lt. full k (omega arith))) ∙ cond-false _ (Some n) None (le-ltb _ _ (full n (omega arith)))

  first_is : (j : ℕ) → get_or hs j 0 < get_or cs j 0 → ((k : ℕ) → k < j → get_or cs k 0 ≤ get_or hs k 0) → picked f cs hs (j + 1) ≡ Some j
  first_is j short full =
      ap (picked f cs hs) (add-one j) ∙ ap (λ o. contended f cs hs o j) (none_short j full) ∙ cond-true _ (Some j) None (lt-ltb _ _ short)

  stays : (b m n : ℕ) → m ≤ n → picked f cs hs m ≡ Some b → ((k : ℕ) → m ≤ k → k < n → above (next_score f cs hs k) (next_score f cs hs b) ≡ false) → picked f cs hs n ≡ Some b
  stays b m zero le is low = ap (picked f cs hs) {x = 0} {y = m} (omega arith) ∙ is
  stays b m (suc n) le is low = elim (cases_lt n m) [
    | inl lt ↦ ap (picked f cs hs) {x = suc n} {y = m} (omega arith) ∙ is
    | inr past ↦
        let before = stays b m n past is (λ k from lt. low k from (omega arith)) in
        let wants : Bool = ltb (get_or hs n 0) (get_or cs n 0) in
        ap (λ o. contended f cs hs o n) before ∙ ap (λ (o : Option ℕ). cond wants o (Some b)) (cond-false _ (Some n) (Some b) (low n past (omega arith))) ∙ cond_both wants (Some b) (Some b) (λ o. o ≡ Some b) (λ _. refl) (λ _. refl)
  ]

  passes : (b j : ℕ) → picked f cs hs j ≡ Some b → get_or hs j 0 < get_or cs j 0 → above (next_score f cs hs j) (next_score f cs hs b) ≡ true → picked f cs hs (j + 1) ≡ Some j
  passes b j before short up =
      ap (picked f cs hs) (add-one j) ∙ ap (λ o. contended f cs hs o j) before ∙ cond-true _ (better f cs hs (Some b) j) (Some b) (lt-ltb _ _ short) ∙ cond-true _ (Some j) (Some b) up

-- the same by kept scores
module _ (f : Scoring) (cs hs : List ℕ) (heads : List Score) (h : Heads f cs hs heads) where
  wants_at : (k : ℕ) → k < length cs → get_or (zip cs hs) k (0, 0) ≡ (get_or cs k 0, get_or hs k 0)
  wants_at k lt = get_or-zip cs hs k (0, 0) lt (omega (arith, h.listed))

  pub scan_starts : (j : ℕ) → Some j ≡ position (λ p. ltb p.1 p.0) (zip cs hs) → Best f cs hs j
  scan_starts j is =
      let place = position-Some (λ (p : ℕ × ℕ). ltb p.1 p.0) (zip cs hs) j (0, 0) (sym is) in
      let in_list : j < length cs = omega (arith, place.0, length-zip cs hs, h.listed) in
      let short : get_or hs j 0 < get_or cs j 0 = ltb-true _ _ (rw (wants_at j in_list) at place.1) in
      let full : (k : ℕ) → k < j → get_or cs k 0 ≤ get_or hs k 0 = λ k lt. ltb-false _ _ (rw (wants_at k (omega arith)) at (place.2 k lt)) in
      record { listed = in_list; short = short; picked_so = first_is f cs hs j short full }

  pub scan_none : None ≡ position (λ p. ltb p.1 p.0) (zip cs hs) → picked f cs hs (length cs) ≡ None
  scan_none is =
      none_short f cs hs (length cs)
      (λ k lt. ltb-false _ _ (rw (wants_at k lt) at (position-None (λ (p : ℕ × ℕ). ltb p.1 p.0) (zip cs hs) (0, 0) (sym is) k (omega (arith, length-zip cs hs, h.listed)))))

  -- the scores behind b's
  abbrev tail : ℕ → List Score
  tail b = take (length cs - (b + 1)) (drop (b + 1) heads)

  length-tail : (b : ℕ) → length (tail b) ≡ length cs - (b + 1)
  length-tail b = omega (arith, length-take (length cs - (b + 1)) (drop (b + 1) heads), length-drop (b + 1) heads, h.count)

  at_tail : (b d : ℕ) → b + 1 + d < length cs → get_or (tail b) d (0, 0) ≡ head heads (b + 1 + d)
  at_tail b d lt = get_or-take (length cs - (b + 1)) (drop (b + 1) heads) d (0, 0) (omega arith) ∙ get_or-drop (b + 1) heads d (0, 0)

  behind : (b k : ℕ) → b < k → k < length cs → get_or (tail b) (k - (b + 1)) (0, 0) ≡ head heads k
  behind b k past lt = let is : b + 1 + (k - (b + 1)) ≡ k = omega arith in at_tail b (k - (b + 1)) (omega arith) ∙ ap (head heads) is

  by_standard : (v : Bool) (j b : ℕ) → j < length cs → b < length cs → above (head heads j) (head heads b) ≡ v → above (next_score f cs hs j) (next_score f cs hs b) ≡ v
  by_standard v j b in-j in-b is = sym (ap₂ above (h.next j in-j).is (h.next b in-b).is) ∙ is

  pub front_small : All Small (take (length cs) heads)
  front_small = All-from_get_or Small (take (length cs) heads) (0, 0) (λ i lt. let in_list : i < length cs = omega (arith, length-take (length cs) heads) in rw (get_or-take (length cs) heads i (0, 0) in_list) (h.next i in_list).small)

  pub tail_small : (b : ℕ) → All Small (tail b)
  tail_small b =
      All-from_get_or Small (tail b) (0, 0)
      (λ i lt. let in_list : b + 1 + i < length cs = omega (arith, length-tail b) in rw (at_tail b i in_list) (h.next (b + 1 + i) in_list).small)

  pub scan_goes : (b d : ℕ) → Best f cs hs b → Some d ≡ position (λ p. above p (head heads b)) (tail b) → Best f cs hs (b + (1 + d))
  scan_goes b d best is =
      let j : ℕ = b + (1 + d) in
      let place = position-Some (λ p. above p (head heads b)) (tail b) d (0, 0) (sym is) in
      let in_list : j < length cs = omega (arith, place.0, length-tail b) in
      let there : d ≡ j - (b + 1) = omega arith in
      let up : above (head heads j) (head heads b) ≡ true = rw (← behind b j (omega arith) in_list, ← there) place.1 in
      let low : (k : ℕ) → b < k → k < j → above (head heads k) (head heads b) ≡ false = λ k past lt. rw (← behind b k past (omega arith)) (place.2 (k - (b + 1)) (omega arith)) in
      let higher = ltb-true ((head heads b).0 * (head heads j).1) ((head heads j).0 * (head heads b).1) up in
      let short : get_or hs j 0 < get_or cs j 0 =
      elim (cases_lt (get_or hs j 0) (get_or cs j 0)) [ inl less ↦ less | inr full ↦ absurd (omega (arith, higher, ap (λ x. x * (head heads b).1) ((h.next j in_list).met full))) ] in
      let before = stays f cs hs b (b + 1) j (omega arith) best.picked_so (λ k from less. by_standard false k b (omega arith) best.listed (low k (omega arith) less)) in
      record { listed = in_list; short = short; picked_so = passes f cs hs b j before short (by_standard true j b in_list best.listed up) }

  pub scan_ends : (b : ℕ) → Best f cs hs b → None ≡ position (λ p. above p (head heads b)) (tail b) → picked f cs hs (length cs) ≡ Some b
  scan_ends b best is =
      stays f cs hs b (b + 1) (length cs) (omega (arith, best.listed)) best.picked_so
      (λ k from less.
      let low = position-None (λ p. above p (head heads b)) (tail b) (0, 0) (sym is) (k - (b + 1)) (omega (arith, length-tail b)) in
      by_standard false k b less best.listed (rw (behind b k (omega arith) less) at low))

-- one unit more
module _ (f : Scoring) (cs hs : List ℕ) (heads : List Score) (n : ℕ) (u : Underway f cs n hs heads) where
  held_more : (o : Option ℕ) (next : List ℕ) → o ≡ picked f cs hs (length cs) → next ≡ raised hs o → next ≡ dealt f cs (n + 1)
  held_more o next pick is = rw (add-one, ← u.held, ← pick) is

  -- nobody is left to take it
  pub unit_stays : None ≡ picked f cs hs (length cs) → Underway f cs (n + 1) hs heads
  unit_stays is = record { held = held_more None hs is refl; scores = u.scores }

  -- it goes to creditor j, and the score of j's next unit is asked for
  pub unit_goes :
      (j : ℕ) (next : List ℕ) (s : Score) (scores : List Score) → Some j ≡ picked f cs hs (length cs) → j < length cs →
      next ≡ set hs j (get_or hs j 0 + 1) → Answers f j (get_or cs j 0) (get_or (set hs j (get_or hs j 0 + 1)) j 0) s → scores ≡ set heads j s →
      Underway f cs (n + 1) next scores
  unit_goes j next s scores pick lt raise ask keep =
      let more : ℕ = get_or hs j 0 + 1 in
      record {
        held = held_more (Some j) next pick raise;
        scores = record {
          listed = ap length raise ∙ length-set hs j more ∙ u.scores.listed;
          count = omega (arith, ap length keep, length-set heads j s, u.scores.count);
          next = λ k in_list. elim (cases_eq k j) [
            | inl e ↦ rw (e, keep, raise, get_or-set_same heads j s (0, 0) (omega (arith, u.scores.count))) ask
            | inr ne ↦ rw (keep, raise, get_or-set_other heads j k s (0, 0) ne, get_or-set_other hs j k more 0 ne) (u.scores.next k in_list)
          ];
        };
      }
