-- The settled examples of books.
use Rattle.std.proofs.Common.{◌≡◌, ℕ, zero, suc, ◌+◌, ◌-◌, ◌<◌, ◌≤◌, Bool, true, false, ◌||◌, ltb, leb, List, [], ◌∷◌, length, get_or, Some, None, Ok, sym, refl, ap, ◌∙◌, ap₂, arith}
use Rattle.std.proofs.lemmas.List.{ext_get_or}
use Rattle.std.proofs.lemmas.Bool.{cond-true, cond-false, le-ltb, lt-ltb}
use Rattle.network.specs.declared.draft.Draft.{Draft}
use Rattle.network.specs.declared.fault.Cause.TheVariants.{AboveDue, Receded}
use Rattle.network.specs.declared.fault.Layer.TheVariants.{Book as BookLayer}
use Rattle.network.specs.declared.figures.Figures.{Figures}
use Rattle.network.specs.declared.figures.Member.{Member}
use Rattle.network.specs.Entries.{claim_at}
use Rattle.network.specs.Faults.{of_member, of_pair}
use Rattle.rules.specs.Examples.{Examples as RuleExamples}
use Rattle.rules.specs.Priority.{priority}
use Rattle.rules.specs.PriorityLaws.{priority_laws}
use Rattle.clearing.specs.Networks.{Network, Division, Payments, LawfulDivision, Clearing, total, any, owed, estate, outlay}
use Rattle.clearing.specs.Settling.{nothing}
use Rattle.clearing.proofs.Totals.{any_decides, total_none, total_parts}
use Rattle.clearing.proofs.Moments.{total_same}
use Rattle.clearing.proofs.Respects.{any_eq}
use Rattle.book.specs.Tables.{cells, network_of}
use Rattle.book.specs.Rulebooks.{Meaning, LawfulMeaning, claims_on, division}
use Rattle.book.specs.Views.{payments_of, due_of, receded_in}
use Rattle.book.specs.Calls.{Opens, Settles, pay_fault, settle_fault}
use Rattle.book.specs.Examples.{Holds, by_priority, by_dual, Examples}
use Rattle.book.specs.declared.book.Book.{Book}
use Rattle.book.specs.declared.sheet.Sheet.{Sheet}
use Rattle.book.proofs.Lawful.{claims_length, claims_at, division_lawful}
use Rattle.book.proofs.Order.{Outcome, outcome}

module _ (N : Network) (D : Division) (law : LawfulDivision N D) where
  -- nothing clears where nobody has anything
  nothing_clears : ((i : ℕ) → i < N.members → N.endowment i ≡ 0) → Clearing N D nothing
  nothing_clears poor i j a b =
      let E = estate N nothing i in
      let none : E ≡ 0 = omega (arith, poor i a, total_none N.members) in
      total_parts N.members (λ _. 0) (D i E) (λ k _. omega arith) (total_none N.members ∙ sym (omega (arith, law.exhausts i E a, none))) j b

  -- the claims clear where they are enough to be paid
  claims_clear : ((i : ℕ) → i < N.members → owed N i ≤ estate N N.claim i) → Clearing N D N.claim
  claims_clear rich i j a b =
      let E = estate N N.claim i in
      sym (total_parts N.members (D i E) (N.claim i) (λ k l. law.capped i E k a l) (omega (arith, law.exhausts i E a, rich i a)) j b)

module _ (draft : Draft) (es : List ℕ) (cs : List (List ℕ)) (h : Holds draft es cs) where
  abbrev F : Figures
  F = draft.figures

  abbrev N : Network
  N = network_of draft.figures

  endowed : (i : ℕ) → N.endowment i ≡ get_or es i 0
  endowed i = ap (λ (m : Member). m.endowment) (h.members i)

  owed_is : (i : ℕ) → owed N i ≡ total (length es) (λ j. get_or (get_or cs i []) j 0)
  owed_is i = total_same F.n (length es) h.count (claim_at F i) (λ j. get_or (get_or cs i []) j 0) (λ j _. h.claims_are i j)

  -- what i has, where it is paid what f says
  estate_is : (P : Payments) (i : ℕ) (f : ℕ → ℕ) → ((k : ℕ) → k < F.n → P k i ≡ f k) → estate N P i ≡ get_or es i 0 + total (length es) f
  estate_is P i f paid = ap₂ ◌+◌ (endowed i) (total_same F.n (length es) h.count (λ k. P k i) f paid)

  outlay_is : (P : Payments) (i : ℕ) (f : ℕ → ℕ) → ((k : ℕ) → k < F.n → P i k ≡ f k) → outlay N P i ≡ total (length es) f
  outlay_is P i f paid = total_same F.n (length es) h.count (P i) f paid

  -- i divides its estate over the row of claims, by the rule of house 0
  divides_is : (A : Meaning) (i E j : ℕ) → i < length es → length (get_or cs i []) ≡ length es → division A F i E j ≡ get_or (A 0 E (get_or cs i [])) j 0
  divides_is A i E j l wide =
      let a : i < 32 = omega (arith, h.count, F.few) in
      let row : claims_on F i ≡ get_or cs i [] =
      ext_get_or 0 (claims_on F i) (get_or cs i []) (claims_length F i a ∙ h.count ∙ sym wide)
      (λ k b. claims_at F i a k (omega (arith, claims_length F i a)) ∙ h.claims_are i k) in
      ap (λ x. get_or (A x E (claims_on F i)) j 0) (ap (λ (m : Member). m.house) (h.members i)) ∙ ap (λ xs. get_or (A 0 E xs) j 0) row

lawful : LawfulMeaning by_priority
lawful _ = priority_laws

-- two members with nothing that claim 5 of each other
module _ (draft : Draft) (h : Holds draft (0 ∷ 0 ∷ []) ((0 ∷ 5 ∷ []) ∷ (5 ∷ 0 ∷ []) ∷ [])) where
  abbrev fives : List (List ℕ)
  fives = (0 ∷ 5 ∷ []) ∷ (5 ∷ 0 ∷ []) ∷ []

  abbrev C : Network
  C = network_of draft.figures

  rules : LawfulDivision (network_of draft.figures) (division by_priority draft.figures)
  rules = division_lawful by_priority lawful draft.figures

  poor : (i : ℕ) → i < draft.figures.n → C.endowment i ≡ 0
  poor zero a = endowed draft (0 ∷ 0 ∷ []) fives h 0
  poor (suc zero) a = endowed draft (0 ∷ 0 ∷ []) fives h 1
  poor (suc (suc i)) a = absurd (omega (arith, h.count))

  rich : (i : ℕ) → i < draft.figures.n → owed C i ≤ estate C C.claim i
  rich zero a = omega (arith, owed_is draft (0 ∷ 0 ∷ []) fives h 0, estate_is draft (0 ∷ 0 ∷ []) fives h C.claim 0 (λ k. get_or (get_or fives k []) 0 0) (λ k _. h.claims_are k 0))
  rich (suc zero) a = omega (arith, owed_is draft (0 ∷ 0 ∷ []) fives h 1, estate_is draft (0 ∷ 0 ∷ []) fives h C.claim 1 (λ k. get_or (get_or fives k []) 1 0) (λ k _. h.claims_are k 1))
  rich (suc (suc i)) a = absurd (omega (arith, h.count))

  pub fives_clear : Clearing (network_of draft.figures) (division by_priority draft.figures) (claim_at draft.figures)
  fives_clear = claims_clear C (division by_priority draft.figures) rules rich

  module _ (S : Sheet) (end : Outcome by_priority draft S) where
    abbrev L : Payments
    L = cells S.paid

    none_paid : (i j : ℕ) → i < draft.figures.n → j < draft.figures.n → L i j ≡ 0
    none_paid i j a b = omega (arith, end.least.least nothing (nothing_clears C (division by_priority draft.figures) rules poor) i j a b)

    in_default : (i : ℕ) → i < draft.figures.n → owed C i ≡ 5 → get_or S.defaults i false ≡ true
    in_default i a all =
        end.defaults i ∙ lt-ltb (outlay C L i) (owed C i)
        (omega (arith, all, outlay_is draft (0 ∷ 0 ∷ []) fives h L i (λ _. 0) (λ k b. none_paid i k a b)))

    pub circle_holds : (L 0 1 ≡ 0) × (L 1 0 ≡ 0) × (get_or S.defaults 0 false ≡ true) × (get_or S.defaults 1 false ≡ true)
    circle_holds =
        let first : 0 < draft.figures.n = omega (arith, h.count) in
        let second : 1 < draft.figures.n = omega (arith, h.count) in
        (none_paid 0 1 first second, none_paid 1 0 second first, in_default 0 first (owed_is draft (0 ∷ 0 ∷ []) fives h 0), in_default 1 second (owed_is draft (0 ∷ 0 ∷ []) fives h 1))

-- member 0 has e and owes 3 to member 1
module _ (e : ℕ) (draft : Draft) (h : Holds draft (e ∷ 0 ∷ []) ((0 ∷ 3 ∷ []) ∷ (0 ∷ 0 ∷ []) ∷ [])) (S : Sheet) (end : Outcome by_priority draft S) where
  abbrev threes : List (List ℕ)
  threes = (0 ∷ 3 ∷ []) ∷ (0 ∷ 0 ∷ []) ∷ []

  abbrev T : Network
  T = network_of draft.figures

  abbrev Q : Payments
  Q = cells S.paid

  unclaimed : (k : ℕ) → k < draft.figures.n → Q k 0 ≡ 0
  unclaimed zero a = omega (arith, end.within 0 0, h.claims_are 0 0)
  unclaimed (suc zero) a = omega (arith, end.within 1 0, h.claims_are 1 0)
  unclaimed (suc (suc k)) a = absurd (omega (arith, h.count))

  has : estate T Q 0 ≡ e
  has = omega (arith, estate_is draft (e ∷ 0 ∷ []) threes h Q 0 (λ _. 0) unclaimed)

  pub pays : Q 0 1 ≡ get_or (priority e (0 ∷ 3 ∷ [])) 1 0
  pays =
      end.least.clearing 0 1 (omega (arith, h.count)) (omega (arith, h.count))
      ∙ ap (λ E. division by_priority draft.figures 0 E 1) has ∙ divides_is draft (e ∷ 0 ∷ []) threes h by_priority 0 e 1 (omega arith) refl

  pub spends : outlay T Q 0 ≡ Q 0 1
  spends = omega (arith, outlay_is draft (e ∷ 0 ∷ []) threes h Q 0 (Q 0) (λ _ _. refl), unclaimed 0 (omega (arith, h.count)))

  pub keeps : get_or S.equities 0 0 ≡ e - Q 0 1
  keeps = end.equities 0 ∙ ap₂ ◌-◌ has spends

  pub fails : get_or S.defaults 0 false ≡ ltb (Q 0 1) 3
  fails = end.defaults 0 ∙ ap₂ ltb spends (owed_is draft (e ∷ 0 ∷ []) threes h 0)

-- a payment before any call
module _ (draft : Draft) (A : Meaning) (house : A 0 ≡ priority)
    (h : Holds draft (2 ∷ 0 ∷ 1 ∷ []) ((0 ∷ 4 ∷ 2 ∷ []) ∷ (1 ∷ 0 ∷ 5 ∷ []) ∷ (5 ∷ 0 ∷ 0 ∷ []) ∷ [])) (B : Book) (o : Opens draft B) where
  abbrev worked : List (List ℕ)
  worked = (0 ∷ 4 ∷ 2 ∷ []) ∷ (1 ∷ 0 ∷ 5 ∷ []) ∷ (5 ∷ 0 ∷ 0 ∷ []) ∷ []

  three : B.figures.n ≡ 3
  three = ap (λ (X : Figures). X.n) o.figures ∙ h.count

  two_due : due_of A B 0 1 ≡ 2
  two_due =
      ap (λ (X : Figures). division A X 0 (estate (network_of X) (payments_of B) 0) 1) o.figures
      ∙ ap (λ E. division A draft.figures 0 E 1) (estate_is draft (2 ∷ 0 ∷ 1 ∷ []) worked h (payments_of B) 0 (λ _. 0) (λ k _. o.payments k 0))
      ∙ divides_is draft (2 ∷ 0 ∷ 1 ∷ []) worked h A 0 2 1 (omega arith) refl ∙ ap (λ f. get_or (f 2 (0 ∷ 4 ∷ 2 ∷ [])) 1 0) house

  steady : receded_in A B 0 ≡ false
  steady =
      any_eq B.figures.n (λ j. ltb (due_of A B 0 j) (payments_of B 0 j)) (λ _. false) (λ j _. le-ltb (due_of A B 0 j) (payments_of B 0 j) (omega (arith, o.payments 0 j)))
      ∙ ap (λ n. any n (λ _. false)) three

  known : (leb B.figures.n 0 || leb B.figures.n 1) ≡ false
  known = ap (λ n. leb n 0 || leb n 1) three

  left : due_of A B 0 1 - payments_of B 0 1 ≡ 2
  left = ap₂ ◌-◌ two_due (o.payments 0 1)

  pub two_accepted : pay_fault A B 0 1 2 ≡ None
  two_accepted =
      cond-false (leb B.figures.n 0 || leb B.figures.n 1) _ _ known ∙ cond-false (receded_in A B 0) _ _ steady
      ∙ cond-false (ltb (due_of A B 0 1 - payments_of B 0 1) 2) _ _ (ap (λ x. ltb x 2) left)

  pub three_refused : pay_fault A B 0 1 3 ≡ Some (of_pair BookLayer AboveDue 0 1)
  three_refused =
      cond-false (leb B.figures.n 0 || leb B.figures.n 1) _ _ known ∙ cond-false (receded_in A B 0) _ _ steady
      ∙ cond-true (ltb (due_of A B 0 1 - payments_of B 0 1) 3) _ _ (ap (λ x. ltb x 3) left)

-- settled under one rulebook, asked under another
module _ (draft : Draft) (h : Holds draft (1 ∷ 0 ∷ 0 ∷ []) ((0 ∷ 1 ∷ 1 ∷ []) ∷ (0 ∷ 0 ∷ 0 ∷ []) ∷ (0 ∷ 0 ∷ 0 ∷ []) ∷ []))
    (B B' : Book) (units : ℕ) (o : Opens draft B) (s : Settles by_priority B 0 (Ok units) B') where
  abbrev ones : List (List ℕ)
  ones = (0 ∷ 1 ∷ 1 ∷ []) ∷ (0 ∷ 0 ∷ 0 ∷ []) ∷ (0 ∷ 0 ∷ 0 ∷ []) ∷ []

  same : B'.figures ≡ draft.figures
  same = s.1.figures ∙ o.figures

  three_members : B'.figures.n ≡ 3
  three_members = ap (λ (X : Figures). X.n) same ∙ h.count

  -- under priority it has paid its unit to member 1
  one_paid : payments_of B' 0 1 ≡ 1
  one_paid =
      s.1.payments 0 1 (omega (arith, three_members, ap (λ (X : Figures). X.n) s.1.figures)) (omega (arith, three_members, ap (λ (X : Figures). X.n) s.1.figures))
      ∙ ap (λ (X : Figures). division by_priority X 0 (estate (network_of X) (payments_of B) 0) 1) o.figures
      ∙ ap (λ E. division by_priority draft.figures 0 E 1) (estate_is draft (1 ∷ 0 ∷ 0 ∷ []) ones h (payments_of B) 0 (λ _. 0) (λ k _. o.payments k 0))
      ∙ divides_is draft (1 ∷ 0 ∷ 0 ∷ []) ones h by_priority 0 1 1 (omega arith) refl

  unpaid : (k : ℕ) → k < draft.figures.n → payments_of B' k 0 ≡ 0
  unpaid k a = omega (arith, B'.capped k 0, ap (λ (X : Figures). claim_at X k 0) same, owes_none k)
    where
      owes_none : (k : ℕ) → claim_at draft.figures k 0 ≡ 0
      owes_none zero = h.claims_are 0 0
      owes_none (suc zero) = h.claims_are 1 0
      owes_none (suc (suc zero)) = h.claims_are 2 0
      owes_none (suc (suc (suc k))) = h.claims_are (suc (suc (suc k))) 0

  -- of which the dual of equal awards gives it none
  none_due : due_of by_dual B' 0 1 ≡ 0
  none_due =
      ap (λ (X : Figures). division by_dual X 0 (estate (network_of X) (payments_of B') 0) 1) same
      ∙ ap (λ E. division by_dual draft.figures 0 E 1) (estate_is draft (1 ∷ 0 ∷ 0 ∷ []) ones h (payments_of B') 0 (λ _. 0) unpaid)
      ∙ divides_is draft (1 ∷ 0 ∷ 0 ∷ []) ones h by_dual 0 1 1 (omega arith) refl

  pub recedes : settle_fault by_dual B' 0 ≡ Some (of_member BookLayer Receded 0)
  recedes =
      let test : ℕ → Bool = λ j. ltb (due_of by_dual B' 0 j) (payments_of B' 0 j) in
      let over : test 1 ≡ true = ap₂ ltb none_due one_paid in
      cond-false (leb B'.figures.n 0) _ _ (ap (λ n. leb n 0) three_members)
      ∙ cond-true (receded_in by_dual B' 0) _ _ ((any_decides test (λ j. test j ≡ true) (λ j. (λ e. e, λ e. e)) B'.figures.n).1 (1, omega (arith, three_members), over))

pub examples : RuleExamples → Examples
examples told =
    record {
      rules = told;
      circle = λ draft h. (λ tasks S life. circle_holds draft h S (outcome by_priority lawful draft tasks S life), fives_clear draft h);
      enough = λ draft h tasks S life.
          (let end = outcome by_priority lawful draft tasks S life in
          let paid = pays 3 draft h S end in
          (paid, keeps 3 draft h S end ∙ ap (λ x. 3 - x) paid, fails 3 draft h S end ∙ ap (λ x. ltb x 3) paid));
      short = λ draft h tasks S life.
          (let end = outcome by_priority lawful draft tasks S life in
          let paid = pays 2 draft h S end in
          (paid, fails 2 draft h S end ∙ ap (λ x. ltb x 3) paid));
      first_payment = λ draft A house h B o. (two_accepted draft A house h B o, three_refused draft A house h B o);
      two_rulebooks = λ draft h B B' units o s. recedes draft h B B' units o s;
    }
