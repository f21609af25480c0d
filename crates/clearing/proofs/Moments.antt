-- What holds of payments that keep the invariant: the promises of each moment of a life, and of equal networks.
use Rattle.std.proofs.Common.{◌≡◌, ℕ, zero, suc, ◌<◌, ◌≤◌, Bool, true, false, cond, ltb, Some, None, Decides, Option, sym, refl, ap, ◌∙◌, ap₂, inl, inr, le_of_eq, arith}
use Rattle.std.proofs.lemmas.Bool.{or_parts, or_from, cases_Bool, cases_lt, both_ways}
use Rattle.clearing.specs.Networks.{Network, Division, Payments, LawfulDivision, Equal, SomeBelow, Clearing, Least, total, any, owed, estate, outlay, cash, due}
use Rattle.clearing.specs.Settling.{first, or_else, nothing, settle, would_pay, rounds}
use Rattle.clearing.specs.Promises.{Sound, Tracked, LeastExists}
use Rattle.clearing.proofs.Totals.{any_decides, total_le, total_eq, total_add, total_swap, total_sub}
use Rattle.clearing.proofs.Growth.{Covers, Good, good_nothing, settle_grows}
use Rattle.clearing.proofs.Closing.{moved_decides, settle_own, rest_clears, comes_to_rest, close_least}

-- `first` answers none just where none passes
none_parts : (n : ℕ) (o : Option ℕ) (b : Bool) → or_else o (cond b (Some n) None) ≡ None → (o ≡ None) × (b ≡ false)
none_parts n (Some k) b e = let z : ◌≡◌ {A = ℕ} 0 1 = cc in absurd (omega arith)
none_parts n None true e = let z : ◌≡◌ {A = ℕ} 0 1 = cc in absurd (omega arith)
none_parts n None false e = (refl, refl)

pub first_none : (test : ℕ → Bool) (n : ℕ) → first n test ≡ None → any n test ≡ false
first_none test zero e = refl
first_none test (suc n) e =
    let p = none_parts n (first n test) (test n) e in
    or_from (test n) (any n test) p.1 (first_none test n p.0)

pub none_first : (test : ℕ → Bool) (n : ℕ) → any n test ≡ false → first n test ≡ None
none_first test zero e = refl
none_first test (suc n) e =
    let p = or_parts (test n) (any n test) e in
    let q = none_first test n p.1 in
    let here = p.0 in
    cc

-- none before n passes where none of them is found
none_before : (test : ℕ → Bool) (n : ℕ) → any n test ≡ false → (m : ℕ) → m < n → test m ≡ false
none_before test n e m l =
    elim (cases_Bool (test m)) [
      | inl t ↦ absurd (both_ways (any n test) e ((any_decides test (λ k. test k ≡ true) (λ k. (λ h. h, λ h. h)) n).1 (m, l, t)))
      | inr t ↦ t
    ]

-- `first` answers the lowest
pub record Lowest (test : ℕ → Bool) (n k : ℕ) : Type 0 where
  pub within : k < n
  pub passes : test k ≡ true
  pub lowest : (m : ℕ) → m < k → test m ≡ false

pub first_some : (test : ℕ → Bool) (n k : ℕ) → first n test ≡ Some k → Lowest test n k
first_some test zero k e = let z : ◌≡◌ {A = ℕ} 0 1 = cc in absurd (omega arith)
first_some test (suc n) k e = go (first n test) (test n) (first_some test n k) refl refl e
  where
    go : (o : Option ℕ) (b : Bool) → (first n test ≡ Some k → Lowest test n k) → first n test ≡ o → test n ≡ b → or_else o (cond b (Some n) None) ≡ Some k → Lowest test (suc n) k
    go (Some j) b ih p q f = let h = ih (p ∙ f) in record { within = omega (arith, h.within); passes = h.passes; lowest = h.lowest }
    go None false ih p q f = let z : ◌≡◌ {A = ℕ} 0 1 = cc in absurd (omega arith)
    go None true ih p q f =
        let same : n ≡ k = cc in
        record { within = omega arith; passes = rw same at q; lowest = λ m l. none_before test n (first_none test n p) m (omega arith) }

module _ (N : Network) (D : Division) (law : LawfulDivision N D) where
  pub solvent_at : (P : Payments) → Good N D P → (i : ℕ) → i < N.members → outlay N P i ≤ estate N P i
  solvent_at P g i a = omega (arith, total_le N.members (P i) (due N D P i) (λ j b. g.within i j a b), law.exhausts i (estate N P i) a)

  -- cash moves, and none is made or lost
  pub conserved_at : (P : Payments) → ((i : ℕ) → i < N.members → outlay N P i ≤ estate N P i) → total N.members (cash N P) ≡ total N.members N.endowment
  conserved_at P h =
      let n = N.members in
      omega (arith, total_sub n (estate N P) (outlay N P) h, total_add n N.endowment (λ i. total n (λ k. P k i)), total_swap n n P)

  module _ (L : Payments) (l : Least N D L) where
    least_covers : Covers N D L
    least_covers i j a b = le_of_eq (sym (l.clearing i j a b))

    pub sound_at : (P : Payments) → Good N D P → Sound N L P
    sound_at P g = record { below = g.under L least_covers; solvent = solvent_at P g; conserved = conserved_at P (solvent_at P g) }

    payer : (P : Payments) → Decides (any N.members (would_pay N D P)) ((m : ℕ) × (m < N.members) × (would_pay N D P m ≡ true))
    payer P = any_decides (would_pay N D P) (λ m. would_pay N D P m ≡ true) (λ m. (λ e. e, λ e. e)) N.members

    pays_below : (P : Payments) → Good N D P → (m : ℕ) × (m < N.members) × (would_pay N D P m ≡ true) → SomeBelow N P L
    pays_below P g w =
        let up = settle_grows N D law P w.0 g in
        let v = (moved_decides N P (settle N D P w.0)).0 w.2 in
        let i = v.0 in
        let j = v.2.0 in
        let a = v.1 in
        let b = v.2.1 in
        (i, j, a, b, omega (arith, v.2.2, up.more i j a b, up.good.under L least_covers i j a b))

    -- where nobody's settle would pay, the payments are the least clearing ones
    idle : (P : Payments) → Good N D P → any N.members (would_pay N D P) ≡ false → SomeBelow N P L → ⊥
    idle P g e s = omega (arith, s.4, l.least P (rest_clears N D law P g covers) s.0 s.1 s.2 s.3)
      where
        covers : Covers N D P
        covers i j a b =
            elim (cases_lt (P i j) (due N D P i j)) [
              | inl t ↦ absurd (both_ways (any N.members (would_pay N D P)) e
                  ((payer P).1 (i, a, (moved_decides N P (settle N D P i)).1 (i, a, (j, b, λ q. omega (arith, settle_own N D law P i j g a))))))
              | inr t ↦ t
            ]

    pub tracked_at : (P : Payments) → Good N D P → Tracked N D L P
    tracked_at P g =
        record {
          payable = (pays_below P g, λ s. elim (cases_Bool (any N.members (would_pay N D P))) [ inl e ↦ (payer P).0 e | inr e ↦ absurd (idle P g e s) ]);
          answer = (
            λ e. idle P g (first_none (would_pay N D P) N.members e),
            λ h. elim (cases_Bool (any N.members (would_pay N D P))) [ inl e ↦ absurd (h (pays_below P g ((payer P).0 e))) | inr e ↦ none_first (would_pay N D P) N.members e ],
          );
        }

pub total_same : (n m : ℕ) → n ≡ m → (f g : ℕ → ℕ) → ((k : ℕ) → k < n → f k ≡ g k) → total n f ≡ total m g
total_same n m e f g h = total_eq n f g h ∙ ap (λ k. total k g) e

-- two networks with equal contents, divided alike
pub record Same (N N' : Network) (D D' : Division) : Type 0 where
  pub members : N.members ≡ N'.members
  pub endowments : (i : ℕ) → i < N.members → N.endowment i ≡ N'.endowment i
  pub claims : (i j : ℕ) → i < N.members → j < N.members → N.claim i j ≡ N'.claim i j
  pub awards : (i E j : ℕ) → i < N.members → j < N.members → D i E j ≡ D' i E j

-- equal outcomes
pub record Alike (N N' : Network) (P P' : Payments) : Type 0 where
  pub payments : Equal N P P'
  pub equities : (i : ℕ) → i < N.members → cash N P i ≡ cash N' P' i
  pub defaults : (i : ℕ) → i < N.members → ltb (outlay N P i) (owed N i) ≡ ltb (outlay N' P' i) (owed N' i)

module _ (N N' : Network) (D D' : Division) (s : Same N N' D D') where
  estate_same : (P P' : Payments) → Equal N P P' → (i : ℕ) → i < N.members → estate N P i ≡ estate N' P' i
  estate_same P P' e i a = omega (arith, s.endowments i a, total_same N.members N'.members s.members (λ k. P k i) (λ k. P' k i) (λ k b. e k i b a))

  clearing_same : (Q : Payments) → Clearing N D Q → Clearing N' D' Q
  clearing_same Q c i j a b =
      let a' : i < N.members = omega (arith, s.members) in
      let b' : j < N.members = omega (arith, s.members) in
      c i j a' b' ∙ s.awards i (estate N Q i) j a' b' ∙ ap (λ E. D' i E j) (estate_same Q Q (λ _ _ _ _. refl) i a')

  pub alike_at : (L P P' : Payments) → Equal N P L → Equal N' P' L → Alike N N' P P'
  alike_at L P P' e e' =
      record {
        payments = same;
        equities = λ i a. omega (arith, estate_same P P' same i a, outlays i a);
        defaults = λ i a. ap₂ ltb (outlays i a) (owing i a);
      }
    where
      same : Equal N P P'
      same i j a b = e i j a b ∙ sym (e' i j (omega (arith, s.members)) (omega (arith, s.members)))

      outlays : (i : ℕ) → i < N.members → outlay N P i ≡ outlay N' P' i
      outlays i a = total_same N.members N'.members s.members (P i) (P' i) (λ k b. same i k a b)

      owing : (i : ℕ) → i < N.members → owed N i ≡ owed N' i
      owing i a = total_same N.members N'.members s.members (N.claim i) (N'.claim i) (λ k b. s.claims i k a b)

same_back : (N N' : Network) (D D' : Division) → Same N N' D D' → Same N' N D' D
same_back N N' D D' s =
    record {
      members = sym s.members;
      endowments = λ i a. sym (s.endowments i (omega (arith, s.members)));
      claims = λ i j a b. sym (s.claims i j (omega (arith, s.members)) (omega (arith, s.members)));
      awards = λ i E j a b. sym (s.awards i E j (omega (arith, s.members)) (omega (arith, s.members)));
    }

pub least_same : (N N' : Network) (D D' : Division) → Same N N' D D' → (L : Payments) → Least N D L → Least N' D' L
least_same N N' D D' s L l =
    record {
      clearing = clearing_same N N' D D' s L l.clearing;
      least = λ Q q i j a b. l.least Q (clearing_same N' N D' D (same_back N N' D D' s) Q q) i j (omega (arith, s.members)) (omega (arith, s.members));
    }

pub least_exists : LeastExists
least_exists N D law =
    let start = good_nothing N D law in
    let end = comes_to_rest N D law nothing start in (rounds N D end.0 nothing, close_least N D law nothing start end.0 end.1)
