-- Which calls are made on a book, and in what order, decides nothing.
use Rattle.std.proofs.Common.{◌≡◌, ℕ, ◌+◌, ◌-◌, ◌<◌, ◌≤◌, Bool, true, false, cond, ◌||◌, eqb, ltb, leb, ◌↔◌, List, get_or, Some, None, Ok, Err, Option, Result, sym, refl, ap, ◌∙◌, subst, inl, inr, le_of_eq, le_antisymm, arith}
use Rattle.std.proofs.lemmas.Bool.{cases_lt, or_parts, ltb-false, leb-false}
use Rattle.std.proofs.lemmas.List.{ext_get_or}
use Rattle.network.specs.declared.fault.Cause.TheVariants.{NoSuchMember, NoUnits, Receded, AboveDue}
use Rattle.network.specs.declared.fault.Layer.TheVariants.{Book as BookLayer}
use Rattle.network.specs.declared.fault.Fault.{Fault}
use Rattle.network.specs.Faults.{of_pair}
use Rattle.network.specs.declared.draft.Draft.{Draft}
use Rattle.network.specs.declared.figures.Figures.{Figures}
use Rattle.network.specs.Entries.{member_at, claim_at}
use Rattle.clearing.specs.Networks.{Network, Division, Payments, LawfulDivision, Least, AtMost, Equal, SomeBelow, units_paid, outlay, owed, cash}
use Rattle.clearing.specs.Settling.{Closes, nothing, moved, paid_more, settled, round, rounds, next}
use Rattle.clearing.proofs.Totals.{total_eq}
use Rattle.clearing.proofs.Growth.{Good, Grown, good_nothing, stay, pay_grows, settled_grows, round_grows, rounds_good}
use Rattle.clearing.proofs.Closing.{paid_step, paid_cap}
use Rattle.clearing.proofs.Moments.{Same, sound_at, tracked_at, alike_at, least_same}
use Rattle.clearing.proofs.Respects.{good_eq}
use Rattle.clearing.proofs.Loops.{under_equal, close_is_least}
use Rattle.book.specs.Tables.{cells, network_of, Capped}
use Rattle.book.specs.Rulebooks.{Meaning, LawfulMeaning, claims_on, division}
use Rattle.book.specs.Views.{net_of, payments_of, division_of, due_of, receded_in, outlay_of, cash_of}
use Rattle.book.specs.Rests.{Rests}
use Rattle.book.specs.Calls.{Opens, Pays, Settles, Ends}
use Rattle.book.specs.Lives.{Step, Works, rest, then, paying, Life, Moment, Promised, EqualDrafts, OrderDecidesNothing}
use Rattle.book.specs.declared.book.Book.{Book}
use Rattle.book.specs.declared.sheet.Sheet.{Sheet}
use Rattle.book.specs.declared.call.Call.{Call}
use Rattle.book.specs.declared.call.Call.TheVariants.{Pay, Settle, Round, Paid, Cash, Due, Next}
use Rattle.book.specs.declared.call.Answer.{Answer}
use Rattle.book.specs.declared.call.Task.{Task}
use Rattle.book.proofs.Lawful.{claims_length, claims_at, division_lawful}
use Rattle.book.proofs.Outside.{claim_past, column_past, cash_past, default_past}

-- four checks none of which refuses
all_pass : (a b c d : Bool) (e f g h : Fault) → cond a (Some e) (cond b (Some f) (cond c (Some g) (cond d (Some h) None))) ≡ None → (a ≡ false) × (d ≡ false)
all_pass true b c d e f g h n = let z : ◌≡◌ {A = ℕ} 0 1 = cc in absurd (omega arith)
all_pass false true c d e f g h n = let z : ◌≡◌ {A = ℕ} 0 1 = cc in absurd (omega arith)
all_pass false false true d e f g h n = let z : ◌≡◌ {A = ℕ} 0 1 = cc in absurd (omega arith)
all_pass false false false true e f g h n = let z : ◌≡◌ {A = ℕ} 0 1 = cc in absurd (omega arith)
all_pass false false false false e f g h n = (refl, refl)

module _ (A : Meaning) (law : LawfulMeaning A) (B B' : Book) where
  abbrev N : Network
  N = net_of B

  abbrev D : Division
  D = division_of A B

  abbrev P : Payments
  P = payments_of B

  lawful : LawfulDivision (net_of B) (division_of A B)
  lawful = division_lawful A law B.figures

  -- an accepted payment leaves room
  pay_room : (d c u x : ℕ) → Good N D P → Pays A B d c u (Ok x) B' → P d c + u ≤ due_of A B d c
  pay_room d c u x g p =
      let n = B.figures.n in
      let left = due_of A B d c - payments_of B d c in
      let pass = all_pass (leb n d || leb n c) (eqb u 0) (receded_in A B d) (ltb left u) (of_pair BookLayer NoSuchMember d c) (of_pair BookLayer NoUnits d c) (of_pair BookLayer Receded d c) (of_pair BookLayer AboveDue d c) p.0 in
      let known = or_parts (leb n d) (leb n c) pass.0 in
      omega (arith, ltb-false left u pass.1, g.within d c (leb-false n d known.0) (leb-false n c known.1))

  to_equal : (X : Payments) → Grown N D P X → Equal N (payments_of B') X → Grown N D P (payments_of B')
  to_equal X up same =
      record {
        good = good_eq N D X (payments_of B') (λ i j a b. sym (same i j a b)) up.good;
        more = under_equal N P (payments_of B') X up.more same;
      }

  -- what a call keeps: the figures, and the invariant of a life
  abbrev Kept : Type 0
  Kept = (B'.figures ≡ B.figures) × Grown N D P (payments_of B')

  unchanged : Good N D P → B' ≡ B → Kept
  unchanged g e = (ap (λ (X : Book). X.figures) e, to_equal P (stay N D lawful P g) (λ i j _ _. ap (λ (X : Book). payments_of X i j) e))

  pay_kept : (d c u : ℕ) (r : Result ℕ Fault) → Good N D P → Pays A B d c u r B' → Kept
  pay_kept d c u (Err e) g p = unchanged g p.1
  pay_kept d c u (Ok x) g p = (p.1.figures, to_equal (paid_more P d c u) (pay_grows N D lawful P d c u g (pay_room d c u x g p)) p.1.payments)

  settle_kept : (m : ℕ) (r : Result ℕ Fault) → Good N D P → Settles A B m r B' → Kept
  settle_kept m (Err e) g s = unchanged g s.1
  settle_kept m (Ok u) g s = (s.1.figures, to_equal (settled N D P m) (settled_grows N D lawful P m g) s.1.payments)

  step_kept : (call : Call) (a : Answer) → Good N D P → Step A B call a B' → Kept
  step_kept (Pay d c u) a g s = pay_kept d c u s.0 g s.2
  step_kept (Settle m) a g s = settle_kept m s.0 g s.2
  step_kept Round a g s = (s.2.figures, to_equal (round N D P) (round_grows N D lawful P g) s.2.payments)
  step_kept (Paid d c) a g s = unchanged g s.3
  step_kept (Cash m) a g s = unchanged g s.3
  step_kept (Due d c) a g s = unchanged g s.3
  step_kept Next a g s = unchanged g s.3

module _ (A : Meaning) (law : LawfulMeaning A) (draft : Draft) where
  abbrev F : Figures
  F = draft.figures

  abbrev M : Network
  M = network_of draft.figures

  abbrev E : Division
  E = division A draft.figures

  rules : LawfulDivision (network_of draft.figures) (division A draft.figures)
  rules = division_lawful A law draft.figures

  -- what tasks keep, k of them having paid
  record Worked (B B'' : Book) (k : ℕ) : Type 0 where
    figures : B''.figures ≡ draft.figures
    good : Good M E (payments_of B'')
    climb : k + units_paid M (payments_of B) ≤ units_paid M (payments_of B'')

  works_kept : {B B'' : Book} {tasks : List Task} (w : Works A B tasks B'') → B.figures ≡ draft.figures → Good M E (payments_of B) → Worked B B'' (paying w)
  works_kept rest e g = record { figures = e; good = g; climb = omega arith }
  works_kept (then {B} {B'} {B''} {task} {tasks} a is s w) e g =
      let P = payments_of B in
      let P' = payments_of B' in
      let here : Good (net_of B) (division_of A B) P = subst (λ (X : Figures). Good (network_of X) (division A X) P) (sym e) g in
      let kept = step_kept A law B B' task.call a here s in
      let up : Grown M E P P' = subst (λ (X : Figures). Grown (network_of X) (division A X) P P') e kept.1 in
      let on = works_kept w (kept.0 ∙ e) up.good in
      let moves : moved (net_of B) P P' ≡ moved M P P' = ap (λ (X : Figures). moved (network_of X) P P') e in
      record {
        figures = on.figures;
        good = on.good;
        climb = omega (arith, on.climb, paid_step M P P' up.more, ap {B = ℕ} (λ t. cond t 1 0) moves);
      }

  opened_good : (B : Book) → Opens draft B → Good M E (payments_of B)
  opened_good B o = good_eq M E nothing (payments_of B) (λ i j _ _. sym (o.payments i j)) (good_nothing M E rules)

  moment_kept : (tasks : List Task) (B : Book) → Moment A draft tasks B → (B.figures ≡ draft.figures) × Good M E (payments_of B)
  moment_kept tasks B m = let w = works_kept m.works m.opens.figures (opened_good m.opened m.opens) in (w.figures, w.good)

  -- a sheet's payments
  record Closed (B : Book) (S : Sheet) : Type 0 where
    figures : S.figures ≡ draft.figures
    least : Least M E (cells S.paid)
    good : Good M E (cells S.paid)
    more : AtMost M (payments_of B) (cells S.paid)

  closed_kept : (B : Book) (S : Sheet) → B.figures ≡ draft.figures → Good M E (payments_of B) → Ends A B S → Closed B S
  closed_kept B S e g s =
      let P = payments_of B in
      let Q = cells S.paid in
      let r = S.rounds in
      let rests : Closes M E P r = subst (λ (X : Figures). Closes (network_of X) (division A X) P r) e s.rests in
      let same : Equal M Q (rounds M E r P) = subst (λ (X : Figures). Equal (network_of X) Q (rounds (network_of X) (division A X) r P)) e s.payments in
      let l = close_is_least M E rules P Q r g rests same in
      record {
        figures = s.figures ∙ e;
        least = l;
        good = good_eq M E (rounds M E r P) Q (λ i j a b. sym (same i j a b)) (rounds_good M E rules r P g);
        more = g.under Q (λ i j a b. le_of_eq (sym (l.clearing i j a b)));
      }

  promised : (L : Payments) → Least M E L → (tasks : List Task) (S : Sheet) (life : Life A draft tasks S) → Promised A draft tasks S life L
  promised L l tasks S life =
      let w = works_kept life.works life.opens.figures (opened_good life.opened life.opens) in
      let s = closed_kept life.worked S w.figures w.good life.ends in
      let P = payments_of life.worked in
      let Q = cells S.paid in
      let moves : moved (net_of life.worked) P Q ≡ moved M P Q = ap (λ (X : Figures). moved (network_of X) P Q) w.figures in
      record {
        least = l;
        sound = λ B m. sound_at M E rules L l (payments_of B) (moment_kept tasks B m).1;
        tracked = λ B m. tracked_at M E rules L l (payments_of B) (moment_kept tasks B m).1;
        told = λ B m r is.
            (let k = moment_kept tasks B m in
            let answer : r ≡ next M E (payments_of B) = is ∙ ap (λ (X : Figures). next (network_of X) (division A X) (payments_of B)) k.0 in
            subst (λ (o : Option ℕ). (o ≡ None) ↔ (SomeBelow M (payments_of B) L → ⊥)) (sym answer) (tracked_at M E rules L l (payments_of B) k.1).answer);
        closed = sound_at M E rules L l Q s.good;
        ends = λ i j a b. le_antisymm (s.least.least L l.clearing i j a b) (l.least Q s.least.clearing i j a b);
        equities =
            total_eq F.n (λ i. get_or S.equities i 0) (cash M Q) (λ i _. life.ends.equities i ∙ ap (λ (X : Figures). cash (network_of X) Q i) w.figures)
            ∙ (sound_at M E rules L l Q s.good).conserved;
        bounded = omega (arith, w.climb, paid_step M P Q s.more, paid_cap M E rules Q s.good, ap {B = ℕ} (λ t. cond t 1 0) moves);
      }

-- what a life closes with
pub record Outcome (A : Meaning) (draft : Draft) (S : Sheet) : Type 0 where
  pub least : Least (network_of draft.figures) (division A draft.figures) (cells S.paid)
  pub within : Capped (network_of draft.figures) (cells S.paid)
  pub equities : (i : ℕ) → get_or S.equities i 0 ≡ cash (network_of draft.figures) (cells S.paid) i
  pub defaults : (i : ℕ) → get_or S.defaults i false ≡ ltb (outlay (network_of draft.figures) (cells S.paid) i) (owed (network_of draft.figures) i)

pub outcome : (A : Meaning) → LawfulMeaning A → (draft : Draft) (tasks : List Task) (S : Sheet) → Life A draft tasks S → Outcome A draft S
outcome A law draft tasks S life =
    let w = works_kept A law draft life.works life.opens.figures (opened_good A law draft life.opened life.opens) in
    let e = w.figures in
    let Q = cells S.paid in
    record {
      least = (closed_kept A law draft life.worked S e w.good life.ends).least;
      within = subst (λ (X : Figures). Capped (network_of X) Q) e life.ends.within;
      equities = λ i. life.ends.equities i ∙ ap (λ (X : Figures). cash (network_of X) Q i) e;
      defaults = λ i. life.ends.defaults i ∙ ap (λ (X : Figures). ltb (outlay (network_of X) Q i) (owed (network_of X) i)) e;
    }

-- equal drafts are divided alike
module _ (A : Meaning) (one two : Draft) (s : EqualDrafts one two) where
  same_claims : (i : ℕ) → i < one.figures.n → claims_on one.figures i ≡ claims_on two.figures i
  same_claims i a =
      let F = one.figures in
      let F' = two.figures in
      let l : i < 32 = omega (arith, F.few) in
      ext_get_or 0 (claims_on F i) (claims_on F' i) (claims_length F i l ∙ s.members ∙ sym (claims_length F' i l))
      (λ k b.
      let b' : k < F.n = omega (arith, claims_length F i l) in
      claims_at F i l k b' ∙ s.claims i k a b' ∙ sym (claims_at F' i l k (omega (arith, s.members))))

  same_division : Same (network_of one.figures) (network_of two.figures) (division A one.figures) (division A two.figures)
  same_division =
      record {
        members = s.members;
        endowments = s.endowments;
        claims = s.claims;
        awards = λ i E j a b.
            ap (λ h. get_or (A h E (claims_on one.figures i)) j 0) (s.houses i a) ∙ ap (λ xs. get_or (A (member_at two.figures i).house E xs) j 0) (same_claims i a);
      }

  -- entries within the claims are equal everywhere, if they are among the members
  everywhere : (C C' : Payments) → ((i j : ℕ) → C i j ≤ claim_at one.figures i j) → ((i j : ℕ) → C' i j ≤ claim_at two.figures i j) → Equal (network_of one.figures) C C' → (i j : ℕ) → C i j ≡ C' i j
  everywhere C C' low low' same i j =
      let F = one.figures in
      let F' = two.figures in
      elim (cases_lt i F.n) [
        | inr a ↦ omega (arith, low i j, low' i j, claim_past F i j a, claim_past F' i j (omega (arith, s.members)))
        | inl a ↦ elim (cases_lt j F.n) [
          | inr b ↦ omega (arith, low i j, low' i j, column_past F i j b, column_past F' i j (omega (arith, s.members)))
          | inl b ↦ same i j a b
        ]
      ]

pub order_decides_nothing : OrderDecidesNothing
order_decides_nothing A law draft draft' s tasks tasks' S S' one two =
    let F = draft.figures in
    let F' = draft'.figures in
    let N = network_of F in
    let N' = network_of F' in
    let L = cells S.paid in
    let L' = cells S'.paid in
    let end = outcome A law draft tasks S one in
    let end' = outcome A law draft' tasks' S' two in
    let same = same_division A draft draft' s in
    let first = promised A law draft L end.least tasks S one in
    let second = promised A law draft' L (least_same N N' (division A F) (division A F') same L end.least) tasks' S' two in
    let like = alike_at N N' (division A F) (division A F') same L L L' first.ends second.ends in
    record {
      least = L;
      first = first;
      second = second;
      equal = record {
        payments = everywhere A draft draft' s L L' end.within end'.within like.payments;
        equities = λ i. end.equities i ∙ elim (cases_lt i F.n) [
          | inl a ↦ like.equities i a
          | inr a ↦ cash_past F L i a end.within ∙ sym (cash_past F' L' i (omega (arith, s.members)) end'.within)
        ] ∙ sym (end'.equities i);
        defaults = λ i. end.defaults i ∙ elim (cases_lt i F.n) [
          | inl a ↦ like.defaults i a
          | inr a ↦ default_past F L i a ∙ sym (default_past F' L' i (omega (arith, s.members)))
        ] ∙ sym (end'.defaults i);
      };
    }

-- the sheet of a book that has come to rest
pub ends_of : (A : Meaning) (B B' : Book) (r u p : ℕ) (es : List ℕ) (ds : List Bool) → Rests A B r u p B'
    → ((i : ℕ) → get_or es i 0 ≡ cash_of B' i) → ((i : ℕ) → get_or ds i false ≡ ltb (outlay_of B' i) (owed (net_of B') i))
    → Ends A B (record { figures = B'.figures; paid = B'.paid; equities = es; defaults = ds; rounds = r; units = u; passed_over = p })
ends_of A B B' r u p es ds s cashes short =
    let e = s.figures in
    let P = payments_of B' in
    record {
      figures = e;
      rests = s.closes;
      payments = s.payments;
      within = subst (λ (X : Figures). Capped (network_of X) P) e B'.capped;
      equities = subst (λ (X : Figures). (i : ℕ) → get_or es i 0 ≡ cash (network_of X) P i) e cashes;
      defaults = subst (λ (X : Figures). (i : ℕ) → get_or ds i false ≡ ltb (outlay (network_of X) P i) (owed (network_of X) i)) e short;
      units = s.units;
      passed = s.passed;
    }
