-- The walk through a network's file passes every record of it, and reads the network's entries.
use Rattle.std.proofs.Common.{◌≡◌, ℕ, zero, suc, ◌+◌, ◌/◌, ◌%◌, ◌<◌, ◌≤◌, true, cond, eqb, ltb, List, ◌++◌, length, get_or, drop, Some, None, Option, sym, refl, ap, ◌∙◌, subst, ⊎_elim, add-one, arith}
use Rattle.std.proofs.lemmas.List.{append_assoc, append-nil, length-append, drop_at}
use Rattle.std.proofs.lemmas.Bool.{cases_eq, le-ltb, lt-ltb, eq-eqb, ne_eqb, cond-true, cond-false}
use Rattle.network.specs.declared.figures.Figures.{Figures}
use Rattle.network.specs.declared.figures.Member.{Member as Entry}
use Rattle.network.specs.Entries.{member_at}
use Rattle.netfile.specs.declared.due.Due.{Due}
use Rattle.netfile.specs.declared.due.Due.TheVariants.{Member, Claim, Nothing}
use Rattle.netfile.specs.Files.{run, number_at, claim_of, network_record, member_bytes, claim_record, members_to, claims_to, end_record, file_of}
use Rattle.netfile.specs.Checks.{follows}
use Rattle.netfile.specs.Reads.{due_after}
use Rattle.netfile.proofs.Order.{place_of, place_follows}
use Rattle.netfile.proofs.Bytes.{number_of_bytes}
use Rattle.netfile.proofs.Clear.{network_clear, member_clear, claim_clear, end_clear}
use Rattle.netfile.proofs.Entries.{entry}
use Rattle.netfile.proofs.Files.{members_more, claims_more, claims_skip}
use Rattle.netfile.proofs.Passing.{positive}
use Rattle.netfile.proofs.Walks.{Walked, walk_starts, walk_on, spot, written}

same_as : {X : Type 0} (F : ℕ → X) (k : ℕ) (x : X) → written F k x k ≡ x
same_as F k x = cond-true _ _ _ (eq-eqb k k refl)

other_than : {X : Type 0} (F : ℕ → X) (k i : ℕ) (x : X) → (i ≡ k → ⊥) → written F k x i ≡ F i
other_than F k i x ne = cond-false _ _ _ (ne_eqb i k ne)

-- the last claim at a place below p
abbrev pub seen : Figures → ℕ → Option (ℕ × ℕ)
seen f zero = None
seen f (suc p) = cond (eqb (claim_of f p) 0) (seen f p) (Some (p / 32, p % 32))

seen_before : (f : Figures) (p q : ℕ) → p ≤ q → follows (seen f p) (q / 32) (q % 32) ≡ true
seen_before f zero q h = refl
seen_before f (suc p) q h =
    ⊎_elim
    (λ (e : claim_of f p ≡ 0). rw (eq-eqb (claim_of f p) 0 e) (seen_before f p q (omega arith)))
    (λ (e : claim_of f p ≡ 0 → ⊥). rw (ne_eqb (claim_of f p) 0 e) (place_follows p q (omega arith)))
    (cases_eq (claim_of f p) 0)

-- the walk through s comes to a byte where d is due, and has read the first i members of f and its claims below place p
pub record At (s : List ℕ) (f : Figures) (d : Due) (byte i p : ℕ) : Type 0 where
  pub members : ℕ → Entry
  pub claims : ℕ → ℕ
  pub walked : Walked f.n s (spot d byte members claims)
  pub members_are : (k : ℕ) → k < i → members k ≡ member_at f k
  pub claims_are : (q : ℕ) → q < p → claims q ≡ claim_of f q
  pub no_more : (q : ℕ) → p ≤ q → claims q ≡ 0

abbrev member_due : ℕ → ℕ → Due
member_due n k = cond (ltb k n) (Member k) (Claim None)

module _ (s : List ℕ) (f : Figures) where
  moved : {d d' : Due} {b b' i i' p p' : ℕ} → At s f d b i p → d ≡ d' → b ≡ b' → i ≡ i' → p ≡ p' → At s f d' b' i' p'
  moved {d} {d'} {b} {b'} {i} {i'} {p} {p'} at e g j q =
      subst (λ z. At s f d' b' i' z) q (subst (λ z. At s f d' b' z p) j (subst (λ z. At s f d' z i p) g (subst (λ z. At s f z b i p) e at)))

  at_network : (R : List ℕ) → s ≡ network_record f.n ++ R → At s f (Member 0) 2 0 0
  at_network R e = record {
    members = _;
    claims = _;
    walked = walk_on f.n s (network_record f.n ++ R) _ (walk_starts f.n s) e (network_clear f.n 0 R);
    members_are = λ k a. absurd (omega arith);
    claims_are = λ q a. absurd (omega arith);
    no_more = λ q a. refl;
  }

  at_member :
      (k b : ℕ) (R : List ℕ) → k < f.n → drop b s ≡ member_bytes f k ++ R → At s f (Member k) b k 0 →
      At s f (due_after f.n (Member k) R) (b + 8) (k + 1) 0
  at_member k b R h e at =
      let t = member_bytes f k ++ R in
      let m = member_at f k in
      let new = entry (get_or t 2 0) (get_or t 3 0) (number_at t 4) in
      let same : new ≡ m = ap (entry m.house m.class) (number_of_bytes m.endowment (omega (arith, (f.fit k).1))) in
      record {
        members = written at.members k new;
        claims = at.claims;
        walked = walk_on f.n s t _ at.walked e (member_clear f k b R h);
        members_are = λ i a. ⊎_elim
            (λ (z : i ≡ k). subst (λ j. written at.members k new j ≡ member_at f j) (sym z) (same_as at.members k new ∙ same))
            (λ (z : i ≡ k → ⊥). other_than at.members k i new z ∙ at.members_are i (omega arith))
            (cases_eq i k);
        claims_are = at.claims_are;
        no_more = at.no_more;
      }

  at_claim :
      (last : Option (ℕ × ℕ)) (q b : ℕ) (R : List ℕ) → follows last (q / 32) (q % 32) ≡ true → 0 < claim_of f q →
      drop b s ≡ claim_record (q / 32) (q % 32) (claim_of f q) ++ R →
      At s f (Claim last) b f.n q → At s f (Claim (Some (q / 32, q % 32))) (b + 7) f.n (q + 1)
  at_claim last q b R h some e at =
      let t = claim_record (q / 32) (q % 32) (claim_of f q) ++ R in
      let place : place_of t ≡ q = omega arith in
      let units : number_at t 3 ≡ claim_of f q = number_of_bytes (claim_of f q) (omega (arith, f.small (q / 32) (q % 32))) in
      let new = written at.claims (place_of t) (number_at t 3) in
      record {
        members = at.members;
        claims = new;
        walked = walk_on f.n s t _ at.walked e (claim_clear f last q b R h some);
        members_are = at.members_are;
        claims_are = λ r a. ⊎_elim
            (λ (z : r ≡ place_of t). ap new z ∙ (same_as at.claims (place_of t) _ ∙ (units ∙ ap (claim_of f) (sym (z ∙ place)))))
            (λ (z : r ≡ place_of t → ⊥). other_than at.claims (place_of t) r _ z ∙ at.claims_are r (omega arith))
            (cases_eq r (place_of t));
        no_more = λ r a. other_than at.claims (place_of t) r _ (λ (z : r ≡ place_of t). omega arith) ∙ at.no_more r (omega arith);
      }

  at_end : (last : Option (ℕ × ℕ)) (b i p : ℕ) (R : List ℕ) → drop b s ≡ end_record ++ R → At s f (Claim last) b i p → At s f Nothing (b + 1) i p
  at_end last b i p R e at = record {
    members = at.members;
    claims = at.claims;
    walked = walk_on f.n s (end_record ++ R) _ at.walked e (end_clear f.n last b R);
    members_are = at.members_are;
    claims_are = at.claims_are;
    no_more = at.no_more;
  }

  -- a place that has no claim
  at_none : (d : Due) (b i p : ℕ) → claim_of f p ≡ 0 → At s f d b i p → At s f d b i (suc p)
  at_none d b i p none at = record {
    members = at.members;
    claims = at.claims;
    walked = at.walked;
    members_are = at.members_are;
    claims_are = λ q a. ⊎_elim
        (λ (y : q ≡ p). ap at.claims y ∙ (at.no_more p (omega arith) ∙ sym (ap (claim_of f) y ∙ none)))
        (λ (y : q ≡ p → ⊥). at.claims_are q (omega arith))
        (cases_eq q p);
    no_more = λ q a. at.no_more q (omega arith);
  }

  -- behind X, where s goes on with Y
  goes_on : (X Y R : List ℕ) → s ≡ (X ++ Y) ++ R → s ≡ X ++ (Y ++ R)
  goes_on X Y R e = e ∙ append_assoc X Y R

  stands_at : (X R : List ℕ) → s ≡ X ++ R → drop (length X) s ≡ R
  stands_at X R e = ap (drop (length X)) e ∙ drop_at X R (length X) refl

  pub at_members : (k : ℕ) → k ≤ f.n → (R : List ℕ) → s ≡ members_to f k ++ R → At s f (member_due f.n k) (length (members_to f k)) k 0
  unfolding run
  at_members zero h R e = moved (at_network R e) (sym (cond-true _ _ _ (lt-ltb 0 f.n (omega (arith, f.some))))) refl refl refl
  at_members (suc k) h R e =
      let X = members_to f k in
      let Y = member_bytes f k in
      let more : members_to f (suc k) ≡ X ++ Y = ap (members_to f) (sym (add-one k)) ∙ members_more f k in
      let on = goes_on X Y R (e ∙ ap (λ z. z ++ R) more) in
      let due = cond-true (ltb k f.n) (Member k) (Claim None) (lt-ltb k f.n (omega arith)) in
      let here = moved (at_members k (omega arith) (Y ++ R) on) due refl refl refl in
      let long : length X + 8 ≡ length (members_to f (suc k)) = sym (ap length more ∙ length-append X Y) in
      moved (at_member k (length X) R (omega arith) (stands_at X (Y ++ R) on) here) (ap (member_due f.n) (add-one k)) long (add-one k) refl

  abbrev Claimed : ℕ → Type 0
  Claimed p = (R : List ℕ) → s ≡ claims_to f p ++ R → At s f (Claim (seen f p)) (length (claims_to f p)) f.n p

  at_skip : (p : ℕ) → claim_of f p ≡ 0 → Claimed p → Claimed (suc p)
  at_skip p z before R e =
      let same : claims_to f (suc p) ≡ claims_to f p = ap (claims_to f) (sym (add-one p)) ∙ claims_skip f p (omega arith) in
      let here = before R (e ∙ ap (λ z. z ++ R) same) in
      let due = sym (cond-true (eqb (claim_of f p) 0) (seen f p) (Some (p / 32, p % 32)) (eq-eqb (claim_of f p) 0 z)) in
      moved (at_none (Claim (seen f p)) (length (claims_to f p)) f.n p z here) (ap Claim due) (ap length (sym same)) refl refl

  at_more : (p : ℕ) → (claim_of f p ≡ 0 → ⊥) → Claimed p → Claimed (suc p)
  at_more p z before R e =
      let some : 0 < claim_of f p = positive (claim_of f p) z in
      let X = claims_to f p in
      let Y = claim_record (p / 32) (p % 32) (claim_of f p) in
      let more : claims_to f (suc p) ≡ X ++ Y = ap (claims_to f) (sym (add-one p)) ∙ claims_more f p some in
      let on = goes_on X Y R (e ∙ ap (λ z. z ++ R) more) in
      let here = at_claim (seen f p) p (length X) R (seen_before f p p (omega arith)) some (stands_at X (Y ++ R) on) (before (Y ++ R) on) in
      let due = sym (cond-false (eqb (claim_of f p) 0) (seen f p) (Some (p / 32, p % 32)) (ne_eqb (claim_of f p) 0 z)) in
      let long : length X + 7 ≡ length (claims_to f (suc p)) = sym (ap length more ∙ length-append X Y) in
      moved here (ap Claim due) long refl (add-one p)

  pub at_claims : (p : ℕ) → Claimed p
  unfolding run
  at_claims zero = λ R e.
      let none : claims_to f 0 ≡ members_to f f.n = append-nil (members_to f f.n) in
      let due = cond-false (ltb f.n f.n) (Member f.n) (Claim None) (le-ltb f.n f.n (omega arith)) in
      moved (at_members f.n (omega arith) R (e ∙ ap (λ z. z ++ R) none)) due (ap length (sym none)) refl refl
  at_claims (suc p) = λ R e.
      ⊎_elim (λ z. at_skip p z (at_claims p) R e) (λ z. at_more p z (at_claims p) R e) (cases_eq (claim_of f p) 0)

  pub at_nothing : (R : List ℕ) → s ≡ file_of f ++ R → At s f Nothing (length (file_of f)) f.n 1024
  unfolding file_of
  at_nothing R e =
      let X = claims_to f 1024 in
      let on = goes_on X end_record R e in
      let last = at_claims 1024 (end_record ++ R) on in
      let long = sym (length-append X end_record) in
      moved (at_end (seen f 1024) (length X) f.n 1024 R (stands_at X (end_record ++ R) on) last) refl long refl refl
