-- A walk through a byte string, record by record, for as long as the checks pass. The bytes fix where it stops.
use Rattle.std.proofs.Common.{◌≡◌, ℕ, zero, suc, ◌+◌, cond, eqb, List, length, get_or, drop, Some, None, Option, sym, refl, ap, ◌∙◌, arith}
use Rattle.std.proofs.lemmas.List.{drop_all}
use Rattle.network.specs.declared.fault.Fault.{Fault}
use Rattle.network.specs.declared.figures.Member.{Member as Entry}
use Rattle.network.specs.Limits.{nobody}
use Rattle.netfile.specs.declared.due.Due.{Due}
use Rattle.netfile.specs.declared.due.Due.TheVariants.{Network, Member, Claim, Nothing}
use Rattle.netfile.specs.Records.{kind, record_length}
use Rattle.netfile.specs.Files.{number_at}
use Rattle.netfile.specs.Checks.{due_fault}
use Rattle.netfile.specs.Reads.{due_after}
use Rattle.netfile.proofs.Order.{place_of}
use Rattle.netfile.proofs.Entries.{entry}

-- what is due, at which byte, and the entries that were read before it
pub record Spot : Type 0 where
  pub due : Due
  pub byte : ℕ
  pub members : ℕ → Entry
  pub claims : ℕ → ℕ

-- F with x at k
abbrev pub written : {X : Type 0} → (ℕ → X) → ℕ → X → ℕ → X
written F k x i = cond (eqb i k) x (F i)

-- the members, the claims and the byte behind the record that t begins with
abbrev pub members_with : Due → List ℕ → (ℕ → Entry) → ℕ → Entry
members_with (Member k) t F = written F k (entry (get_or t 2 0) (get_or t 3 0) (number_at t 4))
members_with Network t F = F
members_with (Claim last) t F = F
members_with Nothing t F = F

abbrev pub claims_with : Due → List ℕ → (ℕ → ℕ) → ℕ → ℕ
claims_with (Claim last) t F = cond (eqb (kind t) 4) F (written F (place_of t) (number_at t 3))
claims_with Network t F = F
claims_with (Member k) t F = F
claims_with Nothing t F = F

abbrev pub byte_after : Due → ℕ → List ℕ → ℕ
byte_after Network byte t = byte + record_length t
byte_after (Member k) byte t = byte + record_length t
byte_after (Claim last) byte t = byte + record_length t
byte_after Nothing byte t = byte

abbrev pub spot : Due → ℕ → (ℕ → Entry) → (ℕ → ℕ) → Spot
spot due byte members claims = record { due = due; byte = byte; members = members; claims = claims }

abbrev pub past : ℕ → List ℕ → Spot → Spot
past n t x =
    spot (due_after n x.due t) (byte_after x.due x.byte t) (members_with x.due t x.members) (claims_with x.due t x.claims)

-- one step of the walk: on to the next record, unless a check fails
abbrev pub onward : Option Fault → Spot → Spot → Spot
onward (Some e) here next = here
onward None here next = next

abbrev pub fault_at : ℕ → List ℕ → Spot → Option Fault
fault_at n s x = due_fault n x.due x.byte (drop x.byte s)

unfoldable pub on : ℕ → List ℕ → Spot → Spot
on n s x = onward (fault_at n s x) x (past n (drop x.byte s) x)

unfoldable after : ℕ → List ℕ → ℕ → Spot → Spot
after n s zero x = x
after n s (suc k) x = on n s (after n s k x)

abbrev start : Spot
start = spot Network 0 (λ _. nobody) (λ _. 0)

-- the walk comes to x
pub record Walked (n : ℕ) (s : List ℕ) (x : Spot) : Type 0 where
  steps : ℕ
  is : after n s steps start ≡ x

pub walk_starts : (n : ℕ) (s : List ℕ) → Walked n s start
unfolding after
walk_starts n s = record { steps = 0; is = refl }

pub walk_on : (n : ℕ) (s t : List ℕ) (x : Spot) → Walked n s x → drop x.byte s ≡ t → due_fault n x.due x.byte t ≡ None → Walked n s (past n t x)
unfolding after on
walk_on n s t x w e none = record {
  steps = suc w.steps;
  is = ap (on n s) w.is ∙ rw (e, none);
}

after_on : (n : ℕ) (s : List ℕ) (k : ℕ) (x : Spot) → after n s k (on n s x) ≡ on n s (after n s k x)
unfolding after
after_on n s zero x = refl
after_on n s (suc k) x = ap (on n s) (after_on n s k x)

after_after : (n : ℕ) (s : List ℕ) (j k : ℕ) (x : Spot) → after n s j (after n s k x) ≡ after n s k (after n s j x)
unfolding after
after_after n s zero k x = refl
after_after n s (suc j) k x = ap (on n s) (after_after n s j k x) ∙ sym (after_on n s k (after n s j x))

rests : (n : ℕ) (s : List ℕ) (k : ℕ) (x : Spot) → on n s x ≡ x → after n s k x ≡ x
unfolding after
rests n s zero x e = refl
rests n s (suc k) x e = ap (on n s) (rests n s k x e) ∙ e

-- a spot at which the walk stops: there is one at most
pub record Stop (n : ℕ) (s : List ℕ) : Type 0 where
  pub at : Spot
  pub walked : Walked n s at
  pub stays : on n s at ≡ at

pub one_stop : (n : ℕ) (s : List ℕ) (a b : Stop n s) → a.at ≡ b.at
one_stop n s a b =
    let j = a.walked.steps in
    let k = b.walked.steps in
    let there = sym (rests n s k a.at a.stays) ∙ ap (after n s k) (sym a.walked.is) in
    let back = ap (after n s j) b.walked.is ∙ rests n s j b.at b.stays in
    there ∙ (after_after n s k j start ∙ back)

-- it stops at a fault, and at the end where nothing is due
pub fault_stops : (n : ℕ) (s : List ℕ) (x : Spot) (e : Fault) → fault_at n s x ≡ Some e → on n s x ≡ x
unfolding on
fault_stops n s x e h = rw h

pub end_stops :
    (n : ℕ) (s : List ℕ) (members : ℕ → Entry) (claims : ℕ → ℕ) →
    on n s (spot Nothing (length s) members claims) ≡ spot Nothing (length s) members claims
unfolding on
end_stops n s members claims = rw (drop_all (length s) s (omega arith))
