-- The checks of a record: what one that passes is, and which of its checks decide.
use Rattle.std.proofs.Common.{◌≡◌, ℕ, zero, suc, ◌+◌, ◌<◌, ◌≤◌, Bool, true, false, cond, not, ◌||◌, eqb, ltb, leb, List, length, get_or, Some, None, Option, sym, refl, ap, ◌∙◌, arith}
use Rattle.std.proofs.lemmas.Bool.{ltb-false, leb-false, eqb-true, eqb-false, ne_eqb, not-false, or_parts, cond-false}
use Rattle.network.specs.declared.fault.Fault.{Fault}
use Rattle.network.specs.Refusals.{claim_fault}
use Rattle.netfile.specs.declared.due.Due.{Due}
use Rattle.netfile.specs.declared.due.Due.TheVariants.{Network, Member, Claim, Nothing}
use Rattle.netfile.specs.Records.{kind, body_length, record_length, outside, record_fault}
use Rattle.netfile.specs.Files.{number_at}
use Rattle.netfile.specs.Checks.{draft_or, follows, due_fault}

-- a check that passed
pub unless : (b : Bool) (e : Fault) (v : Option Fault) → cond b (Some e) v ≡ None → (b ≡ false) × (v ≡ None)
unless true e v h = absurd (let z : ◌≡◌ {A = ℕ} 0 1 = cc in omega arith)
unless false e v h = (refl, h)

ended : (b : Bool) (e : Fault) → cond b None (Some e) ≡ None → b ≡ true
ended true e h = refl
ended false e h = absurd (let z : ◌≡◌ {A = ℕ} 0 1 = cc in omega arith)

draft_passes : (byte : ℕ) (v next : Option Fault) → draft_or byte v next ≡ None → (v ≡ None) × (next ≡ None)
draft_passes byte None next h = (refl, h)
draft_passes byte (Some e) next h = absurd (let z : ◌≡◌ {A = ℕ} 0 1 = cc in omega arith)

-- what a record that passes is
pub record Passes (low high : ℕ) (t : List ℕ) (body : Option Fault) : Type 0 where
  pub from : low ≤ kind t
  pub to : kind t ≤ high
  pub whole : record_length t ≤ length t
  pub checked : body ≡ None

pub passes :
    (low high byte : ℕ) (t : List ℕ) (body : Option Fault) →
    record_fault low high byte t body ≡ None → Passes low high t body
passes low high byte t body h =
    let known = (unless (eqb (length t) 0) _ _ h).1 in
    let due = (unless (outside 1 4 (kind t)) _ _ known).1 in
    let cut = unless (outside low high (kind t)) _ _ due in
    let last = unless (ltb (length t) (record_length t)) _ _ cut.1 in
    let k = or_parts (ltb (kind t) low) (ltb high (kind t)) cut.0 in
    record {
      from = ltb-false (kind t) low k.0;
      to = ltb-false high (kind t) k.1;
      whole = ltb-false (length t) (record_length t) last.0;
      checked = last.1;
    }

of_kind : (low : ℕ) (t : List ℕ) → low ≤ kind t → kind t ≤ low → record_length t ≡ 1 + body_length low
of_kind low t a b = let e : kind t ≡ low = omega arith in ap (λ k. 1 + body_length k) e

-- what passes where the Network record is due, or that of a member
pub network_passes :
    (n byte : ℕ) (t : List ℕ) → due_fault n Network byte t ≡ None →
    (kind t ≡ 1) × (record_length t ≡ 2) × (2 ≤ length t) × (get_or t 1 0 ≡ n)
network_passes n byte t h =
    let p = passes 1 1 byte t _ h in
    let len = of_kind 1 t p.from p.to in
    let count = (unless (not (eqb (get_or t 1 0) n)) _ _ p.checked).0 in
    (omega (arith, p.from, p.to), len, omega (arith, p.whole), eqb-true (get_or t 1 0) n (not-false _ count))

pub member_passes :
    (n member byte : ℕ) (t : List ℕ) → due_fault n (Member member) byte t ≡ None →
    (kind t ≡ 2) × (record_length t ≡ 8) × (8 ≤ length t) × (get_or t 1 0 ≡ member)
member_passes n member byte t h =
    let p = passes 2 2 byte t _ h in
    let len = of_kind 2 t p.from p.to in
    let mine = (unless (not (eqb (get_or t 1 0) member)) _ _ p.checked).0 in
    (omega (arith, p.from, p.to), len, omega (arith, p.whole), eqb-true (get_or t 1 0) member (not-false _ mine))

pub positive : (x : ℕ) → (x ≡ 0 → ⊥) → 0 < x
positive zero h = absurd (h refl)
positive (suc x) h = omega arith

-- what passes where a claim is due
pub record ClaimPasses (n : ℕ) (last : Option (ℕ × ℕ)) (t : List ℕ) : Type 0 where
  pub long : 7 ≤ length t
  pub debtor : get_or t 1 0 < n
  pub creditor : get_or t 2 0 < n
  pub units : 0 < number_at t 3
  pub rising : follows last (get_or t 1 0) (get_or t 2 0) ≡ true

pub claim_passes :
    (n : ℕ) (last : Option (ℕ × ℕ)) (byte : ℕ) (t : List ℕ) → due_fault n (Claim last) byte t ≡ None → kind t ≡ 3 → ClaimPasses n last t
claim_passes n last byte t h k =
    let p = passes 3 4 byte t _ h in
    let i = get_or t 1 0 in
    let j = get_or t 2 0 in
    let x = number_at t 3 in
    let len : record_length t ≡ 7 = ap (λ k. 1 + body_length k) k in
    let claim = sym (cond-false _ _ _ (ne_eqb (kind t) 4 (λ (e : kind t ≡ 4). omega arith))) ∙ p.checked in
    let c = draft_passes byte (claim_fault n i j x) _ claim in
    let members = or_parts (leb n i) (leb n j) (unless (leb n i || leb n j) _ _ c.0).0 in
    let behind = follows last i j in
    let order = or_parts (eqb x 0) (not behind) (unless (eqb x 0 || not behind) _ _ c.1).0 in
    record {
      long = omega (arith, p.whole);
      debtor = leb-false n i members.0;
      creditor = leb-false n j members.1;
      units = positive x (eqb-false x 0 order.0);
      rising = not-false behind order.1;
    }

-- a record that passes at its place lies in the file
pub lies : (n : ℕ) (due : Due) (byte : ℕ) (t : List ℕ) → due_fault n due byte t ≡ None → 0 < length t → record_length t ≤ length t
lies n Network byte t ok h = (passes 1 1 byte t _ ok).whole
lies n (Member member) byte t ok h = (passes 2 2 byte t _ ok).whole
lies n (Claim last) byte t ok h = (passes 3 4 byte t _ ok).whole
lies n Nothing byte t ok h = absurd (let e = eqb-true (length t) 0 (ended (eqb (length t) 0) _ ok) in omega arith)
