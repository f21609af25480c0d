-- The records of a network's file pass the checks of their places.
use Rattle.std.proofs.Common.{◌≡◌, ℕ, ◌/◌, ◌%◌, ◌<◌, ◌≤◌, Bool, true, false, cond, not, ◌||◌, eqb, List, ◌++◌, length, Some, None, Option, refl, ap, ◌∙◌, inl, arith}
use Rattle.std.proofs.lemmas.Bool.{lt-leb, le-ltb, eq-eqb, ne_eqb, or_from, not_from_true, cond-false}
use Rattle.network.specs.declared.fault.Fault.{Fault}
use Rattle.network.specs.declared.fault.Cause.TheVariants.{ClaimOrder}
use Rattle.network.specs.declared.figures.Figures.{Figures}
use Rattle.network.specs.Entries.{member_at}
use Rattle.network.specs.Refusals.{member_fault, claim_fault}
use Rattle.netfile.specs.declared.due.Due.TheVariants.{Network, Member, Claim}
use Rattle.netfile.specs.Records.{file_fault, kind, outside, record_length, record_fault}
use Rattle.netfile.specs.Files.{number_at, claim_of, network_record, member_bytes, claim_record, end_record}
use Rattle.netfile.specs.Checks.{draft_or, follows, due_fault}
use Rattle.netfile.proofs.Order.{claim_members}
use Rattle.netfile.proofs.Bytes.{number_of_bytes}

-- the checks of a record that is whole and due
whole_passes :
    (low high byte : ℕ) (t : List ℕ) (body : Option Fault) → outside 1 4 (kind t) ≡ false → outside low high (kind t) ≡ false →
    record_length t ≤ length t → body ≡ None → record_fault low high byte t body ≡ None
whole_passes low high byte t body known due long ok =
    let some : eqb (length t) 0 ≡ false = ne_eqb (length t) 0 (λ (y : length t ≡ 0). omega arith) in
    rw (some, known, due, le-ltb (length t) (record_length t) long) ok

pub network_clear : (n byte : ℕ) (R : List ℕ) → due_fault n Network byte (network_record n ++ R) ≡ None
network_clear n byte R =
    whole_passes 1 1 byte (network_record n ++ R) _ refl refl (omega arith) (cond-false _ _ _ (not_from_true _ (eq-eqb n n refl)))

member_fits : (n k c x y : ℕ) → y ≡ x → k < n → c ≤ 7 → x ≤ 1000000 → member_fault n k c y ≡ None
member_fits n k c x y e h i j = rw (e, lt-leb n k h, le-ltb 7 c i, le-ltb 1000000 x j)

pub member_clear : (f : Figures) (k byte : ℕ) (R : List ℕ) → k < f.n → due_fault f.n (Member k) byte (member_bytes f k ++ R) ≡ None
member_clear f k byte R h =
    let m = member_at f k in
    let fits = f.fit k in
    let ok = member_fits f.n k m.class m.endowment _ (number_of_bytes m.endowment (omega (arith, fits.1))) h fits.0 fits.1 in
    let mine = cond-false _ _ _ (not_from_true _ (eq-eqb k k refl)) in
    whole_passes 2 2 byte (member_bytes f k ++ R) _ refl refl (omega arith) (mine ∙ ap (λ v. draft_or byte v None) ok)

claim_fits : (n i j x y : ℕ) → y ≡ x → i < n → j < n → (i ≡ j → ⊥) → x ≤ 10000 → claim_fault n i j y ≡ None
claim_fits n i j x y e h k ne l = rw (e, lt-leb n i h, lt-leb n j k, ne_eqb i j ne, le-ltb 10000 x l)

in_order : (y : ℕ) (b : Bool) (byte : ℕ) → 0 < y → b ≡ true → cond (eqb y 0 || not b) (Some (file_fault ClaimOrder byte)) None ≡ None
in_order y b byte h k = cond-false _ _ _ (or_from (eqb y 0) (not b) (ne_eqb y 0 (λ (e : y ≡ 0). omega arith)) (not_from_true b k))

both : (byte : ℕ) (v next : Option Fault) → v ≡ None → next ≡ None → draft_or byte v next ≡ None
both byte v next e h = rw e h

pub claim_clear :
    (f : Figures) (last : Option (ℕ × ℕ)) (q byte : ℕ) (R : List ℕ) → follows last (q / 32) (q % 32) ≡ true → 0 < claim_of f q →
    due_fault f.n (Claim last) byte (claim_record (q / 32) (q % 32) (claim_of f q) ++ R) ≡ None
claim_clear f last q byte R h some =
    let i = q / 32 in
    let j = q % 32 in
    let x = claim_of f q in
    let members = claim_members f i j some in
    let units = number_of_bytes x (omega (arith, f.small i j)) in
    let ok = claim_fits f.n i j x _ units members.0 members.1 (λ (e : i ≡ j). let z = f.allowed i j (inl e) in omega arith) (f.small i j) in
    let y : ℕ = number_at (claim_record i j x ++ R) 3 in
    let order = in_order y (follows last i j) byte (omega (arith, units)) h in
    whole_passes 3 4 byte (claim_record i j x ++ R) _ refl refl (omega arith) (both byte (claim_fault f.n i j y) _ ok order)

pub end_clear : (n : ℕ) (last : Option (ℕ × ℕ)) (byte : ℕ) (R : List ℕ) → due_fault n (Claim last) byte (end_record ++ R) ≡ None
end_clear n last byte R = whole_passes 3 4 byte (end_record ++ R) _ refl refl (omega arith) refl
