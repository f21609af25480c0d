-- Reading one record carries the file so far on by that record.
use Rattle.std.proofs.Common.{◌≡◌, ℕ, ◌+◌, ◌-◌, ◌/◌, ◌%◌, ◌<◌, ◌≤◌, true, false, cond, eqb, ltb, List, [], ◌∷◌, ◌++◌, length, get_or, take, drop, Some, None, Option, sym, refl, ap, ◌∙◌, subst, inl, inr, ⊎_elim, arith, take-add}
use Rattle.std.proofs.lemmas.List.{append-nil, length-drop, get_or-drop}
use Rattle.std.proofs.lemmas.Bool.{ltb-true, ltb-false, eq-eqb, ne_eqb, cases_Bool, cond-true, cond-false}
use Rattle.network.specs.declared.fault.Cause.TheVariants.{EndOfFile}
use Rattle.network.specs.declared.figures.Figures.{Figures}
use Rattle.network.specs.Limits.{nobody}
use Rattle.network.specs.Entries.{claim_at, MemberSet, ClaimSet}
use Rattle.netfile.specs.declared.due.Due.{Due}
use Rattle.netfile.specs.declared.due.Due.TheVariants.{Network, Member, Claim, Nothing}
use Rattle.netfile.specs.Records.{file_fault, kind, body_length, record_length}
use Rattle.netfile.specs.Files.{run, number_at, claim_of, network_record, member_record, member_bytes, claim_bytes, place_after, claim_record, members_to, claims_to, end_record, file_of}
use Rattle.netfile.specs.Checks.{due_fault}
use Rattle.netfile.specs.Reads.{due_after, Entered}
use Rattle.netfile.specs.Loads.{LastClaim, Begins}
use Rattle.netfile.proofs.Order.{place_of, last_within, follows_place}
use Rattle.netfile.proofs.Bytes.{Bytes, bytes_at, take_each}
use Rattle.netfile.proofs.Entries.{entry, at_place, member_entered, member_kept, claims_kept, place_divides, claim_entered, claim_kept}
use Rattle.netfile.proofs.Files.{claim_none, members_more, claims_more}
use Rattle.netfile.proofs.Passing.{network_passes, member_passes, claim_passes, lies}
use Rattle.netfile.proofs.Runs.{run_same, run_idle}

-- the bytes of the record that t begins with
abbrev first : List ℕ → List ℕ
first t = take (record_length t) t

network_first : (n byte : ℕ) (t : List ℕ) → due_fault n Network byte t ≡ None → first t ≡ network_record n
network_first n byte t ok =
    let p = network_passes n byte t ok in
    let kd = p.0 in
    let count = p.3 in
    ap (λ k. take k t) p.1 ∙ (take_each t 0 2 p.2 ∙ cc)

member_first :
    (n k byte : ℕ) (t : List ℕ) → Bytes t → due_fault n (Member k) byte t ≡ None →
    first t ≡ member_record k (entry (get_or t 2 0) (get_or t 3 0) (number_at t 4))
member_first n k byte t bytes ok =
    let p = member_passes n k byte t ok in
    let kd = p.0 in
    let mine = p.3 in
    let number = bytes_at t 4 bytes in
    ap (λ k. take k t) p.1 ∙ (take_each t 0 8 p.2 ∙ cc)

claim_first : (t : List ℕ) → Bytes t → kind t ≡ 3 → 7 ≤ length t → first t ≡ claim_record (get_or t 1 0) (get_or t 2 0) (number_at t 3)
claim_first t bytes kd long =
    let number = bytes_at t 3 bytes in
    ap (λ k. take (1 + body_length k) t) kd ∙ (take_each t 0 7 long ∙ cc)

end_first : (t : List ℕ) → kind t ≡ 4 → 0 < length t → first t ≡ end_record
end_first t kd some = ap (λ k. take (1 + body_length k) t) kd ∙ (take_each t 0 1 (omega arith) ∙ ap (λ x. x ∷ []) kd)

-- no claim stands at a place that is still to come
abbrev pub ahead_of : Due → ℕ
ahead_of Network = 0
ahead_of (Member member) = 0
ahead_of (Claim last) = place_after last
ahead_of Nothing = 1024

abbrev pub Bare : Figures → ℕ → Type 0
Bare f p = (q : ℕ) → p ≤ q → q < 1024 → claim_of f q ≡ 0

abbrev pub Ahead : Figures → Due → Type 0
Ahead f due = Bare f (ahead_of due)

idle : (f : Figures) (p q : ℕ) → p ≤ q → q ≤ 1024 → Bare f p → claims_to f q ≡ claims_to f p
idle f p q h most ahead =
    let none : (i : ℕ) → p ≤ i → i < q → claim_bytes f i ≡ [] = λ i a b. claim_none _ _ (claim_of f i) (omega (arith, ahead i a (omega arith))) in
    ap (λ r. members_to f f.n ++ r) (run_idle (claim_bytes f) p q h none)

member_step :
    (f g : Figures) (k byte : ℕ) (t : List ℕ) → Bytes t → k < f.n → due_fault f.n (Member k) byte t ≡ None →
    MemberSet f k (get_or t 2 0) (get_or t 3 0) (number_at t 4) g → members_to f k ++ first t ≡ members_to g (k + 1)
member_step f g k byte t bytes below ok s =
    let mine = member_entered f g k _ _ _ s below in
    let kept = member_kept f g k _ _ _ s in
    let rec = member_first f.n k byte t bytes ok ∙ ap (member_record k) (sym mine) in
    let same : (i : ℕ) → 0 ≤ i → i < 0 + k → member_bytes g i ≡ member_bytes f i = λ i a b. ap (member_record i) (kept i (λ (e : i ≡ k). omega arith)) in
    let before = run_same (member_bytes g) (member_bytes f) 0 k same in
    let count = s.count in
    let more = members_more g k in
    cc

-- where one claim is entered, the file is the same up to its place
claims_before :
    (f g : Figures) (q : ℕ) → g.n ≡ f.n → g.members ≡ f.members → ((r : ℕ) → r < q → claim_of g r ≡ claim_of f r) → claims_to g q ≡ claims_to f q
claims_before f g q n m same =
    let members = run_same (member_bytes g) (member_bytes f) 0 f.n (λ i a b. ap (λ ms. member_record i (get_or ms i nobody)) m) in
    let bytes : ℕ → ℕ → List ℕ = λ r u. cond (eqb u 0) [] (claim_record (r / 32) (r % 32) u) in
    let claims = run_same (claim_bytes g) (claim_bytes f) 0 q (λ r a b. ap (bytes r) (same r (omega arith))) in
    cc

record ClaimStep (f g : Figures) (last : Option (ℕ × ℕ)) (t : List ℕ) : Type 0 where
  bytes : claims_to f (place_after last) ++ first t ≡ claims_to g (place_of t + 1)
  units : 0 < claim_at g (get_or t 1 0) (get_or t 2 0)
  ahead : Bare g (place_of t + 1)

claim_step :
    (f g : Figures) (last : Option (ℕ × ℕ)) (byte : ℕ) (t : List ℕ) → Bytes t → LastClaim f last → Ahead f (Claim last) →
    due_fault f.n (Claim last) byte t ≡ None → kind t ≡ 3 → ClaimSet f (get_or t 1 0) (get_or t 2 0) (number_at t 3) g → ClaimStep f g last t
claim_step f g last byte t bytes stood ahead ok kd s =
    let p = claim_passes f.n last byte t ok kd in
    let rising = follows_place f last _ _ stood (omega (arith, p.creditor, f.few)) p.rising in
    let q = place_of t in
    let most : q < 1024 = omega (arith, p.debtor, p.creditor, f.few) in
    let mine = claim_entered f g _ _ _ q p.debtor p.creditor refl s in
    let kept = claim_kept f g _ _ _ q p.debtor p.creditor refl s in
    let at = place_divides f g _ _ _ q p.debtor p.creditor refl s in
    let i = at.0 in
    let j = at.1 in
    let rec = claim_first t bytes kd p.long in
    let some : 0 < claim_of g q = omega (arith, mine, p.units) in
    let more = claims_more g q some in
    let before = claims_before f g q s.count s.members (λ r h. kept r (λ (e : r ≡ q). omega arith)) in
    let skipped = idle f (place_after last) q rising (omega arith) ahead in
    record {
      bytes = cc;
      units = subst (λ x. 0 < x) (at_place g q _ _ i j) some;
      ahead = λ r a b. kept r (λ (e : r ≡ q). omega arith) ∙ ahead r (omega (arith, rising)) b;
    }

-- what stands after a record is read
abbrev pub Stands : ℕ → Figures → Due → List ℕ → Type 0
Stands n f due bs = (f.n ≡ n) × Begins f due bs × Ahead f due

module _ (f : Figures) (byte : ℕ) (bs t : List ℕ) (bytes : Bytes t) (some : 0 < length t) where
  on : {xs : List ℕ} → bs ≡ xs → bs ++ first t ≡ xs ++ first t
  on e = ap (λ z. z ++ first t) e

  network_read : Begins f Network bs → Ahead f Network → due_fault f.n Network byte t ≡ None → Stands f.n f (Member 0) (bs ++ first t)
  unfolding run
  network_read so ahead ok = (refl, (omega (arith, f.some), on so ∙ network_first f.n byte t ok), ahead)

  member_read :
      (g : Figures) (k : ℕ) → Begins f (Member k) bs → Ahead f (Member k) → due_fault f.n (Member k) byte t ≡ None →
      MemberSet f k (get_or t 2 0) (get_or t 3 0) (number_at t 4) g → Stands f.n g (due_after f.n (Member k) t) (bs ++ first t)
  unfolding run
  member_read g k so ahead ok s =
      let e = on so.1 ∙ member_step f g k byte t bytes so.0 ok s in
      let none : (q : ℕ) → 0 ≤ q → q < 1024 → claim_of g q ≡ 0 = λ q a b. claims_kept f g k _ _ _ s q ∙ ahead q a b in
      let P : Due → Type 0 = λ d. Stands f.n g d (bs ++ first t) in
      let further : k + 1 < f.n → P (Member (k + 1)) = λ h. (s.count, (omega (arith, s.count), e), none) in
      let all : k + 1 ≡ g.n → P (Claim None) = λ h.
      (s.count, (tt, e ∙ (ap (members_to g) h ∙ sym (append-nil (members_to g g.n)))), none) in
      ⊎_elim
      (λ (y : ltb (k + 1) f.n ≡ true). subst P (sym (cond-true _ _ _ y)) (further (ltb-true (k + 1) f.n y)))
      (λ (y : ltb (k + 1) f.n ≡ false). subst P (sym (cond-false _ _ _ y)) (all (omega (arith, ltb-false (k + 1) f.n y, s.count, so.0))))
      (cases_Bool (ltb (k + 1) f.n))

  end_read : (last : Option (ℕ × ℕ)) → Begins f (Claim last) bs → Ahead f (Claim last) → kind t ≡ 4 → Stands f.n f Nothing (bs ++ first t)
  unfolding file_of
  end_read last so ahead kd =
      let e = on so.1 in
      let rec = end_first t kd some in
      let skipped = idle f (place_after last) 1024 (last_within f last so.0) (omega arith) ahead in
      (refl, cc, λ q a b. absurd (omega arith))

  claim_read :
      (g : Figures) (last : Option (ℕ × ℕ)) → Begins f (Claim last) bs → Ahead f (Claim last) → due_fault f.n (Claim last) byte t ≡ None →
      kind t ≡ 3 → ClaimSet f (get_or t 1 0) (get_or t 2 0) (number_at t 3) g → Stands f.n g (Claim (Some (get_or t 1 0, get_or t 2 0))) (bs ++ first t)
  claim_read g last so ahead ok kd s =
      let c = claim_step f g last byte t bytes so.0 ahead ok kd s in
      (s.count, (c.units, on so.1 ∙ c.bytes), c.ahead)

  step :
      (g : Figures) (due : Due) → Begins f due bs → Ahead f due → due_fault f.n due byte t ≡ None → Entered f due t g →
      Stands f.n g (due_after f.n due t) (bs ++ first t)
  step g Network so ahead ok same = subst (λ h. Stands f.n h (Member 0) (bs ++ first t)) (sym same) (network_read so ahead ok)
  step g (Member k) so ahead ok s = member_read g k so ahead ok s
  step g (Claim last) so ahead ok (inl r) =
      let due = cond-true (eqb (kind t) 4) Nothing (Claim (Some (get_or t 1 0, get_or t 2 0))) (eq-eqb (kind t) 4 r.0) in
      let P : Due → Type 0 = λ d. Stands f.n g d (bs ++ first t) in
      subst P (sym due) (subst (λ h. Stands f.n h Nothing (bs ++ first t)) (sym r.1) (end_read last so ahead r.0))
  step g (Claim last) so ahead ok (inr r) =
      let due = cond-false (eqb (kind t) 4) Nothing (Claim (Some (get_or t 1 0, get_or t 2 0))) (ne_eqb (kind t) 4 (λ (e : kind t ≡ 4). omega (arith, r.0))) in
      let P : Due → Type 0 = λ d. Stands f.n g d (bs ++ first t) in
      subst P (sym due) (claim_read g last so ahead ok r.0 r.1)
  step g Nothing so ahead ok r = absurd r

-- one turn of the load
pub turn :
    (f g : Figures) (n byte : ℕ) (due next : Due) (s t : List ℕ) → t ≡ drop byte s → Bytes s → byte < length s →
    Stands n f due (take byte s) → due_fault f.n due byte t ≡ None → next ≡ due_after f.n due t → Entered f due t g →
    (byte + record_length t ≤ length s) × Stands n g next (take (byte + record_length t) s)
turn f g n byte due next s t e bytes h so ok is r =
    let long : length t ≡ length s - byte = ap length e ∙ length-drop byte s in
    let bytes-t : Bytes t = λ i. subst (λ x. get_or x i 0 < 256) (sym e) (rw get_or-drop (bytes (byte + i))) in
    let st = step f byte (take byte s) t bytes-t (omega arith) g due so.1 so.2 ok r in
    let cut = take-add byte (record_length t) s ∙ ap (λ z. take byte s ++ take (record_length t) z) (sym e) in
    let at_next = subst (λ d. Stands f.n g d (take byte s ++ first t)) (sym is) st in
    let at_cut = subst (Stands f.n g next) (sym cut) at_next in
    (omega (arith, lies f.n due byte t ok (omega arith)), subst (λ m. Stands m g next (take (byte + record_length t) s)) so.0 at_cut)

-- a file that stops before End
pub stops : (n : ℕ) (due : Due) (byte : ℕ) → (due ≡ Nothing → ⊥) → due_fault n due byte [] ≡ Some (file_fault EndOfFile byte)
stops n Network byte h = refl
stops n (Member k) byte h = refl
stops n (Claim p) byte h = refl
stops n Nothing byte h = absurd (h refl)
