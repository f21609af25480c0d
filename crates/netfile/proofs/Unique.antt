-- A byte string has one fault or is the file of one network.
use Rattle.std.proofs.Common.{◌≡◌, ℕ, ◌+◌, ◌*◌, ◌/◌, ◌%◌, ◌<◌, ◌≤◌, false, eqb, List, [], ◌++◌, length, get_or, take, drop, Some, None, Ok, Err, Option, Result, sym, refl, ap, ◌∙◌, subst, ⊎_elim, add-one, arith}
use Rattle.std.proofs.lemmas.List.{append-nil, take-append-drop, length-take-le, drop_all, ext_get_or}
use Rattle.std.proofs.lemmas.Bool.{cases_lt, lt-ltb, ne_eqb, cond-true, cond-false}
use Rattle.network.specs.declared.fault.Fault.{Fault}
use Rattle.network.specs.declared.draft.Draft.{Draft}
use Rattle.network.specs.declared.figures.Figures.{Figures}
use Rattle.network.specs.declared.figures.Member.{Member as Entry}
use Rattle.network.specs.Limits.{nobody}
use Rattle.network.specs.Entries.{member_at, claim_at}
use Rattle.network.proofs.Equal.{equal_figures}
use Rattle.netfile.specs.declared.due.Due.{Due}
use Rattle.netfile.specs.declared.due.Due.TheVariants.{Network, Member, Claim, Nothing}
use Rattle.netfile.specs.Files.{claim_of, place_after, file_of}
use Rattle.netfile.specs.Loads.{LastClaim, Begins, FaultOf, Loaded, Accepts, Only}
use Rattle.netfile.proofs.Entries.{at_place}
use Rattle.netfile.proofs.Order.{claim_members}
use Rattle.netfile.proofs.Walks.{Spot, spot, fault_at, Walked, walk_starts, Stop, one_stop, fault_stops, end_stops}
use Rattle.netfile.proofs.Reaches.{seen, At, at_members, at_claims, at_nothing}

-- the walk comes to a byte where d is due
record Comes (n : ℕ) (s : List ℕ) (d : Due) (byte : ℕ) : Type 0 where
  members : ℕ → Entry
  claims : ℕ → ℕ
  walked : Walked n s (spot d byte members claims)

comes : (n : ℕ) (s : List ℕ) (f : Figures) (d d' : Due) (b b' i p : ℕ) → f.n ≡ n → d ≡ d' → b ≡ b' → At s f d b i p → Comes n s d' b'
comes n s f d d' b b' i p m e g at =
    let here : Comes f.n s d b = record { members = at.members; claims = at.claims; walked = at.walked } in
    subst (λ z. Comes n s z b') e (subst (Comes n s d) g (subst (λ z. Comes z s d b) m here))

seen_more : (f : Figures) (p : ℕ) → 0 < claim_of f p → seen f (p + 1) ≡ Some (p / 32, p % 32)
seen_more f p some =
    let here : eqb (claim_of f p) 0 ≡ false = ne_eqb (claim_of f p) 0 (λ (z : claim_of f p ≡ 0). omega arith) in
    ap (seen f) (add-one p) ∙ cond-false _ (seen f p) _ here

some_pair : (a b : ℕ) (pair : ℕ × ℕ) → a ≡ pair.0 → b ≡ pair.1 → Some (a, b) ≡ Some pair
some_pair a b pair h k = ap (λ (x : ℕ). Some (x, b)) h ∙ ap (λ (y : ℕ). Some (pair.0, y)) k

seen_at : (f : Figures) (last : Option (ℕ × ℕ)) → LastClaim f last → seen f (place_after last) ≡ last
seen_at f None h = refl
seen_at f (Some last) h =
    let m = claim_members f last.0 last.1 h in
    let p = 32 * last.0 + last.1 in
    let i : p / 32 ≡ last.0 = omega (arith, m.1, f.few) in
    let j : p % 32 ≡ last.1 = omega (arith, m.1, f.few) in
    let there : claim_of f p ≡ claim_at f last.0 last.1 = at_place f p last.0 last.1 i j in
    seen_more f p (omega (arith, there, h)) ∙ some_pair (p / 32) (p % 32) last i j

-- through a file so far the walk comes to what is due behind it
module _ (n : ℕ) (s : List ℕ) (f : Figures) (b : ℕ) (count : f.n ≡ n) (within : b ≤ length s) where
  whole : (X : List ℕ) → take b s ≡ X → s ≡ X ++ drop b s
  whole X e = sym (ap (λ z. z ++ drop b s) (sym e) ∙ take-append-drop b s)

  ends : (X : List ℕ) → take b s ≡ X → length X ≡ b
  ends X e = ap length (sym e) ∙ length-take-le b s within

  begins_comes : (d : Due) → Begins f d (take b s) → Comes n s d b
  begins_comes Network e = subst (Comes n s Network) (ends [] e) (record { members = _; claims = _; walked = walk_starts n s })
  begins_comes (Member k) e =
      let at = at_members s f k (omega (arith, e.0)) (drop b s) (whole _ e.1) in
      comes n s f _ (Member k) _ b k 0 count (cond-true _ _ _ (lt-ltb k f.n e.0)) (ends _ e.1) at
  begins_comes (Claim last) e =
      let at = at_claims s f (place_after last) (drop b s) (whole _ e.1) in
      comes n s f _ (Claim last) _ b f.n (place_after last) count (ap Claim (seen_at f last e.0)) (ends _ e.1) at
  begins_comes Nothing e = comes n s f Nothing Nothing _ b f.n 1024 count refl (ends _ e) (at_nothing s f (drop b s) (whole _ e))

fault_stop : (n : ℕ) (s : List ℕ) (e : Fault) → FaultOf n s e → (a : Stop n s) × (fault_at n s a.at ≡ Some e)
fault_stop n s e x =
    let c = begins_comes n s x.network x.byte x.count x.within x.due x.before in
    let here = spot x.due x.byte c.members c.claims in
    (record { at = here; walked = c.walked; stays = fault_stops n s here e x.fails }, x.fails)

record FileStop (n : ℕ) (s : List ℕ) (f : Figures) : Type 0 where
  stop : Stop n s
  none : fault_at n s stop.at ≡ None
  members_are : (i : ℕ) → i < f.n → stop.at.members i ≡ member_at f i
  claims_are : (q : ℕ) → q < 1024 → stop.at.claims q ≡ claim_of f q

file_stop : (n : ℕ) (s : List ℕ) (f : Figures) → f.n ≡ n → s ≡ file_of f → FileStop n s f
file_stop n s f m e =
    let a = at_nothing s f [] (e ∙ sym (append-nil (file_of f))) in
    let here = spot Nothing (length s) a.members a.claims in
    let there = subst (λ b. Walked f.n s (spot Nothing b a.members a.claims)) (ap length (sym e)) a.walked in
    record {
      stop = record { at = here; walked = subst (λ z. Walked z s here) m there; stays = end_stops n s a.members a.claims };
      none = rw (drop_all (length s) s (omega arith));
      members_are = a.members_are;
      claims_are = a.claims_are;
    }

pub one_fault : (n : ℕ) (s : List ℕ) (e e' : Fault) → FaultOf n s e → FaultOf n s e' → e ≡ e'
one_fault n s e e' x y =
    let a = fault_stop n s e x in
    let b = fault_stop n s e' y in
    let faults = sym a.1 ∙ (ap (fault_at n s) (one_stop n s a.0 b.0) ∙ b.1) in
    cc

pub no_fault : (n : ℕ) (s : List ℕ) (f : Figures) (e : Fault) → f.n ≡ n → s ≡ file_of f → FaultOf n s e → ⊥
no_fault n s f e m is x =
    let a = fault_stop n s e x in
    let b = file_stop n s f m is in
    let faults = sym a.1 ∙ (ap (fault_at n s) (one_stop n s a.0 b.stop) ∙ b.none) in
    let z : ◌≡◌ {A = ℕ} 0 1 = cc in
    omega arith

-- no two networks have one file
module _ (f g : Figures) (e : file_of f ≡ file_of g) where
  one_n : f.n ≡ g.n
  unfolding file_of
  one_n = ap (λ l. get_or l 1 0) e

  of_f : FileStop f.n (file_of f) f
  of_f = file_stop f.n (file_of f) f refl refl

  of_g : FileStop f.n (file_of f) g
  of_g = file_stop f.n (file_of f) g (sym one_n) e

  one_member : (i : ℕ) → member_at f i ≡ member_at g i
  one_member i =
      let same = ap (λ (x : Spot). x.members i) (one_stop f.n (file_of f) of_f.stop of_g.stop) in
      ⊎_elim
      (λ (h : i < f.n). sym (of_f.members_are i h) ∙ (same ∙ of_g.members_are i (omega (arith, one_n))))
      (λ (h : f.n ≤ i). (f.fit i).2 h ∙ sym ((g.fit i).2 (omega (arith, one_n))))
      (cases_lt i f.n)

  one_claim : (q : ℕ) → q < 1024 → claim_of f q ≡ claim_of g q
  one_claim q h =
      let same = ap (λ (x : Spot). x.claims q) (one_stop f.n (file_of f) of_f.stop of_g.stop) in
      sym (of_f.claims_are q h) ∙ (same ∙ of_g.claims_are q h)

  one_cell : (i j : ℕ) → i < 32 → j < 32 → get_or (get_or f.claims i []) j 0 ≡ get_or (get_or g.claims i []) j 0
  one_cell i j h k =
      let d : (32 * i + j) / 32 ≡ i = omega arith in
      let m : (32 * i + j) % 32 ≡ j = omega arith in
      let P : ℕ → ℕ → Type 0 = λ a b. get_or (get_or f.claims a []) b 0 ≡ get_or (get_or g.claims a []) b 0 in
      subst (P i) m (subst (λ a. P a ((32 * i + j) % 32)) d (one_claim (32 * i + j) (omega arith)))

  one_row : (i : ℕ) → i < 32 → get_or f.claims i [] ≡ get_or g.claims i []
  one_row i h =
      let wide = f.columns i h ∙ sym (g.columns i h) in
      ext_get_or 0 (get_or f.claims i []) (get_or g.claims i []) wide (λ j k. one_cell i j h (omega (arith, f.columns i h)))

  pub one_file : f ≡ g
  one_file =
      let members = ext_get_or nobody f.members g.members (f.table ∙ sym g.table) (λ i h. one_member i) in
      let claims = ext_get_or [] f.claims g.claims (f.rows ∙ sym g.rows) (λ i h. one_row i (omega (arith, f.rows))) in
      equal_figures f g one_n members claims

-- what a load answers is the one answer that fits
pub accepts : (before after : Draft) (s : List ℕ) (r : Result (Unit {0}) Fault) → Loaded before s r after → Accepts before s r after
accepts before after s (Ok x) h f n e = (refl, one_file after.figures f (sym h.1 ∙ e))
accepts before after s (Err x) h f n e = absurd (no_fault before.figures.n s f x n e h.1)

pub only : (before after : Draft) (s : List ℕ) (r : Result (Unit {0}) Fault) → Loaded before s r after → Only before s r
only before after s (Ok x) h e y = absurd (no_fault before.figures.n s after.figures e h.0 h.1 y)
only before after s (Err x) h e y = ap Err (one_fault before.figures.n s x e h.1 y)
