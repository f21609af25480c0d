-- Bytes put over a buffer one after the other are put over it together.
use Rattle.std.proofs.Common.{◌≡◌, ℕ, ◌+◌, ◌≤◌, List, [], ◌++◌, length, take, drop, sym, ap, ◌∙◌, subst, add-zero, add_assoc, zero-add, arith}
use Rattle.std.proofs.lemmas.List.{append_assoc, length-append, take_at, drop_at, drop-drop, take-append-drop, length-take-le, length-drop}
use Rattle.network.specs.declared.figures.Figures.{Figures}
use Rattle.netfile.specs.Files.{run, network_record, members_of, claims_of, members_to, claims_to, end_record, file_of}
use Rattle.netfile.specs.Writes.{put_in, Put, Written}
use Rattle.netfile.proofs.Files.{length_file}
use Rattle.netfile.proofs.Runs.{run_more, run_skip}

pub put_as :
    {start end end' : ℕ} {xs ys before after after' : List ℕ} → Put start xs before end after → xs ≡ ys → end' ≡ end → after' ≡ after →
    Put start ys before end' after'
put_as {start} {before = before} p e n b = record {
  ends = n ∙ (p.ends ∙ ap (λ z. start + length z) e);
  bytes = b ∙ (p.bytes ∙ ap (λ z. put_in start z before) e);
}

pub put_none : (start : ℕ) (bs : List ℕ) → Put start [] bs start bs
put_none start bs = record { ends = sym (add-zero start); bytes = sym (rw add-zero (take-append-drop start bs)) }

put_put :
    (start : ℕ) (a b bs : List ℕ) → start + length a ≤ length bs → put_in (start + length a) b (put_in start a bs) ≡ put_in start (a ++ b) bs
put_put start a b bs h =
    let e : put_in start a bs ≡ (take start bs ++ a) ++ drop (start + length a) bs = sym (append_assoc (take start bs) a (drop (start + length a) bs)) in
    let k : start ≤ length bs = omega arith in
    let len : length (take start bs ++ a) ≡ start + length a = rw (length-append, length-take-le) in
    let t : take (start + length a) (put_in start a bs) ≡ take start bs ++ a = rw e (take_at (take start bs ++ a) _ _ len) in
    let d : drop (start + length a) (put_in start a bs) ≡ drop (start + length a) bs = rw e (drop_at (take start bs ++ a) _ _ len) in
    let d2 : drop ((start + length a) + length b) (put_in start a bs) ≡ drop ((start + length a) + length b) bs =
    sym (drop-drop (length b) _ (put_in start a bs)) ∙ (ap (drop (length b)) d ∙ drop-drop (length b) _ bs) in
    let n : (start + length a) + length b ≡ start + length (a ++ b) = add_assoc start (length a) (length b) ∙ ap (λ z. start + z) (sym (length-append a b)) in
    ap (λ p. p ++ (b ++ drop ((start + length a) + length b) (put_in start a bs))) t ∙
    (ap (λ q. (take start bs ++ a) ++ (b ++ q)) (d2 ∙ ap (λ z. drop z bs) n) ∙
    (append_assoc (take start bs) a _ ∙ ap (λ z. take start bs ++ z) (sym (append_assoc a b _))))

pub put_then :
    {start mid end : ℕ} {xs ys before between after : List ℕ} → Put start xs before mid between → Put mid ys between end after →
    start + length xs ≤ length before → Put start (xs ++ ys) before end after
put_then {start} {mid} {end} {xs} {ys} {before} {between} p q h = record {
  ends = omega (arith, p.ends, q.ends, length-append xs ys);
  bytes = q.bytes ∙ (ap (λ z. put_in z ys between) p.ends ∙ (ap (put_in (start + length xs) ys) p.bytes ∙ put_put start xs ys before h));
}

-- what is put leaves the buffer's length, and so room for more
pub put_room :
    {start mid : ℕ} {xs before between : List ℕ} (ys : List ℕ) → Put start xs before mid between → (start + length xs) + length ys ≤ length before →
    mid + length ys ≤ length between
put_room {start} {mid} {xs} {before} {between} ys p h =
    let front : length (take start before) ≡ start = length-take-le start before (omega arith) in
    let back = length-append xs (drop (start + length xs) before) in
    let all = length-append (take start before) (xs ++ drop (start + length xs) before) in
    omega (arith, p.ends, ap length p.bytes, front, back, all, length-drop (start + length xs) before)

-- one more of a run
pub put_more :
    (F : ℕ → List ℕ) {start mid end c : ℕ} {before between after : List ℕ} → Put start (run F 0 c) before mid between → Put mid (F c) between end after →
    start + length (run F 0 c) ≤ length before → Put start (run F 0 (c + 1)) before end after
put_more F {start} {mid} {end} {c} {before} {between} {after} p q h =
    subst (λ xs. Put start xs before end after) (sym (run_more F c)) (put_then p q h)

pub put_skip :
    (F : ℕ → List ℕ) {start end c : ℕ} {before after : List ℕ} → F c ≡ [] → Put start (run F 0 c) before end after → Put start (run F 0 (c + 1)) before end after
put_skip F {start} {end} {c} {before} {after} e p = subst (λ xs. Put start xs before end after) (sym (run_skip F c e)) p

-- the parts of the file of f, one behind the other over a buffer that has room for it
module _ (f : Figures) {before between after : List ℕ} {mid end : ℕ} (room : length (file_of f) ≤ length before) where
  pub members_put : Put 0 (network_record f.n) before mid between → Put mid (members_of f) between end after → Put 0 (members_to f f.n) before end after
  members_put p q = put_then p q (omega (arith, length_file f))

  pub claims_put : Put 0 (members_to f f.n) before mid between → Put mid (claims_of f) between end after → Put 0 (claims_to f 1024) before end after
  claims_put p q = put_then p q (omega (arith, length_file f, length-append (network_record f.n) (members_of f)))

  pub file_put : Put 0 (claims_to f 1024) before mid between → Put mid end_record between end after → Written f before end after
  unfolding file_of
  file_put p q =
      let l = length-append (network_record f.n) (members_of f) in
      let all : Put 0 (file_of f) before end after = put_then p q (omega (arith, length_file f, l, length-append (members_to f f.n) (claims_of f))) in
      let e : end ≡ length (file_of f) = all.ends ∙ zero-add (length (file_of f)) in
      record { ends = e; bytes = all.bytes ∙ ap (λ n. file_of f ++ drop n before) (sym all.ends) }
