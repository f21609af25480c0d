-- Four bytes and the number that stands in them.
use Rattle.std.proofs.Common.{◌≡◌, ℕ, zero, suc, ◌+◌, ◌*◌, ◌/◌, ◌%◌, ◌<◌, ◌≤◌, List, [], ◌∷◌, length, get_or, take, drop, refl, ap, arith}
use Rattle.std.proofs.lemmas.List.{drop_more}
use Rattle.netfile.specs.Files.{four_bytes, number_at}

abbrev pub Bytes : List ℕ → Type 0
Bytes t = (i : ℕ) → get_or t i 0 < 256

pub bytes_of_number :
    (a b c d : ℕ) → a < 256 → b < 256 → c < 256 → d < 256 →
    four_bytes (a * 16777216 + b * 65536 + c * 256 + d) ≡ a ∷ b ∷ c ∷ d ∷ []
bytes_of_number a b c d p q r s =
    let x = a * 16777216 + b * 65536 + c * 256 + d in
    let e1 : x / 16777216 % 256 ≡ a = omega arith in
    let e2 : x / 65536 % 256 ≡ b = omega arith in
    let e3 : x / 256 % 256 ≡ c = omega arith in
    let e4 : x % 256 ≡ d = omega arith in
    rw (e1, e2, e3, e4)

pub bytes_at :
    (t : List ℕ) (k : ℕ) → Bytes t →
    four_bytes (number_at t k) ≡ get_or t k 0 ∷ get_or t (k + 1) 0 ∷ get_or t (k + 2) 0 ∷ get_or t (k + 3) 0 ∷ []
bytes_at t k h =
    bytes_of_number (get_or t k 0) (get_or t (k + 1) 0) (get_or t (k + 2) 0) (get_or t (k + 3) 0) (h k) (h (k + 1)) (h (k + 2)) (h (k + 3))

pub number_of_bytes :
    (x : ℕ) → x < 4294967296 →
    (x / 16777216 % 256) * 16777216 + (x / 65536 % 256) * 65536 + (x / 256 % 256) * 256 + x % 256 ≡ x
number_of_bytes x h =
    let h1 : x / 65536 ≡ (x / 16777216) * 256 + x / 65536 % 256 = omega arith in
    let h2 : x / 256 ≡ (x / 65536) * 256 + x / 256 % 256 = omega arith in
    let h3 : x ≡ (x / 256) * 256 + x % 256 = omega arith in
    let h4 : x / 16777216 % 256 ≡ x / 16777216 = omega arith in
    omega arith

-- the bytes from the k-th on, one by one
abbrev pub each : List ℕ → ℕ → ℕ → List ℕ
each t k zero = []
each t k (suc c) = get_or t k 0 ∷ each t (k + 1) c

pub take_each : (t : List ℕ) (k c : ℕ) → k + c ≤ length t → take c (drop k t) ≡ each t k c
take_each t k zero h = refl
take_each t k (suc c) h =
    let l : k < length t = omega arith in
    rw (drop_more t k 0 l) (ap (λ r. get_or t k 0 ∷ r) (take_each t (k + 1) c (omega arith)))
