-- The order of fractions is transitive.
use Rattle.std.specs.Prelude.{◌*◌, ◌<◌, ◌≤◌}
use Rattle.std.proofs.Common.{mul_right_comm, mul-le-mul_right, mul-lt-mul_of_pos_right, lt_of_mul-lt-mul_right, le_of_mul-le-mul_right, arith}
use Rattle.rules.specs.Standards.{Score}
use Rattle.rules.specs.Unit.{Below, NotAbove}

pub below_trans : (p q r : Score) → 1 ≤ p.1 → NotAbove p q → Below q r → Below p r
below_trans p q r some pq qr =
    let left : p.0 * q.1 * r.1 ≤ q.0 * p.1 * r.1 = mul-le-mul_right r.1 pq in
    let right : q.0 * r.1 * p.1 < r.0 * q.1 * p.1 = mul-lt-mul_of_pos_right qr some in
    let both : p.0 * r.1 * q.1 < r.0 * p.1 * q.1 =
    omega (arith, mul_right_comm p.0 q.1 r.1, mul_right_comm q.0 p.1 r.1, mul_right_comm r.0 q.1 p.1) in
    lt_of_mul-lt-mul_right q.1 both

pub not_above_trans : (p q r : Score) → 1 ≤ q.1 → NotAbove p q → NotAbove q r → NotAbove p r
not_above_trans p q r some pq qr =
    let left : p.0 * q.1 * r.1 ≤ q.0 * p.1 * r.1 = mul-le-mul_right r.1 pq in
    let right : q.0 * r.1 * p.1 ≤ r.0 * q.1 * p.1 = mul-le-mul_right p.1 qr in
    let both : p.0 * r.1 * q.1 ≤ r.0 * p.1 * q.1 =
    omega (arith, mul_right_comm p.0 q.1 r.1, mul_right_comm q.0 p.1 r.1, mul_right_comm r.0 q.1 p.1) in
    le_of_mul-le-mul_right both some

pub below_not_above : (p q r : Score) → 1 ≤ r.1 → Below p q → NotAbove q r → Below p r
below_not_above p q r some pq qr =
    let left : p.0 * q.1 * r.1 < q.0 * p.1 * r.1 = mul-lt-mul_of_pos_right pq some in
    let right : q.0 * r.1 * p.1 ≤ r.0 * q.1 * p.1 = mul-le-mul_right p.1 qr in
    let both : p.0 * r.1 * q.1 < r.0 * p.1 * q.1 =
    omega (arith, mul_right_comm p.0 q.1 r.1, mul_right_comm q.0 p.1 r.1, mul_right_comm r.0 q.1 p.1) in
    lt_of_mul-lt-mul_right q.1 both
