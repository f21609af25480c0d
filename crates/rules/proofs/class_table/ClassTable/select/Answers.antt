use Rattle.std.proofs.Common.{◌≡◌, ℕ, ◌<◌, ◌≤◌, List, length, get_or, arith}
use Rattle.std.proofs.lemmas.List.FromFn.{fill_by_all}
use Rattle.rules.specs.Classes.{class_claim, of_class}
use Rattle.rules.proofs.ClassAwards.{class_admitted}
use Rattle.rules.proofs.class_table.ClassTable.select.Goals as goal

filled : (ts cs out : List ℕ) (t n : ℕ) → length out ≡ length cs → length out ≤ n → ((j : ℕ) → j < n → get_or out j 0 ≡ class_claim ts t cs j) → out ≡ of_class ts t cs
filled ts cs out t n long past each = fill_by_all (class_claim ts t cs) out _ 0 long (λ k lt. each k (omega arith))

pub invariant_of-result : goal.invariant_of-result
invariant_of-result c =
    let ts : List ℕ = c.args.self.now.classes in
    let cs : List ℕ = c.args.claims.now.list.now in
    rw (filled ts cs c.loop-k.room c.args.class c.loop-k.k (omega arith) (omega arith) c.loop-k.invariant)
    (record { admitted = class_admitted ts c.args.class cs c.args.claims.now.admitted })

pub returns : goal.returns
returns c =
    filled c.args.self.now.classes c.args.claims.now.list.now c.loop-k.room c.args.class c.loop-k.k (omega arith) (omega arith) c.loop-k.invariant
