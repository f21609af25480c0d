use Rattle.std.proofs.Common.{◌≡◌, ℕ, ◌<◌, ◌≤◌, List, length, get_or, sym, ap, ◌∙◌, ⊎_elim, arith, rules}
use Rattle.std.proofs.lemmas.List.{length-map, get_or-map, get_or_past, ext_get_or}
use Rattle.std.proofs.lemmas.Bool.{cases_lt}
use Rattle.network.specs.Entries.{member_at}
use Rattle.network.specs.Limits.{nobody}
use Rattle.network.specs.declared.figures.Figures.{Figures}
use Rattle.rules.specs.Classes.{classes_of}
use Rattle.rules.proofs.class_table.ClassTable.of.Goals as goal

-- the class of each member, and 0 past the table
class_at : (F : Figures) (k : ℕ) → get_or (classes_of F) k 0 ≡ (member_at F k).class
class_at F k =
    ⊎_elim
    (λ lt. get_or-map (λ m. m.class) F.members k nobody 0 (omega (arith, F.table)))
    (λ le. get_or_past (classes_of F) k 0 (omega (arith, length-map F.members (λ m. m.class), F.table)) ∙ sym (ap (λ m. m.class) (get_or_past F.members k nobody (omega (arith, F.table)))))
    (cases_lt k 32)

module _ (F : Figures) (ts : List ℕ) (long : length ts ≡ 32) (each : (k : ℕ) → k < 32 → get_or ts k 0 ≡ (member_at F k).class) where
  same : ts ≡ classes_of F
  same =
      ext_get_or 0 ts (classes_of F) (long ∙ sym (length-map F.members (λ m. m.class) ∙ F.table))
      (λ k lt. each k (omega arith) ∙ sym (class_at F k))

  low : (k : ℕ) → get_or ts k 0 ≤ 7
  low k = rw same (omega (arith, class_at F k, (F.fit k).0))

  none_past : (k : ℕ) → F.n ≤ k → get_or ts k 0 ≡ 0
  none_past k le = rw same (class_at F k ∙ ap (λ m. m.class) ((F.fit k).2 le))

pub invariant_of-result : goal.invariant_of-result
invariant_of-result c =
    let long = c.map.ensures.items.long in
    record { table = long; low = low c.args.figures.now c.map.result long (λ k lt. let called = c.map.ensures.items.at k nobody 0 lt in search rules) }

pub returns : goal.returns
returns c =
    let F : Figures = c.args.figures.now in
    let long = c.map.ensures.items.long in
    let each : (k : ℕ) → k < 32 → get_or c.map.result k 0 ≡ (member_at F k).class =
    λ k lt. let called = c.map.ensures.items.at k nobody 0 lt in search rules in
    record { entries = same F c.map.result long each; past = none_past F c.map.result long each }
