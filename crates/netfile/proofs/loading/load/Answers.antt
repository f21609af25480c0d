use Rattle.std.proofs.Common.{◌≡◌, ℕ, ◌+◌, ◌≤◌, List, length, take, drop, Some, Ok, Err, sym, refl, ap, ◌∙◌, subst, arith}
use Rattle.std.proofs.lemmas.List.{take_all, drop_all}
use Rattle.std.proofs.lemmas.Grind.{common_steps}
use Rattle.std.proofs.lemmas.Result.{err_from_is_err_and}
use Rattle.network.specs.declared.draft.Draft.{Draft}
use Rattle.network.specs.declared.fault.Fault.{Fault}
use Rattle.network.specs.declared.figures.Figures.{Figures}
use Rattle.netfile.specs.declared.due.Due.{Due}
use Rattle.netfile.specs.Records.{kind, body_length}
use Rattle.netfile.specs.Checks.{due_fault}
use Rattle.netfile.specs.Loads.{Begins, Loaded}
use Rattle.netfile.proofs.Steps.{Stands, turn, stops}
use Rattle.netfile.proofs.Unique.{accepts, only}
use Rattle.netfile.proofs.loading.load.Goals as goal

-- a check that fails where the load stands is the fault of the file
refused :
    (d : Draft) (s : List ℕ) (e : Fault) (f : Figures) (due : Due) (b : ℕ) →
    (b ≤ length s) × Stands d.figures.n f due (take b s) → due_fault d.figures.n due b (drop b s) ≡ Some e → Loaded d s (Err e) d
refused d s e f due b inv fails =
    (refl, record { network = f; due = due; byte = b; count = inv.1.0; within = inv.0; before = inv.1.1; fails = fails })

pub returns-in_err-due : goal.returns-in_err-due
returns-in_err-due c =
    let p = err_from_is_err_and c.from_residual.result c.from_residual.ensures.1 in
    let d = c.args.draft.now in
    let s = c.args.file.now in
    let f = c.loop-number.next.figures in
    let due = c.loop-number.due in
    let b = c.loop-number.byte in
    let inv = c.loop-number.invariant in
    let same = ap (λ n. due_fault n due b (drop b s)) (sym inv.1.0) ∙ ap (due_fault f.n due b) (sym c.of.ensures.bytes) in
    let at = ap (λ k. due_fault f.n due k c.of.result.bytes.now) (sym c.of.ensures.byte) in
    let all : Loaded d s c.from_residual.result d = rw (p.1, p.2) (refused d s _ f due b inv (same ∙ (at ∙ c.in_err-due.ensures.0))) in
    record { loaded = all; accepts = accepts d d s c.from_residual.result all; only = only d d s c.from_residual.result all }

pub loop-number-preserved : goal.loop-number-preserved
loop-number-preserved c =
    let f = c.loop-number.next.figures in
    let g = c.read.new.draft.figures in
    let s = c.args.file.now in
    let b = c.loop-number.byte in
    let n = c.args.draft.now.figures.n in
    let next = c.in_ok-due.due in
    let t = c.of.result.bytes.now in
    let read = c.in_ok-due.ensures in
    let at = ap (λ k. due_fault f.n c.loop-number.due k t) (sym c.of.ensures.byte) in
    let on = turn f g n b c.loop-number.due next s t c.of.ensures.bytes (λ i. omega (arith, c.type_inv.file i))
    (grind arith) c.loop-number.invariant.1 (at ∙ read.0) read.1.0 read.1.1 in
    let number : kind t ≡ c.in-Some.number.now = grind (arith, common_steps) in
    subst (λ k. (b + (1 + body_length k) ≤ length s) × Stands n g next (take (b + (1 + body_length k)) s)) number on

pub returns-in_default-due : goal.returns-in_default-due
returns-in_default-due c =
    let d = c.args.draft.now in
    let s = c.args.file.now in
    let due = c.loop-number.due in
    let b = c.loop-number.byte in
    let ended = ap (due_fault d.figures.n due b) (drop_all b s (grind arith)) in
    let fails = ended ∙ (stops d.figures.n due b c.in_default-due.not-Nothing ∙ ap Some (sym c.file_fault.ensures)) in
    let all = refused d s c.file_fault.result c.loop-number.next.figures due b c.loop-number.invariant fails in
    record { loaded = all; accepts = accepts d d s (Err c.file_fault.result) all; only = only d d s (Err c.file_fault.result) all }

pub returns : goal.returns
returns c =
    let d = c.args.draft.now in
    let s = c.args.file.now in
    let b = c.loop-number.byte in
    let next = c.loop-number.next in
    let inv = c.loop-number.invariant in
    let so = subst (λ due. Begins next.figures due (take b s)) c.in-Nothing.is inv.1.1 in
    let all : Loaded d s (Ok tt) next = (inv.1.0, sym (take_all b s (grind arith)) ∙ so) in
    record { loaded = all; accepts = accepts d next s (Ok tt) all; only = only d next s (Ok tt) all }
