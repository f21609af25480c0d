-- The line of a claim on a debtor, pushed behind those of the creditors before it.
use Rattle.std.proofs.Common.{◌≡◌, ◌==◌, ◌<◌, ◌≤◌, ℕ, cond, ◌++◌, List, [], ◌∷◌, length, get_or, refl, sym, ap, ◌∙◌, arith}
use Rattle.std.specs.List.{zip, range_with_len}
use Rattle.std.proofs.lemmas.List.{length-append}
use Rattle.std.proofs.lemmas.Slice.Zip.{length-zip, get_or-zip}
use Rattle.network.specs.Entries.{claim_at}
use Rattle.network.proofs.Growing.{grown}
use Rattle.network.proofs.Walks.{pair_at}
use Rattle.book.specs.declared.sheet.Sheet.{Sheet}
use Rattle.book.specs.Tables.{cells}
use Rattle.report.specs.declared.line.Line.{Line}
use Rattle.report.specs.declared.line.Line.TheVariants.{Paid}
use Rattle.report.specs.Sheets.{row_lines}

pub claim_pushed :
    {X : Type 0} (S : Sheet) (d : ℕ) (before now next : List Line) (xs : List X) (x : X) (p : ℕ × (ℕ × ℕ)) →
    S.figures.n ≤ length (get_or S.figures.claims d []) → S.figures.n ≤ length (get_or S.paid d []) →
    (length xs < length (zip (range_with_len 0 S.figures.n) (zip (get_or S.figures.claims d []) (get_or S.paid d []))))
    × (p ≡ get_or (zip (range_with_len 0 S.figures.n) (zip (get_or S.figures.claims d []) (get_or S.paid d []))) (length xs) p) →
    now ≡ before ++ row_lines S d (length xs) →
    next ≡ now ++ cond (p.1.0 == 0) [] (Paid d p.0 p.1.1 ∷ []) →
    next ≡ before ++ row_lines S d (length (xs ++ x ∷ []))
claim_pushed S d before now next xs x p claimed payable turn inv pushed =
    let n = S.figures.n in
    let k = length xs in
    let claims = get_or S.figures.claims d [] in
    let paid = get_or S.paid d [] in
    let fits : n ≤ length (zip claims paid) = rw length-zip omega (arith, claimed, payable) in
    let here = pair_at n k (zip claims paid) (0, 0) p fits turn in
    let both : p.1 ≡ (claim_at S.figures d k, cells S.paid d k) =
    here.2 ∙ get_or-zip claims paid k (0, 0) (omega (arith, claimed, here.0)) (omega (arith, payable, here.0)) in
    let line : cond (p.1.0 == 0) [] (Paid d p.0 p.1.1 ∷ []) ≡ cond (claim_at S.figures d k == 0) [] (Paid d k (cells S.paid d k) ∷ []) =
    rw here.1 (ap (λ q. cond (q.0 == 0) [] (Paid d k q.1 ∷ [])) both) in
    grown before now next (row_lines S d) k _ inv (pushed ∙ ap (λ ys. now ++ ys) line) refl ∙ ap (λ m. before ++ row_lines S d m) (sym (length-append xs (x ∷ [])))
