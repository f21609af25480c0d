use Rattle.std.proofs.Common.{ap, length, refl, replicate, [], arith}
use Rattle.std.proofs.lemmas.List.{get_or-replicate}
use Rattle.book.proofs.Tables.{no_cells, none_spent}
use Rattle.book.proofs.book.Book.open.Goals as goal

pub invariant_of-result : goal.invariant_of-result
invariant_of-result c =
    record {
      rows = refl;
      columns = λ i l. ap length (get_or-replicate 32 i (replicate 32 0) [] l);
      capped = λ i j. omega (arith, no_cells 32 32 i j);
      solvent = λ i a. omega (arith, none_spent c.into_figures.result.n 32 32 i);
    }

pub returns : goal.returns
returns c = record { figures = c.into_figures.ensures; payments = λ i j. no_cells 32 32 i j }
