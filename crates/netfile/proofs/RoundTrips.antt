-- A file that is written again.
use Rattle.std.proofs.Common.{◌≡◌, ℕ, List, ◌++◌, length, drop, Ok, Err, Result, sym, ap, ◌∙◌, inr}
use Rattle.network.specs.declared.fault.Fault.{Fault}
use Rattle.network.specs.declared.figures.Figures.{Figures}
use Rattle.network.specs.Answers.{Gives}
use Rattle.netfile.specs.Files.{file_of}
use Rattle.netfile.specs.Writes.{short_fault, Written}
use Rattle.netfile.specs.RoundTrips.{Rewritten}

pub written_again :
    (f : Figures) (s before after : List ℕ) (r : Result ℕ Fault) → s ≡ file_of f →
    Gives (short_fault f before) (λ count. Written f before count after) (after ≡ before) r → Rewritten s before r after
written_again f s before after (Ok count) e g =
    ((f, e), g.1.ends ∙ ap length (sym e), g.1.bytes ∙ ap (λ z. z ++ drop count before) (sym e))
written_again f s before after (Err x) e g = (inr (inr (f, e, g.0)), g.1)
