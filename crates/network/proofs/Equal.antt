-- Figures are equal where their entries are.
use Rattle.std.proofs.Common.{◌≡◌}
use denote.Struct.Cover.{Cover-one}
use Rattle.network.specs.declared.figures.Figures.{Figures}
use Rattle.network.specs.contracts.figures.Figures.{the_type}

pub equal_figures : (f g : Figures) → f.n ≡ g.n → f.members ≡ g.members → f.claims ≡ g.claims → f ≡ g
equal_figures f g n members claims =
    Cover-one the_type.cover the_type.propositions f g (λ i. (n i, (members i, (claims i, tt))))
