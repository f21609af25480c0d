-- What a write does to its buffer.
use Rattle.std.specs.Prelude.{◌≡◌, ℕ, ◌+◌, cond, List, ◌++◌, length, take, drop, Some, None, Option, nat_lt}
use Rattle.network.specs.declared.fault.Fault.{Fault}
use Rattle.network.specs.declared.fault.Cause.TheVariants.{ShortBuffer}
use Rattle.network.specs.declared.figures.Figures.{Figures}
use Rattle.netfile.specs.Records.{file_fault}
use Rattle.netfile.specs.Files.{file_of}

-- a buffer that the file of f does not fit into
abbrev pub short_fault : Figures → List ℕ → Option Fault
short_fault f buffer = cond (nat_lt (length buffer) (length (file_of f))) (Some (file_fault ShortBuffer 0)) None

-- the buffer begins with the file of f, which is so long, and is as it was behind it
pub record Written (f : Figures) (before : List ℕ) (count : ℕ) (after : List ℕ) : Type 0 where
  pub ends : count ≡ length (file_of f)
  pub bytes : after ≡ file_of f ++ drop count before

-- no other network has the file of f
abbrev pub Sole : Figures → Type 0
Sole f = (g : Figures) → file_of g ≡ file_of f → g ≡ f

-- bs with xs over it from the byte `start` on
abbrev pub put_in : ℕ → List ℕ → List ℕ → List ℕ
put_in start xs bs = take start bs ++ (xs ++ drop (start + length xs) bs)

-- xs is put over the buffer from `start` to `end`
pub record Put (start : ℕ) (xs before : List ℕ) (end : ℕ) (after : List ℕ) : Type 0 where
  pub ends : end ≡ start + length xs
  pub bytes : after ≡ put_in start xs before
