-- Areas of memory that a caller lends, and bytes written into them.
use Rattle.std.specs.Prelude.{ℕ, ◌+◌, List, ◌++◌, length, take, drop}

-- an area once some bytes are written over it from a place on
abbrev pub written : List ℕ → ℕ → List ℕ → List ℕ
written a at bs = take at a ++ (bs ++ drop (at + length bs) a)

-- an area once some bytes are written at its front: those behind them stay
abbrev pub fronted : List ℕ → List ℕ → List ℕ
fronted a bs = bs ++ drop (length bs) a
