-- A run of bytes written into an output, whose other bytes are unchanged.
use Rattle.std.specs.Prelude.{ℕ, ◌+◌, List, ◌++◌, length, take, drop}

abbrev pub put_at : List ℕ → ℕ → List ℕ → List ℕ
put_at l at bytes = take at l ++ (bytes ++ drop (at + length bytes) l)
