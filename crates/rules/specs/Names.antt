-- Names in the body of a command.
use Rattle.std.specs.Prelude.{ℕ, ◌+◌, cond, ◌&&◌, List, length, take, drop, Some, None, Option, nat_le, nat_lt, slice_index}

-- a first byte n and n bytes behind it, n from 5 to 16; and what follows them
abbrev pub name_of_length : ℕ → List ℕ → Option (List ℕ × List ℕ)
name_of_length n bytes =
    cond ((nat_le 5 n && nat_le n 16) && nat_lt n (length bytes)) (Some (take n (drop 1 bytes), drop (n + 1) bytes)) None

abbrev pub name_ahead : List ℕ → Option (List ℕ × List ℕ)
name_ahead bytes = name_of_length (slice_index bytes 0) bytes
