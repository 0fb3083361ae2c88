-- BYTES: numbers as they stand in a file.
--     little n bs    the number in the first n of the bytes bs, the low byte first; a byte that is missing counts 0
use Rattle.std.specs.Prelude.{ℕ, zero, suc, ◌+◌, ◌*◌, ◌^◌, List, slice_index}

abbrev pub little : ℕ → List ℕ → ℕ
little zero bs = 0
little (suc n) bs = little n bs + slice_index bs n * 256 ^ n
