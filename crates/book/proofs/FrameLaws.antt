-- The record at the front of the bytes.
use Rattle.std.proofs.Common.{◌≡◌, ℕ, ◌+◌, ◌<◌, ◌≤◌, List, length, take, drop, Ok, Err, rules}
use Rattle.sets.specs.Bytes.{little}
use Rattle.book.specs.declared.faults.FrameFault.TheVariants.{RecordCut, BodyCut}
use Rattle.book.specs.Frames.{cut, piece_at}

pub cut_short : (p : ℕ) (bs : List ℕ) → length bs < 4 → cut p bs ≡ Err (record { place = p; fault = RecordCut })
cut_short p bs h = search rules

pub cut_long : (p : ℕ) (bs : List ℕ) → 4 ≤ length bs → length bs < 4 + little 2 bs → cut p bs ≡ Err (record { place = p; fault = BodyCut })
cut_long p bs h k = search rules

pub cut_piece : (p : ℕ) (bs : List ℕ) → 4 ≤ length bs → 4 + little 2 bs ≤ length bs → cut p bs ≡ Ok (piece_at p bs)
cut_piece p bs h k = search rules

-- the record that is cut, by its parts
pub cut_is : (p kind : ℕ) (body bs : List ℕ) → 4 ≤ length bs → 4 + little 2 bs ≤ length bs → kind ≡ little 2 (drop 2 bs) → body ≡ take (little 2 bs) (drop 4 bs) → Ok (record { place = p; kind = kind; body = body }) ≡ cut p bs
cut_is p kind body bs h k e d = let z = cut_piece p bs h k in cc
