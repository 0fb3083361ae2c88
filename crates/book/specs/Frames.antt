-- FRAMES: how records stand one after the other in a file. For the private functions of the reader.
--     Piece            a record as it stands in the file: where it starts, its kind, its body
--     piece_at p bs    the record that the bytes bs at the place p would be
--     piece_end q      where it ends
--     piece_of x       a record of the code, by what its body holds
--     cut p bs         the record at the front of the bytes bs, which start at the place p; or which part of it is cut off
--     place_after p r  where the next record starts, after the answer r at the place p
--     part_cut r       the code's answer, by what the body holds
use Rattle.std.specs.Prelude.{ℕ, ◌+◌, cond, List, length, take, drop, Ok, Err, Result, nat_le}
use Rattle.sets.specs.Bytes.{little}
use Rattle.book.specs.declared.faults.At.{At}
use Rattle.book.specs.declared.faults.FrameFault.{FrameFault}
use Rattle.book.specs.declared.faults.FrameFault.TheVariants.{RecordCut, BodyCut}
use Rattle.book.specs.declared.frames.Part.{Part}

pub record Piece : Type 0 where
  pub place : ℕ
  pub kind : ℕ
  pub body : List ℕ

abbrev pub piece_at : ℕ → List ℕ → Piece
piece_at p bs = record { place = p; kind = little 2 (drop 2 bs); body = take (little 2 bs) (drop 4 bs) }

abbrev pub cut : ℕ → List ℕ → Result Piece (At FrameFault)
cut p bs =
    cond (nat_le 4 (length bs))
    (cond (nat_le (4 + little 2 bs) (length bs)) (Ok (piece_at p bs)) (Err (record { place = p; fault = BodyCut })))
    (Err (record { place = p; fault = RecordCut }))

abbrev pub piece_end : Piece → ℕ
piece_end q = q.place + (4 + length q.body)

abbrev pub place_after : {E : Type 0} → ℕ → Result Piece E → ℕ
place_after p (Ok q) = piece_end q
place_after p (Err e) = p

abbrev pub piece_of : Part → Piece
piece_of x = record { place = x.place; kind = x.kind; body = x.body.now }

abbrev pub part_cut : {E : Type 0} → Result Part E → Result Piece E
part_cut (Ok x) = Ok (piece_of x)
part_cut (Err e) = Err e
