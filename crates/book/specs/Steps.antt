-- STEPS: one record of the file, read and taken. For the private functions of the reader.
--     placed_at p r    the answer r, a fault of it with the place p
--     left d           the bytes that are not read yet
--     Stepped ...      what taking the next record answers, and what it leaves
use Rattle.std.specs.Prelude.{◌≡◌, ℕ, Bool, List, length, drop, Ok, Err, Result}
use Rattle.book.specs.declared.faults.At.{At}
use Rattle.book.specs.declared.faults.FileFault.{FileFault}
use Rattle.rules.specs.declared.rule.Rule.{Rule}
use Rattle.rules.specs.declared.entry.Entry.{Entry}
use Rattle.book.specs.declared.reader.Reader.{Reader}
use Rattle.book.specs.declared.scan.Scan.{Scan}
use Rattle.book.specs.Frames.{cut, place_after}
use Rattle.kinds.specs.Readings.{Reading}
use Rattle.book.specs.Progress.{verdict, answer, after}
use Rattle.book.specs.Scans.{progress, Room, Rest}

abbrev pub placed_at : {X F : Type 0} → ℕ → Result X F → Result X (At F)
placed_at p (Ok x) = Ok x
placed_at p (Err e) = Err (record { place = p; fault = e })

abbrev pub left : Reader → List ℕ
left d = drop d.place d.bytes.now

pub record Stepped {S : Type 0} (reads : List ℕ → Reading S) (lawful : S → Bool) (d d' : Reader) (s s' : Scan) (rs rs' : List (Rule S)) (es es' : List Entry) (r : Result (Unit {0}) FileFault) : Type 0 where
  pub answered : r ≡ answer (verdict reads lawful (length rs) (length es) (progress s rs es) d.place (left d))
  pub book : progress s' rs' es' ≡ after (progress s rs es) (verdict reads lawful (length rs) (length es) (progress s rs es) d.place (left d))
  pub room : Room s' rs' es'
  pub rest : Rest s s' rs rs' es es'
  pub place : d'.place ≡ place_after d.place (cut d.place (left d))
  pub bytes : d'.bytes.now ≡ d.bytes.now
