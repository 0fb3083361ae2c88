-- FAULTS: the number and the layer of each, and how a refusal is shown.
--     number_of f       the number that a refusal gives
--     layer_of f        frame, record or rulebook
--     layer_name l      the layer in a word
--     refusal_text r    the number, the layer and the byte place of a refusal, in words
use Rattle.std.specs.Prelude.{ℕ, List, ◌++◌, codes}
use Rattle.std.specs.Fmt.{decimal}
use Rattle.kinds.specs.declared.file_kind.TestFault.TheVariants.{TooShort}
use Rattle.book.specs.declared.faults.FrameFault.TheVariants.{RecordCut, BodyCut}
use Rattle.book.specs.declared.faults.RecordFault.TheVariants.{UnknownKind, WrongLength, BadField, Test}
use Rattle.book.specs.declared.faults.BookFault.TheVariants.{HeaderMisplaced, HeaderUnknown, Full, Trailing}
use Rattle.book.specs.declared.faults.Fault.{Fault}
use Rattle.book.specs.declared.faults.Fault.TheVariants.{Frame, Record, Rulebook}
use Rattle.book.specs.declared.faults.FileFault.{FileFault}
use Rattle.book.specs.declared.faults.Layer.{Layer}
use Rattle.book.specs.declared.faults.Layer.TheVariants as layer

abbrev pub number_of : Fault → ℕ
number_of (Frame RecordCut) = 1
number_of (Frame BodyCut) = 2
number_of (Record UnknownKind) = 3
number_of (Record WrongLength) = 4
number_of (Record (Test TooShort)) = 4
number_of (Record BadField) = 5
number_of (Rulebook HeaderMisplaced) = 6
number_of (Rulebook HeaderUnknown) = 7
number_of (Rulebook Full) = 8
number_of (Rulebook Trailing) = 9

abbrev pub layer_of : Fault → Layer
layer_of (Frame f) = layer.Frame
layer_of (Record f) = layer.Record
layer_of (Rulebook f) = layer.Rulebook

abbrev pub layer_name : Layer → List ℕ
layer_name layer.Frame = codes "frame"
layer_name layer.Record = codes "record"
layer_name layer.Rulebook = codes "rulebook"

abbrev pub refusal_text : FileFault → List ℕ
refusal_text r =
    decimal (number_of r.fault) ++ (codes " (" ++ (layer_name (layer_of r.fault) ++ (codes ") at byte " ++ decimal r.place)))
