-- PROGRESS: how a rulebook comes about as its records are taken in turn. For the private functions of the reader;
-- what a file says is told without it in Files.
--     Progress               what is accepted so far: the header's policy code once that came, `ended` after the end record
--     begun b                the header came
--     nothing_yet            before the first record
--     accepts m n b c        the progress b takes the content c, with memory for m rules and n entries
--     one_more limit m xs    there is room for one after the xs, by the limit and the memory
--     after b r, answer r    the progress after an answer, and the answer alone
--     by_book, by_content, by_cut    the verdict, once the layer below has answered
--     verdict ... b p bs     on the record at the front of the bytes bs, which start at the place p
use Rattle.std.specs.Prelude.{ℕ, Bool, true, false, cond, ◌&&◌, is_some, Some, None, Option, List, [], ◌∷◌, ◌++◌, length, Ok, Err, Result, nat_lt}
use Rattle.kinds.specs.Readings.{Reading}
use Rattle.rules.specs.declared.entry.Entry.{Entry}
use Rattle.rules.specs.declared.rule.Rule.{Rule}
use Rattle.book.specs.declared.contents.Content.{Content}
use Rattle.book.specs.declared.contents.Content.TheVariants.{Filler, Heading, NewRule, NewEntry, End}
use Rattle.book.specs.declared.faults.At.{At}
use Rattle.book.specs.declared.faults.FrameFault.{FrameFault}
use Rattle.book.specs.declared.faults.RecordFault.{RecordFault}
use Rattle.book.specs.declared.faults.BookFault.{BookFault}
use Rattle.book.specs.declared.faults.BookFault.TheVariants.{HeaderMisplaced, HeaderUnknown, Full}
use Rattle.book.specs.declared.faults.Fault.TheVariants.{Frame, Record, Rulebook}
use Rattle.book.specs.declared.faults.FileFault.{FileFault}
use Rattle.book.specs.Contents.{content}
use Rattle.book.specs.Files.{good_header}
use Rattle.book.specs.Frames.{Piece, cut}

pub record Progress (S : Type 0) : Type 0 where
  pub policy : Option ℕ
  pub ended : Bool
  pub rules : List (Rule S)
  pub entries : List Entry

abbrev pub begun : {S : Type 0} → Progress S → Bool
begun b = is_some b.policy

abbrev pub nothing_yet : {S : Type 0} → Progress S
nothing_yet = record { policy = None; ended = false; rules = []; entries = [] }

-- one more after the xs, of at most `limit` and with memory for m
abbrev pub one_more : {X : Type 0} → ℕ → ℕ → List X → Bool
one_more limit m xs = nat_lt (length xs) limit && nat_lt (length xs) m

abbrev pub accepts : {S : Type 0} → ℕ → ℕ → Progress S → Content S → Result (Progress S) BookFault
accepts m n b Filler = cond (begun b) (Ok b) (Err HeaderMisplaced)
accepts m n b (Heading h) =
    cond (begun b) (Err HeaderMisplaced)
    (cond (good_header h)
    (Ok (record { policy = Some h.policy; ended = b.ended; rules = b.rules; entries = b.entries }))
    (Err HeaderUnknown))
accepts m n b (NewRule r) =
    cond (begun b)
    (cond (one_more 64 m b.rules)
    (Ok (record { policy = b.policy; ended = b.ended; rules = b.rules ++ r ∷ []; entries = b.entries }))
    (Err Full))
    (Err HeaderMisplaced)
accepts m n b (NewEntry e) =
    cond (begun b)
    (cond (one_more 32 n b.entries)
    (Ok (record { policy = b.policy; ended = b.ended; rules = b.rules; entries = b.entries ++ e ∷ [] }))
    (Err Full))
    (Err HeaderMisplaced)
accepts m n b End =
    cond (begun b)
    (Ok (record { policy = b.policy; ended = true; rules = b.rules; entries = b.entries }))
    (Err HeaderMisplaced)

abbrev pub after : {S E : Type 0} → Progress S → Result (Progress S) E → Progress S
after b (Ok c) = c
after b (Err e) = b

abbrev pub answer : {X E : Type 0} → Result X E → Result (Unit {0}) E
answer (Ok c) = Ok tt
answer (Err e) = Err e

module _ {S : Type 0} (reads : List ℕ → Reading S) (lawful : S → Bool) (m n : ℕ) (b : Progress S) where
  abbrev pub by_book : ℕ → Result (Progress S) BookFault → Result (Progress S) FileFault
  by_book p (Ok c) = Ok c
  by_book p (Err e) = Err (record { place = p; fault = Rulebook e })

  abbrev pub by_content : ℕ → Result (Content S) RecordFault → Result (Progress S) FileFault
  by_content p (Ok i) = by_book p (accepts m n b i)
  by_content p (Err e) = Err (record { place = p; fault = Record e })

  abbrev pub by_cut : Result Piece (At FrameFault) → Result (Progress S) FileFault
  by_cut (Ok q) = by_content q.place (content reads lawful q.kind q.body)
  by_cut (Err e) = Err (record { place = e.place; fault = Frame e.fault })

  abbrev pub verdict : ℕ → List ℕ → Result (Progress S) FileFault
  verdict p bs = by_cut (cut p bs)
