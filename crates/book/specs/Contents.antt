-- CONTENTS: what one record says, by its kind and body, or what is wrong with it.
--     content reads lawful kind body    by the kind: 0 filler, 1 header, 2 rule, 3 entry, 4 end
--     kind_number k                     the number of the kind k in a file
--     filler_content bs                 any number of bytes, all zero
--     header_content bs                 edition, policy code, 2 bytes each
--     rule_content reads lawful bs      granted set, denied set, 8 bytes each, then exactly a test
--     entry_content bs                  first role, second role, 1 byte each, start and duration, 4 bytes each
--     end_content bs                    no byte
--     all_zero bs                       every byte is 0
--     entry_at bs                       the entry in the bytes, whatever its fields
--     rule_from ...                     the rule, once its sets are known and its test was read
--     said f r                          the answer r, what it says made a content by f
--     SetSplit bs r                     the set in the 8 bytes at the front, and what follows them
use Rattle.std.specs.Prelude.{◌≡◌, ℕ, ◌-◌, ◌<◌, ◌≤◌, Bool, cond, List, length, drop, Ok, Err, Result, MatchResult, ◌==◌, nat_le, slice_index}
use Rattle.std.specs.Borrow.{Bor}
use Rattle.std.specs.List.{list_all}
use Rattle.sets.specs.declared.set.Set.{Set}
use Rattle.sets.specs.Bytes.{little}
use Rattle.sets.specs.Members.{numbered}
use Rattle.kinds.specs.Readings.{Reading}
use Rattle.rules.specs.declared.entry.Entry.{Entry}
use Rattle.rules.specs.declared.rule.Rule.{Rule}
use Rattle.book.specs.declared.contents.Content.{Content}
use Rattle.book.specs.declared.contents.Content.TheVariants.{Filler, Heading, NewRule, NewEntry, End}
use Rattle.book.specs.declared.contents.Header.{Header}
use Rattle.book.specs.declared.record_kind.RecordKind.{RecordKind}
use Rattle.book.specs.declared.record_kind.RecordKind.TheVariants as kinds
use Rattle.book.specs.declared.faults.RecordFault.{RecordFault}
use Rattle.book.specs.declared.faults.RecordFault.TheVariants.{UnknownKind, WrongLength, BadField, Test}
use Rattle.book.specs.Fields.{good_rule, good_entry}

abbrev pub kind_number : RecordKind → ℕ
kind_number kinds.Filler = 0
kind_number kinds.Header = 1
kind_number kinds.Rule = 2
kind_number kinds.Entry = 3
kind_number kinds.End = 4

abbrev pub all_zero : List ℕ → Bool
all_zero bs = list_all (λ b. b == 0) bs

abbrev pub filler_content : List ℕ → Result (Unit {0}) RecordFault
filler_content bs = cond (all_zero bs) (Ok tt) (Err BadField)

abbrev pub header_content : List ℕ → Result Header RecordFault
header_content bs = cond (length bs == 4) (Ok (record { edition = little 2 bs; policy = little 2 (drop 2 bs) })) (Err WrongLength)

abbrev pub entry_at : List ℕ → Entry
entry_at bs = record { first = slice_index bs 0; second = slice_index bs 1; start = little 4 (drop 2 bs); duration = little 4 (drop 6 bs) }

abbrev pub entry_content : List ℕ → Result Entry RecordFault
entry_content bs = cond (length bs == 10) (cond (good_entry (entry_at bs)) (Ok (entry_at bs)) (Err BadField)) (Err WrongLength)

abbrev pub end_content : List ℕ → Result (Unit {0}) RecordFault
end_content bs = cond (length bs == 0) (Ok tt) (Err WrongLength)

abbrev pub SetSplit : List ℕ → Result (Set × Bor (List ℕ)) RecordFault → Type 0
SetSplit bs r =
    MatchResult r
    (λ x. (8 ≤ length bs) × (x.0 ≡ numbered (little 8 bs)) × (x.1.now ≡ drop 8 bs))
    (λ e. (length bs < 8) × (e ≡ WrongLength))

-- the rule, once its sets are known and its test was read from the n bytes after them
abbrev pub rule_from : {S : Type 0} → (S → Bool) → Set → Set → ℕ → Reading S → Result (Rule S) RecordFault
rule_from lawful g d n (Ok x) =
    cond (x.1 == n)
    (cond (good_rule lawful (record { test = x.0; grants = g; denies = d })) (Ok (record { test = x.0; grants = g; denies = d })) (Err BadField))
    (Err WrongLength)
rule_from lawful g d n (Err e) = Err (Test e)

abbrev pub rule_content : {S : Type 0} → (List ℕ → Reading S) → (S → Bool) → List ℕ → Result (Rule S) RecordFault
rule_content reads lawful bs =
    cond (nat_le 16 (length bs))
    (rule_from lawful (numbered (little 8 bs)) (numbered (little 8 (drop 8 bs))) (length bs - 16) (reads (drop 16 bs)))
    (Err WrongLength)

abbrev pub said : {X Y : Type 0} → (X → Y) → Result X RecordFault → Result Y RecordFault
said f (Ok x) = Ok (f x)
said f (Err e) = Err e

abbrev pub content : {S : Type 0} → (List ℕ → Reading S) → (S → Bool) → ℕ → List ℕ → Result (Content S) RecordFault
content reads lawful kind bs =
    cond (kind == 0) (said (λ _. Filler) (filler_content bs))
    (cond (kind == 1) (said Heading (header_content bs))
    (cond (kind == 2) (said NewRule (rule_content reads lawful bs))
    (cond (kind == 3) (said NewEntry (entry_content bs))
    (cond (kind == 4) (said (λ _. End) (end_content bs))
    (Err UnknownKind)))))
