-- A file as the reader goes through it: records that make progress, and where it stops.
use Rattle.std.proofs.Common.{◌≡◌, ℕ, ◌+◌, ◌<◌, ◌≤◌, Bool, true, false, List, [], ◌∷◌, ◌++◌, length, drop, Some, Ok, Err, Result}
use Rattle.std.specs.List.{flat_map}
use Rattle.sets.specs.Bytes.{little}
use Rattle.kinds.specs.Readings.{Reading}
use Rattle.rules.specs.declared.entry.Entry.{Entry}
use Rattle.rules.specs.declared.rule.Rule.{Rule}
use Rattle.rules.specs.Verdicts.{code}
use Rattle.book.specs.declared.contents.Content.{Content}
use Rattle.book.specs.declared.faults.BookFault.{BookFault}
use Rattle.book.specs.declared.faults.RecordFault.{RecordFault}
use Rattle.book.specs.declared.faults.FrameFault.TheVariants.{RecordCut, BodyCut}
use Rattle.book.specs.declared.faults.BookFault.TheVariants.{HeaderMisplaced, HeaderUnknown, Full, Trailing}
use Rattle.book.specs.declared.faults.Fault.{Fault}
use Rattle.book.specs.declared.faults.Fault.TheVariants.{Frame, Record, Rulebook}
use Rattle.book.specs.declared.faults.FileFault.{FileFault}
use Rattle.book.specs.declared.opened.Opened.{Opened}
use Rattle.book.specs.Files.{Says}
use Rattle.book.specs.Progress.{Progress, nothing_yet, accepts}

module _ {S : Type 0} (reads : List ℕ → Reading S) (lawful : S → Bool) (m n : ℕ) where
  -- the book b, not ended, takes the record xs and is then c
  pub record Takes (b : Progress S) (xs : List ℕ) (c : Progress S) : Type 0 where
    pub going : b.ended ≡ false
    pub item : Content S
    pub says : Says reads lawful m n xs (Ok item)
    pub taken : accepts m n b item ≡ Ok c

  -- the records xss, one after the other, lead from b to c
  abbrev pub Makes : Progress S → List (List ℕ) → Progress S → Type 0
  Makes b [] c = b ≡ c
  Makes b (xs ∷ xss) c = (d : Progress S) × Takes b xs d × Makes d xss c

  -- the bytes begin with a record that the book b refuses
  pub record Rejects (b : Progress S) (bytes : List ℕ) (e : BookFault) : Type 0 where
    pub xs : List ℕ
    pub more : List ℕ
    pub front : bytes ≡ xs ++ more
    pub item : Content S
    pub says : Says reads lawful m n xs (Ok item)
    pub refused : accepts m n b item ≡ Err e

  -- the bytes begin with a record that is faulty by itself
  pub record Broken (bytes : List ℕ) (e : RecordFault) : Type 0 where
    pub xs : List ℕ
    pub more : List ℕ
    pub front : bytes ≡ xs ++ more
    pub says : Says reads lawful m n xs (Err e)

  -- why no further record is taken from the bytes
  abbrev pub Stops : Progress S → List ℕ → Fault → Type 0
  Stops b bytes (Frame RecordCut) = (b.ended ≡ false) × (length bytes < 4)
  Stops b bytes (Frame BodyCut) = (b.ended ≡ false) × ((4 ≤ length bytes) × (length bytes < 4 + little 2 bytes))
  Stops b bytes (Record e) = (b.ended ≡ false) × Broken bytes e
  Stops b bytes (Rulebook HeaderMisplaced) = (b.ended ≡ false) × Rejects b bytes HeaderMisplaced
  Stops b bytes (Rulebook HeaderUnknown) = (b.ended ≡ false) × Rejects b bytes HeaderUnknown
  Stops b bytes (Rulebook Full) = (b.ended ≡ false) × Rejects b bytes Full
  Stops b bytes (Rulebook Trailing) = (b.ended ≡ true) × (0 < length bytes)

  -- the whole file is records that make the book b, the last of them the end record
  pub record MadeUp (bytes : List ℕ) (b : Progress S) : Type 0 where
    pub records : List (List ℕ)
    pub whole : bytes ≡ flat_map (λ xs. xs) records
    pub makes : Makes nothing_yet records b
    pub ended : b.ended ≡ true

  -- records make the book b, and what follows them is faulty
  pub record Stopped (bytes : List ℕ) (b : Progress S) (f : FileFault) : Type 0 where
    pub records : List (List ℕ)
    pub rest : List ℕ
    pub whole : bytes ≡ flat_map (λ xs. xs) records ++ rest
    pub makes : Makes nothing_yet records b
    pub place : f.place ≡ length (flat_map (λ xs. xs) records)
    pub faulty : Stops b rest f.fault

pub same_some : {x y : ℕ} → Some x ≡ Some y → x ≡ y
same_some e = cc

-- the answer counts what the progress b holds
pub record Counts {S : Type 0} (o : Opened) (b : Progress S) : Type 0 where
  pub policy_is : Some (code o.policy) ≡ b.policy
  pub rules_are : o.book.rules.count ≡ length b.rules
  pub entries_are : o.book.entries.count ≡ length b.entries

module _ {S : Type 0} (reads : List ℕ → Reading S) (lawful : S → Bool) (bytes : List ℕ) (rs : List (Rule S)) (es : List Entry) where
  abbrev pub Came : Progress S → Result Opened FileFault → Type 0
  Came b (Ok o) = MadeUp reads lawful (length rs) (length es) bytes b × Counts o b
  Came b (Err f) = Stopped reads lawful (length rs) (length es) bytes b f

  pub record Run (rs' : List (Rule S)) (es' : List Entry) (r : Result Opened FileFault) : Type 0 where
    pub book : Progress S
    pub came : Came book r
    pub rules : rs' ≡ book.rules ++ drop (length book.rules) rs
    pub entries : es' ≡ book.entries ++ drop (length book.entries) es
