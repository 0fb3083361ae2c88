-- FILES: what reading a rulebook file gives, by its bytes and the memory lent.
--     good_header h           edition 2 and a policy code 1 to 3
--     Spells xs kind body     the bytes xs are one record: length of the body and kind, 2 bytes each, then the body
--     Says xs c               the bytes xs are one record, and c is what it says, or what is wrong with it
--     EachSays xss cs         the records xss say the contents cs, one by one
--     plain c                 a filler, a rule or an entry
--     rules_of cs, entries_of cs    those among the contents, in order
--     Body h cs               the header is good, the contents are plain, and they hold no more rules and entries than the limits and
--                             the memory allow
--     Opening cs              the contents may stand at the front of a file: none, or a header and its body
--     Whole h cs all          `all` is the header h, then the plain contents cs, then the end: a whole rulebook
--     BeginsWith bs P         the bytes begin with a record of which P holds
--     Saying Q xs             the record xs says a content of which Q holds
--     Misplaced cs c, Unknown c, TooMany cs c     why the content c has no place after the contents cs
--     Faulty cs bs f          after the contents cs, f is what is wrong with the bytes bs that follow
--     Accepted bytes h cs all the file is the records of a whole rulebook in a row, and nothing after them
--     Refused bytes cs f      records that say cs stand at the front of the file, and what follows them is faulty
--     Opens o h cs            the answer o counts what the contents hold, and its policy has the header's code
--     Answer cs r             what `read` answers where the records have said cs
--     Outcome ...             what `read` answers, and what the memory then holds
--     Exact                   two outcomes over the same bytes and memory are equal
use Rattle.std.specs.Prelude.{◌≡◌, ℕ, ◌+◌, ◌<◌, ◌≤◌, Bool, true, false, ◌&&◌, ◌⊎◌, List, [], ◌∷◌, ◌++◌, length, drop, Ok, Err, Result, ◌==◌, ◌≢◌, nat_le}
use Rattle.std.specs.List.{flat_map, AllByRecursion}
use Rattle.sets.specs.Bytes.{little}
use Rattle.kinds.specs.Readings.{Reading}
use Rattle.rules.specs.declared.entry.Entry.{Entry}
use Rattle.rules.specs.declared.rule.Rule.{Rule}
use Rattle.rules.specs.Verdicts.{code}
use Rattle.book.specs.declared.contents.Content.{Content}
use Rattle.book.specs.declared.contents.Content.TheVariants.{Filler, Heading, NewRule, NewEntry, End}
use Rattle.book.specs.declared.contents.Header.{Header}
use Rattle.book.specs.declared.faults.FrameFault.TheVariants.{RecordCut, BodyCut}
use Rattle.book.specs.declared.faults.RecordFault.{RecordFault}
use Rattle.book.specs.declared.faults.BookFault.TheVariants.{HeaderMisplaced, HeaderUnknown, Full, Trailing}
use Rattle.book.specs.declared.faults.Fault.{Fault}
use Rattle.book.specs.declared.faults.Fault.TheVariants.{Frame, Record, Rulebook}
use Rattle.book.specs.declared.faults.FileFault.{FileFault}
use Rattle.book.specs.declared.opened.Opened.{Opened}
use Rattle.book.specs.Contents.{content}

abbrev pub good_header : Header → Bool
good_header h = h.edition == 2 && (nat_le 1 h.policy && nat_le h.policy 3)

pub record Spells (xs : List ℕ) (kind : ℕ) (body : List ℕ) : Type 0 where
  pub long : length xs ≡ 4 + length body
  pub size : little 2 xs ≡ length body
  pub sort : little 2 (drop 2 xs) ≡ kind
  pub rest : drop 4 xs ≡ body

abbrev pub plain : {S : Type 0} → Content S → Bool
plain Filler = true
plain (Heading h) = false
plain (NewRule r) = true
plain (NewEntry e) = true
plain End = false

abbrev pub rules_of : {S : Type 0} → List (Content S) → List (Rule S)
rules_of [] = []
rules_of (Filler ∷ cs) = rules_of cs
rules_of (Heading h ∷ cs) = rules_of cs
rules_of (NewRule r ∷ cs) = r ∷ rules_of cs
rules_of (NewEntry e ∷ cs) = rules_of cs
rules_of (End ∷ cs) = rules_of cs

abbrev pub entries_of : {S : Type 0} → List (Content S) → List Entry
entries_of [] = []
entries_of (Filler ∷ cs) = entries_of cs
entries_of (Heading h ∷ cs) = entries_of cs
entries_of (NewRule r ∷ cs) = entries_of cs
entries_of (NewEntry e ∷ cs) = e ∷ entries_of cs
entries_of (End ∷ cs) = entries_of cs

-- the bytes begin with a record of which P holds
pub record BeginsWith (bs : List ℕ) (P : List ℕ → Type 0) : Type 0 where
  pub xs : List ℕ
  pub more : List ℕ
  pub front : bs ≡ xs ++ more
  pub first : P xs

-- over how tests are read and which are lawful, with memory for m rules and n entries
module _ {S : Type 0} (reads : List ℕ → Reading S) (lawful : S → Bool) (m n : ℕ) where
  pub record Says (xs : List ℕ) (c : Result (Content S) RecordFault) : Type 0 where
    pub kind : ℕ
    pub body : List ℕ
    pub spells : Spells xs kind body
    pub content_is : content reads lawful kind body ≡ c

  abbrev pub EachSays : List (List ℕ) → List (Content S) → Type 0
  EachSays [] [] = Unit {0}
  EachSays [] (c ∷ cs) = ⊥
  EachSays (xs ∷ xss) [] = ⊥
  EachSays (xs ∷ xss) (c ∷ cs) = Says xs (Ok c) × EachSays xss cs

  pub record Body (h : Header) (cs : List (Content S)) : Type 0 where
    pub header_good : good_header h ≡ true
    pub all_plain : AllByRecursion (λ c. plain c ≡ true) cs
    pub rules_few : length (rules_of cs) ≤ 64
    pub rules_fit : length (rules_of cs) ≤ m
    pub entries_few : length (entries_of cs) ≤ 32
    pub entries_fit : length (entries_of cs) ≤ n

  abbrev pub Opening : List (Content S) → Type 0
  Opening [] = Unit {0}
  Opening (Filler ∷ cs) = ⊥
  Opening (Heading h ∷ cs) = Body h cs
  Opening (NewRule r ∷ cs) = ⊥
  Opening (NewEntry e ∷ cs) = ⊥
  Opening (End ∷ cs) = ⊥

  pub record Whole (h : Header) (cs all : List (Content S)) : Type 0 where
    pub contents : all ≡ Heading h ∷ (cs ++ End ∷ [])
    pub body : Body h cs

  -- a record that says c, of which Q holds
  abbrev pub Saying : (Content S → Type 0) → List ℕ → Type 0
  Saying Q xs = (c : Content S) × Says xs (Ok c) × Q c

  -- a first record that is no header, or a later one that is
  abbrev pub Misplaced : List (Content S) → Content S → Type 0
  Misplaced [] c = (h : Header) → c ≢ Heading h
  Misplaced (first ∷ cs) c = (h : Header) × (c ≡ Heading h)

  -- a header that is not good
  abbrev pub Unknown : Content S → Type 0
  Unknown c = (h : Header) × (c ≡ Heading h) × (good_header h ≡ false)

  -- one rule or entry more than the limits or the memory allow
  abbrev pub TooMany : List (Content S) → Content S → Type 0
  TooMany cs c =
      ((r : Rule S) × (c ≡ NewRule r) × ((64 ≤ length (rules_of cs)) ⊎ (m ≤ length (rules_of cs))))
      ⊎ ((e : Entry) × (c ≡ NewEntry e) × ((32 ≤ length (entries_of cs)) ⊎ (n ≤ length (entries_of cs))))

  abbrev pub Faulty : List (Content S) → List ℕ → Fault → Type 0
  Faulty cs bs (Frame RecordCut) = Opening cs × (length bs < 4)
  Faulty cs bs (Frame BodyCut) = Opening cs × (4 ≤ length bs) × (length bs < 4 + little 2 bs)
  Faulty cs bs (Record f) = Opening cs × BeginsWith bs (λ xs. Says xs (Err f))
  Faulty cs bs (Rulebook HeaderMisplaced) = Opening cs × BeginsWith bs (Saying (Misplaced cs))
  Faulty cs bs (Rulebook HeaderUnknown) = (cs ≡ []) × BeginsWith bs (Saying Unknown)
  Faulty cs bs (Rulebook Full) = Opening cs × (cs ≢ []) × BeginsWith bs (Saying (TooMany cs))
  Faulty cs bs (Rulebook Trailing) = ((h : Header) × (inner : List (Content S)) × Whole h inner cs) × (0 < length bs)

  pub record Accepted (bytes : List ℕ) (h : Header) (cs all : List (Content S)) : Type 0 where
    pub records : List (List ℕ)
    pub in_a_row : bytes ≡ flat_map (λ xs. xs) records
    pub say : EachSays records all
    pub whole : Whole h cs all

  pub record Refused (bytes : List ℕ) (cs : List (Content S)) (f : FileFault) : Type 0 where
    pub records : List (List ℕ)
    pub rest : List ℕ
    pub in_a_row : bytes ≡ flat_map (λ xs. xs) records ++ rest
    pub say : EachSays records cs
    pub place_is : f.place ≡ length (flat_map (λ xs. xs) records)
    pub faulty : Faulty cs rest f.fault

-- the sealed book counts the rules and entries among the contents, and the policy has the header's code
pub record Opens {S : Type 0} (o : Opened) (h : Header) (cs : List (Content S)) : Type 0 where
  pub policy_is : code o.policy ≡ h.policy
  pub rules_are : o.book.rules.count ≡ length (rules_of cs)
  pub entries_are : o.book.entries.count ≡ length (entries_of cs)

module _ {S : Type 0} (reads : List ℕ → Reading S) (lawful : S → Bool) (bytes : List ℕ) (rs : List (Rule S)) (es : List Entry) where
  abbrev pub Answer : List (Content S) → Result Opened FileFault → Type 0
  Answer cs (Ok o) = (h : Header) × (inner : List (Content S)) × Accepted reads lawful (length rs) (length es) bytes h inner cs × Opens o h cs
  Answer cs (Err f) = Refused reads lawful (length rs) (length es) bytes cs f

  -- the rules and entries accepted stand at the front of the memory, and the rest of it is as it was
  pub record Outcome (rs' : List (Rule S)) (es' : List Entry) (r : Result Opened FileFault) : Type 0 where
    pub said : List (Content S)
    pub answer : Answer said r
    pub rules_after : rs' ≡ rules_of said ++ drop (length (rules_of said)) rs
    pub entries_after : es' ≡ entries_of said ++ drop (length (entries_of said)) es

abbrev pub Exact : {S : Type 0} → (List ℕ → Reading S) → (S → Bool) → Type 0
Exact {S} reads lawful =
    (bytes : List ℕ) (rs rs' rs'' : List (Rule S)) (es es' es'' : List Entry) (r q : Result Opened FileFault)
    → Outcome reads lawful bytes rs es rs' es' r → Outcome reads lawful bytes rs es rs'' es'' q → (r ≡ q) × (rs' ≡ rs'') × (es' ≡ es'')
