-- READINGS: how tests stand in a file.
--     Reading S         what reading a test answers: the test and the number of bytes used, or a fault
--     Uses r n          a reading that gives a test uses no more than n bytes
--     UsesNoMoreThanThereAre reads         so it is for every byte string
--     read_level        2 bytes
--     read_set          8 bytes, for certificates and for sites
--     after_first s n r, both_halves r rest    a pair, once its first half was read
--     read_pair f g     the first half, then the second from what the first leaves
use Rattle.std.specs.Prelude.{ℕ, ◌+◌, ◌≤◌, cond, List, length, drop, Ok, Err, Result, nat_le}
use Rattle.sets.specs.declared.set.Set.{Set}
use Rattle.sets.specs.Bytes.{little}
use Rattle.sets.specs.Members.{numbered}
use Rattle.kinds.specs.declared.file_kind.TestFault.{TestFault}
use Rattle.kinds.specs.declared.file_kind.TestFault.TheVariants.{TooShort}

abbrev pub Reading : Type 0 → Type 0
Reading S = Result (S × ℕ) TestFault

abbrev pub Uses : {S : Type 0} → Reading S → ℕ → Type 0
Uses (Ok x) n = x.1 ≤ n
Uses (Err e) n = Unit {0}

abbrev pub UsesNoMoreThanThereAre : {S : Type 0} → (List ℕ → Reading S) → Type 0
UsesNoMoreThanThereAre reads = (bs : List ℕ) → Uses (reads bs) (length bs)

abbrev pub read_level : List ℕ → Reading ℕ
read_level bs = cond (nat_le 2 (length bs)) (Ok (little 2 bs, 2)) (Err TooShort)

abbrev pub read_set : List ℕ → Reading Set
read_set bs = cond (nat_le 8 (length bs)) (Ok (numbered (little 8 bs), 8)) (Err TooShort)

-- the second half, after a first that used n bytes
abbrev pub after_first : {S R : Type 0} → S → ℕ → Reading R → Reading (S × R)
after_first s n (Ok x) = Ok ((s, x.0), n + x.1)
after_first s n (Err e) = Err e

abbrev pub both_halves : {S R : Type 0} → Reading S → (ℕ → Reading R) → Reading (S × R)
both_halves (Ok x) rest = after_first x.0 x.1 (rest x.1)
both_halves (Err e) rest = Err e

abbrev pub read_pair : {S R : Type 0} → (List ℕ → Reading S) → (List ℕ → Reading R) → List ℕ → Reading (S × R)
read_pair f g bs = both_halves (f bs) (λ n. g (drop n bs))
