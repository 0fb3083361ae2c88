-- MEMBERS: which numbers a set holds.
--     bit n i         binary digit i of n is 1
--     member s i      number i is in the set s
--     some_below n f  some number below n passes the test f
--     some f          some number 0 to 63 does
--     empty s         no number is in s
--     subset s t      no number is in s and not in t
--     disjoint s t    no number is in both
--     listed k xs     k is among the numbers xs
--     these xs        the set of those of the numbers xs that are below 64
--     all             the set of all numbers 0 to 63
--     numbered n      the set of the binary digits of n that are 1, of its first 64
--     LowestFrom s from i     i is in s and at least `from`, and no lower number is both
--     EmptyFrom s from        no number that is at least `from` is in s
use Rattle.std.specs.Prelude.{◌≡◌, ℕ, zero, suc, ◌-◌, ◌/◌, ◌%◌, ◌^◌, ◌<◌, ◌≤◌, Bool, true, false, not, ◌&&◌, ◌||◌, List, [], ◌∷◌, ◌==◌, bit_or}
use Rattle.std.proofs.Common.{lit<}
use Rattle.std.proofs.lemmas.Nat.{or_lt, mod_below}
use Rattle.sets.specs.declared.set.Set.{Set}

unfoldable pub bit : ℕ → ℕ → Bool
bit n i = n / 2 ^ i % 2 == 1

unfoldable pub member : Set → ℕ → Bool
member s i = bit s.bits i

unfoldable pub some_below : ℕ → (ℕ → Bool) → Bool
some_below zero f = false
some_below (suc n) f = f n || some_below n f

unfoldable pub some : (ℕ → Bool) → Bool
some f = some_below 64 f

unfoldable pub empty : Set → Bool
empty s = not (some (member s))

unfoldable pub subset : Set → Set → Bool
subset s t = not (some (λ i. member s i && not (member t i)))

unfoldable pub disjoint : Set → Set → Bool
disjoint s t = not (some (λ i. member s i && member t i))

abbrev pub listed : ℕ → List ℕ → Bool
listed k [] = false
listed k (x ∷ xs) = k == x || listed k xs

abbrev pub these : List ℕ → Set
these [] = record { bits = 0; small = lit< tt }
these (x ∷ xs) = record {
  bits = bit_or (these xs).bits (2 ^ x % 2 ^ 64);
  small = or_lt 64 (these xs).bits (2 ^ x % 2 ^ 64) (these xs).small (mod_below (2 ^ x) (2 ^ 64) (lit< tt));
}

abbrev pub all : Set
all = record { bits = 2 ^ 64 - 1; small = lit< tt }

abbrev pub numbered : ℕ → Set
numbered n = record { bits = n % 2 ^ 64; small = mod_below n (2 ^ 64) (lit< tt) }

pub record LowestFrom (s : Set) (from i : ℕ) : Type 0 where
  pub held : member s i ≡ true
  pub reached : from ≤ i
  pub none_lower : (j : ℕ) → from ≤ j → j < i → member s j ≡ false

abbrev pub EmptyFrom : Set → ℕ → Type 0
EmptyFrom s from = (i : ℕ) → from ≤ i → member s i ≡ false
