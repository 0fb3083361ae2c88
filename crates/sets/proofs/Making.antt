-- A set for every test of numbers.
use Rattle.std.proofs.Common.{◌≡◌, ℕ, zero, suc, ◌%◌, ◌^◌, ◌<◌, ◌≤◌, Bool, false, cond, ◌&&◌, ◌||◌, eqb, ltb, [], Decides, ap, ◌∙◌, ⊎_elim, add-one, arith, lit<}
use lib.Bits.{bit_or}
use Rattle.std.proofs.lemmas.Nat.{or_lt, mod_below}
use Rattle.std.proofs.lemmas.Bool.{cases_Bool, cond-true, cond-false}
use Rattle.std.proofs.lemmas.Bool.Decides.{not_from_Decides}
use Rattle.sets.specs.declared.set.Set.{Set}
use Rattle.sets.specs.Members.{bit, member, these}
use Rattle.sets.proofs.BitLaws.{bit-or, bit-one, bit-mod, bit-zero}
use Rattle.sets.proofs.Gathering.{Holds, Gathered, gathered_none, gathered_same, gathered_with, gathered_all}

-- a set and one number more
abbrev and_this : Set → ℕ → Set
and_this s i = record {
  bits = bit_or s.bits (2 ^ i % 2 ^ 64);
  small = or_lt 64 s.bits (2 ^ i % 2 ^ 64) s.small (mod_below (2 ^ i) (2 ^ 64) (lit< tt));
}

and_this_is : (s : Set) (i k : ℕ) → member (and_this s i) k ≡ (member s k || (eqb k i && ltb k 64))
unfolding member
and_this_is s i k =
    bit-or s.bits (2 ^ i % 2 ^ 64) k
    ∙ ap (λ b. bit s.bits k || b) (bit-mod (2 ^ i) k ∙ ap (λ b. b && ltb k 64) (bit-one i k))

pub none_is : (k : ℕ) → member (these []) k ≡ false
unfolding member
none_is k = bit-zero k

-- the numbers below n that pass
unfoldable pub such_below : ℕ → (ℕ → Bool) → Set
such_below zero f = these []
such_below (suc n) f = cond (f n) (and_this (such_below n f) n) (such_below n f)

unfoldable pub such : (ℕ → Bool) → Set
such f = such_below 64 f

module _ (f : ℕ → Bool) (P : ℕ → Type 0) (tells : (k : ℕ) → Decides (f k) (P k)) where
  gathered : (n : ℕ) → n ≤ 64 → Gathered P n (such_below n f)
  unfolding such_below
  gathered zero few = gathered_none P (these []) none_is
  gathered (suc n) few =
      let before = gathered n (omega arith) in
      rw (← add-one n) (⊎_elim
      (λ y. gathered_with P n (such_below n f) (and_this (such_below n f) n) (such_below (suc n) f) (cond-true (f n) (and_this (such_below n f) n) (such_below n f) y) (omega arith) ((tells n).0 y) (and_this_is (such_below n f) n) before)
      (λ n0. gathered_same P n (such_below n f) (such_below (suc n) f) (cond-false (f n) (and_this (such_below n f) n) (such_below n f) n0) (not_from_Decides (f n) (tells n) n0) before)
      (cases_Bool (f n)))

  -- exactly the numbers that pass, where they are below 64
  pub such_holds : ((k : ℕ) → P k → k < 64) → Holds P (such f)
  unfolding such
  such_holds small = gathered_all P 64 64 (such_below 64 f) (omega arith) small (gathered 64 (omega arith))
