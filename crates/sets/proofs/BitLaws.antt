-- The binary digits of a number under the operations of the code.
use Rattle.std.proofs.Common.{◌≡◌, ℕ, zero, suc, ◌+◌, ◌-◌, ◌/◌, ◌%◌, ◌^◌, ◌<◌, ◌≤◌, min, max, false, not, ◌&&◌, ◌||◌, eqb, ltb, sym, refl, ap, ◌∙◌, pow-suc, div-one, arith, pow_mono}
use native.Mathlib.Nat.{zero-div}
use lib.Bits.{bit_and, bit_or, and_step, or_step}
use Rattle.std.proofs.lemmas.Nat.{and_mask, and_shr, or_shr, shr-shr, div_below, pow_pos}
use Rattle.std.proofs.lemmas.Bool.{and_right, ne_eqb, lt-ltb, le-ltb}
use Rattle.std.proofs.lemmas.Bool.Decides.{nat_tests}
use Rattle.sets.specs.Members.{bit}

and_low : (a b : ℕ) → bit_and a b % 2 ≡ min (a % 2) (b % 2)
and_low a b = omega (arith, and_step a b)

or_low : (a b : ℕ) → bit_or a b % 2 ≡ max (a % 2) (b % 2)
or_low a b = omega (arith, or_step a b)

min_both : (x y : ℕ) → x < 2 → y < 2 → eqb (min x y) 1 ≡ (eqb x 1 && eqb y 1)
min_both x y p q = grind (arith, nat_tests)

max_either : (x y : ℕ) → x < 2 → y < 2 → eqb (max x y) 1 ≡ (eqb x 1 || eqb y 1)
max_either x y p q = grind (arith, nat_tests)

digit_below : (n : ℕ) → n % 2 < 2
digit_below n = omega arith

pub bit-and : (a b i : ℕ) → bit (bit_and a b) i ≡ (bit a i && bit b i)
unfolding bit
bit-and a b i =
    ap (λ n. eqb (n % 2) 1) (and_shr a b i) ∙ ap (λ n. eqb n 1) (and_low (a / 2 ^ i) (b / 2 ^ i))
    ∙ min_both (a / 2 ^ i % 2) (b / 2 ^ i % 2) (digit_below (a / 2 ^ i)) (digit_below (b / 2 ^ i))

pub bit-or : (a b i : ℕ) → bit (bit_or a b) i ≡ (bit a i || bit b i)
unfolding bit
bit-or a b i =
    ap (λ n. eqb (n % 2) 1) (or_shr a b i) ∙ ap (λ n. eqb n 1) (or_low (a / 2 ^ i) (b / 2 ^ i))
    ∙ max_either (a / 2 ^ i % 2) (b / 2 ^ i % 2) (digit_below (a / 2 ^ i)) (digit_below (b / 2 ^ i))

pub bit-zero : (i : ℕ) → bit 0 i ≡ false
unfolding bit
bit-zero i = rw zero-div refl

pub bit-low : (n : ℕ) → bit n 0 ≡ eqb (n % 2) 1
unfolding bit
bit-low n = let e : n / 2 ^ 0 ≡ n = div-one n in ap (λ z. eqb (z % 2) 1) e

pub bit-suc : (n i : ℕ) → bit n (suc i) ≡ bit (n / 2) i
unfolding bit
bit-suc n i =
    let e : n / 2 ^ (1 + i) ≡ n / 2 / 2 ^ i = sym (shr-shr n 1 i) in
    let s : 1 + i ≡ suc i = omega arith in
    ap (λ z. eqb (z % 2) 1) (sym (ap (λ z. n / 2 ^ z) s) ∙ e)

-- the number with one digit
pub bit-one : (r i : ℕ) → bit (2 ^ r) i ≡ eqb i r
bit-one zero zero = bit-low 1
bit-one zero (suc i) = bit-suc 1 i ∙ bit-zero i ∙ sym (ne_eqb (suc i) 0 (λ e. let z : ⊥ = omega arith in z))
bit-one (suc r) zero = bit-low (2 ^ suc r) ∙ let e : 2 ^ suc r % 2 ≡ 0 = omega (arith, pow-suc 2 r) in ap (λ z. eqb z 1) e ∙ sym (ne_eqb 0 (suc r) (λ q. let z : ⊥ = omega arith in z))
bit-one (suc r) (suc i) =
    let half : 2 ^ suc r / 2 ≡ 2 ^ r = omega (arith, pow-suc 2 r) in
    bit-suc (2 ^ suc r) i ∙ ap (λ z. bit z i) half ∙ bit-one r i ∙ grind (arith, nat_tests)

pub bit_past : (n i : ℕ) → n < 2 ^ 64 → 64 ≤ i → bit n i ≡ false
unfolding bit
bit_past n i h g =
    let p : 2 ^ 64 ≤ 2 ^ i = pow_mono g in
    let q : n / 2 ^ i ≡ 0 = omega (arith, div_below n (2 ^ i) 1 (pow_pos i) (omega arith)) in
    rw q refl

-- two numbers with the same digits are one
same_within : (n a b : ℕ) → a ≤ n → b ≤ n → ((i : ℕ) → bit a i ≡ bit b i) → a ≡ b
same_within zero a b p q s = omega arith
same_within (suc n) a b p q s =
    let halves : a / 2 ≡ b / 2 = same_within n (a / 2) (b / 2) (omega arith) (omega arith) (λ i. sym (bit-suc a i) ∙ s (suc i) ∙ bit-suc b i) in
    let low : eqb (a % 2) 1 ≡ eqb (b % 2) 1 = sym (bit-low a) ∙ s 0 ∙ bit-low b in
    grind (arith, nat_tests)

pub same_bits : (a b : ℕ) → ((i : ℕ) → bit a i ≡ bit b i) → a ≡ b
same_bits a b = same_within (a + b) a b (omega arith) (omega arith)

-- the number with the first n digits
pub bit-ones : (n i : ℕ) → bit (2 ^ n - 1) i ≡ ltb i n
bit-ones zero i = bit-zero i ∙ sym (le-ltb i 0 (omega arith))
bit-ones (suc n) zero =
    let odd : (2 ^ suc n - 1) % 2 ≡ 1 = omega (arith, pow-suc 2 n, pow_pos n) in
    bit-low (2 ^ suc n - 1) ∙ ap (λ z. eqb z 1) odd ∙ sym (lt-ltb 0 (suc n) (omega arith))
bit-ones (suc n) (suc i) =
    let half : (2 ^ suc n - 1) / 2 ≡ 2 ^ n - 1 = omega (arith, pow-suc 2 n, pow_pos n) in
    bit-suc (2 ^ suc n - 1) i ∙ ap (λ z. bit z i) half ∙ bit-ones n i ∙ grind (arith, nat_tests)

-- the number whose first w digits are the other ones
pub bit_not : (w n i : ℕ) → n < 2 ^ w → bit (2 ^ w - 1 - n) i ≡ (not (bit n i) && ltb i w)
bit_not zero n i lt =
    let none : 2 ^ 0 - 1 - n ≡ 0 = omega arith in
    ap (λ z. bit z i) none ∙ bit-zero i ∙ sym (and_right (not (bit n i)) (ltb i 0) (le-ltb i 0 (omega arith)))
bit_not (suc w) n zero lt =
    let other : (2 ^ suc w - 1 - n) % 2 ≡ 1 - n % 2 = omega (arith, pow-suc 2 w) in
    rw (bit-low (2 ^ suc w - 1 - n), bit-low n, other) (grind (arith, nat_tests))
bit_not (suc w) n (suc i) lt =
    let half : (2 ^ suc w - 1 - n) / 2 ≡ 2 ^ w - 1 - n / 2 = omega (arith, pow-suc 2 w) in
    bit-suc (2 ^ suc w - 1 - n) i ∙ ap (λ z. bit z i) half ∙ bit_not w (n / 2) i (omega (arith, pow-suc 2 w))
    ∙ ap (λ b. not b && ltb i w) (sym (bit-suc n i)) ∙ grind (arith, nat_tests)

-- what is left of a number in 64 digits
pub bit-mod : (n i : ℕ) → bit (n % 2 ^ 64) i ≡ (bit n i && ltb i 64)
bit-mod n i = ap (λ z. bit z i) (sym (and_mask n 64)) ∙ bit-and n (2 ^ 64 - 1) i ∙ ap (λ b. bit n i && b) (bit-ones 64 i)
