-- Sets that are written as lists of their members.
use Rattle.std.proofs.Common.{◌≡◌, ℕ, ◌+◌, ◌%◌, ◌^◌, ◌<◌, Bool, true, false, ◌&&◌, ◌||◌, eqb, ltb, List, [], ◌∷◌, ◌++◌, length, get_or, take, sym, refl, ap, ◌∙◌, arith}
use Rattle.std.proofs.lemmas.List.{take_more}
use Rattle.sets.specs.declared.set.Set.{Set}
use Rattle.sets.specs.Members.{bit, member, listed, these, all, numbered}
use Rattle.sets.proofs.BitLaws.{bit-zero, bit-or, bit-one, bit-ones, bit-mod}
use Rattle.sets.proofs.MemberLaws.{same_members}

either_and : (a b c : Bool) → ((a && c) || (b && c)) ≡ ((b || a) && c)
either_and a b c = grind arith

listed-push : (k : ℕ) (xs : List ℕ) (x : ℕ) → listed k (xs ++ x ∷ []) ≡ (listed k xs || eqb k x)
listed-push k [] x = elim (eqb k x) as (λ b. (b || false) ≡ b) [ true ↦ refl | false ↦ refl ]
listed-push k (y ∷ ys) x = ap (λ b. eqb k y || b) (listed-push k ys x) ∙ grind arith

pub member-these : (xs : List ℕ) (k : ℕ) → member (these xs) k ≡ (listed k xs && ltb k 64)
unfolding member
member-these [] k = bit-zero k
member-these (x ∷ xs) k =
    bit-or (these xs).bits (2 ^ x % 2 ^ 64) k
    ∙ ap (λ b. b || bit (2 ^ x % 2 ^ 64) k) (member-these xs k)
    ∙ ap (λ b. (listed k xs && ltb k 64) || b) (bit-mod (2 ^ x) k ∙ ap (λ b. b && ltb k 64) (bit-one x k))
    ∙ either_and (listed k xs) (eqb k x) (ltb k 64)

pub member-all : (k : ℕ) → member all k ≡ ltb k 64
unfolding member
member-all k = bit-ones 64 k

flip : (a b : Bool) → (a || b) ≡ (b || a)
flip a b = grind arith

-- one turn of a loop that takes the numbers in one by one
pub listing_more : (xs : List ℕ) (i : ℕ) (s t : Set) → i < length xs → ((k : ℕ) → member s k ≡ (listed k (take i xs) && ltb k 64)) → ((k : ℕ) → member t k ≡ (member s k || (eqb k (get_or xs i 0) && ltb k 64))) → (k : ℕ) → member t k ≡ (listed k (take (i + 1) xs) && ltb k 64)
listing_more xs i s t lt before more k =
    let x = get_or xs i 0 in
    more k ∙ ap (λ b. b || (eqb k x && ltb k 64)) (before k)
    ∙ either_and (listed k (take i xs)) (eqb k x) (ltb k 64)
    ∙ ap (λ b. b && ltb k 64) (flip (eqb k x) (listed k (take i xs)) ∙ sym (listed-push k (take i xs) x) ∙ ap (listed k) (sym (take_more xs i 0 lt)))

pub listing_all : (xs : List ℕ) (s : Set) → ((k : ℕ) → member s k ≡ (listed k xs && ltb k 64)) → s ≡ these xs
listing_all xs s is = same_members s (these xs) (λ k. is k ∙ sym (member-these xs k))

-- a number that fits is the number of its set
pub numbered_is : (n m : ℕ) (h : n < 2 ^ 64) → n ≡ m → ◌≡◌ {A = Set} (record { bits = n; small = h }) (numbered m)
unfolding member
numbered_is n m h e = same_members (record { bits = n; small = h }) (numbered m) (λ k. ap (λ z. bit z k) (let q : n ≡ m % 2 ^ 64 = omega arith in q))
