-- Different things that all stand in a list are no more than it has places.
use Rattle.std.proofs.Common.{◌≡◌, ℕ, zero, suc, ◌≤◌, List, [], ◌∷◌, length, take, Some, refl, ap, suc-ne-zero, arith, rules}
use Rattle.std.specs.List.{slice_get}
use Rattle.logs.proofs.LoanPlaces.{There}

module _ {X : Type 0} where
  pub found_in_front : (n : ℕ) (xs : List X) (i : ℕ) (x : X) → slice_get (take n xs) i ≡ Some x → slice_get xs i ≡ Some x
  found_in_front zero xs i x e = search rules
  found_in_front (suc n) [] i x e = search rules
  found_in_front (suc n) (y ∷ ys) zero x e = search rules
  found_in_front (suc n) (y ∷ ys) (suc i) x e = found_in_front n ys i x e

  -- all but the one at a place
  abbrev without : List X → ℕ → List X
  without [] j = []
  without (y ∷ ys) zero = ys
  without (y ∷ ys) (suc j) = y ∷ without ys j

  without_length : (ys : List X) (j : ℕ) (x : X) → slice_get ys j ≡ Some x → length ys ≡ suc (length (without ys j))
  without_length [] j x e = search rules
  without_length (y ∷ ys) zero x e = search rules
  without_length (y ∷ ys) (suc j) x e = ap suc (without_length ys j x e)

  without_found : (ys : List X) (j k : ℕ) (x z : X) → slice_get ys j ≡ Some x → slice_get ys k ≡ Some z → (x ≡ z → ⊥) → There (without ys j) z
  without_found [] j k x z e f other = search rules
  without_found (y ∷ ys) zero zero x z e f other = search rules
  without_found (y ∷ ys) zero (suc k) x z e f other = search rules
  without_found (y ∷ ys) (suc j) zero x z e f other = search rules
  without_found (y ∷ ys) (suc j) (suc k) x z e f other = let w = without_found ys j k x z e f other in (suc w.0, w.1)

  abbrev Different : List X → Type 0
  Different xs = (i j : ℕ) (x : X) → slice_get xs i ≡ Some x → slice_get xs j ≡ Some x → i ≡ j

  abbrev AllFound : List X → List X → Type 0
  AllFound ys xs = (i : ℕ) (x : X) → slice_get xs i ≡ Some x → There ys x

  rest_found : (x : X) (xs ys : List X) (j : ℕ) → slice_get ys j ≡ Some x → Different (x ∷ xs) → AllFound ys (x ∷ xs) → AllFound (without ys j) xs
  rest_found x xs ys j here different found i z e =
      let there = found (suc i) z e in
      without_found ys j there.0 x z here there.1 (λ same. suc-ne-zero i (different (suc i) 0 z e (ap Some same)))

  pub pigeons : (xs ys : List X) → Different xs → AllFound ys xs → length xs ≤ length ys
  pigeons [] ys different found = search rules
  pigeons (x ∷ xs) ys different found =
      let here = found 0 x refl in
      let rest_different : Different xs = λ i j z e f. let next : suc i ≡ suc j = different (suc i) (suc j) z e f in omega arith in
      let fewer = pigeons xs (without ys here.0) rest_different (rest_found x xs ys here.0 here.1 different found) in
      omega (arith, without_length ys here.0 x here.1)
