-- What stands at a place of a list.
use Rattle.std.proofs.Common.{◌≡◌, ℕ, zero, suc, ◌<◌, ◌≤◌, List, [], ◌∷◌, length, get_or, set, Some, None, refl, ap, le_of_suc-le-suc, not-suc-le-zero, arith}
use Rattle.std.specs.List.{slice_get}
use Rattle.std.proofs.lemmas.Option.{slice_get_read}

pub found_nothing : {X : Type 0} (xs : List X) (i : ℕ) → slice_get xs i ≡ None → length xs ≤ i
found_nothing [] i e = omega arith
found_nothing (x ∷ xs) zero e = let z : ◌≡◌ {A = ℕ} 0 1 = cc in let y : ⊥ = omega arith in absurd y
found_nothing (x ∷ xs) (suc i) e = omega (arith, found_nothing xs i e)

pub found_one : {X : Type 0} (xs : List X) (i : ℕ) (x y : X) → slice_get xs i ≡ Some x → slice_get xs i ≡ Some y → x ≡ y
found_one xs i x y p q = cc

pub found_here : {X : Type 0} (xs : List X) (i : ℕ) (x : X) → i < length xs → x ≡ get_or xs i x → slice_get xs i ≡ Some x
found_here xs i x lt e = slice_get_read xs (length xs) i x refl lt e

pub found_set : {X : Type 0} (xs : List X) (i : ℕ) (x : X) → i < length xs → slice_get (set xs i x) i ≡ Some x
found_set [] i x lt = absurd (not-suc-le-zero lt)
found_set (y ∷ ys) zero x lt = refl
found_set (y ∷ ys) (suc i) x lt = found_set ys i x (le_of_suc-le-suc lt)

pub found_other : {X : Type 0} (xs : List X) (i k : ℕ) (x : X) → (k ≡ i → ⊥) → slice_get (set xs i x) k ≡ slice_get xs k
found_other [] i k x ne = refl
found_other (y ∷ ys) zero zero x ne = absurd (ne refl)
found_other (y ∷ ys) zero (suc k) x ne = refl
found_other (y ∷ ys) (suc i) zero x ne = refl
found_other (y ∷ ys) (suc i) (suc k) x ne = found_other ys i k x (λ e. ne (ap suc e))
