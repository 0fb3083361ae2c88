-- Where something, such as a loan, stands in a list: in one with one more behind it, and in what a filter has left.
use Rattle.std.proofs.Common.{◌≡◌, ℕ, zero, suc, ◌⊎◌, List, [], ◌∷◌, ◌++◌, length, Some, refl, ap, inl, inr, ⊎_elim, arith, rules}
use Rattle.std.specs.List.{slice_get}
use Rattle.tables.specs.Loans.{Filtered}
use Rattle.tables.specs.Loans.Filtered.{none, kept, left}

-- it stands at some place
abbrev pub There : {X : Type 0} → List X → X → Type 0
There xs x = (i : ℕ) × (slice_get xs i ≡ Some x)

-- no two places hold a pair of which Alike holds
abbrev pub Apart : {X : Type 0} → (X → X → Type 0) → List X → Type 0
Apart {X} Alike xs = (i j : ℕ) (a b : X) → slice_get xs i ≡ Some a → slice_get xs j ≡ Some b → Alike a b → i ≡ j

module _ {X : Type 0} where
  deeper : (x y : X) (xs : List X) → There xs y → There (x ∷ xs) y
  deeper x y xs there = (suc there.0, there.1)

  -- one more
  pub last_there : (xs : List X) (x : X) → There (xs ++ x ∷ []) x
  last_there [] x = search rules
  last_there (y ∷ xs) x = deeper y x (xs ++ x ∷ []) (last_there xs x)

  pub front_there : (xs : List X) (x y : X) → There xs y → There (xs ++ x ∷ []) y
  front_there [] x y there = search rules
  front_there (z ∷ xs) x y (zero, e) = search rules
  front_there (z ∷ xs) x y (suc i, e) = deeper z y (xs ++ x ∷ []) (front_there xs x y (i, e))

  pub front_or_last : (xs : List X) (x y : X) (i : ℕ) → slice_get (xs ++ x ∷ []) i ≡ Some y → (slice_get xs i ≡ Some y) ⊎ ((i ≡ length xs) × (x ≡ y))
  front_or_last [] x y zero e = search rules
  front_or_last [] x y (suc i) e = search rules
  front_or_last (z ∷ xs) x y zero e = search rules
  front_or_last (z ∷ xs) x y (suc i) e = let w = front_or_last xs x y i e in search rules

  -- what a filter has left
  pub kept_there : {P : X → Type 0} {xs ys : List X} (y : X) → Filtered P xs ys → There ys y → There xs y × P y
  kept_there y none there = search rules
  kept_there y (kept holds f) (zero, e) = search rules
  kept_there y (kept {x = x} {xs = xs} holds f) (suc i, e) = let w = kept_there y f (i, e) in (deeper x y xs w.0, w.1)
  kept_there y (left {x = x} {xs = xs} fails f) there = let w = kept_there y f there in (deeper x y xs w.0, w.1)

  pub kept_or_left : {P : X → Type 0} {xs ys : List X} (y : X) → Filtered P xs ys → There xs y → There ys y ⊎ (P y → ⊥)
  kept_or_left y none there = search rules
  kept_or_left y (kept holds f) (zero, e) = search rules
  kept_or_left y (kept {x = x} {ys = ys} holds f) (suc i, e) = ⊎_elim (λ there. inl (deeper x y ys there)) inr (kept_or_left y f (i, e))
  kept_or_left y (left fails f) (zero, e) = search rules
  kept_or_left y (left fails f) (suc i, e) = kept_or_left y f (i, e)

  apart_rest : (Alike : X → X → Type 0) (x : X) (xs : List X) → Apart Alike (x ∷ xs) → Apart Alike xs
  apart_rest Alike x xs apart i j a b at_i at_j alike = let e : suc i ≡ suc j = apart (suc i) (suc j) a b at_i at_j alike in omega arith

  pub apart_kept : {P : X → Type 0} (Alike : X → X → Type 0) {xs ys : List X} → Filtered P xs ys → Apart Alike xs → Apart Alike ys
  apart_kept Alike none apart i j a b at_i at_j alike = search rules
  apart_kept Alike (kept holds f) apart zero zero a b at_i at_j alike = refl
  apart_kept Alike (kept holds f) apart zero (suc j) a b at_i at_j alike =
      let w = (kept_there b f (j, at_j)).0 in
      let e : 0 ≡ suc w.0 = apart 0 (suc w.0) a b at_i w.1 alike in
      search rules
  apart_kept Alike (kept holds f) apart (suc i) zero a b at_i at_j alike =
      let w = (kept_there a f (i, at_i)).0 in
      let e : suc w.0 ≡ 0 = apart (suc w.0) 0 a b w.1 at_j alike in
      search rules
  apart_kept Alike (kept {x = x} {xs = xs} holds f) apart (suc i) (suc j) a b at_i at_j alike =
      ap suc (apart_kept Alike f (apart_rest Alike x xs apart) i j a b at_i at_j alike)
  apart_kept Alike (left {x = x} {xs = xs} fails f) apart i j a b at_i at_j alike = apart_kept Alike f (apart_rest Alike x xs apart) i j a b at_i at_j alike
