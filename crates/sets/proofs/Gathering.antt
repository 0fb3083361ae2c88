-- A set that a loop gathers, number by number.
use Rattle.std.proofs.Common.{◌≡◌, ℕ, ◌+◌, ◌<◌, ◌≤◌, false, ◌&&◌, ◌||◌, eqb, ltb, Decides, sym, ap, ◌∙◌, ⊎_elim, arith}
use Rattle.std.proofs.lemmas.Bool.{cases_eq, both_ways, or_cases, or_left, or_right, and_parts, and_from, eqb-true, eq-eqb, ltb-true, lt-ltb}
use Rattle.std.proofs.lemmas.Bool.Decides.{Decides-like}
use Rattle.sets.specs.declared.set.Set.{Set}
use Rattle.sets.specs.Members.{member}

-- the set holds exactly the numbers of which P holds
abbrev pub Holds : (ℕ → Type 0) → Set → Type 0
Holds P s = (k : ℕ) → Decides (member s k) (P k)

-- where a loop has come to i: exactly the numbers below i of which P holds
abbrev pub Gathered : (ℕ → Type 0) → ℕ → Set → Type 0
Gathered P i s = Holds (λ k. (k < i) × P k) s

pub holds_none : (P : ℕ → Type 0) (s : Set) → ((k : ℕ) → member s k ≡ false) → ((k : ℕ) → P k → ⊥) → Holds P s
holds_none P s empty none k = ((λ e. absurd (both_ways (member s k) (empty k) e)), (λ p. absurd (none k p)))

-- the same set, of which the same is said otherwise
pub holds_like : (P Q : ℕ → Type 0) (s t : Set) → t ≡ s → ((k : ℕ) → P k → Q k) → ((k : ℕ) → Q k → P k) → Holds P s → Holds Q t
holds_like P Q s t e there back held k = (
  (λ m. there k ((held k).0 (ap (λ u. member u k) (sym e) ∙ m))),
  (λ q. ap (λ u. member u k) e ∙ (held k).1 (back k q)),
)

-- one number more
pub holds_with : (P Q : ℕ → Type 0) (s t u : Set) (i : ℕ) → u ≡ t → ((k : ℕ) → member t k ≡ (member s k || (eqb k i && ltb k 64))) → ((k : ℕ) → P k → Q k) → (i < 64 → Q i) → ((k : ℕ) → Q k → (k ≡ i → ⊥) → P k) → ((k : ℕ) → Q k → k < 64) → Holds P s → Holds Q u
holds_with P Q s t u i e with-is keeps here back small held k =
    let at : member u k ≡ (member s k || (eqb k i && ltb k 64)) = ap (λ x. member x k) e ∙ with-is k in (
      (λ m. ⊎_elim
          (λ old. keeps k ((held k).0 old))
          (λ new. let p = and_parts (eqb k i) (ltb k 64) new in let q : k ≡ i = eqb-true k i p.0 in let lt : i < 64 = rw q at (ltb-true k 64 p.1) in rw q (here lt))
          (or_cases (member s k) (eqb k i && ltb k 64) (sym at ∙ m))),
      (λ q. at ∙ ⊎_elim
          (λ same. or_right (member s k) (eqb k i && ltb k 64) (and_from (eqb k i) (ltb k 64) (eq-eqb k i same) (lt-ltb k 64 (small k q))))
          (λ ne. or_left (member s k) (eqb k i && ltb k 64) ((held k).1 (back k q ne)))
          (cases_eq k i)),
    )

pub gathered_none : (P : ℕ → Type 0) (s : Set) → ((k : ℕ) → member s k ≡ false) → Gathered P 0 s
gathered_none P s empty = holds_none (λ k. (k < 0) × P k) s empty (λ k p. let lt = p.0 in let z : ⊥ = omega arith in z)

-- one turn that leaves i out
pub gathered_same : (P : ℕ → Type 0) (i : ℕ) (s t : Set) → t ≡ s → (P i → ⊥) → Gathered P i s → Gathered P (i + 1) t
gathered_same P i s t e none = holds_like (λ k. (k < i) × P k) (λ k. (k < i + 1) × P k) s t e
    (λ k p. let lt = p.0 in (omega arith, p.1))
    (λ k p. (⊎_elim (λ q. absurd (none (rw q at p.1))) (λ ne. let lt = p.0 in omega arith) (cases_eq k i), p.1))

-- one turn that takes i in
pub gathered_with : (P : ℕ → Type 0) (i : ℕ) (s t u : Set) → u ≡ t → i < 64 → P i → ((k : ℕ) → member t k ≡ (member s k || (eqb k i && ltb k 64))) → Gathered P i s → Gathered P (i + 1) u
gathered_with P i s t u e lt here with-is = holds_with (λ k. (k < i) × P k) (λ k. (k < i + 1) × P k) s t u i e with-is
    (λ k p. let w = p.0 in (omega arith, p.1))
    (λ _. (omega arith, here))
    (λ k p ne. (let w = p.0 in omega arith, p.1))
    (λ k p. let w = p.0 in omega arith)

-- the loop has passed n, and P holds only below n
pub gathered_all : (P : ℕ → Type 0) (n i : ℕ) (s : Set) → n ≤ i → ((k : ℕ) → P k → k < n) → Gathered P i s → Holds P s
gathered_all P n i s past below g k = Decides-like (member s k) (λ p. p.1) (λ p. (let lt = below k p in omega arith, p)) (g k)
