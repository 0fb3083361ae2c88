-- A loop over the members of a set: which of them were read.
use Rattle.std.proofs.Common.{◌≡◌, ℕ, ◌+◌, ◌<◌, true, ◌⊎◌, inl, inr, ⊎_elim, sym, subst, arith}
use Rattle.std.proofs.lemmas.Bool.{cases_eq, cases_lt, both_ways}
use Rattle.sets.specs.declared.set.Set.{Set}
use Rattle.sets.specs.Members.{member, LowestFrom, EmptyFrom}

-- one turn reads one member more
pub read_more : (s : Set) (from i k : ℕ) → LowestFrom s from i → member s k ≡ true → k < i + 1 → (k ≡ i) ⊎ (k < from)
read_more s from i k low held lt =
    ⊎_elim
    (λ same. inl same)
    (λ ne. ⊎_elim (λ before. inr before) (λ ge. absurd (both_ways (member s k) (low.none_lower k ge (omega arith)) held)) (cases_lt k from))
    (cases_eq k i)

-- where no more are left, all were read
pub read_all : (s : Set) (from k : ℕ) → EmptyFrom s from → member s k ≡ true → k < from
read_all s from k none held = ⊎_elim (λ before. before) (λ ge. absurd (both_ways (member s k) (none k ge) held)) (cases_lt k from)

-- what holds of each member that was read
pub read_on : (s : Set) (from i : ℕ) (P : ℕ → Type 0) → LowestFrom s from i → P i → ((k : ℕ) → member s k ≡ true → k < from → P k) → (k : ℕ) → member s k ≡ true → k < i + 1 → P k
read_on s from i P low here before k held lt =
    ⊎_elim (λ same. subst P (sym same) here) (λ earlier. before k held earlier) (read_more s from i k low held lt)
