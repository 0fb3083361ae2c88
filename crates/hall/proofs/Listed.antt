-- The members of a set as they are read out.
use Rattle.std.proofs.Common.{◌≡◌, ℕ, zero, suc, ◌+◌, ◌-◌, ◌<◌, ◌≤◌, false, true, List, [], ◌∷◌, ◌++◌, append_assoc, refl, ap, ◌∙◌, subst, sym, ⊎_elim, cond, codes, arith}
use Rattle.std.proofs.lemmas.Bool.{cases_eq}
use Rattle.sets.specs.declared.set.Set.{Set}
use Rattle.sets.specs.Members.{member, empty, subset, all, LowestFrom, EmptyFrom}
use Rattle.hall.specs.Shown.{members_from, with_commas, numbers_text}

pub none_left : (s : Set) (n k : ℕ) → EmptyFrom s n → members_from s n k ≡ []
unfolding members_from
none_left s n zero none = refl
none_left s n (suc k) none =
    ap (λ b. cond b (n ∷ members_from s (n + 1) k) (members_from s (n + 1) k)) (none n (omega arith))
    ∙ none_left s (n + 1) k (λ i ge. none i (omega (arith, ge)))

pub next_is : (s : Set) (n k i : ℕ) → LowestFrom s n i → i < n + k → members_from s n k ≡ i ∷ members_from s (i + 1) (n + k - (i + 1))
unfolding members_from
next_is s n zero i low lt = let ge = low.reached in let z : ⊥ = omega (arith, lt, ge) in absurd z
next_is s n (suc k) i low lt = ⊎_elim
    (λ same.
    let here : member s n ≡ true = subst (λ j. member s j ≡ true) same low.held in
    let left : n + suc k - (n + 1) ≡ k = omega arith in
    ap (λ b. cond b (n ∷ members_from s (n + 1) k) (members_from s (n + 1) k)) here
    ∙ ap (λ j. n ∷ members_from s (n + 1) j) (sym left)
    ∙ ap (λ j. j ∷ members_from s (j + 1) (n + suc k - (j + 1))) (sym same))
    (λ ne.
    let ge = low.reached in
    let not_here : member s n ≡ false = low.none_lower n (omega arith) (omega (arith, ge, ne)) in
    let later : LowestFrom s (n + 1) i = record { held = low.held; reached = omega (arith, ge, ne); none_lower = λ j above. low.none_lower j (omega (arith, above)) } in
    let left : n + 1 + k - (i + 1) ≡ n + suc k - (i + 1) = omega arith in
    ap (λ b. cond b (n ∷ members_from s (n + 1) k) (members_from s (n + 1) k)) not_here
    ∙ next_is s (n + 1) k i later (omega (arith, lt))
    ∙ ap (λ j. i ∷ members_from s (i + 1) j) left)
    (cases_eq i n)

-- the first member, and those that are left after it
pub first_listed : (s : Set) (from i : ℕ) → from ≡ 0 → LowestFrom s from i → i < 64 → i ∷ members_from s (i + 1) (64 - (i + 1)) ≡ members_from s 0 64
first_listed s from i start low lt = sym (next_is s 0 64 i (subst (λ n. LowestFrom s n i) start low) lt)

-- one member more
pub one_listed : (s : Set) (from i first : ℕ) (before : List ℕ) → LowestFrom s from i → i < 64 → from ≤ 64
    → first ∷ (before ++ members_from s from (64 - from)) ≡ members_from s 0 64
    → first ∷ ((before ++ i ∷ []) ++ members_from s (i + 1) (64 - (i + 1))) ≡ members_from s 0 64
one_listed s from i first before low lt small all =
    let left : from + (64 - from) - (i + 1) ≡ 64 - (i + 1) = omega (arith, small) in
    let turn : members_from s from (64 - from) ≡ i ∷ members_from s (i + 1) (64 - (i + 1)) =
    next_is s from (64 - from) i low (omega (arith, lt, small)) ∙ ap (λ k. i ∷ members_from s (i + 1) k) left in
    ap (λ ms. first ∷ ms) (append_assoc before (i ∷ []) (members_from s (i + 1) (64 - (i + 1))))
    ∙ ap (λ ms. first ∷ (before ++ ms)) (sym turn) ∙ all

-- what is written of a set with some members, but not all
pub numbers_listed : (s : Set) (ns : List ℕ) → empty s ≡ false → subset all s ≡ false → ns ≡ members_from s 0 64 → with_commas ns ≡ numbers_text s
numbers_listed s ns some missing is =
    ap with_commas is
    ∙ sym (ap (λ b. cond b (codes "-") (cond (subset all s) (codes "all") (with_commas (members_from s 0 64)))) some
    ∙ ap (λ b. cond b (codes "all") (with_commas (members_from s 0 64))) missing)
