-- The loop that asks each rule for its number.
use Rattle.std.proofs.Common.{◌≡◌, ℕ, ◌+◌, ◌<◌, Bool, true, false, ◌&&◌, ◌||◌, eqb, ltb, List, length, Some, Decides, sym, refl, ap, ◌∙◌, subst, ⊎_elim, arith}
use Rattle.std.specs.List.{slice_get}
use Rattle.std.proofs.lemmas.Bool.{cases_eq, cases_Bool, and_from, or_right, eq-eqb, lt-ltb}
use Rattle.std.proofs.lemmas.Option.{slice_get_cases}
use Rattle.sets.specs.declared.set.Set.{Set}
use Rattle.sets.specs.Members.{member}
use Rattle.rules.specs.declared.rule.Rule.{Rule}
use Rattle.rules.proofs.Places.{found_one}

-- of the first n rules, each was answered by whether its number is in the set, and no other number is
abbrev pub Asked : {S : Type 0} → (Rule S → Bool → Type 0) → List (Rule S) → ℕ → Set → Type 0
Asked {S} answers rules n s =
    ((k : ℕ) (rule : Rule S) → k < n → slice_get rules k ≡ Some rule → answers rule (member s k)) × ((k : ℕ) → member s k ≡ true → k < n)

module _ {S : Type 0} (answers : Rule S → Bool → Type 0) (rules : List (Rule S)) where
  -- one rule more, whose number is then in the set exactly where it passed
  asked_more : (i : ℕ) (rule : Rule S) (s u : Set) → slice_get rules i ≡ Some rule → answers rule (member u i) → ((k : ℕ) → (k ≡ i → ⊥) → member u k ≡ member s k) → Asked answers rules i s → Asked answers rules (i + 1) u
  asked_more i rule s u found here same before = (
    (λ k other lt at. ⊎_elim
        (λ q. let one : other ≡ rule = found_one rules i other rule (subst (λ n. slice_get rules n ≡ Some other) q at) found in
        subst (λ r. answers r (member u k)) (sym one) (subst (λ n. answers rule (member u n)) (sym q) here))
        (λ ne. subst (answers other) (sym (same k ne)) (before.0 k other (omega (arith, lt, ne)) at))
        (cases_eq k i)),
    (λ k held. ⊎_elim
        (λ q. omega (arith, q))
        (λ ne. let lt = before.1 k (sym (same k ne) ∙ held) in omega (arith, lt))
        (cases_eq k i)),
  )

  pub asked_same : (i : ℕ) (rule : Rule S) (s u : Set) → u ≡ s → slice_get rules i ≡ Some rule → answers rule false → Asked answers rules i s → Asked answers rules (i + 1) u
  asked_same i rule s u e found failed before =
      asked_more i rule s u found
      (⊎_elim (λ y. let lt = before.1 i (ap (λ x. member x i) (sym e) ∙ y) in let z : ⊥ = omega (arith, lt) in absurd z) (λ n. subst (answers rule) (sym n) failed) (cases_Bool (member u i)))
      (λ k ne. ap (λ x. member x k) e)
      before

  pub asked_with : (i : ℕ) (rule : Rule S) (s t u : Set) → u ≡ t → i < 64 → ((k : ℕ) → member t k ≡ (member s k || (eqb k i && ltb k 64))) → slice_get rules i ≡ Some rule → answers rule true → Asked answers rules i s → Asked answers rules (i + 1) u
  asked_with i rule s t u e lt with-is found passed before =
      let at : (k : ℕ) → member u k ≡ (member s k || (eqb k i && ltb k 64)) = λ k. ap (λ x. member x k) e ∙ with-is k in
      let here : member u i ≡ true = at i ∙ or_right (member s i) (eqb i i && ltb i 64) (and_from (eqb i i) (ltb i 64) (eq-eqb i i refl) (lt-ltb i 64 lt)) in
      asked_more i rule s u found (subst (answers rule) (sym here) passed) (λ k ne. at k ∙ grind (arith, ne)) before

-- the rules of which P holds, where each rule was answered by whether P holds of it
pub asked_all : {S : Type 0} (rules : List (Rule S)) (P : Rule S → Type 0) (s : Set) → ((i : ℕ) (rule : Rule S) → slice_get rules i ≡ Some rule → Decides (member s i) (P rule)) → ((i : ℕ) → member s i ≡ true → i < length rules) → (i : ℕ) → Decides (member s i) ((rule : Rule S) × (slice_get rules i ≡ Some rule) × P rule)
asked_all rules P s told within i = (
  (λ held. ⊎_elim
      (λ at. (at.0, at.2, (told i at.0 at.2).0 held))
      (λ past. let lt = within i held in let z : ⊥ = omega (arith, lt, past.0) in absurd z)
      (slice_get_cases rules i).1),
  (λ w. (told i w.0 w.1).1 w.2),
)
