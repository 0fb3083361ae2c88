-- What the loops of local denial gather and look for.
use Rattle.std.proofs.Common.{◌≡◌, ℕ, ◌<◌, true, false, Decides, ⊎_elim}
use Rattle.std.proofs.lemmas.Bool.{cases_Bool, both_ways}
use Rattle.sets.specs.declared.set.Set.{Set}
use Rattle.sets.specs.Members.{member}
use Rattle.rules.specs.declared.seniority.Seniority.{Seniority}
use Rattle.rules.specs.Ranks.{is_senior}
use Rattle.rules.specs.PolicyLaws.{Apart}

module _ (n : Set) (table : Seniority) where
  -- some denying rule below j is senior to rule i
  abbrev pub Below : ℕ → ℕ → Type 0
  Below j i = (k : ℕ) × (k < j) × (member n k ≡ true) × (is_senior table k i ≡ true)

  -- what the two tests of the code tell of a rule
  pub apart_from : (below : Set) (i : ℕ) → ((k : ℕ) → Decides (member below k) ((j : ℕ) × (member n j ≡ true) × (is_senior table j k ≡ true))) → member below i ≡ false → ((j : ℕ) → member n j ≡ true → is_senior table i j ≡ false) → Apart n table i
  apart_from below i is none_above none_below j denies = (
    none_below j denies,
    ⊎_elim (λ y. absurd (both_ways (member below i) none_above ((is i).1 (j, denies, y)))) (λ z. z) (cases_Bool (is_senior table j i)),
  )

  pub apart_not_below : (below : Set) (i : ℕ) → ((k : ℕ) → Decides (member below k) ((j : ℕ) × (member n j ≡ true) × (is_senior table j k ≡ true))) → member below i ≡ true → Apart n table i → ⊥
  apart_not_below below i is held apart = let w = (is i).0 held in both_ways (is_senior table w.0 i) (apart w.0 w.1).1 w.2
