-- The rows of a table of seniority, as a loop over the rules fills them in.
use Rattle.std.proofs.Common.{◌≡◌, ℕ, zero, suc, ◌+◌, ◌<◌, ◌≤◌, false, List, length, set, replicate, Some, Decides, sym, refl, ap, ◌∙◌, subst, ⊎_elim, arith}
use Rattle.std.proofs.lemmas.Option.{slice_get_within}
use Rattle.std.specs.List.{slice_get}
use Rattle.std.proofs.lemmas.Bool.{both_ways, cases_eq}
use Rattle.std.proofs.lemmas.Bool.Decides.{Decides-like, Decides-at}
use Rattle.sets.specs.declared.set.Set.{Set}
use Rattle.sets.specs.Members.{member}
use Rattle.sets.proofs.Gathering.{Holds}
use Rattle.kinds.specs.Kinds.{Implied}
use Rattle.rules.specs.declared.rule.Rule.{Rule}
use Rattle.rules.specs.Ranks.{row_holds}
use Rattle.rules.specs.Rules.{Book, Senior}
use Rattle.rules.proofs.Places.{found_one, found_set, found_other}
use Rattle.rules.proofs.RuleLaws.{ImpliesAt}

empty_row : (n : ℕ) (s : Set) (i j : ℕ) → ((k : ℕ) → member s k ≡ false) → row_holds (slice_get (replicate n s) i) j ≡ false
empty_row zero s i j none = refl
empty_row (suc n) s zero j none = none j
empty_row (suc n) s (suc i) j none = empty_row n s i j none

module _ {V S : Type 0} (b : Book V S) where
  -- the rows of the first n rules are their juniors, and the others are empty
  abbrev pub Ranked : ℕ → List Set → Type 0
  Ranked n rows = (i j : ℕ) → Decides (row_holds (slice_get rows i) j) ((i < n) × Senior b i j)

  pub ranked_none : (n : ℕ) (s : Set) → ((k : ℕ) → member s k ≡ false) → Ranked 0 (replicate n s)
  ranked_none n s none i j = (
    (λ e. absurd (both_ways (row_holds (slice_get (replicate n s) i) j) (empty_row n s i j none) e)),
    (λ w. let lt = w.0 in let z : ⊥ = omega arith in absurd z),
  )

  pub ranked_more : (n : ℕ) (rows : List Set) (rule : Rule S) (row : Set) → n < length rows → slice_get b.rules n ≡ Some rule → Holds (ImpliesAt b rule.test) row → Ranked n rows → Ranked (n + 1) (set rows n row)
  ranked_more n rows rule row lt found implied ranked i j =
      ⊎_elim
      (λ q.
      let at : row_holds (slice_get (set rows n row) i) j ≡ member row j = ap (λ k. row_holds (slice_get (set rows n row) k) j) q ∙ ap (λ r. row_holds r j) (found_set rows n row lt) in
      Decides-at (row_holds (slice_get (set rows n row) i) j) (member row j) at
      (Decides-like (member row j)
      (λ w. (omega arith, record { upper = rule; lower = w.0; upper_found = ap (slice_get b.rules) q ∙ found; lower_found = w.1; implied = w.2 }))
      (λ w.
      let s = w.1 in
      let one : s.upper ≡ rule = found_one b.rules n s.upper rule (ap (slice_get b.rules) (sym q) ∙ s.upper_found) found in
      (s.lower, s.lower_found, subst (λ (r : Rule S). Implied b.meaning r.test s.lower.test) one s.implied))
      (implied j)))
      (λ ne.
      Decides-at (row_holds (slice_get (set rows n row) i) j) (row_holds (slice_get rows i) j) (ap (λ r. row_holds r j) (found_other rows n i row ne))
      (Decides-like (row_holds (slice_get rows i) j) (λ w. let w0 = w.0 in (omega arith, w.1)) (λ w. let w0 = w.0 in (omega arith, w.1)) (ranked i j)))
      (cases_eq i n)

  pub ranked_all : (n : ℕ) (rows : List Set) → length b.rules ≤ n → Ranked n rows → (i j : ℕ) → Decides (row_holds (slice_get rows i) j) (Senior b i j)
  ranked_all n rows past ranked i j = Decides-like (row_holds (slice_get rows i) j)
      (λ w. w.1)
      (λ s. (let lt = slice_get_within b.rules i s.upper s.upper_found in omega arith, s))
      (ranked i j)
