-- The table of seniority of a rulebook, where a test tells which tests imply which.
use Rattle.std.proofs.Common.{◌≡◌, ℕ, zero, suc, ◌<◌, ◌≤◌, Bool, List, [], length, set, replicate, Some, None, Decides, Option, refl, ◌∙◌, add-one, arith, length-set}
use Rattle.std.proofs.lemmas.Option.{slice_get_within}
use lib.ListN.{length-replicate}
use Rattle.std.specs.List.{slice_get}
use Rattle.sets.specs.declared.set.Set.{Set}
use Rattle.sets.specs.Members.{these}
use Rattle.sets.proofs.Gathering.{Holds}
use Rattle.sets.proofs.Making.{such, such_holds, none_is}
use Rattle.kinds.specs.Kinds.{Implied}
use Rattle.rules.specs.declared.rule.Rule.{Rule}
use Rattle.rules.specs.declared.seniority.Seniority.{Seniority}
use Rattle.rules.specs.Ranks.{is_senior}
use Rattle.rules.specs.Rules.{Book, Senior}
use Rattle.rules.proofs.Deciding.{passes, passes_is}
use Rattle.rules.proofs.Places.{found_nothing}
use Rattle.rules.proofs.RankLaws.{Ranked, ranked_none, ranked_more, ranked_all}
use Rattle.rules.proofs.RuleLaws.{ImpliesAt}

module _ {V S : Type 0} (b : Book V S) (few : length b.rules ≤ 64) (implies : S → S → Bool) (told : (s t : S) → Decides (implies s t) (Implied b.meaning s t)) where
  -- the rules to which a rule is senior
  abbrev juniors : Rule S → Set
  juniors r = such (λ j. passes (λ q. implies r.test q.test) (slice_get b.rules j))

  juniors_are : (r : Rule S) → Holds (ImpliesAt b r.test) (juniors r)
  juniors_are r = such_holds (λ j. passes (λ q. implies r.test q.test) (slice_get b.rules j)) (ImpliesAt b r.test)
      (λ j. passes_is (λ q. implies r.test q.test) (λ q. Implied b.meaning r.test q.test) (λ q. told r.test q.test) (slice_get b.rules j))
      (λ j w. let lt = slice_get_within b.rules j w.0 w.1 in omega arith)

  abbrev row : Option (Rule S) → Set
  row None = these []
  row (Some r) = juniors r

  -- the rows of the first n rules
  rows : ℕ → List Set
  rows zero = replicate 64 (these [])
  rows (suc n) = set (rows n) n (row (slice_get b.rules n))

  rows_long : (n : ℕ) → length (rows n) ≡ 64
  unfolding rows
  rows_long zero = length-replicate 64 (these [])
  rows_long (suc n) = length-set (rows n) n (row (slice_get b.rules n)) ∙ rows_long n

  one_more : (n : ℕ) (o : Option (Rule S)) → slice_get b.rules n ≡ o → n < length b.rules → Ranked b n (rows n) → Ranked b (suc n) (set (rows n) n (row o))
  one_more n None found lt before = let past = found_nothing b.rules n found in let z : ⊥ = omega arith in absurd z
  one_more n (Some r) found lt before =
      rw (← add-one n) (ranked_more b n (rows n) r (juniors r) (omega (arith, rows_long n)) found (juniors_are r) before)

  ranked : (n : ℕ) → n ≤ length b.rules → Ranked b n (rows n)
  unfolding rows
  ranked zero le = ranked_none b 64 (these []) none_is
  ranked (suc n) le = one_more n (slice_get b.rules n) refl le (ranked n (omega arith))

  pub table : Seniority
  table = record { rows = rows (length b.rules); long = rows_long (length b.rules) }

  pub table_is : (i j : ℕ) → Decides (is_senior table i j) (Senior b i j)
  unfolding is_senior table
  table_is = ranked_all b (length b.rules) (rows (length b.rules)) (omega arith) (ranked (length b.rules) (omega arith))
