-- RANKS: a table of seniority.
--     is_senior t i j     by the table t, rule i is senior to rule j
--     comparable t i j    one of them is senior to the other
use Rattle.std.specs.Prelude.{ℕ, Bool, false, ◌||◌, Some, None, Option}
use Rattle.std.specs.List.{slice_get}
use Rattle.sets.specs.declared.set.Set.{Set}
use Rattle.sets.specs.Members.{member}
use Rattle.rules.specs.declared.seniority.Seniority.{Seniority}

-- there is such a row, and it holds j
abbrev pub row_holds : Option Set → ℕ → Bool
row_holds None j = false
row_holds (Some row) j = member row j

unfoldable pub is_senior : Seniority → ℕ → ℕ → Bool
is_senior t i j = row_holds (slice_get t.rows i) j

abbrev pub comparable : Seniority → ℕ → ℕ → Bool
comparable t i j = is_senior t i j || is_senior t j i
