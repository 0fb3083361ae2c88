use Rattle.std.proofs.Common.{◌≡◌, ℕ, ◌<◌, Some}
use Rattle.std.specs.List.{slice_get}
use Rattle.tables.specs.declared.loan.Loan.{Loan}
use Rattle.tables.specs.Loans.{standing, Lent}
use Rattle.tables.proofs.loans.Loans.has.Given as goal

abbrev pub invariant-loop-loan : goal.invariant-loop-loan
invariant-loop-loan l = (k : ℕ) → k < l.loan-index → (x : Loan) → slice_get (standing l.self) k ≡ Some x → Lent x l.person l.role → ⊥
