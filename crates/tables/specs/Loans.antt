-- LOANS: which loans stand, and which of them are kept.
--     standing l              the loans that stand, in the order in which they were made
--     Lent loan person role   the loan is of that role to that person
--     OnLoan l person role    such a loan stands
--     Filtered P xs ys        ys is what is left of xs when those are taken out of which P does not hold
use Rattle.std.specs.Prelude.{◌≡◌, ℕ, List, [], ◌∷◌, take, Some}
use Rattle.std.specs.List.{slice_get}
use Rattle.tables.specs.declared.loan.Loan.{Loan}
use Rattle.tables.specs.declared.loans.Loans.{Loans}

abbrev pub standing : Loans → List Loan
standing l = take l.count l.items

pub record Lent (loan : Loan) (person role : ℕ) : Type 0 where
  pub to_person : loan.borrower ≡ person
  pub of_role : loan.role ≡ role

pub record OnLoan (loans : List Loan) (person role : ℕ) : Type 0 where
  pub place : ℕ
  pub loan : Loan
  pub found : slice_get loans place ≡ Some loan
  pub lent : Lent loan person role

pub data Filtered {X : Type 0} (P : X → Type 0) : List X → List X → Type 0 where
  none : Filtered P [] []
  kept : {x : X} {xs ys : List X} → P x → Filtered P xs ys → Filtered P (x ∷ xs) (x ∷ ys)
  left : {x : X} {xs ys : List X} → (P x → ⊥) → Filtered P xs ys → Filtered P (x ∷ xs) ys
