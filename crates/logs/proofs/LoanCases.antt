-- What each granted call makes of the loans.
use Rattle.std.proofs.Common.{◌≡◌, ℕ, ◌+◌, false, ◌↔◌, ◌∷◌, Some, sym, refl, ap, ◌∙◌, subst, rules}
use Rattle.rules.specs.declared.seniority.Seniority.{Seniority}
use Rattle.tables.specs.declared.loan.Loan.{Loan}
use Rattle.tables.specs.Loans.{Lent, Filtered}
use Rattle.logs.specs.Moments.{MayStand}
use Rattle.logs.specs.Logs.{Plant, Log, clock, seat, moment, MadeBy, Recalled}
use Rattle.logs.specs.Promises.{Held, Led}
use Rattle.logs.specs.Steps.{now_held, Lends, LoansBecome}
use Rattle.logs.specs.declared.call.Call.{Call}
use Rattle.logs.specs.declared.call.Call.TheVariants.{Open, Close, Take, Drop, Lend, Recall, Enter, Tick, Entitled, Roles}
use Rattle.logs.specs.declared.exchange.Exchange.{Exchange}
use Rattle.logs.proofs.CallKinds.{done, lends, recalls, lends_none, recalls_none}
use Rattle.logs.proofs.LoanPlaces.{There, Apart}
use Rattle.logs.proofs.LoanSteps.{SameLending, LoansFollow, loans_stay, loans_lent, loans_swept}
use Rattle.logs.proofs.Moments.{Agrees, same_moment}

module _ {V S : Type 0} (p : Plant V S) (table : Seniority) (old new : Held V) (log : Log V) (led : Led p log table old) (before : Agrees p log old) where
  may : (loan : Loan) → There old.loans loan → MayStand (moment p log) table loan
  may loan there = led.loans_may_stand loan ((led.whole.loan_stands_exactly_since_its_lend loan).0 there)

  apart : Apart SameLending old.loans
  apart = led.whole.one_loan_of_a_role_to_a_borrower

  abbrev Follow : Exchange V → Type 0
  Follow e = LoansFollow p table e log old.loans new.loans

  -- a call that neither lends nor recalls, and changes neither the clock nor a record
  pub loans_unchanged : (e : Exchange V) → ((loan : Loan) → MadeBy p loan (e ∷ log) → ⊥) → ((loan : Loan) → Recalled p loan (e ∷ log) → ⊥) →
      moment p (e ∷ log) ≡ moment p log → new.loans ≡ old.loans → LoansFollow p table e log old.loans new.loans
  loans_unchanged e unmade unrecalled still = loans_stay p table e log old.loans may apart unrecalled still new.loans unmade

  unchanged : (call : Call V) → lends call ≡ false → recalls call ≡ false → moment p (done call ∷ log) ≡ moment p log → new.loans ≡ old.loans → Follow (done call)
  unchanged call no-lend no-recall = loans_unchanged (done call) (lends_none p call log no-lend) (recalls_none p call log no-recall)

  lent : (panel borrower role minutes : ℕ) → Lends p table old panel borrower role minutes new → Follow (done (Lend panel borrower role minutes))
  lent panel borrower role minutes l =
      loans_lent p table (done call) log old.loans may apart (recalls_none p call log refl) refl new.loans x
      (panel, minutes, refl, refl, seated, due) only l.added
      (subst (λ s. MayStand s table x) (same_moment p log old before) l.may_stand) l.not_lent
    where
      call : Call V
      call = Lend panel borrower role minutes

      x : Loan
      x = record { lender = l.lender; borrower = borrower; role = role; due = old.clock + minutes }

      seated : seat p log panel ≡ Some l.lender
      seated = sym (before.same_persons panel) ∙ l.seated

      due : old.clock + minutes ≡ clock p log + minutes
      due = ap (λ n. n + minutes) before.same_clock

      only : (loan : Loan) → MadeBy p loan (done (Lend panel borrower role minutes) ∷ log) → x ≡ loan
      only loan made = search rules

  swept : (call : Call V) → lends call ≡ false → Agrees p (done call ∷ log) new → (P : Loan → Type 0) →
      ((loan : Loan) → P loan ↔ ((Recalled p loan (done call ∷ log) → ⊥) × MayStand (now_held p new) table loan)) →
      Filtered P old.loans new.loans → Follow (done call)
  swept call no-lend now P passes = loans_swept p table (done call) log P old.loans new.loans apart (lends_none p call log no-lend)
      (λ loan. subst (λ s. P loan ↔ ((Recalled p loan (done call ∷ log) → ⊥) × MayStand s table loan)) (same_moment p (done call ∷ log) new now) (passes loan))

  all_swept : (call : Call V) → lends call ≡ false → recalls call ≡ false → Agrees p (done call ∷ log) new →
      Filtered (MayStand (now_held p new) table) old.loans new.loans → Follow (done call)
  all_swept call no-lend no-recall now = swept call no-lend now (MayStand (now_held p new) table) (λ loan. ((λ m. (recalls_none p call log no-recall loan, m)), (λ w. w.1)))

  recalled : (panel borrower role : ℕ) (loan : Loan) → Recalled p loan (done (Recall panel borrower role) ∷ log) ↔ Lent loan borrower role
  recalled panel borrower role loan = search rules

  pub loans_granted : (call : Call V) → Agrees p (done call ∷ log) new → LoansBecome p table old call new →
      LoansFollow p table (done call) log old.loans new.loans
  loans_granted (Open panel person) now b = unchanged (Open panel person) refl refl refl b
  loans_granted (Close panel) now b = unchanged (Close panel) refl refl refl b
  loans_granted (Take panel role) now b = unchanged (Take panel role) refl refl refl b.0
  loans_granted (Drop panel role) now b = unchanged (Drop panel role) refl refl refl b
  loans_granted (Lend panel borrower role minutes) now b = lent panel borrower role minutes b
  loans_granted (Recall panel borrower role) now b = swept (Recall panel borrower role) refl now _ (λ loan. (
    (λ w. (λ r. w.0 ((recalled panel borrower role loan).0 r), w.1)),
    (λ w. (λ lent. w.0 ((recalled panel borrower role loan).1 lent), w.1)),
  )) b
  loans_granted (Enter person value) now b = all_swept (Enter person value) refl refl now b
  loans_granted (Tick minute) now b = all_swept (Tick minute) refl refl now b
  loans_granted (Entitled person role) now b = unchanged (Entitled person role) refl refl refl b
  loans_granted (Roles panel) now b = unchanged (Roles panel) refl refl refl b
