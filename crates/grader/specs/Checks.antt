-- CHECKS: what the private functions that check a call find. No public contract cites this page.
--     Stops f holds r          r refuses with f where something holds, and else lets pass
--     StopsUnless f good r     r refuses with f unless something is good, and else lets pass
--     Passes checks            no check holds
--     Refuses checks f         f is the refusal of the first check that holds
--     Found checks There r     r is the refusal of the first check that holds, or, where none does, a value of which There holds
--     Seated g panel seat      the seat at the panel
--     facing s g               the situation that a grader faces by the setting s, which has the records and the minute
--     OnGrounds s g person role       the person is entitled to the role, by rules or by a loan
--     GrantedSeat s g panel role seat      the seat at the panel, whose person is entitled to the role
--     StopsByVerdict s g person role r     r refuses where the person is not entitled, and tells why
--     borrower_checks s g borrower role    the checks of a lend that ask for the borrower
--     FreeToBorrow s g borrower role       the role is not on loan to the borrower, who meets no rule that denies it
--     Lending s g panel borrower role minutes lender    the lender at the panel, and that the loan may stand
--     moment_of b judge vs minute      a rulebook, a policy, records and a minute
--     Settled b judge old vs new       loans that may not stand have ended, then roles without grounds
use Rattle.std.specs.Prelude.{◌≡◌, ℕ, ◌<◌, ◌⊎◌, List, [], ◌∷◌, length, Some, Ok, Err, Result}
use Rattle.rules.specs.Policies.{Judge}
use Rattle.rules.specs.Rules.{Book}
use Rattle.tables.specs.declared.seat.Seat.{Seat}
use Rattle.tables.specs.Loans.{standing, Filtered, OnLoan as LentAlready}
use Rattle.tables.specs.Panels.{seat_at, person_at, Trimmed}
use Rattle.tables.specs.Settings.{Setting, ByRules, DeniedBy, Grounds}
use Rattle.tables.specs.Verdicts.{Lowest}
use Rattle.logs.specs.Moments.{Moment, ByTable, MayStand}
use Rattle.logs.specs.declared.refusal.Refusal.{Refusal}
use Rattle.logs.specs.declared.refusal.Refusal.TheVariants.{NothingGrants, RuleDenies, AlreadyLent, BorrowerDenied, LoansFull}
use Rattle.logs.specs.Refusals.{number}
use Rattle.logs.specs.Situations.{Situation, Check, Ungranted, Overruled, OnLoan, only}
use Rattle.logs.specs.Steps.{within}
use Rattle.grader.specs.declared.grader.Grader.{Grader}
use Rattle.grader.specs.Graders.{plant, Keeps}

abbrev pub Stops : {X : Type 0} → Refusal → Type 0 → Result X Refusal → Type 0
Stops f holds (Ok x) = holds → ⊥
Stops f holds (Err g) = (g ≡ f) × holds

abbrev pub StopsUnless : {X : Type 0} → Refusal → Type 0 → Result X Refusal → Type 0
StopsUnless f good (Ok x) = good
StopsUnless f good (Err g) = (g ≡ f) × (good → ⊥)

abbrev pub Passes : List Check → Type 0
Passes [] = Unit {0}
Passes (check ∷ checks) = ((f : Refusal) → check.1 f → ⊥) × Passes checks

abbrev pub Refuses : List Check → Refusal → Type 0
Refuses [] f = ⊥
Refuses (check ∷ checks) f = check.1 f ⊎ (((g : Refusal) → check.1 g → ⊥) × Refuses checks f)

abbrev pub Found : {X : Type 0} → List Check → (X → Type 0) → Result X Refusal → Type 0
Found checks There (Ok x) = Passes checks × There x
Found checks There (Err f) = Refuses checks f

-- the seat at the panel
abbrev pub Seated : {P : Type 0} → Grader P → ℕ → Seat → Type 0
Seated g panel seat = seat_at g.panels.seats panel ≡ Some seat

module _ {P V S : Type 0} (s : Setting V S) (g : Grader P) where
  abbrev pub facing : Situation V
  facing =
      within (plant s.book s.judge s.records s.minute) s.table
      (record { clock = s.minute; panels = g.panels.seats; loans = standing g.loans; records = s.records })

  abbrev pub OnGrounds : ℕ → ℕ → Type 0
  OnGrounds = Grounds s (standing g.loans)

  pub record GrantedSeat (panel role : ℕ) (seat : Seat) : Type 0 where
    pub there : Seated g panel seat
    pub grounds : OnGrounds seat.person role

  abbrev pub StopsByVerdict : ℕ → ℕ → Result (Unit {0}) Refusal → Type 0
  StopsByVerdict person role (Ok x) = OnGrounds person role
  StopsByVerdict person role (Err f) =
      ((f ≡ NothingGrants) × Ungranted facing role person)
      ⊎ ((i : ℕ) × (f ≡ RuleDenies i) × Overruled facing role i person)

  abbrev pub borrower_checks : ℕ → ℕ → List Check
  borrower_checks borrower role =
      only AlreadyLent (OnLoan facing borrower role)
      ∷ ((number (BorrowerDenied 0), λ f. (i : ℕ) × (f ≡ BorrowerDenied i) × Lowest (facing.DeniedBy borrower role) i)
      ∷ (only LoansFull facing.Full
      ∷ []))

  pub record FreeToBorrow (borrower role : ℕ) : Type 0 where
    pub not_lent : LentAlready (standing g.loans) borrower role → ⊥
    pub not_denied : (i : ℕ) → DeniedBy s borrower role i → ⊥
    pub room : length (standing g.loans) < 32

  pub record Lending (panel borrower role minutes lender : ℕ) : Type 0 where
    pub seated : person_at g.panels.seats panel ≡ Some lender
    pub some_minutes : 0 < minutes
    pub by_rules : ByRules s lender role
    pub free : FreeToBorrow borrower role

abbrev pub moment_of : {V S : Type 0} → Book V S → Judge → List V → ℕ → Moment V S
moment_of b judge vs minute = record { book = b; judge = judge; records = vs; minute = minute }

pub record Settled {P V S : Type 0} (b : Book V S) (judge : Judge) (old : Grader P) (vs : List V) (new : Grader P) : Type 0 where
  pub stays : Keeps old new
  pub same_clock : new.clock ≡ old.clock
  pub loans_kept : Filtered (MayStand (moment_of b judge vs old.clock) old.senior) (standing old.loans) (standing new.loans)
  pub roles_kept :
      Trimmed (λ person role. ByTable (moment_of b judge vs old.clock) old.senior person role ⊎ LentAlready (standing new.loans) person role)
      old.panels.seats new.panels.seats
