-- What is held after a call that settles: a tick, an enter, a recall.
use Rattle.std.proofs.Common.{◌≡◌, ℕ, Bool, true, ◌⊎◌, List, set, Decides, Option, sym, refl, ap, ◌∙◌, subst}
use Rattle.std.proofs.lemmas.Bool.Decides.{Decides-like}
use Rattle.tables.specs.declared.loan.Loan.{Loan}
use Rattle.tables.specs.Loans.{standing, Filtered, Lent, OnLoan}
use Rattle.tables.specs.Panels.{active_at, Trimmed}
use Rattle.logs.specs.Moments.{ByTable, MayStand}
use Rattle.tables.proofs.LoanLaws.{filtered_twice}
use Rattle.logs.specs.declared.call.Call.{Call}
use Rattle.logs.specs.declared.call.Call.TheVariants.{Recall, Enter, Tick}
use Rattle.logs.specs.Logs.{Plant, clock_of, records_of, seat_of}
use Rattle.logs.specs.Promises.{Held}
use Rattle.logs.specs.Steps.{now_held, SeatHasGrounds, RolesBecome, LoansBecome, Became}
use Rattle.grader.specs.declared.grader.Grader.{Grader}
use Rattle.grader.specs.Checks.{Settled, moment_of}
use Rattle.grader.specs.Graders.{held}

-- `from` is the grader as settling begins: the call has set the clock, or ended the loan that it recalls
module _ {P V S : Type 0} (p : Plant V S) (from : Grader P) (records : List V) (new : Grader P) (settled : Settled p.book p.judge from records new) where
  -- settling leaves the clock as it is, so what it is done by is what holds after it
  same_setting : moment_of p.book p.judge records from.clock ≡ now_held p (held new records)
  same_setting = ap (moment_of p.book p.judge records) (sym settled.same_clock)

  loans_kept : Filtered (MayStand (now_held p (held new records)) from.senior) (standing from.loans) (standing new.loans)
  loans_kept = subst (λ s. Filtered (MayStand s from.senior) (standing from.loans) (standing new.loans)) same_setting settled.loans_kept

  roles_kept : (at role : ℕ) → Decides (active_at new.panels.seats at role) ((active_at from.panels.seats at role ≡ true) × SeatHasGrounds p from.senior (held new records) at role)
  roles_kept at role =
      let same = trimmed.same_persons at in
      Decides-like (active_at new.panels.seats at role)
      (λ w. (w.0, record { person = w.1.person; there = same ∙ w.1.there; grounds = w.1.grounds }))
      (λ w. (w.0, record { person = w.1.person; there = sym same ∙ w.1.there; grounds = w.1.grounds }))
      (trimmed.roles_with_grounds at role)
    where
      trimmed : Trimmed (λ person role. ByTable (now_held p (held new records)) from.senior person role ⊎ OnLoan (standing new.loans) person role) from.panels.seats new.panels.seats
      trimmed = subst (λ s. Trimmed (λ person role. ByTable s from.senior person role ⊎ OnLoan (standing new.loans) person role) from.panels.seats new.panels.seats) same_setting settled.roles_kept

  -- the call sets clock and records, moves nobody, and asks grounds of each role and of each loan that it leaves
  became : (call : Call V) (clock : ℕ) (before : List V) (loans : List Loan) →
      let old : Held V = record { clock = clock; panels = from.panels.seats; loans = loans; records = before } in
      from.clock ≡ clock_of call clock → records ≡ records_of call before →
      ((at : ℕ) (person : Option ℕ) → person ≡ seat_of call at person) →
      ((at role : ℕ) (b : Bool) → Decides b ((active_at from.panels.seats at role ≡ true) × SeatHasGrounds p from.senior (held new records) at role) → Decides b (RolesBecome p from.senior old call (held new records) at role)) →
      LoansBecome p from.senior old call (held new records) →
      Became p from.senior old call (held new records)
  became call clock before loans clock_set records_set seats_stay roles_set loans_set = record {
    clock_set = settled.same_clock ∙ clock_set;
    records_set = records_set;
    panels_there = settled.roles_kept.panels_there;
    seats_set = λ at. settled.roles_kept.same_persons at ∙ seats_stay at _;
    roles_set = λ at role. roles_set at role _ (roles_kept at role);
    loans_set = loans_set;
  }

  pub ticked : (clock : ℕ) → Became p from.senior (record { clock = clock; panels = from.panels.seats; loans = standing from.loans; records = records }) (Tick from.clock) (held new records)
  ticked clock = became (Tick from.clock) clock records (standing from.loans) refl refl (λ _ _. refl) (λ _ _ _ d. d) loans_kept

  pub entered : (person : ℕ) (value : V) (before : List V) → records ≡ set before person value → Became p from.senior (held from before) (Enter person value) (held new records)
  entered person value before written = became (Enter person value) from.clock before (standing from.loans) refl written (λ _ _. refl) (λ _ _ _ d. d) loans_kept

  pub recalled : (panel borrower role : ℕ) (loans : List Loan) → Filtered (λ loan. Lent loan borrower role → ⊥) loans (standing from.loans) →
      Became p from.senior (record { clock = from.clock; panels = from.panels.seats; loans = loans; records = records }) (Recall panel borrower role) (held new records)
  recalled panel borrower role loans ended = became (Recall panel borrower role) from.clock records loans refl refl (λ _ _. refl) (λ _ _ _ d. d) (filtered_twice _ _ ended loans_kept)
