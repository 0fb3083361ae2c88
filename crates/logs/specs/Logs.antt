-- LOGS: what a list of calls with their replies means, however long and however arranged.
--     Plant                    what a grader is made over: a rulebook, a policy, a register and a starting minute
--     Log                      calls with the replies to them, the newest first
--     granted r                the reply says that the call was granted
--     clock_of, records_of, seat_of    what a granted call makes of the clock, of the records, and of the person at a panel
--     clock log                the starting minute, then that of the last granted tick
--     records log              the register's records, then those of the last granted enters
--     seat log at              the person last seated at the panel by a granted open, none at first and after a granted close
--     moment log               the rulebook and the policy with those records and that clock
--     MadeBy loan log          the newest call is a granted lend that made the loan
--     Recalled loan log        the newest call is a granted recall of such a loan
--     LoanEnded loan log       it is recalled, or due, or its lender is not entitled by rules, or its borrower meets a denying rule
--     StandsAfter log loan     a granted lend made the loan, and nothing ended it since
--     ThirtyTwoStand log       thirty-two different loans stand
--     Took, Dropped, Closed    the newest call is a granted take or drop of the role at the panel, or a granted close of the panel
--     EntitledAfter log person role     entitled by rules, or by a loan that stands
--     RoleEnded at role log    it is dropped, or the panel is closed, or the panel's person is not entitled to it
--     ActiveAfter log at role a granted take made the role active, and nothing ended it since
--     after log                the situation in which the next call is answered
--     AllAnswered log          every call is answered in the situation after the calls before it
use Rattle.std.specs.Prelude.{◌≡◌, ℕ, ◌+◌, ◌≤◌, Bool, true, false, cond, ◌⊎◌, List, [], ◌∷◌, ◌++◌, length, set, Some, None, Option, Ok, Err, Result, ◌==◌}
use Rattle.std.specs.List.{slice_get}
use Rattle.rules.specs.Policies.{Judge}
use Rattle.rules.specs.Rules.{Book}
use Rattle.tables.specs.declared.loan.Loan.{Loan}
use Rattle.tables.specs.Loans.{Lent}
use Rattle.logs.specs.Moments.{Moment, ByRules, GrantedBy, DeniedBy}
use Rattle.logs.specs.Since.{Since}
use Rattle.logs.specs.Situations.{Situation, Answered}
use Rattle.logs.specs.declared.call.Call.{Call}
use Rattle.logs.specs.declared.call.Call.TheVariants.{Open, Close, Take, Drop, Lend, Recall, Enter, Tick, Entitled, Roles}
use Rattle.logs.specs.declared.exchange.Exchange.{Exchange}
use Rattle.logs.specs.declared.refusal.Refusal.{Refusal}
use Rattle.logs.specs.declared.reply.Answer.{Answer}
use Rattle.logs.specs.declared.reply.Answer.TheVariants.{Done, Stands, Active}

pub record Plant (V S : Type 0) : Type 0 where
  pub book : Book V S
  pub judge : Judge
  pub register : List V
  pub start : ℕ

abbrev pub Log : Type 0 → Type 0
Log V = List (Exchange V)

abbrev pub granted : Result Answer Refusal → Bool
granted (Ok Done) = true
granted (Ok (Stands how)) = false
granted (Ok (Active set)) = false
granted (Err f) = false

module _ {V : Type 0} where
  abbrev pub clock_of : Call V → ℕ → ℕ
  clock_of (Open panel person) old = old
  clock_of (Close panel) old = old
  clock_of (Take panel role) old = old
  clock_of (Drop panel role) old = old
  clock_of (Lend panel borrower role minutes) old = old
  clock_of (Recall panel borrower role) old = old
  clock_of (Enter person value) old = old
  clock_of (Tick minute) old = minute
  clock_of (Entitled person role) old = old
  clock_of (Roles panel) old = old

  abbrev pub records_of : Call V → List V → List V
  records_of (Open panel person) old = old
  records_of (Close panel) old = old
  records_of (Take panel role) old = old
  records_of (Drop panel role) old = old
  records_of (Lend panel borrower role minutes) old = old
  records_of (Recall panel borrower role) old = old
  records_of (Enter person value) old = set old person value
  records_of (Tick minute) old = old
  records_of (Entitled person role) old = old
  records_of (Roles panel) old = old

  abbrev pub seat_of : Call V → ℕ → Option ℕ → Option ℕ
  seat_of (Open panel person) at old = cond (panel == at) (Some person) old
  seat_of (Close panel) at old = cond (panel == at) None old
  seat_of (Take panel role) at old = old
  seat_of (Drop panel role) at old = old
  seat_of (Lend panel borrower role minutes) at old = old
  seat_of (Recall panel borrower role) at old = old
  seat_of (Enter person value) at old = old
  seat_of (Tick minute) at old = old
  seat_of (Entitled person role) at old = old
  seat_of (Roles panel) at old = old

module _ {V S : Type 0} (p : Plant V S) where
  abbrev pub clock : Log V → ℕ
  clock [] = p.start
  clock (e ∷ log) = cond (granted e.reply) (clock_of e.call (clock log)) (clock log)

  abbrev pub records : Log V → List V
  records [] = p.register
  records (e ∷ log) = cond (granted e.reply) (records_of e.call (records log)) (records log)

  abbrev pub seat : Log V → ℕ → Option ℕ
  seat [] at = None
  seat (e ∷ log) at = cond (granted e.reply) (seat_of e.call at (seat log at)) (seat log at)

  abbrev pub moment : Log V → Moment V S
  moment log = record { book = p.book; judge = p.judge; records = records log; minute = clock log }

  -- LOANS

  abbrev pub MadeBy : Loan → Log V → Type 0
  MadeBy loan [] = ⊥
  MadeBy loan (e ∷ log) =
      (panel minutes : ℕ) × (e.call ≡ Lend panel loan.borrower loan.role minutes) × (e.reply ≡ Ok Done)
      × (seat log panel ≡ Some loan.lender) × (loan.due ≡ clock log + minutes)

  abbrev pub Recalled : Loan → Log V → Type 0
  Recalled loan [] = ⊥
  Recalled loan (e ∷ log) = (panel : ℕ) × (e.call ≡ Recall panel loan.borrower loan.role) × (e.reply ≡ Ok Done)

  abbrev pub LoanEnded : Loan → Log V → Type 0
  LoanEnded loan log =
      Recalled loan log
      ⊎ ((loan.due ≤ clock log)
      ⊎ ((ByRules (moment log) loan.lender loan.role → ⊥)
      ⊎ ((i : ℕ) × DeniedBy (moment log) loan.borrower loan.role i)))

  abbrev pub StandsAfter : Log V → Loan → Type 0
  StandsAfter log loan = Since (MadeBy loan) (LoanEnded loan) log

  pub record ThirtyTwoStand (log : Log V) : Type 0 where
    pub loans : List Loan
    pub thirty_two : length loans ≡ 32
    pub different : (i j : ℕ) (loan : Loan) → slice_get loans i ≡ Some loan → slice_get loans j ≡ Some loan → i ≡ j
    pub all_stand : (i : ℕ) (loan : Loan) → slice_get loans i ≡ Some loan → StandsAfter log loan

  -- ACTIVE ROLES

  abbrev pub Took : ℕ → ℕ → Log V → Type 0
  Took at role [] = ⊥
  Took at role (e ∷ log) = (e.call ≡ Take at role) × (e.reply ≡ Ok Done)

  abbrev pub Dropped : ℕ → ℕ → Log V → Type 0
  Dropped at role [] = ⊥
  Dropped at role (e ∷ log) = (e.call ≡ Drop at role) × (e.reply ≡ Ok Done)

  abbrev pub Closed : ℕ → Log V → Type 0
  Closed at [] = ⊥
  Closed at (e ∷ log) = (e.call ≡ Close at) × (e.reply ≡ Ok Done)

  abbrev pub EntitledAfter : Log V → ℕ → ℕ → Type 0
  EntitledAfter log person role =
      ByRules (moment log) person role ⊎ ((loan : Loan) × Lent loan person role × StandsAfter log loan)

  abbrev pub SeatEntitled : Log V → ℕ → ℕ → Type 0
  SeatEntitled log at role = (person : ℕ) × (seat log at ≡ Some person) × EntitledAfter log person role

  abbrev pub RoleEnded : ℕ → ℕ → Log V → Type 0
  RoleEnded at role log = Dropped at role log ⊎ (Closed at log ⊎ (SeatEntitled log at role → ⊥))

  abbrev pub ActiveAfter : Log V → ℕ → ℕ → Type 0
  ActiveAfter log at role = Since (Took at role) (RoleEnded at role) log

  -- THE NEXT CALL

  abbrev pub after : Log V → Situation V
  after log = record {
    clock = clock log;
    persons = length p.register;
    Lawful = λ v. p.book.meaning.lawful_value v ≡ true;
    seat = seat log;
    Active = ActiveAfter log;
    ByRules = ByRules (moment log);
    GrantedBy = GrantedBy (moment log);
    DeniedBy = DeniedBy (moment log);
    Stands = StandsAfter log;
    Full = ThirtyTwoStand log;
  }

  abbrev pub AllAnswered : Log V → Type 0
  AllAnswered log =
      (later before : Log V) (e : Exchange V) → log ≡ later ++ (e ∷ before) → Answered (after before) e.call e.reply
