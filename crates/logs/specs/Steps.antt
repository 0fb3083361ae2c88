-- STEPS: what one call makes of what a grader holds. The contracts of the calls say it for all inputs; what is promised of
-- whole logs is shown from it.
--     now_held held            the rulebook and the policy with the records and the clock that are held
--     within table held        the situation that is read off what is held, where seniority is what the table says
--     Grounds table held person role         the person is entitled to the role, by rules or by a loan
--     SeatHasGrounds table held at role      the panel's person is entitled to the role
--     RolesBecome old call new at role       the role is active at the panel after the granted call
--     LoansBecome old call new               the loans that stand after the granted call
--     Became table old call new              what is held after a granted call
--     Performed table old call r new         the reply to a call, and what is held after it
use Rattle.std.specs.Prelude.{◌≡◌, ℕ, ◌+◌, ◌≤◌, true, false, ◌⊎◌, [], ◌∷◌, ◌++◌, length, Some, Decides, Result, ◌≢◌}
use Rattle.std.specs.List.{slice_get}
use Rattle.rules.specs.declared.seniority.Seniority.{Seniority}
use Rattle.tables.specs.Loans.{Lent, OnLoan, Filtered}
use Rattle.tables.specs.Panels.{seat_at, person_at, active_at, HasGrounds}
use Rattle.logs.specs.Moments.{Moment, ByTable, GrantedBy, DeniedBy, MayStand}
use Rattle.logs.specs.Logs.{Plant, granted, clock_of, records_of, seat_of}
use Rattle.logs.specs.Promises.{Held}
use Rattle.logs.specs.Situations.{Situation, Answered}
use Rattle.logs.specs.declared.call.Call.{Call}
use Rattle.logs.specs.declared.call.Call.TheVariants.{Open, Close, Take, Drop, Lend, Recall, Enter, Tick, Entitled, Roles}
use Rattle.logs.specs.declared.refusal.Refusal.{Refusal}
use Rattle.logs.specs.declared.reply.Answer.{Answer}

module _ {V S : Type 0} (p : Plant V S) where
  abbrev pub now_held : Held V → Moment V S
  now_held held = record { book = p.book; judge = p.judge; records = held.records; minute = held.clock }

  module _ (table : Seniority) where
    abbrev pub within : Held V → Situation V
    within held = record {
      clock = held.clock;
      persons = length held.records;
      Lawful = λ v. p.book.meaning.lawful_value v ≡ true;
      seat = person_at held.panels;
      Active = λ at role. active_at held.panels at role ≡ true;
      ByRules = ByTable (now_held held) table;
      GrantedBy = GrantedBy (now_held held);
      DeniedBy = DeniedBy (now_held held);
      Stands = λ loan. (i : ℕ) × (slice_get held.loans i ≡ Some loan);
      Full = 32 ≤ length held.loans;
    }

    abbrev pub Grounds : Held V → ℕ → ℕ → Type 0
    Grounds held person role = ByTable (now_held held) table person role ⊎ OnLoan held.loans person role

    abbrev pub SeatHasGrounds : Held V → ℕ → ℕ → Type 0
    SeatHasGrounds held at role = HasGrounds (Grounds held) (seat_at held.panels at) role

    abbrev pub RolesBecome : Held V → Call V → Held V → ℕ → ℕ → Type 0
    RolesBecome old (Open panel person) new at role = (at ≢ panel) × (active_at old.panels at role ≡ true)
    RolesBecome old (Close panel) new at role = (at ≢ panel) × (active_at old.panels at role ≡ true)
    RolesBecome old (Take panel taken) new at role = ((at ≡ panel) × (role ≡ taken)) ⊎ (active_at old.panels at role ≡ true)
    RolesBecome old (Drop panel dropped) new at role =
        ((at ≡ panel) × (role ≡ dropped) → ⊥) × (active_at old.panels at role ≡ true)
    RolesBecome old (Lend panel borrower lent minutes) new at role = active_at old.panels at role ≡ true
    RolesBecome old (Recall panel borrower lent) new at role = (active_at old.panels at role ≡ true) × SeatHasGrounds new at role
    RolesBecome old (Enter person value) new at role = (active_at old.panels at role ≡ true) × SeatHasGrounds new at role
    RolesBecome old (Tick minute) new at role = (active_at old.panels at role ≡ true) × SeatHasGrounds new at role
    RolesBecome old (Entitled person asked) new at role = active_at old.panels at role ≡ true
    RolesBecome old (Roles panel) new at role = active_at old.panels at role ≡ true

    -- a granted lend puts its loan behind the others
    pub record Lends (old : Held V) (panel borrower role minutes : ℕ) (new : Held V) : Type 0 where
      pub lender : ℕ
      pub seated : person_at old.panels panel ≡ Some lender
      pub added :
          new.loans ≡ old.loans ++ (record { lender = lender; borrower = borrower; role = role; due = old.clock + minutes } ∷ [])
      pub may_stand : MayStand (now_held old) table (record { lender = lender; borrower = borrower; role = role; due = old.clock + minutes })
      pub not_lent : OnLoan old.loans borrower role → ⊥

    abbrev pub LoansBecome : Held V → Call V → Held V → Type 0
    LoansBecome old (Open panel person) new = new.loans ≡ old.loans
    LoansBecome old (Close panel) new = new.loans ≡ old.loans
    LoansBecome old (Take panel role) new = (new.loans ≡ old.loans) × SeatHasGrounds old panel role
    LoansBecome old (Drop panel role) new = new.loans ≡ old.loans
    LoansBecome old (Lend panel borrower role minutes) new = Lends old panel borrower role minutes new
    LoansBecome old (Recall panel borrower role) new =
        Filtered (λ loan. (Lent loan borrower role → ⊥) × MayStand (now_held new) table loan) old.loans new.loans
    LoansBecome old (Enter person value) new = Filtered (MayStand (now_held new) table) old.loans new.loans
    LoansBecome old (Tick minute) new = Filtered (MayStand (now_held new) table) old.loans new.loans
    LoansBecome old (Entitled person role) new = new.loans ≡ old.loans
    LoansBecome old (Roles panel) new = new.loans ≡ old.loans

    pub record Became (old : Held V) (call : Call V) (new : Held V) : Type 0 where
      pub clock_set : new.clock ≡ clock_of call old.clock
      pub records_set : new.records ≡ records_of call old.records
      pub panels_there : length new.panels ≡ length old.panels
      pub seats_set : (at : ℕ) → person_at new.panels at ≡ seat_of call at (person_at old.panels at)
      pub roles_set : (at role : ℕ) → Decides (active_at new.panels at role) (RolesBecome old call new at role)
      pub loans_set : LoansBecome old call new

    pub record Performed (old : Held V) (call : Call V) (r : Result Answer Refusal) (new : Held V) : Type 0 where
      pub answered : Answered (within old) call r
      pub refused_leaves_all : granted r ≡ false → new ≡ old
      pub granted_changes : granted r ≡ true → Became old call new
