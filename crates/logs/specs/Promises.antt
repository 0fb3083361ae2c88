-- PROMISES: what a grader promises of every log.
--     Held                     what a grader holds, with the register that it is lent: the clock, the panels, the loans that stand, the records
--     MoreRulesMoreRoles       whoever meets every rule that another meets is entitled by rules to whatever the other is, but for a role
--                              denied by a rule that the first alone meets
--     Whole log held           all that is promised of a log and of what the grader holds after it
--     Ranks table              the table of seniority is the rulebook's
--     Led log table held       the log led to a grader that holds this
--     CarriesOn table old call r new     whatever log led to what was held before a call, that log with this call leads to what is held after it
--     SameCalls old new        the calls stand as they were, and only replies are written
--     Rise last checks         the numbers of the checks rise, and each refuses with its own
--     CallsFixReplies          two logs of the same calls, each answered in the situation after the calls before it, are the same
--     NumbersRise              the numbers of the checks of every call, and of a making, rise
use Rattle.std.specs.Prelude.{◌≡◌, ℕ, ◌<◌, true, ◌⊎◌, ◌↔◌, List, [], ◌∷◌, map, length, Some, Decides, Option, Result}
use Rattle.std.specs.List.{slice_get}
use Rattle.rules.specs.declared.seniority.Seniority.{Seniority}
use Rattle.rules.specs.Ranks.{is_senior}
use Rattle.rules.specs.Rules.{Senior, Meets, Denying}
use Rattle.tables.specs.declared.loan.Loan.{Loan}
use Rattle.tables.specs.declared.seat.Seat.{Seat}
use Rattle.tables.specs.Loans.{Lent}
use Rattle.tables.specs.Panels.{person_at, active_at}
use Rattle.logs.specs.Moments.{ByRules, MayStand}
use Rattle.logs.specs.Logs.{Plant, Log, clock, records, seat, moment, after, AllAnswered, StandsAfter, SeatEntitled, ActiveAfter}
use Rattle.logs.specs.Refusals.{number}
use Rattle.logs.specs.Situations.{Check, checks, making}
use Rattle.logs.specs.declared.call.Call.{Call}
use Rattle.logs.specs.declared.exchange.Exchange.{Exchange}
use Rattle.logs.specs.declared.refusal.Refusal.{Refusal}
use Rattle.logs.specs.declared.reply.Answer.{Answer}

pub record Held (V : Type 0) : Type 0 where
  pub clock : ℕ
  pub panels : List (Option Seat)
  pub loans : List Loan
  pub records : List V

module _ {V S : Type 0} (p : Plant V S) where
  abbrev pub MoreRulesMoreRoles : Type 0
  MoreRulesMoreRoles =
      (log : Log V) (one other role : ℕ) (a b : V) →
      slice_get (records p log) one ≡ Some a → slice_get (records p log) other ≡ Some b →
      ((i : ℕ) → Meets p.book b i → Meets p.book a i) →
      ByRules (moment p log) other role →
      ByRules (moment p log) one role ⊎ ((i : ℕ) × Denying p.book a role i × (Meets p.book b i → ⊥))

  pub record Whole (log : Log V) (held : Held V) : Type 0 where
    pub every_call_answered_by_what_came_before : AllAnswered p log
    pub clock_is_that_of_the_last_granted_tick : held.clock ≡ clock p log
    pub records_are_those_of_the_last_granted_enters : held.records ≡ records p log
    pub all_panels_there : length held.panels ≡ 24
    pub person_is_the_last_one_seated : (at : ℕ) → person_at held.panels at ≡ seat p log at
    pub role_active_exactly_since_its_take : (at role : ℕ) → Decides (active_at held.panels at role) (ActiveAfter p log at role)
    pub loan_stands_exactly_since_its_lend : (loan : Loan) → ((i : ℕ) × (slice_get held.loans i ≡ Some loan)) ↔ StandsAfter p log loan
    pub one_loan_of_a_role_to_a_borrower :
        (i j : ℕ) (a b : Loan) → slice_get held.loans i ≡ Some a → slice_get held.loans j ≡ Some b → Lent a b.borrower b.role → i ≡ j
    pub active_role_has_its_grounds : (at role : ℕ) → ActiveAfter p log at role → SeatEntitled p log at role
    pub whoever_meets_more_rules_is_entitled_to_more : MoreRulesMoreRoles

  pub record Ranks (table : Seniority) : Type 0 where
    pub senior_exactly_when_its_test_implies_the_other : (i j : ℕ) → Decides (is_senior table i j) (Senior p.book i j)

  pub record Led (log : Log V) (table : Seniority) (held : Held V) : Type 0 where
    pub whole : Whole log held
    pub ranks : Ranks table
    pub loans_may_stand : (loan : Loan) → StandsAfter p log loan → MayStand (moment p log) table loan

  abbrev pub CarriesOn : Seniority → Held V → Call V → Result Answer Refusal → Held V → Type 0
  CarriesOn table old call r new =
      (log : Log V) → Led log table old → Led (record { call = call; reply = r } ∷ log) table new

abbrev pub SameCalls : {V : Type 0} → List (Exchange V) → List (Exchange V) → Type 0
SameCalls {V} old new =
    (length new ≡ length old)
    × ((i : ℕ) (a b : Exchange V) → slice_get old i ≡ Some a → slice_get new i ≡ Some b → b.call ≡ a.call)

abbrev pub Rise : ℕ → List Check → Type 0
Rise last [] = Unit {0}
Rise last (check ∷ checks) = (last < check.0) × ((f : Refusal) → check.1 f → number f ≡ check.0) × Rise check.0 checks

abbrev pub CallsFixReplies : Type 0 → Type 0 → Type 0
CallsFixReplies V S =
    (p : Plant V S) (log other : Log V) → AllAnswered p log → AllAnswered p other →
    map (λ e. e.call) log ≡ map (λ e. e.call) other → log ≡ other

abbrev pub NumbersRise : Type 0 → Type 0 → Type 0
NumbersRise V S =
    (p : Plant V S) →
    ((log : Log V) (call : Call V) → Rise 0 (checks (after p log) call))
    × Rise 0 (making (λ v. p.book.meaning.lawful_value v ≡ true) p.register p.start)
