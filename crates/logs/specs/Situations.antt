-- SITUATIONS: what a call is answered by at one moment, which calls are refused, and how the others are answered.
--     Situation                what holds at one moment
--       clock, persons         the minute, and how many persons there are
--       Lawful v               the record v is lawful
--       seat at                the person at the panel, none where it is closed
--       Active at role         the role is active at the panel
--       ByRules person role   the person is entitled by rules
--       GrantedBy person role i, DeniedBy person role i    rule i is among the granting, the denying rules that the person meets
--       Stands loan            the loan stands
--       Full                   thirty-two loans stand
--     OnLoan person role       a loan of the role to the person stands
--     EntitledTo person role   the person is entitled: by rules, or by a loan
--     AtSeat panel What        there is a person at the panel, and What holds of that person
--     Check                    a condition for refusing a call: its number, and with which refusals it refuses
--     only f holds             the check that refuses with f where something holds
--     checks call              the checks of a call, in rising order
--     answer call r            what the call is answered where nothing refuses it
--     FirstThatHolds checks otherwise r      r is the refusal of the first check that holds, or, where none does, what is said otherwise
--     Answered call r          the reply to the call is r
--     making                   the checks of a making
use Rattle.std.specs.Prelude.{◌≡◌, ℕ, ◌<◌, ◌≤◌, ◌⊎◌, List, [], ◌∷◌, length, Some, None, Decides, Option, Ok, Err, Result}
use Rattle.std.specs.List.{slice_get}
use Rattle.sets.specs.declared.set.Set.{Set}
use Rattle.sets.specs.Members.{member}
use Rattle.tables.specs.declared.loan.Loan.{Loan}
use Rattle.tables.specs.Loans.{Lent}
use Rattle.tables.specs.Verdicts.{Lowest}
use Rattle.logs.specs.Refusals.{number}
use Rattle.logs.specs.declared.call.Call.{Call}
use Rattle.logs.specs.declared.call.Call.TheVariants.{Open, Close, Take, Drop, Lend, Recall, Enter, Tick, Entitled, Roles}
use Rattle.logs.specs.declared.refusal.Refusal.{Refusal}
use Rattle.logs.specs.declared.refusal.Refusal.TheVariants.{TooManyPersons, StartOutOfBounds, UnlawfulRegister, NoSuchPanel, PanelOpen, PanelClosed, NoSuchPerson, NoSuchRole, UnlawfulRecord, BorrowerIsLender, MinutesOutOfBounds, MinuteOutOfBounds, AlreadyActive, NotActive, NothingGrants, RuleDenies, NotEntitledByRules, AlreadyLent, NoSuchLoan, BorrowerDenied, LoansFull}
use Rattle.logs.specs.declared.reply.Answer.{Answer}
use Rattle.logs.specs.declared.reply.Answer.TheVariants.{Done, Stands, Active}
use Rattle.logs.specs.declared.reply.Standing.{Standing}
use Rattle.logs.specs.declared.reply.Standing.TheVariants.{ByRules, ByLoan, Neither}

pub record Situation (V : Type 0) : Type 1 where
  pub clock : ℕ
  pub persons : ℕ
  pub Lawful : V → Type 0
  pub seat : ℕ → Option ℕ
  pub Active : ℕ → ℕ → Type 0
  pub ByRules : ℕ → ℕ → Type 0
  pub GrantedBy : ℕ → ℕ → ℕ → Type 0
  pub DeniedBy : ℕ → ℕ → ℕ → Type 0
  pub Stands : Loan → Type 0
  pub Full : Type 0

abbrev pub Check : Type 1
Check = ℕ × (Refusal → Type 0)

abbrev pub only : Refusal → Type 0 → Check
only f holds = (number f, λ g. (g ≡ f) × holds)

abbrev pub FirstThatHolds : List Check → (Result Answer Refusal → Type 0) → Result Answer Refusal → Type 0
FirstThatHolds [] otherwise r = otherwise r
FirstThatHolds (check ∷ checks) otherwise r =
    ((f : Refusal) × (r ≡ Err f) × check.1 f) ⊎ (((f : Refusal) → check.1 f → ⊥) × FirstThatHolds checks otherwise r)

abbrev pub no_panel : ℕ → Check
no_panel panel = only NoSuchPanel (23 < panel)

abbrev pub no_role : ℕ → Check
no_role role = only NoSuchRole (63 < role)

module _ {V : Type 0} (s : Situation V) where
  pub record OnLoan (person role : ℕ) : Type 0 where
    pub loan : Loan
    pub lent : Lent loan person role
    pub stands : s.Stands loan

  abbrev pub EntitledTo : ℕ → ℕ → Type 0
  EntitledTo person role = s.ByRules person role ⊎ OnLoan person role

  pub record AtSeat (panel : ℕ) (What : ℕ → Type 0) : Type 0 where
    pub person : ℕ
    pub seated : s.seat panel ≡ Some person
    pub holds : What person

  -- rule i is the lowest that denies the role to the person, to whom some rule grants it, and who is not entitled to it
  pub record Overruled (role i person : ℕ) : Type 0 where
    pub lowest : Lowest (s.DeniedBy person role) i
    pub granting : (j : ℕ) × s.GrantedBy person role j
    pub not_by_rules : s.ByRules person role → ⊥
    pub not_on_loan : OnLoan person role → ⊥

  -- no rule grants the role to the person, and it is not on loan
  pub record Ungranted (role person : ℕ) : Type 0 where
    pub nothing_grants : (i : ℕ) → s.GrantedBy person role i → ⊥
    pub not_on_loan : OnLoan person role → ⊥

  abbrev pub closed_panel : ℕ → Check
  closed_panel panel = only PanelClosed (s.seat panel ≡ None)

  abbrev pub no_person : ℕ → Check
  no_person person = only NoSuchPerson (s.persons ≤ person)

  abbrev pub not_by_rules : ℕ → ℕ → Check
  not_by_rules panel role = only NotEntitledByRules (AtSeat panel (λ who. s.ByRules who role → ⊥))

  abbrev pub checks : Call V → List Check
  checks (Open panel person) =
      no_panel panel
      ∷ (only PanelOpen (AtSeat panel (λ _. Unit {0}))
      ∷ (no_person person
      ∷ []))
  checks (Close panel) =
      no_panel panel
      ∷ (closed_panel panel
      ∷ [])
  checks (Take panel role) =
      no_panel panel
      ∷ (closed_panel panel
      ∷ (no_role role
      ∷ (only AlreadyActive (s.Active panel role)
      ∷ (only NothingGrants (AtSeat panel (Ungranted role))
      ∷ ((number (RuleDenies 0), λ f. (i : ℕ) × (f ≡ RuleDenies i) × AtSeat panel (Overruled role i))
      ∷ [])))))
  checks (Drop panel role) =
      no_panel panel
      ∷ (closed_panel panel
      ∷ (no_role role
      ∷ (only NotActive (s.Active panel role → ⊥)
      ∷ [])))
  checks (Lend panel borrower role minutes) =
      no_panel panel
      ∷ (closed_panel panel
      ∷ (no_person borrower
      ∷ (no_role role
      ∷ (only BorrowerIsLender (s.seat panel ≡ Some borrower)
      ∷ (only MinutesOutOfBounds ((minutes ≡ 0) ⊎ (1440 < minutes))
      ∷ (only NotActive (s.Active panel role → ⊥)
      ∷ (not_by_rules panel role
      ∷ (only AlreadyLent (OnLoan borrower role)
      ∷ ((number (BorrowerDenied 0), λ f. (i : ℕ) × (f ≡ BorrowerDenied i) × Lowest (s.DeniedBy borrower role) i)
      ∷ (only LoansFull s.Full
      ∷ []))))))))))
  checks (Recall panel borrower role) =
      no_panel panel
      ∷ (closed_panel panel
      ∷ (no_person borrower
      ∷ (no_role role
      ∷ (not_by_rules panel role
      ∷ (only NoSuchLoan (OnLoan borrower role → ⊥)
      ∷ [])))))
  checks (Enter person value) =
      no_person person
      ∷ (only UnlawfulRecord (s.Lawful value → ⊥)
      ∷ [])
  checks (Tick minute) =
      only MinuteOutOfBounds ((minute < s.clock) ⊎ (4000000000 < minute))
      ∷ []
  checks (Entitled person role) =
      no_person person
      ∷ (no_role role
      ∷ [])
  checks (Roles panel) =
      no_panel panel
      ∷ []

  abbrev pub standing : ℕ → ℕ → Standing → Type 0
  standing person role ByRules = s.ByRules person role
  standing person role ByLoan = (s.ByRules person role → ⊥) × OnLoan person role
  standing person role Neither = EntitledTo person role → ⊥

  abbrev pub answer : Call V → Result Answer Refusal → Type 0
  answer (Open panel person) r = r ≡ Ok Done
  answer (Close panel) r = r ≡ Ok Done
  answer (Take panel role) r = r ≡ Ok Done
  answer (Drop panel role) r = r ≡ Ok Done
  answer (Lend panel borrower role minutes) r = r ≡ Ok Done
  answer (Recall panel borrower role) r = r ≡ Ok Done
  answer (Enter person value) r = r ≡ Ok Done
  answer (Tick minute) r = r ≡ Ok Done
  answer (Entitled person role) r = (how : Standing) × (r ≡ Ok (Stands how)) × standing person role how
  answer (Roles panel) r = (set : Set) × (r ≡ Ok (Active set)) × ((role : ℕ) → Decides (member set role) (s.Active panel role))

  abbrev pub Answered : Call V → Result Answer Refusal → Type 0
  Answered call r = FirstThatHolds (checks call) (answer call) r

-- the checks of a making: the register, the starting minute, and whether each record is lawful
abbrev pub making : {V : Type 0} → (V → Type 0) → List V → ℕ → List Check
making {V} Lawful register start =
    only TooManyPersons (1024 < length register)
    ∷ (only StartOutOfBounds (4000000000 < start)
    ∷ (only UnlawfulRegister ((i : ℕ) × (v : V) × (slice_get register i ≡ Some v) × (Lawful v → ⊥))
    ∷ []))
