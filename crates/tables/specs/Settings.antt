-- SETTINGS: who is entitled by rules, and which loans may stand, given records and a minute.
--     Setting                        a rulebook, a policy, a table of seniority, the records of the persons and the minute
--     MetBy s person i               the person meets rule i
--     ByRules s person role          the person is entitled by rules
--     GrantedBy s person role i      rule i is among the granting rules that the person meets
--     DeniedBy s person role i       rule i is among the denying rules that the person meets
--     Grounds s loans person role    the person is entitled to the role by rules, or one of the loans is of it to that person
--     MayStand s loan                the loan is not due, its lender is entitled by rules, and its borrower meets no denying rule
use Rattle.std.specs.Prelude.{◌≡◌, ℕ, ◌<◌, ◌⊎◌, List, Some}
use Rattle.std.specs.List.{slice_get}
use Rattle.kinds.specs.Kinds.{Meaning}
use Rattle.kinds.specs.declared.kind.Kind.{Ghosts}
use Rattle.rules.specs.declared.seniority.Seniority.{Seniority}
use Rattle.rules.specs.Policies.{Judge}
use Rattle.rules.specs.Rules.{Book, Meets, Granting, Denying, AllowedBy, seen}
use Rattle.tables.specs.declared.loan.Loan.{Loan}
use Rattle.tables.specs.declared.ruling.Ruling.{Ruling}
use Rattle.tables.specs.Loans.{OnLoan}

pub record Setting (V S : Type 0) : Type 0 where
  pub book : Book V S
  pub judge : Judge
  pub table : Seniority
  pub records : List V
  pub minute : ℕ

-- as a ruling has it
abbrev pub setting : {K P V S : Type 0} {g : Ghosts K V S} → Meaning V S → (P → Judge) → Ruling K P V S g → Setting V S
setting m judge r = record { book = seen m r.view; judge = judge r.policy.now; table = r.senior.now; records = r.register.now; minute = r.clock }

module _ {V S : Type 0} (s : Setting V S) where
  pub record MetBy (person i : ℕ) : Type 0 where
    pub value : V
    pub on_record : slice_get s.records person ≡ Some value
    pub meets : Meets s.book value i

  pub record ByRules (person role : ℕ) : Type 0 where
    pub value : V
    pub on_record : slice_get s.records person ≡ Some value
    pub allowed : AllowedBy s.book s.judge s.table value role s.minute

  pub record GrantedBy (person role i : ℕ) : Type 0 where
    pub value : V
    pub on_record : slice_get s.records person ≡ Some value
    pub granting : Granting s.book value role s.minute i

  pub record DeniedBy (person role i : ℕ) : Type 0 where
    pub value : V
    pub on_record : slice_get s.records person ≡ Some value
    pub denying : Denying s.book value role i

  abbrev pub Grounds : List Loan → ℕ → ℕ → Type 0
  Grounds loans person role = ByRules person role ⊎ OnLoan loans person role

  pub record MayStand (loan : Loan) : Type 0 where
    pub not_due : s.minute < loan.due
    pub lender_entitled : ByRules loan.lender loan.role
    pub borrower_not_denied : (i : ℕ) → DeniedBy loan.borrower loan.role i → ⊥
