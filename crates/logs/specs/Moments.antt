-- MOMENTS: who is entitled by rules where records and minute are these, whatever table of seniority is held.
--     Moment                         a rulebook, a policy, the records of the persons and the minute
--     GrantedBy m person role i      rule i is among the granting rules that the person meets
--     DeniedBy m person role i       rule i is among the denying rules that the person meets
--     ByRules m person role          the person is entitled by rules, by the rulebook's own seniority
--     by m table                     the moment as a setting, with a table of seniority
--     ByTable m table person role    so the person is entitled where seniority is what the table says
--     MayStand m table loan          so the loan may stand
use Rattle.std.specs.Prelude.{◌≡◌, ℕ, List, Some}
use Rattle.std.specs.List.{slice_get}
use Rattle.rules.specs.declared.seniority.Seniority.{Seniority}
use Rattle.rules.specs.Policies.{Judge}
use Rattle.rules.specs.Rules.{Book, Granting, Denying, Allowed}
use Rattle.tables.specs.declared.loan.Loan.{Loan}
use Rattle.tables.specs.Settings.{Setting, ByRules as ByItsTable, MayStand as MayStandIn}

pub record Moment (V S : Type 0) : Type 0 where
  pub book : Book V S
  pub judge : Judge
  pub records : List V
  pub minute : ℕ

module _ {V S : Type 0} (m : Moment V S) where
  pub record GrantedBy (person role i : ℕ) : Type 0 where
    pub value : V
    pub on_record : slice_get m.records person ≡ Some value
    pub granting : Granting m.book value role m.minute i

  pub record DeniedBy (person role i : ℕ) : Type 0 where
    pub value : V
    pub on_record : slice_get m.records person ≡ Some value
    pub denying : Denying m.book value role i

  pub record ByRules (person role : ℕ) : Type 0 where
    pub value : V
    pub on_record : slice_get m.records person ≡ Some value
    pub allowed : Allowed m.book m.judge value role m.minute

  abbrev pub by : Seniority → Setting V S
  by table = record { book = m.book; judge = m.judge; table = table; records = m.records; minute = m.minute }

  abbrev pub ByTable : Seniority → ℕ → ℕ → Type 0
  ByTable table person role = ByItsTable (by table) person role

  abbrev pub MayStand : Seniority → Loan → Type 0
  MayStand table loan = MayStandIn (by table) loan
