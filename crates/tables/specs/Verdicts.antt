-- VERDICTS: what rules and policy say of a person and a role.
--     Lowest In i                        i is the lowest number of which In holds
--     Overruled s person role rule       no is said to a person to whom some rule grants the role; `rule` is the lowest denying rule
--     Decided s person role verdict      what rules and policy say of the person and the role
use Rattle.std.specs.Prelude.{ℕ, ◌<◌, Ok, Err}
use Rattle.rules.specs.declared.claim.Objection.TheVariants.{NothingGrants, Denied}
use Rattle.rules.specs.Verdicts.{Verdict}
use Rattle.tables.specs.Settings.{Setting, GrantedBy, DeniedBy, ByRules}

pub record Lowest (In : ℕ → Type 0) (i : ℕ) : Type 0 where
  pub held : In i
  pub none_lower : (j : ℕ) → j < i → In j → ⊥

module _ {V S : Type 0} (s : Setting V S) where
  pub record Overruled (person role rule : ℕ) : Type 0 where
    pub refused : ByRules s person role → ⊥
    pub granting : (i : ℕ) × GrantedBy s person role i
    pub lowest : Lowest (DeniedBy s person role) rule

  abbrev pub Decided : ℕ → ℕ → Verdict → Type 0
  Decided person role (Ok done) = ByRules s person role
  Decided person role (Err NothingGrants) = (i : ℕ) → GrantedBy s person role i → ⊥
  Decided person role (Err (Denied rule)) = Overruled person role rule
