-- What a call tells in both its clauses: how it is answered and what it makes of what is held, and so that it carries every log on.
use Rattle.std.proofs.Common.{◌≡◌, ℕ, List, Err, Result, subst}
use Rattle.rules.specs.declared.seniority.Seniority.{Seniority}
use Rattle.rules.specs.Policies.{Judge}
use Rattle.rules.specs.Rules.{Book}
use Rattle.tables.specs.Settings.{Setting}
use Rattle.logs.specs.Moments.{by}
use Rattle.logs.specs.declared.call.Call.{Call}
use Rattle.logs.specs.declared.refusal.Refusal.{Refusal}
use Rattle.logs.specs.declared.reply.Answer.{Answer}
use Rattle.logs.specs.Logs.{Plant}
use Rattle.logs.specs.Promises.{Held, CarriesOn}
use Rattle.logs.specs.Situations.{checks}
use Rattle.logs.specs.Steps.{Performed}
use Rattle.logs.proofs.Carrying.{carries}
use Rattle.grader.specs.declared.grader.Grader.{Grader}
use Rattle.grader.specs.Checks.{Refuses, facing, moment_of}
use Rattle.grader.specs.Graders.{plant, held}
use Rattle.grader.proofs.CheckLaws.{refused}

-- a call that is lent rules and entries, whatever the register and the minute were that the grader began with
module _ {V S : Type 0} (b : Book V S) (judge : Judge) (table : Seniority) (old : Held V) (call : Call V) where
  abbrev pub PerformsLent : Result Answer Refusal → Held V → Type 0
  PerformsLent r new = (first : List V) (start : ℕ) → Performed (plant b judge first start) table old call r new

  abbrev pub CarriesLent : Result Answer Refusal → Held V → Type 0
  CarriesLent r new = (first : List V) (start : ℕ) → CarriesOn (plant b judge first start) table old call r new

  pub tells_lent : (r : Result Answer Refusal) (new : Held V) → PerformsLent r new → PerformsLent r new × CarriesLent r new
  tells_lent r new performed = (performed, λ first start. carries (plant b judge first start) table old call r new (performed first start))

-- and is refused by its ruling
pub ruled_out : {P V S : Type 0} (b : Book V S) (judge : Judge) (g : Grader P) (vs : List V) (s : Setting V S) → s ≡ by (moment_of b judge vs g.clock) g.senior →
    (call : Call V) (f : Refusal) → Refuses (checks (facing s g) call) f →
    PerformsLent b judge g.senior (held g vs) call (Err f) (held g vs) × CarriesLent b judge g.senior (held g vs) call (Err f) (held g vs)
ruled_out b judge g vs s ruled call f found =
    tells_lent b judge g.senior (held g vs) call (Err f) (held g vs)
    (λ first start. refused (plant b judge first start) g.senior (held g vs) call f (subst (λ s. Refuses (checks (facing s g) call) f) ruled found))

-- a call that is lent nothing, whatever the grader began with and whatever the register is
module _ {V : Type 0} (S : Type 0) (table : Seniority) (old : List V → Held V) (call : Call V) where
  abbrev pub PerformsUnlent : Result Answer Refusal → (List V → Held V) → Type 0
  PerformsUnlent r new = (p : Plant V S) (vs : List V) → Performed p table (old vs) call r (new vs)

  abbrev pub CarriesUnlent : Result Answer Refusal → (List V → Held V) → Type 0
  CarriesUnlent r new = (p : Plant V S) (vs : List V) → CarriesOn p table (old vs) call r (new vs)

  pub tells_unlent : (r : Result Answer Refusal) (new : List V → Held V) → PerformsUnlent r new → PerformsUnlent r new × CarriesUnlent r new
  tells_unlent r new performed = (performed, λ p vs. carries p table (old vs) call r (new vs) (performed p vs))
