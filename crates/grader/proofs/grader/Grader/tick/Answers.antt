use Rattle.std.proofs.Common.{◌<◌, ◌⊎◌, Ok, rules, refl, inl, inr, arith}
use Rattle.logs.specs.declared.call.Call.TheVariants.{Tick}
use Rattle.logs.specs.declared.reply.Answer.TheVariants.{Done}
use Rattle.logs.proofs.Carrying.{carries}
use Rattle.grader.specs.Graders.{held}
use Rattle.grader.proofs.CheckLaws.{done}
use Rattle.grader.proofs.Settling.{ticked}
use Rattle.grader.proofs.Telling.{tells_lent}
use Rattle.grader.proofs.grader.Grader.tick.Goals as goal

pub returns-then-minute-self-clause-carries_every_log_on : goal.returns-then-minute-self-clause-carries_every_log_on
returns-then-minute-self-clause-carries_every_log_on g c = λ first start. carries _ _ _ _ _ _ (search rules)

pub returns : goal.returns
returns g c =
    let old = c.args.self.now in
    let within_bounds : (c.args.minute < old.clock) ⊎ (4000000000 < c.args.minute) → ⊥ =
    λ w. elim w [ inl early ↦ omega (arith, c.if-minute-self.false) | inr late ↦ omega (arith, c.if-minute-gt-LAST_MINUTE.false) ] in
    let settled = c.settle.ensures.ends_what_has_no_grounds in
    let told =
    tells_lent _ _ old.senior (held old c.args.register.now) (Tick c.args.minute) (Ok Done) _
    (λ first start. done _ _ _ _ _ refl ((λ f w. within_bounds w.1), tt) (ticked _ _ _ _ settled _)) in
    record {
      policy_and_table_stay = settled.stays;
      refused_by_its_first_check_that_holds_else_done = told.0;
      carries_every_log_on = told.1;
    }
