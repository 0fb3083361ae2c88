use Rattle.std.proofs.Common.{Ok, rules, set, sym, refl, ap}
use Rattle.logs.specs.declared.call.Call.TheVariants.{Enter}
use Rattle.logs.specs.declared.reply.Answer.TheVariants.{Done}
use Rattle.logs.proofs.Carrying.{carries}
use Rattle.grader.specs.Graders.{held}
use Rattle.grader.proofs.CheckLaws.{done}
use Rattle.grader.proofs.Settling.{entered}
use Rattle.grader.proofs.Telling.{tells_lent}
use Rattle.grader.proofs.grader.Grader.enter.Goals as goal

pub returns-in_err-check_person-clause-carries_every_log_on : goal.returns-in_err-check_person-clause-carries_every_log_on
returns-in_err-check_person-clause-carries_every_log_on g c = λ first start. carries _ _ _ _ _ _ (search rules)

pub returns-then-not-lawful_value-clause-carries_every_log_on : goal.returns-then-not-lawful_value-clause-carries_every_log_on
returns-then-not-lawful_value-clause-carries_every_log_on g c = λ first start. carries _ _ _ _ _ _ (search rules)

pub returns : goal.returns
returns g c =
    let old = c.args.self.now in
    let settled = c.settle.ensures.ends_what_has_no_grounds in
    let somebody = c.in_ok-check_person.ensures.stops_where_there_is_no_such_person in
    let lawful = c.if-not-lawful_value.ensures.tells_whether_the_value_is_lawful in
    let written = ap (λ at. set c.args.register.now at c.args.record) c.from.ensures in
    let told =
    tells_lent _ _ old.senior (held old c.args.register.now) (Enter c.args.person c.args.record) (Ok Done) _
    (λ first start. done _ _ _ _ _ refl ((λ f w. somebody w.1), ((λ f w. w.1 (sym lawful)), tt)) (entered _ _ _ _ settled _ _ _ written)) in
    record {
      policy_and_table_stay = settled.stays;
      refused_by_its_first_check_that_holds_else_done = told.0;
      carries_every_log_on = told.1;
    }
