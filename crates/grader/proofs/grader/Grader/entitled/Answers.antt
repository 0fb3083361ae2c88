use Rattle.std.proofs.Common.{Ok, rules, refl, subst}
use Rattle.logs.specs.Situations.{standing}
use Rattle.logs.specs.declared.call.Call.TheVariants.{Entitled}
use Rattle.logs.specs.declared.reply.Answer.TheVariants.{Stands}
use Rattle.logs.proofs.Carrying.{carries}
use Rattle.grader.specs.Checks.{facing}
use Rattle.grader.specs.Graders.{held}
use Rattle.grader.proofs.Asking.{told}
use Rattle.grader.proofs.Telling.{tells_lent}
use Rattle.grader.proofs.grader.Grader.entitled.Goals as goal

pub returns-in_err-check_person-clause-carries_every_log_on : goal.returns-in_err-check_person-clause-carries_every_log_on
returns-in_err-check_person-clause-carries_every_log_on g c = λ first start. carries _ _ _ _ _ _ (search rules)

pub returns-in_err-check_role-clause-carries_every_log_on : goal.returns-in_err-check_role-clause-carries_every_log_on
returns-in_err-check_role-clause-carries_every_log_on g c = λ first start. carries _ _ _ _ _ _ (search rules)

pub returns : goal.returns
returns g c =
    let old = c.args.self.now in
    let somebody = c.in_ok-check_person.ensures.stops_where_there_is_no_such_person in
    let role = c.in_ok-check_role.ensures.stops_where_there_is_no_such_role in
    let how =
    subst (λ s. standing (facing s old) c.args.person c.args.role c.standing_of.result)
    c.ruling-ruling.ensures.rules_by_what_is_lent c.standing_of.ensures.by_rules_else_by_loan_else_neither in
    let known =
    tells_lent _ _ old.senior (held old c.args.register.now) (Entitled c.args.person c.args.role) (Ok (Stands c.standing_of.result)) _
    (λ first start. told _ _ _ _ _ refl (_, refl, how) ((λ f w. somebody w.1), ((λ f w. role w.1), tt))) in
    record { refused_by_its_first_check_that_holds_else_answered = known.0; carries_every_log_on = known.1 }
