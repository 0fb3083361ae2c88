use Rattle.std.proofs.Common.{Ok, rules, ap, ◌∙◌}
use Rattle.tables.specs.Panels.{active_of}
use Rattle.logs.specs.declared.call.Call.TheVariants.{Roles}
use Rattle.logs.specs.declared.reply.Answer.TheVariants.{Active}
use Rattle.logs.proofs.Carrying.{carries}
use Rattle.grader.specs.Graders.{held}
use Rattle.grader.proofs.Asking.{told_roles}
use Rattle.grader.proofs.Telling.{tells_unlent}
use Rattle.grader.proofs.grader.Grader.roles.Goals as goal

pub returns-in_err-check_panel-clause-carries_every_log_on : goal.returns-in_err-check_panel-clause-carries_every_log_on
returns-in_err-check_panel-clause-carries_every_log_on g c = λ p vs. carries _ _ _ _ _ _ (search rules)

pub returns-in-Some : goal.returns-in-Some
returns-in-Some g c =
    let there = c.in_ok-check_panel.ensures.stops_where_there_is_no_such_panel in
    let seat = c.in-Some.ensures.the_seat_there in
    let known =
    tells_unlent _ c.args.self.now.senior (held c.args.self.now) (Roles c.args.panel) (Ok (Active c.in-Some.seat.active)) _
    (λ p vs. told_roles _ _ _ _ _ there (λ role. ap (λ s. active_of s role) seat)) in
    record { refused_by_its_first_check_that_holds_else_answered = known.0; carries_every_log_on = known.1 }

pub returns-in-None : goal.returns-in-None
returns-in-None g c =
    let there = c.in_ok-check_panel.ensures.stops_where_there_is_no_such_panel in
    let closed = c.in-None.ensures.the_seat_there in
    let empty = c.new.ensures.no_number_is_a_member in
    let known =
    tells_unlent _ c.args.self.now.senior (held c.args.self.now) (Roles c.args.panel) (Ok (Active c.new.result)) _
    (λ p vs. told_roles _ _ _ _ _ there (λ role. empty role ∙ ap (λ s. active_of s role) closed)) in
    record { refused_by_its_first_check_that_holds_else_answered = known.0; carries_every_log_on = known.1 }
