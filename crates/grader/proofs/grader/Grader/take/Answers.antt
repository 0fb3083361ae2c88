use Rattle.std.proofs.Common.{Ok, refl, subst}
use Rattle.std.proofs.lemmas.Result.{err_from_is_err_and}
use Rattle.logs.specs.Situations.{checks}
use Rattle.logs.specs.declared.call.Call.TheVariants.{Take}
use Rattle.logs.specs.declared.reply.Answer.TheVariants.{Done}
use Rattle.grader.specs.Checks.{Found, GrantedSeat, facing}
use Rattle.grader.specs.Graders.{held}
use Rattle.grader.proofs.CheckLaws.{done, panel_there, role_small}
use Rattle.grader.proofs.Granting.{takes}
use Rattle.grader.proofs.Telling.{tells_lent, ruled_out}
use Rattle.grader.proofs.grader.Grader.take.Goals as goal

pub returns-in_err-seat : goal.returns-in_err-seat
returns-in_err-seat g c =
    let q = err_from_is_err_and c.from_residual.result c.from_residual.ensures.1 in
    rw (q.1, q.2) (
    let told =
    ruled_out _ _ c.args.self.now _ _ c.ruling-ruling.ensures.rules_by_what_is_lent
    (Take c.args.panel c.args.role) c.in_err-seat.field-0.0 c.in_err-seat.ensures.refused_by_the_first_check_that_holds in
    record {
      policy_and_table_stay = (refl, refl);
      refused_by_its_first_check_that_holds_else_done = told.0;
      carries_every_log_on = told.1;
    })

pub returns : goal.returns
returns g c =
    let old = c.args.self.now in
    let call = Take c.args.panel c.args.role in
    let found =
    subst (λ s. Found (checks (facing s old) call) (GrantedSeat s old c.args.panel c.args.role) (Ok c.in_ok-seat.seat))
    c.ruling-ruling.ensures.rules_by_what_is_lent c.in_ok-seat.ensures.refused_by_the_first_check_that_holds in
    let there = panel_there old.panels.seats c.args.panel old.panels.long (λ above. found.0.0 _ (refl, above)) in
    let small = role_small c.args.role (λ above. found.0.1.1.0 _ (refl, above)) in
    let told =
    tells_lent _ _ old.senior (held old c.args.register.now) call (Ok Done) _
    (λ first start. done _ _ _ _ _ refl found.0
    (takes _ _ _ c.put.new.self.seats _ _ c.put.ensures.one_place_written there
    _ found.1.there refl _ small c.with.ensures.members_are_those_before_and_this_one found.1.grounds)) in
    record {
      policy_and_table_stay = (refl, refl);
      refused_by_its_first_check_that_holds_else_done = told.0;
      carries_every_log_on = told.1;
    }
