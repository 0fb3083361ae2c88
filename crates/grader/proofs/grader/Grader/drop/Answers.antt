use Rattle.std.proofs.Common.{Ok, rules, refl}
use Rattle.logs.specs.declared.call.Call.TheVariants.{Drop}
use Rattle.logs.specs.declared.reply.Answer.TheVariants.{Done}
use Rattle.logs.proofs.Carrying.{carries}
use Rattle.grader.specs.Graders.{held}
use Rattle.grader.proofs.CheckLaws.{done, panel_there}
use Rattle.grader.proofs.Granting.{drops}
use Rattle.grader.proofs.Telling.{tells_unlent}
use Rattle.grader.proofs.grader.Grader.drop.Goals as goal

pub returns-in_err-seat-clause-carries_every_log_on : goal.returns-in_err-seat-clause-carries_every_log_on
returns-in_err-seat-clause-carries_every_log_on g c = λ p vs. carries _ _ _ _ _ _ (search rules)

pub returns : goal.returns
returns g c =
    let old = c.args.self.now in
    let found = c.in_ok-seat.ensures.finds_the_seat in
    let there = panel_there old.panels.seats c.args.panel old.panels.long (λ above. found.0.0 _ (refl, above)) in
    let told =
    tells_unlent _ old.senior (held old) (Drop c.args.panel c.args.role) (Ok Done) _
    (λ p vs. done _ _ _ _ _ refl found.0
    (drops _ _ _ c.put.new.self.seats _ _ c.put.ensures.one_place_written there _ found.1 refl _ c.without.ensures.members_are_those_before_but_this_one)) in
    record {
      policy_and_table_stay = (refl, refl);
      refused_by_its_first_check_that_holds_else_done = told.0;
      carries_every_log_on = told.1;
    }
