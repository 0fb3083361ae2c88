use Rattle.std.proofs.Common.{refl, Ok}
use Rattle.std.proofs.lemmas.Result.{err_from_is_err_and}
use Rattle.logs.proofs.Carrying.{carries}
use Rattle.logs.specs.declared.call.Call.TheVariants.{Open}
use Rattle.logs.specs.declared.reply.Answer.TheVariants.{Done}
use Rattle.logs.specs.Logs.{Plant}
use Rattle.logs.specs.Steps.{Performed}
use Rattle.grader.proofs.CheckLaws.{refused, done, panel_there}
use Rattle.grader.proofs.Granting.{with_seats, opens}
use Rattle.grader.specs.Graders.{held}
use Rattle.grader.proofs.grader.Grader.open.Goals as goal

pub returns-in_err-check_open : goal.returns-in_err-check_open
returns-in_err-check_open g c =
    let q = err_from_is_err_and c.from_residual.result c.from_residual.ensures.1 in
    rw (q.1, q.2) (
    let found = c.in_err-check_open.ensures.refused_by_the_first_check_that_holds in
    record {
      policy_and_table_stay = (refl, refl);
      refused_by_its_first_check_that_holds_else_done = λ p. refused p _ _ _ _ (found p);
      carries_every_log_on = λ p. carries p _ _ _ _ _ (refused p _ _ _ _ (found p));
    })

pub returns : goal.returns
returns g c =
    let old = c.args.self.now in
    let passes = c.in_ok-check_open.ensures.refused_by_the_first_check_that_holds in
    let performed : (p : Plant g.row.K-Value.Denot g.row.K-Test.Denot) → Performed p old.senior (held old c.args.register.now) (Open c.args.panel c.args.person) (Ok Done) (with_seats p old.senior (held old c.args.register.now) c.put.new.self.seats) =
    λ p.
    let passed = (passes p).0 in
    done p old.senior (held old c.args.register.now) (Open c.args.panel c.args.person) _ refl passed
    (opens p old.senior (held old c.args.register.now) c.put.new.self.seats c.args.panel _ c.put.ensures.one_place_written
    (panel_there old.panels.seats c.args.panel old.panels.long (λ above. passed.0 _ (refl, above)))
    c.args.person refl c.new.ensures.no_number_is_a_member) in
    record {
      policy_and_table_stay = (refl, refl);
      refused_by_its_first_check_that_holds_else_done = performed;
      carries_every_log_on = λ p. carries p _ _ _ _ _ (performed p);
    }
