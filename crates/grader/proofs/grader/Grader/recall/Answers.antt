use Rattle.std.proofs.Common.{Ok, refl, subst}
use Rattle.std.proofs.lemmas.Result.{err_from_is_err_and}
use Rattle.logs.specs.Situations.{checks}
use Rattle.logs.specs.declared.call.Call.TheVariants.{Recall}
use Rattle.logs.specs.declared.reply.Answer.TheVariants.{Done}
use Rattle.grader.specs.Checks.{Passes, facing}
use Rattle.grader.specs.Graders.{held}
use Rattle.grader.proofs.CheckLaws.{done}
use Rattle.grader.proofs.Settling.{recalled}
use Rattle.grader.proofs.Telling.{tells_lent, ruled_out}
use Rattle.grader.proofs.grader.Grader.recall.Goals as goal

pub returns-in_err-check_recall : goal.returns-in_err-check_recall
returns-in_err-check_recall g c =
    let q = err_from_is_err_and c.from_residual.result c.from_residual.ensures.1 in
    rw (q.1, q.2) (
    let told =
    ruled_out _ _ c.args.self.now _ _ c.ruling-ruling.ensures.rules_by_what_is_lent
    (Recall c.args.panel c.args.borrower c.args.role) c.in_err-check_recall.field-0.0 c.in_err-check_recall.ensures.refused_by_the_first_check_that_holds in
    record {
      policy_and_table_stay = (refl, refl);
      refused_by_its_first_check_that_holds_else_done = told.0;
      carries_every_log_on = told.1;
    })

pub returns : goal.returns
returns g c =
    let old = c.args.self.now in
    let call = Recall c.args.panel c.args.borrower c.args.role in
    let passed =
    subst (λ s. Passes (checks (facing s old) call))
    c.ruling-ruling.ensures.rules_by_what_is_lent c.in_ok-check_recall.ensures.refused_by_the_first_check_that_holds.0 in
    let ended = c.retain.ensures.keeps_exactly_the_loans_that_pass in
    let settled = c.settle.ensures.ends_what_has_no_grounds in
    let told = tells_lent _ _ old.senior (held old c.args.register.now) call (Ok Done) _ (λ first start. done _ _ _ _ _ refl passed (recalled _ _ _ _ settled _ _ _ _ ended)) in
    record {
      policy_and_table_stay = settled.stays;
      refused_by_its_first_check_that_holds_else_done = told.0;
      carries_every_log_on = told.1;
    }
