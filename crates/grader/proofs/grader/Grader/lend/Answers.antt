use Rattle.std.proofs.Common.{◌≡◌, ◌+◌, Ok, is_ok, refl, subst, arith}
use Rattle.std.proofs.lemmas.Result.{err_from_is_err_and}
use Rattle.tables.specs.Loans.{standing}
use Rattle.logs.specs.Situations.{checks}
use Rattle.logs.specs.declared.call.Call.TheVariants.{Lend}
use Rattle.logs.specs.declared.reply.Answer.TheVariants.{Done}
use Rattle.grader.specs.Checks.{Found, Lending, facing}
use Rattle.grader.specs.Graders.{held}
use Rattle.grader.proofs.CheckLaws.{done}
use Rattle.grader.proofs.Granting.{lends}
use Rattle.grader.proofs.Telling.{tells_lent, ruled_out}
use Rattle.grader.proofs.grader.Grader.lend.Goals as goal

pub returns-in_err-lender : goal.returns-in_err-lender
returns-in_err-lender g c =
    let q = err_from_is_err_and c.from_residual.result c.from_residual.ensures.1 in
    rw (q.1, q.2) (
    let told =
    ruled_out _ _ c.args.self.now _ _ c.ruling-ruling.ensures.rules_by_what_is_lent
    (Lend c.args.panel c.args.borrower c.args.role c.args.minutes) c.in_err-lender.field-0.0 c.in_err-lender.ensures.refused_by_the_first_check_that_holds in
    record {
      policy_and_table_stay = (refl, refl);
      refused_by_its_first_check_that_holds_else_done = told.0;
      carries_every_log_on = told.1;
    })

pub returns : goal.returns
returns g c =
    let old = c.args.self.now in
    let call = Lend c.args.panel c.args.borrower c.args.role c.args.minutes in
    let found =
    subst (λ s. Found (checks (facing s old) call) (Lending s old c.args.panel c.args.borrower c.args.role c.args.minutes) (Ok c.in_ok-lender.lender))
    c.ruling-ruling.ensures.rules_by_what_is_lent c.in_ok-lender.ensures.refused_by_the_first_check_that_holds in
    let added = c.add.ensures in
    let later : c.from.result + c.from-2.result ≡ old.clock + c.args.minutes = omega (arith, c.from.ensures, c.from-2.ensures) in
    let told =
    tells_lent _ _ old.senior (held old c.args.register.now) call (Ok Done) _
    (λ first start. done _ _ _ _ _ refl found.0
    (lends _ _ _ c.in_ok-lender.lender c.args.borrower c.args.role c.args.minutes c.args.panel (c.from.result + c.from-2.result) (standing c.add.new.self) (is_ok c.add.result)
    added.accepted_exactly_where_fewer_than_32_stand added.added_at_the_end_where_accepted found.1.free.room later found.1.seated found.1.some_minutes found.1.by_rules found.1.free.not_denied found.1.free.not_lent)) in
    record {
      policy_and_table_stay = (refl, refl);
      refused_by_its_first_check_that_holds_else_done = told.0;
      carries_every_log_on = told.1;
    }
