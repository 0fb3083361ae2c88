use Rattle.std.proofs.lemmas.Bool.Decides.{not_from_Decides}
use Rattle.std.proofs.lemmas.Result.{err_from_is_err_and}
use Rattle.grader.proofs.Finding.{objects}
use Rattle.grader.proofs.grader.Grader.check_grounds.Goals as goal

pub returns-in_err-verdict : goal.returns-in_err-verdict
returns-in_err-verdict g c =
    let q = err_from_is_err_and c.from_residual.result c.from_residual.ensures.1 in
    rw (q.1, q.2) record {
      refused_without_grounds =
          objects _ c.args.self.now c.args.person c.args.role
          (not_from_Decides c.has.result c.has.ensures.tells_whether_such_a_loan_stands c.if-has.false)
          c.in_err-verdict.field-0.0 c.in_err-verdict.ensures.entitled_exactly_when_the_policy_says_yes;
    }
