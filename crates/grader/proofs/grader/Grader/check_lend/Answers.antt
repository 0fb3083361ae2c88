use Rattle.std.proofs.Common.{rules}
use Rattle.std.proofs.lemmas.Result.{err_from_is_err_and}
use Rattle.grader.proofs.grader.Grader.check_lend.Goals as goal

pub returns-in_err-check_borrower : goal.returns-in_err-check_borrower
returns-in_err-check_borrower g c =
    let q = err_from_is_err_and c.from_residual-in_err-check_borrower.result c.from_residual-in_err-check_borrower.ensures.1 in
    rw (q.1, q.2) (search rules)

pub returns : goal.returns
returns g c = record { refused_by_the_first_check_that_holds = (search rules, search rules) }
