use Rattle.std.proofs.Common.{rules}
use Rattle.std.proofs.lemmas.Result.{err_from_is_err_and}
use Rattle.grader.proofs.Finding.{verdict_refuses, verdict_passes}
use Rattle.grader.proofs.grader.Grader.check_take.Goals as goal

pub returns-in_err-check_grounds : goal.returns-in_err-check_grounds
returns-in_err-check_grounds g c =
    let q = err_from_is_err_and c.from_residual-in_err-check_grounds.result c.from_residual-in_err-check_grounds.ensures.1 in
    rw (q.1, q.2) (
    let refuses =
    verdict_refuses _ c.args.self.now c.args.panel c.args.role c.in_ok-seat.seat c.in_ok-seat.ensures.finds_the_seat.1
    c.in_err-check_grounds.field-0.0 c.in_err-check_grounds.ensures.refused_without_grounds in
    search rules)

pub returns : goal.returns
returns g c =
    let passes =
    verdict_passes _ c.args.self.now c.args.panel c.args.role c.in_ok-seat.seat c.in_ok-seat.ensures.finds_the_seat.1
    (g.met.P.Policy.nothing_granting_is_no c.args.ruling.now.policy.now) c.in_ok-check_grounds.ensures.refused_without_grounds in
    search rules
