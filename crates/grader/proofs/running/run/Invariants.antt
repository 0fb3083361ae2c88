use Rattle.std.proofs.Common.{◌≡◌, reverse, take}
use Rattle.logs.specs.Promises.{Led, SameCalls}
use Rattle.grader.specs.Graders.{over, held}
use Rattle.grader.proofs.running.run.Given as goal

abbrev pub invariant-loop-exchange : goal.invariant-loop-exchange
invariant-loop-exchange g l =
    (l.grader.policy ≡ l.fn.policy)
    × SameCalls l.initial.log l.log
    × Led (over g.K.Kind.meaning (g.P.Policy.judge l.fn.policy) l.book l.rules l.entries l.initial.register l.start) (reverse (take l.exchange-index l.log)) l.grader.senior (held l.grader l.register)
