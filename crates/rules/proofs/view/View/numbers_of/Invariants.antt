use Rattle.std.specs.Fn.{FnReturnsAt}
use Rattle.rules.proofs.Numbers.{Asked}
use Rattle.rules.proofs.view.View.numbers_of.Given as goal

abbrev pub invariant-loop-i : goal.invariant-loop-i
invariant-loop-i g l = Asked (FnReturnsAt g.F.Fn l.fn.passes) l.self.rules.now l.i l.numbers
