use Rattle.std.proofs.Common.{◌≡◌}
use Rattle.sets.proofs.Gathering.{Holds}
use Rattle.rules.proofs.LocalLaws.{Below}
use Rattle.rules.proofs.local_denial.below_some.Given as goal

abbrev pub invariant-loop-j : goal.invariant-loop-j
invariant-loop-j l = Holds (Below l.fn.denying l.table l.j-iterator.from) l.below × (l.j-iterator.set ≡ l.fn.denying)
