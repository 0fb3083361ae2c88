use Rattle.tables.proofs.LoanLaws.{Swept}
use Rattle.tables.proofs.loans.Loans.retain.Given as goal

abbrev pub invariant-loop-i : goal.invariant-loop-i
invariant-loop-i g l = Swept (g.T.Keep.passes l.test) l.initial.self.items l.self.items l.i l.kept
