use Rattle.std.proofs.Common.{◌≡◌, length}
use Rattle.rules.specs.Rules.{seen}
use Rattle.rules.proofs.RankLaws.{Ranked}
use Rattle.rules.proofs.view.View.seniority.Given as goal

abbrev pub invariant-loop-i : goal.invariant-loop-i
invariant-loop-i g l = (length l.rows ≡ 64) × Ranked (seen g.K.Kind.meaning l.self) l.i l.rows
