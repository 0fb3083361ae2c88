use Rattle.sets.proofs.Gathering.{Holds}
use Rattle.rules.specs.Rules.{seen}
use Rattle.rules.proofs.RuleLaws.{Source}
use Rattle.rules.proofs.view.View.sources.Given as goal

abbrev pub invariant-loop-entry : goal.invariant-loop-entry
invariant-loop-entry g l = Holds (Source (seen g.K.Kind.meaning l.self) l.entry-index l.role l.minute) l.sources
