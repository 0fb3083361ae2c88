use Rattle.sets.proofs.Gathering.{Gathered}
use Rattle.rules.specs.Rules.{seen}
use Rattle.rules.proofs.RuleLaws.{GrantsAmong, DeniesAmong}
use Rattle.rules.proofs.view.View.claim.Given as goal

abbrev pub invariant-loop-i : goal.invariant-loop-i
invariant-loop-i g l =
    Gathered (GrantsAmong (seen g.K.Kind.meaning l.self) l.met l.role l.minute) l.i l.granting
    × Gathered (DeniesAmong (seen g.K.Kind.meaning l.self) l.met l.role) l.i l.denying
