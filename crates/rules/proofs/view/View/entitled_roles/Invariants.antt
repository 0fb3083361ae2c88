use Rattle.sets.proofs.Gathering.{Gathered}
use Rattle.rules.specs.Rules.{seen}
use Rattle.rules.proofs.VerdictLaws.{Over}
use Rattle.rules.proofs.view.View.entitled_roles.Given as goal

abbrev pub invariant-loop-role : goal.invariant-loop-role
invariant-loop-role g l = Gathered (λ role. Over (seen g.K.Kind.meaning l.self) (g.P.Policy.judge l.policy) l.met l.senior role l.minute) l.role l.roles
