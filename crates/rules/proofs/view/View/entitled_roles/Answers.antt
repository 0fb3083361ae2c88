use Rattle.std.proofs.Common.{arith}
use Rattle.std.proofs.lemmas.Bool.Decides.{Decides-at, Decides-like, not_from_Decides}
use Rattle.sets.proofs.Gathering.{gathered_same, gathered_with}
use Rattle.rules.specs.Rules.{seen}
use Rattle.rules.proofs.VerdictLaws.{over_is, over_allowed}
use Rattle.rules.proofs.view.View.entitled_roles.Goals as goal
use Rattle.rules.proofs.view.View.entitled_roles.Goals.{then-is_allowed, else-is_allowed}

pub loop-role-preserved : goal.loop-role-preserved
loop-role-preserved g c =
    let told = Decides-at _ _ c.is_allowed.ensures.what_the_policy_says
    (over_is (seen g.K.Kind.meaning c.args.self.now) (g.P.Policy.judge c.args.policy.now) c.met_by-met.result c.seniority-senior.result c.loop-role.role c.args.minute
    c.claim.result.granting c.claim.result.denying c.claim.ensures.granting_exactly_the_met_rules_that_grant_or_lead c.claim.ensures.denying_exactly_the_met_rules_that_deny) in
    elim c.if-is_allowed.branch [
      | then-is_allowed w ↦ gathered_with _ _ _ _ _ w.roles-is c.loop-role-test.true (told.0 w.if-is_allowed.true) w.with-roles.ensures.members_are_those_before_and_this_one c.loop-role.invariant
      | else-is_allowed w ↦ gathered_same _ _ _ _ w.roles-is (not_from_Decides c.is_allowed.result told w.if-is_allowed.false) c.loop-role.invariant
    ]

pub returns : goal.returns
returns g c = record {
  members_are_exactly_the_roles_to_which_rules_entitle = λ role.
      let same = over_allowed (seen g.K.Kind.meaning c.args.self.now) (g.P.Policy.judge c.args.policy.now) c.met_by-met.result c.seniority-senior.result role c.args.minute
      c.args.value c.met_by-met.ensures.members_are_exactly_the_rules_met c.seniority-senior.ensures.senior_exactly_when_its_test_implies_the_other in
      Decides-like _
      (λ w. let lt = w.0 in (omega (arith, c.loop-role.auto.role-end), same.0 w.1))
      (λ w. let lt = w.0 in (omega (arith, c.loop-role-test.false), same.1 w.1))
      (c.loop-role.invariant role);
}
