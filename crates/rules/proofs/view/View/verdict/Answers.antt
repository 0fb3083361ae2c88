use Rattle.rules.specs.Rules.{seen}
use Rattle.rules.proofs.VerdictLaws.{gathers, ruled, permission_words, denial_words, local_words}
use Rattle.rules.proofs.view.View.verdict.Goals as goal

pub returns : goal.returns
returns g c =
    let b = seen g.K.Kind.meaning c.args.self.now in
    let v = c.args.value in
    let role = c.args.role in
    let now = c.args.minute in
    let p = c.claim.result.granting in
    let n = c.claim.result.denying in
    let t = c.seniority-senior.result in
    let judge = g.P.Policy.judge c.args.policy.now in
    let all = gathers b v role now c.met_by.result p n t
    c.met_by.ensures.members_are_exactly_the_rules_met
    c.claim.ensures.granting_exactly_the_met_rules_that_grant_or_lead
    c.claim.ensures.denying_exactly_the_met_rules_that_deny
    c.seniority-senior.ensures.senior_exactly_when_its_test_implies_the_other in
    let never = g.met.P.Policy.nothing_granting_is_no c.args.policy.now in
    let told = c.judged.ensures.entitled_exactly_when_the_policy_says_yes in
    let verdict = c.judged.result in
    record {
      entitled_exactly_when_the_policy_says_yes_to_the_rules_met = ruled b v role now p n t all judge verdict told;
      permission_needs_one_granting_rule = permission_words b v role now p n t all judge verdict never told;
      denial_needs_one_granting_and_no_denying_rule = denial_words b v role now p n t all judge verdict never told;
      local_denial_needs_one_granting_rule_comparable_with_no_denying_rule = local_words b v role now p n t all judge verdict never told;
    }
