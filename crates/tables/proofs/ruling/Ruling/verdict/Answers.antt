use Rattle.tables.specs.Settings.{setting}
use Rattle.tables.proofs.RulingLaws.{decided}
use Rattle.tables.proofs.ruling.Ruling.verdict.Goals as goal

pub returns : goal.returns
returns g c =
    let s = setting g.K.Kind.meaning g.P.Policy.judge c.args.self.now in
    record {
      entitled_exactly_when_the_policy_says_yes = decided s c.args.person c.args.role c.claim.result.granting c.claim.result.denying
          c.claim.ensures.granting_exactly_the_met_rules_that_grant_or_lead c.claim.ensures.denying_exactly_the_met_rules_that_deny
          c.judged.result (g.met.P.Policy.nothing_granting_is_no c.args.self.now.policy.now)
          c.judged.ensures.entitled_exactly_when_the_policy_says_yes;
    }
