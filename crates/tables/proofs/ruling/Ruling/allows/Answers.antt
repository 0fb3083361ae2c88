use Rattle.std.proofs.lemmas.Bool.Decides.{Decides-at}
use Rattle.tables.specs.Settings.{setting}
use Rattle.tables.proofs.RulingLaws.{granted_are, denied_are, by_rules_is}
use Rattle.tables.proofs.ruling.Ruling.allows.Goals as goal

pub returns : goal.returns
returns g c =
    let s = setting g.K.Kind.meaning g.P.Policy.judge c.args.self.now in
    record {
      tells_whether_rules_entitle_whoever_meets_these = λ person met_are. Decides-at c.is_allowed.result (s.judge c.claim.result.granting c.claim.result.denying s.table) c.is_allowed.ensures.what_the_policy_says
          (by_rules_is s person c.args.role c.claim.result.granting c.claim.result.denying
          (granted_are s person c.args.role c.args.met met_are c.claim.result.granting c.claim.ensures.granting_exactly_the_met_rules_that_grant_or_lead)
          (denied_are s person c.args.role c.args.met met_are c.claim.result.denying c.claim.ensures.denying_exactly_the_met_rules_that_deny)
          (g.met.P.Policy.nothing_granting_is_no c.args.self.now.policy.now));
    }
