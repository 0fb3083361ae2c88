use Rattle.tables.specs.Settings.{DeniedBy, setting}
use Rattle.tables.proofs.RulingLaws.{first_held}
use Rattle.tables.proofs.ruling.Ruling.first_denying.Goals as goal

pub returns : goal.returns
returns g c =
    let s = setting g.K.Kind.meaning g.P.Policy.judge c.args.self.now in
    record {
      gives_the_lowest_denying_rule = first_held (DeniedBy s c.args.person c.args.role) c.claim.result.denying
          c.claim.ensures.denying_exactly_the_met_rules_that_deny c.first.result c.first.ensures.gives_the_lowest_member;
    }
