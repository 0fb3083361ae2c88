use Rattle.tables.proofs.ruling.Ruling.entitles.Goals as goal

pub returns : goal.returns
returns g c = record {
  tells_whether_rules_entitle = c.allows.ensures.tells_whether_rules_entitle_whoever_meets_these c.args.person c.met.ensures.members_are_exactly_the_rules_met;
}
