use Rattle.std.proofs.Common.{◌∙◌}
use Rattle.kinds.specs.KindLaws.{site_meets}
use Rattle.kinds.proofs.site.SiteKind.meets.Goals as goal

pub returns : goal.returns
returns c = record
    { meets_exactly_when_lawful_and_meant = c.contains.ensures.tells_whether_it_is_a_member ∙ site_meets c.args.v c.args.t }
