use Rattle.std.proofs.Common.{sym}
use Rattle.kinds.specs.KindLaws.{site_implied}
use Rattle.kinds.proofs.site.SiteKind.implies.Goals as goal

pub returns-then-not-is_empty : goal.returns-then-not-is_empty
returns-then-not-is_empty c = record
    { implies_exactly_when_every_lawful_value_follows = site_implied c.args.s c.args.t c.is_subset.result (sym c.if-not-is_empty.ensures.answers_whether_it_is_empty) c.is_subset.ensures.answers_whether_it_is_a_subset }
