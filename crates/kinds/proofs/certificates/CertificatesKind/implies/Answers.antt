use Rattle.kinds.specs.KindLaws.{certificates_implied}
use Rattle.kinds.proofs.certificates.CertificatesKind.implies.Goals as goal

pub returns : goal.returns
returns c = record
    { implies_exactly_when_every_lawful_value_follows = certificates_implied c.args.s c.args.t c.is_subset.result c.is_subset.ensures.answers_whether_it_is_a_subset }
