use Rattle.kinds.specs.KindLaws.{pair_implied, pair_not_implied}
use Rattle.kinds.proofs.pair.PairKind.implies.Goals as goal

pub returns-then-implies : goal.returns-then-implies
returns-then-implies g c = record {
  implies_exactly_when_every_lawful_value_follows =
      pair_implied g.A.Kind.meaning g.B.Kind.meaning g.met.A.Kind.every_lawful_test_is_met g.met.B.Kind.every_lawful_test_is_met c.args.s c.args.t c.implies.result c.implies-then-implies.result
      c.if-implies.true c.implies.ensures.implies_exactly_when_every_lawful_value_follows c.implies-then-implies.ensures.implies_exactly_when_every_lawful_value_follows;
}

pub returns-else-implies : goal.returns-else-implies
returns-else-implies g c = record {
  implies_exactly_when_every_lawful_value_follows =
      pair_not_implied g.A.Kind.meaning g.B.Kind.meaning g.met.B.Kind.every_lawful_test_is_met c.args.s c.args.t c.implies.result
      c.if-implies.false c.implies.ensures.implies_exactly_when_every_lawful_value_follows;
}
