use Rattle.std.proofs.Common.{refl, ap, arith, length-set}
use Rattle.std.specs.List.{slice_get}
use Rattle.std.proofs.lemmas.Bool.Decides.{Decides-at}
use Rattle.rules.specs.Ranks.{is_senior, row_holds}
use Rattle.rules.specs.Rules.{seen}
use Rattle.rules.proofs.Places.{found_here}
use Rattle.rules.proofs.RankLaws.{ranked_none, ranked_more, ranked_all}
use Rattle.rules.proofs.view.View.seniority.Goals as goal

pub loop-i-init : goal.loop-i-init
loop-i-init g c = (refl, ranked_none (seen g.K.Kind.meaning c.args.self.now) 64 c.new-rows.result c.new-rows.ensures.no_number_is_a_member)

pub loop-i-preserved : goal.loop-i-preserved
loop-i-preserved g c = (
  simp length-set c.loop-i.invariant.0,
  ranked_more (seen g.K.Kind.meaning c.args.self.now) c.loop-i.i c.loop-i.rows c.rule-item.result c.implied_by.result
      (omega (arith, c.loop-i.invariant.0, c.loop-i-test.true, c.args.self.now.few))
      (found_here c.args.self.now.rules.now c.loop-i.i c.rule-item.result c.loop-i-test.true c.rule-item.is)
      c.implied_by.ensures.members_are_the_rules_whose_test_is_implied
      c.loop-i.invariant.1,
)

pub returns : goal.returns
unfolding is_senior
returns g c = record {
  senior_exactly_when_its_test_implies_the_other = λ i j.
      Decides-at _ _ (ap (λ rows. row_holds (slice_get rows i) j) c.from_rows.ensures.keeps_the_rows)
      (ranked_all (seen g.K.Kind.meaning c.args.self.now) c.loop-i.i c.loop-i.rows c.loop-i-test.false c.loop-i.invariant.1 i j);
}
