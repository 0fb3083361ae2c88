use Rattle.std.proofs.Common.{refl, arith}
use Rattle.std.proofs.lemmas.Option.{slice_get_within}
use Rattle.std.specs.Fn.{FnReturnsAt}
use Rattle.rules.proofs.Numbers.{asked_same, asked_with}
use Rattle.rules.proofs.Places.{found_here}
use Rattle.rules.proofs.view.View.numbers_of.Goals as goal
use Rattle.rules.proofs.view.View.numbers_of.Goals.{then-passes, else-passes}

pub loop-i-preserved : goal.loop-i-preserved
loop-i-preserved g c =
    let answers = FnReturnsAt g.F.Fn c.args.passes in
    let found = found_here c.args.self.now.rules.now c.loop-i.i c.rule-item.result c.loop-i-test.true c.rule-item.is in
    let asked : answers c.rule-item.result c.passes.result = record { shown = _; shows = refl; says = record { met = c.passes.ensures } } in
    elim c.if-passes.branch [
      | then-passes w ↦
          asked_with answers c.args.self.now.rules.now _ _ _ _ _ w.numbers-is (omega (arith, c.loop-i-test.true, c.args.self.now.few))
          w.with-numbers.ensures.members_are_those_before_and_this_one found (rw w.if-passes.true at asked) c.loop-i.invariant
      | else-passes w ↦
          asked_same answers c.args.self.now.rules.now _ _ _ _ w.numbers-is found (rw w.if-passes.false at asked) c.loop-i.invariant
    ]

pub returns : goal.returns
returns g c = record {
  members_are_the_numbers_of_rules_that_pass = λ i rule found. c.loop-i.invariant.0 i rule (let lt = slice_get_within c.args.self.now.rules.now i rule found in omega (arith, lt, c.loop-i-test.false)) found;
  members_are_numbers_of_rules = λ i held. let lt = c.loop-i.invariant.1 i held in omega (arith, lt, c.loop-i.auto.i-end);
}
