use Rattle.std.proofs.Common.{◌<◌, sym, refl, arith}
use Rattle.std.proofs.lemmas.Option.{slice_get_within}
use Rattle.std.proofs.lemmas.Bool.{both_ways}
use Rattle.sets.specs.Members.{member}
use Rattle.sets.proofs.Gathering.{gathered_same, gathered_with, gathered_all}
use Rattle.rules.specs.Rules.{seen}
use Rattle.rules.proofs.Places.{found_here}
use Rattle.rules.proofs.RuleLaws.{grants_from, grants_not, denies_not}
use Rattle.rules.proofs.view.View.claim.Goals as goal
use Rattle.rules.proofs.view.View.claim.Goals.{then-not-is_disjoint, else-not-is_disjoint, then-contains, else-contains}

pub loop-i-preserved-then-not-contains : goal.loop-i-preserved-then-not-contains
loop-i-preserved-then-not-contains g c =
    let unmet = sym c.if-not-contains.ensures.tells_whether_it_is_a_member in (
      gathered_same _ _ _ _ refl (λ w. both_ways (member c.args.met c.loop-i.i) unmet w.0) c.loop-i.invariant.0,
      gathered_same _ _ _ _ refl (λ w. both_ways (member c.args.met c.loop-i.i) unmet w.0) c.loop-i.invariant.1,
    )

pub loop-i-preserved : goal.loop-i-preserved
loop-i-preserved g c =
    let b = seen g.K.Kind.meaning c.args.self.now in
    let i = c.loop-i.i in
    let rule = c.rule-item.result in
    let found = found_here c.args.self.now.rules.now i rule c.loop-i-test.true c.rule-item.is in
    let small : i < 64 = omega (arith, c.loop-i-test.true, c.args.self.now.few) in
    let met = sym c.if-not-contains.ensures.tells_whether_it_is_a_member in
    let are = c.sources-sources.ensures.members_are_the_role_and_what_leads_to_it in
    let apart = c.is_disjoint.ensures.tells_whether_no_member_is_in_the_other in (
      elim c.if-not-is_disjoint.branch [
        | then-not-is_disjoint w ↦
            gathered_with _ _ _ _ _ w.granting-is small
            (met, grants_from b c.args.role c.args.minute i rule c.sources-sources.result c.is_disjoint.result found are w.if-not-is_disjoint.true apart)
            w.with-granting.ensures.members_are_those_before_and_this_one c.loop-i.invariant.0
        | else-not-is_disjoint w ↦
            gathered_same _ _ _ _ w.granting-is
            (λ x. grants_not b c.args.role c.args.minute i rule c.sources-sources.result c.is_disjoint.result found are w.if-not-is_disjoint.false apart x.1)
            c.loop-i.invariant.0
      ],
      elim c.if-contains.branch [
        | then-contains w ↦
            gathered_with _ _ _ _ _ w.denying-is small
            (met, record { rule = rule; found = found; denied = sym w.if-contains.ensures.tells_whether_it_is_a_member })
            w.with-denying.ensures.members_are_those_before_and_this_one c.loop-i.invariant.1
        | else-contains w ↦
            gathered_same _ _ _ _ w.denying-is
            (λ x. denies_not b c.args.role i rule found (sym w.if-contains.ensures.tells_whether_it_is_a_member) x.1)
            c.loop-i.invariant.1
      ],
    )

pub returns : goal.returns
returns g c = record {
  granting_exactly_the_met_rules_that_grant_or_lead = gathered_all _ _ _ _ c.loop-i-test.false (λ k w. slice_get_within c.args.self.now.rules.now k w.1.rule w.1.found) c.loop-i.invariant.0;
  denying_exactly_the_met_rules_that_deny = gathered_all _ _ _ _ c.loop-i-test.false (λ k w. slice_get_within c.args.self.now.rules.now k w.1.rule w.1.found) c.loop-i.invariant.1;
}
