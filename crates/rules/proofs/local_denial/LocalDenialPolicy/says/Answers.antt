use Rattle.std.proofs.Common.{sym, ap, ◌∙◌, ⊎_elim}
use Rattle.std.proofs.lemmas.Bool.{cases_Bool}
use Rattle.std.proofs.lemmas.Bool.Decides.{not_from_Decides}
use Rattle.sets.proofs.Reading.{read_on, read_all}
use Rattle.rules.specs.Policies.{local_denial}
use Rattle.rules.proofs.LocalLaws.{apart_from, apart_not_below}
use Rattle.rules.specs.PolicyLaws.{Apart, local_decides}
use Rattle.rules.proofs.local_denial.LocalDenialPolicy.says.Goals as goal
use Rattle.rules.proofs.local_denial.LocalDenialPolicy.says.Goals.{else-not-contains-via-then-not-contains+else-above_none, else-not-contains-via-else-not-contains}

pub returns-then-above_none : goal.returns-then-above_none
returns-then-above_none c =
    let low = rw c.loop-i.invariant.1 at c.in-Some.ensures.steps.0 in
    record {
      says_what_it_means = sym ((local_decides c.args.granting c.args.denying c.args.senior.now).1 (
        c.in-Some.i,
        low.held,
        apart_from c.args.denying c.args.senior.now c.below_some-below.result c.in-Some.i
            c.below_some-below.ensures.members_are_the_rules_junior_to_a_denying_one
            (sym c.if-not-contains.ensures.tells_whether_it_is_a_member)
            (c.above_none.ensures.tells_whether_it_is_senior_to_no_denying_rule.0 c.if-above_none.true),
      ));
    }

pub loop-i-preserved : goal.loop-i-preserved
loop-i-preserved c =
    let next = c.in-Some.ensures.steps in
    let low = rw c.loop-i.invariant.1 at next.0 in
    let refused : Apart c.args.denying c.args.senior.now c.in-Some.i → ⊥ = elim c.else-not-contains.branch [
      | else-not-contains-via-then-not-contains+else-above_none w ↦
          λ apart. not_from_Decides w.above_none.result w.above_none.ensures.tells_whether_it_is_senior_to_no_denying_rule w.if-above_none.false (λ j denies. (apart j denies).0)
      | else-not-contains-via-else-not-contains w ↦
          λ apart. apart_not_below c.args.denying c.args.senior.now c.below_some-below.result c.in-Some.i
          c.below_some-below.ensures.members_are_the_rules_junior_to_a_denying_one
          (sym w.if-not-contains.ensures.tells_whether_it_is_a_member) apart
    ] in (
      (λ k held lt. read_on c.args.granting c.loop-i.i-iterator.from c.in-Some.i (λ i. Apart c.args.denying c.args.senior.now i → ⊥) low refused c.loop-i.invariant.0 k held (rw next.1 at lt)),
      ap (λ m. m.set) next.1 ∙ c.loop-i.invariant.1,
    )

pub returns : goal.returns
returns c = record {
  says_what_it_means =
      let answer = local_denial c.args.granting c.args.denying c.args.senior.now in
      ⊎_elim
      (λ y.
      let w = (local_decides c.args.granting c.args.denying c.args.senior.now).0 y in
      absurd (c.loop-i.invariant.0 w.0 w.1 (read_all c.args.granting c.loop-i.i-iterator.from w.0 (rw c.loop-i.invariant.1 at c.in-None.ensures.steps.0) w.1) w.2))
      (λ z. sym z)
      (cases_Bool answer);
}
