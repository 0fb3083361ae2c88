use Rattle.std.proofs.Common.{sym}
use Rattle.sets.proofs.MemberLaws.{some_member}
use Rattle.rules.proofs.claim.Claim.judged.Goals as goal

pub returns : goal.returns
returns g c = record {
  entitled_exactly_when_the_policy_says_yes = (
    sym c.if-is_allowed.ensures.what_the_policy_says,
    some_member c.args.self.granting (sym c.if-is_empty.ensures.answers_whether_it_is_empty),
    c.in-Some.ensures.gives_the_lowest_member,
  );
}
