use Rattle.std.proofs.lemmas.Bool.Decides.{same_from_decides}
use Rattle.sets.proofs.MemberLaws.{and_none_decides, disjoint_decides}
use Rattle.sets.proofs.set.Set.is_disjoint.Goals as goal

pub returns : goal.returns
returns c =
    let d = and_none_decides c.args.self c.args.other in
    record {
      answers_whether_they_are_disjoint = same_from_decides _ _ d (disjoint_decides c.args.self c.args.other);
      tells_whether_no_member_is_in_the_other = d;
    }
