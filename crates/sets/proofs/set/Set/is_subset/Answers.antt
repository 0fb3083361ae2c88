use Rattle.std.proofs.lemmas.Bool.Decides.{same_from_decides}
use Rattle.sets.proofs.MemberLaws.{and_all_decides, subset_decides}
use Rattle.sets.proofs.set.Set.is_subset.Goals as goal

pub returns : goal.returns
returns c =
    let d = and_all_decides c.args.self c.args.other in
    record { answers_whether_it_is_a_subset = same_from_decides _ _ d (subset_decides c.args.self c.args.other); tells_whether_every_member_is_in_the_other = d }
