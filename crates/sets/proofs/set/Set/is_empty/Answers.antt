use Rattle.std.proofs.lemmas.Bool.Decides.{same_from_decides}
use Rattle.sets.proofs.MemberLaws.{zero_decides, empty_decides}
use Rattle.sets.proofs.set.Set.is_empty.Goals as goal

pub returns : goal.returns
returns c =
    let d = zero_decides c.args.self in
    record { answers_whether_it_is_empty = same_from_decides _ _ d (empty_decides c.args.self); tells_whether_no_number_is_a_member = d }
