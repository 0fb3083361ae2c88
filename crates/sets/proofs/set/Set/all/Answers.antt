use Rattle.std.proofs.Common.{refl}
use Rattle.sets.proofs.Listing.{member-all}
use Rattle.sets.proofs.MemberLaws.{same_members}
use Rattle.sets.specs.Members.{member, all}
use Rattle.sets.proofs.set.Set.all.Goals as goal

pub returns : goal.returns
unfolding member
returns c = record { every_number_is_a_member = member-all; is_the_set_of_all = same_members _ all (λ k. refl) }
