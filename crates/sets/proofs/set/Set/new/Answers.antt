use Rattle.sets.specs.Members.{member}
use Rattle.sets.proofs.BitLaws.{bit-zero}
use Rattle.sets.proofs.set.Set.new.Goals as goal

pub returns : goal.returns
unfolding member
returns c = record { no_number_is_a_member = bit-zero }
