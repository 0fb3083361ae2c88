use Rattle.std.proofs.lemmas.Nat.{or_lt}
use Rattle.sets.specs.Members.{member}
use Rattle.sets.proofs.BitLaws.{bit-or}
use Rattle.sets.proofs.set.Set.union.Goals as goal

pub invariant_of-result : goal.invariant_of-result
invariant_of-result c = record { small = or_lt 64 c.args.self.bits c.args.other.bits c.args.self.small c.args.other.small }

pub returns : goal.returns
unfolding member
returns c = record { members_are_those_of_either = λ k. bit-or c.args.self.bits c.args.other.bits k }
