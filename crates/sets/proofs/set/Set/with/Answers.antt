use Rattle.std.proofs.Common.{◌^◌, ◌||◌, ap, ◌∙◌, arith}
use Rattle.std.proofs.lemmas.Nat.{or_lt, one_shl, mod_below}
use Rattle.std.proofs.lemmas.Bool.Decides.{nat_tests}
use Rattle.sets.specs.Members.{bit, member}
use Rattle.sets.proofs.BitLaws.{bit-or, bit-one}
use Rattle.sets.proofs.set.Set.with.Goals as goal

pub invariant_of-result : goal.invariant_of-result
invariant_of-result c = record { small = or_lt 64 c.args.self.bits _ c.args.self.small (mod_below _ (2 ^ 64) (omega arith)) }

pub returns : goal.returns
unfolding member
returns c = record {
  members_are_those_before_and_this_one = λ k.
      let lt = c.if-i-ge64.false in
      bit-or c.args.self.bits _ k
      ∙ ap (λ b. bit c.args.self.bits k || b) (ap (λ n. bit n k) (one_shl c.args.i 64 lt) ∙ bit-one c.args.i k ∙ grind (arith, nat_tests));
}
