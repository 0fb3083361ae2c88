use Rattle.std.proofs.Common.{◌-◌, ◌^◌, not, ◌&&◌, ltb, ap, ◌∙◌, arith}
use Rattle.std.proofs.lemmas.Nat.{one_shl, pow_below}
use Rattle.std.proofs.lemmas.Bool.Decides.{nat_tests}
use Rattle.sets.specs.Members.{bit, member}
use Rattle.sets.proofs.BitLaws.{bit-and, bit_not, bit-one}
use Rattle.sets.proofs.MemberLaws.{member_below}
use Rattle.sets.proofs.set.Set.without.Goals as goal

pub returns-then-i-ge64 : goal.returns-then-i-ge64
returns-then-i-ge64 c = record {
  members_are_those_before_but_this_one = λ k. let p = c.if-i-ge64.true in let q = member_below c.args.self k in grind (arith, nat_tests);
}

pub returns : goal.returns
unfolding member
returns c = record {
  members_are_those_before_but_this_one = λ k.
      let self = c.args.self in
      let lt = c.if-i-ge64.false in
      bit-and self.bits _ k
      ∙ ap (λ n. bit self.bits k && bit (2 ^ 64 - 1 - n) k) (one_shl c.args.i 64 lt)
      ∙ ap (λ b. bit self.bits k && b) (bit_not 64 (2 ^ c.args.i) k (pow_below c.args.i 64 lt) ∙ ap (λ b. not b && ltb k 64) (bit-one c.args.i k))
      ∙ let q = member_below self k in grind (arith, nat_tests);
}
