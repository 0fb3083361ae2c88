use Rattle.std.proofs.Common.{◌≡◌, ap, arith}
use Rattle.sets.specs.Bytes.{little}
use Rattle.sets.specs.Members.{bit, member}
use Rattle.sets.proofs.Listing.{numbered_is}
use Rattle.sets.proofs.set.Set.from_le_bytes.Goals as goal

pub returns : goal.returns
unfolding member
returns c =
    let whole : c.from_le_bytes.result ≡ little 8 c.args.bytes = omega (arith, c.from_le_bytes.ensures) in
    record {
      members_are_the_bits_that_are_one = λ k. ap (λ n. bit n k) whole;
      is_the_set_of_that_number = numbered_is c.from_le_bytes.result (little 8 c.args.bytes) _ whole;
    }
