use Rattle.std.proofs.Common.{◌<◌, refl, arith, rules}
use Rattle.sets.proofs.MemberLaws.{member_below}
use Rattle.sets.proofs.set.members.MembersIterator.next.Goals as goal
use Rattle.std.proofs.iter.Next.{firm}

pub overflow_add-self : goal.overflow_add-self
overflow_add-self c = omega (arith, member_below c.args.self.now.set c.in-Some.i c.in-Some.ensures.gives_the_lowest_member_from_there.held)

pub returns-in-Some : goal.returns-in-Some
returns-in-Some c =
    let low = c.in-Some.ensures.gives_the_lowest_member_from_there in
    let small : c.in-Some.i < 64 = member_below c.args.self.now.set c.in-Some.i low.held in
    record { steps = (low, refl); goes = firm ((tt, tt, omega (arith, low.reached))) (λ h. search rules) }
