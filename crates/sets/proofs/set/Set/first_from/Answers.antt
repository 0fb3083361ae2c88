use Rattle.std.proofs.Common.{◌≡◌, true, false, rules}
use Rattle.std.proofs.lemmas.Iterator.{first_from_Range}
use Rattle.sets.specs.Members.{member}
use Rattle.sets.proofs.MemberLaws.{lowest_from}
use Rattle.sets.proofs.set.Set.first_from.Goals as goal
use borrow.Author.Tests.{tests}

pub returns : goal.returns
returns c =
    record { gives_the_lowest_member_from_there = lowest_from c.args.self c.args.from c.find.result (first_from_Range _ _ _ _ (λ i. member c.args.self i ≡ true) (λ i. member c.args.self i ≡ false) c.find.ensures.ran (λ x q k. search (rules, tests)) (λ x q k. search (rules, tests))) }
