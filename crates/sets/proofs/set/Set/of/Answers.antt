use Rattle.std.proofs.Common.{ℕ, ◌&&◌, ltb, ap, ◌∙◌}
use Rattle.std.proofs.lemmas.List.{take_all}
use Rattle.sets.specs.Members.{listed}
use Rattle.sets.proofs.Listing.{listing_more, listing_all}
use Rattle.sets.proofs.set.Set.of.Goals as goal

pub loop-i-preserved : goal.loop-i-preserved
loop-i-preserved c =
    listing_more c.args.numbers.now c.loop-i.i-index c.loop-i.set c.with-set.result c.loop-i-test.true c.loop-i.invariant c.with-set.ensures.members_are_those_before_and_this_one

pub returns : goal.returns
returns c =
    let whole = λ (k : ℕ). c.loop-i.invariant k ∙ ap (λ xs. listed k xs && ltb k 64) (take_all c.loop-i.i-index c.args.numbers.now c.loop-i-test.false) in
    record { members_are_the_numbers_listed = whole; is_the_set_of_these = listing_all c.args.numbers.now c.loop-i.set whole }
