use Rattle.std.proofs.Common.{◌≡◌, ◌+◌, ◌-◌, ◌<◌, ◌∷◌, [], ◌++◌, ap, sym, subst, ◌∙◌, append-nil, arith}
use Rattle.std.proofs.lemmas.Grind.{common_steps}
use Rattle.std.specs.Fmt.{HasWritten}
use Rattle.sets.specs.Members.{subset, LowestFrom, EmptyFrom}
use Rattle.sets.proofs.MemberLaws.{member_below}
use Rattle.hall.specs.Shown.{members_from}
use Rattle.hall.proofs.Listed.{none_left, first_listed, one_listed, numbers_listed}
use Rattle.hall.proofs.numbers.NumbersDisplay.fmt.Goals as goal

pub loop-i-init : goal.loop-i-init
loop-i-init g c =
    let s = c.args.self.now.0 in
    let step = c.in-Some.ensures.steps in
    let set_is : c.members-members.result.set ≡ s = c.members-members.ensures.whole_set in
    let low : LowestFrom s c.members-members.result.from c.in-Some.first = subst (λ t. LowestFrom t c.members-members.result.from c.in-Some.first) set_is step.0 in
    let lt : c.in-Some.first < 64 = member_below s c.in-Some.first low.held in
    let next_is = c.into_iter-i-iterator.ensures.into_iter_gives ∙ step.1 in
    let from_is : c.into_iter-i-iterator.result.from ≡ c.in-Some.first + 1 = ap (λ m. m.from) next_is in (
      grind (arith, common_steps),
      ap (λ m. m.set) next_is ∙ set_is,
      omega (arith, from_is, lt),
      ap (λ from. c.in-Some.first ∷ members_from s from (64 - from)) from_is ∙ first_listed s c.members-members.result.from c.in-Some.first c.members-members.ensures.from_the_lowest low lt,
    )

pub loop-i-preserved : goal.loop-i-preserved
loop-i-preserved g c =
    let s = c.args.self.now.0 in
    let before = c.loop-i.invariant in
    let step = c.in-Some-i.ensures.steps in
    let low : LowestFrom s c.loop-i.i-iterator.from c.in-Some-i.i = subst (λ t. LowestFrom t c.loop-i.i-iterator.from c.in-Some-i.i) before.1 step.0 in
    let lt : c.in-Some-i.i < 64 = member_below s c.in-Some-i.i low.held in
    let from_is : c.next-in-loop-i.new.self.from ≡ c.in-Some-i.i + 1 = ap (λ m. m.from) step.1 in (
      grind (arith, common_steps),
      ap (λ m. m.set) step.1 ∙ before.1,
      omega (arith, from_is, lt),
      ap (λ from. c.in-Some.first ∷ ((c.loop-i.yielded ++ c.in-Some-i.i ∷ []) ++ members_from s from (64 - from))) from_is
          ∙ one_listed s c.loop-i.i-iterator.from c.in-Some-i.i c.in-Some.first c.loop-i.yielded low lt before.2 before.3,
    )

pub returns-in-None-clause-writes : goal.returns-in-None-clause-writes
returns-in-None-clause-writes g c plain ok =
    let s = c.args.self.now.0 in
    let before = c.loop-i.invariant in
    let none : EmptyFrom s c.loop-i.i-iterator.from = subst (λ t. EmptyFrom t c.loop-i.i-iterator.from) before.1 c.in-None.ensures.steps.0 in
    let listed : c.in-Some.first ∷ c.loop-i.yielded ≡ members_from s 0 64 =
    ap (λ ms. c.in-Some.first ∷ ms) (sym (append-nil c.loop-i.yielded) ∙ ap (λ ms. c.loop-i.yielded ++ ms) (sym (none_left s c.loop-i.i-iterator.from (64 - c.loop-i.i-iterator.from) none)))
    ∙ before.3 in
    let missing = ap (λ t. subset t s) (sym c.all.ensures.is_the_set_of_all) in
    let text = numbers_listed s (c.in-Some.first ∷ c.loop-i.yielded) (sym c.if-is_empty.ensures.answers_whether_it_is_empty) (missing ∙ sym c.if-is_subset.ensures.answers_whether_it_is_a_subset) listed in
    subst (λ bs. HasWritten g.W.Write.write_str_gives c.args.f.now bs c.loop-i.f) text (before.0 plain)
