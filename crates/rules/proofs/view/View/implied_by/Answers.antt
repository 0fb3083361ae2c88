use Rattle.std.proofs.Common.{rules, ◌≡◌, ℕ, Some, Decides}
use Rattle.std.specs.List.{slice_get}
use Rattle.sets.specs.Members.{member}
use Rattle.kinds.specs.Kinds.{Implied}
use Rattle.rules.proofs.Numbers.{asked_all}
use Rattle.rules.proofs.view.View.implied_by.Goals as goal

pub returns : goal.returns
returns g c =
    let rules_lent = c.args.self.now.rules.now in
    let implied = c.numbers_of.result in
    let told : (i : ℕ) (rule : _) → slice_get rules_lent i ≡ Some rule → Decides (member implied i) (Implied g.K.Kind.meaning c.args.test rule.test) = λ i rule found.
    let w = c.numbers_of.ensures.members_are_the_numbers_of_rules_that_pass i rule found in search rules in
    record { members_are_the_rules_whose_test_is_implied = asked_all rules_lent (λ rule. Implied g.K.Kind.meaning c.args.test rule.test) implied told c.numbers_of.ensures.members_are_numbers_of_rules }
