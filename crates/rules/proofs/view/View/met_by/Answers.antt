use Rattle.std.proofs.Common.{rules, ◌≡◌, ℕ, true, Some, sym, ◌∙◌}
use Rattle.std.proofs.lemmas.Bool.Decides.{Decides-like}
use Rattle.std.specs.List.{slice_get}
use Rattle.sets.specs.Members.{member}
use Rattle.kinds.specs.Kinds.{meets}
use Rattle.rules.proofs.Numbers.{asked_all}
use Rattle.rules.proofs.view.View.met_by.Goals as goal

pub returns : goal.returns
returns g c =
    let rules_lent = c.args.self.now.rules.now in
    let met = c.numbers_of.result in
    let told : (i : ℕ) (rule : _) → slice_get rules_lent i ≡ Some rule → member met i ≡ meets g.K.Kind.meaning c.args.value rule.test = λ i rule found.
    let w = c.numbers_of.ensures.members_are_the_numbers_of_rules_that_pass i rule found in search rules in
    record {
      members_are_exactly_the_rules_met = λ i. Decides-like (member met i)
          (λ w. record { rule = w.0; found = w.1; met = w.2 })
          (λ w. (w.rule, w.found, w.met))
          (asked_all rules_lent (λ rule. meets g.K.Kind.meaning c.args.value rule.test ≡ true) met
          (λ i rule found. ((λ held. sym (told i rule found) ∙ held), (λ meets. told i rule found ∙ meets)))
          c.numbers_of.ensures.members_are_numbers_of_rules i);
    }
