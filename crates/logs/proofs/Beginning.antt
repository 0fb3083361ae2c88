-- Before the first call: the empty log led to what a grader holds when it is made.
use Rattle.std.proofs.Common.{◌≡◌, ℕ, [], length, Some, None, Decides, ap, rules}
use Rattle.std.specs.List.{slice_get}
use Rattle.std.proofs.lemmas.Bool.{both_ways}
use Rattle.rules.specs.declared.seniority.Seniority.{Seniority}
use Rattle.rules.specs.Ranks.{is_senior}
use Rattle.rules.specs.Rules.{Senior}
use Rattle.tables.specs.declared.loan.Loan.{Loan}
use Rattle.tables.specs.Panels.{seat_at, person_of, active_of, active_at}
use Rattle.logs.specs.Logs.{Plant, ActiveAfter, RoleEnded, Took, MadeBy, LoanEnded, StandsAfter}
use Rattle.logs.specs.Promises.{Held, MoreRulesMoreRoles, Led}
use Rattle.logs.proofs.SinceLaws.{since_none, uncut}

module _ {V S : Type 0} (p : Plant V S) where
  no_role : (at role : ℕ) → ActiveAfter p [] at role → ⊥
  no_role at role = since_none (Took p at role) (RoleEnded p at role) (λ took. took)

  no_loan : (loan : Loan) → StandsAfter p [] loan → ⊥
  no_loan loan = since_none (MadeBy p loan) (LoanEnded p loan) (λ made. made)

  module _ (table : Seniority) (held : Held V) where
    pub led_at_first : MoreRulesMoreRoles p → ((i j : ℕ) → Decides (is_senior table i j) (Senior p.book i j)) → held.clock ≡ p.start → held.records ≡ p.register →
        length held.panels ≡ 24 → ((at : ℕ) → seat_at held.panels at ≡ None) → held.loans ≡ [] → Led p [] table held
    led_at_first more ranks clock records panels closed loans = record {
      whole = record {
        every_call_answered_by_what_came_before = λ later before e cut. absurd (uncut later e before cut);
        clock_is_that_of_the_last_granted_tick = clock;
        records_are_those_of_the_last_granted_enters = records;
        all_panels_there = panels;
        person_is_the_last_one_seated = λ at. ap person_of (closed at);
        role_active_exactly_since_its_take = λ at role. (
          (λ active. absurd (both_ways (active_at held.panels at role) (ap (λ seat. active_of seat role) (closed at)) active)),
          (λ a. absurd (no_role at role a)),
        );
        loan_stands_exactly_since_its_lend = λ loan. ((λ there. absurd (unlent there.0 loan there.1)), (λ s. absurd (no_loan loan s)));
        one_loan_of_a_role_to_a_borrower = λ i j a b at_i at_j alike. absurd (unlent i a at_i);
        active_role_has_its_grounds = λ at role a. absurd (no_role at role a);
        whoever_meets_more_rules_is_entitled_to_more = more;
      };
      ranks = record { senior_exactly_when_its_test_implies_the_other = ranks };
      loans_may_stand = λ loan s. absurd (no_loan loan s);
    }
      where
        unlent : (i : ℕ) (loan : Loan) → slice_get held.loans i ≡ Some loan → ⊥
        unlent i loan found = search rules
