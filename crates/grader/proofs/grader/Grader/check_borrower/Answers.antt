use Rattle.std.proofs.Common.{length, sym, ◌∙◌}
use Rattle.std.proofs.lemmas.Bool.{leb-true, leb-false}
use Rattle.std.proofs.lemmas.Bool.Decides.{not_from_Decides}
use Rattle.tables.specs.Loans.{standing}
use Rattle.grader.proofs.Finding.{denial_refuses, free_passes, full_refuses}
use Rattle.grader.proofs.grader.Grader.check_borrower.Goals as goal

pub returns-then-is_full : goal.returns-then-is_full
returns-then-is_full g c = record {
  refused_by_the_first_check_that_holds =
      full_refuses _ c.args.self.now c.args.borrower c.args.role
      (not_from_Decides c.has.result c.has.ensures.tells_whether_such_a_loan_stands c.if-has.false)
      c.in_default.ensures.gives_the_lowest_denying_rule
      (leb-true 32 (length (standing c.args.self.now.loans)) (sym c.is_full.ensures.tells_whether_32_stand ∙ c.if-is_full.true));
}

pub returns-in-Some : goal.returns-in-Some
returns-in-Some g c = record {
  refused_by_the_first_check_that_holds =
      denial_refuses _ c.args.self.now c.args.borrower c.args.role
      (not_from_Decides c.has.result c.has.ensures.tells_whether_such_a_loan_stands c.if-has.false)
      c.in-Some.rule c.in-Some.ensures.gives_the_lowest_denying_rule;
}

pub returns : goal.returns
returns g c = record {
  refused_by_the_first_check_that_holds =
      free_passes _ c.args.self.now c.args.borrower c.args.role
      (not_from_Decides c.has.result c.has.ensures.tells_whether_such_a_loan_stands c.if-has.false)
      c.in_default.ensures.gives_the_lowest_denying_rule
      (leb-false 32 (length (standing c.args.self.now.loans)) (sym c.is_full.ensures.tells_whether_32_stand ∙ c.if-is_full.false));
}
