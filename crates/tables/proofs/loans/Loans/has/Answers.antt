use Rattle.std.proofs.Common.{false, length, refl, ap, subst, arith, below_more}
use Rattle.std.proofs.lemmas.Bool.{both_ways}
use Rattle.std.proofs.lemmas.Bool.Decides.{not_from_Decides}
use Rattle.rules.proofs.Places.{found_one}
use Rattle.std.proofs.lemmas.Option.{slice_get_within}
use Rattle.tables.specs.Loans.{Lent}
use Rattle.tables.proofs.LoanLaws.{read_at}
use Rattle.tables.proofs.loans.Loans.has.Goals as goal

pub returns-then-is_of : goal.returns-then-is_of
returns-then-is_of c = record {
  tells_whether_such_a_loan_stands = (
    (λ _. record {
      place = c.loop-loan.loan-index;
      loan = _;
      found = read_at c.standing-loan-items.result.now _ c.loop-loan.loan-index _ c.standing-loan-items.ensures.those_that_stand c.loop-loan-test.true;
      lent = c.is_of.ensures.tells_whether_it_is_lent.0 c.if-is_of.true;
    }),
    (λ _. refl),
  );
}

pub loop-loan-preserved : goal.loop-loan-preserved
loop-loan-preserved c = below_more _ _ c.loop-loan.invariant (λ x found lent.
    let here = read_at c.standing-loan-items.result.now _ c.loop-loan.loan-index _ c.standing-loan-items.ensures.those_that_stand c.loop-loan-test.true in
    not_from_Decides c.is_of.result c.is_of.ensures.tells_whether_it_is_lent c.if-is_of.false
    (subst (λ z. Lent z c.args.person c.args.role) (found_one _ c.loop-loan.loan-index x _ found here) lent))

pub returns : goal.returns
returns c =
    let same = ap length c.standing-loan-items.ensures.those_that_stand in
    record {
      tells_whether_such_a_loan_stands = (
        (λ e. absurd (both_ways false refl e)),
        (λ w. absurd (c.loop-loan.invariant w.place (let lt = slice_get_within _ w.place w.loan w.found in omega (arith, same, c.loop-loan-test.false)) w.loan w.found w.lent)),
      );
    }
