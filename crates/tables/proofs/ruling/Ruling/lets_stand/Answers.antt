use Rattle.std.proofs.Common.{◌<◌, sym, ◌∙◌, arith}
use Rattle.std.proofs.lemmas.Bool.{both_ways, ltb-true}
use Rattle.sets.specs.Members.{member}
use Rattle.sets.proofs.MemberLaws.{some_member}
use Rattle.tables.proofs.ruling.Ruling.lets_stand.Goals as goal
use Rattle.tables.proofs.ruling.Ruling.lets_stand.Goals.{then-from-loan, else-from-loan}

pub returns-then-is_empty : goal.returns-then-is_empty
returns-then-is_empty g c = elim c.if-from-loan.branch [
  | then-from-loan w ↦
      let denies = w.claim.ensures.denying_exactly_the_met_rules_that_deny in
      let none = w.is_empty.ensures.tells_whether_no_number_is_a_member.0 (sym w.value-is ∙ c.if-is_empty.true) in
      let early : c.args.self.now.clock < c.args.loan.due = omega (arith, w.if-from-loan.true, c.from.ensures) in
      let entitles = c.entitles.ensures.tells_whether_rules_entitle in
      record {
        tells_whether_the_loan_may_stand = (
          (λ e. record { not_due = early; lender_entitled = entitles.0 e; borrower_not_denied = λ i d. both_ways (member w.claim.result.denying i) (none i) ((denies i).1 d) }),
          (λ m. entitles.1 m.lender_entitled),
        );
      }
  | else-from-loan w ↦
      let late = w.if-from-loan.false in
      let early : c.from.result < c.args.loan.due = ltb-true _ _ (sym w.value-is ∙ c.if-is_empty.true) in
      absurd (let z : ⊥ = omega arith in z)
]

pub returns-else-is_empty : goal.returns-else-is_empty
returns-else-is_empty g c = record {
  tells_whether_the_loan_may_stand = (
    (λ e. absurd (both_ways _ c.if-is_empty.false e)),
    (λ m. elim c.if-from-loan.branch [
      | then-from-loan w ↦
          let d = some_member w.claim.result.denying (sym w.is_empty.ensures.answers_whether_it_is_empty ∙ sym w.value-is ∙ c.if-is_empty.false) in
          absurd (m.borrower_not_denied d.0 ((w.claim.ensures.denying_exactly_the_met_rules_that_deny d.0).0 d.1))
      | else-from-loan w ↦ absurd (let z : ⊥ = omega (arith, m.not_due, w.if-from-loan.false, c.from.ensures) in z)
    ]),
  );
}
