use Rattle.std.proofs.Common.{inl, inr, sym, ap, ◌∙◌}
use Rattle.sets.specs.Members.{member}
use Rattle.tables.proofs.PanelLaws.{taken_in}
use Rattle.tables.proofs.panels.trim.entitled_among.Goals as goal
use Rattle.tables.proofs.panels.trim.entitled_among.Goals.{then-allows-via-then-allows, then-allows-via-else-allows+then-has}

pub loop-role-preserved-in-loop-role : goal.loop-role-preserved-in-loop-role
loop-role-preserved-in-loop-role g c =
    let read = c.in-Some.ensures.steps in
    let same = c.loop-role.invariant.same_set in
    record {
      same_set = ap (λ m. m.set) read.1 ∙ same;
      gathered = taken_in _ c.loop-role.roles c.loop-role.role-iterator c.loop-role.invariant.gathered c.next.new.self c.in-Some.role c.with-roles.result read
          (λ k p. ap (λ s. member s k) same ∙ p.0)
          (λ held. (
            ap (λ s. member s c.in-Some.role) (sym same) ∙ held,
            elim c.then-allows.branch [
              | then-allows-via-then-allows w ↦
                  inl ((c.allows.ensures.tells_whether_rules_entitle_whoever_meets_these c.args.seat.person c.met-met.ensures.members_are_exactly_the_rules_met).0 w.if-allows.true)
              | then-allows-via-else-allows+then-has w ↦ inr (w.has.ensures.tells_whether_such_a_loan_stands.0 w.if-has.true)
            ],
          ))
          c.with-roles.ensures.members_are_those_before_and_this_one;
    }
