use Rattle.std.proofs.Common.{◌<◌, length, ap, arith}
use Rattle.std.proofs.lemmas.Bool.Decides.{not_from_Decides}
use Rattle.tables.proofs.LoanLaws.{swept_none, turn_kept, turn_left}
use Rattle.tables.proofs.loans.Loans.retain.Goals as goal
use Rattle.tables.proofs.loans.Loans.retain.Goals.{then-keeps, else-keeps}

pub loop-i-init : goal.loop-i-init
loop-i-init g c = swept_none _ _

pub loop-i-preserved : goal.loop-i-preserved
loop-i-preserved g c =
    let few = c.loop-i.self.few in
    let long = c.loop-i.self.long in
    let here : c.loop-i.i < length c.args.self.now.items = omega (arith, c.loop-i-test.true, c.loop-i.auto.i-end, few, long, c.loop-i.invariant.long) in
    elim c.if-keeps.branch [
      | then-keeps w ↦
          turn_kept _ c.args.self.now.items c.loop-i.self.items c.loop-i.i c.loop-i.kept _ here c.loop-i.invariant c.if-keeps.self.items c.if-keeps.kept
          (ap (λ s. s.items) w.self-is) w.kept-is (c.keeps.ensures.tells_whether_it_passes.0 w.if-keeps.true)
      | else-keeps w ↦
          turn_left _ c.args.self.now.items c.loop-i.self.items c.loop-i.i c.loop-i.kept _ here c.loop-i.invariant c.if-keeps.self.items c.if-keeps.kept
          (ap (λ s. s.items) w.self-is) w.kept-is (not_from_Decides c.keeps.result c.keeps.ensures.tells_whether_it_passes w.if-keeps.false)
    ]
