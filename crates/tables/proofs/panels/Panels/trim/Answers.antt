use Rattle.std.proofs.Common.{arith}
use Rattle.tables.proofs.PanelLaws.{trimmed_more, trimmed_all}
use Rattle.tables.proofs.panels.Panels.trim.Goals as goal

pub loop-seat-preserved : goal.loop-seat-preserved
loop-seat-preserved g c = trimmed_more _ c.loop-seat.seat-index c.args.self.now.seats c.loop-seat.seat-items c.seat-item.result c.trimmed.result
    (omega (arith, c.args.self.now.long, c.loop-seat-test.true))
    (record { same_person = c.trimmed.ensures.keeps_its_person; roles_with_grounds = c.trimmed.ensures.keeps_exactly_the_active_roles_with_grounds })
    c.loop-seat.invariant

pub returns : goal.returns
returns g c = record {
  each_panel_keeps_exactly_the_roles_with_grounds = trimmed_all _ c.loop-seat.seat-index _ _ (omega (arith, c.args.self.now.long, c.loop-seat-test.false)) c.loop-seat.invariant;
}
