use Rattle.tables.specs.Loans.{standing}
use Rattle.tables.specs.Settings.{Grounds, setting}
use Rattle.tables.proofs.PanelLaws.{TrimmedTo}
use Rattle.tables.proofs.panels.Panels.trim.Given as goal

abbrev pub invariant-loop-seat : goal.invariant-loop-seat
invariant-loop-seat g l = TrimmedTo (Grounds (setting g.K.Kind.meaning g.P.Policy.judge l.ruling) (standing l.loans)) l.seat-index l.initial.seat-items l.seat-items
