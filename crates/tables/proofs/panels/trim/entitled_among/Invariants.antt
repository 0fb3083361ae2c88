use Rattle.std.proofs.Common.{◌≡◌, true}
use Rattle.sets.specs.Members.{member}
use Rattle.sets.proofs.Gathering.{Gathered}
use Rattle.tables.specs.Loans.{standing}
use Rattle.tables.specs.Settings.{Grounds, setting}
use Rattle.tables.proofs.panels.trim.entitled_among.Given as goal

abbrev pub invariant-loop-role : goal.invariant-loop-role
invariant-loop-role g l = record {
  same_set : l.role-iterator.set ≡ l.seat.active;
  gathered : Gathered (λ role. (member l.seat.active role ≡ true) × Grounds (setting g.K.Kind.meaning g.P.Policy.judge l.ruling) (standing l.loans) l.seat.person role) l.role-iterator.from l.roles;
}
