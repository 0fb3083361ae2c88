use Rattle.std.proofs.Common.{◌≡◌, ◌-◌, ◌≤◌, ◌∷◌, ◌++◌}
use Rattle.std.specs.Fmt.{HasWritten, IsPlainFormatter}
use Rattle.hall.specs.Shown.{members_from, with_commas}
use Rattle.hall.proofs.numbers.NumbersDisplay.fmt.Given as goal

abbrev pub invariant-loop-i : goal.invariant-loop-i
invariant-loop-i g l =
    (IsPlainFormatter l.fn.f → HasWritten g.W.Write.write_str_gives l.fn.f (with_commas (l.first ∷ l.yielded)) l.f)
    × (l.i-iterator.set ≡ l.fn.self.0) × (l.i-iterator.from ≤ 64)
    × (l.first ∷ (l.yielded ++ members_from l.fn.self.0 l.i-iterator.from (64 - l.i-iterator.from)) ≡ members_from l.fn.self.0 0 64)
