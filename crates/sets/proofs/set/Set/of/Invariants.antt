use Rattle.std.proofs.Common.{◌≡◌, ℕ, ◌&&◌, ltb, take}
use Rattle.sets.specs.Members.{member, listed}
use Rattle.sets.proofs.set.Set.of.Given as goal

abbrev pub invariant-loop-i : goal.invariant-loop-i
invariant-loop-i l = (k : ℕ) → member l.set k ≡ (listed k (take l.i-index l.numbers) && ltb k 64)
