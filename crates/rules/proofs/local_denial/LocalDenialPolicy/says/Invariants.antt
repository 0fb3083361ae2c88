use Rattle.std.proofs.Common.{◌≡◌, ℕ, ◌<◌, true}
use Rattle.sets.specs.Members.{member}
use Rattle.rules.specs.PolicyLaws.{Apart}
use Rattle.rules.proofs.local_denial.LocalDenialPolicy.says.Given as goal

abbrev pub invariant-loop-i : goal.invariant-loop-i
invariant-loop-i l =
    ((k : ℕ) → member l.fn.granting k ≡ true → k < l.i-iterator.from → Apart l.denying l.senior k → ⊥) × (l.i-iterator.set ≡ l.fn.granting)
