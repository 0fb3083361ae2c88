-- One turn of a run: the log with one reply more leads to what is held after the call.
use Rattle.std.proofs.Common.{◌≡◌, ℕ, ◌+◌, ◌<◌, List, ◌∷◌, reverse, length, take, set, rules}
use Rattle.rules.specs.declared.seniority.Seniority.{Seniority}
use Rattle.logs.specs.declared.exchange.Exchange.{Exchange}
use Rattle.logs.specs.Logs.{Plant}
use Rattle.logs.specs.Promises.{Held, Led}
use Rattle.logs.proofs.Running.{run_more}

module _ {V S P : Type 0} (over : P → Plant V S) where
  -- over the policy that the run began with, which the grader has kept
  pub turn : (log : List (Exchange V)) (i : ℕ) (e : Exchange V) (policy first : P) (table after : Seniority) (old new : Held V) →
      i < length log → policy ≡ first → after ≡ table →
      (Led (over policy) (reverse (take i log)) table old → Led (over policy) (e ∷ reverse (take i log)) table new) →
      Led (over first) (reverse (take i log)) table old → Led (over first) (reverse (take (i + 1) (set log i e))) after new
  turn log i e policy first table after old new within same stays carries led = search (rules, run_more)
