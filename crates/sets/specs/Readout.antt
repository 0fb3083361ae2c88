-- READOUT: how the members of a set are read out one by one.
--     ReadOut m r n     from the state m, r is the next member, or none where no more are left, and n is the state after it
use Rattle.std.specs.Prelude.{◌≡◌, ℕ, ◌+◌, Some, None, Option}
use Rattle.sets.specs.declared.set.members.Members.{Members}
use Rattle.sets.specs.Members.{LowestFrom, EmptyFrom}

abbrev pub ReadOut : Members → Option ℕ → Members → Type 0
ReadOut m None n = EmptyFrom m.set m.from × (n ≡ m)
ReadOut m (Some i) n = LowestFrom m.set m.from i × (n ≡ record { set = m.set; from = i + 1 })
