-- ENTRIES: when an assume entry counts.
--     Live e minute    the entry has begun, and the minute is before its start plus its duration
use Rattle.std.specs.Prelude.{ℕ, ◌+◌, ◌<◌, ◌≤◌}
use Rattle.rules.specs.declared.entry.Entry.{Entry}

pub record Live (e : Entry) (minute : ℕ) : Type 0 where
  pub begun : e.start ≤ minute
  pub unexpired : minute < e.start + e.duration
