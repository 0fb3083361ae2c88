-- FIELDS: what a rule and an entry must keep to be in a rulebook.
--     good_rule lawful r    no role is both granted and denied, and the test is lawful
--     good_entry e          roles at most 63 and different, start at most 4,000,000,000, duration 1 to 100,000,000
use Rattle.std.specs.Prelude.{Bool, not, ◌&&◌, ◌==◌, nat_le}
use Rattle.sets.specs.Members.{disjoint}
use Rattle.rules.specs.declared.entry.Entry.{Entry}
use Rattle.rules.specs.declared.rule.Rule.{Rule}

abbrev pub good_rule : {S : Type 0} → (S → Bool) → Rule S → Bool
good_rule lawful r = disjoint r.grants r.denies && lawful r.test

abbrev pub good_entry : Entry → Bool
good_entry e =
    nat_le e.first 63 && (nat_le e.second 63 && (not (e.first == e.second)
    && (nat_le e.start 4000000000 && (nat_le 1 e.duration && nat_le e.duration 100000000))))
