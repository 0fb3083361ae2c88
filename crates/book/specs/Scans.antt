-- SCANS: progress by the numbers that the code keeps and the memory that it is lent. For the private functions of the reader.
--     policy_code p         the code of a policy that there may be
--     progress s rs es      the progress of the scan s over the memory rs and es
--     Room s rs es          what is counted lies within the memory
--     Rest s t rs rs' es es'    the memory past what is counted is as it was
use Rattle.std.specs.Prelude.{◌≡◌, ℕ, ◌≤◌, Option, List, length, take, drop}
use Rattle.std.specs.Option.{option_map}
use Rattle.rules.specs.declared.entry.Entry.{Entry}
use Rattle.rules.specs.declared.rule.Rule.{Rule}
use Rattle.rules.specs.declared.shipped.Shipped.{Shipped}
use Rattle.rules.specs.Verdicts.{code}
use Rattle.book.specs.declared.scan.Scan.{Scan}
use Rattle.book.specs.Progress.{Progress}

abbrev pub policy_code : Option Shipped → Option ℕ
policy_code p = option_map code p

abbrev pub progress : {S : Type 0} → Scan → List (Rule S) → List Entry → Progress S
progress s rs es = record { policy = policy_code s.policy; ended = s.ended; rules = take s.draft.rules.count rs; entries = take s.draft.entries.count es }

pub record Room {S : Type 0} (s : Scan) (rs : List (Rule S)) (es : List Entry) : Type 0 where
  pub rules : s.draft.rules.count ≤ length rs
  pub entries : s.draft.entries.count ≤ length es

pub record Rest {S : Type 0} (s t : Scan) (rs rs' : List (Rule S)) (es es' : List Entry) : Type 0 where
  pub more_rules : s.draft.rules.count ≤ t.draft.rules.count
  pub more_entries : s.draft.entries.count ≤ t.draft.entries.count
  pub rules : drop t.draft.rules.count rs' ≡ drop t.draft.rules.count rs
  pub entries : drop t.draft.entries.count es' ≡ drop t.draft.entries.count es
