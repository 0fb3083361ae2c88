use Rattle.logs.proofs.theorems.the_calls_fix_the_replies.Goals as goal
use Rattle.logs.proofs.Fixing.{calls_fix_replies}

pub returns : goal.returns
returns g c = record { the_same_calls_are_answered_alike = calls_fix_replies }
