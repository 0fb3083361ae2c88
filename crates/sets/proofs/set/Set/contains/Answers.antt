use Rattle.std.proofs.Common.{sym, refl, ◌∙◌}
use Rattle.std.proofs.lemmas.Bool.{le-ltb}
use Rattle.sets.specs.Members.{bit, member}
use Rattle.sets.proofs.MemberLaws.{member_past}
use Rattle.sets.proofs.set.Set.contains.Goals as goal

pub returns-then-i-lt64 : goal.returns-then-i-lt64
unfolding bit member
returns-then-i-lt64 c = record { tells_whether_it_is_a_member = refl }

pub returns-else-i-lt64 : goal.returns-else-i-lt64
returns-else-i-lt64 c = record
    { tells_whether_it_is_a_member = le-ltb c.args.i 64 c.if-i-lt64.false ∙ sym (member_past c.args.self c.args.i c.if-i-lt64.false) }
