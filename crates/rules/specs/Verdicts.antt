-- VERDICTS: what rules and policy say of a record and a role.
--     Verdict                            entitled, or the objection
--     Judged answer claim verdict        of a claim to which the policy gives the answer
--     Ruled b judge v role minute verdict   of a record: it is entitled, or no rule met grants the role, or it is refused, and
--                                        the verdict names the lowest of the denying rules met
--     judge_of policy                    what the shipped policy says
--     code policy                        the shipped policy's code in a rulebook file
--     policy_name policy                 its name in words
use Rattle.std.specs.Prelude.{◌≡◌, ℕ, ◌<◌, Bool, true, false, Ok, Err, Result, List, codes}
use Rattle.sets.specs.Members.{member, LowestFrom}
use Rattle.rules.specs.declared.claim.Claim.{Claim}
use Rattle.rules.specs.declared.claim.Objection.{Objection}
use Rattle.rules.specs.declared.claim.Objection.TheVariants.{NothingGrants, Denied}
use Rattle.rules.specs.declared.shipped.Shipped.{Shipped}
use Rattle.rules.specs.declared.shipped.Shipped.TheVariants.{Permission, Denial, LocalDenial}
use Rattle.rules.specs.Policies.{Judge, permission, denial, local_denial}
use Rattle.rules.specs.Rules.{Book, Denying, Allowed, Permitted}

abbrev pub Verdict : Type 0
Verdict = Result (Unit {0}) Objection

abbrev pub Judged : Bool → Claim → Verdict → Type 0
Judged answer c (Ok done) = answer ≡ true
Judged answer c (Err NothingGrants) = (i : ℕ) → member c.granting i ≡ false
Judged answer c (Err (Denied rule)) = (answer ≡ false) × ((i : ℕ) × (member c.granting i ≡ true)) × LowestFrom c.denying 0 rule

abbrev pub Ruled : {V S : Type 0} → Book V S → Judge → V → ℕ → ℕ → Verdict → Type 0
Ruled b judge v role minute (Ok done) = Allowed b judge v role minute
Ruled b judge v role minute (Err NothingGrants) = Permitted b v role minute → ⊥
Ruled b judge v role minute (Err (Denied rule)) =
    (Allowed b judge v role minute → ⊥) × Permitted b v role minute × Denying b v role rule × ((j : ℕ) → j < rule → Denying b v role j → ⊥)

abbrev pub judge_of : Shipped → Judge
judge_of Permission = permission
judge_of Denial = denial
judge_of LocalDenial = local_denial

abbrev pub code : Shipped → ℕ
code Permission = 1
code Denial = 2
code LocalDenial = 3

abbrev pub policy_name : Shipped → List ℕ
policy_name Permission = codes "permission"
policy_name Denial = codes "denial"
policy_name LocalDenial = codes "local denial"
