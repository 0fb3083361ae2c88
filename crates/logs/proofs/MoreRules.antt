-- Whoever meets more rules is entitled by rules to more, after any log.
use Rattle.std.proofs.Common.{◌≤◌, length, subst, inl, inr, ⊎_elim}
use Rattle.rules.specs.Policies.{YesStaysWhenGrantingGainsOrDenyingLoses}
use Rattle.rules.specs.Rules.{Allowed}
use Rattle.rules.proofs.MoreLaws.{entitled_to_more}
use Rattle.rules.proofs.Places.{found_one}
use Rattle.logs.specs.Logs.{Plant, records, clock}
use Rattle.logs.specs.Promises.{MoreRulesMoreRoles}

pub more_rules_more_roles : {V S : Type 0} (p : Plant V S) → length p.book.rules ≤ 64 → YesStaysWhenGrantingGainsOrDenyingLoses p.judge → MoreRulesMoreRoles p
more_rules_more_roles p few stays log one other role a b a-found b-found more by_rules =
    let same = found_one (records p log) other by_rules.value b by_rules.on_record b-found in
    ⊎_elim
    (λ allowed. inl (record { value = a; on_record = a-found; allowed = allowed }))
    inr
    (entitled_to_more p.book few p.judge stays a b role (clock p log) more
    (subst (λ v. Allowed p.book p.judge v role (clock p log)) same by_rules.allowed))
