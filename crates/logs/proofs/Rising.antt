-- The numbers of the checks of a call, and of a making, rise.
use Rattle.std.proofs.Common.{◌≡◌, ap, rules}
use Rattle.logs.specs.Logs.{after}
use Rattle.logs.specs.Promises.{Rise, NumbersRise}
use Rattle.logs.specs.Refusals.{number}
use Rattle.logs.specs.Situations.{Situation, checks}
use Rattle.logs.specs.declared.call.Call.{Call}
use Rattle.logs.specs.declared.call.Call.TheVariants.{Open, Close, Take, Drop, Lend, Recall, Enter, Tick, Entitled, Roles}
use Rattle.logs.specs.declared.refusal.Refusal.{Refusal}

-- the check of one refusal refuses with its number
own : {f : Refusal} {A : Type 0} → (g : Refusal) → (g ≡ f) × A → number g ≡ number f
own g h = ap number h.0

ruleset rising = (rules, own)

rise : {V : Type 0} (s : Situation V) (call : Call V) → Rise 0 (checks s call)
rise s (Open panel person) = search rising
rise s (Close panel) = search rising
rise s (Take panel role) = search rising
rise s (Drop panel role) = search rising
rise s (Lend panel borrower role minutes) = search rising
rise s (Recall panel borrower role) = search rising
rise s (Enter person value) = search rising
rise s (Tick minute) = search rising
rise s (Entitled person role) = search rising
rise s (Roles panel) = search rising

pub numbers_rise : (V S : Type 0) → NumbersRise V S
numbers_rise V S p = ((λ log call. rise (after p log) call), search rising)
