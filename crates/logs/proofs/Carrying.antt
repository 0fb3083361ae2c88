-- One call carries any log on: whatever led to what was held before it leads, with that call, to what is held after it.
use Rattle.std.proofs.Common.{◌≡◌, ℕ, true, false, ◌↔◌, [], ◌∷◌, length, Ok, Err, Result, Decides, sym, refl, ap, ◌∙◌, subst, rules}
use mathlib.Core.List.{tail-eq_of_cons-eq}
use Rattle.std.proofs.lemmas.Bool.{both_ways}
use Rattle.rules.specs.declared.seniority.Seniority.{Seniority}
use Rattle.tables.specs.declared.loan.Loan.{Loan}
use Rattle.tables.specs.Panels.{active_at}
use Rattle.logs.specs.Logs.{Plant, Log, granted, moment, after, AllAnswered, StandsAfter}
use Rattle.logs.specs.Promises.{Held, Led, CarriesOn}
use Rattle.logs.specs.Situations.{Answered}
use Rattle.logs.specs.Steps.{within, RolesBecome, Became, Performed}
use Rattle.logs.specs.declared.call.Call.{Call}
use Rattle.logs.specs.declared.exchange.Exchange.{Exchange}
use Rattle.logs.specs.declared.refusal.Refusal.{Refusal}
use Rattle.logs.specs.declared.reply.Answer.{Answer}
use Rattle.logs.specs.declared.reply.Answer.TheVariants.{Done, Stands, Active}
use Rattle.logs.proofs.Agreeing.{answered_after}
use Rattle.logs.proofs.CallKinds.{done}
use Rattle.logs.proofs.LoanCases.{loans_unchanged, loans_granted}
use Rattle.logs.proofs.LoanPlaces.{There}
use Rattle.logs.proofs.LoanSteps.{LoansFollow, loans_stand}
use Rattle.logs.proofs.Moments.{Agrees, whole_agrees, moment_stays, seat_stays, agrees_unchanged, agrees_granted}
use Rattle.logs.proofs.RoleCases.{roles_unchanged, roles_granted}
use Rattle.logs.proofs.RoleSteps.{RolesFollow, roles_active, roles_grounded}

module _ {V S : Type 0} (p : Plant V S) where
  answered_more : (e : Exchange V) (log : Log V) → AllAnswered p log → Answered (after p log) e.call e.reply → AllAnswered p (e ∷ log)
  answered_more e log all now [] before d cut = search rules
  answered_more e log all now (x ∷ later) before d cut = search (rules, tail-eq_of_cons-eq)

  module _ (table : Seniority) (old : Held V) (log : Log V) (led : Led p log table old) where
    agreed : Agrees p log old
    agreed = whole_agrees p log old led.whole

    stood : (e : Exchange V) (new : Held V) → LoansFollow p table e log old.loans new.loans →
        (loan : Loan) → There new.loans loan ↔ StandsAfter p (e ∷ log) loan
    stood e new = loans_stand p table e log led.ranks old.loans new.loans led.whole.loan_stands_exactly_since_its_lend

    -- by what the call makes of the clock, the records and the seats, of the loans and of the roles
    led_on : (e : Exchange V) (new : Held V) (Become : ℕ → ℕ → Type 0) →
        Answered (after p log) e.call e.reply → Agrees p (e ∷ log) new → length new.panels ≡ length old.panels →
        LoansFollow p table e log old.loans new.loans → RolesFollow p e log old.panels Become →
        ((at role : ℕ) → Decides (active_at new.panels at role) (Become at role)) → Led p (e ∷ log) table new
    led_on e new Become answered now long loans roles set = record {
      whole = record {
        every_call_answered_by_what_came_before = answered_more e log led.whole.every_call_answered_by_what_came_before answered;
        clock_is_that_of_the_last_granted_tick = now.same_clock;
        records_are_those_of_the_last_granted_enters = now.same_records;
        all_panels_there = long ∙ led.whole.all_panels_there;
        person_is_the_last_one_seated = now.same_persons;
        role_active_exactly_since_its_take = λ at role. roles_active p e log old.panels new.panels Become roles at role (led.whole.role_active_exactly_since_its_take at role) (set at role);
        loan_stands_exactly_since_its_lend = stood e new loans;
        one_loan_of_a_role_to_a_borrower = loans.apart;
        active_role_has_its_grounds = λ at role. roles_grounded p e log old.panels new.panels Become roles at role (led.whole.role_active_exactly_since_its_take at role) (set at role);
        whoever_meets_more_rules_is_entitled_to_more = led.whole.whoever_meets_more_rules_is_entitled_to_more;
      };
      ranks = led.ranks;
      loans_may_stand = λ loan s. loans.may_stand loan ((stood e new loans loan).1 s);
    }

    -- what is refused, or asked, leaves all as it was
    unchanged : (e : Exchange V) → Answered (after p log) e.call e.reply → granted e.reply ≡ false → Led p (e ∷ log) table old
    unchanged e answered refused = led_on e old (λ at role. active_at old.panels at role ≡ true) answered (agrees_unchanged p e log refused old agreed) refl
        (loans_unchanged p table old old log led agreed e (λ loan made. not_done made.3) (λ loan recalled. not_done recalled.2) still refl)
        (roles_unchanged p table old old log led agreed e (λ loan recalled. not_done recalled.2) still
        (λ at role took. not_done took.1) (λ at role dropped. not_done dropped.1) (λ at closed. not_done closed.1) (seat_stays p e log refused))
        (λ at role. ((λ active. active), (λ active. active)))
      where
        still : moment p (e ∷ log) ≡ moment p log
        still = moment_stays p e log refused

        not_done : e.reply ≡ Ok Done → ⊥
        not_done is-done = both_ways (granted e.reply) refused (ap granted is-done)

    changed : (call : Call V) (new : Held V) → Answered (after p log) call (Ok Done) → Answered (within p table old) call (Ok Done) →
        Became p table old call new → Led p (done call ∷ log) table new
    changed call new answered read b = led_on (done call) new (RolesBecome p table old call new) answered now b.panels_there loans
        (roles_granted p table old new log led agreed call now (stood (done call) new loans) read b.loans_set)
        b.roles_set
      where
        now : Agrees p (done call ∷ log) new
        now = agrees_granted p table old call new log b agreed

        loans : LoansFollow p table (done call) log old.loans new.loans
        loans = loans_granted p table old new log led agreed call now b.loans_set

  module _ (table : Seniority) (old : Held V) (call : Call V) where
    not_granted : (r : Result Answer Refusal) (new : Held V) → granted r ≡ false → Performed p table old call r new → CarriesOn p table old call r new
    not_granted r new refused performed log led =
        subst (Led p (record { call = call; reply = r } ∷ log) table) (sym (performed.refused_leaves_all refused))
        (unchanged table old log led (record { call = call; reply = r }) (answered_after p table old log led call r performed.answered) refused)

    pub carries : (r : Result Answer Refusal) (new : Held V) → Performed p table old call r new → CarriesOn p table old call r new
    carries (Ok Done) new performed =
        λ log led. changed table old log led call new (answered_after p table old log led call (Ok Done) performed.answered) performed.answered (performed.granted_changes refl)
    carries (Err f) new performed = not_granted (Err f) new refl performed
    carries (Ok (Stands how)) new performed = not_granted (Ok (Stands how)) new refl performed
    carries (Ok (Active set)) new performed = not_granted (Ok (Active set)) new refl performed
