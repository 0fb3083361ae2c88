-- The situation after a log is the one that is read off what the grader holds.
use Rattle.std.proofs.Common.{◌≡◌, ℕ, ◌≤◌, ◌↔◌, List, [], ◌∷◌, length, take, Some, Result, refl, ap, ◌∙◌, subst, arith, rules, length-set, length-take-le}
use mathlib.Core.Logic.Iff
use Rattle.std.specs.List.{slice_get}
use Rattle.std.proofs.lemmas.Bool.{cond_both}
use Rattle.rules.specs.declared.seniority.Seniority.{Seniority}
use Rattle.tables.specs.declared.loan.Loan.{Loan}
use Rattle.logs.specs.Moments.{GrantedBy, DeniedBy}
use Rattle.logs.specs.Logs.{Plant, Log, granted, records_of, records, after, ThirtyTwoStand}
use Rattle.logs.specs.Promises.{Held, Whole, Led}
use Rattle.logs.specs.Situations.{Answered}
use Rattle.logs.specs.Steps.{now_held, within}
use Rattle.logs.specs.declared.call.Call.{Call}
use Rattle.logs.specs.declared.refusal.Refusal.{Refusal}
use Rattle.logs.specs.declared.reply.Answer.{Answer}
use Rattle.logs.proofs.Alike.{Alike, answered_alike}
use Rattle.logs.proofs.Moments.{whole_agrees, same_moment, held_is_by_rules}
use Rattle.logs.proofs.Pigeons.{found_in_front, pigeons}

records_of_long : {V : Type 0} (call : Call V) (old : List V) → length (records_of call old) ≡ length old
records_of_long call old = search (rules, length-set)

module _ {V S : Type 0} (p : Plant V S) where
  -- there are as many persons as at first
  records_long : (log : Log V) → length (records p log) ≡ length p.register
  records_long [] = refl
  records_long (e ∷ log) =
      let old = records_long log in
      cond_both (granted e.reply) (records_of e.call (records p log)) (records p log) (λ now. length now ≡ length p.register)
      (λ _. records_of_long e.call (records p log) ∙ old) (λ _. old)

  -- the first thirty-two of the loans held are different; and thirty-two different ones are held only where there are as many places
  full_is : (old : Held V) (log : Log V) → Whole p log old → (32 ≤ length old.loans) ↔ ThirtyTwoStand p log
  full_is old log w = (
    (λ many.
        let found : (i : ℕ) (loan : Loan) → slice_get (take 32 old.loans) i ≡ Some loan → slice_get old.loans i ≡ Some loan = found_in_front 32 old.loans in
        record {
          loans = take 32 old.loans;
          thirty_two = length-take-le 32 old.loans many;
          different = λ i j loan e f.
              w.one_loan_of_a_role_to_a_borrower i j loan loan (found i loan e) (found j loan f) (record { to_person = refl; of_role = refl });
          all_stand = λ i loan e. (w.loan_stands_exactly_since_its_lend loan).0 (i, found i loan e);
        }),
    (λ full.
        let few = pigeons full.loans old.loans full.different (λ i loan e. (w.loan_stands_exactly_since_its_lend loan).1 (full.all_stand i loan e)) in
        omega arith),
  )

  agree : (table : Seniority) (old : Held V) (log : Log V) → Led p log table old → Alike (within p table old) (after p log)
  agree table old log led =
      let w = led.whole in
      let agrees = whole_agrees p log old w in
      let now = same_moment p log old agrees in
      record {
        same_clock = w.clock_is_that_of_the_last_granted_tick;
        same_persons = ap length w.records_are_those_of_the_last_granted_enters ∙ records_long log;
        same_seat = w.person_is_the_last_one_seated;
        same_lawful = λ v. Iff.rfl;
        same_active = w.role_active_exactly_since_its_take;
        same_by_rules = λ person role. held_is_by_rules p table led.ranks log person role old agrees;
        same_granted = λ person role i. subst (λ s. GrantedBy (now_held p old) person role i ↔ GrantedBy s person role i) now Iff.rfl;
        same_denied = λ person role i. subst (λ s. DeniedBy (now_held p old) person role i ↔ DeniedBy s person role i) now Iff.rfl;
        same_stands = w.loan_stands_exactly_since_its_lend;
        same_full = full_is old log w;
      }

  pub answered_after : (table : Seniority) (old : Held V) (log : Log V) → Led p log table old → (call : Call V) (r : Result Answer Refusal) → Answered (within p table old) call r → Answered (after p log) call r
  answered_after table old log led = answered_alike (within p table old) (after p log) (agree table old log led)
