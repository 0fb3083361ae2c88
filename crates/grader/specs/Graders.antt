-- GRADERS: what a grader is made over, what it holds, and what its results say.
--     book_of m book rules entries    the rulebook at the front of the memory that is lent, its tests by the meaning m
--     plant b judge register start    what a grader is made over
--     over m judge book rules entries register start    the same, with the rulebook at the front of that memory
--     held g vs                       what the grader holds, with the register vs that it is lent
--     Keeps old new                   policy and table of seniority are as they were
--     Does p old vs call r new ws     the call is answered r, and grader and register are changed by it as they should, over the plant p
--     Carries p old vs call r new ws  whatever log led to the grader before the call, that log with this call leads to the grader after it
--     reply r, standing_reply r, roles_reply r    the reply that the result of a call, of a question comes to
--     Ran p old r new ws              a grader is made over p and given the calls of the log `old`, oldest first: r is the result, `new` the log with
--                                     the replies, and ws the register after it
--     CheckedMaking m register policy start r     the result of checking a making: its first refusal, or what a grader is built from
use Rattle.std.specs.Prelude.{◌≡◌, ℕ, true, List, reverse, take, Ok, Err, Result}
use Rattle.std.specs.Result.{result_map_both}
use Rattle.kinds.specs.Kinds.{Meaning}
use Rattle.rules.specs.declared.entry.Entry.{Entry}
use Rattle.rules.specs.declared.rule.Rule.{Rule}
use Rattle.rules.specs.Policies.{Judge}
use Rattle.rules.specs.Rules.{Book}
use Rattle.sets.specs.declared.set.Set.{Set}
use Rattle.book.specs.declared.sealed.Sealed.{Sealed}
use Rattle.tables.specs.Loans.{standing}
use Rattle.logs.specs.declared.refusal.Refusal.{Refusal}
use Rattle.logs.specs.declared.reply.Answer.{Answer}
use Rattle.logs.specs.declared.reply.Answer.TheVariants.{Done, Stands, Active}
use Rattle.logs.specs.declared.reply.Standing.{Standing}
use Rattle.logs.specs.declared.call.Call.{Call}
use Rattle.logs.specs.declared.exchange.Exchange.{Exchange}
use Rattle.logs.specs.Logs.{Plant}
use Rattle.logs.specs.Promises.{Held, Whole, SameCalls, CarriesOn}
use Rattle.logs.specs.Situations.{FirstThatHolds, making}
use Rattle.logs.specs.Steps.{Performed}
use Rattle.grader.specs.declared.grader.Grader.{Grader}
use Rattle.grader.specs.declared.grader.making.Ready.{Ready}

abbrev pub book_of : {V S : Type 0} → Meaning V S → Sealed → List (Rule S) → List Entry → Book V S
book_of m book rules entries = record { meaning = m; rules = take book.rules.count rules; entries = take book.entries.count entries }

abbrev pub plant : {V S : Type 0} → Book V S → Judge → List V → ℕ → Plant V S
plant b judge register start = record { book = b; judge = judge; register = register; start = start }

abbrev pub over : {V S : Type 0} → Meaning V S → Judge → Sealed → List (Rule S) → List Entry → List V → ℕ → Plant V S
over m judge book rules entries register start = plant (book_of m book rules entries) judge register start

abbrev pub held : {P V : Type 0} → Grader P → List V → Held V
held g vs = record { clock = g.clock; panels = g.panels.seats; loans = standing g.loans; records = vs }

abbrev pub Keeps : {P : Type 0} → Grader P → Grader P → Type 0
Keeps old new = (new.policy ≡ old.policy) × (new.senior ≡ old.senior)

module _ {V S : Type 0} (p : Plant V S) {P : Type 0} where
  abbrev pub Does : Grader P → List V → Call V → Result Answer Refusal → Grader P → List V → Type 0
  Does old vs call r new ws = Performed p old.senior (held old vs) call r (held new ws)

  abbrev pub Carries : Grader P → List V → Call V → Result Answer Refusal → Grader P → List V → Type 0
  Carries old vs call r new ws = CarriesOn p old.senior (held old vs) call r (held new ws)

abbrev pub reply : Result (Unit {0}) Refusal → Result Answer Refusal
reply r = result_map_both (λ _. Done) (λ f. f) r

abbrev pub standing_reply : Result Standing Refusal → Result Answer Refusal
standing_reply r = result_map_both Stands (λ f. f) r

abbrev pub roles_reply : Result Set Refusal → Result Answer Refusal
roles_reply r = result_map_both Active (λ f. f) r

abbrev pub CheckedMaking : {P V S : Type 0} → Meaning V S → List V → P → ℕ → Result (Ready P) Refusal → Type 0
CheckedMaking m register policy start (Err f) =
    FirstThatHolds (making (λ v. m.lawful_value v ≡ true) register start) (λ _. ⊥) (Err f)
CheckedMaking m register policy start (Ok ready) =
    FirstThatHolds (making (λ v. m.lawful_value v ≡ true) register start) (λ r. r ≡ Ok Done) (Ok Done)
    × (ready.policy ≡ policy) × (ready.start ≡ start)

module _ {V S : Type 0} (p : Plant V S) where
  -- a making that is refused: log and register are untouched
  pub record NotMade (old : List (Exchange V)) (f : Refusal) (new : List (Exchange V)) (ws : List V) : Type 0 where
    pub first_check_that_holds : FirstThatHolds (making (λ v. p.book.meaning.lawful_value v ≡ true) p.register p.start) (λ _. ⊥) (Err f)
    pub log_untouched : new ≡ old
    pub register_untouched : ws ≡ p.register

  pub record RanAll {P : Type 0} (old : List (Exchange V)) (g : Grader P) (new : List (Exchange V)) (ws : List V) : Type 0 where
    pub no_check_holds : FirstThatHolds (making (λ v. p.book.meaning.lawful_value v ≡ true) p.register p.start) (λ r. r ≡ Ok Done) (Ok Done)
    pub only_replies_are_written : SameCalls old new
    pub whole_promise : Whole p (reverse new) (held g ws)

  abbrev pub Ran : {P : Type 0} → List (Exchange V) → Result (Grader P) Refusal → List (Exchange V) → List V → Type 0
  Ran old (Err f) new ws = NotMade old f new ws
  Ran old (Ok g) new ws = RanAll old g new ws
