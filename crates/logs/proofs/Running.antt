-- A log that is run call after call, the oldest first: what the replies written so far make, and that the calls stay.
use Rattle.std.proofs.Common.{◌≡◌, ℕ, ◌+◌, ◌<◌, List, ◌∷◌, reverse, length, take, set, Some, Result, rules}
use Rattle.std.proofs.lemmas.Option.{slice_get_within}
use Rattle.std.specs.List.{slice_get}
use Rattle.std.proofs.lemmas.List.{length-set, reverse-append, take_more_set}
use Rattle.std.proofs.lemmas.Bool.{cases_eq}
use Rattle.rules.proofs.Places.{found_one, found_set, found_other}
use Rattle.logs.specs.Promises.{SameCalls}
use Rattle.logs.specs.declared.exchange.Exchange.{Exchange}
use Rattle.logs.specs.declared.refusal.Refusal.{Refusal}
use Rattle.logs.specs.declared.reply.Answer.{Answer}

pub run_more : {X : Type 0} (xs : List X) (i : ℕ) (x : X) → i < length xs → reverse (take (i + 1) (set xs i x)) ≡ x ∷ reverse (take i xs)
run_more xs i x lt = search (rules, take_more_set, reverse-append)

module _ {V : Type 0} where
  pub same_calls_none : (xs : List (Exchange V)) → SameCalls xs xs
  same_calls_none xs = search rules

  pub same_calls_more : (old xs : List (Exchange V)) (i : ℕ) (e : Exchange V) (r : Result Answer Refusal) → SameCalls old xs → slice_get xs i ≡ Some e → SameCalls old (set xs i (record { call = e.call; reply = r }))
  same_calls_more old xs i e r same found = search (rules, length-set, slice_get_within, found_one, found_set, found_other, cases_eq)
