-- Granted calls, and what each kind of call does not do.
use Rattle.std.proofs.Common.{◌≡◌, ℕ, Bool, false, eqb, ◌∷◌, Ok, ap}
use Rattle.std.proofs.lemmas.Bool.{eqb-false}
use Rattle.tables.specs.declared.loan.Loan.{Loan}
use Rattle.logs.specs.Logs.{Plant, Log, MadeBy, Recalled, Took, Dropped, Closed}
use Rattle.logs.specs.declared.call.Call.{Call}
use Rattle.logs.specs.declared.call.Call.TheVariants.{Open, Close, Take, Drop, Lend, Recall, Enter, Tick, Entitled, Roles}
use Rattle.logs.specs.declared.exchange.Exchange.{Exchange}
use Rattle.logs.specs.declared.reply.Answer.TheVariants.{Done}

abbrev pub done : {V : Type 0} → Call V → Exchange V
done call = record { call = call; reply = Ok Done }

module _ {V : Type 0} where
  abbrev kind : Call V → ℕ
  kind (Open panel person) = 0
  kind (Close panel) = 1
  kind (Take panel role) = 2
  kind (Drop panel role) = 3
  kind (Lend panel borrower role minutes) = 4
  kind (Recall panel borrower role) = 5
  kind (Enter person value) = 6
  kind (Tick minute) = 7
  kind (Entitled person role) = 8
  kind (Roles panel) = 9

  abbrev pub closes : Call V → Bool
  closes call = eqb (kind call) 1

  abbrev pub takes : Call V → Bool
  takes call = eqb (kind call) 2

  abbrev pub drops : Call V → Bool
  drops call = eqb (kind call) 3

  abbrev pub lends : Call V → Bool
  lends call = eqb (kind call) 4

  abbrev pub recalls : Call V → Bool
  recalls call = eqb (kind call) 5

  other_kind : {a b : Call V} → a ≡ b → eqb (kind a) (kind b) ≡ false → ⊥
  other_kind {a} {b} same apart = eqb-false (kind a) (kind b) apart (ap kind same)

module _ {V S : Type 0} (p : Plant V S) (call : Call V) (log : Log V) where
  pub closes_none : closes call ≡ false → (at : ℕ) → Closed p at (done call ∷ log) → ⊥
  closes_none apart at closed = other_kind closed.0 apart

  pub takes_none : takes call ≡ false → (at role : ℕ) → Took p at role (done call ∷ log) → ⊥
  takes_none apart at role took = other_kind took.0 apart

  pub drops_none : drops call ≡ false → (at role : ℕ) → Dropped p at role (done call ∷ log) → ⊥
  drops_none apart at role dropped = other_kind dropped.0 apart

  pub lends_none : lends call ≡ false → (loan : Loan) → MadeBy p loan (done call ∷ log) → ⊥
  lends_none apart loan made = other_kind made.2 apart

  pub recalls_none : recalls call ≡ false → (loan : Loan) → Recalled p loan (done call ∷ log) → ⊥
  recalls_none apart loan recalled = other_kind recalled.1 apart
