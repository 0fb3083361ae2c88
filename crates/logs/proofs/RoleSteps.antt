-- What one call makes of the active roles: those that are active are those that a take made active and nothing ended since.
use Rattle.std.proofs.Common.{◌≡◌, ℕ, true, ◌⊎◌, ◌↔◌, List, ◌∷◌, Decides, Option, sym, ◌∙◌, subst, inl, inr, ⊎_elim, rules}
use Rattle.std.proofs.lemmas.Bool.{cases_Bool}
use Rattle.std.proofs.lemmas.Bool.Decides.{not_from_Decides}
use Rattle.tables.specs.declared.loan.Loan.{Loan}
use Rattle.tables.specs.declared.seat.Seat.{Seat}
use Rattle.tables.specs.Panels.{active_at}
use Rattle.logs.specs.Moments.{ByRules}
use Rattle.logs.specs.Logs.{Plant, Log, seat, moment, Took, Dropped, Closed, EntitledAfter, SeatEntitled, RoleEnded, ActiveAfter, StandsAfter}
use Rattle.logs.specs.declared.exchange.Exchange.{Exchange}
use Rattle.logs.proofs.SinceLaws.{since_step, made_now, made_before}

module _ {V S : Type 0} (p : Plant V S) (e : Exchange V) (log : Log V) where
  -- the roles of which Become holds are those of the old ones that the call has not ended, with the one that it has taken
  pub record RolesFollow (old : List (Option Seat)) (Become : ℕ → ℕ → Type 0) : Type 0 where
    pub taken : (at role : ℕ) → Took p at role (e ∷ log) → Become at role
    pub taken_or_kept :
        (at role : ℕ) → Become at role →
        Took p at role (e ∷ log) ⊎ ((active_at old at role ≡ true) × (Dropped p at role (e ∷ log) → ⊥) × (Closed p at (e ∷ log) → ⊥))
    pub has_grounds : (at role : ℕ) → Become at role → SeatEntitled p (e ∷ log) at role
    pub kept_unless_ended :
        (at role : ℕ) → active_at old at role ≡ true → (Dropped p at role (e ∷ log) → ⊥) → (Closed p at (e ∷ log) → ⊥) → SeatEntitled p (e ∷ log) at role →
        (Become at role → ⊥) → ⊥

  module _ (old new : List (Option Seat)) (Become : ℕ → ℕ → Type 0) (f : RolesFollow old Become) (at role : ℕ)
      (was : Decides (active_at old at role) (ActiveAfter p log at role)) (is : Decides (active_at new at role) (Become at role)) where
    active_now : active_at new at role ≡ true → ActiveAfter p (e ∷ log) at role
    active_now t = search (rules, made_now, made_before, f.taken_or_kept, f.has_grounds)

    -- nothing is decided but whether the role is active
    unless_ended : ActiveAfter p log at role → (RoleEnded p at role (e ∷ log) → ⊥) → active_at new at role ≡ true
    unless_ended a unended = ⊎_elim
        (λ t. t)
        (λ left. absurd (unended (inr (inr (λ grounds.
        f.kept_unless_ended at role (was.1 a) (λ dropped. unended (inl dropped)) (λ closed. unended (inr (inl closed))) grounds
        (not_from_Decides (active_at new at role) is left))))))
        (cases_Bool (active_at new at role))

    pub roles_active : Decides (active_at new at role) (ActiveAfter p (e ∷ log) at role)
    roles_active = (
      active_now,
      (λ a. let step = since_step (Took p at role) (RoleEnded p at role) e log a in search (rules, f.taken, unless_ended)),
    )

    pub roles_grounded : ActiveAfter p (e ∷ log) at role → SeatEntitled p (e ∷ log) at role
    roles_grounded a = search (rules, f.has_grounds, roles_active)

  -- a call that changes neither the clock nor a record, and ends no loan
  module _ (still : moment p (e ∷ log) ≡ moment p log) (stands : (loan : Loan) → StandsAfter p log loan → StandsAfter p (e ∷ log) loan) where
    entitled_still : (person role : ℕ) → EntitledAfter p log person role → EntitledAfter p (e ∷ log) person role
    entitled_still person role (inl b) = inl (subst (λ s. ByRules s person role) (sym still) b)
    entitled_still person role (inr (loan, lent, s)) = inr (loan, lent, stands loan s)

    pub grounds_still : (at role : ℕ) → seat p (e ∷ log) at ≡ seat p log at → SeatEntitled p log at role → SeatEntitled p (e ∷ log) at role
    grounds_still at role same (person, there, entitled) = (person, same ∙ there, entitled_still person role entitled)

  -- a call that takes, drops and closes nothing
  module _ (untaken : (at role : ℕ) → Took p at role (e ∷ log) → ⊥) (undropped : (at role : ℕ) → Dropped p at role (e ∷ log) → ⊥)
      (unclosed : (at : ℕ) → Closed p at (e ∷ log) → ⊥) (old : List (Option Seat)) where
    pub roles_stay : ((at role : ℕ) → active_at old at role ≡ true → SeatEntitled p (e ∷ log) at role) → RolesFollow old (λ at role. active_at old at role ≡ true)
    roles_stay grounds = search rules

    -- a call after which those are taken away for which the panel's person has no grounds
    pub roles_trimmed : (Grounded : ℕ → ℕ → Type 0) → ((at role : ℕ) → Grounded at role ↔ SeatEntitled p (e ∷ log) at role) →
        RolesFollow old (λ at role. (active_at old at role ≡ true) × Grounded at role)
    roles_trimmed Grounded grounded = search (rules, grounded)
