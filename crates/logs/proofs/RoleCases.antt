-- What each granted call makes of the active roles.
use Rattle.std.proofs.Common.{◌≡◌, ℕ, true, false, cond, eqb, ◌↔◌, ◌∷◌, Some, None, Option, Ok, refl, inl, inr, rules}
use Rattle.rules.specs.declared.seniority.Seniority.{Seniority}
use Rattle.tables.specs.declared.loan.Loan.{Loan}
use Rattle.tables.specs.Panels.{person_at, active_at}
use Rattle.logs.specs.Logs.{Plant, Log, seat, moment, Recalled, Took, Dropped, Closed, EntitledAfter, SeatEntitled, StandsAfter}
use Rattle.logs.specs.Promises.{Held, Ranks, Led}
use Rattle.logs.specs.Situations.{Answered}
use Rattle.logs.specs.Steps.{within, Grounds, SeatHasGrounds, RolesBecome, LoansBecome}
use Rattle.logs.specs.declared.call.Call.{Call}
use Rattle.logs.specs.declared.call.Call.TheVariants.{Open, Close, Take, Drop, Lend, Recall, Enter, Tick, Entitled, Roles}
use Rattle.logs.specs.declared.exchange.Exchange.{Exchange}
use Rattle.logs.specs.declared.reply.Answer.TheVariants.{Done}
use Rattle.logs.proofs.CallKinds.{done, closes, takes, drops, recalls, closes_none, takes_none, drops_none, recalls_none}
use Rattle.logs.proofs.LoanPlaces.{There}
use Rattle.logs.proofs.LoanSteps.{stands_still}
use Rattle.logs.proofs.Moments.{Agrees, held_is_by_rules}
use Rattle.logs.proofs.RoleSteps.{RolesFollow, grounds_still, roles_stay, roles_trimmed}

elsewhere : (panel at : ℕ) (here there : Option ℕ) → (at ≡ panel → ⊥) → cond (eqb panel at) here there ≡ there
elsewhere panel at here there apart = search rules

module _ {V S : Type 0} (p : Plant V S) (table : Seniority) where
  -- who is entitled is read off what is held
  module _ (ranks : Ranks p table) (log : Log V) (held : Held V) (agrees : Agrees p log held)
      (stand : (loan : Loan) → There held.loans loan ↔ StandsAfter p log loan) where
    grounds_are : (person role : ℕ) → Grounds p table held person role ↔ EntitledAfter p log person role
    grounds_are person role = (
      elim [
        | inl b ↦ inl ((held_is_by_rules p table ranks log person role held agrees).0 b)
        | inr o ↦ inr (o.loan, o.lent, (stand o.loan).0 (o.place, o.found))
      ],
      elim [
        | inl b ↦ inl ((held_is_by_rules p table ranks log person role held agrees).1 b)
        | inr w ↦ let there = (stand w.0).1 w.2 in inr (record { place = there.0; loan = w.0; found = there.1; lent = w.1 })
      ],
    )

    seat_grounds_are : (at role : ℕ) → SeatHasGrounds p table held at role ↔ SeatEntitled p log at role
    seat_grounds_are at role = search (rules, grounds_are, agrees.same_persons)

  -- a panel is opened only where nobody is
  nobody_there : (old : Held V) (panel person who : ℕ) → Answered (within p table old) (Open panel person) (Ok Done) → person_at old.panels panel ≡ Some who → ⊥
  nobody_there old panel person who answered there = search rules

  module _ (old new : Held V) (log : Log V) (led : Led p log table old) (before : Agrees p log old) where
    owned : (at role : ℕ) → active_at old.panels at role ≡ true → SeatEntitled p log at role
    owned at role active = search (rules, led.whole.active_role_has_its_grounds, led.whole.role_active_exactly_since_its_take)

    -- a call that recalls nothing, and changes neither the clock nor a record
    module _ (e : Exchange V) (unrecalled : (loan : Loan) → Recalled p loan (e ∷ log) → ⊥)
        (still : moment p (e ∷ log) ≡ moment p log) where
      kept_grounds : (at role : ℕ) → seat p (e ∷ log) at ≡ seat p log at → SeatEntitled p log at role → SeatEntitled p (e ∷ log) at role
      kept_grounds = grounds_still p e log still
          (λ loan stood. stands_still p table e log led.ranks still loan (unrecalled loan) (led.loans_may_stand loan stood) stood)

      pub roles_unchanged : ((at role : ℕ) → Took p at role (e ∷ log) → ⊥) → ((at role : ℕ) → Dropped p at role (e ∷ log) → ⊥) →
          ((at : ℕ) → Closed p at (e ∷ log) → ⊥) → ((at : ℕ) → seat p (e ∷ log) at ≡ seat p log at) →
          RolesFollow p e log old.panels (λ at role. active_at old.panels at role ≡ true)
      roles_unchanged untaken undropped unclosed same = roles_stay p e log untaken undropped unclosed old.panels
          (λ at role active. kept_grounds at role (same at) (owned at role active))

    abbrev Follow : Call V → Type 0
    Follow call = RolesFollow p (done call) log old.panels (RolesBecome p table old call new)

    module _ (call : Call V) (no_take : takes call ≡ false) (no_drop : drops call ≡ false) (no_close : closes call ≡ false) where
      unchanged : recalls call ≡ false → moment p (done call ∷ log) ≡ moment p log → ((at : ℕ) → seat p (done call ∷ log) at ≡ seat p log at) →
          RolesFollow p (done call) log old.panels (λ at role. active_at old.panels at role ≡ true)
      unchanged no-recall still = roles_unchanged (done call) (recalls_none p call log no-recall) still
          (takes_none p call log no_take) (drops_none p call log no_drop) (closes_none p call log no_close)

      trimmed : Agrees p (done call ∷ log) new → ((loan : Loan) → There new.loans loan ↔ StandsAfter p (done call ∷ log) loan) →
          RolesFollow p (done call) log old.panels (λ at role. (active_at old.panels at role ≡ true) × SeatHasGrounds p table new at role)
      trimmed now stand = roles_trimmed p (done call) log (takes_none p call log no_take) (drops_none p call log no_drop) (closes_none p call log no_close)
          old.panels (SeatHasGrounds p table new) (seat_grounds_are led.ranks (done call ∷ log) new now stand)

    -- an active role keeps its grounds at a panel whose person stays
    still_owned : (call : Call V) → recalls call ≡ false → moment p (done call ∷ log) ≡ moment p log → (at role : ℕ) →
        seat p (done call ∷ log) at ≡ seat p log at → active_at old.panels at role ≡ true → SeatEntitled p (done call ∷ log) at role
    still_owned call no-recall still at role same active = kept_grounds (done call) (recalls_none p call log no-recall) still at role same (owned at role active)

    opened : (panel person : ℕ) → Answered (within p table old) (Open panel person) (Ok Done) → Follow (Open panel person)
    opened panel person answered = record {
      taken = λ at role took. search rules;
      taken_or_kept = λ at role b. search rules;
      has_grounds = λ at role b. still_owned (Open panel person) refl refl at role (elsewhere panel at (Some person) (seat p log at) b.0) b.1;
      kept_unless_ended = λ at role active _ _ _ left. search (rules, owned, nobody_there);
    }

    closed : (panel : ℕ) → Follow (Close panel)
    closed panel = record {
      taken = λ at role took. search rules;
      taken_or_kept = λ at role b. search rules;
      has_grounds = λ at role b. still_owned (Close panel) refl refl at role (elsewhere panel at None (seat p log at) b.0) b.1;
      kept_unless_ended = λ at role active _ unclosed _ left. search rules;
    }

    taken : (panel role : ℕ) → SeatHasGrounds p table old panel role → Follow (Take panel role)
    taken panel role grounds = record {
      taken = λ at r took. search rules;
      taken_or_kept = λ at r b. search rules;
      has_grounds = λ at r. elim [ inl w ↦ rw (w.0, w.1) here | inr active ↦ still_owned call refl refl at r refl active ];
      kept_unless_ended = λ at r active _ _ _ left. search rules;
    }
      where
        call : Call V
        call = Take panel role

        here : SeatEntitled p (done call ∷ log) panel role
        here = kept_grounds (done call) (recalls_none p call log refl) refl panel role refl
            ((seat_grounds_are led.ranks log old before led.whole.loan_stands_exactly_since_its_lend panel role).0 grounds)

    dropped : (panel role : ℕ) → Follow (Drop panel role)
    dropped panel role = record {
      taken = λ at r took. search rules;
      taken_or_kept = λ at r b. search rules;
      has_grounds = λ at r b. still_owned (Drop panel role) refl refl at r refl b.1;
      kept_unless_ended = λ at r active undropped _ _ left. search rules;
    }

    pub roles_granted : (call : Call V) → Agrees p (done call ∷ log) new → ((loan : Loan) → There new.loans loan ↔ StandsAfter p (done call ∷ log) loan) →
        Answered (within p table old) call (Ok Done) → LoansBecome p table old call new →
        RolesFollow p (done call) log old.panels (RolesBecome p table old call new)
    roles_granted (Open panel person) now stand answered loans = opened panel person answered
    roles_granted (Close panel) now stand answered loans = closed panel
    roles_granted (Take panel role) now stand answered loans = taken panel role loans.1
    roles_granted (Drop panel role) now stand answered loans = dropped panel role
    roles_granted (Lend panel borrower role minutes) now stand answered loans = unchanged (Lend panel borrower role minutes) refl refl refl refl refl (λ at. refl)
    roles_granted (Recall panel borrower role) now stand answered loans = trimmed (Recall panel borrower role) refl refl refl now stand
    roles_granted (Enter person value) now stand answered loans = trimmed (Enter person value) refl refl refl now stand
    roles_granted (Tick minute) now stand answered loans = trimmed (Tick minute) refl refl refl now stand
    roles_granted (Entitled person role) now stand answered loans = unchanged (Entitled person role) refl refl refl refl refl (λ at. refl)
    roles_granted (Roles panel) now stand answered loans = unchanged (Roles panel) refl refl refl refl refl (λ at. refl)
