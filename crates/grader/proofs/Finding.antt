-- What the checking functions find, in the words of the situation that the grader faces.
use Rattle.std.proofs.Common.{◌≡◌, ℕ, ◌<◌, ◌≤◌, true, false, List, [], ◌∷◌, length, Some, None, Err, Option, is_some, refl, ap, subst, inl, inr, ⊎_elim, arith}
use Rattle.std.proofs.lemmas.Bool.{both_ways, cases_Bool}
use Rattle.sets.specs.Members.{member}
use Rattle.rules.specs.declared.claim.Objection.{Objection}
use Rattle.rules.specs.declared.claim.Objection.TheVariants.{NothingGrants as NothingGranting, Denied}
use Rattle.rules.specs.Policies.{NothingGrantingIsNo}
use Rattle.tables.specs.declared.seat.Seat.{Seat}
use Rattle.tables.specs.Loans.{standing, OnLoan as LentAlready}
use Rattle.tables.specs.Panels.{person_of}
use Rattle.tables.specs.Settings.{Setting, ByRules, GrantedBy, DeniedBy}
use Rattle.tables.specs.Verdicts.{Decided, Lowest}
use Rattle.logs.specs.Moments.{Moment}
use Rattle.logs.proofs.Alike.{lowest_over}
use Rattle.logs.proofs.Moments.{granted_in, denied_in}
use Rattle.logs.specs.declared.refusal.Refusal.{Refusal}
use Rattle.logs.specs.declared.refusal.Refusal.TheVariants.{NothingGrants, RuleDenies, BorrowerDenied, LoansFull}
use Rattle.logs.specs.Refusals.{number, objected}
use Rattle.logs.specs.Situations.{Check, Situation, OnLoan, AtSeat, Ungranted, Overruled, only}
use Rattle.grader.specs.declared.grader.Grader.{Grader}
use Rattle.grader.specs.Checks.{Passes, Refuses, Seated, OnGrounds, StopsByVerdict, FreeToBorrow, borrower_checks, facing, moment_of}

-- to whom no rule grants the role, the policy says no
no_grant : {V S : Type 0} (s : Setting V S) (person role : ℕ) → NothingGrantingIsNo s.judge → ((i : ℕ) → GrantedBy s person role i → ⊥) → ByRules s person role → ⊥
no_grant s person role never none by =
    let a = by.allowed in
    let out : (i : ℕ) → member a.granting i ≡ false = λ i.
    ⊎_elim
    (λ y. absurd (none i (record { value = by.value; on_record = by.on_record; granting = (a.all_granting i).0 y })))
    (λ z. z)
    (cases_Bool (member a.granting i)) in
    both_ways (s.judge a.granting a.denying s.table) (never a.granting a.denying s.table out) a.yes

-- at an open panel there is somebody
pub somebody : (seat : Option Seat) → is_some seat ≡ true → (person : ℕ) × (person_of seat ≡ Some person)
somebody (Some seat) is = (seat.person, refl)
somebody None is = absurd (both_ways false refl is)

module _ {P V S : Type 0} (s : Setting V S) (g : Grader P) where
  abbrev here : Situation V
  here = facing s g

  abbrev now : Moment V S
  now = moment_of s.book s.judge s.records s.minute

  lent_held : (person role : ℕ) → OnLoan here person role → LentAlready (standing g.loans) person role
  lent_held person role lent = record { place = lent.stands.0; loan = lent.loan; found = lent.stands.1; lent = lent.lent }

  lent_faced : (person role : ℕ) → LentAlready (standing g.loans) person role → OnLoan here person role
  lent_faced person role lent = record { loan = lent.loan; lent = lent.lent; stands = (lent.place, lent.found) }

  -- by the verdict on somebody who has no such loan
  module _ (person role : ℕ) (not_lent : LentAlready (standing g.loans) person role → ⊥) where
    pub objects : (o : Objection) → Decided s person role (Err o) → StopsByVerdict s g person role (Err (objected o))
    objects NothingGranting none = inl (
      refl,
      record {
        nothing_grants = λ i granted. none i ((granted_in now s.table person role i).1 granted);
        not_on_loan = λ lent. not_lent (lent_held person role lent);
      },
    )
    objects (Denied rule) denied = inr (
      rule,
      refl,
      record {
        lowest = lowest_over (DeniedBy s person role) (here.DeniedBy person role) (denied_in now s.table person role) rule denied.lowest;
        granting = (denied.granting.0, (granted_in now s.table person role denied.granting.0).0 denied.granting.1);
        not_by_rules = denied.refused;
        not_on_loan = λ lent. not_lent (lent_held person role lent);
      },
    )

  -- of a borrower to whom the role is not on loan
  module _ (borrower role : ℕ) (not_lent : LentAlready (standing g.loans) borrower role → ⊥) where
    pub denial_refuses : (i : ℕ) → Lowest (DeniedBy s borrower role) i → Refuses (borrower_checks s g borrower role) (BorrowerDenied i)
    denial_refuses i low = inr (
      (λ _ w. not_lent (lent_held borrower role w.1)),
      inl (i, refl, lowest_over (DeniedBy s borrower role) (here.DeniedBy borrower role) (denied_in now s.table borrower role) i low),
    )

    module _ (none : (i : ℕ) → DeniedBy s borrower role i → ⊥) where
      undenied : (i : ℕ) → here.DeniedBy borrower role i → ⊥
      undenied i denied = none i ((denied_in now s.table borrower role i).1 denied)

      pub full_refuses : 32 ≤ length (standing g.loans) → Refuses (borrower_checks s g borrower role) LoansFull
      full_refuses full =
          inr ((λ _ w. not_lent (lent_held borrower role w.1)), inr ((λ _ w. undenied w.0 w.2.held), inl (refl, full)))

      pub free_passes : length (standing g.loans) < 32 → Passes (borrower_checks s g borrower role) × FreeToBorrow s g borrower role
      free_passes room = (
        (
          (λ _ w. not_lent (lent_held borrower role w.1)),
          ((λ _ w. undenied w.0 w.2.held), ((λ _ w. let full = w.1 in let z : ⊥ = omega arith in z), tt)),
        ),
        record { not_lent = not_lent; not_denied = none; room = room },
      )

  -- of the person whose seat at the panel this is
  module _ (panel role : ℕ) (seat : Seat) (there : Seated g panel seat) where
    at_seat : (What : ℕ → Type 0) → What seat.person → AtSeat here panel What
    at_seat What holds = record { person = seat.person; seated = ap person_of there; holds = holds }

    of_seat : (What : ℕ → Type 0) → AtSeat here panel What → What seat.person
    of_seat What w = subst What (let who = ap person_of there in let same = w.seated in cc) w.holds

    abbrev pub verdict_checks : List Check
    verdict_checks =
        only NothingGrants (AtSeat here panel (Ungranted here role))
        ∷ ((number (RuleDenies 0), λ f. (i : ℕ) × (f ≡ RuleDenies i) × AtSeat here panel (Overruled here role i))
        ∷ [])

    pub verdict_refuses : (f : Refusal) → StopsByVerdict s g seat.person role (Err f) → Refuses verdict_checks f
    verdict_refuses f stopped =
        ⊎_elim
        (λ u. inl (u.0, at_seat (Ungranted here role) u.1))
        (λ o. inr (
          (λ _ w. (of_seat (Ungranted here role) w.1).nothing_grants o.2.granting.0 o.2.granting.1),
          inl (o.0, o.1, at_seat (Overruled here role o.0) o.2),
        ))
        stopped

    pub verdict_passes : NothingGrantingIsNo s.judge → OnGrounds s g seat.person role → Passes verdict_checks
    verdict_passes never grounds =
        let not_ungranted : Ungranted here role seat.person → ⊥ = λ none.
        ⊎_elim
        (no_grant s seat.person role never (λ i granted. none.nothing_grants i ((granted_in now s.table seat.person role i).0 granted)))
        (λ lent. none.not_on_loan (lent_faced seat.person role lent))
        grounds in
        let not_overruled : (i : ℕ) → Overruled here role i seat.person → ⊥ = λ i over.
        ⊎_elim over.not_by_rules (λ lent. over.not_on_loan (lent_faced seat.person role lent)) grounds in (
          (λ _ w. not_ungranted (of_seat (Ungranted here role) w.1)),
          ((λ _ w. not_overruled w.0 (of_seat (Overruled here role w.0) w.2)), tt),
        )
