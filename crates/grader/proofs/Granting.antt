-- What the granted calls make of what is held: open, close, take and drop write one panel, a lend adds one loan.
use Rattle.std.proofs.Common.{◌≡◌, ℕ, ◌+◌, ◌<◌, Bool, true, false, cond, not, ◌&&◌, ◌||◌, eqb, ltb, ◌⊎◌, List, [], ◌∷◌, ◌++◌, length, set, Some, None, Decides, Option, sym, refl, ap, ◌∙◌, subst, arith, length-set}
use Rattle.std.proofs.lemmas.Bool.{cond-true, lt-ltb}
use Rattle.rules.specs.declared.seniority.Seniority.{Seniority}
use Rattle.sets.specs.Members.{member}
use Rattle.tables.specs.declared.loan.Loan.{Loan}
use Rattle.tables.specs.declared.seat.Seat.{Seat}
use Rattle.tables.specs.Loans.{OnLoan}
use Rattle.tables.specs.Panels.{seat_at, person_of, person_at, active_of, active_at}
use Rattle.tables.specs.Settings.{DeniedBy}
use Rattle.logs.specs.Moments.{ByTable, by}
use Rattle.logs.specs.declared.call.Call.TheVariants.{Open, Close, Take, Drop, Lend}
use Rattle.logs.specs.Logs.{Plant}
use Rattle.logs.specs.Promises.{Held}
use Rattle.logs.specs.Steps.{Became, Grounds, now_held}
use Rattle.grader.proofs.PanelChanges.{person_after, same_person_after, emptied, one_more, one_less}

module _ {V S : Type 0} (p : Plant V S) (table : Seniority) (old : Held V) where
  -- one panel is written
  abbrev pub with_seats : List (Option Seat) → Held V
  with_seats seats = record { clock = old.clock; panels = seats; loans = old.loans; records = old.records }

  module _ (seats : List (Option Seat)) (panel : ℕ) (seat : Option Seat) (written : seats ≡ set old.panels panel seat) (there : panel < length old.panels) where
    pub opens : (person : ℕ) → person_of seat ≡ Some person → ((role : ℕ) → active_of seat role ≡ false) → Became p table old (Open panel person) (with_seats seats)
    opens person who none = record {
      clock_set = refl;
      records_set = refl;
      panels_there = ap length written ∙ length-set old.panels panel seat;
      seats_set = λ at. ap (λ xs. person_at xs at) written ∙ (person_after old.panels panel seat there at ∙ ap (λ x. cond (eqb panel at) x (person_at old.panels at)) who);
      roles_set = subst (λ xs. (at role : ℕ) → Decides (active_at xs at role) ((at ≡ panel → ⊥) × (active_at old.panels at role ≡ true))) (sym written) (emptied old.panels panel seat there none);
      loans_set = refl;
    }

    pub closes : seat ≡ None → Became p table old (Close panel) (with_seats seats)
    closes gone = record {
      clock_set = refl;
      records_set = refl;
      panels_there = ap length written ∙ length-set old.panels panel seat;
      seats_set = λ at. ap (λ xs. person_at xs at) written ∙ (person_after old.panels panel seat there at ∙ ap (λ x. cond (eqb panel at) (person_of x) (person_at old.panels at)) gone);
      roles_set = subst (λ xs. (at role : ℕ) → Decides (active_at xs at role) ((at ≡ panel → ⊥) × (active_at old.panels at role ≡ true))) (sym written) (emptied old.panels panel seat there (λ role. ap (λ x. active_of x role) gone));
      loans_set = refl;
    }

    module _ (was : Seat) (found : seat_at old.panels panel ≡ Some was) (same : person_of seat ≡ Some was.person) where
      still_seated : (at : ℕ) → person_at seats at ≡ person_at old.panels at
      still_seated at = ap (λ xs. person_at xs at) written ∙ same_person_after old.panels panel seat there (same ∙ sym (ap person_of found)) at

      pub takes : (role : ℕ) → role < 64 → ((k : ℕ) → active_of seat k ≡ (member was.active k || (eqb k role && ltb k 64))) → Grounds p table old was.person role → Became p table old (Take panel role) (with_seats seats)
      takes role small members grounds = record {
        clock_set = refl;
        records_set = refl;
        panels_there = ap length written ∙ length-set old.panels panel seat;
        seats_set = still_seated;
        roles_set = subst (λ xs. (at k : ℕ) → Decides (active_at xs at k) (((at ≡ panel) × (k ≡ role)) ⊎ (active_at old.panels at k ≡ true))) (sym written) (one_more old.panels panel seat there (Some was) found role small members);
        loans_set = (refl, record { person = was.person; there = ap person_of found; grounds = grounds });
      }

      pub drops : (role : ℕ) → ((k : ℕ) → active_of seat k ≡ (member was.active k && not (eqb k role))) → Became p table old (Drop panel role) (with_seats seats)
      drops role members = record {
        clock_set = refl;
        records_set = refl;
        panels_there = ap length written ∙ length-set old.panels panel seat;
        seats_set = still_seated;
        roles_set = subst (λ xs. (at k : ℕ) → Decides (active_at xs at k) (((at ≡ panel) × (k ≡ role) → ⊥) × (active_at old.panels at k ≡ true))) (sym written) (one_less old.panels panel seat there (Some was) found role members);
        loans_set = refl;
      }

  -- a loan is added behind those that stand, where there is room
  abbrev pub with_loans : List Loan → Held V
  with_loans loans = record { clock = old.clock; panels = old.panels; loans = loans; records = old.records }

  module _ (lender borrower role minutes : ℕ) where
    abbrev pub loan_due : ℕ → Loan
    loan_due due = record { lender = lender; borrower = borrower; role = role; due = due }

    pub lends : (panel due : ℕ) (loans : List Loan) (room : Bool) →
        room ≡ ltb (length old.loans) 32 → loans ≡ cond room (old.loans ++ (loan_due due ∷ [])) old.loans → length old.loans < 32 → due ≡ old.clock + minutes →
        person_at old.panels panel ≡ Some lender → 0 < minutes → ByTable (now_held p old) table lender role →
        ((i : ℕ) → DeniedBy (by (now_held p old) table) borrower role i → ⊥) → (OnLoan old.loans borrower role → ⊥) →
        Became p table old (Lend panel borrower role minutes) (with_loans loans)
    lends panel due loans room told added fits later seated some entitled undenied unlent = record {
      clock_set = refl;
      records_set = refl;
      panels_there = refl;
      seats_set = λ at. refl;
      roles_set = λ at k. ((λ t. t), (λ t. t));
      loans_set = record {
        lender = lender;
        seated = seated;
        added = added ∙ (cond-true room (old.loans ++ (loan_due due ∷ [])) old.loans (told ∙ lt-ltb (length old.loans) 32 fits) ∙ ap (λ d. old.loans ++ (loan_due d ∷ [])) later);
        may_stand = record { not_due = omega arith; lender_entitled = entitled; borrower_not_denied = undenied };
        not_lent = unlent;
      };
    }
