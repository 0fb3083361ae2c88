-- What one call makes of the loans: those that are there are those that stand after the log with that call.
use Rattle.std.proofs.Common.{◌≡◌, ◌⊎◌, ◌↔◌, List, [], ◌∷◌, ◌++◌, sym, subst, inl, inr, ⊎_elim, rules}
use Rattle.std.proofs.lemmas.Bool.{cases_lt}
use Rattle.rules.specs.declared.seniority.Seniority.{Seniority}
use Rattle.tables.specs.declared.loan.Loan.{Loan}
use Rattle.tables.specs.Loans.{Lent, OnLoan, Filtered}
use Rattle.logs.specs.Moments.{MayStand}
use Rattle.logs.specs.Logs.{Plant, Log, clock, moment, MadeBy, Recalled, LoanEnded, StandsAfter}
use Rattle.logs.specs.Promises.{Ranks}
use Rattle.logs.specs.declared.exchange.Exchange.{Exchange}
use Rattle.logs.proofs.LoanPlaces.{There, Apart, last_there, front_there, front_or_last, kept_there, kept_or_left, apart_kept}
use Rattle.logs.proofs.Moments.{denied_in, by_table_is_by_rules}
use Rattle.logs.proofs.SinceLaws.{since_step, made_now, made_before}

-- of one role to one borrower
abbrev pub SameLending : Loan → Loan → Type 0
SameLending a b = Lent a b.borrower b.role

turned : {a b x : Loan} → x ≡ a → SameLending a b → SameLending b x
turned same alike = search rules

module _ {V S : Type 0} (p : Plant V S) (table : Seniority) (e : Exchange V) (log : Log V) where
  abbrev MayStandNow : Loan → Type 0
  MayStandNow loan = MayStand (moment p (e ∷ log)) table loan

  -- the new loans are those of the old ones that the call has not ended, with the one that it has made
  pub record LoansFollow (old new : List Loan) : Type 0 where
    pub made_there : (loan : Loan) → MadeBy p loan (e ∷ log) → There new loan
    pub made_or_kept : (loan : Loan) → There new loan → MadeBy p loan (e ∷ log) ⊎ (There old loan × (Recalled p loan (e ∷ log) → ⊥))
    pub may_stand : (loan : Loan) → There new loan → MayStandNow loan
    pub kept_or_ended : (loan : Loan) → There old loan → There new loan ⊎ ((Recalled p loan (e ∷ log) → ⊥) → MayStandNow loan → ⊥)
    pub apart : Apart SameLending new

  may_still : moment p (e ∷ log) ≡ moment p log → (loan : Loan) → MayStand (moment p log) table loan → MayStandNow loan
  may_still still loan may = search rules

  module _ (ranks : Ranks p table) where
    unended : (loan : Loan) → MayStandNow loan → (Recalled p loan (e ∷ log) → ⊥) → LoanEnded p loan (e ∷ log) → ⊥
    unended loan m unrecalled (inl recalled) = search rules
    unended loan m unrecalled (inr (inl due)) = search rules
    unended loan m unrecalled (inr (inr (inl not_by_rules))) = search (rules, by_table_is_by_rules)
    unended loan m unrecalled (inr (inr (inr denied))) = m.borrower_not_denied denied.0 ((denied_in (moment p (e ∷ log)) table loan.borrower loan.role denied.0).1 denied.1)

    -- a loan that may not stand has not gone unended
    not_unended : (loan : Loan) → ((Recalled p loan (e ∷ log) → ⊥) → MayStandNow loan → ⊥) → (LoanEnded p loan (e ∷ log) → ⊥) → ⊥
    not_unended loan left n = n (inr (inr (inl (λ b. left (λ recalled. n (inl recalled)) (record {
      not_due = ⊎_elim (λ early. early) (λ due. absurd (n (inr (inl due)))) (cases_lt (clock p (e ∷ log)) loan.due);
      lender_entitled = (by_table_is_by_rules p table ranks (e ∷ log) loan.lender loan.role).1 b;
      borrower_not_denied = λ i denied. n (inr (inr (inr (i, (denied_in (moment p (e ∷ log)) table loan.borrower loan.role i).0 denied))));
    })))))

    -- a call that recalls nothing, and changes neither the clock nor a record, ends no loan
    pub stands_still : moment p (e ∷ log) ≡ moment p log → (loan : Loan) → (Recalled p loan (e ∷ log) → ⊥) → MayStand (moment p log) table loan →
        StandsAfter p log loan → StandsAfter p (e ∷ log) loan
    stands_still still loan unrecalled may stood = search (rules, made_before, unended, may_still)

    pub loans_stand : (old new : List Loan) → ((loan : Loan) → There old loan ↔ StandsAfter p log loan) → LoansFollow old new →
        (loan : Loan) → There new loan ↔ StandsAfter p (e ∷ log) loan
    loans_stand old new stood f loan = (
      (λ there. ⊎_elim
          (made_now (MadeBy p loan) (LoanEnded p loan) e log)
          (λ w. made_before (MadeBy p loan) (LoanEnded p loan) e log ((stood loan).0 w.0) (unended loan (f.may_stand loan there) w.1))
          (f.made_or_kept loan there)),
      (λ s. ⊎_elim
          (f.made_there loan)
          (λ w. ⊎_elim (λ there. there) (λ left. absurd (not_unended loan left w.1)) (f.kept_or_ended loan ((stood loan).1 w.0)))
          (since_step (MadeBy p loan) (LoanEnded p loan) e log s)),
    )

  -- a call that changes neither the clock nor a record
  module _ (old : List Loan) (may : (loan : Loan) → There old loan → MayStand (moment p log) table loan) (apart : Apart SameLending old)
      (unrecalled : (loan : Loan) → Recalled p loan (e ∷ log) → ⊥) (still : moment p (e ∷ log) ≡ moment p log) where
    pub loans_stay : (new : List Loan) → ((loan : Loan) → MadeBy p loan (e ∷ log) → ⊥) → new ≡ old → LoansFollow old new
    loans_stay new unmade same = subst (LoansFollow old) (sym same) (record {
      made_there = λ loan made. absurd (unmade loan made);
      made_or_kept = λ loan there. inr (there, unrecalled loan);
      may_stand = λ loan there. may_still still loan (may loan there);
      kept_or_ended = λ loan there. inl there;
      apart = apart;
    })

    pub loans_lent : (new : List Loan) (x : Loan) → MadeBy p x (e ∷ log) → ((loan : Loan) → MadeBy p loan (e ∷ log) → x ≡ loan) →
        new ≡ old ++ x ∷ [] → MayStand (moment p log) table x → (OnLoan old x.borrower x.role → ⊥) → LoansFollow old new
    loans_lent new x made only same may_x unlent = subst (LoansFollow old) (sym same) (record {
      made_there = λ loan m. subst (There (old ++ x ∷ [])) (only loan m) (last_there old x);
      made_or_kept = λ loan there. search (rules, front_or_last);
      may_stand = λ loan there. ⊎_elim
          (λ at. may_still still loan (may loan (there.0, at)))
          (λ at. subst MayStandNow at.1 (may_still still x may_x))
          (front_or_last old x loan there.0 there.1);
      kept_or_ended = λ loan there. inl (front_there old x loan there);
      apart = λ i j a b at_i at_j alike. search (rules, front_or_last, turned);
    })

  -- a call after which those are taken out that it has recalled or that may not stand
  pub loans_swept : (P : Loan → Type 0) (old new : List Loan) → Apart SameLending old → ((loan : Loan) → MadeBy p loan (e ∷ log) → ⊥) →
      ((loan : Loan) → P loan ↔ ((Recalled p loan (e ∷ log) → ⊥) × MayStandNow loan)) → Filtered P old new → LoansFollow old new
  loans_swept P old new apart unmade passes f = record {
    made_there = λ loan made. absurd (unmade loan made);
    made_or_kept = λ loan there. let w = kept_there loan f there in search (rules, passes);
    may_stand = λ loan there. let w = kept_there loan f there in search (rules, passes);
    kept_or_ended = λ loan there. let w = kept_or_left loan f there in search (rules, passes);
    apart = search (rules, apart_kept);
  }
