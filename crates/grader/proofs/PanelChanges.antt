-- What the panels hold after one place of them was written.
use Rattle.std.proofs.Common.{◌≡◌, ℕ, ◌<◌, true, false, cond, not, ◌&&◌, ◌||◌, eqb, ltb, ◌⊎◌, List, length, set, Decides, Option, sym, refl, ap, ◌∙◌, inl, inr, ⊎_elim, arith}
use Rattle.std.proofs.lemmas.Bool.{and_from, and_parts, both_ways, cases_eq, cond-false, cond-true, eq-eqb, eqb-true, lt-ltb, ne_eqb, not_from_false, not_from_true, or_cases, or_left, or_right}
use Rattle.rules.proofs.Places.{found_set, found_other}
use Rattle.tables.specs.declared.seat.Seat.{Seat}
use Rattle.tables.specs.Panels.{seated, seat_at, person_of, person_at, active_of, active_at}

module _ (seats : List (Option Seat)) (panel : ℕ) (seat : Option Seat) (there : panel < length seats) where
  seat_here : (at : ℕ) → at ≡ panel → seat_at (set seats panel seat) at ≡ seat
  seat_here at e = ap (λ k. seat_at (set seats panel seat) k) e ∙ ap seated (found_set seats panel seat there)

  seat_elsewhere : (at : ℕ) → (at ≡ panel → ⊥) → seat_at (set seats panel seat) at ≡ seat_at seats at
  seat_elsewhere at other = ap seated (found_other seats panel at seat other)

  -- another person, or none, is at the panel
  pub person_after : (at : ℕ) → person_at (set seats panel seat) at ≡ cond (eqb panel at) (person_of seat) (person_at seats at)
  person_after at =
      ⊎_elim
      (λ e. ap person_of (seat_here at (sym e)) ∙ sym (cond-true (eqb panel at) (person_of seat) (person_at seats at) (eq-eqb panel at e)))
      (λ n. ap person_of (seat_elsewhere at (λ e. n (sym e))) ∙ sym (cond-false (eqb panel at) (person_of seat) (person_at seats at) (ne_eqb panel at n)))
      (cases_eq panel at)

  -- the same person is at the panel
  pub same_person_after : person_of seat ≡ person_at seats panel → (at : ℕ) → person_at (set seats panel seat) at ≡ person_at seats at
  same_person_after same at =
      ⊎_elim
      (λ e. ap person_of (seat_here at e) ∙ (same ∙ ap (person_at seats) (sym e)))
      (λ n. ap person_of (seat_elsewhere at n))
      (cases_eq at panel)

  -- which roles are active, told by what is active at the panel now
  active_after : (Now : ℕ → ℕ → Type 0) →
      ((role : ℕ) → Decides (active_of seat role) (Now panel role)) →
      ((at role : ℕ) → (at ≡ panel → ⊥) → Decides (active_at seats at role) (Now at role)) →
      (at role : ℕ) → Decides (active_at (set seats panel seat) at role) (Now at role)
  active_after Now here elsewhere at role =
      ⊎_elim
      (λ e.
      let b : active_at (set seats panel seat) at role ≡ active_of seat role = ap (λ x. active_of x role) (seat_here at e) in
      ((λ t. rw e ((here role).0 (sym b ∙ t))), (λ w. b ∙ (here role).1 (rw e at w))))
      (λ n.
      let b : active_at (set seats panel seat) at role ≡ active_at seats at role = ap (λ x. active_of x role) (seat_elsewhere at n) in
      ((λ t. (elsewhere at role n).0 (sym b ∙ t)), (λ w. b ∙ (elsewhere at role n).1 w)))
      (cases_eq at panel)

  pub emptied : ((role : ℕ) → active_of seat role ≡ false) → (at role : ℕ) → Decides (active_at (set seats panel seat) at role) ((at ≡ panel → ⊥) × (active_at seats at role ≡ true))
  emptied none = active_after (λ at role. (at ≡ panel → ⊥) × (active_at seats at role ≡ true))
      (λ role. ((λ t. absurd (both_ways (active_of seat role) (none role) t)), (λ w. absurd (w.0 refl))))
      (λ at role n. ((λ t. (n, t)), (λ w. w.1)))

  module _ (was : Option Seat) (found : seat_at seats panel ≡ was) where
    was_active : (role : ℕ) → active_at seats panel role ≡ active_of was role
    was_active role = ap (λ x. active_of x role) found

    pub one_more : (taken : ℕ) → taken < 64 → ((role : ℕ) → active_of seat role ≡ (active_of was role || (eqb role taken && ltb role 64))) →
        (at role : ℕ) → Decides (active_at (set seats panel seat) at role) (((at ≡ panel) × (role ≡ taken)) ⊎ (active_at seats at role ≡ true))
    one_more taken small members = active_after (λ at role. ((at ≡ panel) × (role ≡ taken)) ⊎ (active_at seats at role ≡ true))
        (λ role. (
          (λ t. ⊎_elim
              (λ before. inr (was_active role ∙ before))
              (λ new. inl (refl, eqb-true role taken (and_parts (eqb role taken) (ltb role 64) new).0))
              (or_cases (active_of was role) (eqb role taken && ltb role 64) (sym (members role) ∙ t))),
          (λ w. members role ∙ ⊎_elim
              (λ new. or_right (active_of was role) (eqb role taken && ltb role 64) (and_from (eqb role taken) (ltb role 64) (eq-eqb role taken new.1) (lt-ltb role 64 (omega (arith, new.1)))))
              (λ before. or_left (active_of was role) (eqb role taken && ltb role 64) (sym (was_active role) ∙ before))
              w),
        ))
        (λ at role n. (inr, (λ w. ⊎_elim (λ both. absurd (n both.0)) (λ t. t) w)))

    pub one_less : (dropped : ℕ) → ((role : ℕ) → active_of seat role ≡ (active_of was role && not (eqb role dropped))) →
        (at role : ℕ) → Decides (active_at (set seats panel seat) at role) (((at ≡ panel) × (role ≡ dropped) → ⊥) × (active_at seats at role ≡ true))
    one_less dropped members = active_after (λ at role. ((at ≡ panel) × (role ≡ dropped) → ⊥) × (active_at seats at role ≡ true))
        (λ role. (
          (λ t.
              let parts = and_parts (active_of was role) (not (eqb role dropped)) (sym (members role) ∙ t) in
              ((λ both. both_ways (not (eqb role dropped)) (not_from_true (eqb role dropped) (eq-eqb role dropped both.1)) parts.1), was_active role ∙ parts.0)),
          (λ w. members role ∙ and_from (active_of was role) (not (eqb role dropped)) (sym (was_active role) ∙ w.1)
              (not_from_false (eqb role dropped) (ne_eqb role dropped (λ e. w.0 (refl, e))))),
        ))
        (λ at role n. ((λ t. ((λ both. n both.0), t)), (λ w. w.1)))
