-- What trimming makes of one panel, and of the panels one after another.
use Rattle.std.proofs.Common.{◌≡◌, ℕ, ◌+◌, ◌<◌, ◌≤◌, true, ◌&&◌, ◌||◌, eqb, ltb, List, length, get_or, set, Some, None, Decides, Option, sym, refl, ap, ◌∙◌, subst, ⊎_elim, arith, length-set}
use Rattle.std.specs.List.{slice_get}
use Rattle.std.proofs.lemmas.Option.{slice_get-get_or, slice_get_past}
use Rattle.std.proofs.lemmas.Bool.{both_ways, cases_eq, cases_lt}
use Rattle.std.proofs.lemmas.Bool.Decides.{Decides-like}
use Rattle.sets.specs.declared.set.Set.{Set}
use Rattle.sets.specs.declared.set.members.Members.{Members}
use Rattle.sets.specs.Members.{member, LowestFrom}
use Rattle.sets.specs.Readout.{ReadOut}
use Rattle.sets.proofs.Gathering.{Gathered, gathered_with}
use Rattle.sets.proofs.MemberLaws.{member_below}
use Rattle.rules.proofs.Places.{found_set, found_other}
use Rattle.tables.specs.declared.seat.Seat.{Seat}
use Rattle.tables.specs.Panels.{seated, person_of, active_of, seat_at, HasGrounds, Trimmed}

-- a loop that reads the members of a set out, and takes in those of which P holds
module _ (P : ℕ → Type 0) (roles : Set) (m : Members) (g : Gathered P m.from roles) where
  -- no role is between where the members are read from and the next of them
  gathered_up_to : (i : ℕ) → ((k : ℕ) → P k → member m.set k ≡ true) → LowestFrom m.set m.from i → Gathered P i roles
  gathered_up_to i among low k =
      let reached = low.reached in
      Decides-like (member roles k)
      (λ p. (let lt = p.0 in omega arith, p.1))
      (λ p. (⊎_elim (λ lt. lt) (λ ge. absurd (both_ways (member m.set k) (low.none_lower k ge p.0) (among k p.1))) (cases_lt k m.from), p.1))
      (g k)

  -- the next role is read out, and taken in
  pub taken_in : (n : Members) (i : ℕ) (more : Set) → ReadOut m (Some i) n → ((k : ℕ) → P k → member m.set k ≡ true) → (member m.set i ≡ true → P i) → ((k : ℕ) → member more k ≡ (member roles k || (eqb k i && ltb k 64))) → Gathered P n.from more
  taken_in n i more read among here with-is =
      let held = read.0.held in
      subst (λ x. Gathered P x.from more) (sym read.1)
      (gathered_with P i roles more more refl (member_below m.set i held) (here held) with-is (gathered_up_to i among read.0))

module _ (G : ℕ → ℕ → Type 0) where
  pub record TrimmedSeat (old new : Option Seat) : Type 0 where
    pub same_person : person_of new ≡ person_of old
    pub roles_with_grounds : (role : ℕ) → Decides (active_of new role) ((active_of old role ≡ true) × HasGrounds G old role)

  -- a panel that is closed stays closed
  closed : TrimmedSeat None None
  closed = record { same_person = refl; roles_with_grounds = λ role. ((λ e. absurd (both_ways _ refl e)), (λ w. w.0)) }

  -- where a loop has come to panel i
  pub record TrimmedTo (i : ℕ) (old new : List (Option Seat)) : Type 0 where
    pub long : length new ≡ length old
    pub done : (at : ℕ) → at < i → TrimmedSeat (seat_at old at) (seat_at new at)
    pub rest : (at : ℕ) → i ≤ at → slice_get new at ≡ slice_get old at

  pub trimmed_more : (i : ℕ) (old xs : List (Option Seat)) (d new : Option Seat) → i < length old → TrimmedSeat (get_or xs i d) new → TrimmedTo i old xs → TrimmedTo (i + 1) old (set xs i new)
  trimmed_more i old xs d new lt one t =
      let l = t.long in
      let within : i < length xs = omega arith in
      let was : get_or xs i d ≡ seat_at old i = ap seated (sym (slice_get-get_or xs i d within) ∙ t.rest i (omega arith)) in
      let is : new ≡ seat_at (set xs i new) i = ap seated (sym (found_set xs i new within)) in
      record {
        long = length-set xs i new ∙ t.long;
        done = λ at below. ⊎_elim
            (λ same. subst (λ k. TrimmedSeat (seat_at old k) (seat_at (set xs i new) k)) (sym same)
            (subst (λ y. TrimmedSeat y (seat_at (set xs i new) i)) was (subst (TrimmedSeat (get_or xs i d)) is one)))
            (λ ne. subst (λ y. TrimmedSeat (seat_at old at) (seated y)) (sym (found_other xs i at new ne)) (t.done at (omega arith)))
            (cases_eq at i);
        rest = λ at past. found_other xs i at new (λ e. let z : ⊥ = omega arith in z) ∙ t.rest at (omega arith);
      }

  pub trimmed_all : (i : ℕ) (old new : List (Option Seat)) → length old ≤ i → TrimmedTo i old new → Trimmed G old new
  trimmed_all i old new all t =
      let each : (at : ℕ) → TrimmedSeat (seat_at old at) (seat_at new at) = λ at. ⊎_elim
      (t.done at)
      (λ past.
      let none : slice_get old at ≡ None = slice_get_past old at (omega arith) in
      let none' : slice_get new at ≡ None = t.rest at past ∙ none in
      subst (λ y. TrimmedSeat (seated y) (seat_at new at)) (sym none) (subst (λ y. TrimmedSeat None (seated y)) (sym none') closed))
      (cases_lt at i) in
      record {
        panels_there = t.long;
        same_persons = λ at. (each at).same_person;
        roles_with_grounds = λ at role. (each at).roles_with_grounds role;
      }
