-- Whoever meets more rules is entitled by rules to more.
use Rattle.std.proofs.Common.{ℕ, ◌≤◌, Bool, not, ◌&&◌, ◌⊎◌, length, inl, inr, ⊎_elim}
use Rattle.std.proofs.lemmas.Bool.{and_parts, and_from, cases_Bool, both_ways, not-true, not_from_false}
use Rattle.std.proofs.lemmas.Bool.Decides.{not_from_Decides}
use Rattle.sets.specs.declared.set.Set.{Set}
use Rattle.sets.specs.Members.{member, some}
use Rattle.sets.proofs.Making.{such}
use Rattle.sets.proofs.MemberLaws.{member_below, some_decides, none_passes}
use Rattle.rules.specs.Policies.{Judge, YesStaysWhenGrantingGainsOrDenyingLoses}
use Rattle.rules.specs.Rules.{Book, Meets, Denying, Allowed}
use Rattle.rules.proofs.Deciding.{is_met, is_met_is, is_granting, is_denying, granting_are, denying_are}

module _ {V S : Type 0} (b : Book V S) (few : length b.rules ≤ 64) (judge : Judge) (stays : YesStaysWhenGrantingGainsOrDenyingLoses judge) where
  -- a meets every rule that v meets, and is entitled to what v is, but for a role that a rule denies which v does not meet
  pub entitled_to_more : (a v : V) (role minute : ℕ) → ((i : ℕ) → Meets b v i → Meets b a i) → Allowed b judge v role minute → Allowed b judge a role minute ⊎ ((i : ℕ) × Denying b a role i × (Meets b v i → ⊥))
  entitled_to_more a v role minute more allowed =
      let had = allowed.by_table in
      let p : Set = such (is_granting b a role minute) in
      let n : Set = such (is_denying b a role) in
      let p_are = granting_are b few a role minute in
      let n_are = denying_are b few a role in
      let alone : ℕ → Bool = λ i. member n i && not (is_met b v i) in
      ⊎_elim
      (λ y.
      let w = (some_decides alone).0 y in
      let h = and_parts (member n w.0) (not (is_met b v w.0)) w.2 in
      inr (w.0, (n_are w.0).0 h.0, not_from_Decides (is_met b v w.0) (is_met_is b v w.0) (not-true (is_met b v w.0) h.1)))
      (λ none.
      inl (record {
        table = allowed.table;
        all_senior = allowed.all_senior;
        by_table = record {
          granting = p;
          denying = n;
          all_granting = p_are;
          all_denying = n_are;
          yes = stays had.granting p had.denying n allowed.table
              (λ i m. let g = (had.all_granting i).0 m in (p_are i).1 (more i g.0, g.1))
              (λ i m.
              let d = (n_are i).0 m in
              (had.all_denying i).1 (⊎_elim
              (λ met. ((is_met_is b v i).0 met, d.1))
              (λ unmet. absurd (both_ways (alone i) (none_passes alone none i (member_below n i m)) (and_from (member n i) (not (is_met b v i)) m (not_from_false (is_met b v i) unmet))))
              (cases_Bool (is_met b v i))))
              had.yes;
        };
      }))
      (cases_Bool (some alone))
