-- From the sets that code gathers of a person to the words.
use Rattle.std.proofs.Common.{◌≡◌, ℕ, true, false, Some, None, Decides, Option, Ok, Err, subst, ⊎_elim, zero-le, MatchOption}
use Rattle.std.specs.List.{slice_get}
use Rattle.std.proofs.lemmas.Bool.{both_ways, cases_Bool}
use Rattle.std.proofs.lemmas.Bool.Decides.{Decides-like, not_from_Decides}
use Rattle.sets.specs.declared.set.Set.{Set}
use Rattle.sets.specs.Members.{member, empty, LowestFrom, EmptyFrom}
use Rattle.sets.proofs.MemberLaws.{empty_decides, some_member}
use Rattle.sets.proofs.Gathering.{Holds}
use Rattle.rules.specs.declared.claim.Objection.TheVariants.{NothingGrants, Denied}
use Rattle.rules.specs.Policies.{NothingGrantingIsNo}
use Rattle.rules.specs.Rules.{Grants, Denies, Granting, Denying}
use Rattle.rules.specs.Verdicts.{Verdict, Judged}
use Rattle.rules.proofs.Places.{found_one}
use Rattle.rules.proofs.VerdictLaws.{same_holds}
use Rattle.tables.specs.Settings.{Setting, MetBy, GrantedBy, DeniedBy, ByRules}
use Rattle.tables.specs.Verdicts.{Decided, Lowest}

-- the lowest member of a set is the lowest of the numbers that the set is to hold
pub lowest_held : (P : ℕ → Type 0) (set : Set) → Holds P set → (i : ℕ) → LowestFrom set 0 i → Lowest P i
lowest_held P set held i low = record {
  held = (held i).0 low.held;
  none_lower = λ j lt p. both_ways (member set j) (low.none_lower j zero-le lt) ((held j).1 p);
}

pub first_held : (P : ℕ → Type 0) (set : Set) → Holds P set → (found : Option ℕ) → MatchOption found (EmptyFrom set 0) (LowestFrom set 0) → MatchOption found ((i : ℕ) → P i → ⊥) (Lowest P)
first_held P set held None none = λ i p. both_ways (member set i) (none i zero-le) ((held i).1 p)
first_held P set held (Some i) low = lowest_held P set held i low

module _ {V S : Type 0} (s : Setting V S) where
  module _ (person role : ℕ) (met : Set) (met_are : Holds (MetBy s person) met) where
    pub granted_are : (p : Set) → Holds (λ i. (member met i ≡ true) × Grants s.book role s.minute i) p → Holds (GrantedBy s person role) p
    granted_are p held i = Decides-like (member p i)
        (λ w. let m = (met_are i).0 w.0 in record { value = m.value; on_record = m.on_record; granting = (m.meets, w.1) })
        (λ g. ((met_are i).1 (record { value = g.value; on_record = g.on_record; meets = g.granting.0 }), g.granting.1))
        (held i)

    pub denied_are : (n : Set) → Holds (λ i. (member met i ≡ true) × Denies s.book role i) n → Holds (DeniedBy s person role) n
    denied_are n held i = Decides-like (member n i)
        (λ w. let m = (met_are i).0 w.0 in record { value = m.value; on_record = m.on_record; denying = (m.meets, w.1) })
        (λ g. ((met_are i).1 (record { value = g.value; on_record = g.on_record; meets = g.denying.0 }), g.denying.1))
        (held i)

  module _ (person role : ℕ) (p n : Set) (p_are : Holds (GrantedBy s person role) p) (n_are : Holds (DeniedBy s person role) n) where
    granting_of : (v : V) → slice_get s.records person ≡ Some v → Holds (Granting s.book v role s.minute) p
    granting_of v found i = Decides-like (member p i)
        (λ g. subst (λ x. Granting s.book x role s.minute i) (found_one s.records person g.value v g.on_record found) g.granting)
        (λ g. record { value = v; on_record = found; granting = g })
        (p_are i)

    denying_of : (v : V) → slice_get s.records person ≡ Some v → Holds (Denying s.book v role) n
    denying_of v found i = Decides-like (member n i)
        (λ g. subst (λ x. Denying s.book x role i) (found_one s.records person g.value v g.on_record found) g.denying)
        (λ g. record { value = v; on_record = found; denying = g })
        (n_are i)

    -- a yes needs a granting rule, and so a person
    pub by_rules_is : NothingGrantingIsNo s.judge → Decides (s.judge p n s.table) (ByRules s person role)
    by_rules_is never = (
      (λ e.
          let some : empty p ≡ false = ⊎_elim (λ y. absurd (both_ways (s.judge p n s.table) (never p n s.table ((empty_decides p).0 y)) e)) (λ z. z) (cases_Bool (empty p)) in
          let w = some_member p some in
          let g = (p_are w.0).0 w.1 in
          record {
            value = g.value;
            on_record = g.on_record;
            allowed = record {
              granting = p;
              denying = n;
              all_granting = granting_of g.value g.on_record;
              all_denying = denying_of g.value g.on_record;
              yes = e;
            };
          }),
      (λ b.
          let a = b.allowed in
          let ep : a.granting ≡ p = same_holds _ a.granting p a.all_granting (granting_of b.value b.on_record) in
          let en : a.denying ≡ n = same_holds _ a.denying n a.all_denying (denying_of b.value b.on_record) in
          let y = a.yes in
          cc),
    )

    pub decided : (verdict : Verdict) → NothingGrantingIsNo s.judge → Judged (s.judge p n s.table) (record { granting = p; denying = n }) verdict → Decided s person role verdict
    decided (Ok done) never j = (by_rules_is never).0 j
    decided (Err NothingGrants) never none = λ i g. both_ways (member p i) (none i) ((p_are i).1 g)
    decided (Err (Denied rule)) never j = record {
      refused = not_from_Decides (s.judge p n s.table) (by_rules_is never) j.0;
      granting = (j.1.0, (p_are j.1.0).0 j.1.1);
      lowest = lowest_held (DeniedBy s person role) n n_are rule j.2;
    }
