-- The worked cases, line by line: each is left to tests that compute.
use Rattle.std.proofs.Common.{◌≡◌, ℕ, ◌<◌, Bool, true, false, not, ◌&&◌, ◌||◌, eqb, ◌⊎◌, List, [], ◌∷◌, refl, ⊎_elim, lit<}
use Rattle.std.proofs.lemmas.Option.{slice_get_within}
use Rattle.std.specs.List.{AllByRecursion}
use Rattle.std.proofs.lemmas.Bool.{cases_eq}
use Rattle.std.proofs.lemmas.Bool.Decides.{Decides-and, Decides-or, Decides-not, Decides-eqb, not_from_Decides}
use Rattle.sets.specs.Members.{bit, member, some_below, some, empty, subset}
use Rattle.rules.specs.declared.shipped.Shipped.{Shipped}
use Rattle.rules.specs.declared.shipped.Shipped.TheVariants.{Permission, Denial, LocalDenial}
use Rattle.rules.specs.Rules.{Senior}
use Rattle.rules.proofs.Computing.{some_below_is}
use Rattle.logs.specs.declared.refusal.Refusal.TheVariants.{NothingGrants, RuleDenies}
use Rattle.logs.specs.Logs.{Plant}
use Rattle.hall.specs.SmallHall.{small_rules}
use Rattle.hall.specs.WorkedCases.{Record, Test, HoldsCase, Under, IsEntitled, IsNotEntitled, OpensAndMayNotTake, entitled, not_entitled, take_refused, comparable_only_with_itself, any_minute, minute, every_policy, small_book, small_plant, WorkedCases}
use Rattle.hall.proofs.SmallFiles.{smallest_accepted, shorter_refused, empty_refused}
use Rattle.hall.proofs.SmallRuling.{over, over_is, by_rules, by_rules_is, granted, lowest}
use Rattle.hall.proofs.SmallTakes.{open_granted, take_of_nothing, take_denied}

-- from tests of each policy to what is said of each
at_any : (What : Plant Record Test → Type 0) (Told : Shipped → ℕ → Type 0) → ((policy : Shipped) (now : ℕ) → Told policy now → What (small_plant policy now)) → (policies : List Shipped) → ((now : ℕ) → AllByRecursion (λ policy. Told policy now) policies) → Under policies any_minute What
at_any What Told from [] told = tt
at_any What Told from (policy ∷ policies) told = ((λ now. from policy now (told now).0), at_any What Told from policies (λ now. (told now).1))

at_one : (What : Plant Record Test → Type 0) (Told : Shipped → Type 0) (now : ℕ) → ((policy : Shipped) → Told policy → What (small_plant policy now)) → (policies : List Shipped) → AllByRecursion Told policies → Under policies (minute now) What
at_one What Told now from [] told = tt
at_one What Told now from (policy ∷ policies) told = (from policy told.0, at_one What Told now from policies told.1)

module _ (person role : ℕ) (policies : List Shipped) where
  always_entitled : ((now : ℕ) → AllByRecursion (λ policy. by_rules policy now person role ≡ true) policies) → HoldsCase (entitled policies any_minute person role)
  always_entitled = at_any (IsEntitled person role) (λ policy now. by_rules policy now person role ≡ true) (λ policy now. (by_rules_is policy now person role).0) policies

  then_entitled : (now : ℕ) → AllByRecursion (λ policy. by_rules policy now person role ≡ true) policies → HoldsCase (entitled policies (minute now) person role)
  then_entitled now = at_one (IsEntitled person role) (λ policy. by_rules policy now person role ≡ true) now (λ policy. (by_rules_is policy now person role).0) policies

  then_not_entitled : (now : ℕ) → AllByRecursion (λ policy. by_rules policy now person role ≡ false) policies → HoldsCase (not_entitled policies (minute now) person role)
  then_not_entitled now = at_one (IsNotEntitled person role) (λ policy. by_rules policy now person role ≡ false) now
      (λ policy. not_from_Decides (by_rules policy now person role) (by_rules_is policy now person role)) policies

  module _ (there : person < 4) (small : role < 64) where
    nothing_grants : ((now : ℕ) → AllByRecursion (λ policy. granted policy now person role ≡ false) policies) → HoldsCase (take_refused policies any_minute person role NothingGrants 60)
    nothing_grants none = (
      refl,
      at_any (OpensAndMayNotTake person role NothingGrants) (λ policy now. granted policy now person role ≡ false)
          (λ policy now e. (open_granted policy now person role there, take_of_nothing policy now person role small e)) policies none,
    )

    rule_denies : (i : ℕ) → ((now : ℕ) → AllByRecursion (λ policy. (granted policy now person role ≡ true) × (by_rules policy now person role ≡ false) × (lowest policy now person role i ≡ true)) policies) → HoldsCase (take_refused policies any_minute person role (RuleDenies i) 61)
    rule_denies i told = (
      refl,
      at_any (OpensAndMayNotTake person role (RuleDenies i)) (λ policy now. (granted policy now person role ≡ true) × (by_rules policy now person role ≡ false) × (lowest policy now person role i ≡ true))
          (λ policy now e. (open_granted policy now person role there, take_denied policy now person role i small e.0 e.1 e.2)) policies told,
    )

-- some other rule is comparable with rule i
abbrev other_comparable : ℕ → ℕ → Bool
other_comparable i j = (over i j || over j i) && not (eqb j i)

alone : (i : ℕ) → over i i ≡ true → some_below 4 (other_comparable i) ≡ false → HoldsCase (comparable_only_with_itself i)
alone i itself none = (
  (over_is i i).0 itself,
  λ j s. ⊎_elim (λ e. e)
      (λ ne. absurd (not_from_Decides (some_below 4 (other_comparable i))
      (some_below_is 4 (other_comparable i) (λ k. (Senior small_book i k ⊎ Senior small_book k i) × (k ≡ i → ⊥))
      (λ k. Decides-and (over i k || over k i) (not (eqb k i)) (Decides-or (over i k) (over k i) (over_is i k) (over_is k i)) (Decides-not (eqb k i) (Decides-eqb k i))))
      none
      (j, ⊎_elim (λ down. slice_get_within small_rules j down.lower down.lower_found) (λ up. slice_get_within small_rules j up.upper up.upper_found) s, (s, ne))))
      (cases_eq j i),
)

-- one line, and the lines after it
infixr 10 ◌and◌
◌and◌ : {A B : Type 0} → A → B → A × B
a and b = (a, b)

pub worked : WorkedCases
unfolding bit member some_below some empty subset
worked =
    nothing_grants 0 2 every_policy (lit< tt) (lit< tt) (λ now. (refl, (refl, (refl, tt))))
    and always_entitled 1 0 every_policy (λ now. (refl, (refl, (refl, tt))))
    and always_entitled 1 1 every_policy (λ now. (refl, (refl, (refl, tt))))
    and always_entitled 1 2 every_policy (λ now. (refl, (refl, (refl, tt))))
    and always_entitled 2 2 (Permission ∷ []) (λ now. (refl, tt))
    and rule_denies 2 2 (Denial ∷ LocalDenial ∷ []) (lit< tt) (lit< tt) 2 (λ now. ((refl, refl, refl), ((refl, refl, refl), tt)))
    and always_entitled 3 1 (Permission ∷ LocalDenial ∷ []) (λ now. (refl, (refl, tt)))
    and rule_denies 3 1 (Denial ∷ []) (lit< tt) (lit< tt) 3 (λ now. ((refl, refl, refl), tt))
    and (over_is 2 1).0 refl
    and (over_is 2 0).0 refl
    and alone 3 refl refl
    and then_entitled 0 3 every_policy 100 (refl, (refl, (refl, tt)))
    and then_entitled 0 3 every_policy 159 (refl, (refl, (refl, tt)))
    and then_not_entitled 0 3 every_policy 99 (refl, (refl, (refl, tt)))
    and then_not_entitled 0 3 every_policy 160 (refl, (refl, (refl, tt)))
    and then_entitled 3 3 (Denial ∷ []) 100 (refl, tt)
    and smallest_accepted
    and shorter_refused
    and empty_refused
    and tt
