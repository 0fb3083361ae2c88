-- What rules and policy say of the persons of the small hall, as tests that compute.
use Rattle.std.proofs.Common.{◌≡◌, ℕ, ◌≤◌, Bool, true, not, ◌&&◌, ltb, leb, [], length, Decides, refl, lit≤}
use Rattle.std.specs.List.{slice_get}
use Rattle.std.proofs.lemmas.Bool.{and_parts, not-true}
use Rattle.std.proofs.lemmas.Bool.Decides.{Decides-like, not_from_Decides}
use Rattle.sets.specs.Members.{some_below, empty, subset}
use Rattle.kinds.specs.Kinds.{Implied}
use Rattle.kinds.specs.Shipped.{level, certificates, site, pair}
use Rattle.kinds.proofs.Implying.{level_met, level_told, site_told, pair_told}
use Rattle.kinds.specs.KindLaws.{certificates_met, certificates_implied, site_met, pair_met}
use Rattle.rules.specs.declared.shipped.Shipped.{Shipped}
use Rattle.rules.specs.Rules.{Senior, Permitted, Denying, Allowed}
use Rattle.rules.specs.Verdicts.{judge_of}
use Rattle.rules.proofs.Computing.{some_below_is, some_rule, is_over, is_over_is, some_granting_is, says, says_is}
use Rattle.rules.proofs.Deciding.{passes, passes_is, is_granting, is_denying, is_denying_is}
use Rattle.tables.specs.Verdicts.{Lowest}
use Rattle.logs.specs.Moments.{Moment, ByRules, GrantedBy, DeniedBy}
use Rattle.logs.specs.Logs.{moment}
use Rattle.hall.specs.SmallHall.{small_rules, small_register}
use Rattle.hall.specs.WorkedCases.{Record, Test, hall_meaning, small_book, small_plant}

few : length small_rules ≤ 64
few = lit≤ tt

-- one test of a hall implies another
abbrev pub implies : Test → Test → Bool
implies s t = (ltb s.0 65536 && leb t.0 s.0) && (subset t.1.0 s.1.0 && (not (empty s.1.1) && subset s.1.1 t.1.1))

implies_is : (s t : Test) → Decides (implies s t) (Implied hall_meaning s t)
implies_is s t =
    pair_told level (pair certificates site) level_met (pair_met certificates site certificates_met site_met) s t _ _ (level_told s.0 t.0)
    (pair_told certificates site certificates_met site_met s.1 t.1 _ _ (certificates_implied s.1.0 t.1.0 _ refl) (site_told s.1.1 t.1.1))

abbrev pub over : ℕ → ℕ → Bool
over = is_over small_book implies

pub over_is : (i j : ℕ) → Decides (over i j) (Senior small_book i j)
over_is = is_over_is small_book implies implies_is

module _ (policy : Shipped) (now : ℕ) where
  abbrev pub here : Moment Record Test
  here = moment (small_plant policy now) []

  module _ (person role : ℕ) where
    abbrev pub by_rules : Bool
    by_rules = passes (λ v. says small_book implies v role now policy) (slice_get small_register person)

    pub by_rules_is : Decides by_rules (ByRules here person role)
    by_rules_is = Decides-like by_rules
        (λ w. record { value = w.0; on_record = w.1; allowed = w.2 })
        (λ w. (w.value, w.on_record, w.allowed))
        (passes_is _ (λ v. Allowed small_book (judge_of policy) v role now) (λ v. says_is small_book implies implies_is v role now few policy) (slice_get small_register person))

    abbrev pub granted : Bool
    granted = passes (λ v. some_rule small_book (is_granting small_book v role now)) (slice_get small_register person)

    pub granted_is : Decides granted ((i : ℕ) × GrantedBy here person role i)
    granted_is = Decides-like granted
        (λ w. (w.2.0, record { value = w.0; on_record = w.1; granting = w.2.1 }))
        (λ w. (w.1.value, w.1.on_record, (w.0, w.1.granting)))
        (passes_is _ (λ v. Permitted small_book v role now) (λ v. some_granting_is small_book v role now) (slice_get small_register person))

    abbrev pub denied : ℕ → Bool
    denied i = passes (λ v. is_denying small_book v role i) (slice_get small_register person)

    pub denied_is : (i : ℕ) → Decides (denied i) (DeniedBy here person role i)
    denied_is i = Decides-like (denied i)
        (λ w. record { value = w.0; on_record = w.1; denying = w.2 })
        (λ w. (w.value, w.on_record, w.denying))
        (passes_is _ (λ v. Denying small_book v role i) (λ v. is_denying_is small_book v role i) (slice_get small_register person))

    abbrev pub lowest : ℕ → Bool
    lowest i = denied i && not (some_below i denied)

    pub lowest_from : (i : ℕ) → lowest i ≡ true → Lowest (DeniedBy here person role) i
    lowest_from i e =
        let p = and_parts (denied i) (not (some_below i denied)) e in
        record {
          held = (denied_is i).0 p.0;
          none_lower = λ j lt d. not_from_Decides (some_below i denied) (some_below_is i denied (DeniedBy here person role) denied_is) (not-true (some_below i denied) p.1) (j, lt, d);
        }
