-- What the shipped policies say of a record, as tests over the rules there are, which compute.
use Rattle.std.proofs.Common.{ℕ, ◌<◌, ◌≤◌, Bool, not, ◌&&◌, ◌||◌, ◌⊎◌, length, Decides, refl, inl, inr, ⊎_elim}
use Rattle.std.specs.List.{slice_get}
use Rattle.std.proofs.lemmas.Bool.Decides.{Decides-like, Decides-and, Decides-or, Decides-not, Decides-below_or}
use Rattle.sets.specs.declared.set.Set.{Set}
use Rattle.sets.specs.Members.{some_below}
use Rattle.sets.proofs.Making.{such}
use Rattle.kinds.specs.Kinds.{Implied}
use Rattle.rules.specs.declared.seniority.Seniority.{Seniority}
use Rattle.rules.specs.declared.shipped.Shipped.{Shipped}
use Rattle.rules.specs.declared.shipped.Shipped.TheVariants.{Permission, Denial, LocalDenial}
use Rattle.rules.specs.Policies.{Judge, permission, denial, local_denial}
use Rattle.rules.specs.Rules.{Book, Senior, Granting, Denying, Allowed, Permitted, PermittedAndNotDenied, PermittedAndNotDeniedLocally}
use Rattle.rules.specs.Verdicts.{judge_of}
use Rattle.rules.proofs.Deciding.{passes, passes_is, is_granting, is_granting_is, granting_are, is_denying, is_denying_is, denying_are}
use Rattle.rules.proofs.Ranking.{table, table_is}
use Rattle.rules.proofs.RuleLaws.{met_within}
use Rattle.rules.proofs.VerdictLaws.{Gathers, allowed_is, permission_is, denial_is, local_is}

pub some_below_is : (n : ℕ) (f : ℕ → Bool) (P : ℕ → Type 0) → ((k : ℕ) → Decides (f k) (P k)) → Decides (some_below n f) ((k : ℕ) × (k < n) × P k)
unfolding some_below
some_below_is n f P each = Decides-below_or f P (λ m. some_below m f) each refl (λ _. refl) n

-- two tests of one fact pass alike
alike : {P Q : Type 0} (r s : Bool) → Decides r P → Decides s P → Decides r Q → Decides s Q
alike r s dr ds dq = ((λ e. dq.0 (dr.1 (ds.0 e))), (λ q. ds.1 (dr.0 (dq.1 q))))

module _ {V S : Type 0} (b : Book V S) where
  abbrev pub some_rule : (ℕ → Bool) → Bool
  some_rule f = some_below (length b.rules) f

  module _ (v : V) (role : ℕ) where
    some_denying_is : Decides (some_rule (is_denying b v role)) ((i : ℕ) × Denying b v role i)
    some_denying_is = Decides-like (some_rule (is_denying b v role))
        (λ w. (w.0, w.2))
        (λ w. (w.0, met_within b v w.0 w.1.0, w.1))
        (some_below_is (length b.rules) (is_denying b v role) (Denying b v role) (is_denying_is b v role))

    pub some_granting_is : (minute : ℕ) → Decides (some_rule (is_granting b v role minute)) (Permitted b v role minute)
    some_granting_is minute = Decides-like (some_rule (is_granting b v role minute))
        (λ w. (w.0, w.2))
        (λ w. (w.0, met_within b v w.0 w.1.0, w.1))
        (some_below_is (length b.rules) (is_granting b v role minute) (Granting b v role minute) (is_granting_is b v role minute))

  module _ (implies : S → S → Bool) where
    -- rule i is senior to rule j
    abbrev pub is_over : ℕ → ℕ → Bool
    is_over i j = passes (λ upper. passes (λ lower. implies upper.test lower.test) (slice_get b.rules j)) (slice_get b.rules i)

    -- rule j denies and is comparable with rule i
    abbrev pub clashes : V → ℕ → ℕ → ℕ → Bool
    clashes v role i j = is_denying b v role j && (is_over i j || is_over j i)

    -- rule i grants and is comparable with no denying rule
    abbrev pub grants_freely : V → ℕ → ℕ → ℕ → Bool
    grants_freely v role minute i = is_granting b v role minute i && not (some_rule (clashes v role i))

    abbrev pub says : V → ℕ → ℕ → Shipped → Bool
    says v role minute Permission = some_rule (is_granting b v role minute)
    says v role minute Denial = some_rule (is_granting b v role minute) && not (some_rule (is_denying b v role))
    says v role minute LocalDenial = some_rule (grants_freely v role minute)

module _ {V S : Type 0} (b : Book V S) (implies : S → S → Bool) (told : (s t : S) → Decides (implies s t) (Implied b.meaning s t)) where
  pub is_over_is : (i j : ℕ) → Decides (is_over b implies i j) (Senior b i j)
  is_over_is i j = Decides-like (is_over b implies i j)
      (λ w. record { upper = w.0; lower = w.2.0; upper_found = w.1; lower_found = w.2.1; implied = w.2.2 })
      (λ s. (s.upper, s.upper_found, (s.lower, s.lower_found, s.implied)))
      (passes_is _ _ (λ upper. passes_is _ _ (λ lower. told upper.test lower.test) (slice_get b.rules j)) (slice_get b.rules i))

  module _ (v : V) (role minute : ℕ) where
    abbrev Apart : ℕ → Type 0
    Apart i = (j : ℕ) → Denying b v role j → (Senior b i j → ⊥) × (Senior b j i → ⊥)

    apart_is : (i : ℕ) → Decides (not (some_rule b (clashes b implies v role i))) (Apart i)
    apart_is i = Decides-like (not (some_rule b (clashes b implies v role i)))
        (λ none j d. ((λ s. none (j, met_within b v j d.0, (d, inl s))), (λ s. none (j, met_within b v j d.0, (d, inr s)))))
        (λ apart w. ⊎_elim (apart w.0 w.2.0).0 (apart w.0 w.2.0).1 w.2.1)
        (Decides-not (some_rule b (clashes b implies v role i))
        (some_below_is (length b.rules) (clashes b implies v role i) (λ j. Denying b v role j × (Senior b i j ⊎ Senior b j i))
        (λ j. Decides-and (is_denying b v role j) (is_over b implies i j || is_over b implies j i) (is_denying_is b v role j)
        (Decides-or (is_over b implies i j) (is_over b implies j i) (is_over_is i j) (is_over_is j i)))))

    some_freely_is : Decides (some_rule b (grants_freely b implies v role minute)) (PermittedAndNotDeniedLocally b v role minute)
    some_freely_is = Decides-like (some_rule b (grants_freely b implies v role minute))
        (λ w. (w.0, w.2.0, w.2.1))
        (λ w. (w.0, met_within b v w.0 w.1.0, (w.1, w.2)))
        (some_below_is (length b.rules) (grants_freely b implies v role minute) (λ i. Granting b v role minute i × Apart i)
        (λ i. Decides-and (is_granting b v role minute i) (not (some_rule b (clashes b implies v role i))) (is_granting_is b v role minute i) (apart_is i)))

    module _ (few : length b.rules ≤ 64) where
      abbrev granting : Set
      granting = such (is_granting b v role minute)

      abbrev denying : Set
      denying = such (is_denying b v role)

      abbrev ranks : Seniority
      ranks = table b few implies told

      gathers : Gathers b v role minute granting denying ranks
      gathers = record { granting = granting_are b few v role minute; denying = denying_are b few v role; senior = table_is b few implies told }

      as_judged : (judge : Judge) (Q : Type 0) (r : Bool) → Decides r Q → Decides (judge granting denying ranks) Q → Decides r (Allowed b judge v role minute)
      as_judged judge Q r dr dq = alike (judge granting denying ranks) r dq dr (allowed_is b v role minute granting denying ranks gathers judge)

      pub says_is : (policy : Shipped) → Decides (says b implies v role minute policy) (Allowed b (judge_of policy) v role minute)
      says_is Permission =
          as_judged permission (Permitted b v role minute) (some_rule b (is_granting b v role minute)) (some_granting_is b v role minute) (permission_is b v role minute granting denying ranks gathers)
      says_is Denial = as_judged denial (PermittedAndNotDenied b v role minute) (some_rule b (is_granting b v role minute) && not (some_rule b (is_denying b v role)))
          (Decides-and (some_rule b (is_granting b v role minute)) (not (some_rule b (is_denying b v role))) (some_granting_is b v role minute)
          (Decides-like (not (some_rule b (is_denying b v role))) (λ none j d. none (j, d)) (λ none w. none w.0 w.1) (Decides-not (some_rule b (is_denying b v role)) (some_denying_is b v role))))
          (denial_is b v role minute granting denying ranks gathers)
      says_is LocalDenial =
          as_judged local_denial (PermittedAndNotDeniedLocally b v role minute) (some_rule b (grants_freely b implies v role minute)) some_freely_is (local_is b v role minute granting denying ranks gathers)
