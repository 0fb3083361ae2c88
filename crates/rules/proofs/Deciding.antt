-- Tests that tell which rules a record meets and which of them grant or deny a role, and the sets of those rules.
use Rattle.std.proofs.Common.{◌≡◌, ℕ, zero, suc, ◌+◌, ◌<◌, ◌≤◌, Bool, true, false, ◌&&◌, ◌||◌, eqb, ltb, leb, ◌⊎◌, List, [], ◌∷◌, length, Some, None, Decides, Option, sym, refl, ap, ◌∙◌, subst, inl, inr, ⊎_elim, arith}
use Rattle.std.specs.List.{slice_get}
use Rattle.std.proofs.lemmas.Bool.{both_ways, leb-true, le-leb}
use Rattle.std.proofs.lemmas.Bool.Decides.{Decides-like, Decides-and, Decides-or, Decides-eqb, Decides-ltb}
use Rattle.sets.specs.declared.set.Set.{Set}
use Rattle.sets.specs.Members.{member}
use Rattle.sets.proofs.Gathering.{Holds}
use Rattle.sets.proofs.Making.{such, such_holds}
use Rattle.kinds.specs.Kinds.{meets}
use Rattle.rules.specs.declared.entry.Entry.{Entry}
use Rattle.rules.specs.declared.rule.Rule.{Rule}
use Rattle.rules.specs.Rules.{Book, Meets, Leads, Granting, Denying}
use Rattle.rules.proofs.RuleLaws.{met_within}

-- something stands at the place, and it passes
abbrev pub passes : {X : Type 0} → (X → Bool) → Option X → Bool
passes f None = false
passes f (Some x) = f x

pub passes_is : {X : Type 0} (f : X → Bool) (P : X → Type 0) → ((x : X) → Decides (f x) (P x)) → (o : Option X) → Decides (passes f o) ((x : X) × (o ≡ Some x) × P x)
passes_is f P each None = (
  (λ e. absurd (both_ways false refl e)),
  (λ w. let q = w.1 in let z : ◌≡◌ {A = ℕ} 0 1 = cc in let y : ⊥ = omega arith in absurd y),
)
passes_is f P each (Some x) = Decides-like (f x)
    (λ p. (x, refl, p))
    (λ w. let q = w.1 in let one : w.0 ≡ x = cc in subst P one w.2)
    (each x)

-- some element of a list passes
abbrev pub some_passes : {X : Type 0} → (X → Bool) → List X → Bool
some_passes f [] = false
some_passes f (x ∷ xs) = f x || some_passes f xs

abbrev AtSome : {X : Type 0} → (X → Type 0) → List X → Type 0
AtSome {X} P xs = (i : ℕ) × (x : X) × (slice_get xs i ≡ Some x) × P x

first_or_later : {X : Type 0} (P : X → Type 0) (x : X) (xs : List X) (i : ℕ) (y : X) → slice_get (x ∷ xs) i ≡ Some y → P y → P x ⊎ AtSome P xs
first_or_later P x xs zero y e p = let one : y ≡ x = cc in inl (subst P one p)
first_or_later P x xs (suc i) y e p = inr (i, y, e, p)

some_passes_is : {X : Type 0} (f : X → Bool) (P : X → Type 0) → ((x : X) → Decides (f x) (P x)) → (xs : List X) → Decides (some_passes f xs) (AtSome P xs)
some_passes_is f P each [] = (
  (λ e. absurd (both_ways false refl e)),
  (λ w. let q = w.2 in let z : ◌≡◌ {A = ℕ} 0 1 = cc in let y : ⊥ = omega arith in absurd y),
)
some_passes_is f P each (x ∷ xs) = Decides-like (f x || some_passes f xs)
    (λ s. ⊎_elim (λ p. (0, x, refl, p)) (λ w. (suc w.0, w.1, w.2, w.3)) s)
    (λ w. first_or_later P x xs w.0 w.1 w.2 w.3)
    (Decides-or (f x) (some_passes f xs) (each x) (some_passes_is f P each xs))

decides_leb : (a c : ℕ) → Decides (leb a c) (a ≤ c)
decides_leb a c = (leb-true a c, le-leb a c)

-- a live entry leads to the role from a role of the set
abbrev pub leads_from : Set → ℕ → ℕ → Entry → Bool
leads_from grants role minute e =
    member grants e.first && (eqb e.second role && (leb e.start minute && ltb minute (e.start + e.duration)))

abbrev LeadsFrom : Set → ℕ → ℕ → Entry → Type 0
LeadsFrom grants role minute e =
    (member grants e.first ≡ true) × ((e.second ≡ role) × ((e.start ≤ minute) × (minute < e.start + e.duration)))

leads_from_is : (grants : Set) (role minute : ℕ) (e : Entry) → Decides (leads_from grants role minute e) (LeadsFrom grants role minute e)
leads_from_is grants role minute e =
    Decides-and (member grants e.first) _ ((λ h. h), (λ h. h))
    (Decides-and (eqb e.second role) _ (Decides-eqb e.second role)
    (Decides-and (leb e.start minute) _ (decides_leb e.start minute) (Decides-ltb minute (e.start + e.duration))))

module _ {V S : Type 0} (b : Book V S) where
  abbrev pub is_met : V → ℕ → Bool
  is_met v i = passes (λ r. meets b.meaning v r.test) (slice_get b.rules i)

  pub is_met_is : (v : V) (i : ℕ) → Decides (is_met v i) (Meets b v i)
  is_met_is v i = Decides-like (is_met v i)
      (λ w. record { rule = w.0; found = w.1; met = w.2 })
      (λ m. (m.rule, m.found, m.met))
      (passes_is (λ r. meets b.meaning v r.test) (λ r. meets b.meaning v r.test ≡ true) (λ r. ((λ e. e), (λ e. e))) (slice_get b.rules i))

  abbrev pub grants_role : ℕ → ℕ → Rule S → Bool
  grants_role role minute r = member r.grants role || some_passes (leads_from r.grants role minute) b.entries

  abbrev GrantsRole : ℕ → ℕ → Rule S → Type 0
  GrantsRole role minute r = (from : ℕ) × (member r.grants from ≡ true) × ((from ≡ role) ⊎ Leads b from role minute)

  grants_role_is : (role minute : ℕ) (r : Rule S) → Decides (grants_role role minute r) (GrantsRole role minute r)
  grants_role_is role minute r = Decides-like (grants_role role minute r)
      (λ s. ⊎_elim
      (λ m. (role, m, inl refl))
      (λ w.
      let e = w.1 in let p = w.3 in
      (e.first, p.0, inr (record { place = w.0; entry = e; found = w.2; from_first = refl; to_second = p.1.0; live = record { begun = p.1.1.0; unexpired = p.1.1.1 } })))
      s)
      (λ w. ⊎_elim
      (λ q. inl (ap (member r.grants) (sym q) ∙ w.1))
      (λ l. inr (l.place, l.entry, l.found, (ap (member r.grants) l.from_first ∙ w.1, (l.to_second, (l.live.begun, l.live.unexpired)))))
      w.2)
      (Decides-or (member r.grants role) (some_passes (leads_from r.grants role minute) b.entries) ((λ h. h), (λ h. h))
      (some_passes_is (leads_from r.grants role minute) (LeadsFrom r.grants role minute) (leads_from_is r.grants role minute) b.entries))

  abbrev pub is_granting : V → ℕ → ℕ → ℕ → Bool
  is_granting v role minute i = is_met v i && passes (grants_role role minute) (slice_get b.rules i)

  pub is_granting_is : (v : V) (role minute i : ℕ) → Decides (is_granting v role minute i) (Granting b v role minute i)
  is_granting_is v role minute i = Decides-like (is_granting v role minute i)
      (λ w. (w.0, let g = w.1 in record { rule = g.0; found = g.1; from = g.2.0; granted = g.2.1; arrives = g.2.2 }))
      (λ w. (w.0, let g = w.1 in (g.rule, g.found, (g.from, g.granted, g.arrives))))
      (Decides-and (is_met v i) (passes (grants_role role minute) (slice_get b.rules i)) (is_met_is v i)
      (passes_is (grants_role role minute) (GrantsRole role minute) (grants_role_is role minute) (slice_get b.rules i)))

  abbrev pub is_denying : V → ℕ → ℕ → Bool
  is_denying v role i = is_met v i && passes (λ r. member r.denies role) (slice_get b.rules i)

  pub is_denying_is : (v : V) (role i : ℕ) → Decides (is_denying v role i) (Denying b v role i)
  is_denying_is v role i = Decides-like (is_denying v role i)
      (λ w. (w.0, let d = w.1 in record { rule = d.0; found = d.1; denied = d.2 }))
      (λ w. (w.0, let d = w.1 in (d.rule, d.found, d.denied)))
      (Decides-and (is_met v i) (passes (λ r. member r.denies role) (slice_get b.rules i)) (is_met_is v i)
      (passes_is (λ r. member r.denies role) (λ r. member r.denies role ≡ true) (λ r. ((λ e. e), (λ e. e))) (slice_get b.rules i)))

  -- the sets of those rules
  module _ (few : length b.rules ≤ 64) (v : V) (role : ℕ) where
    pub granting_are : (minute : ℕ) → Holds (Granting b v role minute) (such (is_granting v role minute))
    granting_are minute = such_holds (is_granting v role minute) (Granting b v role minute) (is_granting_is v role minute)
        (λ i w. let lt = met_within b v i w.0 in omega arith)

    pub denying_are : Holds (Denying b v role) (such (is_denying v role))
    denying_are = such_holds (is_denying v role) (Denying b v role) (is_denying_is v role)
        (λ i w. let lt = met_within b v i w.0 in omega arith)
