-- From the sets that code has gathered to who is entitled, and back.
use Rattle.std.proofs.Common.{◌≡◌, ℕ, suc, Bool, true, false, not, ◌↔◌, Ok, Err, List, [], ◌∷◌, length, Decides, sym, refl, ap, ◌∙◌, subst, ⊎_elim, zero-le, arith}
use native.Mathlib.Nat.{ℕ_set}
use Rattle.std.specs.List.{slice_get}
use Rattle.std.proofs.lemmas.Bool.{both_ways, cases_Bool, and_parts, and_from, not-true, not_from_false}
use Rattle.std.proofs.lemmas.Bool.Decides.{same_from_decides, not_from_Decides, Decides-like}
use Rattle.sets.specs.declared.set.Set.{Set}
use Rattle.sets.specs.Members.{member, empty}
use Rattle.sets.proofs.MemberLaws.{same_members, some_member, member-not-empty, empty_decides}
use Rattle.sets.proofs.Gathering.{Holds}
use Rattle.rules.specs.declared.claim.Objection.TheVariants.{NothingGrants, Denied}
use Rattle.rules.specs.declared.seniority.Seniority.{Seniority}
use Rattle.rules.specs.Policies.{Judge, NothingGrantingIsNo, permission, denial, local_denial}
use Rattle.rules.specs.Ranks.{is_senior, row_holds}
use Rattle.rules.specs.Rules.{Book, Meets, Senior, Grants, Denies, Granting, Denying, Allowed, AllowedBy, Permitted, PermittedAndNotDenied, PermittedAndNotDeniedLocally}
use Rattle.rules.specs.Verdicts.{Verdict, Judged, Ruled}
use Rattle.rules.specs.PolicyLaws.{local_decides}

-- sets and tables of which the same holds are one
pub same_holds : (P : ℕ → Type 0) (s t : Set) → Holds P s → Holds P t → s ≡ t
same_holds P s t hs ht = same_members s t (λ i. same_from_decides (member s i) (member t i) (hs i) (ht i))

same_rows : (xs ys : List Set) → length xs ≡ length ys → ((i j : ℕ) → row_holds (slice_get xs i) j ≡ row_holds (slice_get ys i) j) → xs ≡ ys
same_rows [] [] long same = refl
same_rows [] (y ∷ ys) long same = absurd (let z : ⊥ = omega arith in z)
same_rows (x ∷ xs) [] long same = absurd (let z : ⊥ = omega arith in z)
same_rows (x ∷ xs) (y ∷ ys) long same =
    let head : x ≡ y = same_members x y (same 0) in
    let rest : xs ≡ ys = same_rows xs ys (omega arith) (λ i. same (suc i)) in
    cc

one_long : (xs ys : List Set) (p : length xs ≡ 64) (q : length ys ≡ 64) → xs ≡ ys → ◌≡◌ {A = Seniority} (record { rows = xs; long = p }) (record { rows = ys; long = q })
one_long xs ys p q e =
    let P : List Set → Type 0 = λ zs. (h : length zs ≡ 64) → ◌≡◌ {A = Seniority} (record { rows = xs; long = p }) (record { rows = zs; long = h }) in
    subst P e (λ h. ap (λ z. record { rows = xs; long = z }) (ℕ_set _ _ p h)) q

pub same_table : (s t : Seniority) → ((i j : ℕ) → is_senior s i j ≡ is_senior t i j) → s ≡ t
unfolding is_senior
same_table s t same = one_long s.rows t.rows s.long t.long (same_rows s.rows t.rows (s.long ∙ sym t.long) same)

module _ {V S : Type 0} (b : Book V S) (v : V) (role now : ℕ) where
  -- what code has gathered is what the words say
  pub record Gathers (p n : Set) (t : Seniority) : Type 0 where
    pub granting : Holds (Granting b v role now) p
    pub denying : Holds (Denying b v role) n
    pub senior : (i j : ℕ) → Decides (is_senior t i j) (Senior b i j)

  module _ (p n : Set) (t : Seniority) (g : Gathers p n t) where
    pub allowed_by_is : (judge : Judge) → Decides (judge p n t) (AllowedBy b judge t v role now)
    allowed_by_is judge = (
      (λ e. record { granting = p; denying = n; all_granting = g.granting; all_denying = g.denying; yes = e }),
      (λ a.
          let ep : a.granting ≡ p = same_holds (Granting b v role now) a.granting p a.all_granting g.granting in
          let en : a.denying ≡ n = same_holds (Denying b v role) a.denying n a.all_denying g.denying in
          let y = a.yes in
          cc),
    )

    pub allowed_is : (judge : Judge) → Decides (judge p n t) (Allowed b judge v role now)
    allowed_is judge = (
      (λ e. record { table = t; all_senior = g.senior; by_table = (allowed_by_is judge).0 e }),
      (λ a.
          let et : a.table ≡ t = same_table a.table t (λ i j. same_from_decides _ _ (a.all_senior i j) (g.senior i j)) in
          (allowed_by_is judge).1 (subst (λ z. AllowedBy b judge z v role now) et a.by_table)),
    )

    pub ruled : (judge : Judge) (verdict : Verdict) → Judged (judge p n t) (record { granting = p; denying = n }) verdict → Ruled b judge v role now verdict
    ruled judge (Ok done) j = (allowed_is judge).0 j
    ruled judge (Err NothingGrants) none = λ w. both_ways (member p w.0) (none w.0) ((g.granting w.0).1 w.1)
    ruled judge (Err (Denied rule)) j = (
      not_from_Decides (judge p n t) (allowed_is judge) j.0,
      (j.1.0, (g.granting j.1.0).0 j.1.1),
      (g.denying rule).0 j.2.held,
      λ k lt d. both_ways (member n k) (j.2.none_lower k zero-le lt) ((g.denying k).1 d),
    )

    -- what the shipped policies come to
    pub permission_is : Decides (permission p n t) (Permitted b v role now)
    permission_is = (
      (λ e. let w = some_member p (not-true (empty p) e) in (w.0, (g.granting w.0).0 w.1)),
      (λ w. not_from_false (empty p) (member-not-empty p w.0 ((g.granting w.0).1 w.1))),
    )

    pub denial_is : Decides (denial p n t) (PermittedAndNotDenied b v role now)
    denial_is = (
      (λ e.
          let parts = and_parts (not (empty p)) (empty n) e in
          (permission_is.0 parts.0, λ j d. both_ways (member n j) ((empty_decides n).0 parts.1 j) ((g.denying j).1 d))),
      (λ w. and_from (not (empty p)) (empty n) (permission_is.1 w.0)
          ((empty_decides n).1 (λ j. ⊎_elim (λ held. absurd (w.1 j ((g.denying j).0 held))) (λ z. z) (cases_Bool (member n j))))),
    )

    pub local_is : Decides (local_denial p n t) (PermittedAndNotDeniedLocally b v role now)
    local_is = (
      (λ e.
          let w = (local_decides p n t).0 e in (
            w.0,
            (g.granting w.0).0 w.1,
            λ j d.
                let apart = w.2 j ((g.denying j).1 d) in
                (not_from_Decides _ (g.senior w.0 j) apart.0, not_from_Decides _ (g.senior j w.0) apart.1),
          )),
      (λ w. (local_decides p n t).1 (
        w.0,
        (g.granting w.0).1 w.1,
        λ j held.
            let apart = w.2 j ((g.denying j).0 held) in (
              ⊎_elim (λ y. absurd (apart.0 ((g.senior w.0 j).0 y))) (λ z. z) (cases_Bool (is_senior t w.0 j)),
              ⊎_elim (λ y. absurd (apart.1 ((g.senior j w.0).0 y))) (λ z. z) (cases_Bool (is_senior t j w.0)),
            ),
      )),
    )

    -- a record is entitled exactly where the policy says yes
    entitled_is : (answer : Bool) (verdict : Verdict) → (((i : ℕ) → member p i ≡ false) → answer ≡ false) → Judged answer (record { granting = p; denying = n }) verdict → Decides answer (verdict ≡ Ok tt)
    entitled_is answer (Ok done) never j = ((λ e. refl), (λ e. j))
    entitled_is answer (Err NothingGrants) never j =
        ((λ e. absurd (both_ways answer (never j) e)), (λ e. absurd (let z : ◌≡◌ {A = ℕ} 0 1 = cc in let y : ⊥ = omega arith in y)))
    entitled_is answer (Err (Denied rule)) never j =
        ((λ e. absurd (both_ways answer j.0 e)), (λ e. absurd (let z : ◌≡◌ {A = ℕ} 0 1 = cc in let y : ⊥ = omega arith in y)))

    -- where the policy says what the one that answers Q says
    entitled_as : (judge shipped : Judge) (Q : Type 0) (verdict : Verdict) → judge ≡ shipped → NothingGrantingIsNo judge → Judged (judge p n t) (record { granting = p; denying = n }) verdict → Decides (shipped p n t) Q → (verdict ≡ Ok tt) ↔ Q
    entitled_as judge shipped Q verdict e never j d =
        let told = entitled_is (judge p n t) verdict (never p n t) j in
        let same : judge p n t ≡ shipped p n t = ap (λ f. f p n t) e in
        ((λ x. d.0 (sym same ∙ told.1 x)), (λ q. told.0 (same ∙ d.1 q)))

    pub permission_words : (judge : Judge) (verdict : Verdict) → NothingGrantingIsNo judge → Judged (judge p n t) (record { granting = p; denying = n }) verdict → judge ≡ permission → (verdict ≡ Ok tt) ↔ Permitted b v role now
    permission_words judge verdict never j e = entitled_as judge permission (Permitted b v role now) verdict e never j permission_is

    pub denial_words : (judge : Judge) (verdict : Verdict) → NothingGrantingIsNo judge → Judged (judge p n t) (record { granting = p; denying = n }) verdict → judge ≡ denial → (verdict ≡ Ok tt) ↔ PermittedAndNotDenied b v role now
    denial_words judge verdict never j e = entitled_as judge denial (PermittedAndNotDenied b v role now) verdict e never j denial_is

    pub local_words : (judge : Judge) (verdict : Verdict) → NothingGrantingIsNo judge → Judged (judge p n t) (record { granting = p; denying = n }) verdict → judge ≡ local_denial → (verdict ≡ Ok tt) ↔ PermittedAndNotDeniedLocally b v role now
    local_words judge verdict never j e = entitled_as judge local_denial (PermittedAndNotDeniedLocally b v role now) verdict e never j local_is

  -- the sets of a claim to the rules met
  pub gathers : (met p n : Set) (t : Seniority) → Holds (Meets b v) met → Holds (λ i. (member met i ≡ true) × Grants b role now i) p → Holds (λ i. (member met i ≡ true) × Denies b role i) n → ((i j : ℕ) → Decides (is_senior t i j) (Senior b i j)) → Gathers p n t
  gathers met p n t met_are p_are n_are ranks = record {
    granting = λ i. Decides-like (member p i) (λ w. ((met_are i).0 w.0, w.1)) (λ w. ((met_are i).1 w.0, w.1)) (p_are i);
    denying = λ i. Decides-like (member n i) (λ w. ((met_are i).0 w.0, w.1)) (λ w. ((met_are i).1 w.0, w.1)) (n_are i);
    senior = ranks;
  }

-- the policy says yes to the rules of a set, by a table
module _ {V S : Type 0} (b : Book V S) (judge : Judge) (met : Set) (t : Seniority) (role now : ℕ) where
  pub record Over : Type 0 where
    pub granting : Set
    pub denying : Set
    pub all_granting : Holds (λ i. (member met i ≡ true) × Grants b role now i) granting
    pub all_denying : Holds (λ i. (member met i ≡ true) × Denies b role i) denying
    pub yes : judge granting denying t ≡ true

  pub over_is : (p n : Set) → Holds (λ i. (member met i ≡ true) × Grants b role now i) p → Holds (λ i. (member met i ≡ true) × Denies b role i) n → Decides (judge p n t) Over
  over_is p n p_are n_are = (
    (λ e. record { granting = p; denying = n; all_granting = p_are; all_denying = n_are; yes = e }),
    (λ o.
        let ep : o.granting ≡ p = same_holds _ o.granting p o.all_granting p_are in
        let en : o.denying ≡ n = same_holds _ o.denying n o.all_denying n_are in
        let y = o.yes in
        cc),
  )

  -- which is to be entitled, where they are the rules that a record meets and the table is the rulebook's
  pub over_allowed : (v : V) → Holds (Meets b v) met → ((i j : ℕ) → Decides (is_senior t i j) (Senior b i j)) → Over ↔ Allowed b judge v role now
  over_allowed v met_are ranks = (
    (λ o. (allowed_is b v role now o.granting o.denying t (gathers b v role now met o.granting o.denying t met_are o.all_granting o.all_denying ranks) judge).0 o.yes),
    (λ a.
        let w = a.by_table in
        let et : a.table ≡ t = same_table a.table t (λ i j. same_from_decides _ _ (a.all_senior i j) (ranks i j)) in
        record {
          granting = w.granting;
          denying = w.denying;
          all_granting = λ i. Decides-like (member w.granting i) (λ g. ((met_are i).1 g.0, g.1)) (λ g. ((met_are i).0 g.0, g.1)) (w.all_granting i);
          all_denying = λ i. Decides-like (member w.denying i) (λ g. ((met_are i).1 g.0, g.1)) (λ g. ((met_are i).0 g.0, g.1)) (w.all_denying i);
          yes = subst (λ z. judge w.granting w.denying z ≡ true) et w.yes;
        }),
  )
