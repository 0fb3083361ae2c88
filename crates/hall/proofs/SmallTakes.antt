-- What a take is answered in the small hall where the one call before it was a granted open.
use Rattle.std.proofs.Common.{◌≡◌, ℕ, ◌<◌, true, false, ◌⊎◌, List, [], ◌∷◌, ◌++◌, Ok, Err, Result, refl, subst, inl, inr, rules}
use Rattle.std.proofs.lemmas.Bool.Decides.{not_from_Decides}
use Rattle.rules.specs.declared.shipped.Shipped.{Shipped}
use Rattle.logs.specs.declared.call.Call.TheVariants.{Open, Take}
use Rattle.logs.specs.declared.refusal.Refusal.{Refusal}
use Rattle.logs.specs.declared.refusal.Refusal.TheVariants.{AlreadyActive, NothingGrants, RuleDenies}
use Rattle.logs.specs.declared.reply.Answer.{Answer}
use Rattle.logs.specs.declared.reply.Answer.TheVariants.{Done}
use Rattle.logs.specs.Logs.{after, ActiveAfter}
use Rattle.logs.specs.Since.{Since}
use Rattle.logs.specs.Situations.{Situation, Answered, FirstThatHolds, only, no_panel, no_role, closed_panel, OnLoan, AtSeat, Ungranted, Overruled}
use Rattle.hall.specs.WorkedCases.{Record, small_plant, opened}
use Rattle.hall.proofs.SmallRuling.{by_rules, by_rules_is, granted, granted_is, lowest, lowest_from}

parts_of_one : {X : Type 0} (x : X) (later then : List X) → x ∷ [] ≡ later ++ then → (then ≡ x ∷ []) ⊎ (then ≡ [])
parts_of_one x [] then e = search rules
parts_of_one x (y ∷ []) then e = search rules
parts_of_one x (y ∷ (z ∷ later)) then e = search rules

-- nothing was made in a log of one call where that call did not make it
unmade : {X : Type 0} (Made Ended : List X → Type 0) (x : X) → (Made (x ∷ []) → ⊥) → (Made [] → ⊥) → Since Made Ended (x ∷ []) → ⊥
unmade Made Ended x one none s = let parts = parts_of_one x s.later s.then s.whole in search rules

-- a check that does not refuse is passed
passed : {Refuses Here Rest : Type 0} → Here → Rest → Refuses ⊎ (Here × Rest)
passed here rest = inr (here, rest)

module _ (policy : Shipped) (now person role : ℕ) where
  abbrev just_opened : Situation Record
  just_opened = after (small_plant policy now) (opened person)

  pub open_granted : person < 4 → Answered (after (small_plant policy now) []) (Open 0 person) (Ok Done)
  open_granted few =
      passed (λ f h. search rules) (passed (λ f h. search rules) (passed (λ f h. search rules) refl))

  not_active : ActiveAfter (small_plant policy now) (opened person) 0 role → ⊥
  not_active = unmade _ _ _ (λ m. search rules) (λ m. m)

  not_lent : OnLoan just_opened person role → ⊥
  not_lent l = unmade _ _ _ (λ m. search rules) (λ m. m) l.stands

  -- the checks before those of grounds do not refuse
  to_grounds : {Rest : Type 0} (r : Result Answer Refusal) → role < 64 → Rest → FirstThatHolds (no_panel 0 ∷ closed_panel just_opened 0 ∷ no_role role ∷ only AlreadyActive (just_opened.Active 0 role) ∷ []) (λ _. Rest) r
  to_grounds r small rest =
      passed (λ f h. search rules) (passed (λ f h. search rules) (passed (λ f h. search rules) (passed (λ f h. not_active h.1) rest)))

  pub take_of_nothing : role < 64 → granted policy now person role ≡ false → Answered just_opened (Take 0 role) (Err NothingGrants)
  take_of_nothing small none =
      let ungranted : Ungranted just_opened role person = record {
        nothing_grants = λ i g. not_from_Decides (granted policy now person role) (granted_is policy now person role) none (i, g);
        not_on_loan = not_lent;
      } in
      to_grounds (Err NothingGrants) small (inl (NothingGrants, refl, (refl, record { person = person; seated = refl; holds = ungranted })))

  granting_there : granted policy now person role ≡ true → AtSeat just_opened 0 (Ungranted just_opened role) → ⊥
  granting_there some at =
      let e = at.seated in
      let same : at.person ≡ person = cc in
      let w = (granted_is policy now person role).0 some in
      (subst (Ungranted just_opened role) same at.holds).nothing_grants w.0 w.1

  pub take_denied : (i : ℕ) → role < 64 → granted policy now person role ≡ true → by_rules policy now person role ≡ false → lowest policy now person role i ≡ true → Answered just_opened (Take 0 role) (Err (RuleDenies i))
  take_denied i small some refused low =
      let overruled : Overruled just_opened role i person = record {
        lowest = lowest_from policy now person role i low;
        granting = (granted_is policy now person role).0 some;
        not_by_rules = not_from_Decides (by_rules policy now person role) (by_rules_is policy now person role) refused;
        not_on_loan = not_lent;
      } in
      to_grounds (Err (RuleDenies i)) small
      (passed (λ f h. granting_there some h.1) (inl (RuleDenies i, refl, (i, refl, record { person = person; seated = refl; holds = overruled }))))
