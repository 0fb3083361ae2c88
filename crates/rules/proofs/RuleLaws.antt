-- What the loops over a rulebook gather.
use Rattle.std.proofs.Common.{◌≡◌, ℕ, ◌+◌, ◌<◌, ◌≤◌, Bool, true, false, ◌&&◌, ◌||◌, eqb, ltb, ◌⊎◌, length, Some, Decides, sym, refl, ap, ◌∙◌, subst, inl, inr, ⊎_elim, arith}
use Rattle.std.proofs.lemmas.Option.{slice_get_within}
use Rattle.std.specs.List.{slice_get}
use Rattle.std.proofs.lemmas.Bool.{both_ways, cases_eq}
use Rattle.std.proofs.lemmas.Bool.Decides.{Decides-like, not_from_Decides}
use Rattle.sets.specs.declared.set.Set.{Set}
use Rattle.sets.specs.Members.{member}
use Rattle.sets.proofs.MemberLaws.{member_below, shared_member}
use Rattle.sets.proofs.Gathering.{Holds, holds_like, holds_with}
use Rattle.kinds.specs.Kinds.{Implied, meets}
use Rattle.rules.specs.declared.entry.Entry.{Entry}
use Rattle.rules.specs.declared.rule.Rule.{Rule}
use Rattle.rules.specs.Entries.{Live}
use Rattle.rules.specs.Rules.{Book, Meets, Grants, Denies, Leads}
use Rattle.rules.proofs.Places.{found_one}

module _ {V S : Type 0} (b : Book V S) where
  -- a rule whose test the record does not meet is not met
  pub meets_not : (v : V) (i : ℕ) (rule : Rule S) → slice_get b.rules i ≡ Some rule → meets b.meaning v rule.test ≡ false → Meets b v i → ⊥
  meets_not v i rule found e met =
      both_ways (meets b.meaning v rule.test) e
      (ap (λ (r : Rule S). meets b.meaning v r.test) (found_one b.rules i rule met.rule found met.found) ∙ met.met)

  pub met_within : (v : V) (i : ℕ) → Meets b v i → i < length b.rules
  met_within v i met = slice_get_within b.rules i met.rule met.found

  -- some rule stands at the place, and its test is implied
  abbrev pub ImpliesAt : S → ℕ → Type 0
  ImpliesAt test j = (rule : Rule S) × (slice_get b.rules j ≡ Some rule) × Implied b.meaning test rule.test

  -- an entry among the first n leads from the one role to the other
  abbrev pub LeadsAmong : ℕ → ℕ → ℕ → ℕ → Type 0
  LeadsAmong n from role now = (w : Leads b from role now) × (w.place < n)

  -- what the roles from which a role is reached are, as far as the first n entries tell
  abbrev pub Source : ℕ → ℕ → ℕ → ℕ → Type 0
  Source n role now from = (from < 64) × ((from ≡ role) ⊎ LeadsAmong n from role now)

  leads_not : (n from role now : ℕ) (entry : Entry) → slice_get b.entries n ≡ Some entry → ((entry.second ≡ role) × Live entry now → ⊥) → LeadsAmong (n + 1) from role now → LeadsAmong n from role now
  leads_not n from role now entry found none w = (
    w.0,
    ⊎_elim
        (λ q.
        let one : w.0.entry ≡ entry = found_one b.entries n w.0.entry entry (rw q at w.0.found) found in
        absurd (none (ap (λ (e : Entry). e.second) (sym one) ∙ w.0.to_second, subst (λ e. Live e now) one w.0.live)))
        (λ ne. let lt = w.1 in omega arith)
        (cases_eq w.0.place n),
  )

  further : (n role now k : ℕ) → Source n role now k → Source (n + 1) role now k
  further n role now k w = (w.0, ⊎_elim inl (λ l. inr (l.0, let lt = l.1 in omega arith)) w.1)

  pub source_same : (n role now : ℕ) (entry : Entry) (s u : Set) → slice_get b.entries n ≡ Some entry → u ≡ s → ((entry.second ≡ role) × Live entry now → ⊥) → Holds (Source n role now) s → Holds (Source (n + 1) role now) u
  source_same n role now entry s u found e none = holds_like (Source n role now) (Source (n + 1) role now) s u e
      (further n role now)
      (λ k w. (w.0, ⊎_elim inl (λ l. inr (leads_not n k role now entry found none l)) w.1))

  pub source_with : (n role now : ℕ) (entry : Entry) (s t u : Set) → slice_get b.entries n ≡ Some entry → u ≡ t → (entry.second ≡ role) × Live entry now → ((k : ℕ) → member t k ≡ (member s k || (eqb k entry.first && ltb k 64))) → Holds (Source n role now) s → Holds (Source (n + 1) role now) u
  source_with n role now entry s t u found e leads with-is = holds_with (Source n role now) (Source (n + 1) role now) s t u entry.first e with-is
      (further n role now)
      (λ lt. (lt, inr (record { place = n; entry = entry; found = found; from_first = refl; to_second = leads.0; live = leads.1 }, omega arith)))
      (λ k w ne. (
        w.0,
        ⊎_elim inl (λ l. inr (
          l.0,
          ⊎_elim
              (λ q. absurd (ne (sym l.0.from_first ∙ ap (λ (e : Entry). e.first) (found_one b.entries n l.0.entry entry (rw q at l.0.found) found))))
              (λ away. let lt = l.1 in omega arith)
              (cases_eq l.0.place n),
        )) w.1,
      ))
      (λ k w. w.0)

  pub source_all : (n role now : ℕ) (s : Set) → length b.entries ≤ n → Holds (Source n role now) s → Holds (λ from. (from < 64) × ((from ≡ role) ⊎ Leads b from role now)) s
  source_all n role now s past held from = Decides-like (member s from)
      (λ w. (w.0, ⊎_elim inl (λ l. inr l.0) w.1))
      (λ w. (w.0, ⊎_elim inl (λ l. inr (l, let lt = slice_get_within b.entries l.place l.entry l.found in omega arith)) w.1))
      (held from)

  -- of the rules in a set, those that grant the role and those that deny it
  abbrev pub GrantsAmong : Set → ℕ → ℕ → ℕ → Type 0
  GrantsAmong met role now i = (member met i ≡ true) × Grants b role now i

  abbrev pub DeniesAmong : Set → ℕ → ℕ → Type 0
  DeniesAmong met role i = (member met i ≡ true) × Denies b role i

  abbrev Sources : ℕ → ℕ → Set → Type 0
  Sources role now s = Holds (λ from. (from < 64) × ((from ≡ role) ⊎ Leads b from role now)) s

  pub grants_from : (role now i : ℕ) (rule : Rule S) (sources : Set) (apart : Bool) → slice_get b.rules i ≡ Some rule → Sources role now sources → apart ≡ false → Decides apart ((k : ℕ) → member rule.grants k ≡ true → member sources k ≡ false) → Grants b role now i
  grants_from role now i rule sources apart found are no_gap told =
      let w = shared_member rule.grants sources (not_from_Decides apart told no_gap) in
      record { rule = rule; found = found; from = w.0; granted = w.1; arrives = ((are w.0).0 w.2).1 }

  pub grants_not : (role now i : ℕ) (rule : Rule S) (sources : Set) (apart : Bool) → slice_get b.rules i ≡ Some rule → Sources role now sources → apart ≡ true → Decides apart ((k : ℕ) → member rule.grants k ≡ true → member sources k ≡ false) → Grants b role now i → ⊥
  grants_not role now i rule sources apart found are gap told g =
      let held : member rule.grants g.from ≡ true = ap (λ (r : Rule S). member r.grants g.from) (found_one b.rules i rule g.rule found g.found) ∙ g.granted in
      both_ways (member sources g.from) (told.0 gap g.from held) ((are g.from).1 (member_below rule.grants g.from held, g.arrives))

  pub denies_not : (role i : ℕ) (rule : Rule S) → slice_get b.rules i ≡ Some rule → member rule.denies role ≡ false → Denies b role i → ⊥
  denies_not role i rule found none d =
      both_ways (member rule.denies role) none (ap (λ (r : Rule S). member r.denies role) (found_one b.rules i rule d.rule found d.found) ∙ d.denied)
