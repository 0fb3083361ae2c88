-- Situations in which the same holds: every call is answered alike in them.
use Rattle.std.proofs.Common.{◌≡◌, ℕ, ◌↔◌, List, [], ◌∷◌, Result, inl, inr, rules}
use Rattle.std.proofs.lemmas.Bool.Decides.{Decides-like}
use Rattle.sets.specs.Members.{member}
use Rattle.tables.specs.declared.loan.Loan.{Loan}
use Rattle.tables.specs.Verdicts.{Lowest}
use Rattle.logs.specs.Situations.{Situation, Check, only, FirstThatHolds, OnLoan, AtSeat, Overruled, Ungranted, checks, standing, answer, Answered}
use Rattle.logs.specs.declared.call.Call.{Call}
use Rattle.logs.specs.declared.call.Call.TheVariants.{Open, Close, Take, Drop, Lend, Recall, Enter, Tick, Entitled, Roles}
use Rattle.logs.specs.declared.refusal.Refusal.{Refusal}
use Rattle.logs.specs.declared.reply.Answer.{Answer}
use Rattle.logs.specs.declared.reply.Standing.{Standing}

pub record Alike {V : Type 0} (s t : Situation V) : Type 0 where
  pub same_clock : s.clock ≡ t.clock
  pub same_persons : s.persons ≡ t.persons
  pub same_seat : (at : ℕ) → s.seat at ≡ t.seat at
  pub same_lawful : (v : V) → s.Lawful v ↔ t.Lawful v
  pub same_active : (at role : ℕ) → s.Active at role ↔ t.Active at role
  pub same_by_rules : (person role : ℕ) → s.ByRules person role ↔ t.ByRules person role
  pub same_granted : (person role i : ℕ) → s.GrantedBy person role i ↔ t.GrantedBy person role i
  pub same_denied : (person role i : ℕ) → s.DeniedBy person role i ↔ t.DeniedBy person role i
  pub same_stands : (loan : Loan) → s.Stands loan ↔ t.Stands loan
  pub same_full : s.Full ↔ t.Full

-- CHECKS

-- two checks refuse with the same refusals
abbrev Same : Check → Check → Type 0
Same a b = (f : Refusal) → a.1 f ↔ b.1 f

infixr 5 ◌also◌
data AllSame : List Check → List Check → Type 1 where
  end : AllSame [] []
  ◌also◌ : {a b : Check} {these others : List Check} → Same a b → AllSame these others → AllSame (a ∷ these) (b ∷ others)

first_over : {these others : List Check} (P Q : Result Answer Refusal → Type 0) (r : Result Answer Refusal) → AllSame these others → (P r → Q r) → FirstThatHolds these P r → FirstThatHolds others Q r
first_over P Q r end over h = over h
first_over P Q r (same also rest) over (inl h) = inl (h.0, h.1, (same h.0).0 h.2)
first_over P Q r (same also rest) over (inr h) = inr ((λ f holds. h.0 f ((same f).1 holds)), first_over P Q r rest over h.1)

same_only : {f : Refusal} {A B : Type 0} → A ↔ B → Same (only f A) (only f B)
same_only e f = search rules

-- one that names the rule
same_rule : {name : ℕ → Refusal} {P Q : ℕ → Type 0} → ((i : ℕ) → P i ↔ Q i) → (f : Refusal) → ((i : ℕ) × (f ≡ name i) × P i) ↔ ((i : ℕ) × (f ≡ name i) × Q i)
same_rule e f = search rules

-- WORDS

pub lowest_over : (In Also : ℕ → Type 0) → ((i : ℕ) → In i ↔ Also i) → (i : ℕ) → Lowest In i → Lowest Also i
lowest_over In Also e i h = search rules

module _ {V : Type 0} (s t : Situation V) (a : Alike s t) where
  loan_same : (person role : ℕ) → OnLoan s person role ↔ OnLoan t person role
  loan_same person role = search (rules, a.same_stands)

  seat_same : (panel : ℕ) (P Q : ℕ → Type 0) → ((who : ℕ) → P who ↔ Q who) → AtSeat s panel P ↔ AtSeat t panel Q
  seat_same panel P Q e = search (rules, a.same_seat)

  ungranted_same : (role who : ℕ) → Ungranted s role who ↔ Ungranted t role who
  ungranted_same role who = search (rules, a.same_granted, loan_same)

  lowest_same : (person role i : ℕ) → Lowest (s.DeniedBy person role) i ↔ Lowest (t.DeniedBy person role) i
  lowest_same person role i = search (rules, a.same_denied)

  overruled_same : (role i who : ℕ) → Overruled s role i who ↔ Overruled t role i who
  overruled_same role i who = search (rules, a.same_granted, a.same_by_rules, lowest_same, loan_same)

  -- CHECKS AND ANSWERS

  ruleset alike = (rules, end, ◌also◌, same_only, same_rule, loan_same, seat_same, ungranted_same, lowest_same, overruled_same)

  same_checks : (call : Call V) → AllSame (checks s call) (checks t call)
  same_checks (Open panel person) = search (alike, a.same_seat)
  same_checks (Close panel) = search (alike, a.same_seat)
  same_checks (Take panel role) = search (alike, a.same_seat, a.same_active) parts 20
  same_checks (Drop panel role) = search (alike, a.same_seat, a.same_active)
  same_checks (Lend panel borrower role minutes) = search (alike, a.same_seat, a.same_active, a.same_by_rules) parts 20
  same_checks (Recall panel borrower role) = search (alike, a.same_seat, a.same_by_rules) parts 20
  same_checks (Enter person value) = search (alike, a.same_lawful)
  same_checks (Tick minute) = search alike
  same_checks (Entitled person role) = search alike
  same_checks (Roles panel) = search alike

  standing_over : (person role : ℕ) (how : Standing) → standing s person role how → standing t person role how
  standing_over person role how h = search (rules, a.same_by_rules, loan_same)

  answer_over : (call : Call V) (r : Result Answer Refusal) → answer s call r → answer t call r
  answer_over (Entitled person role) r h = (h.0, h.1, standing_over person role h.0 h.2)
  answer_over (Roles panel) r h =
      (h.0, h.1, λ role. Decides-like (member h.0 role) (a.same_active panel role).0 (a.same_active panel role).1 (h.2 role))
  answer_over call r h = search rules

  pub answered_alike : (call : Call V) (r : Result Answer Refusal) → Answered s call r → Answered t call r
  answered_alike call r = first_over (answer s call) (answer t call) r (same_checks call) (answer_over call r)
