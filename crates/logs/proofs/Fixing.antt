-- A situation fixes the reply to a call, and so the calls of a log fix its replies.
use Rattle.std.proofs.Common.{◌≡◌, ℕ, List, [], ◌∷◌, map, Ok, Err, Result, sym, refl, ap, ap₂, ◌∙◌, subst, inl, inr, rules}
use mathlib.Core.List.{nil≢cons, cons≢nil}
use Rattle.rules.proofs.VerdictLaws.{same_holds}
use Rattle.tables.specs.Verdicts.{Lowest}
use Rattle.logs.specs.Logs.{Plant, Log, after, AllAnswered}
use Rattle.logs.specs.Situations.{Situation, Check, only, FirstThatHolds, AtSeat, Overruled, checks, standing, answer, Answered}
use Rattle.logs.specs.declared.call.Call.{Call}
use Rattle.logs.specs.declared.call.Call.TheVariants.{Open, Close, Take, Drop, Lend, Recall, Enter, Tick, Entitled, Roles}
use Rattle.logs.specs.declared.exchange.Exchange.{Exchange}
use Rattle.logs.specs.declared.refusal.Refusal.{Refusal}
use Rattle.logs.specs.declared.reply.Answer.{Answer}
use Rattle.logs.specs.declared.reply.Answer.TheVariants.{Stands, Active}
use Rattle.logs.specs.declared.reply.Standing.{Standing}

-- CHECKS

-- a check fixes the refusal that it refuses with
abbrev Fixes : Check → Type 0
Fixes check = (f g : Refusal) → check.1 f → check.1 g → f ≡ g

abbrev AllFix : List Check → Type 0
AllFix [] = Unit {0}
AllFix (check ∷ checks) = Fixes check × AllFix checks

first_fixes : (checks : List Check) (otherwise : Result Answer Refusal → Type 0) → AllFix checks → ((r q : Result Answer Refusal) → otherwise r → otherwise q → r ≡ q) → (r q : Result Answer Refusal) → FirstThatHolds checks otherwise r → FirstThatHolds checks otherwise q → r ≡ q
first_fixes [] otherwise fix one r q h k = one r q h k
first_fixes (check ∷ checks) otherwise fix one r q (inl h) (inl k) = h.1 ∙ ap Err (fix.0 h.0 k.0 h.2 k.2) ∙ sym k.1
first_fixes (check ∷ checks) otherwise fix one r q (inl h) (inr k) = absurd (k.0 h.0 h.2)
first_fixes (check ∷ checks) otherwise fix one r q (inr h) (inl k) = absurd (h.0 k.0 k.2)
first_fixes (check ∷ checks) otherwise fix one r q (inr h) (inr k) = first_fixes checks otherwise fix.1 one r q h.1 k.1

only_fixes : {f : Refusal} {A : Type 0} → Fixes (only f A)
only_fixes g k a b = a.0 ∙ sym b.0

rule_fixes : {name : ℕ → Refusal} {P : ℕ → Type 0} → ((i j : ℕ) → P i → P j → i ≡ j) → (f g : Refusal) → (i : ℕ) × (f ≡ name i) × P i → (i : ℕ) × (g ≡ name i) × P i → f ≡ g
rule_fixes {name} one f g a b = a.1 ∙ ap name (one a.0 b.0 a.2 b.2) ∙ sym b.1

one_lowest : (In : ℕ → Type 0) (i j : ℕ) → Lowest In i → Lowest In j → i ≡ j
one_lowest In i j a b = search rules

module _ {V : Type 0} (s : Situation V) where
  one_overruled : (panel role i j : ℕ) → AtSeat s panel (Overruled s role i) → AtSeat s panel (Overruled s role j) → i ≡ j
  one_overruled panel role i j a b = search (rules, one_lowest)

  ruleset fixing = (only_fixes, rule_fixes, one_lowest, one_overruled)

  checks_fix : (call : Call V) → AllFix (checks s call)
  checks_fix (Open panel person) = search fixing
  checks_fix (Close panel) = search fixing
  checks_fix (Take panel role) = search fixing parts 20
  checks_fix (Drop panel role) = search fixing
  checks_fix (Lend panel borrower role minutes) = search fixing parts 20
  checks_fix (Recall panel borrower role) = search fixing parts 20
  checks_fix (Enter person value) = search fixing
  checks_fix (Tick minute) = search fixing
  checks_fix (Entitled person role) = search fixing
  checks_fix (Roles panel) = search fixing

  -- ANSWERS

  one_standing : (person role : ℕ) (a b : Standing) → standing s person role a → standing s person role b → a ≡ b
  one_standing person role a b h k = search rules

  one_answer : (call : Call V) (r q : Result Answer Refusal) → answer s call r → answer s call q → r ≡ q
  one_answer (Entitled person role) r q h k = h.1 ∙ ap (λ how. Ok (Stands how)) (one_standing person role h.0 k.0 h.2 k.2) ∙ sym k.1
  one_answer (Roles panel) r q h k = h.1 ∙ ap (λ set. Ok (Active set)) (same_holds (s.Active panel) h.0 k.0 h.2 k.2) ∙ sym k.1
  one_answer call r q h k = search rules

  one_reply : (call : Call V) (r q : Result Answer Refusal) → Answered s call r → Answered s call q → r ≡ q
  one_reply call = first_fixes (checks s call) (answer s call) (checks_fix call) (one_answer call)

-- LOGS

one_exchange : {V : Type 0} (a b : Exchange V) → a.call ≡ b.call → a.reply ≡ b.reply → a ≡ b
one_exchange {V} a b = ap₂ (λ (call : Call V) (reply : Result Answer Refusal). record { call = call; reply = reply })

module _ {V S : Type 0} (p : Plant V S) where
  answered_before : (e : Exchange V) (log : Log V) → AllAnswered p (e ∷ log) → AllAnswered p log
  answered_before e log all later before x whole = all (e ∷ later) before x (ap (λ l. e ∷ l) whole)

  pub calls_fix_replies : (log other : Log V) → AllAnswered p log → AllAnswered p other → map (λ e. e.call) log ≡ map (λ e. e.call) other → log ≡ other
  calls_fix_replies [] [] all also same = refl
  calls_fix_replies [] (b ∷ other) all also same = absurd (nil≢cons same)
  calls_fix_replies (a ∷ log) [] all also same = absurd (cons≢nil same)
  calls_fix_replies (a ∷ log) (b ∷ other) all also same =
      let head : a.call ≡ b.call = cc in
      let before : log ≡ other = calls_fix_replies log other (answered_before a log all) (answered_before b other also) (cc) in
      let then : Answered (after p other) a.call a.reply = subst (λ l. Answered (after p l) a.call a.reply) before (all [] log a refl) in
      let here : Answered (after p other) b.call a.reply = subst (λ call. Answered (after p other) call a.reply) head then in
      let reply : a.reply ≡ b.reply = one_reply (after p other) b.call a.reply b.reply here (also [] other b refl) in
      let one : a ≡ b = one_exchange a b head reply in
      cc
