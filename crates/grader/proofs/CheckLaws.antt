-- From what the checking functions find to the reply: checks in a row, and a call that is refused.
use Rattle.std.proofs.Common.{◌≡◌, ℕ, ◌<◌, true, false, List, [], ◌∷◌, length, refl, inl, inr, ⊎_elim, arith, Ok, Err, Result}
use Rattle.std.proofs.lemmas.Bool.{both_ways, cases_lt}
use Rattle.rules.specs.declared.seniority.Seniority.{Seniority}
use Rattle.logs.specs.declared.call.Call.{Call}
use Rattle.logs.specs.declared.refusal.Refusal.{Refusal}
use Rattle.logs.specs.declared.reply.Answer.{Answer}
use Rattle.logs.specs.declared.reply.Answer.TheVariants.{Done}
use Rattle.logs.specs.Logs.{Plant}
use Rattle.logs.specs.Promises.{Held}
use Rattle.logs.specs.Situations.{Check, FirstThatHolds, checks, answer}
use Rattle.logs.specs.Steps.{within, Performed, Became}
use Rattle.grader.specs.Checks.{Passes, Refuses}

pub first_refused : (cs : List Check) (otherwise : Result Answer Refusal → Type 0) (f : Refusal) → Refuses cs f → FirstThatHolds cs otherwise (Err f)
first_refused [] otherwise f none = absurd none
first_refused (c ∷ cs) otherwise f refused =
    ⊎_elim (λ holds. inl (f, refl, holds)) (λ later. inr (later.0, first_refused cs otherwise f later.1)) refused

pub first_passed : (cs : List Check) (otherwise : Result Answer Refusal → Type 0) (r : Result Answer Refusal) → Passes cs → otherwise r → FirstThatHolds cs otherwise r
first_passed [] otherwise r passed said = said
first_passed (c ∷ cs) otherwise r passed said = inr (passed.0, first_passed cs otherwise r passed.1 said)

module _ {V S : Type 0} (p : Plant V S) (table : Seniority) (old : Held V) (call : Call V) where
  pub refused : (f : Refusal) → Refuses (checks (within p table old) call) f → Performed p table old call (Err f) old
  refused f found = record {
    answered = first_refused (checks (within p table old) call) (answer (within p table old) call) f found;
    refused_leaves_all = λ _. refl;
    granted_changes = λ e. absurd (both_ways false refl e);
  }

  pub done : (new : Held V) → answer (within p table old) call (Ok Done) → Passes (checks (within p table old) call) → Became p table old call new → Performed p table old call (Ok Done) new
  done new said passed became = record {
    answered = first_passed (checks (within p table old) call) (answer (within p table old) call) (Ok Done) passed said;
    refused_leaves_all = λ e. absurd (both_ways true e refl);
    granted_changes = λ _. became;
  }

-- a panel that passes its check is there
pub panel_there : {X : Type 0} (seats : List X) (panel : ℕ) → length seats ≡ 24 → (23 < panel → ⊥) → panel < length seats
panel_there seats panel long passes = ⊎_elim (λ above. absurd (passes above)) (λ le. omega (arith, long)) (cases_lt 23 panel)

-- and so is a role
pub role_small : (role : ℕ) → (63 < role → ⊥) → role < 64
role_small role passes = ⊎_elim (λ above. absurd (passes above)) (λ le. omega arith) (cases_lt 63 role)
