-- What a question is answered, and that it changes nothing.
use Rattle.std.proofs.Common.{◌≡◌, ℕ, ◌<◌, false, refl, Ok, Result}
use Rattle.std.proofs.lemmas.Bool.{both_ways}
use Rattle.std.proofs.lemmas.Bool.Decides.{Decides-at}
use Rattle.rules.specs.declared.seniority.Seniority.{Seniority}
use Rattle.sets.specs.declared.set.Set.{Set}
use Rattle.sets.specs.Members.{member}
use Rattle.tables.specs.Panels.{active_at}
use Rattle.logs.specs.declared.call.Call.{Call}
use Rattle.logs.specs.declared.call.Call.TheVariants.{Roles}
use Rattle.logs.specs.declared.refusal.Refusal.{Refusal}
use Rattle.logs.specs.declared.reply.Answer.{Answer}
use Rattle.logs.specs.declared.reply.Answer.TheVariants.{Active}
use Rattle.logs.specs.Logs.{Plant, granted}
use Rattle.logs.specs.Promises.{Held}
use Rattle.logs.specs.Situations.{checks, answer}
use Rattle.logs.specs.Steps.{within, Performed}
use Rattle.grader.specs.Checks.{Passes}
use Rattle.grader.proofs.CheckLaws.{first_passed}

module _ {V S : Type 0} (p : Plant V S) (table : Seniority) (old : Held V) where
  -- by a reply that grants nothing
  pub told : (question : Call V) (r : Result Answer Refusal) → granted r ≡ false → answer (within p table old) question r → Passes (checks (within p table old) question) → Performed p table old question r old
  told question r asked said passed = record {
    answered = first_passed (checks (within p table old) question) (answer (within p table old) question) r passed said;
    refused_leaves_all = λ _. refl;
    granted_changes = λ e. absurd (both_ways (granted r) asked e);
  }

  pub told_roles : (panel : ℕ) (set : Set) → (23 < panel → ⊥) → ((role : ℕ) → member set role ≡ active_at old.panels panel role) → Performed p table old (Roles panel) (Ok (Active set)) old
  told_roles panel set there same = told (Roles panel) (Ok (Active set)) refl
      (set, refl, λ role. Decides-at (member set role) (active_at old.panels panel role) (same role) ((λ e. e), (λ e. e)))
      ((λ f w. there w.1), tt)
