-- What stands since it was made, reckoned call after call.
use Rattle.std.proofs.Common.{◌≡◌, ◌⊎◌, List, [], ◌∷◌, ◌++◌, sym, refl, ap, ◌∙◌, subst, inl, inr, rules}
use mathlib.Core.List.{nil≢cons, tail-eq_of_cons-eq}
use Rattle.logs.specs.Since.{Since}

-- there is no call in the empty log
pub uncut : {X : Type 0} (after : List X) (d : X) (between : List X) → [] ≡ after ++ (d ∷ between) → ⊥
uncut [] d between q = search rules
uncut (x ∷ after) d between q = search rules

module _ {X : Type 0} (Made Ended : List X → Type 0) where
  pub since_none : (Made [] → ⊥) → Since Made Ended [] → ⊥
  since_none never s = go s.later s.whole
    where
      go : (later : List X) → [] ≡ later ++ s.then → ⊥
      go [] w = never (subst Made (sym w) s.made)
      go (x ∷ later) w = nil≢cons w

module _ {X : Type 0} (Made Ended : List X → Type 0) (e : X) (log : List X) where
  parts : (later then : List X) → e ∷ log ≡ later ++ then → Made then →
      ((after between : List X) (d : X) → later ≡ after ++ (d ∷ between) → Ended (d ∷ (between ++ then)) → ⊥) →
      Made (e ∷ log) ⊎ (Since Made Ended log × (Ended (e ∷ log) → ⊥))
  parts [] then w made unended = inl (subst Made (sym w) made)
  parts (x ∷ later) then w made unended = inr (
    record {
      later = later;
      then = then;
      whole = tail-eq_of_cons-eq w;
      made = made;
      unended = λ after between d q. unended (x ∷ after) between d (ap (λ l. x ∷ l) q);
    },
    λ ended. unended [] later x refl (subst Ended w ended),
  )

  pub made_now : Made (e ∷ log) → Since Made Ended (e ∷ log)
  made_now made = record { later = []; then = e ∷ log; whole = refl; made = made; unended = λ after between d q _. uncut after d between q }

  pub made_before : Since Made Ended log → (Ended (e ∷ log) → ⊥) → Since Made Ended (e ∷ log)
  made_before s n = record {
    later = e ∷ s.later;
    then = s.then;
    whole = ap (λ l. e ∷ l) s.whole;
    made = s.made;
    unended = go;
  }
    where
      go : (after between : List X) (d : X) → e ∷ s.later ≡ after ++ (d ∷ between) → Ended (d ∷ (between ++ s.then)) → ⊥
      go [] between d q ended = n (subst Ended (sym (ap (λ l. l ++ s.then) q) ∙ ap (λ l. e ∷ l) (sym s.whole)) ended)
      go (x ∷ after) between d q ended = s.unended after between d (tail-eq_of_cons-eq q) ended

  -- it was made by the newest call, or it stood before, and the newest call has not ended it
  pub since_step : Since Made Ended (e ∷ log) → Made (e ∷ log) ⊎ (Since Made Ended log × (Ended (e ∷ log) → ⊥))
  since_step s = parts s.later s.then s.whole s.made s.unended
