-- SINCE: what was made at some point of a log and has not ended after it.
--     Since Made Ended log    something was made at some point of the log, newest first, and nothing after that ended it
use Rattle.std.specs.Prelude.{◌≡◌, List, ◌∷◌, ◌++◌}

pub record Since {X : Type 0} (Made Ended : List X → Type 0) (log : List X) : Type 0 where
  pub later : List X
  pub then : List X
  pub whole : log ≡ later ++ then
  pub made : Made then
  pub unended : (after between : List X) (e : X) → later ≡ after ++ (e ∷ between) → Ended (e ∷ (between ++ then)) → ⊥
