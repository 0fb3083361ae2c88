-- POLICIES: what a conflict policy says of one role, and the laws that every policy keeps.
--     Judge                  a fixed yes or no for the granting rules met, the denying rules met and the seniority among rules
--     NothingGrantingIsNo, GrantingAndNothingDenyingIsYes, YesStaysWhenGrantingGainsOrDenyingLoses                   the three laws
--     permission             yes when some rule grants
--     denial                 yes when some rule grants and none denies
--     local_denial           yes when some granting rule is comparable with no denying rule
use Rattle.std.specs.Prelude.{◌≡◌, ℕ, Bool, true, false, not, ◌&&◌}
use Rattle.sets.specs.declared.set.Set.{Set}
use Rattle.sets.specs.Members.{member, some, empty}
use Rattle.rules.specs.declared.seniority.Seniority.{Seniority}
use Rattle.rules.specs.Ranks.{comparable}

abbrev pub Judge : Type 0
Judge = Set → Set → Seniority → Bool

abbrev pub NothingGrantingIsNo : Judge → Type 0
NothingGrantingIsNo judge = (p n : Set) (t : Seniority) → ((i : ℕ) → member p i ≡ false) → judge p n t ≡ false

abbrev pub GrantingAndNothingDenyingIsYes : Judge → Type 0
GrantingAndNothingDenyingIsYes judge =
    (p n : Set) (t : Seniority) (i : ℕ) → member p i ≡ true → ((j : ℕ) → member n j ≡ false) → judge p n t ≡ true

abbrev pub YesStaysWhenGrantingGainsOrDenyingLoses : Judge → Type 0
YesStaysWhenGrantingGainsOrDenyingLoses judge =
    (p more n fewer : Set) (t : Seniority) →
    ((i : ℕ) → member p i ≡ true → member more i ≡ true) → ((j : ℕ) → member fewer j ≡ true → member n j ≡ true) →
    judge p n t ≡ true → judge more fewer t ≡ true

abbrev pub permission : Judge
permission p n t = not (empty p)

abbrev pub denial : Judge
denial p n t = not (empty p) && empty n

abbrev pub local_denial : Judge
local_denial p n t = some (λ i. member p i && not (some (λ j. member n j && comparable t i j)))
