-- Why the shipped policies keep the three laws, and what local denial says in plain words.
-- Lemmas, not words: an impl gives the proofs of its laws itself, and can name its crate's specs/ but not its proofs/.
-- They speak of
--     Apart n t i     rule i is comparable with no rule of n, by the table t
--     Locally p n t   some rule of p is apart from the rules of n
use Rattle.std.specs.Prelude.{◌≡◌, ℕ, Bool, true, false, not, ◌&&◌, Decides}
use Rattle.std.proofs.Common.{⊎_elim}
use Rattle.std.proofs.lemmas.Bool.{and_from, and_left, and_right, and_parts, or_from, or_parts, cases_Bool, both_ways, not-true, not_from_true, not_from_false}
use Rattle.sets.specs.declared.set.Set.{Set}
use Rattle.sets.specs.Members.{member, some, empty}
use Rattle.sets.proofs.MemberLaws.{member_below, some_decides, none_some, none_passes, empty_decides, some_member, member-not-empty}
use Rattle.rules.specs.declared.seniority.Seniority.{Seniority}
use Rattle.rules.specs.Ranks.{is_senior, comparable}
use Rattle.rules.specs.Policies.{NothingGrantingIsNo, GrantingAndNothingDenyingIsYes, YesStaysWhenGrantingGainsOrDenyingLoses, permission, denial, local_denial}

more_not_empty : (p more : Set) → ((i : ℕ) → member p i ≡ true → member more i ≡ true) → not (empty p) ≡ true → not (empty more) ≡ true
more_not_empty p more gains e =
    let w = some_member p (not-true (empty p) e) in
    not_from_false (empty more) (member-not-empty more w.0 (gains w.0 w.1))

-- permission
pub permission_no : NothingGrantingIsNo permission
permission_no p n t none = not_from_true (empty p) ((empty_decides p).1 none)

pub permission_yes : GrantingAndNothingDenyingIsYes permission
permission_yes p n t i held none = not_from_false (empty p) (member-not-empty p i held)

pub permission_stays : YesStaysWhenGrantingGainsOrDenyingLoses permission
permission_stays p more n fewer t gains loses e = more_not_empty p more gains e

-- denial
pub denial_no : NothingGrantingIsNo denial
denial_no p n t none = and_left (not (empty p)) (empty n) (permission_no p n t none)

pub denial_yes : GrantingAndNothingDenyingIsYes denial
denial_yes p n t i held none = and_from (not (empty p)) (empty n) (permission_yes p n t i held none) ((empty_decides n).1 none)

pub denial_stays : YesStaysWhenGrantingGainsOrDenyingLoses denial
denial_stays p more n fewer t gains loses e =
    let b = and_parts (not (empty p)) (empty n) e in
    and_from (not (empty more)) (empty fewer) (more_not_empty p more gains b.0)
    ((empty_decides fewer).1 (λ j. ⊎_elim (λ held. absurd (both_ways (member n j) ((empty_decides n).0 b.1 j) (loses j held))) (λ none. none) (cases_Bool (member fewer j))))

-- local denial, in plain words
abbrev pub Apart : Set → Seniority → ℕ → Type 0
Apart n t i = (j : ℕ) → member n j ≡ true → (is_senior t i j ≡ false) × (is_senior t j i ≡ false)

abbrev clash : Set → Seniority → ℕ → ℕ → Bool
clash n t i j = member n j && comparable t i j

apart_decides : (n : Set) (t : Seniority) (i : ℕ) → Decides (not (some (clash n t i))) (Apart n t i)
apart_decides n t i = (
  (λ e j held.
      let none = none_passes (clash n t i) (not-true (some (clash n t i)) e) j (member_below n j held) in
      or_parts (is_senior t i j) (is_senior t j i)
      (⊎_elim (λ y. absurd (both_ways (clash n t i j) none (and_from (member n j) (comparable t i j) held y))) (λ z. z) (cases_Bool (comparable t i j)))),
  (λ apart. not_from_false (some (clash n t i)) (none_some (clash n t i) (λ j _.
      ⊎_elim
      (λ held. let q = apart j held in and_right (member n j) (comparable t i j) (or_from (is_senior t i j) (is_senior t j i) q.0 q.1))
      (λ none. and_left (member n j) (comparable t i j) none)
      (cases_Bool (member n j))))),
)

abbrev pub Locally : Set → Set → Seniority → Type 0
Locally p n t = (i : ℕ) × (member p i ≡ true) × Apart n t i

abbrev free : Set → Set → Seniority → ℕ → Bool
free p n t i = member p i && not (some (clash n t i))

pub local_decides : (p n : Set) (t : Seniority) → Decides (local_denial p n t) (Locally p n t)
local_decides p n t = (
  (λ e.
      let w = (some_decides (free p n t)).0 e in
      let b = and_parts (member p w.0) (not (some (clash n t w.0))) w.2 in
      (w.0, b.0, (apart_decides n t w.0).0 b.1)),
  (λ w. (some_decides (free p n t)).1 (w.0, member_below p w.0 w.1, and_from (member p w.0) (not (some (clash n t w.0))) w.1 ((apart_decides n t w.0).1 w.2))),
)

pub local_no : NothingGrantingIsNo local_denial
local_no p n t none =
    ⊎_elim (λ y. let w = (local_decides p n t).0 y in absurd (both_ways (member p w.0) (none w.0) w.1)) (λ z. z) (cases_Bool (local_denial p n t))

pub local_yes : GrantingAndNothingDenyingIsYes local_denial
local_yes p n t i held none = (local_decides p n t).1 (i, held, λ j deny. absurd (both_ways (member n j) (none j) deny))

pub local_stays : YesStaysWhenGrantingGainsOrDenyingLoses local_denial
local_stays p more n fewer t gains loses e =
    let w = (local_decides p n t).0 e in
    (local_decides more fewer t).1 (w.0, gains w.0 w.1, λ j deny. w.2 j (loses j deny))
