-- RULES: which rules a record meets, which are senior, and who is entitled by rules.
--     Book                      a rulebook as it is read: the meaning of its tests, its rules and its assume entries
--     Meets v i                 the record v meets rule i
--     Senior i j                rule i is senior to rule j: its test implies the other's
--     Leads from role minute       a live entry leads from the one role to the other
--     Grants role minute i         rule i grants the role, or the first role of a live entry that leads to it
--     Denies role i             rule i denies the role
--     Granting v role minute i     rule i is among the granting rules met
--     Denying v role i          rule i is among the denying rules met
--     AllowedBy judge table v role minute     the policy says yes to these sets of rules, by the table of seniority
--     Allowed judge v role minute    so it is by the rulebook's own seniority: the record is entitled by rules
--     seen m view               the rulebook that a view reads, its tests by the meaning m
--     Permitted v role minute, PermittedAndNotDenied v role minute, PermittedAndNotDeniedLocally v role minute
--                               what Allowed comes to under the three shipped policies
use Rattle.std.specs.Prelude.{◌≡◌, ℕ, true, ◌⊎◌, List, Some, Decides}
use Rattle.std.specs.List.{slice_get}
use Rattle.sets.specs.declared.set.Set.{Set}
use Rattle.sets.specs.Members.{member}
use Rattle.kinds.specs.Kinds.{Meaning, Implied, meets}
use Rattle.kinds.specs.declared.kind.Kind.{Ghosts}
use Rattle.rules.specs.declared.entry.Entry.{Entry}
use Rattle.rules.specs.declared.rule.Rule.{Rule}
use Rattle.rules.specs.declared.seniority.Seniority.{Seniority}
use Rattle.rules.specs.declared.view.View.{View}
use Rattle.rules.specs.Entries.{Live}
use Rattle.rules.specs.Policies.{Judge}
use Rattle.rules.specs.Ranks.{is_senior}

pub record Book (V S : Type 0) : Type 0 where
  pub meaning : Meaning V S
  pub rules : List (Rule S)
  pub entries : List Entry

-- the rulebook that a view reads
abbrev pub seen : {K V S : Type 0} {g : Ghosts K V S} → Meaning V S → View K V S g → Book V S
seen m view = record { meaning = m; rules = view.rules.now; entries = view.entries.now }

module _ {V S : Type 0} (b : Book V S) where
  pub record Meets (v : V) (i : ℕ) : Type 0 where
    pub rule : Rule S
    pub found : slice_get b.rules i ≡ Some rule
    pub met : meets b.meaning v rule.test ≡ true

  pub record Senior (i j : ℕ) : Type 0 where
    pub upper : Rule S
    pub lower : Rule S
    pub upper_found : slice_get b.rules i ≡ Some upper
    pub lower_found : slice_get b.rules j ≡ Some lower
    pub implied : Implied b.meaning upper.test lower.test

  pub record Leads (from role minute : ℕ) : Type 0 where
    pub place : ℕ
    pub entry : Entry
    pub found : slice_get b.entries place ≡ Some entry
    pub from_first : entry.first ≡ from
    pub to_second : entry.second ≡ role
    pub live : Live entry minute

  pub record Grants (role minute i : ℕ) : Type 0 where
    pub rule : Rule S
    pub found : slice_get b.rules i ≡ Some rule
    pub from : ℕ
    pub granted : member rule.grants from ≡ true
    pub arrives : (from ≡ role) ⊎ Leads from role minute

  pub record Denies (role i : ℕ) : Type 0 where
    pub rule : Rule S
    pub found : slice_get b.rules i ≡ Some rule
    pub denied : member rule.denies role ≡ true

  abbrev pub Granting : V → ℕ → ℕ → ℕ → Type 0
  Granting v role minute i = Meets v i × Grants role minute i

  abbrev pub Denying : V → ℕ → ℕ → Type 0
  Denying v role i = Meets v i × Denies role i

  -- the policy says yes to the granting and the denying rules met, by a table of seniority
  pub record AllowedBy (judge : Judge) (table : Seniority) (v : V) (role minute : ℕ) : Type 0 where
    pub granting : Set
    pub denying : Set
    pub all_granting : (i : ℕ) → Decides (member granting i) (Granting v role minute i)
    pub all_denying : (i : ℕ) → Decides (member denying i) (Denying v role i)
    pub yes : judge granting denying table ≡ true

  pub record Allowed (judge : Judge) (v : V) (role minute : ℕ) : Type 0 where
    pub table : Seniority
    pub all_senior : (i j : ℕ) → Decides (is_senior table i j) (Senior i j)
    pub by_table : AllowedBy judge table v role minute

  abbrev pub Permitted : V → ℕ → ℕ → Type 0
  Permitted v role minute = (i : ℕ) × Granting v role minute i

  abbrev pub PermittedAndNotDenied : V → ℕ → ℕ → Type 0
  PermittedAndNotDenied v role minute = Permitted v role minute × ((j : ℕ) → Denying v role j → ⊥)

  abbrev pub PermittedAndNotDeniedLocally : V → ℕ → ℕ → Type 0
  PermittedAndNotDeniedLocally v role minute =
      (i : ℕ) × Granting v role minute i × ((j : ℕ) → Denying v role j → (Senior i j → ⊥) × (Senior j i → ⊥))
