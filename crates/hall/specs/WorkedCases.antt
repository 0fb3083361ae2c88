-- WORKED CASES: what the definitions say of the small hall and of three small files, case by case.
--     every_policy, any_minute    all three policies; whatever the minute
--     Case                        a line of the table
--       entitled policies when person role       the person is entitled by rules to the role
--       not_entitled policies when person role   the person is not
--       take_refused policies when person role why n    the person is granted panel 0, and then, as the first call after that, is
--                                                refused the role there; why, and with which number
--       senior i j                               rule i is senior to rule j
--       comparable_only_with_itself i            rule i is senior to itself, and to no other, and no other to it
--       accepted bytes policy rules entries      the file is accepted: the policy's code, how many rules and entries
--       refused bytes n place                    the file is refused: the number of the fault, the byte place of the faulty record
--     worked_cases                the table
--     HoldsCase case              what a line says
--     WorkedCases                 every line of the table holds
use Rattle.std.specs.Prelude.{◌≡◌, ℕ, ◌⊎◌, List, [], ◌∷◌, Ok, Err, Result}
use Rattle.std.specs.List.{AllByRecursion}
use Rattle.sets.specs.declared.set.Set.{Set}
use Rattle.kinds.specs.Kinds.{Meaning}
use Rattle.kinds.specs.Readings.{Reading, read_level, read_set, read_pair}
use Rattle.kinds.specs.Shipped.{level, certificates, site, pair}
use Rattle.rules.specs.declared.entry.Entry.{Entry}
use Rattle.rules.specs.declared.rule.Rule.{Rule}
use Rattle.rules.specs.declared.shipped.Shipped.{Shipped}
use Rattle.rules.specs.declared.shipped.Shipped.TheVariants.{Permission, Denial, LocalDenial}
use Rattle.rules.specs.Rules.{Book, Senior}
use Rattle.rules.specs.Verdicts.{judge_of, code}
use Rattle.book.specs.declared.faults.FileFault.{FileFault}
use Rattle.book.specs.declared.opened.Opened.{Opened}
use Rattle.book.specs.Faults.{number_of}
use Rattle.book.specs.Files.{Outcome}
use Rattle.logs.specs.Moments.{ByRules}
use Rattle.logs.specs.declared.call.Call.TheVariants.{Open, Take}
use Rattle.logs.specs.declared.refusal.Refusal.{Refusal}
use Rattle.logs.specs.declared.refusal.Refusal.TheVariants.{NothingGrants, RuleDenies}
use Rattle.logs.specs.declared.reply.Answer.TheVariants.{Done}
use Rattle.logs.specs.Logs.{Plant, Log, moment, after}
use Rattle.logs.specs.Refusals.{number}
use Rattle.logs.specs.Situations.{Answered}
use Rattle.hall.specs.SmallHall.{small_rules, small_entries, small_register}

pub data When : Type 0 where
  any_minute : When
  minute : ℕ → When

pub data Case : Type 0 where
  entitled : List Shipped → When → ℕ → ℕ → Case
  not_entitled : List Shipped → When → ℕ → ℕ → Case
  take_refused : List Shipped → When → ℕ → ℕ → Refusal → ℕ → Case
  senior : ℕ → ℕ → Case
  comparable_only_with_itself : ℕ → Case
  accepted : List ℕ → ℕ → ℕ → ℕ → Case
  refused : List ℕ → ℕ → ℕ → Case

abbrev pub every_policy : List Shipped
every_policy = Permission ∷ Denial ∷ LocalDenial ∷ []

-- THE TABLE

-- the words before the numbers of a line
abbrev pub person : ℕ → ℕ
person n = n

abbrev pub role : ℕ → ℕ
role n = n

abbrev pub rule : ℕ → ℕ
rule n = n

abbrev pub smallest_file : List ℕ
smallest_file = 4 ∷ 0 ∷ 1 ∷ 0 ∷ 2 ∷ 0 ∷ 2 ∷ 0 ∷ 0 ∷ 0 ∷ 4 ∷ 0 ∷ []

abbrev pub without_its_last_four : List ℕ
without_its_last_four = 4 ∷ 0 ∷ 1 ∷ 0 ∷ 2 ∷ 0 ∷ 2 ∷ 0 ∷ []

abbrev pub worked_cases : List Case
worked_cases =
    -- no rule that person 0 meets grants role 2
    take_refused every_policy any_minute (person 0) (role 2) NothingGrants 60
    -- person 1 is entitled to roles 0, 1 and 2 under all three policies
    ∷ entitled every_policy any_minute (person 1) (role 0)
    ∷ entitled every_policy any_minute (person 1) (role 1)
    ∷ entitled every_policy any_minute (person 1) (role 2)
    -- person 2 is entitled to role 2 under permission; under denial and local denial rule 2 refuses it
    ∷ entitled (Permission ∷ []) any_minute (person 2) (role 2)
    ∷ take_refused (Denial ∷ LocalDenial ∷ []) any_minute (person 2) (role 2) (RuleDenies 2) 61
    -- person 3 is entitled to role 1 under permission and local denial; under denial rule 3 refuses it
    ∷ entitled (Permission ∷ LocalDenial ∷ []) any_minute (person 3) (role 1)
    ∷ take_refused (Denial ∷ []) any_minute (person 3) (role 1) (RuleDenies 3) 61
    -- rule 2 is senior to rules 1 and 0; rule 3 is comparable only with itself
    ∷ senior (rule 2) (rule 1)
    ∷ senior (rule 2) (rule 0)
    ∷ comparable_only_with_itself (rule 3)
    -- person 0 is entitled to role 3 at minutes 100 and 159, and not at 99 or 160
    ∷ entitled every_policy (minute 100) (person 0) (role 3)
    ∷ entitled every_policy (minute 159) (person 0) (role 3)
    ∷ not_entitled every_policy (minute 99) (person 0) (role 3)
    ∷ not_entitled every_policy (minute 160) (person 0) (role 3)
    -- person 3 is entitled to role 3 at minute 100 under denial, though rule 3 denies this person role 1
    ∷ entitled (Denial ∷ []) (minute 100) (person 3) (role 3)
    -- a header that names policy 2, and the end: no rule and no entry
    ∷ accepted smallest_file 2 0 0
    -- where the end is missing, no record starts at byte 8; where all is missing, none starts at byte 0
    ∷ refused without_its_last_four 1 8
    ∷ refused [] 1 0
    ∷ []

-- WHAT A LINE SAYS

abbrev pub Record : Type 0
Record = ℕ × (Set × ℕ)

abbrev pub Test : Type 0
Test = ℕ × (Set × Set)

abbrev pub hall_meaning : Meaning Record Test
hall_meaning = pair level (pair certificates site)

abbrev pub hall_reads : List ℕ → Reading Test
hall_reads = read_pair read_level (read_pair read_set read_set)

abbrev pub small_book : Book Record Test
small_book = record { meaning = hall_meaning; rules = small_rules; entries = small_entries }

abbrev pub small_plant : Shipped → ℕ → Plant Record Test
small_plant policy now = record { book = small_book; judge = judge_of policy; register = small_register; start = now }

-- the log of one call: the person opens panel 0
abbrev pub opened : ℕ → Log Record
opened who = record { call = Open 0 who; reply = Ok Done } ∷ []

abbrev pub Then : When → (ℕ → Type 0) → Type 0
Then any_minute What = (now : ℕ) → What now
Then (minute now) What = What now

abbrev pub Under : List Shipped → When → (Plant Record Test → Type 0) → Type 0
Under policies when What = AllByRecursion (λ policy. Then when (λ now. What (small_plant policy now))) policies

-- what is said of a plant
abbrev pub IsEntitled : ℕ → ℕ → Plant Record Test → Type 0
IsEntitled who what p = ByRules (moment p []) who what

abbrev pub IsNotEntitled : ℕ → ℕ → Plant Record Test → Type 0
IsNotEntitled who what p = ByRules (moment p []) who what → ⊥

abbrev pub OpensAndMayNotTake : ℕ → ℕ → Refusal → Plant Record Test → Type 0
OpensAndMayNotTake who what why p =
    Answered (after p []) (Open 0 who) (Ok Done) × Answered (after p (opened who)) (Take 0 what) (Err why)

-- whatever memory is lent, the file is read, and Q holds of whatever answer and memory the reading may give
pub record Reads (bytes : List ℕ) (Q : Result Opened FileFault → Type 0) : Type 0 where
  pub some_outcome :
      (rs : List (Rule Test)) (es : List Entry) →
      (rs' : List (Rule Test)) × (es' : List Entry) × (r : Result Opened FileFault)
      × Outcome hall_reads hall_meaning.lawful_test bytes rs es rs' es' r
  pub every_outcome :
      (rs rs' : List (Rule Test)) (es es' : List Entry) (r : Result Opened FileFault) →
      Outcome hall_reads hall_meaning.lawful_test bytes rs es rs' es' r → Q r

abbrev pub HoldsCase : Case → Type 0
HoldsCase (entitled policies when who what) = Under policies when (IsEntitled who what)
HoldsCase (not_entitled policies when who what) = Under policies when (IsNotEntitled who what)
HoldsCase (take_refused policies when who what why n) =
    (number why ≡ n) × Under policies when (OpensAndMayNotTake who what why)
HoldsCase (senior i j) = Senior small_book i j
HoldsCase (comparable_only_with_itself i) =
    Senior small_book i i × ((j : ℕ) → Senior small_book i j ⊎ Senior small_book j i → j ≡ i)
HoldsCase (accepted bytes policy rules entries) =
    Reads bytes (λ r. (o : Opened) × (r ≡ Ok o) × (code o.policy ≡ policy) × (o.book.rules.count ≡ rules) × (o.book.entries.count ≡ entries))
HoldsCase (refused bytes n place) = Reads bytes (λ r. (f : FileFault) × (r ≡ Err f) × (number_of f.fault ≡ n) × (f.place ≡ place))

abbrev pub WorkedCases : Type 0
WorkedCases = AllByRecursion HoldsCase worked_cases
