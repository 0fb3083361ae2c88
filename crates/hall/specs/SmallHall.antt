-- THE SMALL HALL: four rules, one assume entry and four persons.
--     hall_rule level certificates sites grants denies    a rule of a hall, its sets as lists of their members
--     hall_record level certificates site                 a record of a hall
--     small_rules, small_entries, small_register          the small hall's
--     blank_rule, blank_entry                             what stands in memory before a book is read into it
use Rattle.std.specs.Prelude.{ℕ, List, [], ◌∷◌}
use Rattle.sets.specs.declared.set.Set.{Set}
use Rattle.sets.specs.Members.{these, all}
use Rattle.rules.specs.declared.rule.Rule.{Rule}
use Rattle.rules.specs.declared.entry.Entry.{Entry}

abbrev pub hall_rule : ℕ → List ℕ → Set → List ℕ → List ℕ → Rule (ℕ × (Set × Set))
hall_rule level certificates sites grants denies =
    record { test = (level, (these certificates, sites)); grants = these grants; denies = these denies }

abbrev pub hall_record : ℕ → List ℕ → ℕ → ℕ × (Set × ℕ)
hall_record level certificates site = (level, (these certificates, site))

abbrev pub small_rules : List (Rule (ℕ × (Set × Set)))
small_rules =
    hall_rule 1 [] all (0 ∷ (1 ∷ [])) []
    ∷ (hall_rule 3 (2 ∷ []) all (2 ∷ []) []
    ∷ (hall_rule 3 (2 ∷ []) (these (5 ∷ [])) [] (2 ∷ [])
    ∷ (hall_rule 0 (9 ∷ []) all [] (1 ∷ [])
    ∷ [])))

abbrev pub small_entries : List Entry
small_entries = record { first = 1; second = 3; start = 100; duration = 60 } ∷ []

abbrev pub small_register : List (ℕ × (Set × ℕ))
small_register = hall_record 1 [] 4 ∷ (hall_record 4 (2 ∷ []) 4 ∷ (hall_record 4 (2 ∷ []) 5 ∷ (hall_record 1 (9 ∷ []) 4 ∷ [])))

abbrev pub blank_rule : Rule (ℕ × (Set × Set))
blank_rule = record { test = (0, (these [], these [])); grants = these []; denies = these [] }

abbrev pub blank_entry : Entry
blank_entry = record { first = 0; second = 0; start = 0; duration = 0 }
