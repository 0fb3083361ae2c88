-- SHOWN: how sets, rules and assume entries are shown.
--     members_from s n k    the members of s among the k numbers from n on
--     with_commas ns        the numbers, with commas between
--     numbers_text s        `-` for the set with no number, `all` for the set of all 64, else its members with commas
--     rule_text r           a rule with its number
--     entry_text e          an assume entry with its number
use Rattle.std.specs.Prelude.{ℕ, zero, suc, ◌+◌, cond, List, [], ◌∷◌, ◌++◌, flat_map, codes}
use Rattle.std.specs.Fmt.{decimal}
use Rattle.sets.specs.declared.set.Set.{Set}
use Rattle.sets.specs.Members.{member, empty, subset, all}
use Rattle.rules.specs.declared.entry.Entry.{Entry}
use Rattle.rules.specs.declared.rule.Rule.{Rule}
use Rattle.hall.specs.declared.show.Numbered.{Numbered}

unfoldable pub members_from : Set → ℕ → ℕ → List ℕ
members_from s n zero = []
members_from s n (suc k) = cond (member s n) (n ∷ members_from s (n + 1) k) (members_from s (n + 1) k)

abbrev pub with_commas : List ℕ → List ℕ
with_commas [] = []
with_commas (n ∷ ns) = decimal n ++ flat_map (λ m. codes "," ++ decimal m) ns

abbrev pub numbers_text : Set → List ℕ
numbers_text s = cond (empty s) (codes "-") (cond (subset all s) (codes "all") (with_commas (members_from s 0 64)))

abbrev pub rule_text : Numbered (Rule (ℕ × (Set × Set))) → List ℕ
rule_text r =
    codes "rule " ++ (decimal r.number ++ (codes ": level >= " ++ (decimal r.item.test.0
    ++ (codes ", certificates " ++ (numbers_text r.item.test.1.0 ++ (codes ", sites " ++ (numbers_text r.item.test.1.1
    ++ (codes "; grants " ++ (numbers_text r.item.grants ++ (codes "; denies " ++ numbers_text r.item.denies))))))))))

abbrev pub entry_text : Numbered Entry → List ℕ
entry_text e =
    codes "entry " ++ (decimal e.number ++ (codes ": role " ++ (decimal e.item.first ++ (codes " leads to role " ++ (decimal e.item.second
    ++ (codes " from minute " ++ (decimal e.item.start ++ (codes " for " ++ (decimal e.item.duration ++ codes " minutes")))))))))
