-- How the small files of the worked cases are read, with whatever memory.
use Rattle.std.proofs.Common.{ℕ, List, [], Ok, Err, Result, refl, subst}
use Rattle.rules.specs.declared.entry.Entry.{Entry}
use Rattle.rules.specs.declared.rule.Rule.{Rule}
use Rattle.book.specs.declared.faults.FileFault.{FileFault}
use Rattle.book.specs.declared.opened.Opened.{Opened}
use Rattle.book.specs.Files.{Outcome}
use Rattle.book.proofs.Exactly.{exact}
use Rattle.book.proofs.SmallestFiles.{nothing_in_it, no_record_at, smallest_outcome, header_outcome, empty_outcome}
use Rattle.hall.specs.WorkedCases.{Test, hall_meaning, hall_reads, Reads, HoldsCase, accepted, refused, smallest_file, without_its_last_four}

-- bytes and memory fix the answer
reads : (bytes : List ℕ) (answer : Result Opened FileFault) (Q : Result Opened FileFault → Type 0) → ((rs : List (Rule Test)) (es : List Entry) → Outcome hall_reads hall_meaning.lawful_test bytes rs es rs es answer) → Q answer → Reads bytes Q
reads bytes answer Q outcome holds = record {
  some_outcome = λ rs es. (rs, es, answer, outcome rs es);
  every_outcome = λ rs rs' es es' r other.
      subst Q (exact hall_reads hall_meaning.lawful_test bytes rs rs rs' es es es' answer r (outcome rs es) other).0 holds;
}

pub smallest_accepted : HoldsCase (accepted smallest_file 2 0 0)
smallest_accepted = reads smallest_file (Ok nothing_in_it) _ (smallest_outcome hall_reads hall_meaning.lawful_test) (nothing_in_it, refl, refl, refl, refl)

pub shorter_refused : HoldsCase (refused without_its_last_four 1 8)
shorter_refused = reads without_its_last_four (Err (no_record_at 8)) _ (header_outcome hall_reads hall_meaning.lawful_test) (no_record_at 8, refl, refl, refl)

pub empty_refused : HoldsCase (refused [] 1 0)
empty_refused = reads [] (Err (no_record_at 0)) _ (empty_outcome hall_reads hall_meaning.lawful_test) (no_record_at 0, refl, refl, refl)
