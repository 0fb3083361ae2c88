use Rattle.std.proofs.Common.{length, Ok, ap, arith, rules}
use Rattle.std.proofs.lemmas.Result.{err_from_is_err_and}
use Rattle.book.specs.declared.count.Count.{Count}
use Rattle.book.specs.declared.count.TheConstants.{MOST_RULES, MOST_ENTRIES}
use Rattle.book.specs.declared.faults.BookFault.TheVariants.{Trailing}
use Rattle.book.specs.declared.faults.Fault.TheVariants.{Rulebook}
use Rattle.book.proofs.Stepping.{fault_is}
use Rattle.book.proofs.Exactly.{exact}
use Rattle.book.proofs.Told.{told}
use Rattle.book.proofs.Filed.{at_start, goes_on, accepted, trailing, refused}
use Rattle.book.proofs.file.read.Goals as goal

pub loop-scan-init : goal.loop-scan-init
loop-scan-init g c = at_start g.K.FileKind.reads g.K.Kind.meaning.lawful_test c.args.bytes.now c.new-reader.result c.new-scan.result c.args.rules.now c.args.entries.now c.new-reader.ensures.over_the_bytes c.new-reader.ensures.at_the_start c.new-scan.ensures.no_policy c.new-scan.ensures.not_ended c.new-scan.ensures.no_rule c.new-scan.ensures.no_entry

pub loop-scan-preserved : goal.loop-scan-preserved
loop-scan-preserved g c =
    (goes_on g.K.FileKind.reads g.K.Kind.meaning.lawful_test c.args.bytes.now c.loop-scan.reader c.step.new.reader c.loop-scan.scan c.step.new.scan c.args.rules.now c.loop-scan.rules c.step.new.rules c.args.entries.now c.loop-scan.entries c.step.new.entries c.in_ok-step.field-0
    c.loop-scan-test.true (search rules) (search rules) c.loop-scan.invariant c.in_ok-step.ensures.record_taken_or_refused).0

pub returns-in_err-step : goal.returns-in_err-step
returns-in_err-step g c =
    let p = err_from_is_err_and c.from_residual.result c.from_residual.ensures.1 in
    let l = ap length c.loop-scan.invariant.same in
    let w = c.loop-scan.reader.within in
    record {
      accepts_exactly_well_formed_files_and_refuses_at_the_first_faulty_record = rw (p.1, p.2)
          (told g.K.FileKind.reads g.K.Kind.meaning.lawful_test c.args.bytes.now c.args.rules.now c.args.entries.now c.step.new.rules c.step.new.entries _
          (refused g.K.FileKind.reads g.K.Kind.meaning.lawful_test c.args.bytes.now c.loop-scan.reader c.step.new.reader c.loop-scan.scan c.step.new.scan c.args.rules.now c.loop-scan.rules c.step.new.rules c.args.entries.now c.loop-scan.entries c.step.new.entries _
          (omega (arith, l, w)) c.loop-scan-test.true c.loop-scan.invariant c.in_err-step.ensures.record_taken_or_refused));
      reading_is_fixed_by_the_bytes_and_the_memory = exact g.K.FileKind.reads g.K.Kind.meaning.lawful_test;
    }

pub returns-then-reader-bytes : goal.returns-then-reader-bytes
returns-then-reader-bytes g c = record {
  accepts_exactly_well_formed_files_and_refuses_at_the_first_faulty_record = rw (fault_is c.into.result c.loop-scan.reader.place (Rulebook Trailing) c.into.ensures)
      (told g.K.FileKind.reads g.K.Kind.meaning.lawful_test c.args.bytes.now c.args.rules.now c.args.entries.now c.loop-scan.rules c.loop-scan.entries _
      (trailing g.K.FileKind.reads g.K.Kind.meaning.lawful_test c.args.bytes.now c.loop-scan.reader c.loop-scan.scan c.args.rules.now c.loop-scan.rules c.args.entries.now c.loop-scan.entries c.loop-scan.invariant c.if-reader-bytes.true c.loop-scan-test.false));
  reading_is_fixed_by_the_bytes_and_the_memory = exact g.K.FileKind.reads g.K.Kind.meaning.lawful_test;
}

pub returns : goal.returns
returns g c = record {
  accepts_exactly_well_formed_files_and_refuses_at_the_first_faulty_record =
      told g.K.FileKind.reads g.K.Kind.meaning.lawful_test c.args.bytes.now c.args.rules.now c.args.entries.now c.loop-scan.rules c.loop-scan.entries (Ok c.finish.result)
      (accepted g.K.FileKind.reads g.K.Kind.meaning.lawful_test c.args.bytes.now c.loop-scan.reader c.loop-scan.scan c.args.rules.now c.loop-scan.rules c.args.entries.now c.loop-scan.entries c.loop-scan.invariant c.finish.result
      c.finish.ensures.policy_of_the_header (ap (λ (k : Count MOST_RULES). k.count) c.finish.ensures.rules_of_the_draft) (ap (λ (k : Count MOST_ENTRIES). k.count) c.finish.ensures.entries_of_the_draft) c.if-reader-bytes.false c.loop-scan-test.false);
  reading_is_fixed_by_the_bytes_and_the_memory = exact g.K.FileKind.reads g.K.Kind.meaning.lawful_test;
}
