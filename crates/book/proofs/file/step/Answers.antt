use Rattle.std.proofs.Common.{ap, ◌∙◌}
use Rattle.std.proofs.lemmas.Result.{err_from_is_err_and}
use Rattle.book.specs.Frames.{place_after}
use Rattle.book.specs.Frames.{piece_of}
use Rattle.book.specs.declared.faults.Fault.TheVariants.{Rulebook}
use Rattle.book.proofs.Stepping.{fault_is, placed_ok, step_granted, step_denied}
use Rattle.book.proofs.file.step.Goals as goal

pub returns-in_err-placed : goal.returns-in_err-placed
returns-in_err-placed g c =
    let p = err_from_is_err_and c.from_residual-in_err-placed.result c.from_residual-in_err-placed.ensures.1 in
    let w = c.in_ok-part.ensures in
    let a = c.admit.ensures in
    record {
      record_taken_or_refused = rw (p.1, fault_is p.0 c.in_err-placed.field-0.0.place (Rulebook c.in_err-placed.field-0.0.fault) p.2)
          (step_denied g.K.FileKind.reads g.K.Kind.meaning.lawful_test c.args.reader.now c.next.new.self c.args.scan.now c.admit.new.self c.args.rules.now c.admit.new.rules c.args.entries.now c.admit.new.entries
          (piece_of c.in_ok-part.part) c.in_ok-content.content c.admit.result
          w.cuts_the_record_at_the_cursor (placed_ok _ _ _ c.in_ok-content.ensures.the_fault_with_its_place ∙ c.read_content.ensures.what_the_record_says) a.answers_whether_the_content_has_a_place a.takes_in_exactly_what_is_accepted a.counts_stay_within_the_memory a.memory_after_the_counts_unchanged (w.cursor_after_the_record ∙ ap (place_after c.args.reader.now.place) w.cuts_the_record_at_the_cursor) w.bytes_unchanged _ c.in_err-placed.ensures.the_fault_with_its_place);
    }

pub returns : goal.returns
returns g c =
    let w = c.in_ok-part.ensures in
    let a = c.admit.ensures in
    record {
      record_taken_or_refused = step_granted g.K.FileKind.reads g.K.Kind.meaning.lawful_test c.args.reader.now c.next.new.self c.args.scan.now c.admit.new.self c.args.rules.now c.admit.new.rules c.args.entries.now c.admit.new.entries
          (piece_of c.in_ok-part.part) c.in_ok-content.content c.admit.result
          w.cuts_the_record_at_the_cursor (placed_ok _ _ _ c.in_ok-content.ensures.the_fault_with_its_place ∙ c.read_content.ensures.what_the_record_says) a.answers_whether_the_content_has_a_place a.takes_in_exactly_what_is_accepted a.counts_stay_within_the_memory a.memory_after_the_counts_unchanged (w.cursor_after_the_record ∙ ap (place_after c.args.reader.now.place) w.cuts_the_record_at_the_cursor) w.bytes_unchanged _ c.in_ok-placed.ensures.the_fault_with_its_place;
    }
