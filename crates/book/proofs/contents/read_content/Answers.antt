use Rattle.std.proofs.Common.{◌≡◌, ℕ, Bool, List, Err, sym, ◌∙◌}
use Rattle.std.specs.Prelude.{◌≢◌}
use Rattle.std.proofs.lemmas.Bool.{cond-false, ne_eqb}
use Rattle.std.proofs.lemmas.Result.{err_from_is_err_and}
use Rattle.kinds.specs.Readings.{Reading}
use Rattle.book.specs.declared.record_kind.RecordKind.{RecordKind}
use Rattle.book.specs.declared.record_kind.RecordKind.TheVariants as kinds
use Rattle.book.specs.declared.faults.RecordFault.TheVariants.{UnknownKind}
use Rattle.book.specs.Contents.{content, kind_number}
use Rattle.book.proofs.contents.read_content.Goals as goal

-- a number that no kind has
unknown : {S : Type 0} (reads : List ℕ → Reading S) (lawful : S → Bool) (n : ℕ) (bs : List ℕ) → ((k : RecordKind) → kind_number k ≢ n) → content reads lawful n bs ≡ Err UnknownKind
unknown reads lawful n bs none =
    cond-false _ _ _ (ne_eqb n 0 (λ e. none kinds.Filler (sym e))) ∙ cond-false _ _ _ (ne_eqb n 1 (λ e. none kinds.Header (sym e)))
    ∙ cond-false _ _ _ (ne_eqb n 2 (λ e. none kinds.Rule (sym e))) ∙ cond-false _ _ _ (ne_eqb n 3 (λ e. none kinds.Entry (sym e)))
    ∙ cond-false _ _ _ (ne_eqb n 4 (λ e. none kinds.End (sym e)))

pub returns-in_err-try_from : goal.returns-in_err-try_from
returns-in_err-try_from g c =
    let p = err_from_is_err_and c.from_residual.result c.from_residual.ensures.1 in
    record {
      what_the_record_says = rw (p.1, p.2, c.in_err-try_from.ensures.0)
          (sym (unknown g.K.FileKind.reads g.K.Kind.meaning.lawful_test c.args.part.now.kind c.args.part.now.body.now c.in_err-try_from.ensures.1));
    }
