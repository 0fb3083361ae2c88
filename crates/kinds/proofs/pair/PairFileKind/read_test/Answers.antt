use Rattle.std.proofs.lemmas.List.{take_rest}
use Rattle.std.proofs.lemmas.Result.{err_from_is_err_and}
use Rattle.kinds.specs.ReadingLaws.{pair_ok, pair_err}
use Rattle.kinds.proofs.pair.PairFileKind.read_test.Goals as goal

pub returns-in_err-second : goal.returns-in_err-second
returns-in_err-second g c =
    let p = err_from_is_err_and c.from_residual-in_err-second.result c.from_residual-in_err-second.ensures.1 in
    record {
      the_bytes_alone_fix_the_answer = rw (p.1, p.2)
          (pair_err g.A.FileKind.reads g.B.FileKind.reads c.args.bytes.now _ _ _ c.in_ok-first.ensures.the_bytes_alone_fix_the_answer
          (take_rest c.args.bytes.now c.in_ok-first.used) c.in_err-second.ensures.the_bytes_alone_fix_the_answer);
    }

pub returns : goal.returns
returns g c = record {
  the_bytes_alone_fix_the_answer =
      pair_ok g.A.FileKind.reads g.B.FileKind.reads c.args.bytes.now _ _ _ c.in_ok-first.ensures.the_bytes_alone_fix_the_answer
      (take_rest c.args.bytes.now c.in_ok-first.used) c.in_ok-second.ensures.the_bytes_alone_fix_the_answer;
}
