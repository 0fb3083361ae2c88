use Rattle.std.proofs.Common.{◌-◌, length}
use Rattle.book.proofs.Filed.{Standing}
use Rattle.book.proofs.file.read.Given as goal

abbrev pub invariant-loop-scan : goal.invariant-loop-scan
invariant-loop-scan g l = Standing g.K.FileKind.reads g.K.Kind.meaning.lawful_test l.bytes l.reader l.scan l.initial.rules l.rules l.initial.entries l.entries

abbrev pub decreases-loop-scan : goal.decreases-loop-scan
decreases-loop-scan g l = length l.bytes - l.reader.place
