use Rattle.algebra.specs.Numbered.{Digits}
use Rattle.algebra.proofs.bytes.number.Given as goal

abbrev pub invariant-loop-byte : goal.invariant-loop-byte
invariant-loop-byte l = Digits l.byte-index l.code l.n
