use Rattle.std.proofs.Common.{◌≡◌, ◌++◌, drop, string_bytes}
use Rattle.settle.specs.Hex.{spaced}
use Rattle.settle.proofs.hex.hex.Given as goal

abbrev pub invariant-loop-b : goal.invariant-loop-b
invariant-loop-b l = string_bytes l.text ++ spaced (drop l.b-index l.bytes) ≡ spaced l.bytes
