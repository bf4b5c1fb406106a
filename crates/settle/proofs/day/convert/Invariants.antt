use Rattle.std.proofs.Common.{◌≡◌, ◌+◌, take, drop, vec_items}
use Rattle.settle.specs.Day.{first_beyond, litres_of, fat_of}
use Rattle.settle.proofs.day.convert.Given as goal

abbrev pub invariant-loop-i : goal.invariant-loop-i
invariant-loop-i l =
    (first_beyond (l.i + 1) (drop l.i l.loads) ≡ first_beyond 1 l.loads)
    × (vec_items l.litres ≡ litres_of (take l.i l.loads))
    × (vec_items l.fat ≡ fat_of (take l.i l.loads))
