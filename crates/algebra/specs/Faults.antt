-- Each fault of this crate by number, layer and place. Assumes nothing.
use Rattle.std.specs.Prelude.{ℕ, List, codes}
use Rattle.algebra.specs.declared.entry.Entry.{Entry}
use Rattle.algebra.specs.declared.entry.Layer.{Layer}
use Rattle.algebra.specs.declared.entry.Layer.TheVariants.{Bytes, Line, Argument}
use Rattle.algebra.specs.declared.fault.ByteFault.{ByteFault}
use Rattle.algebra.specs.declared.fault.ByteFault.TheVariants.{Ends, NotElement, NotCount, TooMany, Area, Output}
use Rattle.algebra.specs.declared.fault.SetupFault.{SetupFault}
use Rattle.algebra.specs.declared.fault.SetupFault.TheVariants.{Row}

abbrev pub entry : ℕ → Layer → ℕ → Entry
entry n l p = record { number = n; layer = l; place = p }

abbrev pub byte_entry : ByteFault → Entry
byte_entry (Ends at) = entry 1 Bytes at
byte_entry (NotElement at) = entry 2 Bytes at
byte_entry (NotCount at) = entry 3 Bytes at
byte_entry (TooMany at) = entry 4 Bytes at
byte_entry (Area at) = entry 5 Bytes at
byte_entry Output = entry 6 Bytes 0

abbrev pub setup_entry : SetupFault → Entry
setup_entry Row = entry 23 Argument 0

-- What each says in print.
abbrev pub layer_text : Layer → List ℕ
layer_text Bytes = codes "bytes"
layer_text Line = codes "line"
layer_text Argument = codes "argument"

abbrev pub byte_text : ByteFault → List ℕ
byte_text (Ends at) = codes "the input ends inside a field"
byte_text (NotElement at) = codes "the bytes are no element"
byte_text (NotCount at) = codes "the count is not a shortest varint below 2^32"
byte_text (TooMany at) = codes "the count is above what is permitted"
byte_text (Area at) = codes "the area is too short"
byte_text Output = codes "the output is shorter than the encoding"

abbrev pub setup_text : SetupFault → List ℕ
setup_text Row = codes "the row is no setup"
