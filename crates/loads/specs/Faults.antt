-- What a fault says in print. Assumes nothing.
use Rattle.std.specs.Prelude.{ℕ, List, ◌++◌, codes, decimal}
use Rattle.std.specs.Str.Lossy.{utf8_lossy}
use Rattle.loads.specs.declared.LoadsFault.{LoadsFault}
use Rattle.loads.specs.declared.LoadsFault.TheVariants.{Malformed, Memory}

-- the words of a fault; of a line's bytes, those that are no text stand as U+FFFD
abbrev pub fault_text : LoadsFault → List ℕ
fault_text (Malformed n t) = codes "line " ++ (decimal n ++ (codes " is not `litres fat`: " ++ utf8_lossy t.now))
fault_text Memory = codes "there is no memory left"
