-- What `bstr` writes of bytes is what std makes of them as lossy text.
use Rattle.bstr.proofs.lemmas.LossyLemmas.{lossy_chars-utf8_lossy}
use Rattle.loads.proofs.LoadsFaultDisplay.fmt.Goals as goal

pub returns-in-Malformed-clause-writes : goal.returns-in-Malformed-clause-writes
returns-in-Malformed-clause-writes g c plain ok = rw (c.in-Malformed.is, ← lossy_chars-utf8_lossy c.in-Malformed.text.now, ← c.new-text.ensures) (c.write.ensures.writes plain ok)
