use Rattle.std.proofs.Common.{sym, ◌∙◌}
use Rattle.algebra.proofs.Equal.{finals_equal}
use Rattle.algebra.proofs.proof.Proof.same.Goals as goal

pub returns-clause-yes : goal.returns-clause-yes
returns-clause-yes g c same = finals_equal g.F.PartialEq.eq g.F.Field.means g.met.F.Field.equal _ _ (sym c.eq.ensures ∙ same)
