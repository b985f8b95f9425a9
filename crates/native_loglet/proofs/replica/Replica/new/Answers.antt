use Rattle.std.proofs.Common.{false, sym, ◌∙◌}
use Rattle.std.proofs.lemmas.Bool.{false≢true}
use Rattle.native_loglet.proofs.Rules.{known_sealed}
use Rattle.native_loglet.proofs.replica.Replica.new.Goals as goal

pub invariant_of-result : goal.invariant_of-result
invariant_of-result g c = known_sealed c.args.server.server false c.is_sealed_now-sealed.result c.is_sealed_now-sealed.ensures (λ down. absurd (false≢true (sym down ∙ c.requires)))
