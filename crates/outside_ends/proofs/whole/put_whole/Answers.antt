use Rattle.std.proofs.Common.{length-drop, ℕ, arith}
use Rattle.std.proofs.Math.Seq.{take-add}
use Rattle.std.proofs.lemmas.List.{take_rest}
use Rattle.outside_ends.proofs.Moves.{Gains-then}
use Rattle.outside_ends.proofs.whole.put_whole.Goals as goal

pub loop-at-preserved : goal.loop-at-preserved
loop-at-preserved g c = record {
  within = omega (arith, length-drop {A = ℕ}, c.in-Put.ensures.some.1);
  put = rw (take-add c.loop-at.at c.in-Put.n c.args.text.now) (Gains-then _ (g.K.Sink.held c.loop-at.sink) _ _ _ c.loop-at.invariant.put (rw (take_rest c.args.text.now c.loop-at.at) at c.in-Put.ensures.bytes));
  later = omega (arith, c.loop-at.invariant.later, c.put.ensures.cause.later);
}
