use Rattle.std.proofs.Common.{◌≡◌, refl, sym, subst, length, arith}
use Rattle.std.proofs.lemmas.Option.{slice_get_read}
use Rattle.script_text.specs.declared.faults.FaultLine.{FaultLine}
use Rattle.node_course.specs.FaultLines.{stops_by}
use Rattle.node_crew.specs.Stops.{armed_all}
use Rattle.node_crew.proofs.Stopping.{arm_next, stops_none}
use Rattle.node_crew.proofs.stops.arm_between.Goals as goal

pub loop-k-init : goal.loop-k-init
loop-k-init g c =
    let a = c.args in
    record {
      low = omega arith;
      high = c.requires.range.0;
      so_far = subst (λ xs. a.seat.now ≡ armed_all a.seat.now xs) (sym (stops_none a.node a.from a.faults.now)) refl;
    }

pub loop-k-preserved : goal.loop-k-preserved
loop-k-preserved g c =
    let a = c.args in
    let l = c.loop-k in
    let fs = a.faults.now in
    let line = c.index-faults-k.result in
    let at = slice_get_read fs (length fs) l.k line refl (omega (arith, c.loop-k-test.true, c.requires.range.1)) c.index-faults-k.is in
    record {
      low = omega (arith, l.invariant.low);
      high = omega (arith, c.loop-k-test.true);
      so_far = arm_next a.node a.from l.k fs line a.seat.now l.seat c.arm_by.new.seat at l.invariant.low l.invariant.so_far
          (subst (λ (f : FaultLine). c.arm_by.new.seat ≡ armed_all l.seat (stops_by a.node f.asks)) (sym c.index-faults-k.is) c.arm_by.ensures);
    }
