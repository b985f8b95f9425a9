use Rattle.std.proofs.Common.{◌≡◌, ◌+◌, ◌<◌, ◌++◌, ℕ, [], suc, length, Some, refl, sym, ap, ◌∙◌, subst, arith}
use Rattle.std.specs.Prelude.{slice_get}
use Rattle.std.proofs.lemmas.Option.{slice_get_read}
use Rattle.script_text.specs.declared.faults.FaultAsk.TheVariants.{Stop}
use Rattle.script_text.specs.declared.faults.FaultLine.{FaultLine}
use Rattle.node_course.specs.FaultLines.{stops_by}
use Rattle.node_crew.specs.Stops.{stops_between}
use Rattle.node_crew.proofs.Stopping.{stops_none, stops_of_phase, stops_one, stops_split}
use Rattle.node_threads.proofs.part.node_with_stop.Goals as goal

pub loop-k-init : goal.loop-k-init
loop-k-init c = record { low = omega arith; high = c.requires.range.0; none = stops_none c.args.who c.args.faults.now.from c.args.faults.now.lines.now }

pub returns-in-Some-clause-some : goal.returns-in-Some-clause-some
returns-in-Some-clause-some c =
    let fs = c.args.faults.now.lines.now in
    let k = c.loop-k.k in
    let f : FaultLine = c.index-faults-k.result in
    let at : slice_get fs k ≡ Some f = slice_get_read fs (length fs) k f refl (omega (arith, c.loop-k-test.true, c.requires.range.1)) c.index-faults-k.is in
    let h = c.in-Some.ensures.some in
    let began = c.requires.begins.behind k f at c.loop-k.invariant.low in
    let ended = c.requires.ends.before k f at c.loop-k-test.true in (
      h.0,
      record {
        at = k;
        line = f;
        is = at;
        phase_is = omega (arith, began, ended);
        after = h.1.0;
        asks_is = subst (λ n. f.asks ≡ Stop n h.1.0) h.0 (ap (λ (x : FaultLine). x.asks) c.index-faults-k.is ∙ h.1.1);
      },
    )

pub loop-k-preserved : goal.loop-k-preserved
loop-k-preserved c =
    let fs = c.args.faults.now.lines.now in
    let who = c.args.who in
    let from = c.args.faults.now.from in
    let k = c.loop-k.k in
    let f : FaultLine = c.index-faults-k.result in
    let low = c.loop-k.invariant.low in
    let at : slice_get fs k ≡ Some f = slice_get_read fs (length fs) k f refl (omega (arith, c.loop-k-test.true, c.requires.range.1)) c.index-faults-k.is in
    let next : k + 1 ≡ suc k = omega arith in
    let one : stops_between who k (k + 1) fs ≡ [] = ap (λ n. stops_between who k n fs) next ∙ (stops_one who k fs f at ∙ (ap (λ (x : FaultLine). stops_by who x.asks) c.index-faults-k.is ∙ c.in_default.ensures.none refl)) in
    record {
      low = omega (arith, low);
      high = omega (arith, c.loop-k-test.true);
      none = stops_split who from k (k + 1) fs low (omega arith) ∙ (ap (λ l. l ++ stops_between who k (k + 1) fs) c.loop-k.invariant.none ∙ one);
    }

pub returns-clause-none : goal.returns-clause-none
returns-clause-none c none =
    let a = c.args in
    let f = a.faults.now in
    let over : c.loop-k.k ≡ f.to = omega (arith, c.loop-k.invariant.high, c.loop-k-test.false) in
    stops_of_phase a.who f.phase f.from f.to f.lines.now c.requires ∙ subst (λ k. stops_between a.who f.from k f.lines.now ≡ []) over c.loop-k.invariant.none
