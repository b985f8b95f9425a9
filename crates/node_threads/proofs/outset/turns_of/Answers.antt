use Rattle.std.proofs.Common.{◌≡◌, ◌+◌, ◌<◌, ℕ, suc, List, drop, length, Some, slice_index_or, refl, ap, ◌∙◌, arith}
use Rattle.std.specs.Prelude.{slice_get}
use Rattle.std.proofs.lemmas.Option.{slice_get_read}
use Rattle.script_text.specs.declared.faults.FaultLine.{FaultLine}
use Rattle.node_course.specs.FaultLines.{turns_by, turns_in}
use Rattle.node_threads.proofs.Faults.{turns_begin, turns_end, turns_next}
use Rattle.node_threads.proofs.outset.turns_of.Goals as goal

-- the line of this index
line_at : (faults : List FaultLine) (i : ℕ) (f : FaultLine) → i < length faults → f ≡ slice_index_or faults i f → slice_get faults i ≡ Some (slice_index_or faults i f)
line_at faults i f low is = slice_get_read faults (length faults) i f refl low is ∙ ap Some is

pub loop-i-init : goal.loop-i-init
loop-i-init c =
    let a = c.args.faults.now in
    let begins = turns_begin a.lines.now a.phase a.from a.to c.requires.phase in
    record {
      low = omega arith;
      high = c.requires.phase.range.0;
      few = omega arith;
      left = omega (arith, begins);
    }

pub overflow_add-turns : goal.overflow_add-turns
overflow_add-turns c =
    let faults = c.args.faults.now.lines.now in
    let i = c.loop-i.i in
    let f = c.index-faults-i.result in
    let low : i < length faults = omega (arith, c.loop-i-test.true, c.requires.phase.range.1) in
    let x = slice_index_or faults i f in
    let few = c.requires.some i x (line_at faults i f low c.index-faults-i.is) in
    let is : c.turns_of_line-turns.result ≡ turns_by x.asks = c.turns_of_line-turns.ensures in
    omega (arith, few, is, low, c.requires.few, c.loop-i.invariant.few)

pub loop-i-preserved : goal.loop-i-preserved
loop-i-preserved c =
    let a = c.args.faults.now in
    let faults = a.lines.now in
    let k = c.loop-i.invariant in
    let i = c.loop-i.i in
    let f = c.index-faults-i.result in
    let low : i < length faults = omega (arith, c.loop-i-test.true, c.requires.phase.range.1) in
    let x = slice_index_or faults i f in
    let at = line_at faults i f low c.index-faults-i.is in
    let few = c.requires.some i x at in
    let is : c.turns_of_line-turns.result ≡ turns_by x.asks = c.turns_of_line-turns.ensures in
    let one : suc i ≡ i + 1 = omega arith in
    let next : turns_in a.phase (drop i faults) ≡ turns_by x.asks + turns_in a.phase (drop (i + 1) faults) = turns_next faults a.phase a.from a.to c.requires.phase i x at k.low c.loop-i-test.true ∙ ap (λ n. turns_by x.asks + turns_in a.phase (drop n faults)) one in
    record {
      low = omega (arith, k.low);
      high = omega (arith, c.loop-i-test.true);
      few = omega (arith, few, is, k.few);
      left = omega (arith, is, next, k.left);
    }

pub returns : goal.returns
returns c =
    let a = c.args.faults.now in
    let faults = a.lines.now in
    let l = c.loop-i in
    let k = l.invariant in
    let over : l.i ≡ a.to = omega (arith, k.high, c.loop-i-test.false) in
    let none : turns_in a.phase (drop l.i faults) ≡ 0 = ap (λ n. turns_in a.phase (drop n faults)) over ∙ turns_end faults a.phase a.from a.to c.requires.phase in
    omega (arith, none, k.left)
