use Rattle.std.proofs.Common.{◌≡◌, ◌-◌, length, suc, ap, ◌∙◌, arith}
use Rattle.snap_reads.specs.declared.change.Published.{Published}
use Rattle.snap_reads.specs.Queue.{entry_of}
use Rattle.snap_reads.proofs.Steps.{change_left, end_left}
use Rattle.snap_reads.proofs.queue.step.Goals as goal

pub returns-then-at-as_slice : goal.returns-then-at-as_slice
returns-then-at-as_slice c =
    let at = c.args.rest.now.next - 1 in
    let size : length c.as_slice.result.now ≡ length c.in_ok-of.of.value.changes.list = ap length (c.as_slice.ensures ∙ ap (λ (p : Published). p.changes.list) c.deref.ensures) in
    let next : c.args.rest.now.next ≡ suc at = omega arith in
    change_left (entry_of c.args.rest.now) c.args.rest.now.next at c.in_ok-of.of.value next (omega (arith, size)) c.in_ok-of.ensures

pub returns : goal.returns
returns c =
    let at = c.args.rest.now.next - 1 in
    let size : length c.as_slice.result.now ≡ length c.in_ok-of.of.value.changes.list = ap length (c.as_slice.ensures ∙ ap (λ (p : Published). p.changes.list) c.deref.ensures) in
    let same : length c.in_ok-of.of.value.changes.list ≡ length c.args.rest.now.of.value.changes.list = ap (λ (p : Published). length p.changes.list) c.in_ok-of.ensures in
    let next : c.args.rest.now.next ≡ suc at = omega arith in
    end_left (entry_of c.args.rest.now) c.args.rest.now.next at c.in_ok-of.of.value next (omega (arith, size)) (omega (arith, same)) c.in_ok-of.ensures
