use Rattle.std.proofs.Common.{◌≡◌, ◌≤◌, ap, sym, ◌∙◌, arith, rules, Some, take, length}
use Rattle.entry_codec.specs.Reading.{item_of}
use Rattle.engine_api.proofs.Unpacked.{items_from-more, lengths_of-split, few-more}
use Rattle.engine_api.proofs.read.items_from.Goals as goal

pub loop-len-preserved : goal.loop-len-preserved
loop-len-preserved c =
    let same : c.from-len.result ≡ c.in-Some.len = search rules in
    let fits : c.from-len.result ≤ length c.loop-len.rest.now = omega arith in
    let is : item_of (take c.from-len.result c.loop-len.rest.now) ≡ Some c.in-Some-2.item =
    ap item_of (sym c.split_at.ensures.front) ∙ sym c.in_ok-item.ensures ∙ c.in-Some-2.is in
    let before =
    rw (lengths_of-split c.loop-len.left.now c.in-Some.len c.in-Some.others.now c.in-Some.ensures, sym same) at c.loop-len.invariant.items in
    record {
      items = rw (c.in_ok-push.ensures.ok, c.split_at.ensures.back) (items_from-more c.loop-len.items c.from-len.result _ c.loop-len.rest.now c.in-Some-2.item _ fits is before);
      few = rw c.in_ok-push.ensures.ok (few-more c.loop-len.items c.in-Some-2.item c.loop-len.left.now c.in-Some.len c.in-Some.others.now _ c.in-Some.ensures c.loop-len.invariant.few);
    }
