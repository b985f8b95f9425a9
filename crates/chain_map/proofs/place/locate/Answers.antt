use Rattle.std.proofs.Common.{◌≡◌, ◌<◌, true, false, length, sym, ◌∙◌}
use Rattle.chain_map.proofs.Places.{covers_next}
use Rattle.chain_map.proofs.place.locate.Goals as goal

pub loop-segment-preserved : goal.loop-segment-preserved
loop-segment-preserved c =
    let same = c.as_slice-segment-items.ensures in
    let lt : c.loop-segment.segment-index < length c.args.chain.now.segments = rw (← same) c.loop-segment-test.true in
    covers_next c.args.pos c.args.chain.now.segments c.loop-segment.segment-index lt
    (λ some. let holds : c.ends_above.result ≡ true = c.ends_above.ensures.1 (rw same some) in let clash : true ≡ false = sym holds ∙ c.if-ends_above.false in absurd cc)
    c.loop-segment.invariant
