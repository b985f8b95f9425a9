use Rattle.std.proofs.Common.{drop, arith, ◌∙◌}
use Rattle.log_server.proofs.Compacted.{spellable_at, begun, step}
use Rattle.log_server.proofs.spell.records_of_server.Goals as goal

pub stored_record-requires-clause-entry : goal.stored_record-requires-clause-entry
stored_record-requires-clause-entry c =
    spellable_at c.args.entries.now.items c.args.gone c.loop-index.index c.index.result.now c.requires.entries c.loop-index.invariant.behind (omega (arith, c.len-index-end.ensures)) c.index.ensures

pub loop-index-init : goal.loop-index-init
loop-index-init c = record {
  behind = omega arith;
  spelled =
      begun c.new-records.result.items c.push.new.self.items c.in_ok-from_slice.field-0 c.in_ok-first.first c.args.base c.args.sealed_at (drop c.args.gone c.args.entries.now.items) c.args.gone
      c.new-records.ensures.items c.in_ok-push.ensures.items (c.in_ok-from_slice.ensures.items ∙ c.as_slice.ensures) c.in_ok-first.ensures;
}

pub loop-index-preserved : goal.loop-index-preserved
loop-index-preserved c = record {
  behind = omega (arith, c.loop-index.invariant.behind);
  spelled =
      step c.loop-index.records.items c.push-in-loop-index.new.self.items c.in_ok-from_slice-2.field-0 c.in_ok-record.record c.args.base c.args.sealed_at c.args.entries.now.items c.args.gone c.loop-index.index c.index.result.now
      c.loop-index.invariant.spelled c.loop-index.invariant.behind (omega (arith, c.len-index-end.ensures)) c.index.ensures c.in_ok-record.ensures (c.in_ok-from_slice-2.ensures.items ∙ c.as_slice-in-loop-index.ensures) c.in_ok-push-2.ensures.items;
}
