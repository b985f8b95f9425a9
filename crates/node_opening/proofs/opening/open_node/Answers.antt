use Rattle.std.proofs.Common.{ap, ◌∙◌, inl}
use Rattle.journal_pair.specs.Records.{records_of}
use Rattle.journal_pair.proofs.Areas.{no_bytes}
use Rattle.node_opening.proofs.Begun.{fresh_replica, is_counted, armed_as, left_of}
use Rattle.node_opening.proofs.opening.open_node.Goals as goal

pub begin_on-requires-clause-empty : goal.begin_on-requires-clause-empty
begin_on-requires-clause-empty g c = ap records_of c.requires.empty ∙ no_bytes

pub returns-in-Ok-clause-fresh : goal.returns-in-Ok-clause-fresh
returns-in-Ok-clause-fresh g c =
    let b = c.in-Ok.ensures in
    let n = c.new-replica in
    fresh_replica n.result.store c.in-Ok.store n.result.origin c.args.number (g.E.Layers.waiting n.result.engines) n.result.stops n.result.reopenings n.ensures.store b.start b.none_asked b.survives n.ensures.origin (ap g.E.Layers.waiting n.ensures.engines ∙ c.requires.nothing_waits) n.ensures.none_told c.starts_empty.ensures

pub returns-in-Ok-clause-counted : goal.returns-in-Ok-clause-counted
returns-in-Ok-clause-counted g c =
    let b = c.in-Ok.ensures in
    let n = c.new-replica in
    is_counted n.result.store c.in-Ok.store n.result.origin (g.D.Disk.view c.args.one.disk).faults (g.E.Layers.waiting n.result.engines) n.result.stops n.result.reopenings n.ensures.store c.requires.none_counted b.down b.up

pub returns-in-Ok-clause-armed : goal.returns-in-Ok-clause-armed
returns-in-Ok-clause-armed g c =
    let n = c.new-replica in
    armed_as n.result.store c.in-Ok.store n.result.origin (g.E.Layers.waiting n.result.engines) n.result.stops n.result.reopenings (g.D.Disk.view c.args.one.disk) n.ensures.store c.in-Ok.ensures.spends c.in-Ok.ensures.word

pub returns-in-Ok-clause-left : goal.returns-in-Ok-clause-left
returns-in-Ok-clause-left g c =
    let b = c.in-Ok.ensures in
    let n = c.new-replica in
    left_of n.result.store c.in-Ok.store (g.D.Disk.view c.args.one.disk) n.ensures.store b.down b.up b.spends b.four_writes b.word

pub returns-in-Err-clause-left_back : goal.returns-in-Err-clause-left_back
returns-in-Err-clause-left_back g c =
    let b = c.in-Err.ensures in
    record { word = b.memory.word; left = inl (b.memory.faults, b.memory.spends) }
