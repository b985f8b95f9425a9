use Rattle.node_opening.proofs.Lists.{none_behind}
use Rattle.node_opening.proofs.Lists.{as_long, shown_same}
use Rattle.node_opening.proofs.closing.close_all.Goals as goal

pub returns-clause-engines : goal.returns-clause-engines
returns-clause-engines g c =
    let b = c.close_before in
    none_behind (λ n. n.replica.engines) (λ k. k.engines) c.args.nodes.items c.args.parts.now.items _ b.ensures.engines c.requires.none

pub returns-clause-choosers : goal.returns-clause-choosers
returns-clause-choosers g c =
    let b = c.close_before in
    none_behind (λ n. n.chooser) (λ k. k.chooser) c.args.nodes.items c.args.parts.now.items _ b.ensures.choosers c.requires.none

pub returns-clause-disks : goal.returns-clause-disks
returns-clause-disks g c =
    let b = c.close_before in
    none_behind (λ n. n.replica.store.disk) (λ k. g.D.Disk.view k.disk) c.args.nodes.items c.args.parts.now.items _ b.ensures.disks c.requires.none

pub returns-clause-faults : goal.returns-clause-faults
returns-clause-faults g c =
    let b = c.close_before in
    shown_same (λ k. g.D.Disk.view k.disk) (λ n. n.replica.store.disk) (λ v. v.faults) b.new.parts.items c.args.nodes.items
    (none_behind (λ n. n.replica.store.disk) (λ k. g.D.Disk.view k.disk) c.args.nodes.items c.args.parts.now.items _ b.ensures.disks c.requires.none)

pub returns-clause-size : goal.returns-clause-size
returns-clause-size g c =
    let b = c.close_before in
    as_long (λ k. k.engines) (λ n. n.replica.engines) b.new.parts.items c.args.nodes.items
    (none_behind (λ n. n.replica.engines) (λ k. k.engines) c.args.nodes.items c.args.parts.now.items _ b.ensures.engines c.requires.none)
