use Rattle.node_lines.proofs.Moving.{hands-in, waits-queued}
use Rattle.node_lines.proofs.steps.hand_in.Goals as goal

pub returns-in-Ok-clause-hands : goal.returns-in-Ok-clause-hands
returns-in-Ok-clause-hands g c =
    let p = g.T.Law.Rules in
    λ s sent own. hands-in p.law c.requires.floor c.args.node.now c.propose.new.self c.args.item s sent c.requires.kept c.requires.item c.in-Ok.ensures.keeps (c.in-Ok.ensures.near c.requires.near).2 own (c.in-Ok.ensures.near c.requires.near).0

pub returns-in-Ok-clause-kept : goal.returns-in-Ok-clause-kept
returns-in-Ok-clause-kept g c =
    let h = (c.in-Ok.ensures.near c.requires.near).0 in
    waits-queued c.args.node.now.replica.origin c.args.node.now.replica.kept c.propose.new.self.replica.kept c.args.item h.packed h.out
