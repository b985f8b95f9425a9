use Rattle.std.proofs.Common.{ap, ◌∙◌, []}
use Rattle.replica_api.specs.Replica.{ReplicaView}
use Rattle.node_lines.proofs.Moving.{moves-both}
use Rattle.node_lines.proofs.extend.settle_log.Goals as goal

pub returns : goal.returns
returns g c =
    let p = g.T.Law.Rules in
    record {
      carries = record {
        moves = moves-both p.law c.requires.floor c.args.node.now c.pack.new.node c.settle.new.node [] [] c.in_ok-pack.ensures.moves c.in_ok-settle.ensures.moves;
        none = c.in_ok-settle.ensures.none;
        kept = ap (λ (r : ReplicaView). r.kept) c.in_ok-settle.ensures.replica ∙ c.in_ok-pack.ensures.kept;
      };
    }
