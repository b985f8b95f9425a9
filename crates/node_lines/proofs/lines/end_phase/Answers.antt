use Rattle.std.proofs.Common.{ap, ◌∙◌, subst, [], ◌∷◌}
use Rattle.base_engine.specs.Settling.{OutboxView}
use Rattle.replica_api.specs.Replica.{ReplicaView}
use Rattle.node_lines.specs.Moving.{Moves, failure_of}
use Rattle.node_lines.proofs.Moving.{moves-both}
use Rattle.node_lines.proofs.Ending.{Ended, ends_at}
use Rattle.node_lines.proofs.lines.end_phase.Goals as goal

pub returns-in-At : goal.returns-in-At
returns-in-At g c =
    let p = g.T.Law.Rules in
    let old = c.args.node.now in
    let first = c.pack.new.node in
    let then' = c.settle.new.node in
    let new = c.sync.new.node in
    let found = c.in_ok-sync.ensures.tail c.in-At.field-0 c.in-At.is in
    let kept = ap (λ (r : ReplicaView). r.kept) c.in_ok-settle.ensures.replica ∙ c.in_ok-pack.ensures.kept in
    let e : Ended p.law old first then' new c.in-At.field-0 = record {
      first = c.in_ok-pack.ensures.moves;
      next = c.in_ok-settle.ensures.moves;
      none = c.in_ok-settle.ensures.none;
      kept = kept;
      last = subst (λ s. Moves p.law then' new (failure_of s)) c.in-At.is c.in_ok-sync.ensures.moves;
      above = found.0;
      at = found.1;
    } in
    record {
      ends = ends_at p.law c.requires.floor old first then' new c.in-At.field-0 e
          (ap (λ (o : OutboxView). o.entries) c.in_ok-sync.ensures.outbox ∙ c.in_ok-settle.ensures.none)
          (ap (λ (o : OutboxView). o.unsettled) c.in_ok-sync.ensures.outbox ∙ c.in_ok-settle.ensures.unsettled)
          (c.in_ok-sync.ensures.kept ∙ kept)
          (ap (λ (r : ReplicaView). r.cursor) (c.in_ok-settle.ensures.replica ∙ c.in_ok-pack.ensures.replica))
          (c.in_ok-sync.ensures.exact c.in-At.field-0 c.in-At.is);
      follows = c.in_ok-sync.ensures.follows;
    }

pub returns-in-Failed : goal.returns-in-Failed
returns-in-Failed g c =
    let p = g.T.Law.Rules in
    let old = c.args.node.now in
    let first = c.pack.new.node in
    let then' = c.settle.new.node in
    let new = c.sync.new.node in
    let kept = ap (λ (r : ReplicaView). r.kept) c.in_ok-settle.ensures.replica ∙ c.in_ok-pack.ensures.kept in
    let last : Moves p.law then' new (c.in-Failed.cause ∷ []) = subst (λ s. Moves p.law then' new (failure_of s)) c.in-Failed.is c.in_ok-sync.ensures.moves in
    let before : Moves p.law old then' [] = moves-both p.law c.requires.floor old first then' [] [] c.in_ok-pack.ensures.moves c.in_ok-settle.ensures.moves in
    record {
      ends = record {
        moves = moves-both p.law c.requires.floor old then' new [] (c.in-Failed.cause ∷ []) before last;
        first = record { settled = then'; carries = record { moves = before; none = c.in_ok-settle.ensures.none; kept = kept }; since = last };
        none = ap (λ (o : OutboxView). o.entries) c.in_ok-sync.ensures.outbox ∙ c.in_ok-settle.ensures.none;
        unsettled = ap (λ (o : OutboxView). o.unsettled) c.in_ok-sync.ensures.outbox ∙ c.in_ok-settle.ensures.unsettled;
        kept = c.in_ok-sync.ensures.kept ∙ kept;
        acted = λ f. absurd (cc);
        exact = λ f. absurd (cc);
      };
      follows = c.in_ok-sync.ensures.follows;
    }
