use Rattle.std.proofs.Common.{sym, ap, ◌∙◌, subst, [], ◌∷◌}
use Rattle.base_engine.specs.Settling.{OutboxView}
use Rattle.replica_api.specs.Replica.{ReplicaView}
use Rattle.node_lines.specs.Moving.{Moves, failure_of}
use Rattle.node_lines.proofs.Moving.{moves-both}
use Rattle.node_lines.proofs.Ending.{Ended, all, carried_first, stands_at}
use Rattle.node_lines.proofs.Measuring.{same_number}
use Rattle.node_lines.proofs.measure.catch_up.Goals as goal

pub returns-in-Failed : goal.returns-in-Failed
returns-in-Failed g c =
    let p = g.T.Law.Rules in
    let old = c.args.node.now in
    let then' = c.settle.new.node in
    let new = c.sync.new.node in
    let why = c.in-Failed.cause in
    let kept = ap (λ (r : ReplicaView). r.kept) c.in_ok-settle.ensures.replica ∙ c.in_ok-pack.ensures.kept in
    let before : Moves p.law old then' [] = moves-both p.law c.requires.floor old c.pack.new.node then' [] [] c.in_ok-pack.ensures.moves c.in_ok-settle.ensures.moves in
    let last : Moves p.law then' new (why ∷ []) = subst (λ s. Moves p.law then' new (failure_of s)) c.in-Failed.is c.in_ok-cause.ensures.moves in
    record {
      measures = record {
        moves = moves-both p.law c.requires.floor old then' new [] (why ∷ []) before last;
        first = record { settled = then'; carries = record { moves = before; none = c.in_ok-settle.ensures.none; kept = kept }; since = last };
        none = ap (λ (o : OutboxView). o.entries) c.in_ok-cause.ensures.outbox ∙ c.in_ok-settle.ensures.none;
        unsettled = ap (λ (o : OutboxView). o.unsettled) c.in_ok-cause.ensures.outbox ∙ c.in_ok-settle.ensures.unsettled;
        kept = c.in_ok-cause.ensures.kept ∙ kept;
        measured = λ n same. absurd (cc);
      };
    }

pub returns-in-At : goal.returns-in-At
returns-in-At g c =
    let p = g.T.Law.Rules in
    let old = c.args.node.now in
    let first = c.pack.new.node in
    let then' = c.settle.new.node in
    let new = c.sync.new.node in
    let found = c.in_ok-cause.ensures.tail c.in-At.field-0 c.in-At.is in
    let kept = ap (λ (r : ReplicaView). r.kept) c.in_ok-settle.ensures.replica ∙ c.in_ok-pack.ensures.kept in
    let e : Ended p.law old first then' new c.in-At.field-0 = record {
      first = c.in_ok-pack.ensures.moves;
      next = c.in_ok-settle.ensures.moves;
      none = c.in_ok-settle.ensures.none;
      kept = kept;
      last = subst (λ s. Moves p.law then' new (failure_of s)) c.in-At.is c.in_ok-cause.ensures.moves;
      above = found.0;
      at = found.1;
    } in
    record {
      measures = record {
        moves = all p.law c.requires.floor old first then' new c.in-At.field-0 e;
        first = carried_first p.law c.requires.floor old first then' new c.in-At.field-0 e;
        none = ap (λ (o : OutboxView). o.entries) c.in_ok-cause.ensures.outbox ∙ c.in_ok-settle.ensures.none;
        unsettled = ap (λ (o : OutboxView). o.unsettled) c.in_ok-cause.ensures.outbox ∙ c.in_ok-settle.ensures.unsettled;
        kept = c.in_ok-cause.ensures.kept ∙ kept;
        measured = λ n same.
            let at = stands_at p.law c.requires.floor old first then' new c.in-At.field-0 e c.requires.keeps g.R.Replica.meaning.state g.met.R.Replica.state_is c.in_ok-cause.ensures.follows.now in
            record { at = at; is = same_number _ n same ∙ (c.cursor.ensures.cursor ∙ sym at.size) };
      };
    }
