use Rattle.std.proofs.Common.{◌≡◌, refl, sym, ap, ◌∙◌, subst, [], ◌∷◌, None}
use Rattle.base_engine.specs.Settling.{OutboxView, cause_in}
use Rattle.replica_api.specs.Replica.{ReplicaView}
use Rattle.node_lines.specs.Moving.{Moves, failure_of}
use Rattle.node_lines.proofs.Moving.{moves-both}
use Rattle.node_lines.proofs.Ending.{Ended, looks_at}
use Rattle.node_lines.proofs.lines.look.Goals as goal

pub returns-in-Some-clause-looks : goal.returns-in-Some-clause-looks
returns-in-Some-clause-looks g c =
    let p = g.T.Law.Rules in
    record {
      others = [];
      moves = moves-both p.law c.requires.floor c.args.node.now c.pack.new.node c.settle.new.node [] [] c.in_ok-pack.ensures.moves c.in_ok-settle.ensures.moves;
      looks = (refl, c.in-Some.ensures.some c.in-Some.cause refl);
    }

pub returns-in-Failed-clause-looks : goal.returns-in-Failed-clause-looks
returns-in-Failed-clause-looks g c =
    let p = g.T.Law.Rules in
    let last : Moves p.law c.settle.new.node c.sync.new.node (c.in-Failed.cause ∷ []) = subst (λ s. Moves p.law c.settle.new.node c.sync.new.node (failure_of s)) c.in-Failed.is c.in_ok-cause.ensures.moves in
    record {
      others = c.in-Failed.cause ∷ [];
      moves = moves-both p.law c.requires.floor c.args.node.now c.settle.new.node c.sync.new.node [] (c.in-Failed.cause ∷ [])
          (moves-both p.law c.requires.floor c.args.node.now c.pack.new.node c.settle.new.node [] [] c.in_ok-pack.ensures.moves c.in_ok-settle.ensures.moves) last;
      looks = (refl, (c.in-None.ensures.stopped refl, subst (λ (o : OutboxView). cause_in c.args.desk.now.session o.given ≡ None) (sym c.in_ok-cause.ensures.outbox) (c.in-None.ensures.given refl)));
    }

pub returns-in_ok-found-in-At-clause-looks : goal.returns-in_ok-found-in-At-clause-looks
returns-in_ok-found-in-At-clause-looks g c =
    let p = g.T.Law.Rules in
    let r = g.R.Replica in
    let old = c.args.node.now in
    let first = c.pack.new.node in
    let then' = c.settle.new.node in
    let new = c.sync.new.node in
    let d = c.args.desk.now in
    let found = c.in_ok-cause.ensures.tail c.in-At.after c.in-At.is in
    let kept = ap (λ (r : ReplicaView). r.kept) c.in_ok-settle.ensures.replica ∙ c.in_ok-pack.ensures.kept in
    let e : Ended p.law old first then' new c.in-At.after = record {
      first = c.in_ok-pack.ensures.moves;
      next = c.in_ok-settle.ensures.moves;
      none = c.in_ok-settle.ensures.none;
      kept = kept;
      last = subst (λ s. Moves p.law then' new (failure_of s)) c.in-At.is c.in_ok-cause.ensures.moves;
      above = found.0;
      at = found.1;
    } in
    looks_at p.law c.requires.floor old first then' new c.in-At.after e c.requires.keeps r.meaning.state d c.args.query.now c.in_ok-found-in-At.found g.met.R.Replica.state_is c.requires.desk
    (c.in-None.ensures.stopped refl)
    (subst (λ (o : OutboxView). cause_in d.session o.given ≡ None) (sym c.in_ok-cause.ensures.outbox) (c.in-None.ensures.given refl))
    c.requires.bound c.in_ok-cause.ensures.follows.now c.in_ok-found-in-At.ensures.found
