use Rattle.node_course.proofs.Together.{played_run, desk_run}
use Rattle.node_course.proofs.joined.what_a_node_knows_is_so.Goals as goal

pub returns-clause-played : goal.returns-clause-played
returns-clause-played g c = let p = g.P.Rules in let replica = g.S.Replica in λ lines home nodes run looks courses n from at done i l seat desks join least most was before get own.
    played_run p.law replica.meaning lines home nodes run looks courses join n from at done seat desks least most was i l before get own

pub returns-clause-desks : goal.returns-clause-desks
returns-clause-desks g c = let p = g.P.Rules in let replica = g.S.Replica in λ lines home nodes run looks courses n from at done s d seat desks join least most was get.
    desk_run p.law replica.meaning lines home nodes run looks courses join n from at done seat desks least most was s d get
