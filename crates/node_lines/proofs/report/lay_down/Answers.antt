use Rattle.std.proofs.Common.{sym, subst, ◌++◌, ◌∷◌, []}
use Rattle.engine_api.specs.Packing.{packed}
use Rattle.node_lines.specs.Moving.{Moves}
use Rattle.node_lines.proofs.Moving.{moves-plain}
use Rattle.node_lines.proofs.Reporting.{plain-near, plain-rank, pack-none, lays-down}
use Rattle.node_lines.proofs.report.lay_down.Goals as goal

pub propose-requires-clause-own : goal.propose-requires-clause-own
propose-requires-clause-own g c =
    let n = c.args.node.now in
    subst (λ k. g.T.Law.Rules.law.may n.who (packed n.replica.origin (k ++ c.args.item ∷ []))) (sym c.requires.kept) c.requires.own

pub pack-requires-clause-kept : goal.pack-requires-clause-kept
pack-requires-clause-kept g c =
    let p = g.T.Law.Rules in
    let n = c.args.node.now in
    let m = c.propose.new.self in
    let can = pack-none n.replica.kept c.requires.kept in
    let first : Moves p.law n m [] = moves-plain p.law c.requires.floor n m c.args.item can c.requires.item c.in-Ok.ensures.keeps (c.in-Ok.ensures.near (plain-near n.replica.contents c.args.item c.requires.plain)).2 (plain-rank c.args.item c.requires.plain)
    (c.in-Ok.ensures.near (plain-near n.replica.contents c.args.item c.requires.plain)).0 in
    first.goes.packs can

pub returns : goal.returns
returns g c =
    let p = g.T.Law.Rules in
    let n = c.args.node.now in
    let m = c.propose.new.self in
    let can = pack-none n.replica.kept c.requires.kept in
    let near = c.in-Ok.ensures.near (plain-near n.replica.contents c.args.item c.requires.plain) in
    let sent = near.0 in
    let first : Moves p.law n m [] = moves-plain p.law c.requires.floor n m c.args.item can c.requires.item c.in-Ok.ensures.keeps near.2 (plain-rank c.args.item c.requires.plain) sent in
    record {
      lays = lays-down p.law c.requires.floor n m c.pack.new.node c.args.item first c.in_ok-pack.ensures.moves c.requires.none c.requires.kept c.in_ok-pack.ensures.kept sent c.in_ok-pack.ensures.sent near.2 c.in_ok-pack.ensures.replica;
    }
