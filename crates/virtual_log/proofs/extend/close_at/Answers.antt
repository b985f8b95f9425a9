use Rattle.std.proofs.Common.{◌+◌, ◌≡◌, max, refl, ap, subst, arith}
use Rattle.delos_types.specs.declared.chain.Segment.{Segment}
use Rattle.virtual_log.specs.declared.write.Settled.{Settled}
use Rattle.virtual_log.specs.declared.write.Change.TheVariants.{Close}
use Rattle.virtual_log.specs.Changing.{IsMade, Settles}
use Rattle.virtual_log.proofs.Closing.{seam, closed_goes, closed_so}
use Rattle.virtual_log.proofs.extend.close_at.Goals as goal

pub overflow_add-start : goal.overflow_add-start
overflow_add-start g c =
    let p = g.T.Law.Rules in
    let k = c.args.known.now in
    omega (arith, seam p.law (g.T.Turns.seen c.args.turns.now) k.version k.tail c.args.length k.chain c.requires.legal c.requires.goes_by c.requires.told, ap (λ (s : Segment). s.start) c.last_of-last.ensures)

pub returns-in-Written-clause-goes_by : goal.returns-in-Written-clause-goes_by
returns-in-Written-clause-goes_by g c =
    let p = g.T.Law.Rules in
    let t = g.T.Turns in
    let who = t.who c.args.turns.now in
    let old = t.seen c.args.turns.now in
    let new = t.seen c.write.new.turns in
    let k = c.write.new.known in
    let last = c.last_of-last.result in
    let made : IsMade who old (Close last c.args.length) k.version k.chain new = subst (λ (o : Settled). Settles who old (Close last c.args.length) k.version k.chain new o) c.in-Written.is c.in_ok-write.ensures.settled in
    closed_goes p.law who old new last c.args.length k.version k.tail c.max-known.result (last.start + c.args.length) k.chain c.in_ok-write.ensures.later.legal made c.in_ok-write.ensures.goes_by refl c.max-known.ensures

pub returns-in-Written-clause-closed : goal.returns-in-Written-clause-closed
returns-in-Written-clause-closed g c =
    let t = g.T.Turns in
    let who = t.who c.args.turns.now in
    let old = t.seen c.args.turns.now in
    let new = t.seen c.write.new.turns in
    let k = c.write.new.known in
    let last = c.last_of-last.result in
    let made : IsMade who old (Close last c.args.length) k.version k.chain new = subst (λ (o : Settled). Settles who old (Close last c.args.length) k.version k.chain new o) c.in-Written.is c.in_ok-write.ensures.settled in
    (closed_so who old new last _ c.args.length k.version k.chain c.last_of-last.ensures made, subst (λ n. c.max-known.result ≡ max n (last.start + c.args.length)) c.in_ok-write.ensures.known c.max-known.ensures, refl)
