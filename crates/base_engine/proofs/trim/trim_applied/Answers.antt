use Rattle.std.proofs.Common.{[], sym, subst, arith, append-nil}
use Rattle.legal_journal.specs.Journal.{state_of, IsFree}
use Rattle.virtual_log.specs.Truncating.{IsPrefixTrimmed}
use Rattle.base_engine.specs.Causes.{Blames}
use Rattle.base_engine.proofs.Landing.{blames_told}
use Rattle.base_engine.proofs.Freeing.{free_to, within_cursor}
use Rattle.base_engine.proofs.trim.trim_applied.Goals as goal

pub prefix_trim-requires-clause-known : goal.prefix_trim-requires-clause-known
prefix_trim-requires-clause-known g c =
    let v = g.R.Replica.shows c.args.replica.now in
    omega (arith, c.in-Ok.ensures, within_cursor c.args.nodes v, c.requires.bounded.now)

pub prefix_trim-requires-clause-free : goal.prefix_trim-requires-clause-free
prefix_trim-requires-clause-free g c =
    let p = g.L.Law.Rules in
    let t = g.L.SharedLog in
    let r = g.R.Replica in
    let seen = t.seen c.args.log.now in
    subst (λ n. IsFree (state_of seen).shown p.law.floor n) (sym c.in-Ok.ensures)
    (free_to p.law t.holds seen c.requires.legal c.requires.shown r.meaning c.args.nodes (r.shows c.args.replica.now) c.requires.follows c.requires.free)

pub returns-in-Ok-prefix_trim-clause-trims : goal.returns-in-Ok-prefix_trim-clause-trims
returns-in-Ok-prefix_trim-clause-trims g c =
    let t = g.L.SharedLog in
    subst (λ n. IsPrefixTrimmed (t.who c.args.log.now) (t.seen c.args.log.now) n c.in-Ok-prefix_trim.trim (t.seen c.prefix_trim.new.self)) c.in-Ok.ensures c.in-Ok-prefix_trim.ensures.trimmed

pub returns-in-Err-prefix_trim-clause-blames : goal.returns-in-Err-prefix_trim-clause-blames
returns-in-Err-prefix_trim-clause-blames g c = λ faults faults'.
    let t = g.L.SharedLog in
    let w = t.who c.args.log.now in
    let old = t.seen c.args.log.now in
    let new = t.seen c.prefix_trim.new.self in
    subst (λ f. Blames w old faults f new faults') (sym c.told.ensures)
    (blames_told w old old new faults faults' c.in-Err-prefix_trim.fault ([], sym (append-nil old)) c.in-Err-prefix_trim.ensures.err)
