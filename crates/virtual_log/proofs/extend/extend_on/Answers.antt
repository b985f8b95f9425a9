use Rattle.std.proofs.Common.{◌≡◌, inl, inr, ◌+◌, ◌<◌, ◌∙◌, [], length, refl, ap, subst, arith}
use Rattle.std.proofs.lemmas.Result.{err_from_is_err_and}
use Rattle.delos_types.specs.declared.chain.Segment.{Segment}
use Rattle.chain_map.specs.Chain.{last_segment}
use Rattle.virtual_log.specs.Causes.{HasCause}
use Rattle.virtual_log.specs.Extending.{Closes}
use Rattle.virtual_log.proofs.OneTurn.{nil, later_trans, cause_since}
use Rattle.virtual_log.proofs.Going.{last_there, goes_later, goes_now, last_within}
use Rattle.virtual_log.proofs.Writing.{wrote_trans, wrote_by}
use Rattle.virtual_log.proofs.Sealing.{seals_as, only_none, at_then, at_same, after_look}
use Rattle.virtual_log.proofs.Closing.{closed_since, follows_closed}
use Rattle.virtual_log.proofs.Saying.{none_drawn, drawn_then, draws_any, draws_then}
use Rattle.virtual_log.proofs.Calming.{calm_then}
use Rattle.virtual_log.proofs.Operating.{operates_then, left_then, closes_none}
use Rattle.virtual_log.proofs.Rising.{rises_now}
use Rattle.virtual_log.proofs.extend.extend_on.Goals as goal

pub returns-in_err-version-clause-goes_by : goal.returns-in_err-version-clause-goes_by
returns-in_err-version-clause-goes_by g c =
    let p = g.T.Law.Rules in
    let t = g.T.Turns in
    let who = t.who c.args.turns.now in
    let k = c.args.known.now in
    let old = t.seen c.args.turns.now in
    let a = t.seen c.look.new.turns in
    goes_later p.law old a k.version k.tail k.chain c.in_err-version.ensures.later c.requires.goes_by

pub overflow_add-last : goal.overflow_add-last
overflow_add-last g c =
    let p = g.T.Law.Rules in
    let t = g.T.Turns in
    let who = t.who c.args.turns.now in
    let k = c.args.known.now in
    let old = t.seen c.args.turns.now in
    let a = t.seen c.look.new.turns in
    let first = c.in_ok-version.ensures in
    let v = c.in_ok-version.version in
    let chain = c.in_ok-version.chain in
    let goes = goes_now p.law who k.version k.tail v k.chain chain old a c.requires.legal first.later c.requires.goes_by first.ok in
    let last = c.last_of-last.result in
    let few = last_within p.law a v k.tail chain last first.later.legal goes c.last_of-last.ensures in
    omega (arith, few.0, few.1)

pub returns-then-last-shelf_len-clause-goes_by : goal.returns-then-last-shelf_len-clause-goes_by
returns-then-last-shelf_len-clause-goes_by g c =
    let p = g.T.Law.Rules in
    let t = g.T.Turns in
    let who = t.who c.args.turns.now in
    let k = c.args.known.now in
    let old = t.seen c.args.turns.now in
    let a = t.seen c.look.new.turns in
    let first = c.in_ok-version.ensures in
    let v = c.in_ok-version.version in
    let chain = c.in_ok-version.chain in
    let goes = goes_now p.law who k.version k.tail v k.chain chain old a c.requires.legal first.later c.requires.goes_by first.ok in
    let last = c.last_of-last.result in
    let few = last_within p.law a v k.tail chain last first.later.legal goes c.last_of-last.ensures in
    goes

pub seal-requires-clause-spare : goal.seal-requires-clause-spare
seal-requires-clause-spare g c =
    let p = g.T.Law.Rules in
    let t = g.T.Turns in
    let who = t.who c.args.turns.now in
    let k = c.args.known.now in
    let old = t.seen c.args.turns.now in
    let a = t.seen c.look.new.turns in
    let first = c.in_ok-version.ensures in
    let v = c.in_ok-version.version in
    let chain = c.in_ok-version.chain in
    let goes = goes_now p.law who k.version k.tail v k.chain chain old a c.requires.legal first.later c.requires.goes_by first.ok in
    let last = c.last_of-last.result in
    let few = last_within p.law a v k.tail chain last first.later.legal goes c.last_of-last.ensures in
    omega (arith, few.0, c.if-last-shelf_len.false, c.requires.shelf)

pub returns-in_err-seal-clause-goes_by : goal.returns-in_err-seal-clause-goes_by
returns-in_err-seal-clause-goes_by g c =
    let p = g.T.Law.Rules in
    let t = g.T.Turns in
    let who = t.who c.args.turns.now in
    let k = c.args.known.now in
    let old = t.seen c.args.turns.now in
    let a = t.seen c.look.new.turns in
    let first = c.in_ok-version.ensures in
    let v = c.in_ok-version.version in
    let chain = c.in_ok-version.chain in
    let goes = goes_now p.law who k.version k.tail v k.chain chain old a c.requires.legal first.later c.requires.goes_by first.ok in
    let last = c.last_of-last.result in
    let few = last_within p.law a v k.tail chain last first.later.legal goes c.last_of-last.ensures in
    let b = t.seen c.seal.new.turns in
    goes_later p.law a b v k.tail chain c.in_err-seal.ensures.later goes

pub returns-in_err-seal-clause-err : goal.returns-in_err-seal-clause-err
returns-in_err-seal-clause-err g c =
    let p = g.T.Law.Rules in
    let t = g.T.Turns in
    let who = t.who c.args.turns.now in
    let k = c.args.known.now in
    let old = t.seen c.args.turns.now in
    let a = t.seen c.look.new.turns in
    let first = c.in_ok-version.ensures in
    let v = c.in_ok-version.version in
    let chain = c.in_ok-version.chain in
    let goes = goes_now p.law who k.version k.tail v k.chain chain old a c.requires.legal first.later c.requires.goes_by first.ok in
    let last = c.last_of-last.result in
    let few = last_within p.law a v k.tail chain last first.later.legal goes c.last_of-last.ensures in
    let b = t.seen c.seal.new.turns in
    let r = err_from_is_err_and c.from_residual-in_err-seal.result c.from_residual-in_err-seal.ensures.1 in
    let f = c.in_err-seal.field-0.0 in
    rw (r.1, r.2) (cause_since who f old a b first.later.more first.later.seen (subst (λ w. HasCause w a f b) first.who c.in_err-seal.ensures.err))

pub find_tail-requires-clause-started : goal.find_tail-requires-clause-started
find_tail-requires-clause-started g c =
    let p = g.T.Law.Rules in
    let t = g.T.Turns in
    let who = t.who c.args.turns.now in
    let k = c.args.known.now in
    let old = t.seen c.args.turns.now in
    let a = t.seen c.look.new.turns in
    let first = c.in_ok-version.ensures in
    let v = c.in_ok-version.version in
    let chain = c.in_ok-version.chain in
    let goes = goes_now p.law who k.version k.tail v k.chain chain old a c.requires.legal first.later c.requires.goes_by first.ok in
    let last = c.last_of-last.result in
    let few = last_within p.law a v k.tail chain last first.later.legal goes c.last_of-last.ensures in
    let b = t.seen c.seal.new.turns in
    let second = c.in_ok-seal.ensures in
    let goes_b = goes_later p.law a b v k.tail chain second.later goes in
    last_there p.law b v k.tail chain last second.later.legal goes_b c.last_of-last.ensures

pub returns-in_err-length-clause-goes_by : goal.returns-in_err-length-clause-goes_by
returns-in_err-length-clause-goes_by g c =
    let p = g.T.Law.Rules in
    let t = g.T.Turns in
    let who = t.who c.args.turns.now in
    let k = c.args.known.now in
    let old = t.seen c.args.turns.now in
    let a = t.seen c.look.new.turns in
    let first = c.in_ok-version.ensures in
    let v = c.in_ok-version.version in
    let chain = c.in_ok-version.chain in
    let goes = goes_now p.law who k.version k.tail v k.chain chain old a c.requires.legal first.later c.requires.goes_by first.ok in
    let last = c.last_of-last.result in
    let few = last_within p.law a v k.tail chain last first.later.legal goes c.last_of-last.ensures in
    let b = t.seen c.seal.new.turns in
    let second = c.in_ok-seal.ensures in
    let goes_b = goes_later p.law a b v k.tail chain second.later goes in
    let d = t.seen c.find_tail.new.turns in
    goes_later p.law b d v k.tail chain c.in_err-length.ensures.later goes_b

pub returns-in_err-length-clause-err : goal.returns-in_err-length-clause-err
returns-in_err-length-clause-err g c =
    let p = g.T.Law.Rules in
    let t = g.T.Turns in
    let who = t.who c.args.turns.now in
    let old = t.seen c.args.turns.now in
    let a = t.seen c.look.new.turns in
    let first = c.in_ok-version.ensures in
    let b = t.seen c.seal.new.turns in
    let second = c.in_ok-seal.ensures in
    let d = t.seen c.find_tail.new.turns in
    let r = err_from_is_err_and c.from_residual-in_err-length.result c.from_residual-in_err-length.ensures.1 in
    let f = c.in_err-length.field-0.0 in
    let before = later_trans p.law old a b first.later second.later in
    rw (r.1, r.2) (cause_since who f old b d before.more before.seen (subst (λ w. HasCause w b f d) (second.who ∙ first.who) c.in_err-length.ensures.err))

pub close_at-requires-clause-goes_by : goal.close_at-requires-clause-goes_by
close_at-requires-clause-goes_by g c =
    let p = g.T.Law.Rules in
    let t = g.T.Turns in
    let who = t.who c.args.turns.now in
    let k = c.args.known.now in
    let old = t.seen c.args.turns.now in
    let a = t.seen c.look.new.turns in
    let first = c.in_ok-version.ensures in
    let v = c.in_ok-version.version in
    let chain = c.in_ok-version.chain in
    let goes = goes_now p.law who k.version k.tail v k.chain chain old a c.requires.legal first.later c.requires.goes_by first.ok in
    let last = c.last_of-last.result in
    let few = last_within p.law a v k.tail chain last first.later.legal goes c.last_of-last.ensures in
    let b = t.seen c.seal.new.turns in
    let second = c.in_ok-seal.ensures in
    let goes_b = goes_later p.law a b v k.tail chain second.later goes in
    let d = t.seen c.find_tail.new.turns in
    let third = c.in_ok-length.ensures in
    let goes_d = goes_later p.law b d v k.tail chain third.later goes_b in
    let to_d = later_trans p.law a b d second.later third.later in
    let who_d = third.who ∙ (second.who ∙ first.who) in
    goes_d

pub returns-in_err-closed-clause-err : goal.returns-in_err-closed-clause-err
returns-in_err-closed-clause-err g c =
    let p = g.T.Law.Rules in
    let t = g.T.Turns in
    let who = t.who c.args.turns.now in
    let k = c.args.known.now in
    let old = t.seen c.args.turns.now in
    let a = t.seen c.look.new.turns in
    let first = c.in_ok-version.ensures in
    let v = c.in_ok-version.version in
    let chain = c.in_ok-version.chain in
    let goes = goes_now p.law who k.version k.tail v k.chain chain old a c.requires.legal first.later c.requires.goes_by first.ok in
    let last = c.last_of-last.result in
    let few = last_within p.law a v k.tail chain last first.later.legal goes c.last_of-last.ensures in
    let b = t.seen c.seal.new.turns in
    let second = c.in_ok-seal.ensures in
    let goes_b = goes_later p.law a b v k.tail chain second.later goes in
    let d = t.seen c.find_tail.new.turns in
    let third = c.in_ok-length.ensures in
    let goes_d = goes_later p.law b d v k.tail chain third.later goes_b in
    let to_d = later_trans p.law a b d second.later third.later in
    let e = t.seen c.close_at.new.turns in
    let who_d = third.who ∙ (second.who ∙ first.who) in
    let r = err_from_is_err_and c.from_residual-in_err-closed.result c.from_residual-in_err-closed.ensures.1 in
    let f = c.in_err-closed.field-0.0 in
    let before = later_trans p.law old a d first.later to_d in
    rw (r.1, r.2) (cause_since who f old d e before.more before.seen (subst (λ w. HasCause w d f e) who_d c.in_err-closed.ensures.err))

pub returns-clause-extension : goal.returns-clause-extension
returns-clause-extension g c =
    let p = g.T.Law.Rules in
    let t = g.T.Turns in
    let who = t.who c.args.turns.now in
    let k = c.args.known.now in
    let old = t.seen c.args.turns.now in
    let a = t.seen c.look.new.turns in
    let first = c.in_ok-version.ensures in
    let v = c.in_ok-version.version in
    let chain = c.in_ok-version.chain in
    let goes = goes_now p.law who k.version k.tail v k.chain chain old a c.requires.legal first.later c.requires.goes_by first.ok in
    let last = c.last_of-last.result in
    let few = last_within p.law a v k.tail chain last first.later.legal goes c.last_of-last.ensures in
    let b = t.seen c.seal.new.turns in
    let second = c.in_ok-seal.ensures in
    let goes_b = goes_later p.law a b v k.tail chain second.later goes in
    let d = t.seen c.find_tail.new.turns in
    let third = c.in_ok-length.ensures in
    let goes_d = goes_later p.law b d v k.tail chain third.later goes_b in
    let to_d = later_trans p.law a b d second.later third.later in
    let e = t.seen c.close_at.new.turns in
    let who_d = third.who ∙ (second.who ∙ first.who) in
    let fourth = c.in_ok-closed.ensures in
    let to_e = later_trans p.law a d e to_d fourth.later in
    let quiet = wrote_trans who a b d (wrote_by _ _ _ _ first.who second.quiet) (wrote_by _ _ _ _ (second.who ∙ first.who) third.quiet) in
    let sealed = at_then who (last_segment chain).id a d e
    (at_then who (last_segment chain).id a b d
    (at_same who (t.who c.look.new.turns) c.last_of-last.result.id (last_segment chain).id a b first.who (ap (λ (s : Segment). s.id) c.last_of-last.ensures) second.seals)
    (seals_as who (t.who c.seal.new.turns) b d (second.who ∙ first.who) third.unsealed))
    (seals_as who (t.who c.find_tail.new.turns) d e who_d fourth.unsealed) in
    let spare : (last_segment chain).id + 1 < length p.law.shelf = omega (arith, few.0, c.if-last-shelf_len.false, c.requires.shelf, ap (λ (s : Segment). s.id) c.last_of-last.ensures) in
    record {
      others = first.ok.others;
      apart = first.ok.apart;
      version = v;
      chain = chain;
      looked = a;
      look = first.ok.seen;
      rest = sealed.more;
      seen = sealed.seen;
      follows = follows_closed (length p.law.shelf) who a (last_segment chain) k.tail c.close_at.new.known.tail c.close_at.new.known.version sealed.more e c.in_ok-closed.closed spare
          (closed_since p.law who v chain old first.ok.others a d e to_d.more fourth.later.legal first.ok.seen to_d.seen quiet k.tail c.close_at.new.known.tail c.close_at.new.known.version c.in_ok-closed.closed
          (subst (λ w. Closes w d (last_segment chain) k.tail c.close_at.new.known.tail c.close_at.new.known.version e c.in_ok-closed.closed) who_d fourth.closed));
      seals = sealed.only;
    }

pub returns-then-last-shelf_len-clause-extension : goal.returns-then-last-shelf_len-clause-extension
returns-then-last-shelf_len-clause-extension g c =
    let p = g.T.Law.Rules in
    let t = g.T.Turns in
    let a = t.seen c.look.new.turns in
    let first = c.in_ok-version.ensures in
    let chain = c.in_ok-version.chain in
    let none : (last_segment chain).id + 1 ≡ length p.law.shelf = omega (arith, c.if-last-shelf_len.true, c.requires.shelf, ap (λ (s : Segment). s.id) c.last_of-last.ensures) in
    record {
      others = first.ok.others;
      apart = first.ok.apart;
      version = c.in_ok-version.version;
      chain = chain;
      looked = a;
      look = first.ok.seen;
      rest = [];
      seen = nil a;
      follows = (none, refl, refl);
      seals = only_none (t.who c.args.turns.now) (last_segment chain).id [] refl;
    }

pub returns-in_err-version-clause-seals : goal.returns-in_err-version-clause-seals
returns-in_err-version-clause-seals g c = inl c.in_err-version.ensures.unsealed

pub returns-then-last-shelf_len-clause-seals : goal.returns-then-last-shelf_len-clause-seals
returns-then-last-shelf_len-clause-seals g c = inl c.in_ok-version.ensures.unsealed

pub returns-in_err-seal-clause-seals : goal.returns-in_err-seal-clause-seals
returns-in_err-seal-clause-seals g c =
    let t = g.T.Turns in
    let who = t.who c.args.turns.now in
    let old = t.seen c.args.turns.now in
    let a = t.seen c.look.new.turns in
    let first = c.in_ok-version.ensures in
    let v = c.in_ok-version.version in
    let chain = c.in_ok-version.chain in
    let id = (last_segment chain).id in
    let b = t.seen c.seal.new.turns in
    let sealed = at_same who (t.who c.look.new.turns) c.last_of-last.result.id id a b first.who (ap (λ (s : Segment). s.id) c.last_of-last.ensures) c.in_err-seal.ensures.seals in
    inr (after_look who old first.ok.others a b v chain first.ok.apart first.ok.seen sealed)

pub returns-in_err-length-clause-seals : goal.returns-in_err-length-clause-seals
returns-in_err-length-clause-seals g c =
    let t = g.T.Turns in
    let who = t.who c.args.turns.now in
    let old = t.seen c.args.turns.now in
    let a = t.seen c.look.new.turns in
    let first = c.in_ok-version.ensures in
    let v = c.in_ok-version.version in
    let chain = c.in_ok-version.chain in
    let id = (last_segment chain).id in
    let b = t.seen c.seal.new.turns in
    let sealed = at_same who (t.who c.look.new.turns) c.last_of-last.result.id id a b first.who (ap (λ (s : Segment). s.id) c.last_of-last.ensures) c.in_ok-seal.ensures.seals in
    let second = c.in_ok-seal.ensures in
    let d = t.seen c.find_tail.new.turns in
    let found = at_then who id a b d sealed (seals_as who (t.who c.seal.new.turns) b d (second.who ∙ first.who) c.in_err-length.ensures.unsealed) in
    inr (after_look who old first.ok.others a d v chain first.ok.apart first.ok.seen found)

pub returns-in_err-closed-clause-seals : goal.returns-in_err-closed-clause-seals
returns-in_err-closed-clause-seals g c =
    let t = g.T.Turns in
    let who = t.who c.args.turns.now in
    let old = t.seen c.args.turns.now in
    let a = t.seen c.look.new.turns in
    let first = c.in_ok-version.ensures in
    let v = c.in_ok-version.version in
    let chain = c.in_ok-version.chain in
    let id = (last_segment chain).id in
    let b = t.seen c.seal.new.turns in
    let sealed = at_same who (t.who c.look.new.turns) c.last_of-last.result.id id a b first.who (ap (λ (s : Segment). s.id) c.last_of-last.ensures) c.in_ok-seal.ensures.seals in
    let second = c.in_ok-seal.ensures in
    let d = t.seen c.find_tail.new.turns in
    let found = at_then who id a b d sealed (seals_as who (t.who c.seal.new.turns) b d (second.who ∙ first.who) c.in_ok-length.ensures.unsealed) in
    let third = c.in_ok-length.ensures in
    let e = t.seen c.close_at.new.turns in
    let closed = at_then who id a d e found (seals_as who (t.who c.find_tail.new.turns) d e (third.who ∙ (second.who ∙ first.who)) c.in_err-closed.ensures.unsealed) in
    inr (after_look who old first.ok.others a e v chain first.ok.apart first.ok.seen closed)

pub returns-clause-seals : goal.returns-clause-seals
returns-clause-seals g c =
    let t = g.T.Turns in
    let who = t.who c.args.turns.now in
    let old = t.seen c.args.turns.now in
    let a = t.seen c.look.new.turns in
    let first = c.in_ok-version.ensures in
    let v = c.in_ok-version.version in
    let chain = c.in_ok-version.chain in
    let id = (last_segment chain).id in
    let b = t.seen c.seal.new.turns in
    let sealed = at_same who (t.who c.look.new.turns) c.last_of-last.result.id id a b first.who (ap (λ (s : Segment). s.id) c.last_of-last.ensures) c.in_ok-seal.ensures.seals in
    let second = c.in_ok-seal.ensures in
    let d = t.seen c.find_tail.new.turns in
    let found = at_then who id a b d sealed (seals_as who (t.who c.seal.new.turns) b d (second.who ∙ first.who) c.in_ok-length.ensures.unsealed) in
    let third = c.in_ok-length.ensures in
    let e = t.seen c.close_at.new.turns in
    let closed = at_then who id a d e found (seals_as who (t.who c.find_tail.new.turns) d e (third.who ∙ (second.who ∙ first.who)) c.in_ok-closed.ensures.unsealed) in
    inr (after_look who old first.ok.others a e v chain first.ok.apart first.ok.seen closed)

pub returns-in_err-closed-clause-later : goal.returns-in_err-closed-clause-later
returns-in_err-closed-clause-later g c =
    let p = g.T.Law.Rules in
    let t = g.T.Turns in
    let old = t.seen c.args.turns.now in
    let a = t.seen c.look.new.turns in
    let b = t.seen c.seal.new.turns in
    let d = t.seen c.find_tail.new.turns in
    let e = t.seen c.close_at.new.turns in
    later_trans p.law old d e
    (later_trans p.law old b d (later_trans p.law old a b c.in_ok-version.ensures.later c.in_ok-seal.ensures.later) c.in_ok-length.ensures.later)
    c.in_err-closed.ensures.later

pub returns-clause-later : goal.returns-clause-later
returns-clause-later g c =
    let p = g.T.Law.Rules in
    let t = g.T.Turns in
    let old = t.seen c.args.turns.now in
    let a = t.seen c.look.new.turns in
    let b = t.seen c.seal.new.turns in
    let d = t.seen c.find_tail.new.turns in
    let e = t.seen c.close_at.new.turns in
    later_trans p.law old d e
    (later_trans p.law old b d (later_trans p.law old a b c.in_ok-version.ensures.later c.in_ok-seal.ensures.later) c.in_ok-length.ensures.later)
    c.in_ok-closed.ensures.later

pub returns-in_err-version-clause-memory : goal.returns-in_err-version-clause-memory
returns-in_err-version-clause-memory g c =
    let r = err_from_is_err_and c.from_residual.result c.from_residual.ensures.1 in
    rw (r.1, r.2) (λ is. (c.in_err-version.ensures.memory is))

pub returns-then-last-shelf_len-clause-calm : goal.returns-then-last-shelf_len-clause-calm
returns-then-last-shelf_len-clause-calm g c = c.in_ok-version.ensures.calm

pub returns-in_err-seal-clause-memory : goal.returns-in_err-seal-clause-memory
returns-in_err-seal-clause-memory g c =
    let t = g.T.Turns in
    let who = t.who c.args.turns.now in
    let old = t.seen c.args.turns.now in
    let a = t.seen c.look.new.turns in
    let first = c.in_ok-version.ensures in
    let r = err_from_is_err_and c.from_residual-in_err-seal.result c.from_residual-in_err-seal.ensures.1 in
    rw (r.1, r.2) (λ is. calm_then who (t.who c.look.new.turns) old a (t.seen c.seal.new.turns) first.who first.calm (c.in_err-seal.ensures.memory is))

pub returns-in_err-length-clause-memory : goal.returns-in_err-length-clause-memory
returns-in_err-length-clause-memory g c =
    let t = g.T.Turns in
    let who = t.who c.args.turns.now in
    let old = t.seen c.args.turns.now in
    let a = t.seen c.look.new.turns in
    let first = c.in_ok-version.ensures in
    let b = t.seen c.seal.new.turns in
    let second = c.in_ok-seal.ensures in
    let to_b = calm_then who (t.who c.look.new.turns) old a b first.who first.calm second.calm in
    let r = err_from_is_err_and c.from_residual-in_err-length.result c.from_residual-in_err-length.ensures.1 in
    rw (r.1, r.2) (λ is. calm_then who (t.who c.seal.new.turns) old b (t.seen c.find_tail.new.turns) (second.who ∙ first.who) to_b (c.in_err-length.ensures.memory is))

pub returns-in_err-closed-clause-memory : goal.returns-in_err-closed-clause-memory
returns-in_err-closed-clause-memory g c =
    let t = g.T.Turns in
    let who = t.who c.args.turns.now in
    let old = t.seen c.args.turns.now in
    let a = t.seen c.look.new.turns in
    let first = c.in_ok-version.ensures in
    let b = t.seen c.seal.new.turns in
    let second = c.in_ok-seal.ensures in
    let to_b = calm_then who (t.who c.look.new.turns) old a b first.who first.calm second.calm in
    let d = t.seen c.find_tail.new.turns in
    let third = c.in_ok-length.ensures in
    let to_d = calm_then who (t.who c.seal.new.turns) old b d (second.who ∙ first.who) to_b third.calm in
    let r = err_from_is_err_and c.from_residual-in_err-closed.result c.from_residual-in_err-closed.ensures.1 in
    rw (r.1, r.2) (λ is. calm_then who (t.who c.find_tail.new.turns) old d (t.seen c.close_at.new.turns) (third.who ∙ (second.who ∙ first.who)) to_d (c.in_err-closed.ensures.memory is))

pub returns-clause-calm : goal.returns-clause-calm
returns-clause-calm g c =
    let t = g.T.Turns in
    let who = t.who c.args.turns.now in
    let old = t.seen c.args.turns.now in
    let a = t.seen c.look.new.turns in
    let first = c.in_ok-version.ensures in
    let b = t.seen c.seal.new.turns in
    let second = c.in_ok-seal.ensures in
    let to_b = calm_then who (t.who c.look.new.turns) old a b first.who first.calm second.calm in
    let d = t.seen c.find_tail.new.turns in
    let third = c.in_ok-length.ensures in
    let to_d = calm_then who (t.who c.seal.new.turns) old b d (second.who ∙ first.who) to_b third.calm in
    calm_then who (t.who c.find_tail.new.turns) old d (t.seen c.close_at.new.turns) (third.who ∙ (second.who ∙ first.who)) to_d c.in_ok-closed.ensures.calm

pub returns-in_err-version-clause-closes : goal.returns-in_err-version-clause-closes
returns-in_err-version-clause-closes g c = closes_none _ _ _ c.from_residual.result c.in_err-version.ensures.closes

pub returns-then-last-shelf_len-clause-closes : goal.returns-then-last-shelf_len-clause-closes
returns-then-last-shelf_len-clause-closes g c = c.in_ok-version.ensures.closes

pub returns-in_err-seal-clause-closes : goal.returns-in_err-seal-clause-closes
returns-in_err-seal-clause-closes g c =
    let t = g.T.Turns in
    let who = t.who c.args.turns.now in
    let old = t.seen c.args.turns.now in
    let a = t.seen c.look.new.turns in
    let first = c.in_ok-version.ensures in
    let r = err_from_is_err_and c.from_residual-in_err-seal.result c.from_residual-in_err-seal.ensures.1 in
    rw (r.1, r.2) (left_then who (t.who c.look.new.turns) old a (t.seen c.seal.new.turns) c.in_err-seal.field-0.0 first.who first.closes c.in_err-seal.ensures.closes)

pub returns-in_err-length-clause-closes : goal.returns-in_err-length-clause-closes
returns-in_err-length-clause-closes g c =
    let t = g.T.Turns in
    let who = t.who c.args.turns.now in
    let old = t.seen c.args.turns.now in
    let a = t.seen c.look.new.turns in
    let first = c.in_ok-version.ensures in
    let b = t.seen c.seal.new.turns in
    let second = c.in_ok-seal.ensures in
    let to_b = operates_then who (t.who c.look.new.turns) old a b first.who first.closes second.closes in
    let r = err_from_is_err_and c.from_residual-in_err-length.result c.from_residual-in_err-length.ensures.1 in
    rw (r.1, r.2) (left_then who (t.who c.seal.new.turns) old b (t.seen c.find_tail.new.turns) c.in_err-length.field-0.0 (second.who ∙ first.who) to_b c.in_err-length.ensures.closes)

pub returns-in_err-closed-clause-closes : goal.returns-in_err-closed-clause-closes
returns-in_err-closed-clause-closes g c =
    let t = g.T.Turns in
    let who = t.who c.args.turns.now in
    let old = t.seen c.args.turns.now in
    let a = t.seen c.look.new.turns in
    let first = c.in_ok-version.ensures in
    let b = t.seen c.seal.new.turns in
    let second = c.in_ok-seal.ensures in
    let to_b = operates_then who (t.who c.look.new.turns) old a b first.who first.closes second.closes in
    let d = t.seen c.find_tail.new.turns in
    let third = c.in_ok-length.ensures in
    let to_d = operates_then who (t.who c.seal.new.turns) old b d (second.who ∙ first.who) to_b third.closes in
    closes_none _ _ _ c.from_residual-in_err-closed.result (operates_then who (t.who c.find_tail.new.turns) old d (t.seen c.close_at.new.turns) (third.who ∙ (second.who ∙ first.who)) to_d c.in_err-closed.ensures.closes)

pub returns-clause-closes : goal.returns-clause-closes
returns-clause-closes g c =
    let t = g.T.Turns in
    let who = t.who c.args.turns.now in
    let old = t.seen c.args.turns.now in
    let a = t.seen c.look.new.turns in
    let first = c.in_ok-version.ensures in
    let b = t.seen c.seal.new.turns in
    let second = c.in_ok-seal.ensures in
    let to_b = operates_then who (t.who c.look.new.turns) old a b first.who first.closes second.closes in
    let d = t.seen c.find_tail.new.turns in
    let third = c.in_ok-length.ensures in
    let to_d = operates_then who (t.who c.seal.new.turns) old b d (second.who ∙ first.who) to_b third.closes in
    operates_then who (t.who c.find_tail.new.turns) old d (t.seen c.close_at.new.turns) (third.who ∙ (second.who ∙ first.who)) to_d c.in_ok-closed.ensures.closes

pub returns-then-last-shelf_len-clause-rises : goal.returns-then-last-shelf_len-clause-rises
returns-then-last-shelf_len-clause-rises g c =
    let p = g.T.Law.Rules in
    let t = g.T.Turns in
    let k = c.args.known.now in
    let first = c.in_ok-version.ensures in
    let up = rises_now p.law (t.who c.args.turns.now) k.version k.tail c.in_ok-version.version k.chain c.in_ok-version.chain (t.seen c.args.turns.now) (t.seen c.look.new.turns) first.later c.requires.goes_by first.ok in
    up

pub returns-in_err-seal-clause-rises : goal.returns-in_err-seal-clause-rises
returns-in_err-seal-clause-rises g c =
    let p = g.T.Law.Rules in
    let t = g.T.Turns in
    let k = c.args.known.now in
    let first = c.in_ok-version.ensures in
    let up = rises_now p.law (t.who c.args.turns.now) k.version k.tail c.in_ok-version.version k.chain c.in_ok-version.chain (t.seen c.args.turns.now) (t.seen c.look.new.turns) first.later c.requires.goes_by first.ok in
    up

pub returns-in_err-length-clause-rises : goal.returns-in_err-length-clause-rises
returns-in_err-length-clause-rises g c =
    let p = g.T.Law.Rules in
    let t = g.T.Turns in
    let k = c.args.known.now in
    let first = c.in_ok-version.ensures in
    let up = rises_now p.law (t.who c.args.turns.now) k.version k.tail c.in_ok-version.version k.chain c.in_ok-version.chain (t.seen c.args.turns.now) (t.seen c.look.new.turns) first.later c.requires.goes_by first.ok in
    up

pub returns-in_err-closed-clause-rises : goal.returns-in_err-closed-clause-rises
returns-in_err-closed-clause-rises g c =
    let p = g.T.Law.Rules in
    let t = g.T.Turns in
    let k = c.args.known.now in
    let first = c.in_ok-version.ensures in
    let up = rises_now p.law (t.who c.args.turns.now) k.version k.tail c.in_ok-version.version k.chain c.in_ok-version.chain (t.seen c.args.turns.now) (t.seen c.look.new.turns) first.later c.requires.goes_by first.ok in
    omega (arith, up, c.in_err-closed.ensures.rises)

pub returns-clause-rises : goal.returns-clause-rises
returns-clause-rises g c =
    let p = g.T.Law.Rules in
    let t = g.T.Turns in
    let k = c.args.known.now in
    let first = c.in_ok-version.ensures in
    let up = rises_now p.law (t.who c.args.turns.now) k.version k.tail c.in_ok-version.version k.chain c.in_ok-version.chain (t.seen c.args.turns.now) (t.seen c.look.new.turns) first.later c.requires.goes_by first.ok in
    omega (arith, up, c.in_ok-closed.ensures.rises)

pub returns-in_err-version-clause-draws : goal.returns-in_err-version-clause-draws
returns-in_err-version-clause-draws g c = draws_any _ _ _ c.from_residual.result (none_drawn c.in_err-version.ensures.silent)

pub returns-then-last-shelf_len-clause-draws : goal.returns-then-last-shelf_len-clause-draws
returns-then-last-shelf_len-clause-draws g c = (none_drawn c.in_ok-version.ensures.silent)

pub returns-in_err-seal-clause-draws : goal.returns-in_err-seal-clause-draws
returns-in_err-seal-clause-draws g c =
    let t = g.T.Turns in
    let who = t.who c.args.turns.now in
    let old = t.seen c.args.turns.now in
    let a = t.seen c.look.new.turns in
    let first = c.in_ok-version.ensures in
    let r = err_from_is_err_and c.from_residual-in_err-seal.result c.from_residual-in_err-seal.ensures.1 in
    rw (r.1, r.2) (draws_then _ who (t.who c.look.new.turns) old a (t.seen c.seal.new.turns) c.in_err-seal.field-0.0 first.who (none_drawn first.silent) c.in_err-seal.ensures.draws)

pub returns-in_err-length-clause-draws : goal.returns-in_err-length-clause-draws
returns-in_err-length-clause-draws g c =
    let t = g.T.Turns in
    let who = t.who c.args.turns.now in
    let old = t.seen c.args.turns.now in
    let a = t.seen c.look.new.turns in
    let first = c.in_ok-version.ensures in
    let b = t.seen c.seal.new.turns in
    let second = c.in_ok-seal.ensures in
    let to_b = drawn_then who (t.who c.look.new.turns) old a b first.who (none_drawn first.silent) second.draws in
    let r = err_from_is_err_and c.from_residual-in_err-length.result c.from_residual-in_err-length.ensures.1 in
    rw (r.1, r.2) (draws_then _ who (t.who c.seal.new.turns) old b (t.seen c.find_tail.new.turns) c.in_err-length.field-0.0 (second.who ∙ first.who) to_b c.in_err-length.ensures.draws)

pub returns-in_err-closed-clause-draws : goal.returns-in_err-closed-clause-draws
returns-in_err-closed-clause-draws g c =
    let t = g.T.Turns in
    let who = t.who c.args.turns.now in
    let old = t.seen c.args.turns.now in
    let a = t.seen c.look.new.turns in
    let first = c.in_ok-version.ensures in
    let b = t.seen c.seal.new.turns in
    let second = c.in_ok-seal.ensures in
    let to_b = drawn_then who (t.who c.look.new.turns) old a b first.who (none_drawn first.silent) second.draws in
    let d = t.seen c.find_tail.new.turns in
    let third = c.in_ok-length.ensures in
    let to_d = drawn_then who (t.who c.seal.new.turns) old b d (second.who ∙ first.who) to_b third.draws in
    draws_any _ _ _ c.from_residual-in_err-closed.result (drawn_then who (t.who c.find_tail.new.turns) old d (t.seen c.close_at.new.turns) (third.who ∙ (second.who ∙ first.who)) to_d (none_drawn c.in_err-closed.ensures.silent))

pub returns-clause-draws : goal.returns-clause-draws
returns-clause-draws g c =
    let t = g.T.Turns in
    let who = t.who c.args.turns.now in
    let old = t.seen c.args.turns.now in
    let a = t.seen c.look.new.turns in
    let first = c.in_ok-version.ensures in
    let b = t.seen c.seal.new.turns in
    let second = c.in_ok-seal.ensures in
    let to_b = drawn_then who (t.who c.look.new.turns) old a b first.who (none_drawn first.silent) second.draws in
    let d = t.seen c.find_tail.new.turns in
    let third = c.in_ok-length.ensures in
    let to_d = drawn_then who (t.who c.seal.new.turns) old b d (second.who ∙ first.who) to_b third.draws in
    drawn_then who (t.who c.find_tail.new.turns) old d (t.seen c.close_at.new.turns) (third.who ∙ (second.who ∙ first.who)) to_d (none_drawn c.in_ok-closed.ensures.silent)
