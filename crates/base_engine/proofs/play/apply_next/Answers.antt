use Rattle.std.proofs.Common.{◌∙◌, ◌<◌, refl, sym, subst, ap, arith}
use Rattle.std.specs.Prelude.{min}
use Rattle.virtual_log.specs.Holding.{Reads}
use Rattle.replica_api.specs.Replica.{ReplicaView, saved_in}
use Rattle.base_engine.specs.Following.{Follows}
use Rattle.base_engine.proofs.Following.{follows_later, follows_done, follows_fault, follows_same, goes_none, goes_one, crash_at_rest, crash_in_apply, known_done, known_fault}
use Rattle.base_engine.proofs.Arming.{arming_refl, arming_same, arming_wanting, arming_advanced, arming_failed, told_of_log}
use Rattle.base_engine.proofs.play.apply_next.Goals as goal

pub returns-in-Err-clause-follows : goal.returns-in-Err-clause-follows
returns-in-Err-clause-follows g c =
    let p = g.L.Law.Rules in
    let holds = g.L.SharedLog.holds in
    let meaning = g.R.Replica.meaning in
    let v = g.R.Replica.shows c.args.replica.now in
    let seen = g.L.SharedLog.seen c.read_next.new.self in
    let on = follows_later p.law holds meaning g.met.L.SharedLog.stays _ seen v c.in-Err.ensures.later c.requires.follows in
    on

pub returns-in-Err-clause-any_crash : goal.returns-in-Err-clause-any_crash
returns-in-Err-clause-any_crash g c =
    let p = g.L.Law.Rules in
    let holds = g.L.SharedLog.holds in
    let meaning = g.R.Replica.meaning in
    let v = g.R.Replica.shows c.args.replica.now in
    let seen = g.L.SharedLog.seen c.read_next.new.self in
    let on = follows_later p.law holds meaning g.met.L.SharedLog.stays _ seen v c.in-Err.ensures.later c.requires.follows in
    crash_at_rest holds meaning seen v on

pub returns-in-Trimmed-clause-follows : goal.returns-in-Trimmed-clause-follows
returns-in-Trimmed-clause-follows g c =
    let p = g.L.Law.Rules in
    let holds = g.L.SharedLog.holds in
    let meaning = g.R.Replica.meaning in
    let v = g.R.Replica.shows c.args.replica.now in
    let seen = g.L.SharedLog.seen c.read_next.new.self in
    let on = follows_later p.law holds meaning g.met.L.SharedLog.stays _ seen v c.in-Ok.ensures.later c.requires.follows in
    on

pub returns-in-Trimmed-clause-any_crash : goal.returns-in-Trimmed-clause-any_crash
returns-in-Trimmed-clause-any_crash g c =
    let p = g.L.Law.Rules in
    let holds = g.L.SharedLog.holds in
    let meaning = g.R.Replica.meaning in
    let v = g.R.Replica.shows c.args.replica.now in
    let seen = g.L.SharedLog.seen c.read_next.new.self in
    let on = follows_later p.law holds meaning g.met.L.SharedLog.stays _ seen v c.in-Ok.ensures.later c.requires.follows in
    crash_at_rest holds meaning seen v on

pub returns-then-found-position-clause-follows : goal.returns-then-found-position-clause-follows
returns-then-found-position-clause-follows g c =
    let p = g.L.Law.Rules in
    let holds = g.L.SharedLog.holds in
    let meaning = g.R.Replica.meaning in
    let v = g.R.Replica.shows c.args.replica.now in
    let seen = g.L.SharedLog.seen c.read_next.new.self in
    let on = follows_later p.law holds meaning g.met.L.SharedLog.stays _ seen v c.in-Ok.ensures.later c.requires.follows in
    on

pub returns-then-found-position-clause-any_crash : goal.returns-then-found-position-clause-any_crash
returns-then-found-position-clause-any_crash g c =
    let p = g.L.Law.Rules in
    let holds = g.L.SharedLog.holds in
    let meaning = g.R.Replica.meaning in
    let v = g.R.Replica.shows c.args.replica.now in
    let seen = g.L.SharedLog.seen c.read_next.new.self in
    let on = follows_later p.law holds meaning g.met.L.SharedLog.stays _ seen v c.in-Ok.ensures.later c.requires.follows in
    crash_at_rest holds meaning seen v on

pub returns-in-Done-clause-follows : goal.returns-in-Done-clause-follows
returns-in-Done-clause-follows g c =
    let p = g.L.Law.Rules in
    let holds = g.L.SharedLog.holds in
    let meaning = g.R.Replica.meaning in
    let v = g.R.Replica.shows c.args.replica.now in
    let seen = g.L.SharedLog.seen c.read_next.new.self in
    let on = follows_later p.law holds meaning g.met.L.SharedLog.stays _ seen v c.in-Ok.ensures.later c.requires.follows in
    let w = g.R.Replica.shows c.apply.new.self in
    let m = min c.args.to (g.L.SharedLog.reaches c.args.log.now) in
    let at = c.in-Found.found in
    let read = subst (λ n. Reads holds seen c.cursor-position.result m n) c.in-Found.is c.in-Ok.ensures.next in
    let here = subst (λ i. holds seen i c.in-Found.entry) (c.if-found-position.false ∙ c.cursor-position.ensures.cursor) read.2 in
    follows_done holds meaning seen v w c.in-Found.entry on here c.in-Done.ensures.takes c.in-Done.ensures.survives

pub returns-in-Done-clause-any_crash : goal.returns-in-Done-clause-any_crash
returns-in-Done-clause-any_crash g c =
    let p = g.L.Law.Rules in
    let holds = g.L.SharedLog.holds in
    let meaning = g.R.Replica.meaning in
    let v = g.R.Replica.shows c.args.replica.now in
    let seen = g.L.SharedLog.seen c.read_next.new.self in
    let on = follows_later p.law holds meaning g.met.L.SharedLog.stays _ seen v c.in-Ok.ensures.later c.requires.follows in
    let w = g.R.Replica.shows c.apply.new.self in
    let m = min c.args.to (g.L.SharedLog.reaches c.args.log.now) in
    let at = c.in-Found.found in
    let read = subst (λ n. Reads holds seen c.cursor-position.result m n) c.in-Found.is c.in-Ok.ensures.next in
    let here = subst (λ i. holds seen i c.in-Found.entry) (c.if-found-position.false ∙ c.cursor-position.ensures.cursor) read.2 in
    crash_in_apply holds meaning seen v w c.in-Found.entry on here c.apply.ensures.any_crash

pub returns-in-DiskFault-clause-follows : goal.returns-in-DiskFault-clause-follows
returns-in-DiskFault-clause-follows g c =
    let p = g.L.Law.Rules in
    let holds = g.L.SharedLog.holds in
    let meaning = g.R.Replica.meaning in
    let v = g.R.Replica.shows c.args.replica.now in
    let seen = g.L.SharedLog.seen c.read_next.new.self in
    let on = follows_later p.law holds meaning g.met.L.SharedLog.stays _ seen v c.in-Ok.ensures.later c.requires.follows in
    let w = g.R.Replica.shows c.apply.new.self in
    let m = min c.args.to (g.L.SharedLog.reaches c.args.log.now) in
    let at = c.in-Found.found in
    let read = subst (λ n. Reads holds seen c.cursor-position.result m n) c.in-Found.is c.in-Ok.ensures.next in
    let here = subst (λ i. holds seen i c.in-Found.entry) (c.if-found-position.false ∙ c.cursor-position.ensures.cursor) read.2 in
    follows_fault holds meaning seen v w c.in-Found.entry on here c.in-DiskFault.ensures.takes c.in-DiskFault.ensures.survives

pub returns-in-DiskFault-clause-any_crash : goal.returns-in-DiskFault-clause-any_crash
returns-in-DiskFault-clause-any_crash g c =
    let p = g.L.Law.Rules in
    let holds = g.L.SharedLog.holds in
    let meaning = g.R.Replica.meaning in
    let v = g.R.Replica.shows c.args.replica.now in
    let seen = g.L.SharedLog.seen c.read_next.new.self in
    let on = follows_later p.law holds meaning g.met.L.SharedLog.stays _ seen v c.in-Ok.ensures.later c.requires.follows in
    let w = g.R.Replica.shows c.apply.new.self in
    let m = min c.args.to (g.L.SharedLog.reaches c.args.log.now) in
    let at = c.in-Found.found in
    let read = subst (λ n. Reads holds seen c.cursor-position.result m n) c.in-Found.is c.in-Ok.ensures.next in
    let here = subst (λ i. holds seen i c.in-Found.entry) (c.if-found-position.false ∙ c.cursor-position.ensures.cursor) read.2 in
    crash_in_apply holds meaning seen v w c.in-Found.entry on here c.apply.ensures.any_crash

pub returns-in-Down-clause-follows : goal.returns-in-Down-clause-follows
returns-in-Down-clause-follows g c =
    let p = g.L.Law.Rules in
    let holds = g.L.SharedLog.holds in
    let meaning = g.R.Replica.meaning in
    let v = g.R.Replica.shows c.args.replica.now in
    let seen = g.L.SharedLog.seen c.read_next.new.self in
    let on = follows_later p.law holds meaning g.met.L.SharedLog.stays _ seen v c.in-Ok.ensures.later c.requires.follows in
    let w = g.R.Replica.shows c.apply.new.self in
    let m = min c.args.to (g.L.SharedLog.reaches c.args.log.now) in
    let at = c.in-Found.found in
    let read = subst (λ n. Reads holds seen c.cursor-position.result m n) c.in-Found.is c.in-Ok.ensures.next in
    let here = subst (λ i. holds seen i c.in-Found.entry) (c.if-found-position.false ∙ c.cursor-position.ensures.cursor) read.2 in
    subst (λ x. Follows holds meaning seen x) (sym c.in-Down.ensures.takes.1) on

pub returns-in-Down-clause-any_crash : goal.returns-in-Down-clause-any_crash
returns-in-Down-clause-any_crash g c =
    let p = g.L.Law.Rules in
    let holds = g.L.SharedLog.holds in
    let meaning = g.R.Replica.meaning in
    let v = g.R.Replica.shows c.args.replica.now in
    let seen = g.L.SharedLog.seen c.read_next.new.self in
    let on = follows_later p.law holds meaning g.met.L.SharedLog.stays _ seen v c.in-Ok.ensures.later c.requires.follows in
    let w = g.R.Replica.shows c.apply.new.self in
    let m = min c.args.to (g.L.SharedLog.reaches c.args.log.now) in
    let at = c.in-Found.found in
    let read = subst (λ n. Reads holds seen c.cursor-position.result m n) c.in-Found.is c.in-Ok.ensures.next in
    let here = subst (λ i. holds seen i c.in-Found.entry) (c.if-found-position.false ∙ c.cursor-position.ensures.cursor) read.2 in
    crash_in_apply holds meaning seen v w c.in-Found.entry on here c.apply.ensures.any_crash

pub returns-in-Memory-clause-follows : goal.returns-in-Memory-clause-follows
returns-in-Memory-clause-follows g c =
    let p = g.L.Law.Rules in
    let holds = g.L.SharedLog.holds in
    let meaning = g.R.Replica.meaning in
    let v = g.R.Replica.shows c.args.replica.now in
    let seen = g.L.SharedLog.seen c.read_next.new.self in
    let on = follows_later p.law holds meaning g.met.L.SharedLog.stays _ seen v c.in-Ok.ensures.later c.requires.follows in
    let w = g.R.Replica.shows c.apply.new.self in
    let m = min c.args.to (g.L.SharedLog.reaches c.args.log.now) in
    let at = c.in-Found.found in
    let read = subst (λ n. Reads holds seen c.cursor-position.result m n) c.in-Found.is c.in-Ok.ensures.next in
    let here = subst (λ i. holds seen i c.in-Found.entry) (c.if-found-position.false ∙ c.cursor-position.ensures.cursor) read.2 in
    follows_same holds meaning seen v w on (ap saved_in c.in-Memory.ensures.takes.1) (ap (λ (x : ReplicaView). x.asked) c.in-Memory.ensures.takes.1) c.in-Memory.ensures.survives

pub returns-in-Memory-clause-any_crash : goal.returns-in-Memory-clause-any_crash
returns-in-Memory-clause-any_crash g c =
    let p = g.L.Law.Rules in
    let holds = g.L.SharedLog.holds in
    let meaning = g.R.Replica.meaning in
    let v = g.R.Replica.shows c.args.replica.now in
    let seen = g.L.SharedLog.seen c.read_next.new.self in
    let on = follows_later p.law holds meaning g.met.L.SharedLog.stays _ seen v c.in-Ok.ensures.later c.requires.follows in
    let w = g.R.Replica.shows c.apply.new.self in
    let m = min c.args.to (g.L.SharedLog.reaches c.args.log.now) in
    let at = c.in-Found.found in
    let read = subst (λ n. Reads holds seen c.cursor-position.result m n) c.in-Found.is c.in-Ok.ensures.next in
    let here = subst (λ i. holds seen i c.in-Found.entry) (c.if-found-position.false ∙ c.cursor-position.ensures.cursor) read.2 in
    crash_in_apply holds meaning seen v w c.in-Found.entry on here c.apply.ensures.any_crash

pub returns-in-Done-clause-bounded : goal.returns-in-Done-clause-bounded
returns-in-Done-clause-bounded g c =
    let state = g.R.Replica.meaning.state in
    let v = g.R.Replica.shows c.args.replica.now in
    let w = g.R.Replica.shows c.apply.new.self in
    let known = g.L.SharedLog.reaches c.read_next.new.self in
    let low : v.cursor < known = omega (arith, c.requires.below, c.requires.within, c.in-Ok.ensures.known) in
    known_done state known v w c.in-Found.entry low c.in-Done.ensures.takes

pub returns-in-DiskFault-clause-bounded : goal.returns-in-DiskFault-clause-bounded
returns-in-DiskFault-clause-bounded g c =
    let state = g.R.Replica.meaning.state in
    let v = g.R.Replica.shows c.args.replica.now in
    let w = g.R.Replica.shows c.apply.new.self in
    let known = g.L.SharedLog.reaches c.read_next.new.self in
    let low : v.cursor < known = omega (arith, c.requires.below, c.requires.within, c.in-Ok.ensures.known) in
    known_fault state known v w c.in-Found.entry low c.in-DiskFault.ensures.takes

pub returns-in-Err-clause-arming : goal.returns-in-Err-clause-arming
returns-in-Err-clause-arming g c = arming_refl 0 (g.R.Replica.shows c.args.replica.now)

pub returns-in-Trimmed-clause-arming : goal.returns-in-Trimmed-clause-arming
returns-in-Trimmed-clause-arming g c = arming_refl 0 (g.R.Replica.shows c.args.replica.now)

pub returns-then-found-position-clause-arming : goal.returns-then-found-position-clause-arming
returns-then-found-position-clause-arming g c = arming_refl 0 (g.R.Replica.shows c.args.replica.now)

pub returns-in-Done-clause-arming : goal.returns-in-Done-clause-arming
returns-in-Done-clause-arming g c =
    let r = g.R.Replica in
    arming_advanced 0 r.meaning.state (r.shows c.args.replica.now) c.in-Found.entry (r.shows c.apply.new.self) c.in-Done.ensures.takes

pub returns-in-DiskFault-clause-arming : goal.returns-in-DiskFault-clause-arming
returns-in-DiskFault-clause-arming g c =
    let r = g.R.Replica in
    arming_failed 0 r.meaning.state (r.shows c.args.replica.now) c.in-Found.entry (r.shows c.apply.new.self) c.in-DiskFault.ensures.takes

pub returns-in-Down-clause-arming : goal.returns-in-Down-clause-arming
returns-in-Down-clause-arming g c = let r = g.R.Replica in arming_same 0 (r.shows c.args.replica.now) (r.shows c.apply.new.self) c.in-Down.ensures.takes.1

pub returns-in-Memory-clause-arming : goal.returns-in-Memory-clause-arming
returns-in-Memory-clause-arming g c = let r = g.R.Replica in arming_wanting 0 (r.shows c.args.replica.now) (r.shows c.apply.new.self) c.in-Memory.ensures.takes

pub returns-in-Err-clause-never_store : goal.returns-in-Err-clause-never_store
returns-in-Err-clause-never_store g c = λ is. told_of_log c.in-Err.fault (sym c.told.ensures ∙ is)

pub returns-in-Err-clause-goes_on : goal.returns-in-Err-clause-goes_on
returns-in-Err-clause-goes_on g c =
    let s = saved_in (g.R.Replica.shows c.args.replica.now) in
    goes_none g.L.SharedLog.holds g.R.Replica.meaning (g.L.SharedLog.seen c.read_next.new.self) s s refl

pub returns-in-Trimmed-clause-goes_on : goal.returns-in-Trimmed-clause-goes_on
returns-in-Trimmed-clause-goes_on g c =
    let s = saved_in (g.R.Replica.shows c.args.replica.now) in
    goes_none g.L.SharedLog.holds g.R.Replica.meaning (g.L.SharedLog.seen c.read_next.new.self) s s refl

pub returns-then-found-position-clause-goes_on : goal.returns-then-found-position-clause-goes_on
returns-then-found-position-clause-goes_on g c =
    let s = saved_in (g.R.Replica.shows c.args.replica.now) in
    goes_none g.L.SharedLog.holds g.R.Replica.meaning (g.L.SharedLog.seen c.read_next.new.self) s s refl

pub returns-in-Done-clause-goes_on : goal.returns-in-Done-clause-goes_on
returns-in-Done-clause-goes_on g c =
    let holds = g.L.SharedLog.holds in
    let seen = g.L.SharedLog.seen c.read_next.new.self in
    let v = g.R.Replica.shows c.args.replica.now in
    let w = g.R.Replica.shows c.apply.new.self in
    let m = min c.args.to (g.L.SharedLog.reaches c.args.log.now) in
    let read = subst (λ n. Reads holds seen c.cursor-position.result m n) c.in-Found.is c.in-Ok.ensures.next in
    let here = subst (λ i. holds seen i c.in-Found.entry) (c.if-found-position.false ∙ c.cursor-position.ensures.cursor) read.2 in
    let a = c.in-Done.ensures.takes in
    goes_one holds g.R.Replica.meaning seen (saved_in v) (saved_in w) c.in-Found.entry here a.led a.cursor

pub returns-in-DiskFault-clause-goes_on : goal.returns-in-DiskFault-clause-goes_on
returns-in-DiskFault-clause-goes_on g c =
    let r = g.R.Replica in
    goes_none g.L.SharedLog.holds r.meaning (g.L.SharedLog.seen c.read_next.new.self) (saved_in (r.shows c.args.replica.now)) (saved_in (r.shows c.apply.new.self)) (ap saved_in c.in-DiskFault.ensures.takes.is)

pub returns-in-Down-clause-goes_on : goal.returns-in-Down-clause-goes_on
returns-in-Down-clause-goes_on g c =
    let r = g.R.Replica in
    goes_none g.L.SharedLog.holds r.meaning (g.L.SharedLog.seen c.read_next.new.self) (saved_in (r.shows c.args.replica.now)) (saved_in (r.shows c.apply.new.self)) (ap saved_in c.in-Down.ensures.takes.1)

pub returns-in-Memory-clause-goes_on : goal.returns-in-Memory-clause-goes_on
returns-in-Memory-clause-goes_on g c =
    let r = g.R.Replica in
    goes_none g.L.SharedLog.holds r.meaning (g.L.SharedLog.seen c.read_next.new.self) (saved_in (r.shows c.args.replica.now)) (saved_in (r.shows c.apply.new.self)) (ap saved_in c.in-Memory.ensures.takes.1)
