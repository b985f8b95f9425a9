use Rattle.native_loglet.specs.Natives.{Native, native_of}
use Rattle.native_loglet.proofs.Alike.{shows, alike_owned, map_alike}
use Rattle.native_loglet.proofs.Taking.{taken_small, size_small, found_got, waits_owned}
use Rattle.native_loglet.proofs.Wholes.{takes_whole}
use Rattle.native_loglet.proofs.Goes.{goes_from, waits_goes, takes_goes}
use Rattle.native_loglet.proofs.loglet.NativeLogletLoglet.take.Goals as goal

pub invariant_of-self : goal.invariant_of-self
invariant_of-self g c =
    let i = c.self.inside in
    let a : Native = native_of i.room i.entries.items i.replicas.items i.marks i.pending.entries i.strays in
    let b : Native = native_of i.room i.entries.items i.replicas.items i.marks c.take_decided.new.pending.entries i.strays in
    alike_owned a b (map_alike i.strays i.room i.entries.items i.replicas.items i.marks i.pending.entries c.take_decided.new.pending.entries c.in_err-decided.ensures.none) c.self.invariant

pub returns-in_err-decided-clause-step : goal.returns-in_err-decided-clause-step
returns-in_err-decided-clause-step g c =
    let i = c.self.inside in
    let a : Native = native_of i.room i.entries.items i.replicas.items i.marks i.pending.entries i.strays in
    let b : Native = native_of i.room i.entries.items i.replicas.items i.marks c.take_decided.new.pending.entries i.strays in
    rw c.from_residual.ensures
    (waits_owned a b _ c.args.ticket (shows a _ c.self.view_is) c.self.invariant c.requires (map_alike i.strays i.room i.entries.items i.replicas.items i.marks i.pending.entries c.take_decided.new.pending.entries c.in_err-decided.ensures.none)
    (rw c.number.ensures at c.in_err-decided.ensures.waits))

pub wanted-length-requires : goal.wanted-length-requires
wanted-length-requires g c =
    let i = c.self.inside in
    let a : Native = native_of i.room i.entries.items i.replicas.items i.marks i.pending.entries i.strays in
    size_small a c.take_decided.new.pending.entries _ c.in_ok-decided.decided c.self.invariant c.in_ok-decided.ensures.taken

pub answer-answer-requires : goal.answer-answer-requires
answer-answer-requires g c =
    let i = c.self.inside in
    let a : Native = native_of i.room i.entries.items i.replicas.items i.marks i.pending.entries i.strays in
    found_got a c.take_decided.new.pending.entries _ c.in_ok-decided.decided c.self.invariant c.in_ok-decided.ensures.taken

pub told-self-inside-requires-clause-reach : goal.told-self-inside-requires-clause-reach
told-self-inside-requires-clause-reach g c =
    let i = c.self.inside in
    let a : Native = native_of i.room i.entries.items i.replicas.items i.marks i.pending.entries i.strays in
    (taken_small a c.take_decided.new.pending.entries _ c.in_ok-decided.decided c.answer-answer.result c.wanted-length.result c.self.invariant c.in_ok-decided.ensures.taken c.answer-answer.ensures c.wanted-length.ensures).0

pub told-self-inside-requires-clause-firm : goal.told-self-inside-requires-clause-firm
told-self-inside-requires-clause-firm g c =
    let i = c.self.inside in
    let a : Native = native_of i.room i.entries.items i.replicas.items i.marks i.pending.entries i.strays in
    (taken_small a c.take_decided.new.pending.entries _ c.in_ok-decided.decided c.answer-answer.result c.wanted-length.result c.self.invariant c.in_ok-decided.ensures.taken c.answer-answer.ensures c.wanted-length.ensures).1

pub told-self-inside-requires-clause-lacks : goal.told-self-inside-requires-clause-lacks
told-self-inside-requires-clause-lacks g c =
    let i = c.self.inside in
    let a : Native = native_of i.room i.entries.items i.replicas.items i.marks i.pending.entries i.strays in
    (taken_small a c.take_decided.new.pending.entries _ c.in_ok-decided.decided c.answer-answer.result c.wanted-length.result c.self.invariant c.in_ok-decided.ensures.taken c.answer-answer.ensures c.wanted-length.ensures).2

pub invariant_of-self-2 : goal.invariant_of-self-2
invariant_of-self-2 g c =
    let i = c.self.inside in
    let a : Native = native_of i.room i.entries.items i.replicas.items i.marks i.pending.entries i.strays in
    (takes_whole a c.take_decided.new.pending.entries c.told-self-inside.result _ c.args.ticket c.in_ok-decided.decided c.answer-answer.result c.wanted-length.result (shows a _ c.self.view_is) c.self.invariant c.requires (rw c.number.ensures at c.in_ok-decided.ensures.taken) c.answer-answer.ensures c.wanted-length.ensures c.told-self-inside.ensures).0

pub returns-clause-step : goal.returns-clause-step
returns-clause-step g c =
    let i = c.self.inside in
    let a : Native = native_of i.room i.entries.items i.replicas.items i.marks i.pending.entries i.strays in
    (takes_whole a c.take_decided.new.pending.entries c.told-self-inside.result _ c.args.ticket c.in_ok-decided.decided c.answer-answer.result c.wanted-length.result (shows a _ c.self.view_is) c.self.invariant c.requires (rw c.number.ensures at c.in_ok-decided.ensures.taken) c.answer-answer.ensures c.wanted-length.ensures c.told-self-inside.ensures).1

pub returns-in_err-decided-clause-goes : goal.returns-in_err-decided-clause-goes
returns-in_err-decided-clause-goes g c =
    let i = c.self.inside in
    let a : Native = native_of i.room i.entries.items i.replicas.items i.marks i.pending.entries i.strays in
    let b : Native = native_of i.room i.entries.items i.replicas.items i.marks c.take_decided.new.pending.entries i.strays in
    rw c.from_residual.ensures
    (goes_from a _ _ _ b c.self.view_is c.requires (λ can. waits_goes a b c.args.ticket c.self.invariant (map_alike i.strays i.room i.entries.items i.replicas.items i.marks i.pending.entries c.take_decided.new.pending.entries c.in_err-decided.ensures.none) can (rw c.number.ensures at c.in_err-decided.ensures.waits)))

pub returns-clause-goes : goal.returns-clause-goes
returns-clause-goes g c =
    let i = c.self.inside in
    let a : Native = native_of i.room i.entries.items i.replicas.items i.marks i.pending.entries i.strays in
    goes_from a _ _ _ _ c.self.view_is c.requires (λ can. takes_goes a c.take_decided.new.pending.entries c.told-self-inside.result c.args.ticket c.in_ok-decided.decided c.answer-answer.result c.wanted-length.result c.self.invariant can (rw c.number.ensures at c.in_ok-decided.ensures.taken) c.answer-answer.ensures c.wanted-length.ensures c.told-self-inside.ensures)
