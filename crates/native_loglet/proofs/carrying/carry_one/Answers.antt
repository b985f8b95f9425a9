use Rattle.std.proofs.Common.{◌<◌, ◌∙◌, refl, ap, sym, arith, length, get_or}
use Rattle.log_server.specs.View.{View}
use Rattle.fate_words.specs.Words.{fate_of}
use Rattle.native_loglet.proofs.Rules.{there_is, asks_of, rests_of, moved_by_answer, moved_by_request, if_ok, on_err}
use Rattle.native_loglet.proofs.Alike.{set_same}
use Rattle.native_loglet.proofs.Serving.{wear_same, moves_wear, take_at, lost_failed, none_failed, asked_failed, is_lost_by, is_kept_by}
use Rattle.native_loglet.specs.Natives.{states_in, down_in}
use Rattle.native_loglet.proofs.Disks.{same_disks, put_disks}
use Rattle.native_loglet.proofs.carrying.carry_one.Goals as goal

pub picked-server-requires : goal.picked-server-requires
picked-server-requires g c = c.requires.can.some

pub lose-requires-clause-losses : goal.lose-requires-clause-losses
lose-requires-clause-losses g c = c.requires.can.losses c.picked-server.result c.picked-server.ensures.out

pub lose-requires-clause-members : goal.lose-requires-clause-members
lose-requires-clause-members g c = omega (arith, c.requires.can.members, c.requires.can.few)

pub lose-requires-clause-server : goal.lose-requires-clause-server
lose-requires-clause-server g c = c.requires.can.turns

pub hear-requires-clause-members : goal.hear-requires-clause-members
hear-requires-clause-members g c = omega (arith, c.requires.can.members, c.requires.can.few)

pub hear-requires-clause-server : goal.hear-requires-clause-server
hear-requires-clause-server g c = c.requires.can.turns

pub bounds-replicas-server : goal.bounds-replicas-server
bounds-replicas-server g c = omega (arith, c.picked-server.ensures.here, c.requires.can.members)

pub ask-requires-clause-there : goal.ask-requires-clause-there
ask-requires-clause-there g c =
    rw c.due-errand.ensures (c.requires.can.asks c.picked-server.result c.in-Asks.errand (asks_of _ c.in-Asks.errand (sym c.turn.ensures ∙ c.in-Asks.is)))

pub returns-in-Asks-clause-memory : goal.returns-in-Asks-clause-memory
returns-in-Asks-clause-memory g c =
    let here : c.picked-server.result < length c.args.replicas.now = omega (arith, c.picked-server.ensures.here, c.requires.can.members) in
    on_err c.ask.result _ _ (λ same. set_same c.args.replicas.now c.picked-server.result c.index-replicas-server.result c.ask.new.replica here same) c.ask.ensures.memory

pub returns-in-Rests-clause-moves : goal.returns-in-Rests-clause-moves
returns-in-Rests-clause-moves g c =
    absurd (rests_of _ (sym c.turn.ensures ∙ c.in-Rests.is) c.picked-server.ensures.out)

pub returns-then-loses-clause-wear : goal.returns-then-loses-clause-wear
returns-then-loses-clause-wear g c = wear_same (states_in c.args.replicas.now)

pub returns-in-Asks-clause-wear : goal.returns-in-Asks-clause-wear
returns-in-Asks-clause-wear g c = if_ok c.ask.result _ _ (λ failed m. moves_wear _ _ _ _ _ _ _ _ failed c.requires.can m) (moved_by_request _ _ c.args.word c.picked-server.result c.loses.result c.turn.result c.in-Asks.errand c.due-errand.result _ _ c.args.replicas.now c.index-replicas-server.result c.ask.new.replica c.ask.result c.picked-server.ensures.value c.loses.ensures c.if-loses.false c.picked-server.ensures.here c.requires.can.members c.turn.ensures c.in-Asks.is c.due-errand.ensures c.ask.ensures.answers)

pub returns-in-Asks-clause-spared : goal.returns-in-Asks-clause-spared
returns-in-Asks-clause-spared g c =
    let here : c.picked-server.result < length c.args.replicas.now = omega (arith, c.picked-server.ensures.here, c.requires.can.members) in
    on_err c.ask.result _ _ (λ took. take_at c.args.replicas.now c.picked-server.result (get_or c.args.replicas.now c.picked-server.result c.index-replicas-server.result) c.ask.new.replica here (ap (λ (v : View). get_or c.args.replicas.now c.picked-server.result v) c.index-replicas-server.is) took) c.ask.ensures.spared

pub returns-in-Tells-clause-wear : goal.returns-in-Tells-clause-wear
returns-in-Tells-clause-wear g c = wear_same (states_in c.args.replicas.now)

pub returns-in-Rests-clause-wear : goal.returns-in-Rests-clause-wear
returns-in-Rests-clause-wear g c = wear_same (states_in c.args.replicas.now)

pub returns-then-loses-clause-failed : goal.returns-then-loses-clause-failed
returns-then-loses-clause-failed g c = lost_failed c.args.word (down_in c.args.replicas.now) (down_in c.args.replicas.now) (is_lost_by (fate_of c.args.word) c.loses.result c.args.word refl c.loses.ensures c.if-loses.true)

pub returns-in-Asks-clause-failed : goal.returns-in-Asks-clause-failed
returns-in-Asks-clause-failed g c =
    let here : c.picked-server.result < length c.args.replicas.now = omega (arith, c.picked-server.ensures.here, c.requires.can.members) in
    let was : View = get_or c.args.replicas.now c.picked-server.result c.index-replicas-server.result in
    let ask = c.requires.can.asks c.picked-server.result c.in-Asks.errand (asks_of _ c.in-Asks.errand (sym c.turn.ensures ∙ c.in-Asks.is)) in
    if_ok c.ask.result _ _
    (λ failed a. asked_failed c.args.word c.args.replicas.now c.picked-server.result was c.ask.new.replica ask.0 a.told failed (is_kept_by (fate_of c.args.word) c.loses.result c.args.word refl c.loses.ensures c.if-loses.false) (there_is c.args.replicas.now c.picked-server.result _ here) (a.tells ask.0 ask.1) a.fault)
    (rw c.due-errand.ensures at c.ask.ensures.answers)

pub returns-in-Tells-clause-failed : goal.returns-in-Tells-clause-failed
returns-in-Tells-clause-failed g c = none_failed c.args.word (down_in c.args.replicas.now) (is_kept_by (fate_of c.args.word) c.loses.result c.args.word refl c.loses.ensures c.if-loses.false)

pub returns-in-Rests-clause-failed : goal.returns-in-Rests-clause-failed
returns-in-Rests-clause-failed g c = none_failed c.args.word (down_in c.args.replicas.now) (is_kept_by (fate_of c.args.word) c.loses.result c.args.word refl c.loses.ensures c.if-loses.false)

pub returns-then-loses-clause-disks : goal.returns-then-loses-clause-disks
returns-then-loses-clause-disks g c = same_disks c.args.replicas.now

pub returns-in-Asks-clause-disks : goal.returns-in-Asks-clause-disks
returns-in-Asks-clause-disks g c = put_disks c.args.replicas.now c.picked-server.result c.ask.new.replica c.ask.ensures.survives

pub returns-in-Tells-clause-disks : goal.returns-in-Tells-clause-disks
returns-in-Tells-clause-disks g c = same_disks c.args.replicas.now

pub returns-in-Rests-clause-disks : goal.returns-in-Rests-clause-disks
returns-in-Rests-clause-disks g c = same_disks c.args.replicas.now

pub returns-in-Tells-clause-moves : goal.returns-in-Tells-clause-moves
returns-in-Tells-clause-moves g c = moved_by_answer _ _ c.args.word c.picked-server.result c.loses.result c.turn.result _ _ _ c.picked-server.ensures.value c.loses.ensures c.if-loses.false c.picked-server.ensures.here c.turn.ensures c.in-Tells.is c.hear.ensures
