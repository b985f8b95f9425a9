use Rattle.std.proofs.Common.{◌<◌, refl, ap, sym, subst, length, get_or, set, Some}
use Rattle.log_server.specs.View.{View}
use Rattle.native_plan.specs.declared.message.Errand.{Errand}
use Rattle.native_loglet.specs.declared.mail.Mail.{Mail}
use Rattle.native_loglet.specs.Copies.{HearsAt, ComesAgain}
use Rattle.native_loglet.proofs.Alike.{set_same}
use Rattle.native_loglet.proofs.Copied.{asked_here}
use Rattle.native_loglet.proofs.Disks.{put_disks}
use Rattle.native_loglet.proofs.Rules.{there_is}
use Rattle.native_loglet.specs.Natives.{states_in}
use Rattle.native_loglet.proofs.Serving.{refused, take_at, take_none}
use Rattle.native_loglet.proofs.straying.come_again.Goals as goal

pub returns-in_err-told-in-Asked-clause-memory : goal.returns-in_err-told-in-Asked-clause-memory
returns-in_err-told-in-Asked-clause-memory g c =
    let here : c.in-Asked.server < length c.args.replicas.now = (asked_here (length c.args.replicas.now) c.args.mail.now c.in-Asked.ticket c.in-Asked.server c.in-Asked.ask c.in-Asked.is c.requires.can).0 in
    refused c.from_residual.result (set_same c.args.replicas.now c.in-Asked.server c.index-replicas-server.result c.ask_again.new.self here c.in_err-told-in-Asked.ensures.memory)

pub returns-in_err-told-in-Asked-clause-spared : goal.returns-in_err-told-in-Asked-clause-spared
returns-in_err-told-in-Asked-clause-spared g c =
    let here : c.in-Asked.server < length c.args.replicas.now = (asked_here (length c.args.replicas.now) c.args.mail.now c.in-Asked.ticket c.in-Asked.server c.in-Asked.ask c.in-Asked.is c.requires.can).0 in
    refused c.from_residual.result (take_at c.args.replicas.now c.in-Asked.server (get_or c.args.replicas.now c.in-Asked.server c.index-replicas-server.result) c.ask_again.new.self here (ap (λ (v : View). get_or c.args.replicas.now c.in-Asked.server v) c.index-replicas-server.is) c.in_err-told-in-Asked.ensures.spared)

pub returns-in_err-told-in-Asked-clause-disks : goal.returns-in_err-told-in-Asked-clause-disks
returns-in_err-told-in-Asked-clause-disks g c = put_disks c.args.replicas.now c.in-Asked.server c.ask_again.new.self c.ask_again.ensures.survives

pub returns-in_ok-told-in-Asked-clause-comes : goal.returns-in_ok-told-in-Asked-clause-comes
returns-in_ok-told-in-Asked-clause-comes g c =
    let here : c.in-Asked.server < length c.args.replicas.now = (asked_here (length c.args.replicas.now) c.args.mail.now c.in-Asked.ticket c.in-Asked.server c.in-Asked.ask c.in-Asked.is c.requires.can).0 in
    subst (λ (m : Mail). ComesAgain c.args.cut (Some m) c.args.pending.now.entries c.hear_at.new.pending.entries c.args.replicas.now (set c.args.replicas.now c.in-Asked.server c.ask_again.new.self) c.is_fault-failed.result) (sym c.in-Asked.is) (record {
      told = c.in_ok-told-in-Asked.told;
      was = get_or c.args.replicas.now c.in-Asked.server c.index-replicas-server.result;
      is = c.ask_again.new.self;
      there = there_is c.args.replicas.now c.in-Asked.server _ here;
      answers = c.in_ok-told-in-Asked.ensures.answers;
      servers = refl;
      fault = c.is_fault-failed.ensures;
      hears = subst (λ (e : Errand). HearsAt c.args.cut c.in-Asked.ticket c.in-Asked.server e c.in_ok-told-in-Asked.told c.args.pending.now.entries c.hear_at.new.pending.entries) c.errand_of.ensures c.hear_at.ensures;
    })

pub returns-in_ok-told-in-Asked-clause-disks : goal.returns-in_ok-told-in-Asked-clause-disks
returns-in_ok-told-in-Asked-clause-disks g c = put_disks c.args.replicas.now c.in-Asked.server c.ask_again.new.self c.ask_again.ensures.survives

pub returns-in_err-told-in-Told-clause-spared : goal.returns-in_err-told-in-Told-clause-spared
returns-in_err-told-in-Told-clause-spared g c = refused c.from_residual-in_err-told-in-Told.result (take_none (states_in c.args.replicas.now))
