use Rattle.std.proofs.Common.{◌≡◌, Err, sym, ap, subst, ◌∙◌}
use Rattle.quorum_cell.specs.Servers.{Server}
use Rattle.log_server.specs.View.{View}
use Rattle.log_server.specs.Kind.{CanWrite}
use Rattle.log_server.proofs.Keeping.{is_up, held_survives, during, tells_written, written, stops}
use Rattle.log_server.proofs.server.LogServer.write.Goals as goal

pub write-requires-clause-up : goal.write-requires-clause-up
write-requires-clause-up g c = let i = c.self.inside in (is_up i.held i.kept c.self.invariant (ap (λ (v : View). v.server.up) c.self.view_is ∙ c.requires.up)).running

pub write-requires-clause-can : goal.write-requires-clause-can
write-requires-clause-can g c =
    let i = c.self.inside in
    let u = is_up i.held i.kept c.self.invariant (ap (λ (v : View). v.server.up) c.self.view_is ∙ c.requires.up) in
    subst (λ (s : Server). CanWrite s c.args.ask) (sym (ap (λ (v : View). v.server) c.self.view_is) ∙ u.server) c.requires.can

pub returns-in-Ok-clause-any_crash : goal.returns-in-Ok-clause-any_crash
returns-in-Ok-clause-any_crash g c =
    let i = c.self.inside in
    during i.held i.kept i.stops i.restarts c.args.self.now c.args.ask c.write.new.self.journal.disk c.self.invariant c.self.view_is c.requires.up c.requires.can c.write.ensures.any_crash

pub returns-in-Ok-clause-survives : goal.returns-in-Ok-clause-survives
returns-in-Ok-clause-survives g c = let i = c.self.inside in held_survives c.write.new.value c.write.new.self i.stops i.restarts (record { sound = c.write.ensures.sound; kept = c.write.ensures.kept })

pub returns-clause-any_crash : goal.returns-clause-any_crash
returns-clause-any_crash g c =
    let i = c.self.inside in
    during i.held i.kept i.stops i.restarts c.args.self.now c.args.ask c.write.new.self.journal.disk c.self.invariant c.self.view_is c.requires.up c.requires.can c.write.ensures.any_crash

pub returns-clause-survives : goal.returns-clause-survives
returns-clause-survives g c = let i = c.self.inside in held_survives c.write.new.value c.write.new.self i.stops i.restarts (record { sound = c.write.ensures.sound; kept = c.write.ensures.kept })

pub returns-in-Err-Disk-clause-any_crash : goal.returns-in-Err-Disk-clause-any_crash
returns-in-Err-Disk-clause-any_crash g c =
    let i = c.self.inside in
    during i.held i.kept i.stops i.restarts c.args.self.now c.args.ask c.write.new.self.journal.disk c.self.invariant c.self.view_is c.requires.up c.requires.can c.write.ensures.any_crash

pub returns-in-Err-Disk-clause-survives : goal.returns-in-Err-Disk-clause-survives
returns-in-Err-Disk-clause-survives g c = let i = c.self.inside in held_survives c.write.new.value c.write.new.self i.stops i.restarts (record { sound = c.write.ensures.sound; kept = c.write.ensures.kept })

pub returns-in-Ok-clause-answers : goal.returns-in-Ok-clause-answers
returns-in-Ok-clause-answers g c =
    let i = c.self.inside in
    tells_written i.held c.write.new.value i.kept c.write.new.self i.stops i.restarts c.args.self.now c.args.ask c.args.answer c.self.invariant c.self.view_is c.requires.up c.requires.can c.requires.told
    c.in-Ok.ensures.ok.0 c.in-Ok.ensures.ok.1 c.in-Ok.ensures.ok.2 (written c.args.ask i.kept.journal c.write.new.self.journal c.in-Ok.ensures.writes c.in-Ok.ensures.one_more)

pub returns-in-Err-Disk-clause-answers : goal.returns-in-Err-Disk-clause-answers
returns-in-Err-Disk-clause-answers g c =
    let i = c.self.inside in
    let failed = c.write.ensures.disk (c.in-Err-Disk.is ∙ ap (λ e. Err e) c.in-Err-Disk.field-0-is) in
    stops i.held c.write.new.value i.kept c.write.new.self i.stops i.restarts c.args.self.now c.args.ask c.self.invariant c.self.view_is c.requires.up c.requires.can failed.0 failed.1 failed.2 failed.3 c.write.ensures.word
