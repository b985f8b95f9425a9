use Rattle.std.proofs.Common.{ap, ◌∙◌, subst}
use Rattle.disk_model.specs.Armed.{TakesRecord}
use Rattle.file_loglet.specs.Held.{Held}
use Rattle.file_loglet.proofs.Writing.{appended, appended_server}
use Rattle.file_loglet.proofs.server.FileServer.write.Goals as goal

pub invariant_of-self : goal.invariant_of-self
invariant_of-self g c =
    appended c.args.self.now c.self.inside.journal c.append.new.self c.self.inside.extent c.after-self-inside.result c.self.inside.torn c.args.bytes.now c.args.change c.self.view_is c.self.invariant c.requires.up c.requires.writes c.requires.changes
    c.in-Ok.ensures.ok c.append.ensures.survives c.after-self-inside.ensures

pub returns-in-Ok : goal.returns-in-Ok
returns-in-Ok g c = (
  appended_server c.args.self.now c.self.inside.journal c.append.new.self c.self.inside.extent c.self.inside.torn c.args.bytes.now c.self.view_is c.self.invariant c.requires.up c.requires.writes c.in-Ok.ensures.ok,
  record { faults = c.in-Ok.ensures.no_fault ∙ ap (λ (w : Held). w.disk.faults) c.self.view_is; word = c.append.ensures.word ∙ ap (λ (w : Held). w.disk.word) c.self.view_is },
  subst (λ (w : Held). TakesRecord 0 w.disk.armed c.append.new.self.disk.armed) c.self.view_is c.in-Ok.ensures.counted,
)
