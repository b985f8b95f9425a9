use Rattle.std.proofs.Common.{◌≡◌, eqb, sym, subst, ◌∙◌}
use Rattle.log_server.specs.Kind.{IsSound}
use Rattle.log_server.specs.Holding.{server_with}
use Rattle.log_server.proofs.Servers.{sound_holding, spelled_of}
use Rattle.log_server.proofs.held.HeldKeptValue.take.Goals as goal

pub returns-clause-sound : goal.returns-clause-sound
returns-clause-sound c = λ taken.
    subst IsSound (sym c.in_ok-hold.ensures)
    (sound_holding (eqb c.args.before 0) (server_with c.args.self.now) c.in-Some.change c.requires.sound
    (spelled_of c.in_ok-change.field-0 c.in-Some.change c.args.bytes.now c.in-Some.is c.in_ok-change.ensures.found)
    (sym c.is_next.ensures ∙ c.if-not-is_next.false))
