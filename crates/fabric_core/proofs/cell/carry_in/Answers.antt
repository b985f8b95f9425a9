use Rattle.std.proofs.Common.{◌∙◌, ◌++◌, ◌∷◌, [], List, inl, ap, subst, Option, Ok, false}
use Rattle.std.specs.Prelude.{slice_set}
use Rattle.loglet_api.specs.declared.call.Answer.{Answer}
use Rattle.legal_journal.specs.declared.events.Event.{Event}
use Rattle.legal_journal.specs.declared.events.FabricCall.TheVariants.{Carry}
use Rattle.legal_journal.specs.declared.events.FabricAnswer.TheVariants.{Memory}
use Rattle.fabric_core.specs.CellEvent.{Worked, CarriedOnce}
use Rattle.fabric_core.proofs.Carried.{got_dropped}
use Rattle.fabric_core.proofs.cell.carry_in.Goals as goal

pub returns-in_default-copy_of : goal.returns-in_default-copy_of
returns-in_default-copy_of g c =
    let old : Worked = record { loglet = g.L.Loglet.view c.args.loglet.now; serving = g.L.Loglet.serving c.args.loglet.now } in
    let new : Worked = record { loglet = g.L.Loglet.view c.carry_once.new.loglet; serving = g.L.Loglet.serving c.carry_once.new.loglet } in
    let once = subst (λ (r : Option Answer). CarriedOnce old c.args.ticket c.args.word (Ok r) new) c.in-Some.is c.in-Ok.ensures in
    let dropped = got_dropped old new c.args.ticket c.args.word c.in-Some.answer c.in_default-copy_of.ensures.err once in
    inl (record {
      steps = dropped.0;
      are = dropped.1;
      run = dropped.2.run;
      served = dropped.2.served;
      missed = tt;
      marked = ap (λ n. slice_set c.args.marks.now.items n false) c.number.ensures;
      recorded = c.push_reserved-in_default-copy_of.ensures.items ∙ ap (λ (l : List Event). l ++ record { who = c.args.who; call = Carry c.args.cell c.args.ticket c.args.word; answer = Memory } ∷ []) c.reserve.ensures.items;
    })
