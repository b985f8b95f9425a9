-- What stands over a yard once a run has ended.
use Rattle.std.proofs.Common.{◌≡◌, ◌≢◌, ℕ, Bool, true, false, if◌then◌else◌, List, Option, Some, None, refl, sym, subst, inl, inr}
use Rattle.std.specs.Prelude.{◌⊎◌}
use Rattle.outside_ends.specs.Sinks.{Gains}
use Rattle.outside_ends.specs.Whole.{GainsFront}
use Rattle.outside_ends.specs.Faults.{Rose}
use Rattle.script_text.specs.declared.script.BadLine.{BadLine}
use Rattle.script_words.specs.declared.plan.Plan.{Plan}
use Rattle.fitting_run.specs.declared.told.Told.{Told}
use Rattle.fitting_run.specs.Yard.{Shown}
use Rattle.script_runner.specs.declared.ended.End.{End}
use Rattle.script_runner.specs.declared.ended.Status.{Status}
use Rattle.script_runner.specs.declared.ended.Status.TheVariants as status
use Rattle.script_runner.specs.declared.compose.Composed.{Composed}
use Rattle.script_runner.specs.Composed.{IsComposed}
use Rattle.script_runner.specs.Ends.{Composes, EndsView, HasScript, Puts, TakesSource}
use Rattle.script_runner.specs.Made.{any_open}
use Rattle.script_runner.specs.Standing.{HasEnded}
use Rattle.script_runner.proofs.Outside.{calm-closed}

-- the status is none of a fault
record IsWhole (s : Status) : Type 0 where
  sink : s ≢ status.SinkFault
  source : s ≢ status.SourceFault
  memory : s ≢ status.Memory

-- a text that was composed has no such status
no_fault : (plan : Option Plan) (left : Option (List ℕ)) (yard : Shown) (end : Status) (told : Option Told) (refused : Option BadLine) (text : List ℕ) → Composes plan left yard end told refused text → IsWhole end
no_fault (Some plan) left yard end (Some told) None text h = decide (any_open told.rows) h.2
  where
    decide : (b : Bool) → end ≡ (if b then status.Open else status.Done) → IsWhole end
    decide true e = subst IsWhole (sym e) (record { sink = λ s. cc; source = λ s. cc; memory = λ s. cc })
    decide false e = subst IsWhole (sym e) (record { sink = λ s. cc; source = λ s. cc; memory = λ s. cc })
no_fault (Some plan) left yard end None (Some bad) text h = subst IsWhole (sym h.2) (record { sink = λ s. cc; source = λ s. cc; memory = λ s. cc })
no_fault None left yard end None None text h = subst IsWhole (sym h.1) (record { sink = λ s. cc; source = λ s. cc; memory = λ s. cc })
no_fault plan left yard end told refused text h = absurd h

-- a text was put with it
pub puts_silent : (plan : Option Plan) (left : Option (List ℕ)) (yard : Shown) (c : Composed) → IsComposed plan left yard c → (c.end.status ≡ status.SourceFault) ⊎ (c.end.status ≡ status.Memory) → ⊥
puts_silent plan left yard c h e =
    let none = no_fault plan left yard c.end.status c.end.told c.end.refused c.text h in
    elim e [ inl s ↦ none.source s | inr m ↦ none.memory m ]

module _ (plan : Option Plan) (before after : EndsView) (yard : Shown) where
  puts_whole : (end : Status) (told : Option Told) (refused : Option BadLine) (text : List ℕ) → Composes plan before.left yard end told refused text → Gains before.held after.held text → IsWhole end
      → Puts plan before after yard end told refused
  puts_whole status.Done told refused text h put whole = (text, h, put)
  puts_whole status.Open told refused text h put whole = (text, h, put)
  puts_whole status.BadLine told refused text h put whole = (text, h, put)
  puts_whole status.BadWords told refused text h put whole = (text, h, put)
  puts_whole status.SinkFault told refused text h put whole = absurd (whole.sink refl)
  puts_whole status.SourceFault told refused text h put whole = absurd (whole.source refl)
  puts_whole status.Memory told refused text h put whole = absurd (whole.memory refl)

  -- the text was put whole
  pub ended_whole : (c : Composed) → IsComposed plan before.left yard c → Gains before.held after.held c.text → HasEnded plan before after yard c.end
  ended_whole c h put = record {
    puts = puts_whole c.end.status c.end.told c.end.refused c.text h put (no_fault plan before.left yard c.end.status c.end.told c.end.refused c.text h);
    calm = calm-closed plan before.left yard c.end.status c.end.told c.end.refused c.text h;
  }

  -- a front of it was put, and the sink counted its fault
  pub ended_in_front : (c : Composed) → IsComposed plan before.left yard c → GainsFront before.held after.held c.text → Rose before.lost after.lost
      → HasEnded plan before after yard (record c.end { status = status.SinkFault; refused = None })
  ended_in_front c h put rose = record { puts = (rose, refl, c.end.status, c.end.refused, c.text, h, put); calm = λ calm e. cc }

  -- memory ran out, and nothing was told
  pub ended_without_memory : HasEnded plan before after yard (record { status = status.Memory; told = None; refused = None })
  ended_without_memory = record { puts = (refl, refl); calm = λ calm e. cc }

  -- the source counted a fault, and nothing was told
  pub ended_unread : Rose before.missed after.missed × TakesSource plan → HasEnded plan before after yard (record { status = status.SourceFault; told = None; refused = None })
  ended_unread cause = record { puts = (cause.0, cause.1, refl, refl); calm = λ calm e. cc }

  -- what stands by a plan stands by the plan that it is
  pub ended_by : (plan' : Option Plan) (end : End) → plan' ≡ plan → HasEnded plan before after yard end → HasEnded plan' before after yard end
  ended_by plan' end same h = subst (λ (p : Option Plan). HasEnded p before after yard end) (sym same) h

-- and so does whether a script was begun
pub begun_by : {Y : Type 0} (plan plan' : Option Plan) (left : Option (List ℕ)) (yard yard' : Y) → plan' ≡ plan → (yard' ≡ yard) ⊎ HasScript plan left → (yard' ≡ yard) ⊎ HasScript plan' left
begun_by plan plan' left yard yard' same h = subst (λ (p : Option Plan). (yard' ≡ yard) ⊎ HasScript p left) (sym same) h
