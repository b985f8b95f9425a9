use Rattle.std.proofs.Common.{◌≡◌, ◌≢◌, None, map, subst, sym}
use Rattle.register_api.specs.View.{IsFresh}
use Rattle.script_runner.specs.declared.ended.Status.TheVariants as status
use Rattle.script_runner.specs.Fresh.{AreFresh}
use Rattle.shelf_loglets.specs.Shelf.{view_of}
use Rattle.std.specs.List.{AllByRecursion}
use Rattle.memory_runs.specs.Disks.{IsUntouched}
use Rattle.memory_runs.proofs.Ended.{all_same, ended_by_words, if_ok, untaken_by_words}
use denote.Exit
use denote.Param.Send.{arg_send, param_send}
use Rattle.shelf_loglets.proofs.Sent.{shelf_send}
use Rattle.memory_runs.proofs.run.run_in_memory.Goals as goal

-- the loglets of the shelf may go to another thread
pub run_plan_over-requires-send-L : goal.run_plan_over-requires-send-L
run_plan_over-requires-send-L g c κs within = param_send _ _ (arg_send _ Exit.no _ shelf_send)

pub returns-clause-ended : goal.returns-clause-ended
returns-clause-ended g c = ended_by_words _ _ _ _ _ (λ e. e.end) _ c.in_ok-plan.ensures.is c.run_plan_over.ensures.ended

pub returns-clause-untaken : goal.returns-clause-untaken
returns-clause-untaken g c = untaken_by_words _ _ _ _ _ c.in_ok-plan.ensures.is c.run_plan_over.ensures.untaken

-- what is untouched was made
pub returns-clause-untouched : goal.returns-clause-untouched
returns-clause-untouched g c =
    if_ok (λ e. e.end.told ≡ None → e.end.status ≢ status.Memory → (e.shelf ≡ c.in_ok-shelf.shelf) × (map (λ d. d) e.disks.items ≡ map (λ d. d) c.in_ok-disks.disks.items) × IsFresh e.register.register)
    (λ e. e.end.told ≡ None → e.end.status ≢ status.Memory → AreFresh (map view_of e.shelf.items) × AllByRecursion (λ d. IsUntouched d) e.disks.items × IsFresh e.register.register)
    (λ e h none stays. let all = h none stays in (
      subst (λ s. AreFresh (map view_of s.items)) (sym all.0) c.in_ok-shelf.ensures.fresh,
      all_same IsUntouched e.disks.items c.in_ok-disks.disks.items all.1 c.in_ok-disks.ensures.untouched,
      all.2,
    ))
    c.run_plan_over.result c.run_plan_over.ensures.untouched
