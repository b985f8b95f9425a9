-- Calls go on by one, and those that were made are a run.
use Rattle.std.proofs.Common.{◌≡◌, List, [], ◌∷◌, ◌++◌, refl, ◌∙◌}
use Rattle.loglet_api.specs.declared.call.LogletCall.{LogletCall}
use Rattle.loglet_api.specs.declared.call.LogletCall.TheVariants.{Begin, Carry, Take, Forget, Left, Stray, Stop, Restart}
use Rattle.loglet_api.specs.declared.call.LogletAnswer.{LogletAnswer}
use Rattle.loglet_api.specs.declared.call.LogletAnswer.TheVariants.{Skipped}
use Rattle.loglet_api.specs.View.{LogletView}
use Rattle.loglet_api.specs.Run.{LogletRun}
use Rattle.loglet_api.specs.Servers.{ServersView, Serves, ServesAll}
use Rattle.loglet_runs.specs.Runs.{OpsRun, OpsStep, made}

-- calls go on by one
pub ops_run-append : (old mid new : LogletView) (calls : List LogletCall) (answers : List LogletAnswer) (call : LogletCall) (answer : LogletAnswer) → OpsRun old calls answers mid → OpsStep mid call answer new → OpsRun old (calls ++ call ∷ []) (answers ++ answer ∷ []) new
ops_run-append old mid new [] [] call answer r s = (new, rw (← r) s, refl)
ops_run-append old mid new (c ∷ calls) (a ∷ answers) call answer r s = (r.0, r.1, ops_run-append r.0 mid new calls answers call answer r.2 s)
ops_run-append old mid new [] (a ∷ answers) call answer r s = absurd r
ops_run-append old mid new (c ∷ calls) [] call answer r s = absurd r

-- the calls that were made are a run
pub made_run : (old new : LogletView) (calls : List LogletCall) (answers : List LogletAnswer) → OpsRun old calls answers new → LogletRun old (made calls answers) new
made_run old new [] [] r = r
made_run old new (call ∷ calls) (Skipped ∷ answers) r = rw (← r.1.1) (made_run r.0 new calls answers r.2)
made_run old new (call ∷ calls) (answer ∷ answers) r = (r.0, r.1, made_run r.0 new calls answers r.2)
made_run old new [] (answer ∷ answers) r = absurd r
made_run old new (call ∷ calls) [] r = absurd r

-- a call that was skipped does nothing to the servers
skipped_serves : (old new : ServersView) (call : LogletCall) → Serves old call Skipped new → new ≡ old
skipped_serves old new (Begin op) s = s
skipped_serves old new (Carry t word) s = s
skipped_serves old new (Take t) s = s
skipped_serves old new (Forget t) s = s
skipped_serves old new (Left t) s = s
skipped_serves old new (Stray word) s = s
skipped_serves old new (Stop server after) s = s
skipped_serves old new (Restart server word) s = s

-- what the calls that were made did to the servers goes on by one
pub served-append : (v w : LogletView) (old mid new : ServersView) (calls : List LogletCall) (answers : List LogletAnswer) (call : LogletCall) (answer : LogletAnswer) → OpsRun v calls answers w → ServesAll old (made calls answers) mid → Serves mid call answer new
    → ServesAll old (made (calls ++ call ∷ []) (answers ++ answer ∷ [])) new
served-append v w old mid new [] [] call Skipped r h s = skipped_serves mid new call s ∙ h
served-append v w old mid new [] [] call answer r h s = (new, rw (← h) s, refl)
served-append v w old mid new (c ∷ calls) (Skipped ∷ answers) call answer r h s = served-append r.0 w old mid new calls answers call answer r.2 h s
served-append v w old mid new (c ∷ calls) (a ∷ answers) call answer r h s = (h.0, h.1, served-append r.0 w h.0 mid new calls answers call answer r.2 h.2 s)
served-append v w old mid new [] (a ∷ answers) call answer r h s = absurd r
served-append v w old mid new (c ∷ calls) [] call answer r h s = absurd r
