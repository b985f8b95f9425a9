-- What the methods return, as the answer of a call.
use Rattle.std.specs.Prelude.{ℕ, Bool, Result, Ok, Err}
use Rattle.loglet_api.specs.declared.call.Refused.{Refused}
use Rattle.loglet_api.specs.declared.call.LogletAnswer.{LogletAnswer}
use Rattle.loglet_api.specs.declared.call.LogletAnswer.TheVariants.{Begun, Refusal, Carried, Strayed, Restarted}

abbrev pub begin_answer : Result ℕ Refused → LogletAnswer
begin_answer (Ok t) = Begun t
begin_answer (Err refused) = Refusal refused

abbrev pub carry_answer : {U : Type 0} → Result U Refused → LogletAnswer
carry_answer (Ok u) = Carried
carry_answer (Err refused) = Refusal refused

abbrev pub stray_answer : {U : Type 0} → Result U Refused → LogletAnswer
stray_answer (Ok u) = Strayed
stray_answer (Err refused) = Refusal refused

abbrev pub restart_answer : Result Bool Refused → LogletAnswer
restart_answer (Ok up) = Restarted up
restart_answer (Err refused) = Refusal refused
