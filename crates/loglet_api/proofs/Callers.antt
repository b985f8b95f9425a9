-- What a caller knows of a ticket after a call.
use Rattle.std.proofs.Common.{◌≡◌, ℕ, nat_eq, true, None, is_some, ap, arith}
use Rattle.std.proofs.lemmas.Bool.Decides.{nat_tests}
use Rattle.loglet_api.specs.declared.call.Op.{Op}
use Rattle.loglet_api.specs.declared.call.LogletCall.TheVariants.{Begin, Carry, Take}
use Rattle.loglet_api.specs.declared.call.LogletAnswer.TheVariants.{Begun, Carried, Taken}
use Rattle.loglet_api.specs.View.{LogletView, IsOpen}
use Rattle.loglet_api.specs.Step.{LogletStep, IsUndecidedAt}

-- an operation that was begun is open
pub begun_open : (old : LogletView) (op : Op) (t : ℕ) (new : LogletView) → LogletStep old (Begin op) (Begun t) new → IsOpen new t
begun_open old op t new s =
    let same : nat_eq t t ≡ true = grind (arith, nat_tests) in
    let now = s.does.operation t in
    ap is_some (rw same at now)

-- one that was carried is open
pub carried_open : (old : LogletView) (t word : ℕ) (new : LogletView) → LogletStep old (Carry t word) Carried new → IsOpen new t
carried_open old t word new s = ap is_some s.does.falls.is

-- one whose answer wasn't there is undecided
pub untaken_undecided : (old : LogletView) (t : ℕ) (new : LogletView) → LogletStep old (Take t) (Taken None) new → IsUndecidedAt new t
untaken_undecided old t new s = rw s.does.1 s.does.0

-- and open
pub undecided_open : (v : LogletView) (t : ℕ) → IsUndecidedAt v t → IsOpen v t
undecided_open v t u = ap is_some u.is
