-- How calls count faults.
use Rattle.std.proofs.Common.{◌≡◌, ℕ, Bool, ◌∙◌, ap, List, Some}
use Rattle.std.specs.Prelude.{is_some}
use Rattle.loglet_api.specs.declared.call.LogletCall.TheVariants.{Carry as CallCarry}
use Rattle.loglet_api.specs.View.{LogletView}
use Rattle.loglet_api.specs.Step.{CanCall}
use Rattle.log_server.specs.View.{View}
use Rattle.native_plan.specs.declared.pending.Pending.{Pending}
use Rattle.native_loglet.specs.declared.marks.Marks.{Marks}
use Rattle.native_loglet.specs.Faults.{faults_after, is_failed}
use Rattle.native_loglet.specs.Natives.{Native, look_in, down_in, loglet_of}
use Rattle.native_loglet.proofs.Stepping.{open_is}
use Rattle.native_loglet.proofs.Alike.{IsOwned}

-- the marks once a fault came or not, beside the count that was shown
pub marks_count : (a : Native) (marks : Marks) (v : LogletView) (failed : Bool) → loglet_of a ≡ v → marks ≡ record a.marks { faults = faults_after failed a.marks.faults } → marks.faults ≡ faults_after failed v.faults
marks_count a marks v failed e is = ap (λ (m : Marks). m.faults) is ∙ ap (λ (x : LogletView). faults_after failed x.faults) e

pub carry_counts : (a : Native) (ws : List View) (marks : Marks) (v : LogletView) (t word : ℕ) (failed : Bool) → loglet_of a ≡ v → IsOwned a → CanCall v (CallCarry t word)
    → ((p : Pending) → look_in a.pending t ≡ Some p → failed ≡ is_failed word (down_in a.replicas) (down_in ws)) → marks ≡ record a.marks { faults = faults_after failed a.marks.faults } → marks.faults ≡ faults_after (is_failed word v.down (down_in ws)) v.faults
carry_counts a ws marks v t word failed e h can fails is =
    let there : (p : Pending) × (look_in a.pending t ≡ Some p) = open_is a h.0 v t e h.1 (ap is_some can.is) in
    marks_count a marks v failed e is ∙ ap (λ b. faults_after b v.faults) (fails there.0 there.1) ∙ ap (λ (x : LogletView). faults_after (is_failed word x.down (down_in ws)) v.faults) e
