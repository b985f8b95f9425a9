-- One stage of what an operation comes to goes over into the next.
use Rattle.std.proofs.Common.{◌≡◌, Bool, true, false, refl, List, Some, None}
use Rattle.std.specs.Prelude.{if◌then◌else◌}
use Rattle.std.specs.List.{list_any}
use Rattle.native_plan.specs.declared.member.Member.{Member}
use Rattle.native_plan.specs.declared.judge.Verdict.{Verdict}
use Rattle.native_plan.specs.Members.{is_opened, is_found_sealed, is_unreached, opened_of, sealed_of}
use Rattle.native_plan.specs.Plans.{many, greatest, judged_asking, judged_opening, judged_sealing, judged_mending}

pub no_lack : (b : Bool) (v : Verdict) → (if b then Some v else None) ≡ None → b ≡ false
no_lack true v h = cc
no_lack false v h = refl

pub sealing_is : (ms : List Member) → many is_unreached ms ≡ false → many is_found_sealed ms ≡ true → judged_mending (greatest sealed_of ms) ms ≡ judged_sealing ms
sealing_is ms a b = rw (a, b) refl

pub asking_is : (ms : List Member) → list_any is_found_sealed ms ≡ false → many is_unreached ms ≡ false → many is_opened ms ≡ true → judged_opening (greatest opened_of ms) ms ≡ judged_asking ms
asking_is ms z a b = rw (z, a, b) refl
