use Rattle.std.proofs.Common.{◌≡◌, ℕ, ◌<◌, ◌≤◌, length, get_or}
use Rattle.native_plan.specs.Members.{no_member}
use Rattle.native_plan.specs.Plans.{resent}
use Rattle.native_plan.proofs.send.send_all.Given as goal

abbrev pub invariant-loop-i : goal.invariant-loop-i
invariant-loop-i l = record {
  as_many : length l.members ≡ length l.initial.members;
  done : (j : ℕ) → j < l.i → get_or l.members j no_member ≡ resent l.aims.phase l.aims.cut l.aims.want l.aims.place l.keep j (get_or l.initial.members j no_member);
  rest : (j : ℕ) → l.i ≤ j → get_or l.members j no_member ≡ get_or l.initial.members j no_member;
}
