-- What is left to do of an operation that goes on is something, and not too much.
use Rattle.std.proofs.Common.{◌≡◌, ℕ, ◌-◌, ◌*◌, ◌^◌, ◌<◌, ◌≤◌, Bool, true, false, refl, arith, length, get_or, Option, Some, None, inl, inr}
use Rattle.std.specs.Prelude.{◌⊎◌, sum_by}
use Rattle.std.proofs.lemmas.Bool.{cases_lt}
use Rattle.std.proofs.lemmas.List.Sums.{sum_by-le}
use Rattle.quorum_cell.specs.Cells.{Cell, operation}
use Rattle.native_plan.specs.declared.member.Member.{Member}
use Rattle.native_plan.specs.declared.pending.Pending.{Pending}
use Rattle.native_plan.specs.declared.message.Message.{Message}
use Rattle.native_plan.specs.declared.message.Message.TheVariants.{Asked, Told as Answered}
use Rattle.native_plan.specs.declared.message.Phase.{Phase}
use Rattle.native_plan.specs.declared.message.Phase.TheVariants.{Filling, Asking, Opening, Shutting, Sealing, Mending, Reading, Trimming}
use Rattle.native_plan.specs.Members.{no_member, is_out, left_with, left_to}
use Rattle.native_plan.specs.Plans.{is_done, goal_of, end_of, rank_of}
use Rattle.native_plan.specs.Course.{PhaseFits}
use Rattle.native_plan.proofs.Falls.{more_small}
use Rattle.native_ties.specs.Parts.{Goes, IsPartOf, IsBounded}
use Rattle.native_ties.proofs.Losers.{way_of}
use Rattle.native_ties.proofs.Lessening.{out_left, in_sum, idle_done}

goal_small : (c : Cell) (t : ℕ) (p : Pending) → Goes c t p → length c.entries ≤ 2 ^ 32 → goal_of p.phase p.want ≤ 2 ^ 32
goal_small c t p g small = by p.phase refl g.course.phase
  where
    by : (ph : Phase) → p.phase ≡ ph → PhaseFits c (operation c t) p.members.items ph → goal_of ph p.want ≤ 2 ^ 32
    by Filling e h = (let there = g.course.want_there e in omega (arith, there, g.course.want, small))
    by (Opening n) e h = omega (arith, h.there, small)
    by (Mending n) e h = omega (arith, h.there, small)
    by Asking e h = omega arith
    by Shutting e h = omega arith
    by Sealing e h = omega arith
    by (Reading j) e h = omega arith
    by Trimming e h = omega arith

end_small : (ph : Phase) (want : ℕ) → goal_of ph want ≤ 2 ^ 32 → end_of ph want ≤ 2 ^ 33
end_small Filling want h = omega (arith, h)
end_small (Opening n) want h = omega (arith, h)
end_small (Mending n) want h = omega (arith, h)
end_small Asking want h = omega arith
end_small Shutting want h = omega arith
end_small Sealing want h = omega arith
end_small (Reading j) want h = omega arith
end_small Trimming want h = omega arith

left_small : (end : ℕ) (m : Member) → end ≤ 2 ^ 33 → left_to end m ≤ 2 ^ 40
left_small end m h = by (40 * (end - m.at)) m.losses m.message (omega (arith, h))
  where
    by : (w l : ℕ) (z : Option Message) → w ≤ 40 * 2 ^ 33 → left_with w l z ≤ 2 ^ 40
    by w l None f = omega arith
    by w l (Some (Asked e)) f = (let few = more_small e in omega (arith, few, f))
    by w l (Some (Answered e told)) f = (let few = more_small e in omega (arith, few, f))

rank_small : (ph : Phase) → rank_of ph ≤ 7
rank_small Filling = omega arith
rank_small Asking = omega arith
rank_small (Opening t) = omega arith
rank_small Shutting = omega arith
rank_small Sealing = omega arith
rank_small (Mending t) = omega arith
rank_small (Reading j) = omega arith
rank_small Trimming = omega arith

some_left : (c : Cell) (t : ℕ) (p : Pending) → Goes c t p → 0 < sum_by (left_to (end_of p.phase p.want)) p.members.items
some_left c t p g = by (cases_lt 0 (sum_by (left_to (end_of p.phase p.want)) p.members.items))
  where
    done : sum_by (left_to (end_of p.phase p.want)) p.members.items ≤ 0 → (j : ℕ) → j < length p.members.items → is_done p.phase p.want j (get_or p.members.items j no_member) ≡ true
    done none j l = at (is_out (get_or p.members.items j no_member)) refl
      where
        at : (b : Bool) → is_out (get_or p.members.items j no_member) ≡ b → is_done p.phase p.want j (get_or p.members.items j no_member) ≡ true
        at false e = idle_done c t p g j l e
        at true e =
            let way = way_of c (operation c t) t j _ (get_or p.members.items j no_member) (get_or p.members.items j no_member).message refl e (g.carried j (omega (arith, l, g.course.all))) in
            let some = out_left (40 * (end_of p.phase p.want - (get_or p.members.items j no_member).at)) (get_or p.members.items j no_member).losses (get_or p.members.items j no_member).message way.1.few e in
            let most = in_sum (left_to (end_of p.phase p.want)) p.members.items j l in
            absurd (omega (arith, some, most, none))

    by : (0 < sum_by (left_to (end_of p.phase p.want)) p.members.items) ⊎ (sum_by (left_to (end_of p.phase p.want)) p.members.items ≤ 0) → 0 < sum_by (left_to (end_of p.phase p.want)) p.members.items
    by (inl l) = l
    by (inr none) = absurd (g.wanted (done none))

pub bounded : (c : Cell) (t : ℕ) (p : Pending) → IsPartOf c t p → p.outcome ≡ None → length c.entries ≤ 2 ^ 32 → IsBounded (length c.servers) p
bounded c t p part waiting small =
    let g : Goes c t p = part.goes waiting in
    let goal : goal_of p.phase p.want ≤ 2 ^ 32 = goal_small c t p g small in
    let most : sum_by (left_to (end_of p.phase p.want)) p.members.items ≤ length p.members.items * 2 ^ 40 = sum_by-le (left_to (end_of p.phase p.want)) (2 ^ 40) p.members.items (λ k d l. left_small (end_of p.phase p.want) (get_or p.members.items k d) (end_small p.phase p.want goal)) in
    record {
      goal = goal;
      some = some_left c t p g;
      first = rank_small p.phase;
      second = omega (arith, most, g.course.all, g.course.odd.1);
    }
