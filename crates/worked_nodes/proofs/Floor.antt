-- Up to where two nodes may trim.
use Rattle.std.proofs.Common.{◌≡◌, ◌≤◌, ℕ, Bool, true, false, not, cond, List, [], ◌∷◌, length, map, min, refl, sym, ap, subst, ◌∙◌, arith}
use Rattle.std.specs.Prelude.{filter}
use Rattle.delos_types.specs.Spaces.{SpaceMap}
use Rattle.delos_types.specs.declared.entry.Entry.{Entry}
use Rattle.engine_api.specs.declared.content.Placed.{Placed}
use Rattle.engine_api.specs.Acted.{unpack_all}
use Rattle.engine_api.specs.Members.{least, has_left, is_member, position_of, least_position}
use Rattle.engine_api.specs.Order.{numbers}
use Rattle.log_laws.specs.State.{IsStateOf, Views}
use Rattle.engine_steps.specs.Layout.{reported_of, trim_of}
use Rattle.base_engine.specs.Trimming.{is_member_in, least_of, IsFloor}
use Rattle.worked_nodes.specs.Resting.{least_of_two}

-- the space has what those reported that haven't left
same_reports : (nodes : List ℕ) (placed : List Placed) (m : SpaceMap) → Views (has_left placed) (position_of placed) m → map (reported_of m) (filter (is_member_in m) nodes) ≡ map (position_of placed) (filter (is_member placed) nodes)
same_reports [] placed m v = refl
same_reports (n ∷ ns) placed m v = by_left (same_reports ns placed m v) (has_left placed n) refl
  where
    by_left : map (reported_of m) (filter (is_member_in m) ns) ≡ map (position_of placed) (filter (is_member placed) ns) → (b : Bool) → has_left placed n ≡ b
        → map (reported_of m) (filter (is_member_in m) (n ∷ ns)) ≡ map (position_of placed) (filter (is_member placed) (n ∷ ns))
    by_left rest true is =
        ap (λ b. map (reported_of m) (cond (not b) (n ∷ filter (is_member_in m) ns) (filter (is_member_in m) ns))) (v.gone n ∙ is)
        ∙ (rest ∙ sym (ap (λ b. map (position_of placed) (cond (not b) (n ∷ filter (is_member placed) ns) (filter (is_member placed) ns))) is))
    by_left rest false is =
        ap (λ b. map (reported_of m) (cond (not b) (n ∷ filter (is_member_in m) ns) (filter (is_member_in m) ns))) (v.gone n ∙ is)
        ∙ (ap (λ q. q ∷ map (reported_of m) (filter (is_member_in m) ns)) (v.reported n is)
        ∙ (ap (λ l. position_of placed n ∷ l) rest
        ∙ sym (ap (λ b. map (position_of placed) (cond (not b) (n ∷ filter (is_member placed) ns) (filter (is_member placed) ns))) is)))

pub floor_is : IsFloor IsStateOf least_of_two 2
floor_is log m s =
    let e : least_of 2 m ≡ least_position 2 (unpack_all 0 log) = ap least (same_reports (numbers 1 2) (unpack_all 0 log) m s.members) in
    subst (λ n. min (length log) (min (trim_of m) (least_of 2 m)) ≤ min (length log) n) e (omega arith)

pub floor_within : (log : List Entry) (n : ℕ) → least_of_two log n → n ≤ length log
floor_within log n h = omega (arith, h)
