-- In a space that is the state of a log, the least position of a member and the trim point are the log's.
use Rattle.std.proofs.Common.{◌≡◌, refl, ap, ◌∙◌, ℕ, Bool, true, false, cond, List, [], ◌∷◌}
use Rattle.std.specs.Prelude.{map, filter, not}
use Rattle.delos_types.specs.Spaces.{SpaceMap}
use Rattle.delos_types.specs.declared.entry.Entry.{Entry}
use Rattle.engine_api.specs.Acted.{unpack_all}
use Rattle.engine_api.specs.Members.{least, has_left, is_member, position_of, least_position, trim_point}
use Rattle.engine_api.specs.Order.{numbers}
use Rattle.engine_steps.specs.Layout.{reported_of, trim_of}
use Rattle.log_laws.specs.State.{IsStateOf}
use Rattle.base_engine.specs.Trimming.{is_member_in, least_of}

same-map : (f g : ℕ → ℕ) (p q : ℕ → Bool) (ns : List ℕ) → ((n : ℕ) → p n ≡ q n) → ((n : ℕ) → q n ≡ true → f n ≡ g n) → map f (filter p ns) ≡ map g (filter q ns)
same-map f g p q [] pass same = refl
same-map f g p q (n ∷ ns) pass same = by_test (q n) refl (same-map f g p q ns pass same)
  where
    by_test : (b : Bool) → q n ≡ b → map f (filter p ns) ≡ map g (filter q ns) → map f (cond (p n) (n ∷ filter p ns) (filter p ns)) ≡ map g (cond (q n) (n ∷ filter q ns) (filter q ns))
    by_test true t rest = rw (pass n) (rw t (ap (λ x. x ∷ map f (filter p ns)) (same n t) ∙ ap (λ l. g n ∷ l) rest))
    by_test false t rest = rw (pass n) (rw t rest)

not_left : (b : Bool) → not b ≡ true → b ≡ false
not_left true h = absurd (cc)
not_left false h = refl

pub least-in_state : (nodes : ℕ) (log : List Entry) (m : SpaceMap) → IsStateOf log m → least_of nodes m ≡ least_position nodes (unpack_all 0 log)
least-in_state nodes log m s =
    let placed = unpack_all 0 log in
    ap least (same-map (reported_of m) (position_of placed) (is_member_in m) (is_member placed) (numbers 1 nodes)
    (λ n. ap not (s.members.gone n))
    (λ n member. s.members.reported n (not_left (has_left placed n) member)))

pub point-in_state : (log : List Entry) (m : SpaceMap) → IsStateOf log m → trim_of m ≡ trim_point (unpack_all 0 log)
point-in_state log m s = s.trim
