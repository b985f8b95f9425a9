-- The disks of a run's nodes, from those that are handed in to those that come back.
use Rattle.std.proofs.Common.{◌≡◌, sym, ap, ◌∙◌, ℕ, zero, suc, List, [], ◌∷◌, length, map, Some}
use Rattle.std.specs.Prelude.{slice_get}
use Rattle.replica_api.specs.Replica.{ReplicaView}
use Rattle.script_text.specs.declared.faults.FaultLine.{FaultLine}
use Rattle.node_course.specs.FaultLines.{stops_before}
use Rattle.node_crew.specs.Arming.{ArmedByStops, NoneArmed}
use Rattle.node_crew.proofs.Arming.{all_seen, all_then}

-- and then no disk was armed
pub stops_then : {A : Type 0} (faults : List FaultLine) (shows : A → ReplicaView) (xs ys zs : List A) → ArmedByStops faults shows xs ys → NoneArmed shows ys zs → ArmedByStops faults shows xs zs
stops_then faults shows xs ys zs h k = record { phases = h.phases; all = h.all; armed = all_then shows (λ n. stops_before n faults h.phases) xs ys zs h.armed k }

shown_at : {A B V : Type 0} (f : A → V) (g : B → V) (xs : List A) (us : List B) → map g us ≡ map f xs → (j : ℕ) (x : A) (u : B) → slice_get xs j ≡ Some x → slice_get us j ≡ Some u → g u ≡ f x
shown_at f g [] us same j x u p q = absurd (cc)
shown_at f g (y ∷ xs) [] same j x u p q = absurd (cc)
shown_at f g (y ∷ xs) (v ∷ us) same zero x u p q = cc
shown_at f g (y ∷ xs) (v ∷ us) same (suc j) x u p q = shown_at f g xs us (tail same) j x u p q
  where
    tail : g v ∷ map g us ≡ f y ∷ map f xs → map g us ≡ map f xs
    tail e = cc

-- the same of nodes that show what these workers do
pub stops_seen : {A B : Type 0} (faults : List FaultLine) (shows : A → ReplicaView) (seen : B → ReplicaView) (xs ys : List A) (us vs : List B) → length us ≡ length xs → length vs ≡ length ys
    → map seen us ≡ map shows xs → map seen vs ≡ map shows ys → ArmedByStops faults shows xs ys → ArmedByStops faults seen us vs
stops_seen faults shows seen xs ys us vs first second was is h = record {
  phases = h.phases;
  all = h.all;
  armed = all_seen (λ n. stops_before n faults h.phases) shows seen xs ys us vs first second (shown_at shows seen xs us was) (shown_at shows seen ys vs is) h.armed;
}
