-- The disks of all nodes were armed, one step after another.
use Rattle.std.proofs.Common.{◌≡◌, ◌≢◌, refl, sym, ap, ◌∙◌, subst, ⊎_elim, cond, ℕ, zero, suc, ◌+◌, ◌-◌, ◌<◌, ◌≤◌, List, [], ◌∷◌, ◌++◌, length, Some, arith, append-nil, ne_eqb}
use Rattle.std.specs.Prelude.{slice_get, slice_set}
use Rattle.std.proofs.lemmas.Bool.{cases_lt}
use Rattle.std.proofs.lemmas.List.{length-set}
use Rattle.std.proofs.lemmas.Option.{slice_get_within}
use Rattle.fabric_core.proofs.Marks.{set_other, set_same}
use Rattle.replica_api.specs.Replica.{ReplicaView}
use Rattle.base_engine.specs.Arming.{LeavesArming}
use Rattle.base_engine.proofs.Arming.{arming_same}
use Rattle.script_text.specs.declared.faults.FaultLine.{FaultLine}
use Rattle.node_course.proofs.Looks.{same_or_other}
use Rattle.node_course.specs.FaultLines.{ArmedBy, FaultsBeginAt, stops_before, stops_by, stops_in}
use Rattle.node_crew.specs.Arming.{AreArmed, ArmedByStops, NoneArmed}
use Rattle.node_crew.proofs.Stopping.{armed_join}

some_at : {A : Type 0} (xs : List A) (i : ℕ) → i < length xs → (x : A) × (slice_get xs i ≡ Some x)
some_at [] i low = absurd (omega arith)
some_at (x ∷ xs) zero low = (x, refl)
some_at (x ∷ xs) (suc i) low = some_at xs i (omega arith)

same_some : {A : Type 0} (x y : A) → Some x ≡ Some y → x ≡ y
same_some x y e = cc

module _ {A : Type 0} (shows : A → ReplicaView) where
  -- nothing happened
  pub all_same : (xs : List A) → NoneArmed shows xs xs
  all_same xs = record {
    size = refl;
    each = λ j a b p q. arming_same 0 (shows a) (shows b) (ap shows (same_some b a (sym q ∙ p)));
  }

  -- one node's disk wasn't armed, and the others are as they were
  pub one_moved : (xs : List A) (k : ℕ) (was now : A) → slice_get xs k ≡ Some was → LeavesArming 0 (shows was) (shows now) → NoneArmed shows xs (slice_set xs k now)
  one_moved xs k was now at arms = record {
    size = length-set xs k now;
    each = λ j a b p q. ⊎_elim
        (λ (same : j ≡ k). here a b (ap (slice_get xs) (sym same) ∙ p) (ap (slice_get (slice_set xs k now)) (sym same) ∙ q))
        (λ (other : j ≢ k). arming_same 0 (shows a) (shows b) (ap shows (same_some b a (sym q ∙ (set_other xs k j now other ∙ p)))))
        (same_or_other j k);
  }
    where
      here : (a b : A) → slice_get xs k ≡ Some a → slice_get (slice_set xs k now) k ≡ Some b → LeavesArming 0 (shows a) (shows b)
      here a b p q =
          let first : was ≡ a = same_some was a (sym at ∙ p) in
          let second : now ≡ b = same_some now b (sym (set_same xs k now was at) ∙ q) in
          subst (λ x. LeavesArming 0 (shows x) (shows b)) first (subst (λ x. LeavesArming 0 (shows was) (shows x)) second arms)

  module _ (f g : ℕ → List ℕ) (xs ys zs : List A) where
    -- one after the other
    pub all_both : AreArmed f shows xs ys → AreArmed g shows ys zs → AreArmed (λ n. f n ++ g n) shows xs zs
    all_both h k = record {
      size = k.size ∙ h.size;
      each = λ j a c p q.
          let inside = slice_get_within xs j a p in
          let b = some_at ys j (omega (arith, inside, h.size)) in
          armed_join (f (j + 1)) (g (j + 1)) (shows a) (shows b.0) (shows c) (h.each j a b.0 p b.1) (k.each j b.0 c b.1 q);
    }

  -- the same stops, said otherwise
  pub all_by : (f g : ℕ → List ℕ) (xs ys : List A) → ((n : ℕ) → g n ≡ f n) → AreArmed f shows xs ys → AreArmed g shows xs ys
  all_by f g xs ys same h = record { size = h.size; each = λ j a b p q. subst (λ l. ArmedBy l (shows a) (shows b)) (sym (same (j + 1))) (h.each j a b p q) }

  -- no disk was armed before, or behind it
  pub all_behind : (g : ℕ → List ℕ) (xs ys zs : List A) → NoneArmed shows xs ys → AreArmed g shows ys zs → AreArmed g shows xs zs
  all_behind g xs ys zs h k = all_both (λ n. []) g xs ys zs h k

  pub all_then : (f : ℕ → List ℕ) (xs ys zs : List A) → AreArmed f shows xs ys → NoneArmed shows ys zs → AreArmed f shows xs zs
  all_then f xs ys zs h k = all_by (λ n. f n ++ []) f xs zs (λ n. sym (append-nil (f n))) (all_both f (λ n. []) xs ys zs h k)

  pub none_then : (xs ys zs : List A) → NoneArmed shows xs ys → NoneArmed shows ys zs → NoneArmed shows xs zs
  none_then xs ys zs h k = all_both (λ n. []) (λ n. []) xs ys zs h k

-- the same, as the nodes are seen otherwise
pub all_seen : {A B : Type 0} (f : ℕ → List ℕ) (shows : A → ReplicaView) (seen : B → ReplicaView) (xs ys : List A) (us vs : List B) → length us ≡ length xs → length vs ≡ length ys
    → ((j : ℕ) (x : A) (u : B) → slice_get xs j ≡ Some x → slice_get us j ≡ Some u → seen u ≡ shows x)
    → ((j : ℕ) (y : A) (v : B) → slice_get ys j ≡ Some y → slice_get vs j ≡ Some v → seen v ≡ shows y)
    → AreArmed f shows xs ys → AreArmed f seen us vs
all_seen f shows seen xs ys us vs first second was is h = record {
  size = second ∙ (h.size ∙ sym first);
  each = λ j u v p q.
      let inside = slice_get_within us j u p in
      let within = slice_get_within vs j v q in
      let x = some_at xs j (omega (arith, inside, first)) in
      let y = some_at ys j (omega (arith, within, second)) in
      subst (λ s. ArmedBy (f (j + 1)) s (seen v)) (sym (was j x.0 u x.1 p)) (subst (λ s. ArmedBy (f (j + 1)) (shows x.0) s) (sym (is j y.0 v y.1 q)) (h.each j x.0 y.0 x.1 y.1));
}

-- Phase by phase

stops_none_in : (n phase : ℕ) (fs : List FaultLine) → ((i : ℕ) (f : FaultLine) → slice_get fs i ≡ Some f → f.phase ≢ phase) → stops_in n phase fs ≡ []
stops_none_in n phase [] h = refl
stops_none_in n phase (f ∷ fs) h =
    ap (λ b. cond b (stops_by n f.asks) [] ++ stops_in n phase fs) (ne_eqb f.phase phase (h 0 f refl)) ∙ stops_none_in n phase fs (λ i g at. h (suc i) g at)

-- the lines of both phases begin at the same place: no phase from the one up to the other has any
stops_idle : (n : ℕ) (faults : List FaultLine) (next p d q : ℕ) → q ≡ d + p → FaultsBeginAt faults next p → FaultsBeginAt faults next q → stops_before n faults q ≡ stops_before n faults p
stops_idle n faults next p zero q is b e = let same : q ≡ p = omega (arith, is) in ap (stops_before n faults) same
stops_idle n faults next p (suc d) q is b e =
    let one : q ≡ suc (d + p) = omega (arith, is) in
    let mid : FaultsBeginAt faults next (d + p) = record {
      before = λ i f at low. let h = b.before i f at low in omega (arith, h);
      behind = λ i f at high. let h = e.behind i f at high in omega (arith, h, is);
    } in
    let none : (i : ℕ) (f : FaultLine) → slice_get faults i ≡ Some f → f.phase ≢ d + p = λ i f at same. ⊎_elim
    (λ (low : i < next). let h = b.before i f at low in omega (arith, h, same))
    (λ (high : next ≤ i). let h = e.behind i f at high in omega (arith, h, same, is))
    (cases_lt i next) in
    ap (stops_before n faults) one
    ∙ (ap (λ xs. stops_before n faults (d + p) ++ xs) (stops_none_in n (d + p) faults none)
    ∙ (append-nil (stops_before n faults (d + p)) ∙ stops_idle n faults next p d (d + p) refl b mid))

module _ {A : Type 0} (shows : A → ReplicaView) (faults : List FaultLine) where
  -- no phase was played
  pub none_played : (xs : List A) → AreArmed (λ n. stops_before n faults 0) shows xs xs
  none_played xs = all_same shows xs

  -- one more phase was played, and those between had no fault lines
  pub phase_played : (next p q : ℕ) (xs ys zs : List A) → p ≤ q → FaultsBeginAt faults next p → FaultsBeginAt faults next q
      → AreArmed (λ n. stops_before n faults p) shows xs ys → AreArmed (λ n. stops_in n q faults) shows ys zs → AreArmed (λ n. stops_before n faults (q + 1)) shows xs zs
  phase_played next p q xs ys zs up b e h k =
      let is : q ≡ (q - p) + p = omega (arith, up) in
      let more : q + 1 ≡ suc q = omega arith in
      all_by shows (λ n. stops_before n faults p ++ stops_in n q faults) (λ n. stops_before n faults (q + 1)) xs zs
      (λ n. ap (stops_before n faults) more ∙ ap (λ l. l ++ stops_in n q faults) (stops_idle n faults next p (q - p) q is b e))
      (all_both shows (λ n. stops_before n faults p) (λ n. stops_in n q faults) xs ys zs h k)

  -- behind all fault lines
  pub all_played : (next phase : ℕ) (xs ys : List A) → length faults ≤ next → FaultsBeginAt faults next phase → AreArmed (λ n. stops_before n faults phase) shows xs ys → ArmedByStops faults shows xs ys
  all_played next phase xs ys over b h = record {
    phases = phase;
    all = λ i f at. let inside = slice_get_within faults i f at in b.before i f at (omega (arith, inside, over));
    armed = h;
  }
