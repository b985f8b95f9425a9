-- The log that the loglets of a fabric show is the one that its journal tells.
use Rattle.std.proofs.Common.{◌≡◌, inl, inr, ℕ, zero, suc, ◌+◌, ◌-◌, ◌<◌, ◌≤◌, List, [], ◌∷◌, length, drop, Some, None, Bool, true, false, cond, refl, sym, ap, ◌∙◌, ⊎_elim, arith}
use Rattle.std.specs.Prelude.{slice_get, nat_le, unwrap_or}
use Rattle.std.specs.Option.{option_and_then}
use Rattle.std.proofs.lemmas.Bool.Decides.{nat_tests}
use Rattle.std.proofs.lemmas.List.{length-map}
use Rattle.delos_types.specs.declared.entry.Entry.{Entry}
use Rattle.delos_types.specs.declared.chain.Segment.{Segment}
use Rattle.chain_map.specs.Chain.{last_segment}
use Rattle.loglet_api.specs.declared.call.Kind.{Kind}
use Rattle.loglet_api.specs.View.{LogletView}
use Rattle.legal_journal.specs.Law.{Law}
use Rattle.legal_journal.specs.Shown as shown
use Rattle.legal_journal.specs.Journal.{State, state_of, log_at, trim_of, tail_of, reach, entries, ends}
use Rattle.legal_journal.proofs.Log.{IsIn, HasStart-in, last_starts}
use Rattle.legal_journal.proofs.Cells as cells
use Rattle.legal_journal.proofs.Sound.{StateOk, Given, log_to}
use Rattle.legal_journal.proofs.Legal.{sound}
use Rattle.fabric_core.specs.Log as log
use Rattle.fabric_core.specs.Fabric.{FabricView, FabricOk, IsAsTold}

get_drop : (xs : List Entry) (n k : ℕ) → slice_get (drop n xs) k ≡ slice_get xs (n + k)
get_drop xs zero k = let z : 0 + k ≡ k = omega arith in sym (ap (slice_get xs) z)
get_drop [] (suc n) k = refl
get_drop (x ∷ xs) (suc n) k = let z : suc n + k ≡ suc (n + k) = omega arith in get_drop xs n k ∙ sym (ap (slice_get (x ∷ xs)) z)

some_at : (xs : List LogletView) (i : ℕ) → i < length xs → (x : LogletView) × (slice_get xs i ≡ Some x)
some_at [] i h = absurd (omega arith)
some_at (x ∷ xs) zero h = (x, refl)
some_at (x ∷ xs) (suc i) h = some_at xs i (omega arith)

-- the loglet of a segment is as told, and nothing from a position on is cut
record CellAt (views : List LogletView) (w : State) (id start pos : ℕ) : Type 0 where
  view : LogletView
  at : slice_get views id ≡ Some view
  told : IsAsTold (w.cells id) view
  ok : cells.CellOk (w.cells id)
  low : start ≤ pos → (w.cells id).told.cut ≤ pos - start

module _ (views : List LogletView) (w : State) (pos : ℕ) where
  reach_same : (s : Segment) → CellAt views w s.id s.start pos → log.reach_of (slice_get views s.id) ≡ reach w.cells s.id
  reach_same s a = ap log.reach_of a.at ∙ a.told.reach

  end_same : (s : Segment) → CellAt views w s.id s.start pos → log.end_of views s ≡ shown.end_of (reach w.cells) s
  end_same s a = ap (λ n. unwrap_or s.end (s.start + n)) (reach_same s a)

  place_same : (s : Segment) → (a : CellAt views w s.id s.start pos) → s.start ≤ pos → option_and_then (log.entry_of_cell (pos - s.start)) (slice_get views s.id) ≡ slice_get (entries w.cells s.id) (pos - s.start)
  place_same s a up =
      let i = pos - s.start in
      let cut = (w.cells s.id).told.cut in
      let low = a.low up in
      let low_view : a.view.cut ≤ i = omega (arith, a.told.cut) in
      let test : nat_le a.view.cut i ≡ true = grind (arith, nat_tests) in
      let at : cut + (i - cut) ≡ i = omega arith in
      ap (option_and_then (log.entry_of_cell i)) a.at
      ∙ (ap (λ b. cond b (slice_get a.view.log (i - a.view.cut)) None) test
      ∙ (ap (λ n. slice_get a.view.log (i - n)) a.told.cut
      ∙ (ap (λ l. slice_get l (i - cut)) (a.told.log ∙ a.ok.log)
      ∙ (get_drop (w.cells s.id).entries cut (i - cut) ∙ ap (slice_get (entries w.cells s.id)) at))))

  starts_low : (a b : ℕ) → shown.is_within a b pos ≡ true → a ≤ pos
  starts_low a b h = grind (arith, nat_tests)

  entry_same : (ss : List Segment) → ((x : Segment) → IsIn x ss → CellAt views w x.id x.start pos) → log.entry_in views ss pos ≡ shown.entry_in (reach w.cells) (entries w.cells) ss pos
  entry_same [] h = refl
  entry_same (s ∷ ss) h = by_test (entry_same ss (λ x y. h x (inr y))) (shown.is_within s.start (shown.end_of (reach w.cells) s) pos) refl
    where
      by_test : log.entry_in views ss pos ≡ shown.entry_in (reach w.cells) (entries w.cells) ss pos → (b : Bool) → shown.is_within s.start (shown.end_of (reach w.cells) s) pos ≡ b → log.entry_in views (s ∷ ss) pos ≡ shown.entry_in (reach w.cells) (entries w.cells) (s ∷ ss) pos
      by_test rest true b =
          let a = h s (inl refl) in
          let here : shown.is_within s.start (log.end_of views s) pos ≡ true = ap (λ n. shown.is_within s.start n pos) (end_same s a) ∙ b in
          ap (λ t. cond t (option_and_then (log.entry_of_cell (pos - s.start)) (slice_get views s.id)) (log.entry_in views ss pos)) here
          ∙ (place_same s a (starts_low s.start (shown.end_of (reach w.cells) s) b)
          ∙ sym (ap (λ t. cond t (slice_get (entries w.cells s.id) (pos - s.start)) (shown.entry_in (reach w.cells) (entries w.cells) ss pos)) b))
      by_test rest false b =
          let a = h s (inl refl) in
          let here : shown.is_within s.start (log.end_of views s) pos ≡ false = ap (λ n. shown.is_within s.start n pos) (end_same s a) ∙ b in
          ap (λ t. cond t (option_and_then (log.entry_of_cell (pos - s.start)) (slice_get views s.id)) (log.entry_in views ss pos)) here
          ∙ (rest
          ∙ sym (ap (λ t. cond t (slice_get (entries w.cells s.id) (pos - s.start)) (shown.entry_in (reach w.cells) (entries w.cells) ss pos)) b))

module _ (law : Law) {kinds : List Kind} (f : FabricView) (marks : List (List Bool)) (ok : FabricOk law kinds f marks) where
  state_ok : StateOk (length law.shelf) (state_of f.journal)
  state_ok = sound law f.journal ok.legal

  cell_at : (id start pos : ℕ) → trim_of (state_of f.journal) ≤ pos → (state_of f.journal).starts id ≡ Some start → CellAt f.cells (state_of f.journal) id start pos
  cell_at id start pos low at =
      let few : id < length f.cells = omega (arith, state_ok.ids id start at, state_ok.shelf, ap length ok.shelf_is, length-map f.cells (λ (v : LogletView). v.servers)) in
      let v = some_at f.cells id few in record {
        view = v.0;
        at = v.1;
        told = (ok.cells id v.0 v.1).told;
        ok = state_ok.cell id;
        low = λ up. ⊎_elim
            (λ (x : ((state_of f.journal).cells id).told.cut ≡ 0). omega arith)
            (λ (x : (s : ℕ) × ((state_of f.journal).starts id ≡ Some s) × (s + ((state_of f.journal).cells id).told.cut ≤ trim_of (state_of f.journal))).
            let both : Some start ≡ Some x.0 = sym at ∙ x.1 in
            let same : start ≡ x.0 = cc in
            omega (arith, x.2))
            (state_ok.cuts id);
      }

  current : Given (ends (state_of f.journal).cells) (state_of f.journal).starts (state_of f.journal).register.chain (state_of f.journal).register.chain
  current = state_ok.olds (state_of f.journal).register.version (state_of f.journal).register.chain state_ok.given

  pub shows : (pos : ℕ) → trim_of (state_of f.journal) ≤ pos → log.virtual_log_at (state_of f.journal).register.chain f.cells pos ≡ log_at (state_of f.journal) pos
  shows pos low =
      let w = state_of f.journal in
      let ss = w.register.chain.segments in
      sym (log_to (reach w.cells) (entries w.cells) w.register.chain pos _ low
      (sym (entry_same f.cells w pos ss (λ x h. cell_at x.id x.start pos low (current.start x.id x.start (HasStart-in x ss h))))))

  pub tails : log.virtual_tail (state_of f.journal).register.chain f.cells ≡ tail_of (state_of f.journal)
  tails =
      let w = state_of f.journal in
      let s = last_segment w.register.chain in
      let at = current.start s.id s.start (last_starts (ends w.cells) current.id current.from w.register.chain.segments current.joined) in
      end_same f.cells w (trim_of w) s (cell_at s.id s.start (trim_of w) (omega arith) at)
