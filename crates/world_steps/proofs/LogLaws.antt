-- What follows for the log, the chains and the nodes of two worlds, one later than the other.
use Rattle.std.proofs.Common.{◌≡◌, inl, inr, ℕ, zero, suc, ◌+◌, ◌<◌, ◌≤◌, true, [], ◌∷◌, refl, sym, ◌∙◌, ap, subst, arith, List, ◌++◌, length, Option, Some, IsSome}
use Rattle.std.specs.Prelude.{slice_get}
use Rattle.std.proofs.lemmas.Option.{slice_get_within}
use Rattle.delos_types.specs.declared.entry.Entry.{Entry}
use Rattle.delos_types.specs.declared.chain.Segment.{Segment}
use Rattle.delos_types.specs.declared.chain.Chain.{Chain}
use Rattle.chain_map.specs.Chain.{IsChain}
use Rattle.legal_journal.specs.declared.events.Event.{Event}
use Rattle.legal_journal.specs.Journal.{State, IsLegal}
use Rattle.legal_journal.specs.Journal as journal
use Rattle.legal_journal.specs.Laws.{Continues}
use Rattle.legal_journal.specs.Laws as laws
use Rattle.legal_journal.proofs.Log.{slice_get_front, HasStart-in}
use Rattle.legal_journal.proofs.Sound.{StateOk, reach_le_end}
use Rattle.legal_journal.proofs.Legal.{goes_on, agrees, whole, reached_stands}
use Rattle.legal_journal.proofs.Chains.{chain_ok, closed_at, is_in_at}
use Rattle.world_steps.specs.Cells.{view_of, entries_of}
use Rattle.world_steps.specs.Parts.{World, cell_at, node_at, given_under, shelf_of}
use Rattle.world_steps.specs.Logs.{log_at, trim_of, tail_of, Stands}
use Rattle.world_steps.specs.Laws.{law_of, WorldLaw}
use Rattle.world_steps.specs.Events.{was_placed_at}
use Rattle.world_steps.proofs.Kind.{cell_kind}
use Rattle.world_steps.proofs.Kept.{Goes, state_ok}
use Rattle.world_steps.proofs.Seen.{reach_same, entries_same, log_same, trim_same, tail_same}

pub some_at : {A : Type 0} (xs : List A) (i : ℕ) → i < length xs → (x : A) × (slice_get xs i ≡ Some x)
some_at [] i l = absurd (omega arith)
some_at (x ∷ xs) zero l = (x, refl)
some_at (x ∷ xs) (suc i) l = some_at xs i (omega arith)

module _ (may : ℕ → Entry → Type 0) (floor : List Entry → ℕ → Type 0) (w : World) (law : WorldLaw may floor w) where
  ok : StateOk (length (shelf_of w)) (journal.state_of w.events)
  ok = state_ok may floor w law

  -- what stands by the events stands in the world
  pub stands_here : (pos : ℕ) (e : Entry) → laws.Stands (journal.state_of w.events) pos e → Stands w pos e
  stands_here pos e (inl x) = inl (omega (arith, trim_same may floor w law))
  stands_here pos e (inr x) = inr (log_same may floor w law pos ∙ x)

  pub chain_is : (v : ℕ) (c : Chain) → given_under w.register v ≡ Some c → IsChain c
  chain_is v c h = chain_ok (length (shelf_of w)) (journal.state_of w.events) v c ok (law.register.given v ∙ h)

  pub end_above : (v k end : ℕ) (c : Chain) (s : Segment) → given_under w.register v ≡ Some c → slice_get c.segments k ≡ Some s → s.end ≡ Some end → s.start + (view_of (cell_at w.cells s.id)).reach ≤ end
  end_above v k end c s given at is =
      let x = closed_at (length (shelf_of w)) (journal.state_of w.events) v c ok (law.register.given v ∙ given) k end s at is in
      omega (arith, x.1, reach_le_end ((journal.state_of w.events).cells s.id) x.0 (ok.cell s.id) x.2, reach_same may floor w law s.id)

  module _ (new : World) (goes : Goes may floor w new) where
    next : WorldLaw may floor new
    next = goes.law

    shelf_legal : IsLegal (law_of may floor new) (w.events ++ goes.more)
    shelf_legal = subst (λ (es : List Event). IsLegal (law_of may floor new) es) goes.events goes.law.legal

    pub continues : Continues (journal.state_of w.events) (journal.state_of new.events)
    continues = subst (λ (es : List Event). Continues (journal.state_of w.events) (journal.state_of es)) (sym goes.events) (goes_on (law_of may floor new) w.events goes.more shelf_legal)

    pub logs_same : (pos : ℕ) (e f : Entry) → log_at w pos ≡ Some e → log_at new pos ≡ Some f → e ≡ f
    logs_same pos e f h k =
        agrees (journal.state_of w.events) (journal.state_of new.events) pos e f continues (sym (log_same may floor w law pos) ∙ h) (sym (log_same may floor new goes.law pos) ∙ k)

    pub trim_grows : trim_of w ≤ trim_of new
    trim_grows = omega (arith, continues.trim, trim_same may floor w law, trim_same may floor new goes.law)

    pub tail_grows : tail_of w ≤ tail_of new
    tail_grows = omega (arith, continues.tail, tail_same may floor w law, tail_same may floor new goes.law)

    pub log_whole : (pos : ℕ) → trim_of new ≤ pos → pos < tail_of w → IsSome (log_at new pos)
    log_whole pos up low =
        subst (λ (o : Option Entry). IsSome o) (sym (log_same may floor new goes.law pos))
        (whole (length (shelf_of new)) (journal.state_of new.events) pos (state_ok may floor new goes.law)
        (omega (arith, up, trim_same may floor new goes.law)) (omega (arith, low, tail_grows, tail_same may floor new goes.law)))

    pub given_stays : (v : ℕ) (c : Chain) → given_under w.register v ≡ Some c → given_under new.register v ≡ Some c
    given_stays v c h = sym (goes.law.register.given v) ∙ continues.given v c (law.register.given v ∙ h)

    pub answered_stands : (v k p : ℕ) (c : Chain) (s : Segment) (e : Entry) → given_under new.register v ≡ Some c → slice_get c.segments k ≡ Some s → p < (view_of (cell_at w.cells s.id)).reach → slice_get (entries_of (cell_at w.cells s.id)) p ≡ Some e → Stands new (s.start + p) e
    answered_stands v k p c s e given at low is =
        let late = journal.state_of new.events in
        let good = state_ok may floor new goes.law in
        let on = continues.cell s.id in
        let starts = (good.olds v c (goes.law.register.given v ∙ given)).start s.id s.start (HasStart-in s c.segments (is_in_at c.segments k s at)) in
        let was : slice_get (journal.entries (journal.state_of w.events).cells s.id) p ≡ Some e = ap (λ (es : List Entry). slice_get es p) (sym (entries_same may floor w law s.id)) ∙ is in
        let now : slice_get (journal.entries late.cells s.id) p ≡ Some e = ap (λ (es : List Entry). slice_get es p) on.longer.1 ∙ slice_get_front (journal.entries (journal.state_of w.events).cells s.id) on.longer.0 p e was in
        stands_new (s.start + p) e (reached_stands (length (shelf_of new)) late s.id s.start p e good starts (omega (arith, low, on.reach, reach_same may floor w law s.id)) now)
      where
        stands_new : (pos : ℕ) (e : Entry) → laws.Stands (journal.state_of new.events) pos e → Stands new pos e
        stands_new pos e (inl x) = inl (omega (arith, trim_same may floor new goes.law))
        stands_new pos e (inr x) = inr (log_same may floor new goes.law pos ∙ x)

    -- what a client was told stands
    pub placed_stands : (v k p : ℕ) (c : Chain) (s : Segment) → given_under new.register v ≡ Some c → slice_get c.segments k ≡ Some s → was_placed_at w.events s.id p ≡ true
        → (e : Entry) × (slice_get (entries_of (cell_at w.cells s.id)) p ≡ Some e) × Stands new (s.start + p) e
    placed_stands v k p c s given at told =
        let here = law.cells s.id in
        let low = law.placed s.id p told in
        let size = cell_kind.whole (cell_at w.cells s.id) here.lawful in
        let reach = reach_same may floor w law s.id in
        let sound = here.view.sound in
        let entry = some_at (entries_of (cell_at w.cells s.id)) p (omega (arith, low, reach, size, sound.reach, sound.firm)) in
        (entry.0, entry.1, answered_stands v k p c s entry.0 given at (omega (arith, low, reach)) entry.1)

    pub nodes_same : (one other pos : ℕ) (e f : Entry) → slice_get (node_at w.nodes one).applied pos ≡ Some e → slice_get (node_at new.nodes other).applied pos ≡ Some f → e ≡ f
    nodes_same one other pos e f h k =
        let early : (journal.state_of w.events).shown pos ≡ Some e = (law.nodes one).applied pos (slice_get_within (node_at w.nodes one).applied pos e h) ∙ h in
        let late : (journal.state_of new.events).shown pos ≡ Some f = (goes.law.nodes other).applied pos (slice_get_within (node_at new.nodes other).applied pos f k) ∙ k in
        let both : Some e ≡ Some f = sym (continues.shown pos e early) ∙ late in cc
