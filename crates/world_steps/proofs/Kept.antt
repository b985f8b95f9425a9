-- The law of worlds is kept by an event, and by what is no event.
use Rattle.std.proofs.Common.{◌≡◌, ◌⊎◌, inl, inr, ℕ, zero, suc, ◌<◌, Bool, true, false, refl, sym, ◌∙◌, ap, subst, ⊎_elim, arith, List, [], ◌∷◌, ◌++◌, length, map, get_or, set, Option, Some, get_or-set_same, get_or-set_other}
use Rattle.std.specs.Prelude.{◌||◌, Contains}
use Rattle.std.specs.List.{list_any}
use Rattle.std.proofs.lemmas.Bool.{or_cases, false≢true}
use Rattle.std.proofs.lemmas.List.{append-nil}
use Rattle.std.proofs.lemmas.Option.{slice_get-get_or}
use Rattle.delos_types.specs.declared.entry.Entry.{Entry}
use Rattle.legal_journal.specs.declared.events.Event.{Event}
use Rattle.legal_journal.specs.Told.{put}
use Rattle.legal_journal.specs.Moves.{move}
use Rattle.legal_journal.specs.Journal.{State, state_of, after, MayHappen, IsLegal}
use Rattle.legal_journal.specs.Laws.{Continues}
use Rattle.legal_journal.proofs.Cells.{put_cases}
use Rattle.legal_journal.proofs.Sound.{StateOk}
use Rattle.legal_journal.proofs.Legal.{sound, goes_on}
use Rattle.fabric_core.proofs.Kept.{legal_more, state_more}
use Rattle.world_steps.specs.declared.cell.WorldCell.{WorldCell}
use Rattle.world_steps.specs.Cells.{view_of}
use Rattle.world_steps.specs.Parts.{Register, Node, World, no_cell, no_node, cell_at, node_at, shelf_of}
use Rattle.world_steps.specs.Events.{is_begin_of, is_owner, ends, was_sealed_at, places, was_placed_at}
use Rattle.world_steps.specs.Laws.{law_of, IsCellTold, IsRegisterTold, IsFront, WorldLaw}

-- a change at i of a list, and of what is told at i
pub placed : {A B : Type 0} (P : A → B → Type 0) (f : ℕ → A) (ys : List B) (d : B) (i : ℕ) (a : A) (b : B) → i < length ys → P a b → ((j : ℕ) → P (f j) (get_or ys j d)) → (j : ℕ) → P (put f i a j) (get_or (set ys i b) j d)
placed {A} {B} P f ys d i a b here new old j =
    put_cases {A = A} (λ (x : A). P x (get_or (set ys i b) j d)) f i a j
    (λ e. subst (λ (y : B). P a y) (sym (ap (λ k. get_or (set ys i b) k d) e ∙ get_or-set_same ys i b d here)) new)
    (λ k. subst (λ (y : B). P (f j) y) (sym (get_or-set_other ys i j b d k)) (old j))

-- a change at i of a list alone
pub at_set : {B : Type 0} (P : ℕ → B → Type 0) (ys : List B) (d : B) (i : ℕ) (b : B) → (i < length ys → P i b) → ((j : ℕ) → P j (get_or ys j d)) → (j : ℕ) → P j (get_or (set ys i b) j d)
at_set P [] d i b new old j = old j
at_set P (y ∷ ys) d zero b new old zero = new (omega arith)
at_set P (y ∷ ys) d zero b new old (suc j) = old (suc j)
at_set P (y ∷ ys) d (suc i) b new old zero = old zero
at_set P (y ∷ ys) d (suc i) b new old (suc j) = at_set (λ k. P (suc k)) ys d i b (λ h. new (omega arith)) (λ k. old (suc k)) j

pub map_kept : {A B : Type 0} (f : A → B) (xs : List A) (i : ℕ) (a d : A) → f a ≡ f (get_or xs i d) → map f (set xs i a) ≡ map f xs
map_kept f [] i a d h = refl
map_kept f (x ∷ xs) zero a d h = ap (λ y. y ∷ map f xs) h
map_kept f (x ∷ xs) (suc i) a d h = ap (λ ys. f x ∷ ys) (map_kept f xs i a d h)

any_push : {A : Type 0} (test : A → Bool) (xs : List A) (x : A) → list_any test (xs ++ x ∷ []) ≡ true → (list_any test xs ≡ true) ⊎ (test x ≡ true)
any_push test [] x h = ⊎_elim (λ (k : test x ≡ true). inr k) (λ (k : list_any test [] ≡ true). absurd (false≢true k)) (or_cases (test x) (list_any test []) h)
any_push {A} test (y ∷ ys) x h = ⊎_elim
    (λ (k : test y ≡ true). inl (ap (λ b. b || list_any test ys) k))
    (λ (k : list_any test (ys ++ x ∷ []) ≡ true). ⊎_elim
    (λ (g : list_any test ys ≡ true). inl (more (test y) (list_any test ys) g))
    (λ (g : test x ≡ true). inr g)
    (any_push test ys x k))
    (or_cases (test y) (list_any test (ys ++ x ∷ [])) h)
  where
    more : (a b : Bool) → b ≡ true → (a || b) ≡ true
    more true b g = refl
    more false b g = g

-- what the log showed, it shows or did
pub front_later : (old new : ℕ → Option Entry) → ((pos : ℕ) (e : Entry) → old pos ≡ Some e → new pos ≡ Some e) → (n : Node) → IsFront old n → IsFront new n
front_later old new later n h = record {
  applied = λ i l.
      let at = slice_get-get_or n.applied i no_entry l in
      later i _ (h.applied i l ∙ at) ∙ sym at;
  whole = h.whole;
  torn = λ e k. later (length n.applied) e (h.torn e k);
}
  where
    no_entry : Entry
    no_entry = record { origin = 0; headers = []; payload = [] }

-- the law holds of a world, and its events are those of an earlier one and maybe more
pub record Goes (may : ℕ → Entry → Type 0) (floor : List Entry → ℕ → Type 0) (w new : World) : Type 0 where
  pub law : WorldLaw may floor new
  pub more : List Event
  pub events : new.events ≡ w.events ++ more
  pub shelf : shelf_of new ≡ shelf_of w

module _ (may : ℕ → Entry → Type 0) (floor : List Entry → ℕ → Type 0) (w : World) (law : WorldLaw may floor w) where
  pub idle : Goes may floor w w
  idle = record { law = law; more = []; events = sym (append-nil w.events); shelf = refl }

  pub state_ok : StateOk (length (shelf_of w)) (state_of w.events)
  state_ok = sound (law_of may floor w) w.events law.legal

  -- One event: it may happen, and the parts go on as it tells.
  pub event_kept : (cells : List WorldCell) (r : Register) (e : Event) → MayHappen (state_of w.events) (law_of may floor w) e → map (λ (c : WorldCell). (view_of c).servers) cells ≡ shelf_of w → ((k : ℕ) → IsCellTold ((after (state_of w.events) e.who (move e)).cells k) (cell_at cells k)) → IsRegisterTold (after (state_of w.events) e.who (move e)).register r
      → ((k t who : ℕ) → is_begin_of who k t e ≡ true → (t < ((after (state_of w.events) e.who (move e)).cells k).told.begun) × (((after (state_of w.events) e.who (move e)).cells k).owner t ≡ who))
      → ((k n : ℕ) → ends k n e.call e.answer ≡ true → Contains ((after (state_of w.events) e.who (move e)).cells k).ends n)
      → ((k p : ℕ) → places k p e.call e.answer ≡ true → p < ((after (state_of w.events) e.who (move e)).cells k).told.reach)
      → Goes may floor w (record w { cells = cells; register = r; events = w.events ++ e ∷ [] })
  event_kept cells r e happens shelf told register owner ended placing =
      let es = w.events ++ e ∷ [] in
      let legal = legal_more (law_of may floor w) w.events e law.legal happens in
      let next : state_of es ≡ after (state_of w.events) e.who (move e) = state_more (law_of may floor w) w.events e in
      let goes : Continues (state_of w.events) (state_of es) = goes_on (law_of may floor w) w.events (e ∷ []) legal in
      record {
        more = e ∷ [];
        events = refl;
        shelf = shelf;
        law = record {
          legal = subst (λ (s : List ℕ). IsLegal (record { may = may; floor = floor; shelf = s }) es) (sym shelf) legal;
          cells = λ k. subst (λ (s : State). IsCellTold (s.cells k) (cell_at cells k)) (sym next) (told k);
          owners = λ k t who h. ⊎_elim
              (λ (old : is_owner w.events who k t ≡ true).
              let was = law.owners k t who old in
              let on = goes.cell k in (omega (arith, was.0, on.begun), on.owner t was.0 ∙ was.1))
              (λ (new : is_begin_of who k t e ≡ true).
              subst (λ (s : State). (t < (s.cells k).told.begun) × ((s.cells k).owner t ≡ who)) (sym next) (owner k t who new))
              (any_push (is_begin_of who k t) w.events e h);
          ends = λ k n h. ⊎_elim
              (λ (old : was_sealed_at w.events k n ≡ true). (goes.cell k).ends n (law.ends k n old))
              (λ (new : ends k n e.call e.answer ≡ true). subst (λ (s : State). Contains (s.cells k).ends n) (sym next) (ended k n new))
              (any_push (λ (x : Event). ends k n x.call x.answer) w.events e h);
          placed = λ k p h. ⊎_elim
              (λ (old : was_placed_at w.events k p ≡ true).
              let was = law.placed k p old in
              let on = goes.cell k in omega (arith, was, on.reach))
              (λ (new : places k p e.call e.answer ≡ true). subst (λ (s : State). p < (s.cells k).told.reach) (sym next) (placing k p new))
              (any_push (λ (x : Event). places k p x.call x.answer) w.events e h);
          register = subst (λ (s : State). IsRegisterTold s.register r) (sym next) register;
          nodes = λ k. front_later (state_of w.events).shown (state_of es).shown goes.shown (node_at w.nodes k) (law.nodes k);
        };
      }

  -- No event: a cell moves as nobody's call, or a node does something.
  pub cell_kept : (i : ℕ) (c : WorldCell) → (i < length w.cells → IsCellTold ((state_of w.events).cells i) c) → (view_of c).servers ≡ (view_of (cell_at w.cells i)).servers → Goes may floor w (record w { cells = set w.cells i c })
  cell_kept i c told servers =
      let shelf : map (λ (x : WorldCell). (view_of x).servers) (set w.cells i c) ≡ shelf_of w = map_kept (λ (x : WorldCell). (view_of x).servers) w.cells i c no_cell servers in
      record {
        more = [];
        events = sym (append-nil w.events);
        shelf = shelf;
        law = record {
          legal = subst (λ (s : List ℕ). IsLegal (record { may = may; floor = floor; shelf = s }) w.events) (sym shelf) law.legal;
          cells = at_set (λ k x. IsCellTold ((state_of w.events).cells k) x) w.cells no_cell i c told law.cells;
          owners = law.owners;
          ends = law.ends;
          placed = law.placed;
          register = law.register;
          nodes = law.nodes;
        };
      }

  pub node_kept : (k : ℕ) (n : Node) → IsFront (state_of w.events).shown n → Goes may floor w (record w { nodes = set w.nodes k n })
  node_kept k n front = record {
    more = [];
    events = sym (append-nil w.events);
    shelf = refl;
    law = record {
      legal = law.legal;
      cells = law.cells;
      owners = law.owners;
      ends = law.ends;
      placed = law.placed;
      register = law.register;
      nodes = at_set (λ (j : ℕ) (x : Node). IsFront (state_of w.events).shown x) w.nodes no_node k n (λ _. front) law.nodes;
    };
  }
