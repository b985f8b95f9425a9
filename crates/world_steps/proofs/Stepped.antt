-- Each step of a world keeps its law.
use Rattle.std.proofs.Common.{◌≡◌, ◌≢◌, inl, inr, ℕ, zero, suc, ◌+◌, ◌<◌, ◌≤◌, Bool, true, false, refl, sym, ◌∙◌, ap, subst, ⊎_elim, arith, List, [], ◌∷◌, ◌++◌, length, map, set, Option, Some, None, length-append}
use Rattle.std.specs.Prelude.{not, ◌&&◌, ◌==◌, nat_lt, nat_le, if◌then◌else◌, slice_get, Contains}
use Rattle.std.specs.List.{list_any}
use Rattle.std.proofs.lemmas.Bool.{false≢true, and_parts, or_cases, not-true, ltb-true, leb-true, eqb-true}
use Rattle.std.proofs.lemmas.Bool.Decides.{nat_tests}
use Rattle.std.proofs.lemmas.List.{length-map, append-nil, append_assoc}
use Rattle.std.proofs.lemmas.List.Elements.{Contains-append_right}
use Rattle.delos_types.specs.declared.entry.Entry.{Entry}
use Rattle.delos_types.specs.declared.chain.Segment.{Segment}
use Rattle.delos_types.specs.declared.chain.Chain.{Chain}
use Rattle.chain_map.specs.Chain.{last_id}
use Rattle.loglet_api.specs.declared.call.Op.{Op}
use Rattle.loglet_api.specs.declared.call.Op.TheVariants.{Append, Settle, Tail, Seal, Read, Trim}
use Rattle.loglet_api.specs.declared.call.Answer.{Answer}
use Rattle.loglet_api.specs.declared.call.Answer.TheVariants.{Placed, SealedTail}
use Rattle.quorum_cell.specs.declared.operation.CellStep.TheVariants as cell
use Rattle.loglet_api.specs.declared.call.Refused.TheVariants.{Full as FullLoglet}
use Rattle.loglet_api.specs.declared.call.LogletCall.TheVariants.{Begin as CallBegin, Take as CallTake, Forget as CallForget, Stray as CallStray}
use Rattle.loglet_api.specs.declared.call.LogletAnswer.TheVariants.{Begun as BegunOn, Refusal, Taken, Forgotten, Strayed}
use Rattle.loglet_api.specs.Step.{CanBegin}
use Rattle.striped_cells.specs.declared.motion.Motion.{Motion}
use Rattle.striped_cells.specs.Motions.{aim_of}
use Rattle.legal_journal.specs.declared.events.FabricCall.TheVariants.{Begin as AskBegin, Carry as AskCarry, Forget as AskForget, ReadChain as AskRead, WriteChain as AskWrite, MendMeta as AskMend}
use Rattle.legal_journal.specs.declared.events.FabricAnswer.TheVariants.{Begun, Full, Done, Gone, At, Down, Written, Conflict, MetaFault, Set}
use Rattle.legal_journal.specs.declared.events.Event.{Event}
use Rattle.legal_journal.specs.Told.{put, Running}
use Rattle.legal_journal.specs.Moves.{CellMove, Begins, Answers, Drops}
use Rattle.legal_journal.specs.Journal.{CellState, State, state_of, answered_by, cell_after, ends_told, MayBegin, MayFollow, Extends, Raises, IsFree, Exists}
use Rattle.legal_journal.specs.Journal as journal
use Rattle.legal_journal.proofs.Cells.{put_same}
use Rattle.legal_journal.proofs.Log.{HasStart}
use Rattle.legal_journal.proofs.Sound.{StateOk}
use Rattle.world_steps.specs.declared.step.ChainChange.{ChainChange}
use Rattle.world_steps.specs.declared.step.ChainChange.TheVariants.{Extend, Raise}
use Rattle.world_steps.specs.declared.step.WorldStep.{WorldStep}
use Rattle.world_steps.specs.declared.step.WorldStep.TheVariants as step
use Rattle.world_steps.specs.declared.cell.WorldCell.{WorldCell}
use Rattle.world_steps.specs.Cells.{view_of, is_full, begun, answer_of, taken, is_open, forgotten, stirred}
use Rattle.world_steps.specs.Parts.{Node, World, no_cell, cell_at, node_at, given_under, last_given, shelf_of}
use Rattle.world_steps.specs.Events.{is_begin_of, is_owner, is_tail, is_place}
use Rattle.world_steps.specs.Guards.{is_below, is_trimmed, may_begin, changed, may_follow}
use Rattle.world_steps.specs.Steps.{event, inner_steps, told, moves_inside, begins_op, takes_answer, forgets_op, done, gave, replaced, torn_by, mended, on_register, reads, asked, writes, stops_writing, mends, stays_down, with_entry, next_entry, applies, stops_node, restarts_node, put_node, world_step, run_world}
use Rattle.world_steps.specs.Laws.{IsCellTold, WorldLaw, IsLet, KeepsTo, AllKeepTo}
use Rattle.world_steps.proofs.Told.{begun_told, refused_told, stirred_told, answered_told, dropped_told}
use Rattle.world_steps.proofs.Registers.{push_here, push_else, gave_told, replaced_told, torn_told, missed_told, mended_told, expected}
use Rattle.world_steps.proofs.Kept.{Goes, idle, placed, at_set, map_kept, state_ok, event_kept, cell_kept, node_kept}
use Rattle.world_steps.proofs.Seen.{shown_now}

-- where some element passes a test
pub any_at : {A : Type 0} (test : A → Bool) (xs : List A) → list_any test xs ≡ true → (k : ℕ) × (x : A) × (slice_get xs k ≡ Some x) × (test x ≡ true)
any_at test [] h = absurd (false≢true h)
any_at test (x ∷ xs) h = ⊎_elim
    (λ (e : test x ≡ true). (zero, x, refl, e))
    (λ (e : list_any test xs ≡ true). let r = any_at test xs e in (suc r.0, r.1, r.2, r.3))
    (or_cases (test x) (list_any test xs) h)

starts_in : (trim i n : ℕ) (ss : List Segment) → list_any (λ (s : Segment). (s.id == i) && nat_le (s.start + n) trim) ss ≡ true → (b : ℕ) × HasStart ss i b × (b + n ≤ trim)
starts_in trim i n [] h = absurd (false≢true h)
starts_in trim i n (s ∷ ss) h = ⊎_elim
    (λ (e : ((s.id == i) && nat_le (s.start + n) trim) ≡ true). let parts = and_parts _ _ e in (s.start, inl (eqb-true _ _ parts.0, refl), leb-true _ _ parts.1))
    (λ (e : list_any (λ (x : Segment). (x.id == i) && nat_le (x.start + n) trim) ss ≡ true). let r = starts_in trim i n ss e in (r.0, inr r.1, r.2))
    (or_cases _ _ h)

contains_push : (xs : List ℕ) (m n : ℕ) → m ≡ n → Contains (xs ++ m ∷ []) n
contains_push xs m n e = Contains-append_right xs (m ∷ []) n (zero, omega arith, e)

-- one entry more
front_more : (shown : ℕ → Option Entry) (xs : List Entry) (e : Entry) → journal.Shows shown xs → shown (length xs) ≡ Some e → journal.Shows shown (xs ++ e ∷ [])
front_more shown xs e h new i l = by (i == length xs) refl
  where
    by : (b : Bool) → (i == length xs) ≡ b → shown i ≡ slice_get (xs ++ e ∷ []) i
    by true t = let at : i ≡ length xs = eqb-true _ _ t in ap shown at ∙ (new ∙ sym (push_here xs e i at))
    by false t =
        let apart : i ≢ length xs = grind (arith, nat_tests) in
        h i (omega (arith, l, apart, length-append xs (e ∷ []))) ∙ sym (push_else xs e i apart)

module _ (may : ℕ → Entry → Type 0) (floor : List Entry → ℕ → Type 0) (w : World) (law : WorldLaw may floor w) where
  ok : StateOk (length (shelf_of w)) (state_of w.events)
  ok = state_ok may floor w law

  many : length (shelf_of w) ≡ length w.cells
  many = length-map w.cells (λ (c : WorldCell). (view_of c).servers)

  -- the rule of what may be trimmed of a cell
  trimmed : (i n : ℕ) → is_trimmed w.register i n ≡ true → (s : ℕ) × ((state_of w.events).starts i ≡ Some s) × (s + n ≤ journal.trim_of (state_of w.events))
  trimmed i n h =
      let found = any_at (is_below (last_given w.register).trim i n) w.register.given h in
      let given : (state_of w.events).register.given (suc found.0) ≡ Some found.1 = law.register.given (suc found.0) ∙ found.2 in
      let at = starts_in (last_given w.register).trim i n found.1.segments found.3 in
      (at.0, (ok.olds (suc found.0) found.1 given).start i at.0 at.1, omega (arith, at.2, ap (λ (c : Chain). c.trim) law.register.last))

  may_begin_is : (who i : ℕ) (op : Op) → KeepsTo may floor w (step.Begin who i op) → may_begin w i op ≡ true → MayBegin (state_of w.events) may (length (shelf_of w)) who i op
  may_begin_is who i (Append e) k h = k
  may_begin_is who i (Settle n) k h = tt
  may_begin_is who i Tail k h = tt
  may_begin_is who i Seal k h = omega (arith, ltb-true _ _ h, many)
  may_begin_is who i (Read p) k h = tt
  may_begin_is who i (Trim n) k h = trimmed i n h

  can : (who i : ℕ) (op : Op) → KeepsTo may floor w (step.Begin who i op) → CanBegin op
  can who i (Append e) k = k.0
  can who i (Settle n) k = tt
  can who i Tail k = tt
  can who i Seal k = tt
  can who i (Read p) k = tt
  can who i (Trim n) k = tt

  same_servers : (i : ℕ) (c : WorldCell) → (view_of c).servers ≡ (view_of (cell_at w.cells i)).servers → map (λ (x : WorldCell). (view_of x).servers) (set w.cells i c) ≡ shelf_of w
  same_servers i c e = map_kept (λ (x : WorldCell). (view_of x).servers) w.cells i c no_cell e

  -- one cell goes on as its move tells
  cells_placed : (who i : ℕ) (m : CellMove) (c : WorldCell) → i < length w.cells → IsCellTold (cell_after who ((state_of w.events).cells i) m) c → (k : ℕ) → IsCellTold (put (state_of w.events).cells i (cell_after who ((state_of w.events).cells i) m) k) (cell_at (set w.cells i c) k)
  cells_placed who i m c here now = placed IsCellTold (state_of w.events).cells w.cells no_cell i (cell_after who ((state_of w.events).cells i) m) c here now law.cells

  ---- cells

  inside_kept : (i : ℕ) (path : List ℕ) (m : Motion) → Goes may floor w (done w (moves_inside w i path m))
  inside_kept i path m = by (nat_lt i (length w.cells))
    where
      c : WorldCell
      c = stirred (cell_at w.cells i) path m

      no_event : Goes may floor w (record w { cells = set w.cells i (stirred (cell_at w.cells i) path m) }) → Goes may floor w (record w { cells = set w.cells i (stirred (cell_at w.cells i) path m); events = w.events ++ [] })
      no_event h = subst (λ (es : List Event). Goes may floor w (record w { cells = set w.cells i (stirred (cell_at w.cells i) path m); events = es })) (sym (append-nil w.events)) h

      by : (b : Bool) → Goes may floor w (done w (if b then Some (record { at = i; cell = stirred (cell_at w.cells i) path m; steps = inner_steps path m; calls = (CallStray 0, Strayed) ∷ []; event = [] }) else None))
      by true =
          let told = stirred_told ((state_of w.events).cells i) (cell_at w.cells i) path m (law.cells i) in
          no_event (cell_kept may floor w law i (stirred (cell_at w.cells i) path m) (λ _. told.now) told.servers)
      by false = idle may floor w law

  begin_owner : (who i n : ℕ) (op : Op) → n ≡ ((state_of w.events).cells i).told.begun → (k t by : ℕ) → is_begin_of by k t (record { who = who; call = AskBegin i op; answer = Begun n }) ≡ true
      → (t < (put (state_of w.events).cells i (cell_after who ((state_of w.events).cells i) (Begins op n)) k).told.begun) × ((put (state_of w.events).cells i (cell_after who ((state_of w.events).cells i) (Begins op n)) k).owner t ≡ by)
  begin_owner who i n op at k t by h =
      let parts = and_parts _ _ h in
      let inner = and_parts _ _ parts.0 in
      let here : k ≡ i = sym (eqb-true _ _ inner.0) in
      let ticket : t ≡ n = sym (eqb-true _ _ inner.1) in
      let same : who ≡ by = eqb-true _ _ parts.1 in
      let c = (state_of w.events).cells i in
      let is : put (state_of w.events).cells i (cell_after who c (Begins op n)) k ≡ cell_after who c (Begins op n) = ap (put (state_of w.events).cells i (cell_after who c (Begins op n))) here ∙ put_same (state_of w.events).cells i (cell_after who c (Begins op n)) in
      subst (λ (x : CellState). (t < x.told.begun) × (x.owner t ≡ by)) (sym is) (omega (arith, ticket, at), ap (put c.owner n who) ticket ∙ (put_same c.owner n who ∙ same))

  begins_kept : (who i : ℕ) (op : Op) → KeepsTo may floor w (step.Begin who i op) → Goes may floor w (done w (begins_op w who i op))
  begins_kept who i op keeps = by (nat_lt i (length w.cells) && may_begin w i op) refl (is_full (cell_at w.cells i) op) refl
    where
      by : (b : Bool) → (nat_lt i (length w.cells) && may_begin w i op) ≡ b → (f : Bool) → is_full (cell_at w.cells i) op ≡ f
          → Goes may floor w (done w (if b then Some (record { at = i; cell = begun (cell_at w.cells i) op; steps = cell.Begin (aim_of op) ∷ []; calls = (CallBegin op, if f then Refusal FullLoglet else BegunOn (view_of (cell_at w.cells i)).begun) ∷ []; event = event who (AskBegin i op) (if f then Full else Begun (view_of (cell_at w.cells i)).begun) }) else None))
      by true e true full =
          let here : i < length w.cells = ltb-true _ _ (and_parts _ _ e).0 in
          let r = refused_told ((state_of w.events).cells i) (cell_at w.cells i) op (law.cells i) (can who i op keeps) full in
          event_kept may floor w law (set w.cells i (begun (cell_at w.cells i) op)) w.register (record { who = who; call = AskBegin i op; answer = Full })
          (record { there = omega (arith, here, many); allowed = tt })
          (same_servers i (begun (cell_at w.cells i) op) r.servers)
          (at_set (λ k x. IsCellTold ((state_of w.events).cells k) x) w.cells no_cell i (begun (cell_at w.cells i) op) (λ _. r.now) law.cells)
          law.register
          (λ k t by h. absurd (false≢true h)) (λ k n h. absurd (false≢true h)) (λ k p h. absurd (false≢true h))
      by true e false room =
          let parts = and_parts _ _ e in
          let here : i < length w.cells = ltb-true _ _ parts.0 in
          let b = begun_told ((state_of w.events).cells i) (cell_at w.cells i) who op (law.cells i) (can who i op keeps) room in
          event_kept may floor w law (set w.cells i (begun (cell_at w.cells i) op)) w.register (record { who = who; call = AskBegin i op; answer = Begun (view_of (cell_at w.cells i)).begun })
          (record { there = omega (arith, here, many); allowed = (may_begin_is who i op keeps parts.1, b.room, b.ticket) })
          (same_servers i (begun (cell_at w.cells i) op) b.servers)
          (cells_placed who i (Begins op (view_of (cell_at w.cells i)).begun) (begun (cell_at w.cells i) op) here b.now)
          law.register
          (begin_owner who i (view_of (cell_at w.cells i)).begun op b.ticket) (λ k n h. absurd (false≢true h)) (λ k p h. absurd (false≢true h))
      by false e f full = idle may floor w law

  -- an operation is answered

  told_end : (who i t : ℕ) (a : Answer) (k n : ℕ) → ((i == k) && is_tail n a) ≡ true → Contains (put (state_of w.events).cells i (cell_after who ((state_of w.events).cells i) (Answers t a)) k).ends n
  told_end who i t a k n h =
      let parts = and_parts _ _ h in
      let here : k ≡ i = sym (eqb-true _ _ parts.0) in
      let c = (state_of w.events).cells i in
      let is : put (state_of w.events).cells i (cell_after who c (Answers t a)) k ≡ cell_after who c (Answers t a) = ap (put (state_of w.events).cells i (cell_after who c (Answers t a))) here ∙ put_same (state_of w.events).cells i (cell_after who c (Answers t a)) in
      subst (λ (x : CellState). Contains x.ends n) (sym is) (by_answer a parts.1)
    where
      by_answer : (x : Answer) → is_tail n x ≡ true → Contains (ends_told ((state_of w.events).cells i).ends x) n
      by_answer (SealedTail m) g = contains_push ((state_of w.events).cells i).ends m n (eqb-true _ _ g)
      by_answer x g = absurd (false≢true g)

  told_place : (who i t : ℕ) (r : Running) (a : Answer) (k p : ℕ) → ((state_of w.events).cells i).told.ops t ≡ Some r → ((i == k) && is_place p a) ≡ true → p < (put (state_of w.events).cells i (cell_after who ((state_of w.events).cells i) (Answers t a)) k).told.reach
  told_place who i t r a k p running h =
      let parts = and_parts _ _ h in
      let here : k ≡ i = sym (eqb-true _ _ parts.0) in
      let c = (state_of w.events).cells i in
      let is : put (state_of w.events).cells i (cell_after who c (Answers t a)) k ≡ cell_after who c (Answers t a) = ap (put (state_of w.events).cells i (cell_after who c (Answers t a))) here ∙ put_same (state_of w.events).cells i (cell_after who c (Answers t a)) in
      let told : (answered_by c.told t a (c.told.ops t)).reach ≡ (answered_by c.told t a (Some r)).reach = ap (λ (o : Option Running). (answered_by c.told t a o).reach) running in
      subst (λ (x : CellState). p < x.told.reach) (sym is) (omega (arith, told, by_answer a parts.1))
    where
      by_answer : (x : Answer) → is_place p x ≡ true → p < (answered_by ((state_of w.events).cells i).told t x (Some r)).reach
      by_answer (Placed q) g = (let e : q ≡ p = eqb-true _ _ g in omega (arith, e))
      by_answer x g = absurd (false≢true g)

  takes_kept : (who i t : ℕ) → Goes may floor w (done w (takes_answer w who i t))
  takes_kept who i t = by (nat_lt i (length w.cells) && is_owner w.events who i t) refl
    where
      given : i < length w.cells → is_owner w.events who i t ≡ true → (x : Option Answer) → answer_of (cell_at w.cells i) t ≡ x → Goes may floor w (done w (told w who i t x))
      given here own None e = idle may floor w law
      given here own (Some a) e =
          let k = answered_told ((state_of w.events).cells i) (cell_at w.cells i) who t a (law.cells i) e in
          event_kept may floor w law (set w.cells i (taken (cell_at w.cells i) t)) w.register (record { who = who; call = AskCarry i t 0; answer = Done a })
          (record { there = omega (arith, here, many); allowed = (k.running, record { is_open = k.is_open; own = (law.owners i t who own).1 }, k.may) })
          (same_servers i (taken (cell_at w.cells i) t) k.servers)
          (cells_placed who i (Answers t a) (taken (cell_at w.cells i) t) here k.now)
          law.register
          (λ j u by h. absurd (false≢true h)) (λ j n h. told_end who i t a j n h) (λ j p h. told_place who i t k.running a j p k.is_open h)

      by : (b : Bool) → (nat_lt i (length w.cells) && is_owner w.events who i t) ≡ b → Goes may floor w (done w (if b then told w who i t (answer_of (cell_at w.cells i) t) else None))
      by true e = let parts = and_parts _ _ e in given (ltb-true _ _ parts.0) parts.1 (answer_of (cell_at w.cells i) t) refl
      by false e = idle may floor w law

  forgets_kept : (who i t : ℕ) → Goes may floor w (done w (forgets_op w who i t))
  forgets_kept who i t = by ((nat_lt i (length w.cells) && is_owner w.events who i t) && is_open (cell_at w.cells i) t) refl
    where
      by : (b : Bool) → ((nat_lt i (length w.cells) && is_owner w.events who i t) && is_open (cell_at w.cells i) t) ≡ b
          → Goes may floor w (done w (if b then Some (record { at = i; cell = forgotten (cell_at w.cells i) t; steps = cell.Forget t ∷ []; calls = (CallForget t, Forgotten) ∷ []; event = event who (AskForget i t) Gone }) else None))
      by true e =
          let parts = and_parts _ _ e in
          let front = and_parts _ _ parts.0 in
          let here : i < length w.cells = ltb-true _ _ front.0 in
          let k = dropped_told ((state_of w.events).cells i) (cell_at w.cells i) who t (law.cells i) parts.1 in
          event_kept may floor w law (set w.cells i (forgotten (cell_at w.cells i) t)) w.register (record { who = who; call = AskForget i t; answer = Gone })
          (record { there = omega (arith, here, many); allowed = (k.running, record { is_open = k.is_open; own = (law.owners i t who front.1).1 }) })
          (same_servers i (forgotten (cell_at w.cells i) t) k.servers)
          (cells_placed who i (Drops t) (forgotten (cell_at w.cells i) t) here k.now)
          law.register
          (λ j u by h. absurd (false≢true h)) (λ j n h. absurd (false≢true h)) (λ j p h. absurd (false≢true h))
      by false e = idle may floor w law

  ---- the register

  no_begin : (who k t by : ℕ) → (false && (who == by)) ≡ true → (t < ((state_of w.events).cells k).told.begun) × (((state_of w.events).cells k).owner t ≡ by)
  no_begin who k t by h = absurd (false≢true h)

  no_end : (k n : ℕ) → false ≡ true → Contains ((state_of w.events).cells k).ends n
  no_end k n h = absurd (false≢true h)

  no_place : (k p : ℕ) → false ≡ true → p < ((state_of w.events).cells k).told.reach
  no_place k p h = absurd (false≢true h)

  up_is : w.register.up ≡ true → (state_of w.events).register.down ≡ false
  up_is e = law.register.down ∙ ap not e

  down_is : w.register.up ≡ false → (state_of w.events).register.down ≡ true
  down_is e = law.register.down ∙ ap not e

  reads_kept : (who : ℕ) → Goes may floor w (reads w who)
  reads_kept who = by w.register.up refl
    where
      by : (b : Bool) → w.register.up ≡ b → Goes may floor w (if b then on_register w (gave w.register) who AskRead (At w.register.version w.register.chain) else on_register w w.register who AskRead Down)
      by true e = event_kept may floor w law w.cells (gave w.register) (record { who = who; call = AskRead; answer = At w.register.version w.register.chain })
          (record { there = tt; allowed = (up_is e, law.register.current) }) refl law.cells (gave_told _ (state_of w.events) ok w.register law.register e) (no_begin who) no_end no_place
      by false e = event_kept may floor w law w.cells w.register (record { who = who; call = AskRead; answer = Down })
          (record { there = tt; allowed = down_is e }) refl law.cells law.register (no_begin who) no_end no_place

  -- a change of the known chain may follow it
  follows : (old : Chain) (change : ChainChange) → IsLet floor w change → may_follow w old change ≡ true → MayFollow (state_of w.events) floor (length (shelf_of w)) old (changed old change)
  follows old (Extend t) let_ h =
      let parts = and_parts _ _ h in
      inl (record { at = t; told = law.ends (last_id old) t parts.1; spare = omega (arith, ltb-true _ _ parts.0, many); is = refl })
  follows old (Raise n) let_ h =
      let parts = and_parts _ _ h in
      inr (record { trim = n; above = ltb-true _ _ parts.0; small = leb-true _ _ parts.1; is = refl }, let_)

  writes_kept : (who x : ℕ) (change : ChainChange) → IsLet floor w change → Goes may floor w (writes w who x change (given_under w.register x))
  writes_kept who x change let_ = by_old (given_under w.register x) refl
    where
      by_old : (o : Option Chain) → given_under w.register x ≡ o → Goes may floor w (writes w who x change o)
      by_old None e = idle may floor w law
      by_old (Some old) e = by_follow (may_follow w old change) refl
        where
          written : may_follow w old change ≡ true → x ≡ w.register.version → w.register.up ≡ true → Goes may floor w (on_register w (replaced w.register (changed old change)) who (AskWrite x (changed old change)) (Written (w.register.version + 1)))
          written f at up =
              let k = expected _ (state_of w.events) ok w.register law.register x old e at in
              event_kept may floor w law w.cells (replaced w.register (changed old change)) (record { who = who; call = AskWrite x (changed old change); answer = Written (w.register.version + 1) })
              (record { there = tt; allowed = (up_is up, at ∙ k.version, subst (λ (o : Chain). MayFollow (state_of w.events) floor (length (shelf_of w)) o (changed old change)) k.old_is (follows old change let_ f), ap (λ n. n + 1) (sym at)) })
              refl law.cells (replaced_told _ (state_of w.events) ok w.register law.register (changed old change) up k.version) (no_begin who) no_end no_place

          by_version : may_follow w old change ≡ true → w.register.up ≡ true → (b : Bool) → (x == w.register.version) ≡ b → Goes may floor w (if not b then on_register w (gave w.register) who (AskWrite x (changed old change)) (Conflict w.register.version w.register.chain) else on_register w (replaced w.register (changed old change)) who (AskWrite x (changed old change)) (Written (w.register.version + 1)))
          by_version f up true t = written f (eqb-true _ _ t) up
          by_version f up false t =
              let apart : x ≢ w.register.version = grind (arith, nat_tests) in
              event_kept may floor w law w.cells (gave w.register) (record { who = who; call = AskWrite x (changed old change); answer = Conflict w.register.version w.register.chain })
              (record { there = tt; allowed = (up_is up, law.register.current, apart) }) refl law.cells (gave_told _ (state_of w.events) ok w.register law.register up) (no_begin who) no_end no_place

          by_up : may_follow w old change ≡ true → (b : Bool) → w.register.up ≡ b → Goes may floor w (if not b then on_register w w.register who (AskWrite x (changed old change)) Down else if not (x == w.register.version) then on_register w (gave w.register) who (AskWrite x (changed old change)) (Conflict w.register.version w.register.chain) else on_register w (replaced w.register (changed old change)) who (AskWrite x (changed old change)) (Written (w.register.version + 1)))
          by_up f true up = by_version f up (x == w.register.version) refl
          by_up f false up = event_kept may floor w law w.cells w.register (record { who = who; call = AskWrite x (changed old change); answer = Down })
              (record { there = tt; allowed = down_is up }) refl law.cells law.register (no_begin who) no_end no_place

          by_follow : (b : Bool) → may_follow w old change ≡ b → Goes may floor w (if b then asked w who x (changed old change) else w)
          by_follow true f = by_up f w.register.up refl
          by_follow false f = idle may floor w law

  stops_kept : (who x : ℕ) (change : ChainChange) → IsLet floor w change → Goes may floor w (stops_writing w who x change (given_under w.register x))
  stops_kept who x change let_ = by_old (given_under w.register x) refl
    where
      by_old : (o : Option Chain) → given_under w.register x ≡ o → Goes may floor w (stops_writing w who x change o)
      by_old None e = idle may floor w law
      by_old (Some old) e = by ((w.register.up && (x == w.register.version)) && may_follow w old change) refl
        where
          by : (b : Bool) → ((w.register.up && (x == w.register.version)) && may_follow w old change) ≡ b → Goes may floor w (if b then on_register w (torn_by w.register (changed old change)) who (AskWrite x (changed old change)) MetaFault else w)
          by false h = idle may floor w law
          by true h =
              let parts = and_parts _ _ h in
              let front = and_parts _ _ parts.0 in
              let at : x ≡ w.register.version = eqb-true _ _ front.1 in
              let k = expected _ (state_of w.events) ok w.register law.register x old e at in
              event_kept may floor w law w.cells (torn_by w.register (changed old change)) (record { who = who; call = AskWrite x (changed old change); answer = MetaFault })
              (record { there = tt; allowed = (up_is front.0, at ∙ k.version, subst (λ (o : Chain). MayFollow (state_of w.events) floor (length (shelf_of w)) o (changed old change)) k.old_is (follows old change let_ parts.1)) })
              refl law.cells (torn_told _ (state_of w.events) ok w.register law.register x (changed old change) k.version k.chain) (no_begin who) no_end no_place

  mends_kept : (who : ℕ) (kept : Bool) → Goes may floor w (mends w who kept)
  mends_kept who kept = by w.register.up
    where
      by : (b : Bool) → Goes may floor w (if b then w else on_register w (mended w.register kept w.register.torn) who (AskMend 0) (Set true))
      by true = idle may floor w law
      by false = event_kept may floor w law w.cells (mended w.register kept w.register.torn) (record { who = who; call = AskMend 0; answer = Set true })
          (record { there = tt; allowed = tt }) refl law.cells (mended_told _ (state_of w.events) ok w.register law.register kept) (no_begin who) no_end no_place

  down_kept : (who : ℕ) → Goes may floor w (stays_down w who)
  down_kept who = by w.register.up
    where
      by : (b : Bool) → Goes may floor w (if b then w else on_register w w.register who (AskMend 0) (Set false))
      by true = idle may floor w law
      by false = event_kept may floor w law w.cells w.register (record { who = who; call = AskMend 0; answer = Set false })
          (record { there = tt; allowed = tt }) refl law.cells (missed_told _ (state_of w.events) ok w.register law.register) (no_begin who) no_end no_place

  ---- nodes

  with_front : (n : Node) (x : Option Entry) → ((e : Entry) → x ≡ Some e → (state_of w.events).shown (length n.applied) ≡ Some e) → journal.Shows (state_of w.events).shown n.applied → journal.Shows (state_of w.events).shown (with_entry n.applied x)
  with_front n None new h = h
  with_front n (Some e) new h = front_more (state_of w.events).shown n.applied e h (new e refl)

  next_shown : (n : Node) (e : Entry) → next_entry w n ≡ Some e → (state_of w.events).shown (length n.applied) ≡ Some e
  next_shown n e h = shown_now may floor w law (length n.applied) e h

  applies_kept : (k : ℕ) → Goes may floor w (applies w k)
  applies_kept k = by (node_at w.nodes k).up refl
    where
      by : (b : Bool) → (node_at w.nodes k).up ≡ b → Goes may floor w (if b then put_node w k (record (node_at w.nodes k) { applied = with_entry (node_at w.nodes k).applied (next_entry w (node_at w.nodes k)) }) else w)
      by true up =
          let n = node_at w.nodes k in
          let h = law.nodes k in
          node_kept may floor w law k (record n { applied = with_entry n.applied (next_entry w n) }) (record {
            applied = with_front n (next_entry w n) (next_shown n) h.applied;
            whole = h.whole;
            torn = λ e t. let no : None ≡ Some e = sym (h.whole up) ∙ t in absurd (cc);
          })
      by false up = idle may floor w law

  stops_node_kept : (k : ℕ) → Goes may floor w (stops_node w k)
  stops_node_kept k = by (node_at w.nodes k).up
    where
      by : (b : Bool) → Goes may floor w (if b then put_node w k (record (node_at w.nodes k) { torn = next_entry w (node_at w.nodes k); up = false }) else w)
      by true =
          let n = node_at w.nodes k in
          node_kept may floor w law k (record n { torn = next_entry w n; up = false }) (record {
            applied = (law.nodes k).applied;
            whole = λ h. absurd (false≢true h);
            torn = λ e t. next_shown n e t;
          })
      by false = idle may floor w law

  restarts_kept : (k : ℕ) (kept : Bool) → Goes may floor w (restarts_node w k kept)
  restarts_kept k kept = by (node_at w.nodes k).up kept
    where
      back : (kept : Bool) → journal.Shows (state_of w.events).shown (if kept then with_entry (node_at w.nodes k).applied (node_at w.nodes k).torn else (node_at w.nodes k).applied)
      back true = with_front (node_at w.nodes k) (node_at w.nodes k).torn (law.nodes k).torn (law.nodes k).applied
      back false = (law.nodes k).applied

      by : (b kept : Bool) → Goes may floor w (if b then w else put_node w k (record { applied = if kept then with_entry (node_at w.nodes k).applied (node_at w.nodes k).torn else (node_at w.nodes k).applied; torn = None; up = true }))
      by true kept = idle may floor w law
      by false kept =
          node_kept may floor w law k (record { applied = if kept then with_entry (node_at w.nodes k).applied (node_at w.nodes k).torn else (node_at w.nodes k).applied; torn = None; up = true }) (record {
            applied = back kept;
            whole = λ _. refl;
            torn = λ e t. absurd (cc);
          })

---- every step, and every list of steps

pub step_goes : (may : ℕ → Entry → Type 0) (floor : List Entry → ℕ → Type 0) (w : World) (s : WorldStep) → WorldLaw may floor w → KeepsTo may floor w s → Goes may floor w (world_step w s)
step_goes may floor w (step.Inside i path m) law keeps = inside_kept may floor w law i path m
step_goes may floor w (step.Begin who i op) law keeps = begins_kept may floor w law who i op keeps
step_goes may floor w (step.Take who i t) law keeps = takes_kept may floor w law who i t
step_goes may floor w (step.Forget who i t) law keeps = forgets_kept may floor w law who i t
step_goes may floor w (step.ReadChain who) law keeps = reads_kept may floor w law who
step_goes may floor w (step.WriteChain who x change) law keeps = writes_kept may floor w law who x change keeps
step_goes may floor w (step.WriteStops who x change) law keeps = stops_kept may floor w law who x change keeps
step_goes may floor w (step.MendRegister who kept) law keeps = mends_kept may floor w law who kept
step_goes may floor w (step.MendFails who) law keeps = down_kept may floor w law who
step_goes may floor w (step.Apply k) law keeps = applies_kept may floor w law k
step_goes may floor w (step.StopNode k) law keeps = stops_node_kept may floor w law k
step_goes may floor w (step.RestartNode k kept) law keeps = restarts_kept may floor w law k kept

pub step_law : (may : ℕ → Entry → Type 0) (floor : List Entry → ℕ → Type 0) (w : World) (s : WorldStep) → WorldLaw may floor w → KeepsTo may floor w s → WorldLaw may floor (world_step w s)
step_law may floor w s law keeps = (step_goes may floor w s law keeps).law

pub run_goes : (may : ℕ → Entry → Type 0) (floor : List Entry → ℕ → Type 0) (steps : List WorldStep) (w : World) → WorldLaw may floor w → AllKeepTo may floor w steps → Goes may floor w (run_world steps w)
run_goes may floor [] w law keeps = idle may floor w law
run_goes may floor (s ∷ steps) w law keeps =
    let one = step_goes may floor w s law keeps.0 in
    let all = run_goes may floor steps (world_step w s) one.law keeps.1 in record {
      law = all.law;
      more = one.more ++ all.more;
      shelf = all.shelf ∙ one.shelf;
      events = all.events ∙ (ap (λ (es : List Event). es ++ all.more) one.events ∙ append_assoc w.events one.more all.more);
    }
