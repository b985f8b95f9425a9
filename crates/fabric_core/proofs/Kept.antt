-- A fabric goes on after an event of one of its cells.
use Rattle.std.proofs.Common.{◌≡◌, ◌≢◌, ℕ, zero, suc, List, [], ◌∷◌, ◌++◌, map, set, Option, Some, None, Bool, true, false, refl, sym, ap, ◌∙◌, subst, ⊎_elim, arith}
use Rattle.std.specs.Prelude.{slice_get, slice_set, ◌==◌, MatchBool}
use Rattle.std.proofs.lemmas.Bool.Decides.{nat_tests}
use Rattle.loglet_api.specs.declared.call.Op.{Op}
use Rattle.loglet_api.specs.declared.call.Answer.{Answer}
use Rattle.loglet_api.specs.declared.call.LogletCall.TheVariants as call
use Rattle.loglet_api.specs.declared.call.LogletAnswer.TheVariants as answer
use Rattle.loglet_api.specs.declared.call.Refused.TheVariants as refused
use Rattle.loglet_api.specs.declared.call.LogletCall.{LogletCall}
use Rattle.loglet_api.specs.declared.call.LogletAnswer.{LogletAnswer}
use Rattle.loglet_api.specs.declared.call.Kind.{Kind}
use Rattle.loglet_api.specs.View.{LogletView, operation_at}
use Rattle.loglet_api.specs.Sound.{IsSound}
use Rattle.loglet_api.specs.Step.{LogletStep}
use Rattle.loglet_api.specs.Run.{LogletRun}
use Rattle.loglet_api.specs.Servers.{ServersView}
use Rattle.loglet_api.proofs.Keeps.{run_keeps}
use Rattle.legal_journal.specs.Law.{Law}
use Rattle.legal_journal.specs.declared.events.Event.{Event}
use Rattle.legal_journal.specs.declared.events.FabricCall.{FabricCall}
use Rattle.legal_journal.specs.declared.events.FabricCall.TheVariants.{Begin, Carry, Forget, Stop, Mend, Stray}
use Rattle.legal_journal.specs.declared.events.FabricAnswer.{FabricAnswer}
use Rattle.legal_journal.specs.declared.events.FabricAnswer.TheVariants.{Begun, Full, Done, Going, NoTicket, Gone, Set, Memory}
use Rattle.legal_journal.specs.Told.{Running, put}
use Rattle.legal_journal.specs.Moves.{Begins, Carries, Answers, Drops, Misses, OnCell, move, move_of}
use Rattle.legal_journal.specs.Journal.{CellState, RegisterState, State, state_of, start, after, cell_after, answered_by, Exists, MayHappen, IsAllowed, IsOwn, IsLegal}
use Rattle.legal_journal.specs.Turns.{MayCall, IsOwner}
use Rattle.legal_journal.proofs.Cells.{put_cases, put_same}
use Rattle.legal_journal.proofs.Legal.{after_all-append, IsLegalFrom-join}
use Rattle.fabric_core.specs.Runs.{LogletSteps, StepsOf, StepsOn, CellRun, HasRun, is_on}
use Rattle.fabric_core.specs.CellEvent.{CellView, Worked, Happens, Serves, marks_after}
use Rattle.fabric_core.specs.Fabric.{FabricView, FabricOk, CellOk, IsAsTold, AreMarked, IsMarked, IsRegisterAsTold}
use Rattle.fabric_core.proofs.AsTold.{told_open, has_room, begun_as_told, moved_as_told, moved_left, carried_as_told, carried_few, answered_as_told, dropped_as_told}
use Rattle.fabric_core.proofs.Ran.{register_same, off_register}
use Rattle.fabric_core.proofs.Marks.{set_same, set_other, marks_begun, marks_closed}

run_more : (i : ℕ) (o v now : LogletView) (es : List Event) (e : Event) (steps : LogletSteps) → CellRun i o es v → StepsOn i e steps → LogletRun v steps now → CellRun i o (es ++ e ∷ []) now
run_more i o v now [] e steps h s r = (now, (steps, s, subst (λ x. LogletRun x steps now) h r), refl)
run_more i o v now (x ∷ es) e steps h s r = (h.0, h.1, run_more i h.0 v now es e steps h.2 s r)

pub has_run_more : (i : ℕ) (v now : LogletView) (es : List Event) (e : Event) (steps : LogletSteps) → HasRun i es v → StepsOn i e steps → LogletRun v steps now → HasRun i (es ++ e ∷ []) now
has_run_more i v now es e steps h s r =
    let k = run_keeps v steps now r in record {
      opening = h.opening;
      fresh = h.fresh;
      kind = k.kind ∙ h.kind;
      servers = k.servers ∙ h.servers;
      quorum = k.quorum ∙ h.quorum;
      room = k.room ∙ h.room;
      rounds = k.rounds ∙ h.rounds;
      limit = k.limit ∙ h.limit;
      run = run_more i h.opening v now es e steps h.run s r;
    }

-- an event of another cell, or of the register
pub has_run_same : (i : ℕ) (v : LogletView) (es : List Event) (e : Event) → HasRun i es v → is_on i e.call ≡ false → HasRun i (es ++ e ∷ []) v
has_run_same i v es e h off =
    has_run_more i v v es e [] h (subst (λ b. MatchBool b (StepsOf e.call e.answer []) (◌≡◌ {A = LogletSteps} [] [])) (sym off) refl) refl

-- faults count nothing that is told
faulted : (c : CellState) (v now : LogletView) (n : ℕ) → IsAsTold c v → now ≡ record v { faults = n } → IsSound now → IsAsTold c now
faulted c v now n m is sound = subst (IsAsTold c) (sym is) (record {
  cut = m.cut;
  log = m.log;
  reach = m.reach;
  cap = m.cap;
  firm = m.firm;
  begun = m.begun;
  seals = m.seals;
  lacks = m.lacks;
  sealed = m.sealed;
  operations = m.operations;
  left = m.left;
  sound = subst IsSound is sound;
})

-- a ticket without its mark isn't open
unmarked : (r : Option Running) (o : Option Bool) → IsMarked r o → o ≢ Some true → r ≡ None
unmarked None o h k = refl
unmarked (Some r) o h k = absurd (k h)

map_same : {A : Type 0} (g : LogletView → A) (xs : List LogletView) (i : ℕ) (a b : LogletView) → slice_get xs i ≡ Some b → g a ≡ g b → map g (set xs i a) ≡ map g xs
map_same g [] i a b h k = refl
map_same g (y ∷ ys) zero a b h k = let same : y ≡ b = cc in ap (λ n. n ∷ map g ys) (k ∙ ap g (sym same))
map_same g (y ∷ ys) (suc i) a b h k = ap (λ l. g y ∷ l) (map_same g ys i a b h k)

module _ (law : Law) where
  pub legal_more : (j : List Event) (e : Event) → IsLegal law j → MayHappen (state_of j) law e → IsLegal law (j ++ e ∷ [])
  legal_more j e h a = record { least = h.least; most = h.most; steps = IsLegalFrom-join law start j (e ∷ []) h.steps (a, tt) }

  pub state_more : (j : List Event) (e : Event) → state_of (j ++ e ∷ []) ≡ after (state_of j) e.who (move e)
  state_more j e = after_all-append start j (e ∷ [])

  module _ {kinds : List Kind} (f : FabricView) (marks : List (List Bool)) (ok : FabricOk law kinds f marks) (i : ℕ) (v : LogletView) (held : ServersView) (here : List Bool) (at : slice_get f.cells i ≡ Some v) (marked_at : slice_get marks i ≡ Some here) where
    here_is : (j : ℕ) → (j == j) ≡ true
    here_is j = grind (arith, nat_tests)

    -- one cell takes its steps, and all else stays
    on_cell : (e : Event) → MayHappen (state_of f.journal) law e → (c : CellState) → ((j : ℕ) → (after (state_of f.journal) e.who (move e)).cells j ≡ put (state_of f.journal).cells i c j) → (after (state_of f.journal) e.who (move e)).register ≡ (state_of f.journal).register → ((j : ℕ) → is_on j e.call ≡ (j == i)) → (now : LogletView) (there : List Bool) → IsAsTold c now → AreMarked c there → now.servers ≡ v.servers → (steps : LogletSteps) → StepsOf e.call e.answer steps → LogletRun v steps now → FabricOk law kinds (record { cells = slice_set f.cells i now; serving = f.serving; register = f.register; journal = f.journal ++ e ∷ [] }) (slice_set marks i there)
    on_cell e can c cells_are register_is on now there told marked servers steps are run =
        let w = state_of f.journal in
        let next = state_more f.journal e in record {
          legal = legal_more f.journal e ok.legal can;
          shelf_is = map_same (λ (x : LogletView). x.servers) f.cells i now v at servers ∙ ok.shelf_is;
          kinds_are = map_same (λ (x : LogletView). x.kind) f.cells i now v at (run_keeps v steps now run).kind ∙ ok.kinds_are;
          cells = λ j x g. by_place j x g (j == i) refl;
          register = subst (λ (r : RegisterState). IsRegisterAsTold r f.register) (sym (ap (λ (y : State). y.register) next ∙ register_is)) ok.register;
          register_ran = register_same f.register f.journal e ok.register_ran (off_register i e.call (on i ∙ here_is i));
        }
      where
        cell_is : (j : ℕ) → (state_of (f.journal ++ e ∷ [])).cells j ≡ put (state_of f.journal).cells i c j
        cell_is j = ap (λ (y : State). y.cells j) (state_more f.journal e) ∙ cells_are j

        by_place : (j : ℕ) (x : LogletView) → slice_get (slice_set f.cells i now) j ≡ Some x → (b : Bool) → (j == i) ≡ b → CellOk (state_of (f.journal ++ e ∷ [])) j (f.journal ++ e ∷ []) x (slice_get (slice_set marks i there) j)
        by_place j x g true b =
            let same : j ≡ i = grind (arith, nat_tests) in
            let found : Some x ≡ Some now = sym g ∙ (ap (slice_get (set f.cells i now)) same ∙ set_same f.cells i now v at) in
            let is_now : x ≡ now = cc in
            let cell : (state_of (f.journal ++ e ∷ [])).cells j ≡ c = cell_is j ∙ (ap (put (state_of f.journal).cells i c) same ∙ put_same (state_of f.journal).cells i c) in
            record {
              told = subst (λ (y : CellState). IsAsTold y x) (sym cell) (subst (IsAsTold c) (sym is_now) told);
              here = there;
              is = ap (slice_get (set marks i there)) same ∙ set_same marks i there here marked_at;
              marked = subst (λ (y : CellState). AreMarked y there) (sym cell) marked;
              ran = subst (λ y. HasRun j (f.journal ++ e ∷ []) y) (sym is_now)
                  (subst (λ k. HasRun k (f.journal ++ e ∷ []) now) (sym same)
                  (has_run_more i v now f.journal e steps (ok.cells i v at).ran
                  (subst (λ t. MatchBool t (StepsOf e.call e.answer steps) (steps ≡ [])) (sym (subst (λ k. is_on k e.call ≡ true) same (on j ∙ b))) are) run));
            }
        by_place j x g false b =
            let apart : j ≢ i = grind (arith, nat_tests) in
            let old = ok.cells j x (sym (set_other f.cells i j now apart) ∙ g) in
            let cell : (state_of (f.journal ++ e ∷ [])).cells j ≡ (state_of f.journal).cells j = cell_is j ∙ put_cases (λ (y : CellState). y ≡ (state_of f.journal).cells j) (state_of f.journal).cells i c j (λ e. absurd (apart e)) (λ _. refl) in
            record {
              told = subst (λ (y : CellState). IsAsTold y x) (sym cell) old.told;
              here = old.here;
              is = set_other marks i j there apart ∙ old.is;
              marked = subst (λ (y : CellState). AreMarked y old.here) (sym cell) old.marked;
              ran = has_run_same j x f.journal e old.ran (on j ∙ b);
            }

    told_now : IsAsTold ((state_of f.journal).cells i) v
    told_now = (ok.cells i v at).told

    marked_now : AreMarked ((state_of f.journal).cells i) here
    marked_now =
        let k = ok.cells i v at in
        let both : Some here ≡ Some k.here = sym marked_at ∙ k.is in
        let same : here ≡ k.here = cc in
        subst (AreMarked ((state_of f.journal).cells i)) (sym same) k.marked

    -- what the fabric is after an event of the cell
    abbrev pub IsAfter : CellView → Type 0
    IsAfter new = FabricOk law kinds (record { cells = slice_set f.cells i new.loglet; serving = f.serving; register = f.register; journal = new.journal }) (slice_set marks i new.marks)

    same_cells : (j : ℕ) → (state_of f.journal).cells j ≡ put (state_of f.journal).cells i ((state_of f.journal).cells i) j
    same_cells j = put_cases (λ (y : CellState). (state_of f.journal).cells j ≡ y) (state_of f.journal).cells i ((state_of f.journal).cells i) j (λ e. ap (state_of f.journal).cells e) (λ _. refl)

    -- one call of the loglet
    only : (lc : LogletCall) (la : LogletAnswer) (now : LogletView) → LogletRun v ((lc, la) ∷ []) now → LogletStep v lc la now
    only lc la now r = subst (LogletStep v lc la) (sym r.2) r.1

    recorded : (new : CellView) (e : Event) → new.journal ≡ f.journal ++ e ∷ [] → IsAfter (record { loglet = new.loglet; serving = new.serving; marks = new.marks; journal = f.journal ++ e ∷ [] }) → IsAfter new
    recorded new e is h = subst (λ j. IsAfter (record { loglet = new.loglet; serving = new.serving; marks = new.marks; journal = j })) (sym is) h

    pub begin_kept : (who : ℕ) (op : Op) (a : FabricAnswer) (new : CellView) → MayCall (state_of f.journal) law who (Begin i op) → Happens (record { loglet = v; serving = held; marks = here; journal = f.journal }) who (Begin i op) a new → IsAfter new
    begin_kept who op (Begun t) new can h =
        let e : Event = record { who = who; call = Begin i op; answer = Begun t } in
        let s = only (call.Begin op) (answer.Begun t) new.loglet (subst (λ x. LogletRun v x new.loglet) h.are h.run) in
        let b = s.does in
        let ticket : t ≡ ((state_of f.journal).cells i).told.begun = b.ticket ∙ told_now.begun in
        recorded new e h.recorded
        (on_cell e (record { there = can.there; allowed = (can.asks, has_room ((state_of f.journal).cells i) v told_now op b.room, ticket) })
        (cell_after who ((state_of f.journal).cells i) (Begins op t)) (λ j. refl) refl (λ j. refl) new.loglet new.marks
        (begun_as_told ((state_of f.journal).cells i) v told_now who t op new.loglet b s.after)
        (subst (AreMarked (cell_after who ((state_of f.journal).cells i) (Begins op t))) (sym h.marked) (marks_begun who ((state_of f.journal).cells i) op t here ticket marked_now))
        (ap (λ (x : LogletView). x.servers) b.rest) h.steps h.are h.run)
    begin_kept who op Full new can h =
        let e : Event = record { who = who; call = Begin i op; answer = Full } in
        let s = only (call.Begin op) (answer.Refusal refused.Full) new.loglet (subst (λ x. LogletRun v x new.loglet) h.are h.run) in
        let is = s.does.1 in
        recorded new e h.recorded
        (on_cell e (record { there = can.there; allowed = tt }) ((state_of f.journal).cells i) same_cells refl (λ j. refl) new.loglet new.marks
        (faulted ((state_of f.journal).cells i) v new.loglet _ told_now is s.after)
        (subst (AreMarked ((state_of f.journal).cells i)) (sym h.marked) marked_now)
        (ap (λ (x : LogletView). x.servers) is) h.steps h.are h.run)
    begin_kept who op a new can h = absurd h.are

    own : (who t : ℕ) (r : Running) → IsOwner (state_of f.journal) who i t → ((state_of f.journal).cells i).told.ops t ≡ Some r → IsOwn ((state_of f.journal).cells i) who t r
    own who t r owner e = record { is_open = e; own = owner r e }

    -- the operation is answered, from a view that tells the same
    answered_from : (who t word : ℕ) (a : Answer) (mid : LogletView) (new : CellView) → MayCall (state_of f.journal) law who (Carry i t word) → Happens (record { loglet = v; serving = held; marks = here; journal = f.journal }) who (Carry i t word) (Done a) new → IsAsTold ((state_of f.journal).cells i) mid → mid.servers ≡ v.servers → LogletStep mid (call.Take t) (answer.Taken (Some a)) new.loglet → IsAfter new
    answered_from who t word a mid new can h m servers s =
        let e : Event = record { who = who; call = Carry i t word; answer = Done a } in
        let c = (state_of f.journal).cells i in
        let k = answered_as_told c mid m who t a new.loglet s.does s.after in
        recorded new e h.recorded
        (on_cell e (record { there = can.there; allowed = (k.running, own who t k.running can.asks k.is_open, k.may) })
        (cell_after who c (Answers t a)) (λ j. refl) refl (λ j. refl) new.loglet new.marks k.told
        (subst (AreMarked (cell_after who c (Answers t a))) (sym h.marked)
        (marks_closed c (cell_after who c (Answers t a)) t here
        (ap (λ o. (answered_by c.told t a o).begun) k.is_open) (λ u. ap (λ o. (answered_by c.told t a o).ops u) k.is_open) marked_now))
        (ap (λ (x : LogletView). x.servers) s.does.rest ∙ servers) h.steps h.are h.run)

    -- the operation is closed without its answer
    dropped_from : (who t word : ℕ) (mid : LogletView) (c : FabricCall) (a : FabricAnswer) (new : CellView) → move_of c a ≡ OnCell i (Drops t) → Exists law.shelf c → IsOwner (state_of f.journal) who i t → ((j : ℕ) → is_on j c ≡ (j == i)) → marks_after here c a ≡ slice_set here t false → Happens (record { loglet = v; serving = held; marks = here; journal = f.journal }) who c a new → IsAsTold ((state_of f.journal).cells i) mid → mid.servers ≡ v.servers → LogletStep mid (call.Forget t) answer.Forgotten new.loglet → IsAfter new
    dropped_from who t word mid fc a new drops there owner on marks_are h m servers s =
        let e : Event = record { who = who; call = fc; answer = a } in
        let c = (state_of f.journal).cells i in
        let k = dropped_as_told c mid m who t new.loglet s.can s.does s.after in
        recorded new e h.recorded
        (on_cell e (record { there = there; allowed = subst (λ x. IsAllowed (state_of f.journal) law who x) (sym drops) (k.running, own who t k.running owner k.is_open) })
        (cell_after who c (Drops t))
        (λ j. ap (λ x. (after (state_of f.journal) who x).cells j) drops)
        (ap (λ x. (after (state_of f.journal) who x).register) drops) on new.loglet new.marks k.told
        (subst (AreMarked (cell_after who c (Drops t))) (sym (h.marked ∙ marks_are)) (marks_closed c (cell_after who c (Drops t)) t here refl (λ u. refl) marked_now))
        (ap (λ (x : LogletView). x.servers) s.does.rest ∙ servers) h.steps h.are h.run)

    -- the ticket isn't open, and the loglet isn't called
    missed_by : (who t : ℕ) (c : FabricCall) (a : FabricAnswer) (new : CellView) → move_of c a ≡ OnCell i (Misses t) → Exists law.shelf c → ((j : ℕ) → is_on j c ≡ (j == i)) → marks_after here c a ≡ here → slice_get here t ≢ Some true → (h : Happens (record { loglet = v; serving = held; marks = here; journal = f.journal }) who c a new) → h.steps ≡ [] → IsAfter new
    missed_by who t fc a new misses there on marks_are not_open h none =
        let e : Event = record { who = who; call = fc; answer = a } in
        let c = (state_of f.journal).cells i in
        let same : new.loglet ≡ v = subst (λ x. LogletRun v x new.loglet) none h.run in
        let closed = unmarked (c.told.ops t) (slice_get here t) (marked_now.each t) not_open in
        recorded new e h.recorded
        (on_cell e (record { there = there; allowed = subst (λ x. IsAllowed (state_of f.journal) law who x) (sym misses) closed })
        c
        (λ j. ap (λ x. (after (state_of f.journal) who x).cells j) misses)
        (ap (λ x. (after (state_of f.journal) who x).register) misses) on new.loglet new.marks (subst (IsAsTold c) (sym same) told_now)
        (subst (AreMarked c) (sym (h.marked ∙ marks_are)) marked_now)
        (ap (λ (x : LogletView). x.servers) same) h.steps h.are h.run)

    -- carried once, and then this is left of the loglet
    first_carried : (t word : ℕ) (mid : LogletView) → LogletStep v (call.Carry t word) answer.Carried mid → IsAsTold ((state_of f.journal).cells i) mid
    first_carried t word mid s =
        let c = (state_of f.journal).cells i in
        moved_as_told c v told_now c mid refl s.does.moves s.after (moved_left c v told_now mid s.does.moves s.after)

    pub carry_kept : (who t word : ℕ) (a : FabricAnswer) (new : CellView) → MayCall (state_of f.journal) law who (Carry i t word) → Happens (record { loglet = v; serving = held; marks = here; journal = f.journal }) who (Carry i t word) a new → IsAfter new
    carry_kept who t word Going new can h =
        let e : Event = record { who = who; call = Carry i t word; answer = Going } in
        let c = (state_of f.journal).cells i in
        let r = subst (λ x. LogletRun v x new.loglet) h.are h.run in
        let s = r.1 in
        let is : new.loglet ≡ r.0 = r.2.2 ∙ r.2.1.does.1 in
        let falls = s.does.falls in
        let q = told_open (c.told.ops t) falls.before (operation_at v.operations t) (told_now.operations t) falls.was in
        recorded new e h.recorded
        (on_cell e (record { there = can.there; allowed = ((q.0, own who t q.0 can.asks q.1), carried_few c v told_now t r.0 s.does s.after) })
        (cell_after who c (Carries t)) (λ j. refl) refl (λ j. refl) new.loglet new.marks
        (subst (IsAsTold (cell_after who c (Carries t))) (sym is) (carried_as_told c v told_now who t r.0 s.does s.after))
        (subst (AreMarked (cell_after who c (Carries t))) (sym h.marked) (record { count = marked_now.count; each = marked_now.each }))
        (ap (λ (x : LogletView). x.servers) is ∙ ap (λ (x : LogletView). x.servers) s.does.moves.rest) h.steps h.are h.run)
    carry_kept who t word (Done a) new can h =
        ⊎_elim
        (λ (x : h.steps ≡ (call.Carry t word, answer.Carried) ∷ (call.Take t, answer.Taken (Some a)) ∷ []).
        let r = subst (λ y. LogletRun v y new.loglet) x h.run in
        answered_from who t word a r.0 new can h (first_carried t word r.0 r.1) (ap (λ (y : LogletView). y.servers) r.1.does.moves.rest)
        (subst (LogletStep r.0 (call.Take t) (answer.Taken (Some a))) (sym r.2.2) r.2.1))
        (λ (x : h.steps ≡ (call.Take t, answer.Taken (Some a)) ∷ []).
        answered_from who t word a v new can h told_now refl (only (call.Take t) (answer.Taken (Some a)) new.loglet (subst (λ y. LogletRun v y new.loglet) x h.run)))
        h.are
    carry_kept who t word Memory new can h =
        ⊎_elim
        (λ (x : h.steps ≡ (call.Carry t word, answer.Carried) ∷ (call.Forget t, answer.Forgotten) ∷ []).
        let r = subst (λ y. LogletRun v y new.loglet) x h.run in
        dropped_from who t word r.0 (Carry i t word) Memory new refl can.there can.asks (λ j. refl) refl h (first_carried t word r.0 r.1) (ap (λ (y : LogletView). y.servers) r.1.does.moves.rest)
        (subst (LogletStep r.0 (call.Forget t) answer.Forgotten) (sym r.2.2) r.2.1))
        (λ (x : h.steps ≡ (call.Forget t, answer.Forgotten) ∷ []).
        dropped_from who t word v (Carry i t word) Memory new refl can.there can.asks (λ j. refl) refl h told_now refl (only (call.Forget t) answer.Forgotten new.loglet (subst (λ y. LogletRun v y new.loglet) x h.run)))
        h.are
    carry_kept who t word NoTicket new can h = missed_by who t (Carry i t word) NoTicket new refl can.there (λ j. refl) refl h.missed h h.are
    carry_kept who t word a new can h = absurd h.are

    pub forget_kept : (who t : ℕ) (a : FabricAnswer) (new : CellView) → MayCall (state_of f.journal) law who (Forget i t) → Happens (record { loglet = v; serving = held; marks = here; journal = f.journal }) who (Forget i t) a new → IsAfter new
    forget_kept who t Gone new can h =
        dropped_from who t 0 v (Forget i t) Gone new refl can.there can.asks (λ j. refl) refl h told_now refl (only (call.Forget t) answer.Forgotten new.loglet (subst (λ y. LogletRun v y new.loglet) h.are h.run))
    forget_kept who t NoTicket new can h = missed_by who t (Forget i t) NoTicket new refl can.there (λ j. refl) refl h.missed h h.are
    forget_kept who t a new can h = absurd h.are

    -- Events that open and close no ticket.

    served : (who : ℕ) (c : FabricCall) (a : FabricAnswer) (now : LogletView) (holds : ServersView) (journal : List Event) → MayHappen (state_of f.journal) law (record { who = who; call = c; answer = a }) → ((j : ℕ) → (after (state_of f.journal) who (move_of c a)).cells j ≡ (state_of f.journal).cells j) → (after (state_of f.journal) who (move_of c a)).register ≡ (state_of f.journal).register → ((j : ℕ) → is_on j c ≡ (j == i)) → Serves (record { loglet = v; serving = held }) f.journal who c a (record { loglet = now; serving = holds }) journal → IsAsTold ((state_of f.journal).cells i) now → now.servers ≡ v.servers → IsAfter (record { loglet = now; serving = holds; marks = here; journal = journal })
    served who c a now holds journal can cells register on h told servers =
        recorded (record { loglet = now; serving = holds; marks = here; journal = journal }) (record { who = who; call = c; answer = a }) h.recorded
        (on_cell (record { who = who; call = c; answer = a }) can ((state_of f.journal).cells i) (λ j. cells j ∙ same_cells j) register on now here told marked_now servers h.steps h.are h.run)

    pub stop_kept : (who server n : ℕ) (a : FabricAnswer) (now : LogletView) (holds : ServersView) (journal : List Event) → MayCall (state_of f.journal) law who (Stop i server n) → Serves (record { loglet = v; serving = held }) f.journal who (Stop i server n) a (record { loglet = now; serving = holds }) journal → IsAfter (record { loglet = now; serving = holds; marks = here; journal = journal })
    stop_kept who server n (Set true) now holds journal can h =
        let s = only (call.Stop server n) answer.Stopped now (subst (λ x. LogletRun v x now) h.are h.run) in
        served who (Stop i server n) (Set true) now holds journal (record { there = can.there; allowed = tt }) (λ j. refl) refl (λ j. refl) h
        (subst (IsAsTold ((state_of f.journal).cells i)) (sym s.does) told_now) (ap (λ (x : LogletView). x.servers) s.does)
    stop_kept who server n a now holds journal can h = absurd h.are

    pub mend_kept : (who server word : ℕ) (a : FabricAnswer) (now : LogletView) (holds : ServersView) (journal : List Event) → MayCall (state_of f.journal) law who (Mend i server word) → Serves (record { loglet = v; serving = held }) f.journal who (Mend i server word) a (record { loglet = now; serving = holds }) journal → IsAfter (record { loglet = now; serving = holds; marks = here; journal = journal })
    mend_kept who server word (Set b) now holds journal can h =
        let c = (state_of f.journal).cells i in
        let s = only (call.Restart server word) (answer.Restarted b) now (subst (λ x. LogletRun v x now) h.are h.run) in
        served who (Mend i server word) (Set b) now holds journal (record { there = can.there; allowed = tt }) (λ j. refl) refl (λ j. refl) h
        (moved_as_told c v told_now c now refl s.does.moves s.after (moved_left c v told_now now s.does.moves s.after))
        (ap (λ (x : LogletView). x.servers) s.does.moves.rest)
    mend_kept who server word a now holds journal can h = absurd h.are

    pub stray_kept : (who word : ℕ) (a : FabricAnswer) (now : LogletView) (holds : ServersView) (journal : List Event) → MayCall (state_of f.journal) law who (Stray i word) → Serves (record { loglet = v; serving = held }) f.journal who (Stray i word) a (record { loglet = now; serving = holds }) journal → IsAfter (record { loglet = now; serving = holds; marks = here; journal = journal })
    stray_kept who word (Set true) now holds journal can h =
        let c = (state_of f.journal).cells i in
        let s = only (call.Stray word) answer.Strayed now (subst (λ x. LogletRun v x now) h.are h.run) in
        served who (Stray i word) (Set true) now holds journal (record { there = can.there; allowed = tt }) (λ j. refl) refl (λ j. refl) h
        (moved_as_told c v told_now c now refl s.does s.after (moved_left c v told_now now s.does s.after))
        (ap (λ (x : LogletView). x.servers) s.does.rest)
    stray_kept who word a now holds journal can h = absurd h.are
