-- A loglet's Seals are counted by its events.
use Rattle.std.proofs.Common.{◌≡◌, refl, sym, ap, subst, ℕ, ◌+◌, ◌≤◌, Bool, true, false, cond, List, [], ◌∷◌, Option, Some, None, arith}
use Rattle.std.specs.Prelude.{count_by, ◌==◌}
use Rattle.std.proofs.lemmas.Bool.Decides.{nat_tests}
use Rattle.std.proofs.lemmas.List.Sums.{sum_by-cons}
use Rattle.loglet_api.specs.declared.call.Op.TheVariants.{Seal}
use Rattle.loglet_api.specs.declared.call.Answer.{Answer}
use Rattle.legal_journal.specs.declared.events.Event.{Event}
use Rattle.legal_journal.specs.declared.events.FabricCall.{FabricCall}
use Rattle.legal_journal.specs.declared.events.FabricCall.TheVariants.{Begin, Carry, Forget, ReadChain, WriteChain, Stop, Mend, Stray, StopMeta, MendMeta}
use Rattle.legal_journal.specs.declared.events.FabricAnswer.{FabricAnswer}
use Rattle.legal_journal.specs.declared.events.FabricAnswer.TheVariants.{Begun, Done, Gone, Down, MetaFault, Set}
use Rattle.legal_journal.specs.Told.{Told, Running}
use Rattle.legal_journal.specs.Moves.{CellMove, Begins, Carries, Answers, Drops, Misses, Move, OnCell, OnRegister, Nothing, Never, move, move_of}
use Rattle.legal_journal.specs.Journal.{CellState, State, cell_after, answered_by, after, after_all}
use Rattle.legal_journal.proofs.Cells.{put_cases}
use Rattle.legal_journal.specs.Sealing.{is_seal_on, begins_seal_on}

-- Moves

-- so many Seals the move begins on cell i
abbrev seals_by : ℕ → Move → ℕ
seals_by i (OnCell j (Begins Seal t)) = cond (j == i) 1 0
seals_by i m = 0

answered_seals : (c : Told) (t : ℕ) (a : Answer) (o : Option Running) → (answered_by c t a o).seals ≡ c.seals
answered_seals c t a None = refl
answered_seals c t a (Some r) = refl

itself : (i : ℕ) → (i == i) ≡ true
itself i = grind (arith, nat_tests)

own : (who i : ℕ) (c : CellState) (m : CellMove) → (cell_after who c m).told.seals ≡ c.told.seals + seals_by i (OnCell i m)
own who i c (Begins Seal t) = ap (λ b. c.told.seals + cond b 1 0) (sym (itself i))
own who i c (Begins op t) = refl
own who i c (Carries t) = omega arith
own who i c (Answers t a) = omega (arith, answered_seals c.told t a (c.told.ops t))
own who i c (Drops t) = omega arith
own who i c (Misses t) = omega arith

-- a move of another cell begins none on cell i
apart : (i j : ℕ) (m : CellMove) → (j == i) ≡ false → seals_by i (OnCell j m) ≡ 0
apart i j (Begins Seal t) h = ap (λ b. cond b 1 0) h
apart i j (Begins op t) h = refl
apart i j (Carries t) h = refl
apart i j (Answers t a) h = refl
apart i j (Drops t) h = refl
apart i j (Misses t) h = refl

not_same : (i j : ℕ) (b : Bool) → (j == i) ≡ b → (i ≡ j → ⊥) → (j == i) ≡ false
not_same i j false e h = e
not_same i j true e h = let same : i ≡ j = grind (arith, nat_tests) in absurd (h same)

by_move : (w : State) (who i : ℕ) (m : Move) → ((after w who m).cells i).told.seals ≡ (w.cells i).told.seals + seals_by i m
by_move w who i (OnCell j m) =
    put_cases (λ (c : CellState). c.told.seals ≡ (w.cells i).told.seals + seals_by i (OnCell j m)) w.cells j (cell_after who (w.cells j) m) i
    (λ e. subst (λ k. (cell_after who (w.cells j) m).told.seals ≡ (w.cells k).told.seals + seals_by k (OnCell j m)) (sym e) (own who j (w.cells j) m))
    (λ other. omega (arith, apart i j m (not_same i j (j == i) refl other)))
by_move w who i (OnRegister m) = omega arith
by_move w who i Nothing = omega arith
by_move w who i Never = omega arith

-- Events

least : (n : ℕ) → 0 ≤ n
least n = omega arith

-- a call that begins a Seal may find no room
by_call : (i : ℕ) (c : FabricCall) (a : FabricAnswer) → seals_by i (move_of c a) ≤ cond (is_seal_on i c) 1 0
by_call i (Begin j Seal) (Begun t) = omega arith
by_call i (Begin j op) (Begun t) = least _
by_call i (Carry j t w) (Done a) = least _
by_call i (Forget j t) Gone = least _
by_call i ReadChain Down = least _
by_call i (WriteChain x c) MetaFault = least _
by_call i (MendMeta w) (Set b) = least _
by_call i (Stop j s n) (Set true) = least _
by_call i (Mend j s w) (Set b) = least _
by_call i (Stray j w) (Set true) = least _
by_call i (StopMeta n) (Set true) = least _
by_call i c a = least _

count_cons : (p : Event → Bool) (e : Event) (es : List Event) → count_by p (e ∷ es) ≡ cond (p e) 1 0 + count_by p es
count_cons p e es = sum_by-cons (λ (x : Event). cond (p x) 1 0) e es

-- so many Seals the event asks for on cell i
abbrev pub seals_asked : ℕ → Event → ℕ
seals_asked i e = cond (begins_seal_on i e) 1 0

by_event : (w : State) (i : ℕ) (e : Event) → ((after w e.who (move e)).cells i).told.seals ≤ (w.cells i).told.seals + seals_asked i e
by_event w i e = omega (arith, by_move w e.who i (move e), by_call i e.call e.answer)

pub seals_after : (w : State) (i : ℕ) (es : List Event) → ((after_all w es).cells i).told.seals ≤ (w.cells i).told.seals + count_by (begins_seal_on i) es
seals_after w i [] = omega arith
seals_after w i (e ∷ es) = omega (arith, by_event w i e, seals_after (after w e.who (move e)) i es, count_cons (begins_seal_on i) e es)
