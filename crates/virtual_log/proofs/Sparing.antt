-- What is underway stays so.
use Rattle.std.proofs.Common.{◌≡◌, ◌≢◌, ◌⊎◌, inl, inr, ℕ, ◌<◌, ◌≤◌, List, [], ◌∷◌, ◌++◌, length, Option, Some, None, Bool, true, false, refl, sym, ap, ◌∙◌, subst, arith, append_assoc}
use Rattle.std.specs.Prelude.{◌==◌}
use Rattle.std.proofs.lemmas.Bool.Decides.{nat_tests}
use Rattle.delos_types.specs.declared.entry.Entry.{Entry}
use Rattle.delos_types.specs.declared.chain.Segment.{Segment}
use Rattle.delos_types.specs.declared.chain.Chain.{Chain}
use Rattle.chain_map.specs.Chain.{last_segment}
use Rattle.legal_journal.specs.Law.{Law}
use Rattle.legal_journal.specs.Told.{Running}
use Rattle.legal_journal.specs.declared.events.Event.{Event}
use Rattle.legal_journal.specs.declared.events.FabricCall.{FabricCall}
use Rattle.legal_journal.specs.declared.events.FabricAnswer.{FabricAnswer}
use Rattle.legal_journal.specs.declared.events.FabricCall.TheVariants.{Begin, Carry, Forget, ReadChain, WriteChain, Stop, Mend, Stray, StopMeta, MendMeta}
use Rattle.legal_journal.specs.declared.events.FabricAnswer.TheVariants as fabric
use Rattle.legal_journal.specs.Moves.{CellMove, Begins, Carries, Answers, Drops, Misses, Move, OnCell, OnRegister, Nothing, Never, move, move_of}
use Rattle.legal_journal.specs.Journal.{CellState, State, cell_after, answered_by, after, after_all, state_of, start, IsOwn, CellAllowed, IsAllowed, MayHappen, IsLegalFrom, IsLegal}
use Rattle.legal_journal.specs.Laws.{Continues}
use Rattle.legal_journal.specs.Turns.{AreOthers, IsTurn}
use Rattle.legal_journal.proofs.Cells.{CellOk, put_cases, put_other}
use Rattle.legal_journal.proofs.Sound.{StateOk, step_ok}
use Rattle.legal_journal.proofs.Legal.{sound, legal_front, goes_on, after_all-append, IsLegalFrom-split}
use Rattle.legal_journal.proofs.Sealing.{one_or_none}
use Rattle.legal_journal.proofs.Taken.{own_stays}
use Rattle.virtual_log.specs.declared.underway.Step.{Step}
use Rattle.virtual_log.specs.declared.underway.Step.TheVariants.{Starting, Appending, Reading, Asking, Finding, Closing, Dropping}
use Rattle.virtual_log.specs.declared.underway.Going.{Going}
use Rattle.virtual_log.specs.Turning.{Later}
use Rattle.virtual_log.specs.Underway.{IsLast, IsShut, IsDropping, IsAt, IsKnown, IsGoing, HasTicket, Leaves, LeaveTicket, LeaveStep}
use Rattle.virtual_log.proofs.OneTurn.{first_later}

-- Own events that leave a ticket alone

-- the move doesn't close the ticket, on its own cell
abbrev LeavesCell : ℕ → CellMove → Type 0
LeavesCell t (Answers u a) = u ≡ t → ⊥
LeavesCell t (Drops u) = u ≡ t → ⊥
LeavesCell t m = Unit {0}

abbrev LeavesMove : ℕ → ℕ → Move → Type 0
LeavesMove i t (OnCell j m) = j ≡ i → LeavesCell t m
LeavesMove i t m = Unit {0}

leaves_move : (i t : ℕ) (call : FabricCall) (answer : FabricAnswer) → Leaves i t call → LeavesMove i t (move_of call answer)
leaves_move i t (Carry j u w) fabric.Going h = λ _. tt
leaves_move i t (Carry j u w) (fabric.Done a) h = h
leaves_move i t (Carry j u w) fabric.Memory h = h
leaves_move i t (Carry j u w) fabric.NoTicket h = λ _. tt
leaves_move i t (Carry j u w) answer h = tt
leaves_move i t (Forget j u) fabric.Gone h = h
leaves_move i t (Forget j u) fabric.NoTicket h = λ _. tt
leaves_move i t (Forget j u) answer h = tt
leaves_move i t (Begin j op) (fabric.Begun u) h = λ _. tt
leaves_move i t (Begin j op) fabric.Full h = tt
leaves_move i t (Begin j op) answer h = tt
leaves_move i t ReadChain (fabric.At v c) h = tt
leaves_move i t ReadChain fabric.Down h = tt
leaves_move i t ReadChain answer h = tt
leaves_move i t (WriteChain x c) (fabric.Written v) h = tt
leaves_move i t (WriteChain x c) (fabric.Conflict v d) h = tt
leaves_move i t (WriteChain x c) fabric.MetaFault h = tt
leaves_move i t (WriteChain x c) fabric.Down h = tt
leaves_move i t (WriteChain x c) answer h = tt
leaves_move i t (MendMeta n) (fabric.Set b) h = tt
leaves_move i t (MendMeta n) answer h = tt
leaves_move i t (Mend a b n) (fabric.Set z) h = tt
leaves_move i t (Mend a b n) answer h = tt
leaves_move i t (Stop a b n) (fabric.Set true) h = tt
leaves_move i t (Stop a b n) (fabric.Set false) h = tt
leaves_move i t (Stop a b n) answer h = tt
leaves_move i t (Stray a n) (fabric.Set true) h = tt
leaves_move i t (Stray a n) (fabric.Set false) h = tt
leaves_move i t (Stray a n) answer h = tt
leaves_move i t (StopMeta n) (fabric.Set true) h = tt
leaves_move i t (StopMeta n) (fabric.Set false) h = tt
leaves_move i t (StopMeta n) answer h = tt

module _ (w : State) (may : ℕ → Entry → Type 0) (cells who j t : ℕ) (r : Running) (ok : CellOk (w.cells j)) (own : IsOwn (w.cells j) who t r) where
  spared_cell : (m : CellMove) → CellAllowed w may cells who j m → LeavesCell t m → IsOwn (cell_after who (w.cells j) m) who t r
  spared_cell (Begins op u) a l =
      let fresh = (ok.ops t r own.is_open).ticket in
      let other : t ≢ u = λ e. absurd (omega (arith, fresh, a.2)) in
      record { is_open = put_other (w.cells j).told.ops u _ t other ∙ own.is_open; own = put_other (w.cells j).owner u who t other ∙ own.own }
  spared_cell (Carries u) a l = record { is_open = own.is_open; own = own.own }
  spared_cell (Answers u x) a l = record {
    is_open = subst (λ o. (answered_by (w.cells j).told u x o).ops t ≡ Some r) (sym a.1.is_open) (put_other (w.cells j).told.ops u None t (λ e. l (sym e)) ∙ own.is_open);
    own = own.own;
  }
  spared_cell (Drops u) a l = record { is_open = put_other (w.cells j).told.ops u None t (λ e. l (sym e)) ∙ own.is_open; own = own.own }
  spared_cell (Misses u) a l = own

spared_step : (w : State) (law : Law) (who i t : ℕ) (r : Running) (m : Move) → StateOk (length law.shelf) w → IsOwn (w.cells i) who t r → IsAllowed w law who m → LeavesMove i t m → IsOwn ((after w who m).cells i) who t r
spared_step w law who i t r (OnCell j m) ok own a l =
    put_cases (λ (c : CellState). IsOwn c who t r) w.cells j (cell_after who (w.cells j) m) i
    (λ e. spared_cell w law.may (length law.shelf) who j t r (ok.cell j) (subst (λ k. IsOwn (w.cells k) who t r) e own) m a (l (sym e)))
    (λ _. own)
spared_step w law who i t r (OnRegister m) ok own a l = own
spared_step w law who i t r Nothing ok own a l = own
spared_step w law who i t r Never ok own a l = absurd a

spared_event : (w : State) (law : Law) (who i t : ℕ) (r : Running) (e : Event) → StateOk (length law.shelf) w → MayHappen w law e → (e.who ≡ who → Leaves i t e.call) → IsOwn (w.cells i) who t r → IsOwn ((after w e.who (move e)).cells i) who t r
spared_event w law who i t r e ok happens leaves own = by_test (e.who == who) refl
  where
    by_test : (b : Bool) → (e.who == who) ≡ b → IsOwn ((after w e.who (move e)).cells i) who t r
    by_test true b =
        let same : e.who ≡ who = grind (arith, nat_tests) in
        let allowed = subst (λ k. IsAllowed w law k (move e)) same happens.allowed in
        subst (λ k. IsOwn ((after w k (move e)).cells i) who t r) (sym same)
        (spared_step w law who i t r (move e) ok own allowed (leaves_move i t e.call e.answer (leaves same)))
    by_test false b =
        let apart : e.who ≢ who = grind (arith, nat_tests) in
        (own_stays w law who i t r (e ∷ []) (apart, tt) ok (happens, tt) own).own

spared_all : (w : State) (law : Law) (who i t : ℕ) (r : Running) (es : List Event) → LeaveTicket who i t es → StateOk (length law.shelf) w → IsLegalFrom w law es → IsOwn (w.cells i) who t r → IsOwn ((after_all w es).cells i) who t r
spared_all w law who i t r [] leave ok legal own = own
spared_all w law who i t r (e ∷ es) leave ok legal own =
    spared_all (after w e.who (move e)) law who i t r es leave.1 (step_ok law w e.who (move e) ok legal.0.allowed).0 legal.1
    (spared_event w law who i t r e ok legal.0 leave.0 own)

-- A ticket that was closed

abbrev IsClosed : CellState → ℕ → Type 0
IsClosed c t = (c.told.ops t ≡ None) × (t < c.told.begun)

closed_cell : (w : State) (may : ℕ → Entry → Type 0) (cells by j t : ℕ) → IsClosed (w.cells j) t → (m : CellMove) → CellAllowed w may cells by j m → IsClosed (cell_after by (w.cells j) m) t
closed_cell w may cells by j t h (Begins op u) a =
    let other : t ≢ u = λ e. absurd (omega (arith, h.1, a.2)) in
    (put_other (w.cells j).told.ops u _ t other ∙ h.0, omega (arith, h.1))
closed_cell w may cells by j t h (Carries u) a = h
closed_cell w may cells by j t h (Answers u x) a =
    subst (λ (o : Option Running). ((answered_by (w.cells j).told u x o).ops t ≡ None) × (t < (answered_by (w.cells j).told u x o).begun)) (sym a.1.is_open)
    (put_cases (λ (o : Option Running). o ≡ None) (w.cells j).told.ops u None t (λ _. refl) (λ _. h.0), h.1)
closed_cell w may cells by j t h (Drops u) a = (put_cases (λ (o : Option Running). o ≡ None) (w.cells j).told.ops u None t (λ _. refl) (λ _. h.0), h.1)
closed_cell w may cells by j t h (Misses u) a = h

closed_step : (w : State) (law : Law) (by i t : ℕ) → IsClosed (w.cells i) t → (m : Move) → IsAllowed w law by m → IsClosed ((after w by m).cells i) t
closed_step w law by i t h (OnCell j m) a =
    put_cases (λ (c : CellState). IsClosed c t) w.cells j (cell_after by (w.cells j) m) i
    (λ e. closed_cell w law.may (length law.shelf) by j t (subst (λ k. IsClosed (w.cells k) t) e h) m a)
    (λ _. h)
closed_step w law by i t h (OnRegister m) a = h
closed_step w law by i t h Nothing a = h
closed_step w law by i t h Never a = absurd a

closed_all : (w : State) (law : Law) (i t : ℕ) (es : List Event) → IsLegalFrom w law es → IsClosed (w.cells i) t → IsClosed ((after_all w es).cells i) t
closed_all w law i t [] legal h = h
closed_all w law i t (e ∷ es) legal h =
    closed_all (after w e.who (move e)) law i t es legal.1 (closed_step w law e.who i t h (move e) legal.0.allowed)

-- it stays closed
pub closed_later : (law : Law) (a b : List Event) (i t : ℕ) → Later law a b → t < ((state_of a).cells i).told.begun → ((state_of a).cells i).told.ops t ≡ None → ((state_of b).cells i).told.ops t ≡ None
closed_later law a b i t later low none =
    let legal = subst (IsLegal law) later.seen later.legal in
    let there : state_of b ≡ after_all (state_of a) later.more = ap state_of later.seen ∙ after_all-append start a later.more in
    (subst (λ (w : State). IsClosed (w.cells i) t) (sym there)
    (closed_all (state_of a) law i t later.more (IsLegalFrom-split law start a later.more legal.steps).1 (none, low))).0

-- From one moment to a later one

module _ (law : Law) (who : ℕ) (a more : List Event) (legal : IsLegal law (a ++ more)) where
  on : Continues (state_of a) (state_of (a ++ more))
  on = goes_on law a more legal

  pub own_later : (i t : ℕ) (r : Running) → LeaveTicket who i t more → IsOwn ((state_of a).cells i) who t r → IsOwn ((state_of (a ++ more)).cells i) who t r
  own_later i t r leave own =
      subst (λ (w : State). IsOwn (w.cells i) who t r) (sym (after_all-append start a more))
      (spared_all (state_of a) law who i t r more leave (sound law a (legal_front law a more legal)) (IsLegalFrom-split law start a more legal.steps).1 own)

  pub last_later : (s : Segment) → IsLast a s → IsLast (a ++ more) s
  last_later s h = record { version = h.version; chain = h.chain; given = on.given h.version h.chain h.given; last_is = h.last_is }

  pub shut_later : (s : Segment) → IsShut a s → IsShut (a ++ more) s
  shut_later s h = record { last = last_later s h.last; sealed = (on.cell s.id).sealed h.sealed }

  pub dropping_later : (i t : ℕ) → IsDropping who a i t → IsDropping who (a ++ more) i t
  dropping_later i t h = record {
    start = h.start;
    there = on.starts i h.start h.there;
    begun = omega (arith, h.begun, (on.cell i).begun);
    own = (on.cell i).owner t h.begun ∙ h.own;
  }

  pub at_later : (front : List Event) (e : Entry) (step : Step) → LeaveStep who step more → IsAt who front a e step → IsAt who front (a ++ more) e step
  at_later front e Starting leave h = tt
  at_later front e (Appending s t) leave h = record {
    begin = h.begin;
    since = h.since;
    rest = (h.rest.0 ++ more, ap (λ l. l ++ more) h.rest.1 ∙ append_assoc h.begin h.rest.0 more);
    last = h.last;
    own = own_later s.id t _ (leave s.id t (refl, refl)) h.own;
  }
  at_later front e (Reading s) leave h = shut_later s h
  at_later front e (Asking s) leave h = shut_later s h
  at_later front e (Finding s t) leave h = record {
    shut = shut_later s h.shut;
    running = h.running;
    own = own_later s.id t h.running (leave s.id t (refl, refl)) h.own;
    asks = h.asks;
    late = h.late;
  }
  at_later front e (Closing s n) leave h = (shut_later s h.0, (on.cell s.id).ends n h.1)
  at_later front e (Dropping i t) leave h = dropping_later i t h

known_later : (m n : ℕ) (step : Step) → m ≤ n → IsKnown m step → IsKnown n step
known_later m n (Appending s t) up h = omega (arith, up, h)
known_later m n (Reading s) up h = omega (arith, up, h)
known_later m n (Asking s) up h = omega (arith, up, h)
known_later m n (Finding s t) up h = omega (arith, up, h)
known_later m n (Closing s n') up h = omega (arith, up, h)
known_later m n step up h = tt

pub going_later : (law : Law) (who : ℕ) (early a more : List Event) (c d : Chain) (g : Going) → IsLegal law (a ++ more) → (last_segment c).id ≤ (last_segment d).id → LeaveStep who g.step more → IsGoing law.may who early a c g → IsGoing law.may who early (a ++ more) d g
going_later law who early a more c d g legal up leave h = record {
  allowed = h.allowed;
  spelled = h.spelled;
  first = first_later who early a (a ++ more) more refl h.first;
  at = at_later law who a more legal (early ++ h.first.others) g.entry g.step leave h.at;
  reached = known_later (last_segment c).id (last_segment d).id g.step up h.reached;
}

-- Turns

others_leave : (who i t : ℕ) (es : List Event) → AreOthers who es → LeaveTicket who i t es
others_leave who i t [] h = tt
others_leave who i t (e ∷ es) h = (λ same. absurd (h.0 same), others_leave who i t es h.1)

leave_append : (who i t : ℕ) (xs ys : List Event) → LeaveTicket who i t xs → LeaveTicket who i t ys → LeaveTicket who i t (xs ++ ys)
leave_append who i t [] ys h k = k
leave_append who i t (x ∷ xs) ys h k = (h.0, leave_append who i t xs ys h.1 k)

module _ (law : Law) (who : ℕ) (old : List Event) (call : FabricCall) (answer : FabricAnswer) (new : List Event) (turn : IsTurn law who old call answer new) where
  pub turn_is : new ≡ old ++ (turn.others ++ turn.own)
  turn_is = turn.seen ∙ append_assoc old turn.others turn.own

  pub turn_leaves : (i t : ℕ) → Leaves i t call → LeaveTicket who i t (turn.others ++ turn.own)
  turn_leaves i t h = leave_append who i t turn.others turn.own (others_leave who i t turn.others turn.apart) (by (one_or_none who call answer turn.own turn.event))
    where
      by : (turn.own ≡ []) ⊎ (turn.own ≡ record { who = who; call = call; answer = answer } ∷ []) → LeaveTicket who i t turn.own
      by (inl none) = subst (LeaveTicket who i t) (sym none) tt
      by (inr one) = subst (LeaveTicket who i t) (sym one) (λ _. h, tt)

  pub turn_going : (early : List Event) (c d : Chain) (g : Going) → (last_segment c).id ≤ (last_segment d).id → ((i t : ℕ) → HasTicket g.step i t → Leaves i t call) → IsGoing law.may who early old c g → IsGoing law.may who early new d g
  turn_going early c d g up leaves h =
      subst (λ es. IsGoing law.may who early es d g) (sym turn_is)
      (going_later law who early old (turn.others ++ turn.own) c d g (subst (IsLegal law) turn_is turn.legal) up (λ i t has. turn_leaves i t (leaves i t has)) h)

  pub turn_last : (s : Segment) → IsLast old s → IsLast new s
  turn_last s h = subst (λ es. IsLast es s) (sym turn_is) (last_later law who old (turn.others ++ turn.own) (subst (IsLegal law) turn_is turn.legal) s h)

  pub turn_shut : (s : Segment) → IsShut old s → IsShut new s
  turn_shut s h = subst (λ es. IsShut es s) (sym turn_is) (shut_later law who old (turn.others ++ turn.own) (subst (IsLegal law) turn_is turn.legal) s h)

  pub turn_dropping : (i t : ℕ) → IsDropping who old i t → IsDropping who new i t
  turn_dropping i t h = subst (λ es. IsDropping who es i t) (sym turn_is) (dropping_later law who old (turn.others ++ turn.own) (subst (IsLegal law) turn_is turn.legal) i t h)

-- a ticket was given before
pub ticket_begun : (cells who : ℕ) (front a : List Event) (e : Entry) (step : Step) (i t : ℕ) → StateOk cells (state_of a) → IsAt who front a e step → HasTicket step i t → t < ((state_of a).cells i).told.begun
ticket_begun cells who front a e (Appending s u) i t ok h has =
    subst (λ k. t < ((state_of a).cells k).told.begun) has.0 (subst (λ n. n < ((state_of a).cells s.id).told.begun) has.1 ((ok.cell s.id).ops u _ h.own.is_open).ticket)
ticket_begun cells who front a e (Finding s u) i t ok h has =
    subst (λ k. t < ((state_of a).cells k).told.begun) has.0 (subst (λ n. n < ((state_of a).cells s.id).told.begun) has.1 ((ok.cell s.id).ops u h.running h.own.is_open).ticket)
ticket_begun cells who front a e (Dropping j u) i t ok h has =
    subst (λ k. t < ((state_of a).cells k).told.begun) has.0 (subst (λ n. n < ((state_of a).cells j).told.begun) has.1 h.begun)
ticket_begun cells who front a e step i t ok h has = absurd has
