-- What the turns of an append that is underway bring.
use Rattle.std.proofs.Common.{◌≡◌, ◌≢◌, ◌⊎◌, inl, inr, ℕ, ◌+◌, ◌-◌, ◌<◌, ◌≤◌, ◌^◌, max, List, [], ◌∷◌, ◌++◌, length, Option, Some, None, Bool, true, false, refl, sym, ap, ◌∙◌, subst, ⊎_elim, arith, append_assoc, IfOk, IfErr, IfSome, IfNone}
use Rattle.std.specs.Prelude.{slice_get, nat_lt, Result, Ok, Err, if◌then◌else◌}
use Rattle.std.proofs.lemmas.Bool.Decides.{nat_tests}
use Rattle.delos_types.specs.declared.entry.Entry.{Entry}
use Rattle.delos_types.specs.Spelling.{IsSpellable}
use Rattle.delos_types.specs.declared.chain.Segment.{Segment}
use Rattle.delos_types.specs.declared.chain.Chain.{Chain}
use Rattle.chain_map.specs.Chain.{last_segment, last_of_segments}
use Rattle.chain_map.specs.Step.{extended}
use Rattle.loglet_api.specs.declared.call.Op.{Op}
use Rattle.loglet_api.specs.declared.call.Op.TheVariants.{Append, Tail}
use Rattle.loglet_api.specs.declared.call.Answer.{Answer}
use Rattle.loglet_api.specs.declared.call.Answer.TheVariants as answers
use Rattle.legal_journal.specs.Law.{Law}
use Rattle.legal_journal.specs.Told.{Told, Running, MayAnswer, started}
use Rattle.legal_journal.specs.declared.events.Event.{Event}
use Rattle.legal_journal.specs.declared.events.FabricCall.{FabricCall}
use Rattle.legal_journal.specs.declared.events.FabricAnswer.{FabricAnswer}
use Rattle.legal_journal.specs.declared.events.FabricCall.TheVariants.{Begin, Carry, Forget, ReadChain, WriteChain}
use Rattle.legal_journal.specs.declared.events.FabricAnswer.TheVariants as fabric
use Rattle.legal_journal.specs.Moves.{Answers, Drops, Misses}
use Rattle.legal_journal.specs.Journal.{CellState, State, cell_after, answered_by, state_of, IsOwn, IsLegal, entries}
use Rattle.legal_journal.specs.Laws.{Continues, Stands}
use Rattle.legal_journal.specs.Sealing.{is_seal}
use Rattle.legal_journal.specs.Turns.{IsTurn, MayTurn}
use Rattle.legal_journal.proofs.Cells.{put_same}
use Rattle.legal_journal.proofs.Log.{slice_get_front}
use Rattle.legal_journal.proofs.Legal.{sound, legal_front, reached_stands, goes_on, clears_on, last_clears}
use Rattle.legal_journal.proofs.Taken.{took}
use Rattle.virtual_log.specs.declared.calls.Known.{Known}
use Rattle.virtual_log.specs.declared.fault.Fault.{Fault}
use Rattle.virtual_log.specs.declared.fault.Fault.TheVariants as fault
use Rattle.virtual_log.specs.declared.underway.Step.{Step}
use Rattle.virtual_log.specs.declared.underway.Step.TheVariants.{Starting, Appending, Reading, Asking, Finding, Closing, Dropping}
use Rattle.virtual_log.specs.declared.underway.Going.{Going}
use Rattle.virtual_log.specs.Turning.{IsAbove, IsForgotten, Opened}
use Rattle.virtual_log.specs.Causes.{IsCalm}
use Rattle.virtual_log.specs.Holding.{Holds}
use Rattle.virtual_log.specs.Log.{GoesBy}
use Rattle.virtual_log.specs.Underway.{IsLast, IsAppending, IsDropping, IsAt, IsKnown, IsGoing, HasTicket, AreApart, Leaves, LeavesNone, LeavesOthers, StaysGoing, OneTurn, due, Moves, ClosesTicket, Places, Forgets, Outcome, Went}
use Rattle.virtual_log.proofs.OneTurn.{nil, look_ok, begin_ok, going_ok, done_ok, turn_later, later_refl, later_trans, first_later, lack_cause, cause_since}
use Rattle.virtual_log.proofs.Appending.{unsealed_last, started_within, sealed_ok, end_ok}
use Rattle.virtual_log.proofs.Replacing.{lost_ok}
use Rattle.virtual_log.proofs.Going.{last_there, goes_later, goes_onto, goes_now}
use Rattle.virtual_log.proofs.Holding.{placed_held}
use Rattle.virtual_log.proofs.Sealing.{turn_none, seals_refl, seals_trans}
use Rattle.virtual_log.proofs.Calming.{turn_calm, calm_refl, calm_then}
use Rattle.virtual_log.proofs.Sparing.{closed_later, last_later, turn_is, turn_going, turn_last, turn_shut, turn_dropping, ticket_begun}

abbrev pub at_step : Entry → Step → Going
at_step e step = record { entry = e; step = step }

-- a fact of an append whose step is this
pub by_step : (P : Going → Type 0) (g : Going) (step : Step) → g.step ≡ step → P (at_step g.entry step) → P g
by_step P g step is h = subst (λ x. P (at_step g.entry x)) (sym is) h

pub to_step : (P : Going → Type 0) (g : Going) (step : Step) → g.step ≡ step → P g → P (at_step g.entry step)
to_step P g step is h = subst (λ x. P (at_step g.entry x)) is h

pub went_by : {law : Law} {who : ℕ} {old : List Event} {k : Known} {new : List Event} {k' : Known} {g' : Going} {r : Result (Option ℕ) Fault} (g : Going) (step : Step) → g.step ≡ step
    → Went law who old k (at_step g.entry step) new k' g' r → Went law who old k g new k' g' r
went_by {law} {who} {old} {k} {new} {k'} {g'} {r} g step is h = by_step (λ (x : Going). Went law who old k x new k' g' r) g step is h

-- .. and stays so
pub went_still : {law : Law} {who : ℕ} {old : List Event} {k : Known} {new : List Event} {k' : Known} {r : Result (Option ℕ) Fault} (g : Going) (step : Step) → g.step ≡ step
    → Went law who old k (at_step g.entry step) new k' (at_step g.entry step) r → Went law who old k g new k' g r
went_still {law} {who} {old} {k} {new} {k'} {r} g step is h = by_step (λ (x : Going). Went law who old k x new k' x r) g step is h

pub going_by : {may : ℕ → Entry → Type 0} {who : ℕ} {early seen : List Event} {c : Chain} (g : Going) (step : Step) → g.step ≡ step → IsGoing may who early seen c g → IsGoing may who early seen c (at_step g.entry step)
going_by {may} {who} {early} {seen} {c} g step is h = to_step (λ (x : Going). IsGoing may who early seen c x) g step is h

-- Tickets

-- the ticket of an append isn't that of one that is apart
named : (g other : Going) (j u : ℕ) → HasTicket g.step j u → AreApart g other → (i t : ℕ) → HasTicket other.step i t → j ≡ i → u ≡ t → ⊥
named g other j u mine apart i t theirs e f = apart j u mine (subst (λ x. HasTicket other.step x u) (sym e) (subst (λ y. HasTicket other.step i y) (sym f) theirs))

-- no ticket is new once it was asked that one be closed
forgets_less : (j u : ℕ) (answer : FabricAnswer) (before after : Step) → Forgets j u answer after → HasTicket before j u → (i t : ℕ) → HasTicket after i t → HasTicket before i t
forgets_less j u fabric.Gone before after f has i t h = absurd (subst (λ x. HasTicket x i t) f h)
forgets_less j u fabric.NoTicket before after f has i t h = absurd (subst (λ x. HasTicket x i t) f h)
forgets_less j u fabric.Memory before after f has i t h =
    let same : (j ≡ i) × (u ≡ t) = subst (λ x. HasTicket x i t) f h in
    subst (λ x. HasTicket before x t) same.0 (subst (λ y. HasTicket before j y) same.1 has)
forgets_less j u answer before after f has i t h = absurd f

one_ticket : (step : Step) (j u i t : ℕ) → HasTicket step j u → HasTicket step i t → (j ≡ i) × (u ≡ t)
one_ticket (Appending s n) j u i t h k = (sym h.0 ∙ k.0, sym h.1 ∙ k.1)
one_ticket (Finding s n) j u i t h k = (sym h.0 ∙ k.0, sym h.1 ∙ k.1)
one_ticket (Dropping c n) j u i t h k = (sym h.0 ∙ k.0, sym h.1 ∙ k.1)
one_ticket step j u i t h k = absurd h

forgot_all : (before after : Step) (j u i t : ℕ) (new : List Event) → HasTicket before j u → HasTicket before i t → HasTicket after j u ⊎ (((state_of new).cells j).told.ops u ≡ None) → HasTicket after i t ⊎ (((state_of new).cells i).told.ops t ≡ None)
forgot_all before after j u i t new has mine h =
    let same = one_ticket before j u i t has mine in
    subst (λ x. HasTicket after x t ⊎ (((state_of new).cells x).told.ops t ≡ None)) same.0 (subst (λ y. HasTicket after j y ⊎ (((state_of new).cells j).told.ops y ≡ None)) same.1 h)

forgets_calm : (j u : ℕ) (answer : FabricAnswer) (step : Step) → Forgets j u answer step → IsCalm answer
forgets_calm j u fabric.Gone step f = tt
forgets_calm j u fabric.NoTicket step f = tt
forgets_calm j u fabric.Memory step f = tt
forgets_calm j u answer step f = absurd f

forgets_at : (who j u : ℕ) (front seen : List Event) (e : Entry) (answer : FabricAnswer) (step : Step) → Forgets j u answer step → IsDropping who seen j u → IsAt who front seen e step
forgets_at who j u front seen e fabric.Gone step f h = subst (IsAt who front seen e) (sym f) tt
forgets_at who j u front seen e fabric.NoTicket step f h = subst (IsAt who front seen e) (sym f) tt
forgets_at who j u front seen e fabric.Memory step f h = subst (IsAt who front seen e) (sym f) h
forgets_at who j u front seen e answer step f h = absurd f

forgets_known : (last j u : ℕ) (answer : FabricAnswer) (step : Step) → Forgets j u answer step → IsKnown last step
forgets_known last j u fabric.Gone step f = subst (IsKnown last) (sym f) tt
forgets_known last j u fabric.NoTicket step f = subst (IsKnown last) (sym f) tt
forgets_known last j u fabric.Memory step f = subst (IsKnown last) (sym f) tt
forgets_known last j u answer step f = absurd f

-- The step that is due

pub due_at : (who last : ℕ) (front seen : List Event) (e : Entry) (step : Step) → IsAt who front seen e step → IsAt who front seen e (due last step)
due_at who last front seen e (Asking s) h = by (nat_lt s.id last)
  where
    by : (b : Bool) → IsAt who front seen e (if b then Starting else Asking s)
    by true = tt
    by false = h
due_at who last front seen e (Closing s n) h = by (nat_lt s.id last)
  where
    by : (b : Bool) → IsAt who front seen e (if b then Starting else Closing s n)
    by true = tt
    by false = h
due_at who last front seen e step h = h

pub due_known : (last : ℕ) (step : Step) → IsKnown last step → IsKnown last (due last step)
due_known last (Asking s) h = by (nat_lt s.id last)
  where
    by : (b : Bool) → IsKnown last (if b then Starting else Asking s)
    by true = tt
    by false = h
due_known last (Closing s n) h = by (nat_lt s.id last)
  where
    by : (b : Bool) → IsKnown last (if b then Starting else Closing s n)
    by true = tt
    by false = h
due_known last step h = h

pub due_ticket : (last : ℕ) (step : Step) (i t : ℕ) → HasTicket (due last step) i t → HasTicket step i t
due_ticket last (Asking s) i t h = by (nat_lt s.id last) h
  where
    by : (b : Bool) → HasTicket (if b then Starting else Asking s) i t → ⊥
    by true h = h
    by false h = h
due_ticket last (Closing s n) i t h = by (nat_lt s.id last) h
  where
    by : (b : Bool) → HasTicket (if b then Starting else Closing s n) i t → ⊥
    by true h = h
    by false h = h
due_ticket last step i t h = h

pub due_keeps : (last : ℕ) (step : Step) (i t : ℕ) → HasTicket step i t → HasTicket (due last step) i t
due_keeps last (Asking s) i t h = absurd h
due_keeps last (Closing s n) i t h = absurd h
due_keeps last step i t h = h

pub due_twice : (last : ℕ) (step : Step) → due last (due last step) ≡ due last step
due_twice last (Asking s) = by (nat_lt s.id last) refl
  where
    by : (b : Bool) → nat_lt s.id last ≡ b → due last (if b then Starting else Asking s) ≡ (if b then Starting else Asking s)
    by true is = refl
    by false is = ap (λ (b : Bool). if b then Starting else Asking s) is
due_twice last (Closing s n) = by (nat_lt s.id last) refl
  where
    by : (b : Bool) → nat_lt s.id last ≡ b → due last (if b then Starting else Closing s n) ≡ (if b then Starting else Closing s n)
    by true is = refl
    by false is = ap (λ (b : Bool). if b then Starting else Closing s n) is
due_twice last step = refl

-- a chain is written where the sealed loglet is the last of the known chain
pub due_close : (last : ℕ) (s : Segment) (n : ℕ) → due last (Closing s n) ≡ Closing s n → s.id ≤ last → last ≡ s.id
due_close last s n is low = by (nat_lt s.id last) refl is
  where
    by : (b : Bool) → nat_lt s.id last ≡ b → (if b then Starting else Closing s n) ≡ Closing s n → last ≡ s.id
    by true b h = absurd (cc)
    by false b h = (let up : last ≤ s.id = grind (arith, nat_tests) in omega (arith, up, low))

pub due_going : (may : ℕ → Entry → Type 0) (who : ℕ) (early seen : List Event) (c : Chain) (g : Going) → IsGoing may who early seen c g → IsGoing may who early seen c (at_step g.entry (due (last_segment c).id g.step))
due_going may who early seen c g h = record {
  allowed = h.allowed;
  spelled = h.spelled;
  first = h.first;
  at = due_at who (last_segment c).id (early ++ h.first.others) seen g.entry g.step h.at;
  reached = due_known (last_segment c).id g.step h.reached;
}

-- what was the last segment of a chain started where that says
pub last_starts : (law : Law) (seen : List Event) (s : Segment) → IsLegal law seen → IsLast seen s → (state_of seen).starts s.id ≡ Some s.start
last_starts law seen s legal h = last_there law seen h.version 0 h.chain s legal (record { given = h.given; reached = omega arith }) h.last_is

-- an own ticket on a started loglet may be closed
pub dropping_of : (law : Law) (who : ℕ) (seen : List Event) (s : Segment) (t : ℕ) (r : Running) → IsLegal law seen → IsLast seen s → IsOwn ((state_of seen).cells s.id) who t r → IsDropping who seen s.id t
dropping_of law who seen s t r legal h own = record {
  start = s.start;
  there = last_starts law seen s legal h;
  begun = (((sound law seen legal).cell s.id).ops t r own.is_open).ticket;
  own = own.own;
}

-- .. the append's segment is still such a one
pub appending_last : (law : Law) (who : ℕ) (front seen : List Event) (e : Entry) (s : Segment) (t : ℕ) → IsLegal law seen → IsAppending who front seen e s t → IsLast seen s
appending_last law who front seen e s t legal h =
    subst (λ es. IsLast es s) (sym h.rest.1) (last_later law who h.begin h.rest.0 (subst (IsLegal law) h.rest.1 legal) s h.last)

-- a tail that was asked for once the loglet was told sealed isn't open
late_tail : (told : Told) (r : Running) (a : Answer) → r.sealed ≡ true → MayAnswer told r Tail a → ((n : ℕ) → a ≢ answers.SealedTail n) → ((u : ℕ) → a ≢ answers.NoQuorum u) → ⊥
late_tail told r (answers.OpenTail n) late m ends lack = let no : true ≡ false = sym late ∙ m.1.unsealed in absurd (cc)
late_tail told r (answers.SealedTail n) late m ends lack = ends n refl
late_tail told r (answers.NoQuorum u) late m ends lack = lack u refl
late_tail told r a late m ends lack = m

-- what is left to do is told by whether the ticket is closed
pub forgets_by : (j u : ℕ) (answer : FabricAnswer) (closed : Bool) → IsForgotten answer closed → Forgets j u answer (if closed then Starting else Dropping j u)
forgets_by j u fabric.Gone closed is = subst (λ (b : Bool). (if b then Starting else Dropping j u) ≡ Starting) (sym is) refl
forgets_by j u fabric.NoTicket closed is = subst (λ (b : Bool). (if b then Starting else Dropping j u) ≡ Starting) (sym is) refl
forgets_by j u fabric.Memory closed is = subst (λ (b : Bool). (if b then Starting else Dropping j u) ≡ Dropping j u) (sym is) refl
forgets_by j u answer closed is = absurd is

module _ (law : Law) (who : ℕ) (old : List Event) (legal : IsLegal law old) where
  pub may_forget : (j u : ℕ) → IsDropping who old j u → MayTurn law who old (Forget j u)
  may_forget j u h others apart now =
      let own = ((goes_on law old others now).cell j).owner u h.begun ∙ h.own in
      record { there = started_within law old j h.start legal h.there; asks = λ r is. own }

  -- once it was asked that a ticket be closed, it is closed, or left to be
  forgot_left : (j u : ℕ) (answer : FabricAnswer) (step : Step) (new : List Event) → IsTurn law who old (Forget j u) answer new → Forgets j u answer step → HasTicket step j u ⊎ (((state_of new).cells j).told.ops u ≡ None)
  forgot_left j u fabric.Gone step new h f =
      let n = took law old h.others _ new h.legal (h.seen ∙ ap (λ es. (old ++ h.others) ++ es) h.event) in
      let w = state_of (old ++ h.others) in
      inr (ap (λ (x : State). (x.cells j).told.ops u) n.now ∙ (ap (λ (c : CellState). c.told.ops u) (put_same w.cells j (cell_after who (w.cells j) (Drops u))) ∙ put_same (w.cells j).told.ops u None))
  forgot_left j u fabric.NoTicket step new h f =
      let n = took law old h.others _ new h.legal (h.seen ∙ ap (λ es. (old ++ h.others) ++ es) h.event) in
      let w = state_of (old ++ h.others) in
      inr (ap (λ (x : State). (x.cells j).told.ops u) n.now ∙ (ap (λ (c : CellState). c.told.ops u) (put_same w.cells j (cell_after who (w.cells j) (Misses u))) ∙ n.allowed))
  forgot_left j u fabric.Memory step new h f = inl (subst (λ (x : Step). HasTicket x j u) (sym f) (refl, refl))
  forgot_left j u answer step new h f = absurd f

module _ (law : Law) (who : ℕ) (old : List Event) (k : Known) (legal : IsLegal law old) (goes : GoesBy (state_of old) k.version k.chain k.tail) where
  still_goes : (call : FabricCall) (answer : FabricAnswer) (new : List Event) → IsTurn law who old call answer new → GoesBy (state_of new) k.version k.chain k.tail
  still_goes call answer new h = goes_later law old new k.version k.tail k.chain (turn_later law who old call answer new h) goes

  made : (call : FabricCall) (answer : FabricAnswer) (new : List Event) (k' : Known) (g g' : Going) (r : Result (Option ℕ) Fault) → IsTurn law who old call answer new → is_seal call ≡ false → GoesBy (state_of new) k'.version k'.chain k'.tail
      → g'.entry ≡ g.entry → LeavesNone g.step new g'.step → LeavesOthers law.may who old k.chain g new k'.chain g' → Outcome law.may who old k g new k' g' r → Went law who old k g new k' g' r
  made call answer new k' g g' r h other goes' same left others outcome = record {
    later = turn_later law who old call answer new h;
    goes_by = goes';
    unsealed = turn_none law who old call answer new h other;
    entry = same;
    left = left;
    others = others;
    outcome = outcome;
  }

  -- an answer closes its ticket
  answered_closed : (j u word : ℕ) (a : Answer) (new : List Event) → IsTurn law who old (Carry j u word) (fabric.Done a) new → ((state_of new).cells j).told.ops u ≡ None
  answered_closed j u word a new h =
      let n = took law old h.others _ new h.legal (h.seen ∙ ap (λ es. (old ++ h.others) ++ es) h.event) in
      let w = state_of (old ++ h.others) in
      ap (λ (x : State). (x.cells j).told.ops u) n.now
      ∙ (ap (λ (c : CellState). c.told.ops u) (put_same w.cells j (cell_after who (w.cells j) (Answers u a)))
      ∙ (ap (λ (o : Option Running). (answered_by (w.cells j).told u a o).ops u) n.allowed.1.is_open ∙ put_same (w.cells j).told.ops u None))

  one_turn : (call : FabricCall) (answer : FabricAnswer) (new : List Event) (P : FabricCall → FabricAnswer → Type 0) → (h : IsTurn law who old call answer new) → h.own ≡ record { who = who; call = call; answer = answer } ∷ [] → P call answer → OneTurn who old P new
  one_turn call answer new P h own is = record {
    others = h.others;
    apart = h.apart;
    call = call;
    answer = answer;
    is = is;
    seen = h.seen ∙ ap (λ es. (old ++ h.others) ++ es) own;
  }

  -- a turn that names no ticket
  free_others : (call : FabricCall) (answer : FabricAnswer) (new : List Event) (d : Chain) (g g' : Going) → IsTurn law who old call answer new → ((i t : ℕ) → Leaves i t call) → (last_segment k.chain).id ≤ (last_segment d).id → ((i t : ℕ) → HasTicket g'.step i t → HasTicket g.step i t) → LeavesOthers law.may who old k.chain g new d g'
  free_others call answer new d g g' h leaves up less = λ early other x apart.
      (turn_going law who old call answer new h early k.chain d other up (λ i t _. leaves i t) x, λ i t mine theirs. apart i t (less i t mine) theirs)

  -- .. that carries the append's own
  carry_others : (j u word : ℕ) (answer : FabricAnswer) (new : List Event) (g g' : Going) → IsTurn law who old (Carry j u word) answer new → HasTicket g.step j u → ((i t : ℕ) → HasTicket g'.step i t → HasTicket g.step i t) → LeavesOthers law.may who old k.chain g new k.chain g'
  carry_others j u word answer new g g' h has less = λ early other x apart.
      (turn_going law who old (Carry j u word) answer new h early k.chain k.chain other (omega arith) (λ i t theirs. named g other j u has apart i t theirs) x, λ i t mine theirs. apart i t (less i t mine) theirs)

  forget_others : (j u : ℕ) (answer : FabricAnswer) (new : List Event) (g g' : Going) → IsTurn law who old (Forget j u) answer new → HasTicket g.step j u → ((i t : ℕ) → HasTicket g'.step i t → HasTicket g.step i t) → LeavesOthers law.may who old k.chain g new k.chain g'
  forget_others j u answer new g g' h has less = λ early other x apart.
      (turn_going law who old (Forget j u) answer new h early k.chain k.chain other (omega arith) (λ i t theirs. named g other j u has apart i t theirs) x, λ i t mine theirs. apart i t (less i t mine) theirs)

  -- .. that begins an operation, whose ticket is new
  pub begin_others : (id t : ℕ) (op : Op) (new : List Event) → IsTurn law who old (Begin id op) (fabric.Begun t) new → (early : List Event) (other : Going) → IsGoing law.may who early old k.chain other
      → IsGoing law.may who early new k.chain other × ((i u : ℕ) → (id ≡ i) × (t ≡ u) → HasTicket other.step i u → ⊥)
  begin_others id t op new h early other x =
      let n = took law old h.others _ new h.legal (h.seen ∙ ap (λ es. (old ++ h.others) ++ es) h.event) in (
        turn_going law who old (Begin id op) (fabric.Begun t) new h early k.chain k.chain other (omega arith) (λ i u _. tt) x,
        λ i u mine theirs.
            let low = ticket_begun (length law.shelf) who (early ++ x.first.others) old other.entry other.step i u (sound law old legal) x.at theirs in
            absurd (omega (arith, low, ap (λ j. ((state_of old).cells j).told.begun) mine.0, mine.1, (n.before.cell id).begun, n.allowed.2)),
      )

  -- Want of memory, and faults

  pub no_turn : (g : Going) → Went law who old k g old k g (Err fault.Memory)
  no_turn g = record {
    later = later_refl law old legal;
    goes_by = goes;
    unsealed = seals_refl who old;
    entry = refl;
    left = λ i u x. inl x;
    others = λ early other x apart. (x, apart);
    outcome = (refl, calm_refl who old, λ early x. x);
  }

  pub no_memory : (call : FabricCall) (new : List Event) (g : Going) → IsTurn law who old call fabric.Memory new → is_seal call ≡ false → ((i t : ℕ) → Leaves i t call) → Went law who old k g new k g (Err fault.Memory)
  no_memory call new g h other leaves =
      made call fabric.Memory new k g g (Err fault.Memory) h other (still_goes call fabric.Memory new h) refl (λ i u x. inl x)
      (free_others call fabric.Memory new k.chain g g h leaves (omega arith) (λ i t x. x))
      (refl, turn_calm law who old call fabric.Memory new h tt, λ early x. turn_going law who old call fabric.Memory new h early k.chain k.chain g (omega arith) (λ i t _. leaves i t) x)

  pub failed : (call : FabricCall) (answer : FabricAnswer) (new : List Event) (g : Going) (f : Fault) → IsTurn law who old call answer new → is_seal call ≡ false → ((i t : ℕ) → Leaves i t call) → Outcome law.may who old k g new k g (Err f) → Went law who old k g new k g (Err f)
  failed call answer new g f h other leaves outcome =
      made call answer new k g g (Err f) h other (still_goes call answer new h) refl (λ i u x. inl x) (free_others call answer new k.chain g g h leaves (omega arith) (λ i t x. x)) outcome

  pub lacked : (j u word n : ℕ) (new : List Event) (g : Going) (r : Running) → IsTurn law who old (Carry j u word) (fabric.Done (answers.NoQuorum n)) new → IsOwn ((state_of old).cells j) who u r → HasTicket g.step j u → Went law who old k g new k g (Err (fault.NoQuorum j n))
  lacked j u word n new g r h own has =
      made (Carry j u word) (fabric.Done (answers.NoQuorum n)) new k g g (Err (fault.NoQuorum j n)) h refl (still_goes _ _ new h) refl (λ i u x. inl x)
      (carry_others j u word _ new g g h has (λ i t x. x))
      (refl, lack_cause who j u n old new (done_ok law who old new j u word r (answers.NoQuorum n) legal h own).event)

  -- The append is begun

  began_at : (s : Segment) (t : ℕ) (x e : Entry) (new front : List Event) → s ≡ last_segment k.chain → x ≡ e → IsLegal law new → (o : Opened who old s.id (Append x) t new) → (more : List Event) → old ++ o.first.others ≡ front ++ more → IsAt who front new e (Appending s t)
  began_at s t x e new front is same now o more since =
      let begin = old ++ o.first.others in
      let begin_legal = legal_front law begin (o.first.event ∷ o.first.rest) (subst (IsLegal law) o.first.seen now) in
      record {
        begin = begin;
        since = (more, since);
        rest = (o.first.event ∷ o.first.rest, o.first.seen);
        last = record { version = k.version; chain = k.chain; given = (goes_on law old o.first.others begin_legal).given k.version k.chain goes.given; last_is = is };
        own = subst (λ (y : Entry). IsOwn ((state_of new).cells s.id) who t (started ((state_of begin).cells s.id).told (Append y))) same o.own;
      }

  began_known : (s : Segment) → s ≡ last_segment k.chain → s.id ≤ (last_segment k.chain).id
  began_known s is = omega (arith, ap (λ (y : Segment). y.id) is)

  began_moves : (s : Segment) (t : ℕ) (x e : Entry) (new : List Event) → s ≡ last_segment k.chain → x ≡ e → IsTurn law who old (Begin s.id (Append x)) (fabric.Begun t) new → OneTurn who old (Moves e k.version k.chain Starting k.version k.chain (Appending s t)) new
  began_moves s t x e new is same h =
      one_turn (Begin s.id (Append x)) (fabric.Begun t) new (Moves e k.version k.chain Starting k.version k.chain (Appending s t)) h h.event
      (ap (λ (y : Segment). y.id) is, ap (λ (y : Entry). Append y) same, ap (λ (y : Segment). Appending y t) is, refl, refl)

  pub began : (s : Segment) (t : ℕ) (x e : Entry) (new : List Event) → s ≡ last_segment k.chain → x ≡ e → IsTurn law who old (Begin s.id (Append x)) (fabric.Begun t) new → Went law who old k (at_step e Starting) new k (at_step e (Appending s t)) (Ok None)
  began s t x e new is same h =
      let o = begin_ok law who old new s.id (Append x) t h in
      made (Begin s.id (Append x)) (fabric.Begun t) new k (at_step e Starting) (at_step e (Appending s t)) (Ok None) h refl (still_goes _ _ new h) refl (λ i u x. absurd x)
      (λ early other y apart. begin_others s.id t (Append x) new h early other y) (
        refl,
        turn_calm law who old _ _ new h tt,
        began_moves s t x e new is same h,
        λ early y.
            let tail = y.first.event ∷ y.first.rest in
            record {
              allowed = y.allowed;
              spelled = y.spelled;
              first = first_later who early old new (h.others ++ h.own) (turn_is law who old _ _ new h) y.first;
              at = began_at s t x e new (early ++ y.first.others) is same h.legal o (tail ++ o.first.others)
                  (ap (λ l. l ++ o.first.others) y.first.seen ∙ append_assoc (early ++ y.first.others) tail o.first.others);
              reached = began_known s is;
            },
      )

  -- .. by a call that begins it
  pub starts_going : (s : Segment) (t : ℕ) (x e : Entry) (new : List Event) → s ≡ last_segment k.chain → x ≡ e → law.may who e → IsSpellable e → IsTurn law who old (Begin s.id (Append x)) (fabric.Begun t) new → IsGoing law.may who old new k.chain (at_step e (Appending s t))
  starts_going s t x e new is same allowed spelled h =
      let o = begin_ok law who old new s.id (Append x) t h in
      record {
        allowed = allowed;
        spelled = spelled;
        first = o.first;
        at = began_at s t x e new (old ++ o.first.others) is same h.legal o [] (nil (old ++ o.first.others));
        reached = began_known s is;
      }

  -- The append is carried

  pub append_going : (s : Segment) (t word : ℕ) (e : Entry) (new : List Event) → IsTurn law who old (Carry s.id t word) fabric.Going new → Went law who old k (at_step e (Appending s t)) new k (at_step e (Appending s t)) (Ok None)
  append_going s t word e new h =
      let g = at_step e (Appending s t) in
      let more = h.others ++ h.own in
      made (Carry s.id t word) fabric.Going new k g g (Ok None) h refl (still_goes _ _ new h) refl (λ i u x. inl x)
      (carry_others s.id t word _ new g g h (refl, refl) (λ i u x. x)) (
        refl,
        turn_calm law who old _ _ new h tt,
        one_turn (Carry s.id t word) fabric.Going new (Moves e k.version k.chain (Appending s t) k.version k.chain (Appending s t)) h h.event (refl, refl, refl, refl, refl),
        λ early x. record {
          allowed = x.allowed;
          spelled = x.spelled;
          first = first_later who early old new more (turn_is law who old _ _ new h) x.first;
          at = record {
            begin = x.at.begin;
            since = x.at.since;
            rest = (x.at.rest.0 ++ more, turn_is law who old _ _ new h ∙ (ap (λ l. l ++ more) x.at.rest.1 ∙ append_assoc x.at.begin x.at.rest.0 more));
            last = x.at.last;
            own = (going_ok law who old new s.id t word _ legal h x.at.own).0;
          };
          reached = x.reached;
        },
      )

  pub append_sealed : (s : Segment) (t word : ℕ) (e : Entry) (new : List Event) → IsTurn law who old (Carry s.id t word) (fabric.Done answers.Sealed) new → Went law who old k (at_step e (Appending s t)) new k (at_step e (Reading s)) (Ok None)
  append_sealed s t word e new h =
      let g = at_step e (Appending s t) in
      made (Carry s.id t word) (fabric.Done answers.Sealed) new k g (at_step e (Reading s)) (Ok None) h refl (still_goes _ _ new h) refl (λ i u x. inr (subst (λ j. ((state_of new).cells j).told.ops u ≡ None) x.0 (subst (λ n. ((state_of new).cells s.id).told.ops n ≡ None) x.1 (answered_closed s.id t word answers.Sealed new h))))
      (carry_others s.id t word _ new g (at_step e (Reading s)) h (refl, refl) (λ i u x. absurd x)) (
        refl,
        turn_calm law who old _ _ new h tt,
        one_turn (Carry s.id t word) (fabric.Done answers.Sealed) new (Moves e k.version k.chain (Appending s t) k.version k.chain (Reading s)) h h.event (refl, refl, refl, refl, refl),
        λ early x. record {
          allowed = x.allowed;
          spelled = x.spelled;
          first = first_later who early old new (h.others ++ h.own) (turn_is law who old _ _ new h) x.first;
          at = record {
            last = turn_last law who old _ _ new h s (appending_last law who (early ++ x.first.others) old e s t legal x.at);
            sealed = sealed_ok law who old new s.id t _ (done_ok law who old new s.id t word _ answers.Sealed legal h x.at.own);
          };
          reached = x.reached;
        },
      )

  -- what its place brings
  pub record Placing (early new : List Event) (s : Segment) (e : Entry) (pos : ℕ) : Type 0 where
    pub stands : Stands (state_of new) pos e
    pub held : Holds new pos e
    pub above : IsAbove who early pos new
    pub goes_by : GoesBy (state_of new) k.version k.chain (pos + 1)
    pub fits : pos + 1 < 2 ^ 64

  pub placing : (s : Segment) (t word p : ℕ) (e : Entry) (early new : List Event) → IsTurn law who old (Carry s.id t word) (fabric.Done (answers.Placed p)) new → IsGoing law.may who early old k.chain (at_step e (Appending s t)) → Placing early new s e (s.start + p)
  placing s t word p e early new h x =
      let begin = x.at.begin in
      let i = s.id in
      let pos = s.start + p in
      let begin_legal = legal_front law begin x.at.rest.0 (subst (IsLegal law) x.at.rest.1 legal) in
      let begin_ok = sound law begin begin_legal in
      let begin_cell = begin_ok.cell i in
      let r = started ((state_of begin).cells i).told (Append e) in
      let done = done_ok law who old new i t word r (answers.Placed p) legal h x.at.own in
      let tail = unsealed_last (length law.shelf) (state_of begin) i s.start begin_ok (last_starts law begin s begin_legal x.at.last) done.may.1.unsealed in
      let placed = (((sound law old legal).cell i).ops t r x.at.own.is_open).place e refl in
      let to_new = goes_on law old (h.others ++ h.own) (subst (IsLegal law) (turn_is law who old _ _ new h) h.legal) in
      let on : Continues (state_of old) (state_of new) = subst (λ es. Continues (state_of old) (state_of es)) (sym (turn_is law who old _ _ new h)) to_new in
      let more = (on.cell i).longer in
      let there : slice_get (entries (state_of new).cells i) p ≡ Some e =
      subst (λ l. slice_get l p ≡ Some e) (sym more.1) (slice_get_front (entries (state_of old).cells i) more.0 p e (subst (λ n. slice_get (entries (state_of old).cells i) n ≡ Some e) (sym done.may.0) placed)) in
      let reach_is : ((state_of new).cells i).told.reach ≡ _ = ap (λ (y : Told). y.reach) done.told in
      let new_ok = sound law new h.legal in
      let new_cell = new_ok.cell i in
      let last = turn_last law who old _ _ new h s (appending_last law who (early ++ x.first.others) old e s t legal x.at) in
      let at_new = last_starts law new s h.legal last in
      let low : pos + 1 ≤ s.start + ((state_of new).cells i).told.reach = omega (arith, reach_is) in
      let front = early ++ x.first.others in
      let from = subst (λ es. Continues (state_of front) (state_of es)) (sym x.at.since.1) (goes_on law front x.at.since.0 (subst (IsLegal law) x.at.since.1 begin_legal)) in
      let at : pos - s.start ≡ p = omega arith in
      let far : pos + 1 ≤ (last_segment last.chain).start + ((state_of new).cells (last_segment last.chain).id).told.reach = subst (λ (y : Segment). pos + 1 ≤ y.start + ((state_of new).cells y.id).told.reach) last.last_is low in
      let up : (last_segment last.chain).id ≤ (last_segment k.chain).id = subst (λ (y : Segment). y.id ≤ (last_segment k.chain).id) last.last_is x.reached in
      record {
        stands = reached_stands (length law.shelf) (state_of new) i s.start p e new_ok at_new (omega (arith, reach_is)) there;
        held = placed_held law new last.version 0 pos last.chain s e h.legal (record { given = last.given; reached = omega arith }) last.last_is (omega arith) low (ap (slice_get (entries (state_of new).cells i)) at ∙ there);
        above = record {
          first = first_later who early old new (h.others ++ h.own) (turn_is law who old _ _ new h) x.first;
          clears = clears_on (state_of front) (state_of begin) pos from
              (last_clears (length law.shelf) (state_of begin) pos begin_ok (omega (arith, tail, done.may.0, begin_cell.size, begin_cell.reach, begin_cell.firm)));
        };
        goes_by = goes_onto law last.version (pos + 1) k.version last.chain k.chain new new h.legal (later_refl law new h.legal)
            (record { given = last.given; reached = far }) (still_goes _ _ new h).given up;
        fits = omega (arith, new_ok.rooms i s.start at_new, new_ok.ids i s.start at_new, new_ok.shelf, legal.most, new_cell.reach, new_cell.firm, new_cell.room, reach_is, low);
      }

  pub append_placed : (s : Segment) (t word p n : ℕ) (e : Entry) (early new : List Event) → IsTurn law who old (Carry s.id t word) (fabric.Done (answers.Placed p)) new → IsGoing law.may who early old k.chain (at_step e (Appending s t)) → n ≡ max k.tail (s.start + p + 1)
      → Went law who old k (at_step e (Appending s t)) new (record { version = k.version; chain = k.chain; tail = n }) (at_step e (Appending s t)) (Ok (Some (s.start + p)))
  append_placed s t word p n e early new h x max_is =
      let g = at_step e (Appending s t) in
      let z = placing s t word p e early new h x in
      let still = still_goes _ _ new h in
      made (Carry s.id t word) (fabric.Done (answers.Placed p)) new (record { version = k.version; chain = k.chain; tail = n }) g g (Ok (Some (s.start + p))) h refl
      (record { given = still.given; reached = omega (arith, still.reached, z.goes_by.reached, max_is) }) refl (λ i u x. inl x)
      (carry_others s.id t word _ new g g h (refl, refl) (λ i u y. y)) (
        max_is,
        turn_calm law who old _ _ new h tt,
        one_turn (Carry s.id t word) (fabric.Done (answers.Placed p)) new (Places (Appending s t) (s.start + p)) h h.event (refl, refl, refl),
        z.stands,
        z.held,
        λ from y. (placing s t word p e from new h y).above,
      )

  -- A carry without memory

  pub gave_up : (j u word : ℕ) (mid new : List Event) (g : Going) (answer : FabricAnswer) (step : Step) → IsTurn law who old (Carry j u word) fabric.Memory mid → IsDropping who old j u → HasTicket g.step j u → IsTurn law who mid (Forget j u) answer new → Forgets j u answer step
      → Went law who old k g new k (at_step g.entry step) (Err fault.Memory)
  gave_up j u word mid new g answer step h drop has h' f =
      let first = turn_later law who old _ _ mid h in
      let second = turn_later law who mid _ _ new h' in
      let later = later_trans law old mid new first second in
      record {
        later = later;
        goes_by = goes_later law old new k.version k.tail k.chain later goes;
        unsealed = seals_trans who old mid new (turn_none law who old _ _ mid h refl) (turn_none law who mid _ _ new h' refl);
        entry = refl;
        left = λ i t mine. forgot_all g.step step j u i t new has mine (forgot_left law who mid h.legal j u answer step new h' f);
        others = λ early other x apart.
            let y = turn_going law who old _ _ mid h early k.chain k.chain other (omega arith) (λ i t theirs. named g other j u has apart i t theirs) x in (
              turn_going law who mid _ _ new h' early k.chain k.chain other (omega arith) (λ i t theirs. named g other j u has apart i t theirs) y,
              λ i t mine theirs. apart i t (forgets_less j u answer g.step step f has i t mine) theirs,
            );
        outcome = (
          refl,
          calm_then who who old mid new refl (turn_calm law who old _ _ mid h tt) (turn_calm law who mid _ _ new h' (forgets_calm j u answer step f)),
          λ early x. record {
            allowed = x.allowed;
            spelled = x.spelled;
            first = first_later who early mid new second.more second.seen (first_later who early old mid first.more first.seen x.first);
            at = forgets_at who j u (early ++ x.first.others) new g.entry answer step f (turn_dropping law who mid _ _ new h' j u (turn_dropping law who old _ _ mid h j u drop));
            reached = forgets_known (last_segment k.chain).id j u answer step f;
          },
        );
      }

  -- The ticket that want of memory left

  pub undropped : (j u : ℕ) (e : Entry) (answer : FabricAnswer) (step : Step) (new : List Event) → IsTurn law who old (Forget j u) answer new → Forgets j u answer step → Went law who old k (at_step e (Dropping j u)) new k (at_step e (Dropping j u)) (Err fault.Memory)
  undropped j u e answer step new h f =
      let g = at_step e (Dropping j u) in
      made (Forget j u) answer new k g g (Err fault.Memory) h refl (still_goes _ _ new h) refl (λ i u x. inl x)
      (forget_others j u answer new g g h (refl, refl) (λ i t x. x)) (
        refl,
        turn_calm law who old _ _ new h (forgets_calm j u answer step f),
        λ early x. record {
          allowed = x.allowed;
          spelled = x.spelled;
          first = first_later who early old new (h.others ++ h.own) (turn_is law who old _ _ new h) x.first;
          at = turn_dropping law who old _ _ new h j u x.at;
          reached = tt;
        },
      )

  forgot_turn : (j u : ℕ) (answer : FabricAnswer) (mid : List Event) → IsTurn law who old (Forget j u) answer mid → Forgets j u answer Starting → OneTurn who old (ClosesTicket j u) mid
  forgot_turn j u fabric.Gone mid h f = one_turn (Forget j u) fabric.Gone mid (ClosesTicket j u) h h.event (refl, refl)
  forgot_turn j u fabric.NoTicket mid h f = one_turn (Forget j u) fabric.NoTicket mid (ClosesTicket j u) h h.event (refl, refl)
  forgot_turn j u fabric.Memory mid h f = absurd (cc)
  forgot_turn j u answer mid h f = absurd f

  dropped_going : (j u : ℕ) (e : Entry) (answer : FabricAnswer) (mid : List Event) → IsTurn law who old (Forget j u) answer mid → StaysGoing law.may who old k.chain (at_step e (Dropping j u)) mid k.chain (at_step e Starting)
  dropped_going j u e answer mid h = λ early x. record {
    allowed = x.allowed;
    spelled = x.spelled;
    first = first_later who early old mid (h.others ++ h.own) (turn_is law who old _ _ mid h) x.first;
    at = tt;
    reached = tt;
  }

  dropped_outcome : (j u : ℕ) (e : Entry) (answer : FabricAnswer) (mid new : List Event) (k' : Known) (g' : Going) (r : Result (Option ℕ) Fault) → IsTurn law who old (Forget j u) answer mid → Forgets j u answer Starting → Outcome law.may who mid k (at_step e Starting) new k' g' r → Outcome law.may who old k (at_step e (Dropping j u)) new k' g' r
  dropped_outcome j u e answer mid new k' g' (Ok None) h f o = (
    o.0,
    calm_then who who old mid new refl (turn_calm law who old _ _ mid h (forgets_calm j u answer Starting f)) o.1,
    (mid, forgot_turn j u answer mid h f, o.2),
    λ early x. o.3 early (dropped_going j u e answer mid h early x),
  )
  dropped_outcome j u e answer mid new k' g' (Ok (Some pos)) h f o = absurd o.2.is
  dropped_outcome j u e answer mid new k' g' (Err fault.Memory) h f o = (
    o.0,
    calm_then who who old mid new refl (turn_calm law who old _ _ mid h (forgets_calm j u answer Starting f)) o.1,
    λ early x. o.2 early (dropped_going j u e answer mid h early x),
  )
  dropped_outcome j u e answer mid new k' g' (Err (fault.NoQuorum i n)) h f o = (o.0, cause_since who (fault.NoQuorum i n) old mid new (h.others ++ h.own) (turn_is law who old _ _ mid h) o.1)
  dropped_outcome j u e answer mid new k' g' (Err (fault.Full i)) h f o = (o.0, cause_since who (fault.Full i) old mid new (h.others ++ h.own) (turn_is law who old _ _ mid h) o.1)
  dropped_outcome j u e answer mid new k' g' (Err fault.Meta) h f o = (o.0, cause_since who fault.Meta old mid new (h.others ++ h.own) (turn_is law who old _ _ mid h) o.1)

  pub dropped : (j u : ℕ) (e : Entry) (answer : FabricAnswer) (mid new : List Event) (k' : Known) (g' : Going) (r : Result (Option ℕ) Fault) → IsTurn law who old (Forget j u) answer mid → Forgets j u answer Starting → IsDropping who old j u → Went law who mid k (at_step e Starting) new k' g' r → Went law who old k (at_step e (Dropping j u)) new k' g' r
  dropped j u e answer mid new k' g' r h f drop w =
      let g = at_step e (Dropping j u) in
      record {
        later = later_trans law old mid new (turn_later law who old _ _ mid h) w.later;
        goes_by = w.goes_by;
        unsealed = seals_trans who old mid new (turn_none law who old _ _ mid h refl) w.unsealed;
        entry = w.entry;
        left = λ i t mine.
            let low = (turn_dropping law who old _ _ mid h j u drop).begun in
            let closed : ((state_of new).cells j).told.ops u ≡ None = ⊎_elim
            (λ (x : HasTicket Starting j u). absurd x)
            (λ (x : ((state_of mid).cells j).told.ops u ≡ None). closed_later law mid new j u w.later low x)
            (forgot_left law who old legal j u answer Starting mid h f) in
            forgot_all (Dropping j u) g'.step j u i t new (refl, refl) mine (inr closed);
        others = λ early other x apart.
            w.others early other (turn_going law who old _ _ mid h early k.chain k.chain other (omega arith) (λ i t theirs. named g other j u (refl, refl) apart i t theirs) x) (λ i t mine theirs. mine);
        outcome = dropped_outcome j u e answer mid new k' g' r h f w.outcome;
      }

  -- what it begins by
  pub dropped_starts : (j u : ℕ) (e : Entry) (early : List Event) (answer : FabricAnswer) (mid : List Event) → IsTurn law who old (Forget j u) answer mid → IsGoing law.may who early old k.chain (at_step e (Dropping j u)) → IsGoing law.may who early mid k.chain (at_step e Starting)
  dropped_starts j u e early answer mid h x = dropped_going j u e answer mid h early x

  -- The replacement

  looked_up : (v : ℕ) (c : Chain) (new : List Event) → IsTurn law who old ReadChain (fabric.At v c) new → (last_segment k.chain).id ≤ (last_segment c).id
  looked_up v c new h =
      let l = look_ok law who old new v c h in
      let still = still_goes _ _ new h in
      omega (arith, ((sound law new h.legal).olds k.version k.chain still.given).last, ap (λ (x : Chain). (last_of_segments x.segments).id) l.chain_is)

  pub looked : (s : Segment) (v : ℕ) (c : Chain) (e : Entry) (new : List Event) → IsTurn law who old ReadChain (fabric.At v c) new → Went law who old k (at_step e (Reading s)) new (record { version = v; chain = c; tail = k.tail }) (at_step e (Asking s)) (Ok None)
  looked s v c e new h =
      let g = at_step e (Reading s) in
      let up = looked_up v c new h in
      made ReadChain (fabric.At v c) new (record { version = v; chain = c; tail = k.tail }) g (at_step e (Asking s)) (Ok None) h refl
      (goes_now law who k.version k.tail v k.chain c old new legal (turn_later law who old _ _ new h) goes (look_ok law who old new v c h)) refl (λ i u x. absurd x)
      (free_others ReadChain _ new c g (at_step e (Asking s)) h (λ i t. tt) up (λ i t x. x)) (
        refl,
        turn_calm law who old _ _ new h tt,
        one_turn ReadChain (fabric.At v c) new (Moves e k.version k.chain (Reading s) v c (Asking s)) h h.event (refl, refl, refl),
        λ early x.
            let y = turn_going law who old _ _ new h early k.chain c g up (λ i t _. tt) x in
            record { allowed = y.allowed; spelled = y.spelled; first = y.first; at = y.at; reached = y.reached },
      )

  pub asked : (s : Segment) (t : ℕ) (e : Entry) (new : List Event) → IsTurn law who old (Begin s.id Tail) (fabric.Begun t) new → Went law who old k (at_step e (Asking s)) new k (at_step e (Finding s t)) (Ok None)
  asked s t e new h =
      let o = begin_ok law who old new s.id Tail t h in
      let begin_legal = legal_front law (old ++ o.first.others) (o.first.event ∷ o.first.rest) (subst (IsLegal law) o.first.seen h.legal) in
      made (Begin s.id Tail) (fabric.Begun t) new k (at_step e (Asking s)) (at_step e (Finding s t)) (Ok None) h refl (still_goes _ _ new h) refl (λ i u x. absurd x)
      (λ early other y apart. begin_others s.id t Tail new h early other y) (
        refl,
        turn_calm law who old _ _ new h tt,
        one_turn (Begin s.id Tail) (fabric.Begun t) new (Moves e k.version k.chain (Asking s) k.version k.chain (Finding s t)) h h.event (refl, refl, refl, refl, refl),
        λ early x. record {
          allowed = x.allowed;
          spelled = x.spelled;
          first = first_later who early old new (h.others ++ h.own) (turn_is law who old _ _ new h) x.first;
          at = record {
            shut = turn_shut law who old _ _ new h s x.at;
            running = started ((state_of (old ++ o.first.others)).cells s.id).told Tail;
            own = o.own;
            asks = refl;
            late = ((goes_on law old o.first.others begin_legal).cell s.id).sealed x.at.sealed;
          };
          reached = x.reached;
        },
      )

  pub find_going : (s : Segment) (t word : ℕ) (e : Entry) (new : List Event) → IsTurn law who old (Carry s.id t word) fabric.Going new → Went law who old k (at_step e (Finding s t)) new k (at_step e (Finding s t)) (Ok None)
  find_going s t word e new h =
      let g = at_step e (Finding s t) in
      made (Carry s.id t word) fabric.Going new k g g (Ok None) h refl (still_goes _ _ new h) refl (λ i u x. inl x)
      (carry_others s.id t word _ new g g h (refl, refl) (λ i u x. x)) (
        refl,
        turn_calm law who old _ _ new h tt,
        one_turn (Carry s.id t word) fabric.Going new (Moves e k.version k.chain (Finding s t) k.version k.chain (Finding s t)) h h.event (refl, refl, refl, refl, refl),
        λ early x. record {
          allowed = x.allowed;
          spelled = x.spelled;
          first = first_later who early old new (h.others ++ h.own) (turn_is law who old _ _ new h) x.first;
          at = record {
            shut = turn_shut law who old _ _ new h s x.at.shut;
            running = x.at.running;
            own = (going_ok law who old new s.id t word x.at.running legal h x.at.own).0;
            asks = x.at.asks;
            late = x.at.late;
          };
          reached = x.reached;
        },
      )

  pub find_ended : (s : Segment) (t word n : ℕ) (e : Entry) (new : List Event) → IsTurn law who old (Carry s.id t word) (fabric.Done (answers.SealedTail n)) new → Went law who old k (at_step e (Finding s t)) new k (at_step e (Closing s n)) (Ok None)
  find_ended s t word n e new h =
      let g = at_step e (Finding s t) in
      made (Carry s.id t word) (fabric.Done (answers.SealedTail n)) new k g (at_step e (Closing s n)) (Ok None) h refl (still_goes _ _ new h) refl (λ i u x. inr (subst (λ j. ((state_of new).cells j).told.ops u ≡ None) x.0 (subst (λ m. ((state_of new).cells s.id).told.ops m ≡ None) x.1 (answered_closed s.id t word (answers.SealedTail n) new h))))
      (carry_others s.id t word _ new g (at_step e (Closing s n)) h (refl, refl) (λ i u x. absurd x)) (
        refl,
        turn_calm law who old _ _ new h tt,
        one_turn (Carry s.id t word) (fabric.Done (answers.SealedTail n)) new (Moves e k.version k.chain (Finding s t) k.version k.chain (Closing s n)) h h.event (refl, refl, refl, refl, refl),
        λ early x. record {
          allowed = x.allowed;
          spelled = x.spelled;
          first = first_later who early old new (h.others ++ h.own) (turn_is law who old _ _ new h) x.first;
          at = (turn_shut law who old _ _ new h s x.at.shut, end_ok law who old new s.id t n x.at.running (done_ok law who old new s.id t word x.at.running (answers.SealedTail n) legal h x.at.own));
          reached = x.reached;
        },
      )

  -- no other answer comes
  pub find_answers : (s : Segment) (t word : ℕ) (e : Entry) (a : Answer) (early new : List Event) → IsTurn law who old (Carry s.id t word) (fabric.Done a) new → IsGoing law.may who early old k.chain (at_step e (Finding s t)) → ((n : ℕ) → a ≢ answers.SealedTail n) → ((u : ℕ) → a ≢ answers.NoQuorum u) → ⊥
  find_answers s t word e a early new h x ends lack =
      let done = done_ok law who old new s.id t word x.at.running a legal h x.at.own in
      late_tail ((state_of done.moment).cells s.id).told x.at.running a x.at.late (subst (λ (op : Op). MayAnswer ((state_of done.moment).cells s.id).told x.at.running op a) x.at.asks done.may) ends lack

  pub wrote : (s : Segment) (n m : ℕ) (d : Chain) (e : Entry) (new : List Event) → d ≡ extended k.chain n → IsTurn law who old (WriteChain k.version d) (fabric.Written m) new → Went law who old k (at_step e (Closing s n)) new k (at_step e (Reading s)) (Ok None)
  wrote s n m d e new is h =
      let g = at_step e (Closing s n) in
      made (WriteChain k.version d) (fabric.Written m) new k g (at_step e (Reading s)) (Ok None) h refl (still_goes _ _ new h) refl (λ i u x. absurd x)
      (free_others (WriteChain k.version d) _ new k.chain g (at_step e (Reading s)) h (λ i t. tt) (omega arith) (λ i t x. x)) (
        refl,
        turn_calm law who old _ _ new h tt,
        one_turn (WriteChain k.version d) (fabric.Written m) new (Moves e k.version k.chain (Closing s n) k.version k.chain (Reading s)) h h.event (refl, is, refl, refl, refl),
        λ early x.
            let y = turn_going law who old _ _ new h early k.chain k.chain g (omega arith) (λ i t _. tt) x in
            record { allowed = y.allowed; spelled = y.spelled; first = y.first; at = y.at.0; reached = y.reached },
      )

  pub lost : (s : Segment) (n m : ℕ) (d c : Chain) (e : Entry) (new : List Event) → d ≡ extended k.chain n → IsTurn law who old (WriteChain k.version d) (fabric.Conflict m c) new
      → Went law who old k (at_step e (Closing s n)) new (record { version = m; chain = c; tail = k.tail }) (at_step e (Closing s n)) (Ok None)
  lost s n m d c e new is h =
      let g = at_step e (Closing s n) in
      let x = lost_ok law who old k.version k.chain d goes.given m c new h in
      let up = x.last in
      made (WriteChain k.version d) (fabric.Conflict m c) new (record { version = m; chain = c; tail = k.tail }) g g (Ok None) h refl
      (goes_onto law k.version k.tail m k.chain c old new legal (turn_later law who old _ _ new h) goes x.given up) refl (λ i u x. absurd x)
      (free_others (WriteChain k.version d) _ new c g g h (λ i t. tt) up (λ i t x. x)) (
        refl,
        turn_calm law who old _ _ new h tt,
        one_turn (WriteChain k.version d) (fabric.Conflict m c) new (Moves e k.version k.chain (Closing s n) m c (Closing s n)) h h.event (refl, is, refl, refl, refl),
        λ early x. turn_going law who old _ _ new h early k.chain c g up (λ i t _. tt) x,
      )

-- What a turn comes to, by the step that was due

abbrev pub due_of : Known → Going → Going
due_of k g = at_step g.entry (due (last_segment k.chain).id g.step)

module _ (may : ℕ → Entry → Type 0) (who : ℕ) (old : List Event) (k : Known) (g : Going) (new : List Event) (k' : Known) (g' : Going) where
  pub outcome_above : (r : Result (Option ℕ) Fault) → Outcome may who old k (due_of k g) new k' g' r → IfOk r (λ o. IfSome o (λ pos. (early : List Event) → IsGoing may who early old k.chain g → IsAbove who early pos new))
  outcome_above (Ok None) o = tt
  outcome_above (Ok (Some pos)) o = λ early x. o.5 early (due_going may who early old k.chain g x)
  outcome_above (Err f) o = tt

  pub outcome_going : (r : Result (Option ℕ) Fault) → Outcome may who old k (due_of k g) new k' g' r → IfOk r (λ o. IfNone o (StaysGoing may who old k.chain g new k'.chain g'))
  outcome_going (Ok None) o = λ early x. o.3 early (due_going may who early old k.chain g x)
  outcome_going (Ok (Some pos)) o = tt
  outcome_going (Err f) o = tt

  pub outcome_again : (r : Result (Option ℕ) Fault) → Outcome may who old k (due_of k g) new k' g' r → IfErr r (λ f. f ≡ fault.Memory → StaysGoing may who old k.chain g new k'.chain g')
  outcome_again (Ok o) h = tt
  outcome_again (Err fault.Memory) o = λ _ early x. o.2 early (due_going may who early old k.chain g x)
  outcome_again (Err (fault.NoQuorum id n)) o = λ is. absurd (cc)
  outcome_again (Err (fault.Full id)) o = λ is. absurd (cc)
  outcome_again (Err fault.Meta) o = λ is. absurd (cc)

  pub due_left : LeavesNone (due_of k g).step new g'.step → LeavesNone g.step new g'.step
  due_left h = λ i t mine. h i t (due_keeps (last_segment k.chain).id g.step i t mine)

  pub due_others : LeavesOthers may who old k.chain (due_of k g) new k'.chain g' → LeavesOthers may who old k.chain g new k'.chain g'
  due_others h = λ early other x apart. h early other x (λ i t mine theirs. apart i t (due_ticket (last_segment k.chain).id g.step i t mine) theirs)
