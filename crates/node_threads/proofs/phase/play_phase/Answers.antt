use Rattle.std.proofs.Common.{◌≡◌, ◌++◌, ℕ, List, [], Option, length, append-nil, Result, Ok, Err, sym, ap, ◌∙◌, subst, ⊎_elim}
use Rattle.std.specs.Prelude.{OnOk}
use Rattle.legal_journal.specs.Law.{Law}
use Rattle.legal_journal.specs.declared.events.Event.{Event}
use Rattle.legal_journal.specs.Journal.{IsLegal}
use Rattle.replica_api.specs.Replica.{Meaning}
use Rattle.script_text.specs.declared.asks.NamedLine.{NamedLine}
use Rattle.script_text.specs.declared.faults.FaultLine.{FaultLine}
use Rattle.turn_scopes.specs.Seats.{SeatView}
use Rattle.node_lines.specs.declared.desk.Desk.{Desk}
use Rattle.node_lines.specs.declared.lines.Looked.{Looked}
use Rattle.node_crew.specs.Crews.{CrewRests}
use Rattle.node_crew.proofs.Outside.{crew_outside}
use Rattle.node_threads.specs.Outset.{GoesOutside}
use Rattle.node_threads.specs.Passes.{IsRested, journal_of}
use Rattle.node_threads.proofs.Coming.{went_both, went_outside}
use Rattle.node_threads.proofs.Meeting.{rests_stand}
use Rattle.node_threads.proofs.phase.play_phase.Goals as goal

-- all rest on, whatever number 0 made
begun : {W : Type 0} (law : Law) (meaning : Meaning) (lines : List NamedLine) (faults : List FaultLine) (from phase : ℕ) (journal journal' : List Event) (looks : List (Option Looked)) (seat : W → SeatView) (desks : W → List Desk) (ws : List W)
    → CrewRests law meaning lines faults from phase journal looks seat desks ws → GoesOutside law journal journal' → CrewRests law meaning lines faults from phase journal' looks seat desks ws
begun law meaning lines faults from phase journal journal' looks seat desks ws h g = ⊎_elim
    (λ (none : g.more ≡ []). subst (λ j. CrewRests law meaning lines faults from phase j looks seat desks ws) (sym (g.seen ∙ (ap (λ (l : List Event). journal ++ l) none ∙ append-nil journal))) h)
    (λ (legal : IsLegal law journal'). subst (λ j. CrewRests law meaning lines faults from phase j looks seat desks ws) (sym g.seen)
    (crew_outside law meaning lines faults seat desks ws from phase journal g.more looks h g.outside (subst (IsLegal law) g.seen legal)))
    g.legal

-- what comes of an answer
so_on : {A E : Type 0} {P Q : Type 0} (r : Result A E) → OnOk r P → (P → Q) → OnOk r Q
so_on (Ok x) p f = f p
so_on (Err e) p f = tt

pub begin_phase-requires-clause-rested : goal.begin_phase-requires-clause-rested
begin_phase-requires-clause-rested g c = subst (λ l. IsRested l c.args.main.now) (sym c.requires.room) c.requires.rested

pub returns-in_err-begin_phase-clause-rested : goal.returns-in_err-begin_phase-clause-rested
returns-in_err-begin_phase-clause-rested g c = subst (λ l. IsRested l c.begin_phase.new.main) c.requires.room c.begin_phase.ensures.rested

pub returns-in_err-begin_phase-clause-stands : goal.returns-in_err-begin_phase-clause-stands
returns-in_err-begin_phase-clause-stands g c =
    let law = g.P.Rules.law in
    let meaning = g.S.Replica.meaning in
    let lines = c.args.lines.now in
    let faults = c.args.faults.now.lines.now in
    let phase = c.args.faults.now.phase in
    let ws = c.args.workers.now.items in
    let looks = c.args.looks.now.items in
    rests_stand law meaning lines faults phase c.args.from c.args.to (λ w. w.seat) (λ w. w.desks.items) (journal_of c.begin_phase.new.main) ws looks
    (begun law meaning lines faults c.args.from phase (journal_of c.args.main.now) (journal_of c.begin_phase.new.main) looks (λ w. w.seat) (λ w. w.desks.items) ws c.requires.begins.rests c.begin_phase.ensures.goes)

pub returns-in_err-begin_phase-clause-goes_on : goal.returns-in_err-begin_phase-clause-goes_on
returns-in_err-begin_phase-clause-goes_on g c =
    went_outside g.P.Rules.law c.args.lines.now c.args.faults.now.lines.now c.args.faults.now.phase (length c.args.workers.now.items) (journal_of c.args.main.now) (journal_of c.begin_phase.new.main) c.begin_phase.ensures.goes

pub play_nodes-requires-clause-rested : goal.play_nodes-requires-clause-rested
play_nodes-requires-clause-rested g c κs within = subst (λ l. IsRested l c.begin_phase.new.main) c.requires.room c.begin_phase.ensures.rested

pub play_nodes-requires-clause-begins : goal.play_nodes-requires-clause-begins
play_nodes-requires-clause-begins g c κs within =
    let law = g.P.Rules.law in
    let meaning = g.S.Replica.meaning in
    let faults = c.args.faults.now.lines.now in
    let phase = c.args.faults.now.phase in
    record {
      ends = c.requires.begins.ends;
      rests = begun law meaning c.args.lines.now faults c.args.from phase (journal_of c.args.main.now) (journal_of c.begin_phase.new.main) c.args.looks.now.items (λ w. w.seat) (λ w. w.desks.items) c.args.workers.now.items c.requires.begins.rests c.begin_phase.ensures.goes;
    }

pub returns-clause-goes_on : goal.returns-clause-goes_on
returns-clause-goes_on g c =
    let n : ℕ = length c.args.workers.now.items in
    went_both c.args.lines.now c.args.faults.now.lines.now c.args.faults.now.phase n (journal_of c.args.main.now) (journal_of c.begin_phase.new.main) (journal_of c.play_nodes.new.main)
    (went_outside g.P.Rules.law c.args.lines.now c.args.faults.now.lines.now c.args.faults.now.phase n (journal_of c.args.main.now) (journal_of c.begin_phase.new.main) c.begin_phase.ensures.goes) c.play_nodes.ensures.goes_on

pub returns-clause-acts : goal.returns-clause-acts
returns-clause-acts g c = so_on c.play_nodes.result c.play_nodes.ensures.acts (λ beside. record {
  between = journal_of c.begin_phase.new.main;
  begins = c.in_ok-begin_phase.ensures.made;
  beside = beside;
})
