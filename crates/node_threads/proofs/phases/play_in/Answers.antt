use Rattle.std.proofs.Common.{◌≡◌, sym, ◌∙◌, subst, ◌+◌, ℕ, length, arith}
use Rattle.turn_scopes.specs.Floors.{FloorIs}
use Rattle.node_course.specs.FaultLines.{AreFaultLines}
use Rattle.node_crew.specs.Crews.{CrewRests}
use Rattle.node_crew.proofs.Arming.{all_played, phase_played}
use Rattle.node_crew.proofs.Crews.{crew_comes}
use Rattle.node_threads.specs.Passes.{journal_of}
use Rattle.node_threads.proofs.Coming.{acts_more, faults_come, faults_end, goes_further, have_acted, lines_come, names_parts, phase_up}
use Rattle.node_threads.proofs.Meeting.{next_begins}
use Rattle.node_threads.proofs.phases.play_in.Goals as goal

pub play_phase-requires-clause-floor : goal.play_phase-requires-clause-floor
play_phase-requires-clause-floor g c κs within = subst (FloorIs g.P.Rules.law.floor) (sym c.loop-from.invariant.size) c.requires.floor

pub play_phase-requires-clause-parts : goal.play_phase-requires-clause-parts
play_phase-requires-clause-parts g c κs within = names_parts c.args.lines.now c.args.faults.now g.P.Rules.law.shelf (length c.args.workers.now.items) c.requires.faults

pub play_phase-requires-clause-faults : goal.play_phase-requires-clause-faults
play_phase-requires-clause-faults g c κs within = subst (AreFaultLines c.args.lines.now c.args.faults.now g.P.Rules.law.shelf) (sym c.loop-from.invariant.size) c.requires.faults

pub play_phase-requires-clause-phase : goal.play_phase-requires-clause-phase
play_phase-requires-clause-phase g c κs within =
    let lines = c.args.lines.now in
    let faults = c.args.faults.now in
    let shelf = g.P.Rules.law.shelf in
    let nodes : ℕ = length c.args.workers.now.items in
    let l = c.loop-from in
    let i = l.invariant in
    let q = c.next_phase-phase.result in
    let next = c.next_phase-phase.ensures in
    let up = phase_up lines l.from faults l.next i.phase q i.rests.ends i.begins next in
    let begins = faults_come lines faults shelf nodes c.requires.faults l.next i.phase q i.begins up next.fault in
    record {
      range = c.end_of_faults-until.ensures.range;
      begins = begins;
      ends = faults_end lines faults shelf nodes c.requires.faults l.next c.end_of_faults-until.result q begins c.end_of_faults-until.ensures.ends;
    }

pub play_phase-requires-clause-begins : goal.play_phase-requires-clause-begins
play_phase-requires-clause-begins g c κs within =
    let p = g.P.Rules in
    let r = g.S.Replica in
    let lines = c.args.lines.now in
    let faults = c.args.faults.now in
    let l = c.loop-from in
    let i = l.invariant in
    let q = c.next_phase-phase.result in
    let next = c.next_phase-phase.ensures in
    let nodes : ℕ = length l.workers.items in
    let up = phase_up lines l.from faults l.next i.phase q i.rests.ends i.begins next in
    let comes = crew_comes p.law r.meaning lines faults (λ w. w.seat) (λ w. w.desks.items) l.workers.items l.from i.phase q (journal_of l.main) l.looks.items up
    (lines_come lines i.rests.home nodes l.from i.phase q i.rests.lines_are i.rests.ends up next.line) i.rests in
    record {
      ends = next_begins lines comes.home nodes l.from c.end_of_phase-to.result q comes.lines_are comes.ends c.end_of_phase-to.ensures.ends;
      rests = comes;
    }

pub loop-from-smaller : goal.loop-from-smaller
loop-from-smaller g c =
    let l = c.loop-from in
    let to = c.end_of_phase-to in
    let until = c.end_of_faults-until in
    let further = goes_further c.args.lines.now l.from to.result c.args.faults.now l.next until.result c.next_phase-phase.result to.ensures.range.0 until.ensures.range.0 c.next_phase-phase.ensures to.ensures.ends until.ensures.ends in
    omega (arith, further, to.ensures.range.1, until.ensures.range.1)

pub loop-from-preserved : goal.loop-from-preserved
loop-from-preserved g c =
    let lines = c.args.lines.now in
    let faults = c.args.faults.now in
    let shelf = g.P.Rules.law.shelf in
    let nodes : ℕ = length c.args.workers.now.items in
    let l = c.loop-from in
    let i = l.invariant in
    let q = c.next_phase-phase.result in
    let next = c.next_phase-phase.ensures in
    let up = phase_up lines l.from faults l.next i.phase q i.rests.ends i.begins next in
    let begins = faults_come lines faults shelf nodes c.requires.faults l.next i.phase q i.begins up next.fault in
    record {
      high = c.end_of_phase-to.ensures.range.1;
      high_faults = c.end_of_faults-until.ensures.range.1;
      size = c.play_phase.ensures.size ∙ i.size;
      rested = c.play_phase.ensures.rested;
      phase = q + 1;
      rests = c.in_ok-play_phase.ensures.goes;
      stands = c.play_phase.ensures.stands;
      begins = faults_end lines faults shelf nodes c.requires.faults l.next c.end_of_faults-until.result q begins c.end_of_faults-until.ensures.ends;
      acted = acts_more c.args.cells faults l.next i.phase q (journal_of l.main) (journal_of c.play_phase.new.main) up i.begins begins i.acted c.in_ok-play_phase.ensures.acts;
      armed = phase_played (λ w. w.seat.node.replica) faults l.next i.phase q c.args.workers.now.items l.workers.items c.play_phase.new.workers.items up i.begins begins i.armed c.in_ok-play_phase.ensures.armed;
    }

pub returns-clause-played : goal.returns-clause-played
returns-clause-played g c =
    let p = g.P.Rules in
    let r = g.S.Replica in
    let lines = c.args.lines.now in
    let l = c.loop-from in
    let i = l.invariant in
    let over : l.from ≡ length lines = omega (arith, i.high, c.if-from-lines.false) in (
      i.phase,
      subst (λ n. CrewRests p.law r.meaning lines c.args.faults.now n i.phase (journal_of l.main) l.looks.items (λ w. w.seat) (λ w. w.desks.items) l.workers.items) over i.rests,
    )

pub returns-clause-acted : goal.returns-clause-acted
returns-clause-acted g c =
    let l = c.loop-from in
    let i = l.invariant in
    have_acted c.args.cells c.args.faults.now l.next i.phase (journal_of l.main) (omega (arith, i.high_faults, c.if-next-faults.false)) i.begins i.acted

pub returns-clause-armed : goal.returns-clause-armed
returns-clause-armed g c =
    let l = c.loop-from in
    let i = l.invariant in
    all_played (λ w. w.seat.node.replica) c.args.faults.now l.next i.phase c.args.workers.now.items l.workers.items (omega (arith, i.high_faults, c.if-next-faults.false)) i.begins i.armed
