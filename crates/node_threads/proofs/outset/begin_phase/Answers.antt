use Rattle.std.proofs.Common.{◌≡◌, ◌+◌, ◌<◌, ◌++◌, ℕ, suc, List, [], drop, length, Some, append-nil, append_assoc, slice_index_or, refl, sym, ap, ◌∙◌, subst, arith}
use Rattle.std.specs.Prelude.{slice_get}
use Rattle.std.proofs.lemmas.Option.{slice_get_read}
use Rattle.script_text.specs.declared.faults.FaultLine.{FaultLine}
use Rattle.node_course.specs.FaultLines.{call_by, calls_in}
use Rattle.node_threads.specs.Outset.{MakesCalls}
use Rattle.node_threads.specs.Passes.{journal_of}
use Rattle.node_threads.proofs.Beginning.{goes_both, goes_none, makes_both, makes_none}
use Rattle.node_threads.proofs.Faults.{calls_begin, calls_end, calls_next, line_begins}
use Rattle.node_threads.proofs.outset.begin_phase.Goals as goal

-- the line of this index
line_at : (faults : List FaultLine) (i : ℕ) (f : FaultLine) → i < length faults → f ≡ slice_index_or faults i f → slice_get faults i ≡ Some (slice_index_or faults i f)
line_at faults i f low is = slice_get_read faults (length faults) i f refl low is ∙ ap Some is

pub loop-i-init : goal.loop-i-init
loop-i-init g c =
    let a = c.args.faults.now in
    let j = journal_of c.args.main.now in
    record {
      low = omega arith;
      high = c.requires.phase.range.0;
      rested = c.requires.rested;
      calls = [];
      left = calls_begin a.lines.now a.phase a.from a.to c.requires.phase;
      made = makes_none j;
      goes = goes_none g.P.Rules.law j;
    }

pub begin_line-requires-clause-there : goal.begin_line-requires-clause-there
begin_line-requires-clause-there g c =
    let faults = c.args.faults.now.lines.now in
    let i = c.loop-i.i in
    let f = c.index-faults-i.result in
    let low : i < length faults = omega (arith, c.loop-i-test.true, c.requires.phase.range.1) in
    line_begins g.P.Rules.law.shelf faults i (slice_index_or faults i f) c.requires.there (line_at faults i f low c.index-faults-i.is)

pub returns-in_err-begin_line-clause-goes : goal.returns-in_err-begin_line-clause-goes
returns-in_err-begin_line-clause-goes g c = goes_both g.P.Rules.law (journal_of c.args.main.now) (journal_of c.loop-i.main) (journal_of c.begin_line.new.main) c.loop-i.invariant.goes c.begin_line.ensures.goes

pub loop-i-preserved : goal.loop-i-preserved
loop-i-preserved g c =
    let a = c.args.faults.now in
    let faults = a.lines.now in
    let l = c.loop-i in
    let k = l.invariant in
    let i = l.i in
    let f = c.index-faults-i.result in
    let x = slice_index_or faults i f in
    let low : i < length faults = omega (arith, c.loop-i-test.true, c.requires.phase.range.1) in
    let at = line_at faults i f low c.index-faults-i.is in
    let more = call_by x.number x.asks in
    let one : suc i ≡ i + 1 = omega arith in
    let next : calls_in a.phase (drop i faults) ≡ more ++ calls_in a.phase (drop (i + 1) faults) = calls_next faults a.phase a.from a.to c.requires.phase i x at k.low c.loop-i-test.true ∙ ap (λ n. more ++ calls_in a.phase (drop n faults)) one in
    record {
      low = omega (arith, k.low);
      high = omega (arith, c.loop-i-test.true);
      rested = c.begin_line.ensures.rested;
      calls = k.calls ++ more;
      left = append_assoc k.calls more (calls_in a.phase (drop (i + 1) faults)) ∙ (ap (λ cs. k.calls ++ cs) (sym next) ∙ k.left);
      made = makes_both k.calls more (journal_of c.args.main.now) (journal_of l.main) (journal_of c.begin_line.new.main) k.made c.in_ok-begin_line.ensures.made;
      goes = goes_both g.P.Rules.law (journal_of c.args.main.now) (journal_of l.main) (journal_of c.begin_line.new.main) k.goes c.begin_line.ensures.goes;
    }

pub returns-clause-made : goal.returns-clause-made
returns-clause-made g c =
    let a = c.args.faults.now in
    let faults = a.lines.now in
    let l = c.loop-i in
    let k = l.invariant in
    let over : l.i ≡ a.to = omega (arith, k.high, c.loop-i-test.false) in
    let none : calls_in a.phase (drop l.i faults) ≡ [] = ap (λ n. calls_in a.phase (drop n faults)) over ∙ calls_end faults a.phase a.from a.to c.requires.phase in
    let all : k.calls ≡ calls_in a.phase faults = sym (append-nil k.calls) ∙ (ap (λ cs. k.calls ++ cs) (sym none) ∙ k.left) in
    subst (λ cs. MakesCalls cs (journal_of c.args.main.now) (journal_of l.main)) all k.made
