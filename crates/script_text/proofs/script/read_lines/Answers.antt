use Rattle.std.proofs.Common.{◌≡◌, arith, length, rules}
use Rattle.script_text.specs.Script.{raw_line, lines_in}
use Rattle.script_text.proofs.Runs.{begins, goes_on, ends, is_done}
use Rattle.script_text.proofs.script.read_lines.Goals as goal

pub loop-rest-init : goal.loop-rest-init
loop-rest-init c = record {
  so_far = begins c.args.nodes c.new-seen.result c.new-lines.result.items c.args.bytes.now (cc) c.new-lines.ensures.items;
  place = omega arith;
  number = omega arith;
}

pub returns-in-Err : goal.returns-in-Err
returns-in-Err c = rw c.error_at.ensures
    (ends c.in-Err.fault c.args.nodes c.loop-rest.seen c.loop-rest.n c.loop-rest.at (raw_line c.cut_line-cut.result.text.now c.cut_line-cut.result.size)
    (lines_in c.cut_line-cut.result.rest.now) (lines_in c.loop-rest.rest.now) c.loop-rest.lines.items _ c.cut_line-cut.ensures.first c.in-Err.ensures.reads c.loop-rest.invariant.so_far)

pub loop-rest-preserved : goal.loop-rest-preserved
loop-rest-preserved c = record {
  so_far = rw c.in_ok-push-in-Ok.ensures.items
      (goes_on c.args.nodes c.loop-rest.seen c.numbered.new.seen c.loop-rest.n c.loop-rest.at (raw_line c.cut_line-cut.result.text.now c.cut_line-cut.result.size)
      (lines_in c.cut_line-cut.result.rest.now) (lines_in c.loop-rest.rest.now) c.loop-rest.lines.items c.in-Ok.line _ c.cut_line-cut.ensures.first c.in-Ok.ensures.reads c.loop-rest.invariant.so_far);
  place = c.in-Ok.ensures.place;
  number = omega (arith, c.in-Ok.ensures.number);
}

pub returns : goal.returns
returns c =
    let none : length c.loop-rest.rest.now ≡ 0 = search rules in
    is_done c.args.nodes c.loop-rest.seen c.loop-rest.n c.loop-rest.at c.loop-rest.rest.now c.loop-rest.lines.items _ none c.loop-rest.invariant.so_far
