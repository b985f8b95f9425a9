use Rattle.std.proofs.Common.{◌==◌, rules, ◌+◌}
use Rattle.std.proofs.lemmas.List.{take_rest}
use Rattle.std.proofs.lemmas.Iterator.{YieldsList-from_slice}
use Rattle.std.proofs.lemmas.Iterator.Search.{position_from_yields_List}
use Rattle.script_text.proofs.Runs.{found_at, none_found, first_cut, last_line}
use Rattle.script_text.proofs.script.cut_line.Goals as goal

pub returns-in-Some-clause-first : goal.returns-in-Some-clause-first
returns-in-Some-clause-first c =
    let place = position_from_yields_List (λ b. b == 10) _ _ c.position.result c.position.ensures.ran (YieldsList-from_slice c.args.bytes.now cc) (λ x b q k. search rules) in
    let found = found_at c.args.bytes.now c.position.result c.in-Some.i place c.in-Some.is in
    rw (take_rest c.args.bytes.now (c.in-Some.i + 1)) (first_cut c.args.bytes.now c.in-Some.i found.0 found.1)

pub returns-in-None-clause-first : goal.returns-in-None-clause-first
returns-in-None-clause-first c =
    let place = position_from_yields_List (λ b. b == 10) _ _ c.position.result c.position.ensures.ran (YieldsList-from_slice c.args.bytes.now cc) (λ x b q k. search rules) in
    last_line c.args.bytes.now c.requires (none_found c.args.bytes.now c.position.result place c.in-None.is)
