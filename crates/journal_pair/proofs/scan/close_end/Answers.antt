use Rattle.std.proofs.Common.{◌≡◌, ℕ, ◌+◌, List, length, get_or, drop, ◌∙◌, sym, ap, subst, arith, length-drop}
use Rattle.std.proofs.lemmas.List.{get_or-drop, drop-drop}
use Rattle.disk_model.specs.Disk.{Timeline, content}
use Rattle.disk_model.specs.CrashLaws.{stays}
use Rattle.disk_model.proofs.Tear.{synced_is}
use Rattle.journal_core.specs.Records.{first_record}
use Rattle.journal_core.specs.Layout.{Whole}
use Rattle.journal_pair.specs.Records.{records_of}
use Rattle.journal_pair.specs.Layout.{Stands, IsOpenAt}
use Rattle.journal_pair.proofs.Areas.{selects_records}
use Rattle.journal_pair.proofs.scan.close_end.Goals as goal

pub returns-in_err-gate_is_open-clause-any_crash : goal.returns-in_err-gate_is_open-clause-any_crash
returns-in_err-gate_is_open-clause-any_crash g c =
    let old = (g.D.Disk.view c.args.disk.now).timeline in
    stays old _ (λ (f : List ℕ). records_of f ≡ records_of (content old.now)) c.gate_is_open.ensures.same (λ f image. ap records_of (synced_is old.now c.requires.synced f image))

pub returns-then-not-branch-clause-any_crash : goal.returns-then-not-branch-clause-any_crash
returns-then-not-branch-clause-any_crash g c =
    let old = (g.D.Disk.view c.args.disk.now).timeline in
    stays old _ (λ (f : List ℕ). records_of f ≡ records_of (content old.now)) c.gate_is_open.ensures.same (λ f image. ap records_of (synced_is old.now c.requires.synced f image))

pub returns-then-not-branch-clause-stands : goal.returns-then-not-branch-clause-stands
returns-then-not-branch-clause-stands g c =
    let file = content (g.D.Disk.view c.args.disk.now).timeline.now in
    let a = c.args.area in
    let all_is = selects_records a.second a.base file c.requires.selects in
    let shut = c.in_ok-gate_is_open.ensures.closed c.if-not-branch.true in
    let stands : Stands (records_of file) a file = record {
      ready = c.requires.selects.ready;
      selected = c.requires.selects.selected;
      lies = record {
        base = c.requires.selects.base_is;
        behind = c.requires.selects.behind;
        ends = record {
          whole = subst (λ (qs : List (List ℕ)). Whole qs a.len (drop a.base file)) (sym all_is) c.requires.ends.whole;
          inside = omega (arith, shut.0, length-drop a.base file);
          closed = λ is. shut.1 (sym (get_or-drop a.base file a.len 0) ∙ is);
        };
      };
    } in
    subst (λ (l : Timeline). Stands (records_of file) a (content l.now)) (sym c.gate_is_open.ensures.same) stands

pub close_gate-requires-clause-opened : goal.close_gate-requires-clause-opened
close_gate-requires-clause-opened g c =
    let file = content (g.D.Disk.view c.args.disk.now).timeline.now in
    let a = c.args.area in
    let all_is = selects_records a.second a.base file c.requires.selects in
    let open_at : IsOpenAt (records_of file) a file = record {
      selects = c.requires.selects;
      whole = subst (λ (qs : List (List ℕ)). Whole qs a.len (drop a.base file)) (sym all_is) c.requires.ends.whole;
      inside = omega (arith, c.requires.ends.inside, c.requires.selects.inside, length-drop a.base file);
      opened = c.in_ok-gate_is_open.ensures.opened c.if-not-branch.false;
      all = ap first_record (sym (drop-drop a.len a.base file)) ∙ c.requires.ends.none;
    } in
    subst (λ (l : Timeline). IsOpenAt (records_of (content l.now)) a (content l.now)) (sym c.gate_is_open.ensures.same) open_at
