use Rattle.std.proofs.Common.{◌≡◌, ◌≤◌, sym, subst, true, length, Contains, arith}
use Rattle.legal_journal.specs.declared.events.Event.{Event}
use Rattle.legal_journal.specs.Journal.{state_of}
use Rattle.legal_journal.specs.Sealing.{begins_seal}
use Rattle.journal_laws.specs.Faults.{faults_in}
use Rattle.node_course.proofs.Segments.{all_segments, all_told, each_told}
use Rattle.run_ends.specs.Rows.{played_of}
use Rattle.run_ends.specs.Told.{GoesAsTold}
use Rattle.run_ends.proofs.Replacements.{all_rows_told, own_told}
use Rattle.run_ends.proofs.Sessions.{size, some}
use Rattle.run_ends.proofs.ends.each_segment_is_told.Goals as goal

pub returns : goal.returns
returns g c = let p = g.P.Rules in let replica = g.S.Replica in λ lines fault_lines rows journal looks log workers h are.
    let sized = size p.law replica.meaning lines fault_lines journal looks log workers h in
    let one = some p.law replica.meaning lines fault_lines journal looks log workers h in
    let nodes = length workers in
    let played = played_of lines rows looks in
    let all = all_rows_told p.law lines h.home h.run h.courses workers looks rows h.lines_are h.joined are sized in
    subst (λ es. GoesAsTold played rows nodes (faults_in es) (state_of es).register.chain) h.seen_is (record {
      each = λ node low high.
          let few = own_told p.law lines h.home h.run h.courses workers looks rows h.lines_are h.joined are node in
          let most = each_told p.law lines h.home nodes h.run looks h.courses h.joined node low high in
          omega (arith, few, most);
      most = λ calm.
          let few = all_told p.law lines h.home nodes h.run looks h.courses h.joined one (subst (λ es. (e : Event) → Contains es e → begins_seal e ≡ true → (1 ≤ e.who) × (e.who ≤ nodes)) (sym h.seen_is) h.seals) calm in
          omega (arith, few, all);
      segments = λ none. all_segments p.law lines h.home nodes h.run looks h.courses h.joined one none;
    })
