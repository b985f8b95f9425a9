use Rattle.std.proofs.lemmas.List.Elements.{filter_map-append}
use Rattle.journal_laws.specs.Faults.{fault_of}
use Rattle.journal_laws.proofs.faults.faults_come_in_order.Goals as goal

pub returns : goal.returns
returns c = λ early late. filter_map-append (λ e. fault_of e.answer e.call) early late
