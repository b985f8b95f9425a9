use Rattle.run_laws.proofs.Acting.{acts-once}
use Rattle.run_laws.proofs.Counts.{faults-counted}
use Rattle.run_laws.proofs.Looks.{reads-current}
use Rattle.run_laws.proofs.Orders.{barriers-kept, one-row-each, session-order}
use Rattle.run_laws.proofs.Replacing.{replacements-agree}
use Rattle.run_laws.proofs.Reporting.{reports-stand}
use Rattle.run_laws.proofs.Trimming.{trims-stand}
use Rattle.run_laws.proofs.laws.what_ended_fits.Goals as goal

pub returns : goal.returns
returns c = λ played fault_lines o yard e. record {
  one_row_each = one-row-each played fault_lines o yard e;
  acts_once = acts-once played fault_lines o yard e;
  session_order = session-order played fault_lines o yard e;
  reads_are_current = reads-current played fault_lines o yard e;
  barriers = barriers-kept played fault_lines o yard e;
  faults_are_counted = faults-counted played fault_lines o yard e;
  replacements = replacements-agree played fault_lines o yard e;
  reports = reports-stand played fault_lines o yard e;
  trims = trims-stand played fault_lines o yard e;
  chain_is_registered = e.registered;
}
