use Rattle.made_script.proofs.Asking.{count-logged, count-extends, all-made, sum-added}
use Rattle.made_script.proofs.laws.its_lines_log_amounts.Goals as goal

pub returns : goal.returns
returns c = record {
  logged = count-logged;
  extended = count-extends;
  no_others = all-made;
  summed = sum-added;
}
