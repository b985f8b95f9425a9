-- What number 0, which is no node, did in a run.
use Rattle.std.specs.Prelude.{ℕ, ◌≤◌, List, length}
use Rattle.loglet_api.specs.View.{LogletView}
use Rattle.register_api.specs.View.{RegisterView}
use Rattle.legal_journal.specs.Law.{Law}
use Rattle.legal_journal.specs.declared.events.Event.{Event}
use Rattle.script_text.specs.declared.faults.FaultLine.{FaultLine}
use Rattle.node_course.specs.FaultLines.{HaveActed}
use Rattle.crew_making.specs.Apart.{AreAsTold}

-- It broke and mended, and had old messages come again, as fault lines ask, phase by phase; and once nodes closed it opened the register again,
-- with word 0, at most twice. Nobody did any of that besides.
pub record HasActed (cells : ℕ) (faults : List FaultLine) (journal : List Event) : Type 0 where
  pub opened : ℕ
  pub few : opened ≤ 2
  pub acted : HaveActed cells faults opened journal

-- There is a journal, legal by the law, of which the loglets and their register are runs; in it that was done.
pub record WasActedOn (law : Law) (faults : List FaultLine) (cells : List LogletView) (register : RegisterView) : Type 0 where
  pub journal : List Event
  pub told : AreAsTold law journal cells register
  pub acts : HasActed (length cells) faults journal
