use Rattle.native_loglet.proofs.opening.begin_on.Goals as goal

pub returns : goal.returns
returns g c = record {
  known = c.in_ok-members.members.items;
  are = c.in_ok-members.ensures;
  begins = rw (← c.is_shut.ensures, ← c.down.ensures, ← c.wanted.ensures) c.begin.ensures;
}
