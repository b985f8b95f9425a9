-- What is read of a register, as a view: nothing else is told of it.
use Rattle.std.specs.Prelude.{None, false}
use Rattle.register_api.specs.View.{RegisterView}
use Rattle.fitting_run.specs.declared.registering.RegisterShown.{RegisterShown}

abbrev pub register_of : RegisterShown → RegisterView
register_of r = record {
  version = r.version;
  chain = r.chain;
  given = r.given;
  given_chain = r.given_chain;
  asked = None;
  stands = false;
  down = r.down;
  faults = r.faults;
  misses = r.misses;
  armed = 0;
  word = 0;
  stops = 0;
  reopenings = 0;
}
