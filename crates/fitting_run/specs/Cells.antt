-- What is read of a loglet, as a view: what isn't read is as of one that is fresh.
use Rattle.std.specs.Prelude.{[], None, false}
use Rattle.loglet_api.specs.View.{LogletView}
use Rattle.loglet_api.specs.declared.call.Kind.TheVariants as kind
use Rattle.fitting_run.specs.declared.yard.CellShown.{CellShown}

abbrev pub cell_of : CellShown → LogletView
cell_of c = record {
  kind = kind.File;
  servers = c.servers;
  quorum = c.quorum;
  room = c.room;
  rounds = 0;
  limit = c.limit;
  cut = c.cut;
  log = c.log.items;
  reach = c.reach;
  cap = None;
  firm = 0;
  shut = false;
  operations = [];
  faults = c.faults;
  down = 0;
  begun = c.begun;
  seals = 0;
  lacks = c.lacks;
}

-- a loglet of which the same is read
abbrev pub read_of : LogletView → LogletView
read_of v = record {
  kind = kind.File;
  servers = v.servers;
  quorum = v.quorum;
  room = v.room;
  rounds = 0;
  limit = v.limit;
  cut = v.cut;
  log = v.log;
  reach = v.reach;
  cap = None;
  firm = 0;
  shut = false;
  operations = [];
  faults = v.faults;
  down = 0;
  begun = v.begun;
  seals = 0;
  lacks = v.lacks;
}
