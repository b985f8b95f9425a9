-- The command line, in clap's own words: `delos_sim` with the subcommands `run` and `make`.
use Rattle.std.specs.Prelude.{[], ◌∷◌, Some, pos, true, codes}
use Rattle.clap.specs.Words.{App, Rule, new_app, new_rule, with_rule, with_subcommand}
use Rattle.clap.specs.declared.builder.value_parser.ValueParser.TheVariants.{Signed}

-- how many nodes
abbrev pub nodes_rule : Rule
nodes_rule = record (new_rule (codes "nodes")) {
  long = Some (codes "nodes");
  parser = Some (Signed (pos 1) (pos 8));
  defaults = codes "1" ∷ [];
}

abbrev pub seed_rule : Rule
seed_rule = record (new_rule (codes "seed")) {
  long = Some (codes "seed");
  parser = Some (Signed (pos 0) (pos 4294967295));
  defaults = codes "0" ∷ [];
}

-- a made script has no seed of its own
abbrev pub made_seed_rule : Rule
made_seed_rule = record (new_rule (codes "seed")) {
  long = Some (codes "seed");
  parser = Some (Signed (pos 0) (pos 4294967295));
  required = true;
}

-- how many logged lines a made script has
abbrev pub lines_rule : Rule
lines_rule = record (new_rule (codes "lines")) {
  long = Some (codes "lines");
  parser = Some (Signed (pos 1) (pos 15000));
  required = true;
}

abbrev pub shelf_rule : Rule
shelf_rule = record (new_rule (codes "shelf")) {
  long = Some (codes "shelf");
  defaults = codes "file,native3,striped2,native5" ∷ [];
}

abbrev pub run_app : App
run_app = with_rule (with_rule (with_rule (new_app (codes "run")) nodes_rule) seed_rule) shelf_rule

abbrev pub make_app : App
make_app = with_rule (with_rule (with_rule (with_rule (new_app (codes "make")) nodes_rule) made_seed_rule) lines_rule) shelf_rule

abbrev pub top_app : App
top_app = let a = new_app (codes "delos_sim") in record a { top = record a.top { subcommand_required = true } }

abbrev pub the_app : App
the_app = with_subcommand (with_subcommand top_app run_app.top) make_app.top
