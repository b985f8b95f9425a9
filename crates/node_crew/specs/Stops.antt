-- Stops of a node's disk.
use Rattle.std.specs.Prelude.{ℕ, zero, suc, List, [], ◌∷◌, ◌++◌}
use Rattle.replica_api.specs.Replica.{armed_by}
use Rattle.script_text.specs.declared.faults.FaultLine.{FaultLine}
use Rattle.turn_scopes.specs.Seats.{SeatView}
use Rattle.node_course.specs.FaultLines.{stops_by}

-- the counts with which the fault lines from `from` up to `to` arm node n's disk, in their order
abbrev pub stops_between : ℕ → ℕ → ℕ → List FaultLine → List ℕ
stops_between n from to [] = []
stops_between n from zero (f ∷ fs) = []
stops_between n zero (suc to) (f ∷ fs) = stops_by n f.asks ++ stops_between n zero to fs
stops_between n (suc from) (suc to) (f ∷ fs) = stops_between n from to fs

-- a seat whose node's disk is armed with these counts, one after another
abbrev pub armed_all : SeatView → List ℕ → SeatView
armed_all s [] = s
armed_all s (after ∷ afters) = armed_all (record s { node = record s.node { replica = armed_by s.node.replica after } }) afters
