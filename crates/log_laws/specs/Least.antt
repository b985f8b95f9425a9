-- Who needs most of a log.
use Rattle.std.specs.Prelude.{◌≡◌, ℕ, ◌≤◌, false, List}
use Rattle.engine_api.specs.declared.content.Placed.{Placed}
use Rattle.engine_api.specs.Members.{has_left, position_of, least_position}

-- one of the nodes 1 to `nodes` that hasn't left, whose position is the least
pub record IsLeast (nodes : ℕ) (placed : List Placed) : Type 0 where
  pub node : ℕ
  pub low : 1 ≤ node
  pub high : node ≤ nodes
  pub stays : has_left placed node ≡ false
  pub is : least_position nodes placed ≡ position_of placed node
