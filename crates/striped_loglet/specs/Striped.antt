-- What a striped loglet shows.
use Rattle.std.specs.Prelude.{◌≡◌, ℕ, List, map}
use Rattle.loglet_api.specs.View.{LogletView}
use Rattle.loglet_api.specs.Servers.{ServersView}
use Rattle.striped_loglet.specs.declared.given.Given.{Given}
use Rattle.striped_loglet.specs.declared.marks.Marks.{Marks}
use Rattle.striped_loglet.specs.declared.shape.Shape.{Shape}
use Rattle.striped_loglet.specs.State.{Work, PendingMap, counted, state_of, loglet_of, works_of}
use Rattle.striped_loglet.specs.Servings.{states_of}
use Rattle.striped_loglet.specs.Views.{total}

-- what every loglet shows, and what its stripes show
pub record StripedView : Type 0 where
  pub loglet : LogletView
  pub stripes : List LogletView
  -- the servers of each stripe
  pub servings : List ServersView
  -- what is under way for each open operation, by ticket
  pub works : List (ℕ × Work)
  -- how many operations it refused as full itself
  pub refusals : ℕ
  -- the words that it was given
  pub given : Given

-- its servers are those of its stripes, one after another
abbrev pub serving_of : StripedView → ServersView
serving_of v = record { states = states_of v.servings; told = v.given.told; carries = v.given.carries; strays = v.given.strays }

-- its faults are those of its stripes and its own refusals, in a word of 64 bits that stands still at its end
abbrev pub CountsFaults : StripedView → Type 0
CountsFaults v = v.loglet.faults ≡ counted (total (λ s. s.faults) v.stripes) v.refusals

module _ {L : Type 0} (view : L → LogletView) (serving : L → ServersView) where
  abbrev pub striped_view : Shape → List L → Marks → PendingMap L → Given → StripedView
  striped_view shape stripes marks pending given =
      record { loglet = loglet_of (state_of view shape stripes marks pending); stripes = map view stripes; servings = map serving stripes; works = works_of (state_of view shape stripes marks pending); refusals = marks.refusals; given = given }
