-- The numbers of a striped loglet, by its stripes.
use Rattle.std.specs.Prelude.{◌≡◌, ℕ, ◌+◌, ◌*◌, ◌/◌, ◌^◌, ◌<◌, ◌≤◌, max, Some, List, [], ◌∷◌, map, take, length, slice_get}
use Rattle.loglet_api.specs.declared.call.Kind.{Kind}
use Rattle.loglet_api.specs.declared.call.Kind.TheVariants.{Striped, Nested}
use Rattle.loglet_api.specs.View.{LogletView}
use Rattle.striped_loglet.specs.declared.shape.Shape.{Shape}
use Rattle.striped_loglet.specs.Views.{total, least_of}

-- two striped loglets make a nested one
abbrev pub kind_of_two : Kind → Kind → Kind
kind_of_two (Striped m) (Striped n) = Nested
kind_of_two a b = Striped 2

abbrev pub kind_by : List LogletView → Kind
kind_by (v ∷ w ∷ []) = kind_of_two v.kind w.kind
kind_by views = Striped (length views)

-- the greatest of these numbers; 0 where there is none
abbrev pub most_of : (LogletView → ℕ) → List LogletView → ℕ
most_of f [] = 0
most_of f (v ∷ vs) = max (f v) (most_of f vs)

-- a server is this one of this stripe: they are numbered stripe by stripe
pub record HasServer (views : List LogletView) (server i inner : ℕ) : Type 0 where
  pub view : LogletView
  pub is : slice_get views i ≡ Some view
  pub below : inner < view.servers
  pub number : server ≡ total (λ v. v.servers) (take i views) + inner

-- the numbers of a loglet of these stripes
pub record IsShapeOf (views : List LogletView) (shape : Shape) : Type 0 where
  pub kind : shape.kind ≡ kind_by views
  pub servers : shape.servers ≡ total (λ v. v.servers) views
  pub room : (v : LogletView) → slice_get views 0 ≡ Some v → shape.room ≡ length views * v.room
  pub turn : shape.turn ≤ 2 ^ 24 + 2
  pub most : shape.turn ≡ most_of (λ v. v.rounds) views + 2
  pub turns : (i : ℕ) (v : LogletView) → slice_get views i ≡ Some v → v.rounds + 2 ≤ shape.turn
  pub rounds : shape.rounds ≡ (3 * length views + 1) * shape.turn
  pub limit : shape.limit ≡ least_of (map (λ v. v.limit) views) / 4
