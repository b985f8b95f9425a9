use Rattle.std.proofs.Common.{◌*◌, ◌≤◌, ◌^◌, map, All, arith, ap, subst, sym, ◌∙◌, refl}
use Rattle.loglet_api.specs.declared.call.Kind.TheVariants as kinds
use Rattle.striped_loglet.specs.Striped.{StripedView, serving_of}
use Rattle.striped_loglet.proofs.Places.{length_view}
use Rattle.shelf_loglets.specs.Stripes.{IsStripe}
use Rattle.shelf_loglets.proofs.Stripes.{views, stripe_at, same_room, small_room, all_servers, all_rounds, whole_room, kind_of_striped, new_striped}
use Rattle.shelf_loglets.proofs.striped.nested.Goals as goal

pub new-requires-clause-fresh : goal.new-requires-clause-fresh
new-requires-clause-fresh c = let view = λ (v : StripedView). v.loglet in λ i v is. (stripe_at view (kinds.Striped 2) 6 63 (2 * c.args.room) c.in_ok-stripes.stripes.items c.in_ok-stripes.ensures.stripes i v is).fresh

pub new-requires-clause-sound : goal.new-requires-clause-sound
new-requires-clause-sound c = let view = λ (v : StripedView). v.loglet in λ i v is. (stripe_at view (kinds.Striped 2) 6 63 (2 * c.args.room) c.in_ok-stripes.stripes.items c.in_ok-stripes.ensures.stripes i v is).sound

pub new-requires-clause-servers : goal.new-requires-clause-servers
new-requires-clause-servers c = let view = λ (v : StripedView). v.loglet in omega (arith, all_servers view (kinds.Striped 2) 6 63 (2 * c.args.room) c.in_ok-stripes.stripes.items c.in_ok-stripes.ensures.stripes, c.in_ok-stripes.ensures.count)

pub new-requires-clause-rounds : goal.new-requires-clause-rounds
new-requires-clause-rounds c = let view = λ (v : StripedView). v.loglet in omega (arith, all_rounds view (kinds.Striped 2) 6 63 (2 * c.args.room) c.in_ok-stripes.stripes.items c.in_ok-stripes.ensures.stripes, c.in_ok-stripes.ensures.count)

pub new-requires-clause-room : goal.new-requires-clause-room
new-requires-clause-room c = let view = λ (v : StripedView). v.loglet in same_room view (kinds.Striped 2) 6 63 (2 * c.args.room) c.in_ok-stripes.stripes.items c.in_ok-stripes.ensures.stripes

pub new-requires-clause-small : goal.new-requires-clause-small
new-requires-clause-small c = let view = λ (v : StripedView). v.loglet in small_room view (kinds.Striped 2) 6 63 (2 * c.args.room) c.in_ok-stripes.stripes.items c.in_ok-stripes.ensures.stripes (subst (λ n. n * (2 * c.args.room) ≤ 2 ^ 32) (sym c.in_ok-stripes.ensures.count) (omega (arith, c.requires.room.1)))

pub returns-clause-kind : goal.returns-clause-kind
returns-clause-kind c = let view = λ (v : StripedView). v.loglet in c.new.ensures.kind ∙ kind_of_striped 2 6 63 (2 * c.args.room) (map view c.in_ok-stripes.stripes.items) (length_view view c.in_ok-stripes.stripes.items ∙ c.in_ok-stripes.ensures.count) (views view (kinds.Striped 2) 6 63 (2 * c.args.room) c.in_ok-stripes.stripes.items c.in_ok-stripes.ensures.stripes)

pub returns-clause-servers : goal.returns-clause-servers
returns-clause-servers c = let view = λ (v : StripedView). v.loglet in omega (arith, c.new.ensures.servers, all_servers view (kinds.Striped 2) 6 63 (2 * c.args.room) c.in_ok-stripes.stripes.items c.in_ok-stripes.ensures.stripes, c.in_ok-stripes.ensures.count)

pub returns-clause-room : goal.returns-clause-room
returns-clause-room c = let view = λ (v : StripedView). v.loglet in let r = whole_room view (kinds.Striped 2) 6 63 (2 * c.args.room) c.in_ok-stripes.stripes.items c.in_ok-stripes.ensures.stripes c.new.result.loglet.room (omega (arith, c.in_ok-stripes.ensures.count)) c.new.ensures.room ∙ ap (λ n. n * (2 * c.args.room)) c.in_ok-stripes.ensures.count in omega (arith, r)

pub returns-clause-stripes : goal.returns-clause-stripes
returns-clause-stripes c = let view = λ (v : StripedView). v.loglet in subst (λ vs. All (IsStripe (kinds.Striped 2) 6 63 (2 * c.args.room)) vs) (sym c.new.ensures.stripes) (views view (kinds.Striped 2) 6 63 (2 * c.args.room) c.in_ok-stripes.stripes.items c.in_ok-stripes.ensures.stripes)

pub returns-clause-serving : goal.returns-clause-serving
returns-clause-serving c = new_striped serving_of 6 2 12 c.in_ok-stripes.stripes.items c.new.result c.in_ok-stripes.ensures.servings c.new.ensures.servings c.new.ensures.given c.in_ok-stripes.ensures.count refl
