-- What the stripes of a striped loglet are handed.
use Rattle.std.proofs.Common.{◌≡◌, ℕ, suc, ◌/◌, ◌%◌, ◌<◌, List, [], ◌∷◌, length, map, set, get_or, Some, None, nat_eq, Option, refl, sym, ap, ◌∙◌, subst}
use Rattle.std.specs.Prelude.{slice_get}
use Rattle.std.specs.HashMap.{get}
use Rattle.loglet_api.specs.declared.call.LogletCall.{LogletCall}
use Rattle.loglet_api.specs.declared.call.LogletCall.TheVariants.{Stray}
use Rattle.loglet_api.specs.declared.call.LogletAnswer.{LogletAnswer}
use Rattle.loglet_api.specs.View.{LogletView}
use Rattle.loglet_api.specs.Servers.{ServersView, Serves}
use Rattle.striped_loglet.specs.declared.given.Given.{Given}
use Rattle.striped_loglet.specs.declared.marks.Marks.{Marks}
use Rattle.striped_loglet.specs.declared.shape.Shape.{Shape}
use Rattle.striped_loglet.specs.declared.pending.Pending.{Pending}
use Rattle.striped_loglet.specs.declared.stripe.Inner.{Inner}
use Rattle.striped_loglet.specs.Shapes.{HasServer}
use Rattle.striped_loglet.specs.State.{PendingMap, state_of, work_at, inner_of}
use Rattle.striped_loglet.specs.Going.{IsStriped}
use Rattle.striped_loglet.specs.Servings.{ServesServer, ServesStray, CarriesAt, CarriesFor}
use Rattle.striped_loglet.specs.Striped.{StripedView, striped_view, serving_of}
use Rattle.striped_loglet.proofs.Lists.{map_set}
use Rattle.striped_loglet.proofs.Serving.{serving_at, served}
use Rattle.striped_loglet.proofs.Wholes.{server_there}
use Rattle.striped_loglet.proofs.Works.{inner_is}

length_serving : {L : Type 0} (serving : L → ServersView) (xs : List L) → length (map serving xs) ≡ length xs
length_serving serving [] = refl
length_serving serving (x ∷ xs) = ap suc (length_serving serving xs)

module _ {L : Type 0} (view : L → LogletView) (serving : L → ServersView) where
  -- as it is of the fields, so it is of what is shown
  pub serves_from : (shape : Shape) (xs : List L) (marks : Marks) (m : PendingMap L) (given : Given) (w : StripedView) (call : LogletCall) (answer : LogletAnswer) (new : ServersView) → striped_view view serving shape xs marks m given ≡ w → Serves (served (map serving xs) given) call answer new → Serves (serving_of w) call answer new
  serves_from shape xs marks m given w call answer new e h = subst (λ (v : StripedView). Serves (serving_of v) call answer new) e h

  pub same_from : (shape : Shape) (xs : List L) (marks : Marks) (m : PendingMap L) (given : Given) (w : StripedView) (new : ServersView) → striped_view view serving shape xs marks m given ≡ w → new ≡ served (map serving xs) given → new ≡ serving_of w
  same_from shape xs marks m given w new e h = h ∙ ap serving_of e

  pub server_handed : (shape : Shape) (xs : List L) (marks : Marks) (m : PendingMap L) (given : Given) (w : StripedView) (number i server : ℕ) (call : ℕ → LogletCall) (answer : LogletAnswer) (old new : L) → striped_view view serving shape xs marks m given ≡ w → HasServer (map view xs) number i server → old ≡ get_or xs i old
      → Serves (serving old) (call server) answer (serving new) → ServesServer w.stripes w.servings number call answer (map serving (set xs i new))
  server_handed shape xs marks m given w number i server call answer old new e h is serves =
      subst (λ (v : StripedView). ServesServer v.stripes v.servings number call answer (map serving (set xs i new))) e (record {
        stripe = i;
        inner = server;
        place = h;
        before = serving old;
        after = serving new;
        is = serving_at serving xs i old (server_there view xs i server h) is;
        serves = serves;
        rest = map_set serving xs i new;
      })

  pub stray_handed : (shape : Shape) (xs : List L) (marks : Marks) (m : PendingMap L) (given : Given) (w : StripedView) (word count i inner : ℕ) (answer : LogletAnswer) (old new : L) → striped_view view serving shape xs marks m given ≡ w → count ≡ length xs → i ≡ word % count → inner ≡ word / count → i < length xs → old ≡ get_or xs i old
      → Serves (serving old) (Stray inner) answer (serving new) → ServesStray w.servings word answer (map serving (set xs i new))
  stray_handed shape xs marks m given w word count i inner answer old new e ec ei en l is serves =
      let k : count ≡ length (map serving xs) = ec ∙ sym (length_serving serving xs) in
      let place : i ≡ word % length (map serving xs) = ei ∙ ap (λ (n : ℕ). word % n) k in
      subst (λ (v : StripedView). ServesStray v.servings word answer (map serving (set xs i new))) e (record {
        before = serving old;
        after = serving new;
        is = subst (λ (n : ℕ). slice_get (map serving xs) n ≡ Some (serving old)) place (serving_at serving xs i old l is);
        serves = subst (λ (n : ℕ). Serves (serving old) (Stray n) answer (serving new)) (en ∙ ap (λ (n : ℕ). word / n) k) serves;
        rest = map_set serving xs i new ∙ ap (λ (n : ℕ). set (map serving xs) n (serving new)) place;
      })

  -- the word is handed to what a stripe was doing for the operation
  pub carry_handed : (shape : Shape) (xs : List L) (marks : Marks) (m : PendingMap L) (given : Given) (w : StripedView) (t : ℕ) (p : Pending L) (x : Inner) (word : ℕ) (answer : LogletAnswer) (new : List ServersView) → striped_view view serving shape xs marks m given ≡ w → IsStriped (state_of view shape xs marks m) → get nat_eq m t ≡ Some p → p.inner ≡ Some x
      → CarriesAt (map serving xs) x.stripe x.ticket word answer new → CarriesFor w.servings (inner_of (work_at w.works t)) word answer new
  carry_handed shape xs marks m given w t p x word answer new e k at mine h =
      subst (λ (v : StripedView). CarriesFor v.servings (inner_of (work_at v.works t)) word answer new) e
      (subst (λ (y : Option Inner). CarriesFor (map serving xs) y word answer new) (sym (inner_is view shape xs marks m t p (Some x) k at mine)) h)

  -- .. or to none, where none was at work
  pub idle_handed : (shape : Shape) (xs : List L) (marks : Marks) (m : PendingMap L) (given : Given) (w : StripedView) (t : ℕ) (p : Pending L) (word : ℕ) (answer : LogletAnswer) (new : List ServersView) → striped_view view serving shape xs marks m given ≡ w → IsStriped (state_of view shape xs marks m) → get nat_eq m t ≡ Some p → p.inner ≡ None
      → new ≡ map serving xs → CarriesFor w.servings (inner_of (work_at w.works t)) word answer new
  idle_handed shape xs marks m given w t p word answer new e k at mine h =
      subst (λ (v : StripedView). CarriesFor v.servings (inner_of (work_at v.works t)) word answer new) e
      (subst (λ (y : Option Inner). CarriesFor (map serving xs) y word answer new) (sym (inner_is view shape xs marks m t p None k at mine)) h)
