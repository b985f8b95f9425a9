-- Lists of stripes that are alike.
use Rattle.std.proofs.Common.{◌≡◌, ℕ, suc, ◌+◌, ◌*◌, ◌^◌, ◌<◌, ◌≤◌, List, [], ◌∷◌, ◌++◌, replicate, length, map, All, Some, refl, sym, ap, ◌∙◌, subst, arith}
use Rattle.std.specs.Prelude.{slice_get}
use Rattle.std.proofs.Math.Nat.{add_comm, zero-mul, suc-mul}
use Rattle.std.proofs.lemmas.List.Elements.{All-head, All-tail, All-map}
use Rattle.std.proofs.lemmas.List.{replicate-append-replicate}
use Rattle.std.proofs.lemmas.Option.{get_or_from_slice_get, slice_get_within}
use Rattle.loglet_api.specs.declared.call.Kind.{Kind}
use Rattle.loglet_api.specs.declared.call.Kind.TheVariants.{Native, Striped, Nested}
use Rattle.loglet_api.specs.Servers.{ServerState, ServersView}
use Rattle.loglet_api.specs.View.{LogletView}
use Rattle.native_loglet.specs.Natives.{new_state}
use Rattle.striped_loglet.specs.declared.given.Given.{Given}
use Rattle.striped_loglet.specs.Servings.{states_of}
use Rattle.striped_loglet.specs.Striped.{StripedView, serving_of}
use Rattle.striped_loglet.specs.Views.{total}
use Rattle.striped_loglet.specs.Shapes.{kind_of_two, kind_by, most_of}
use Rattle.striped_loglet.proofs.Lists.{some_at}
use Rattle.striped_loglet.proofs.Places.{length_view}
use Rattle.shelf_loglets.specs.Stripes.{IsStripe, new_servers}

total_alike : (f : LogletView → ℕ) (n : ℕ) (vs : List LogletView) → All (λ v. f v ≡ n) vs → total f vs ≡ length vs * n
total_alike f n [] h = omega arith
total_alike f n (v ∷ vs) h =
    let a : f v ≡ n = All-head (λ v. f v ≡ n) v vs h in
    let b : total f vs ≡ length vs * n = total_alike f n vs (All-tail (λ v. f v ≡ n) v vs h) in
    grind (arith, a, b)

most_alike : (f : LogletView → ℕ) (n : ℕ) (vs : List LogletView) → All (λ v. f v ≡ n) vs → 0 < length vs → most_of f vs ≡ n
most_alike f n [] h some = absurd (omega arith)
most_alike f n (v ∷ []) h some = let a : f v ≡ n = All-head (λ v. f v ≡ n) v [] h in omega (arith, a)
most_alike f n (v ∷ w ∷ vs) h some =
    let a : f v ≡ n = All-head (λ v. f v ≡ n) v (w ∷ vs) h in
    let b : most_of f (w ∷ vs) ≡ n = most_alike f n (w ∷ vs) (All-tail (λ v. f v ≡ n) v (w ∷ vs) h) (omega arith) in
    omega (arith, a, b)

module _ {L : Type 0} (view : L → LogletView) (kind : Kind) (servers rounds room : ℕ) (xs : List L) (h : All (λ x. IsStripe kind servers rounds room (view x)) xs) where
  pub views : All (IsStripe kind servers rounds room) (map view xs)
  views = All-map (IsStripe kind servers rounds room) view xs h

  pub stripe_at : (i : ℕ) (v : LogletView) → slice_get (map view xs) i ≡ Some v → IsStripe kind servers rounds room v
  stripe_at i v is = subst (IsStripe kind servers rounds room) (get_or_from_slice_get (map view xs) i v v is) (views i v (slice_get_within (map view xs) i v is))

  pub same_room : (i j : ℕ) (v w : LogletView) → slice_get (map view xs) i ≡ Some v → slice_get (map view xs) j ≡ Some w → v.room ≡ w.room
  same_room i j v w a b = (stripe_at i v a).room_is ∙ sym (stripe_at j w b).room_is

  pub small_room : length xs * room ≤ 2 ^ 32 → (i : ℕ) (v : LogletView) → slice_get (map view xs) i ≡ Some v → length xs * v.room ≤ 2 ^ 32
  small_room small i v is = subst (λ r. length xs * r ≤ 2 ^ 32) (sym (stripe_at i v is).room_is) small

  pub all_servers : total (λ v. v.servers) (map view xs) ≡ length xs * servers
  all_servers = total_alike (λ v. v.servers) servers (map view xs) (λ k d lt. (views k d lt).servers_are) ∙ ap (λ n. n * servers) (length_view view xs)

  pub all_rounds : total (λ v. v.rounds) (map view xs) ≡ length xs * rounds
  all_rounds = total_alike (λ v. v.rounds) rounds (map view xs) (λ k d lt. (views k d lt).rounds_are) ∙ ap (λ n. n * rounds) (length_view view xs)

  pub most_rounds : 0 < length xs → most_of (λ v. v.rounds) (map view xs) ≡ rounds
  most_rounds some = most_alike (λ v. v.rounds) rounds (map view xs) (λ k d lt. (views k d lt).rounds_are) (omega (arith, some, length_view view xs))

  -- what is said of the room by any stripe is said by them all
  pub whole_room : (whole : ℕ) → 0 < length xs → ((i : ℕ) (v : LogletView) → slice_get (map view xs) i ≡ Some v → whole ≡ length xs * v.room) → whole ≡ length xs * room
  whole_room whole some r =
      let first = some_at (map view xs) 0 (omega (arith, some, length_view view xs)) in
      r 0 first.0 first.1 ∙ ap (λ n. length xs * n) (stripe_at 0 first.0 first.1).room_is

-- stripes that aren't striped make a striped loglet
pub kind_of_natives : (n servers rounds room : ℕ) (vs : List LogletView) → All (IsStripe (Native n) servers rounds room) vs → kind_by vs ≡ Striped (length vs)
kind_of_natives n servers rounds room [] h = refl
kind_of_natives n servers rounds room (v ∷ []) h = refl
kind_of_natives n servers rounds room (v ∷ w ∷ []) h = ap (λ k. kind_of_two k w.kind) (All-head (IsStripe (Native n) servers rounds room) v (w ∷ []) h).kind_is
kind_of_natives n servers rounds room (v ∷ w ∷ x ∷ vs) h = refl

-- two striped ones make a nested one
pub kind_of_striped : (n servers rounds room : ℕ) (vs : List LogletView) → length vs ≡ 2 → All (IsStripe (Striped n) servers rounds room) vs → kind_by vs ≡ Nested
kind_of_striped n servers rounds room [] two h = absurd (omega (arith, two))
kind_of_striped n servers rounds room (v ∷ []) two h = absurd (omega (arith, two))
kind_of_striped n servers rounds room (v ∷ w ∷ []) two h =
    let is = IsStripe (Striped n) servers rounds room in
    ap (λ k. kind_of_two k w.kind) (All-head is v (w ∷ []) h).kind_is ∙ ap (λ k. kind_of_two (Striped n) k) (All-head is w [] (All-tail is v (w ∷ []) h)).kind_is
kind_of_striped n servers rounds room (v ∷ w ∷ x ∷ vs) two h = absurd (omega (arith, two))

-- new servers of each stripe are new servers of all
states_alike : (k : ℕ) (vs : List ServersView) → All (λ (v : ServersView). v ≡ new_servers k) vs → states_of vs ≡ replicate (length vs * k) new_state
states_alike k [] h = ap (λ n. replicate n new_state) (sym (zero-mul k))
states_alike k (v ∷ vs) h =
    let a : v ≡ new_servers k = All-head (λ (v : ServersView). v ≡ new_servers k) v vs h in
    let b : states_of vs ≡ replicate (length vs * k) new_state = states_alike k vs (All-tail (λ (v : ServersView). v ≡ new_servers k) v vs h) in
    let n : k + length vs * k ≡ length (v ∷ vs) * k = add_comm k (length vs * k) ∙ sym (suc-mul (length vs) k) in
    ap (λ (w : ServersView). w.states ++ states_of vs) a ∙ ap (λ (ss : List ServerState). replicate k new_state ++ ss) b ∙ replicate-append-replicate k (length vs * k) new_state ∙ ap (λ m. replicate m new_state) n

length_of : {A C : Type 0} (f : A → C) (xs : List A) → length (map f xs) ≡ length xs
length_of f [] = refl
length_of f (x ∷ xs) = ap suc (length_of f xs)

pub new_striped : {L : Type 0} (serving : L → ServersView) (k count n : ℕ) (xs : List L) (w : StripedView) → All (λ (x : L). serving x ≡ new_servers k) xs → w.servings ≡ map serving xs → w.given ≡ record { told = 0; carries = 0; strays = 0 } → length xs ≡ count → count * k ≡ n → serving_of w ≡ new_servers n
new_striped serving k count n xs w h es eg ec en =
    let states : states_of w.servings ≡ replicate n new_state = ap states_of es ∙ states_alike k (map serving xs) (All-map (λ (v : ServersView). v ≡ new_servers k) serving xs h) ∙ ap (λ m. replicate (m * k) new_state) (length_of serving xs ∙ ec) ∙ ap (λ m. replicate m new_state) en in
    ap (λ (ss : List ServerState). record { states = ss; told = w.given.told; carries = w.given.carries; strays = w.given.strays }) states ∙ ap (λ (g : Given). record { states = replicate n new_state; told = g.told; carries = g.carries; strays = g.strays }) eg
