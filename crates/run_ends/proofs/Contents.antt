-- What the items of entries of lines say.
use Rattle.std.proofs.Common.{◌≡◌, refl, sym, subst, ℕ, ◌+◌, ◌≤◌, List, [], ◌∷◌, ◌++◌, Option, Some, None, length, arith}
use Rattle.std.specs.Prelude.{filter_map, All, Contains}
use Rattle.std.specs.List.{AllByRecursion, cons_option}
use Rattle.std.specs.Option.{option_and_then}
use Rattle.std.proofs.lemmas.List.Elements.{All-nil, All-cons, All-append, All-from_recursion, All-contains, filter_map-append}
use Rattle.delos_types.specs.declared.entry.Entry.{Entry}
use Rattle.delos_types.specs.declared.item.Item.{Item}
use Rattle.delos_types.specs.declared.place.Place.{Place}
use Rattle.engine_api.specs.declared.content.Content.{Content}
use Rattle.engine_api.specs.declared.content.Content.TheVariants.{Session, Alive, Leave, Trim}
use Rattle.engine_api.specs.declared.content.Placed.{Placed}
use Rattle.engine_api.specs.Items.{content_of, contents_of, items_of, placed_from, placed_at, unpack}
use Rattle.engine_api.specs.Acted.{Asked, appearance_of, appearances, unpack_all}
use Rattle.engine_api.specs.Packing.{packed, IsBatch, IsProposable}
use Rattle.engine_api.proofs.Packed.{unpack-packed}

all-append : {A : Type 0} (P : A → Type 0) (xs ys : List A) → AllByRecursion P xs → AllByRecursion P ys → AllByRecursion P (xs ++ ys)
all-append P [] ys h k = k
all-append P (x ∷ xs) ys h k = (h.0, all-append P xs ys h.1 k)

-- what holds of each element holds of each that is contained
pub all-contained : {A : Type 0} (P : A → Type 0) (xs : List A) (x : A) → AllByRecursion P xs → Contains xs x → P x
all-contained P xs x h = All-contains P xs x (All-from_recursion P xs h)

-- what stands somewhere says the same as elsewhere

module _ (P : Content → Type 0) where
  pub from_placed : (pos sub : ℕ) (cs : List Content) → AllByRecursion (λ p. P p.content) (placed_from pos sub cs) → AllByRecursion P cs
  from_placed pos sub [] h = tt
  from_placed pos sub (c ∷ cs) h = (h.0, from_placed pos (sub + 1) cs h.1)

  pub to_placed : (pos sub : ℕ) (cs : List Content) → AllByRecursion P cs → AllByRecursion (λ p. P p.content) (placed_from pos sub cs)
  to_placed pos sub [] h = tt
  to_placed pos sub (c ∷ cs) h = (h.0, to_placed pos (sub + 1) cs h.1)

  moved : (pos other : ℕ) (o : Option (List Content)) → AllByRecursion (λ p. P p.content) (placed_at pos o) → AllByRecursion (λ p. P p.content) (placed_at other o)
  moved pos other None h = tt
  moved pos other (Some cs) h = to_placed other 0 cs (from_placed pos 0 cs h)

  pub unpack-moved : (pos other : ℕ) (e : Entry) → AllByRecursion (λ p. P p.content) (unpack pos e) → AllByRecursion (λ p. P p.content) (unpack other e)
  unpack-moved pos other e h = moved pos other (option_and_then contents_of (items_of e)) h

  -- of all entries of a log
  pub unpack_all-has : (pos : ℕ) (log : List Entry) → AllByRecursion (λ e. AllByRecursion (λ p. P p.content) (unpack 0 e)) log → AllByRecursion (λ p. P p.content) (unpack_all pos log)
  unpack_all-has pos [] h = tt
  unpack_all-has pos (e ∷ es) h = all-append (λ (p : Placed). P p.content) (unpack pos e) (unpack_all (pos + 1) es) (unpack-moved 0 pos e h.0) (unpack_all-has (pos + 1) es h.1)

  -- an entry of items says what they say

  pub from_packed : (origin : ℕ) (items : List Item) → IsBatch items → AllByRecursion (λ p. P p.content) (unpack 0 (packed origin items)) → AllByRecursion P (filter_map content_of items)
  from_packed origin items b h = from_placed 0 0 (filter_map content_of items) (subst (AllByRecursion (λ (p : Placed). P p.content)) (unpack-packed origin items 0 b) h)

  pub to_packed : (origin : ℕ) (items : List Item) → IsBatch items → AllByRecursion P (filter_map content_of items) → AllByRecursion (λ p. P p.content) (unpack 0 (packed origin items))
  to_packed origin items b h = subst (AllByRecursion (λ (p : Placed). P p.content)) (sym (unpack-packed origin items 0 b)) (to_placed 0 0 (filter_map content_of items) h)

  pub one : (item : Item) → IsProposable item → IsBatch (item ∷ [])
  one item fine = record { some = omega arith; few = omega arith; each = All-cons IsProposable item [] fine (All-nil IsProposable) }

  length-snoc : (xs : List Item) (x : Item) → length (xs ++ x ∷ []) ≡ length xs + 1
  length-snoc [] x = refl
  length-snoc (y ∷ ys) x = let rest = length-snoc ys x in omega arith

  pub joined : (origin : ℕ) (items : List Item) (item : Item) → 1 ≤ length items → All IsProposable items → length items ≤ 15 → IsProposable item
      → AllByRecursion (λ p. P p.content) (unpack 0 (packed origin items)) → AllByRecursion (λ p. P p.content) (unpack 0 (packed origin (item ∷ [])))
      → AllByRecursion (λ p. P p.content) (unpack 0 (packed origin (items ++ item ∷ [])))
  joined origin items item some all few fine h k =
      let old : IsBatch items = record { some = some; few = omega arith; each = all } in
      let whole : IsBatch (items ++ item ∷ []) = record {
        some = omega (arith, length-snoc items item);
        few = omega (arith, length-snoc items item);
        each = All-append IsProposable items (item ∷ []) all (All-cons IsProposable item [] fine (All-nil IsProposable));
      } in
      to_packed origin (items ++ item ∷ []) whole
      (subst (AllByRecursion P) (sym (filter_map-append content_of items (item ∷ [])))
      (all-append P (filter_map content_of items) (filter_map content_of (item ∷ [])) (from_packed origin items old h) (from_packed origin (item ∷ []) (one item fine) k)))

-- what holds of each rank that some items have holds of each that appears
pub appearances-has : (P : Content → Type 0) (Q : Asked → Type 0) → ((place : Place) (s r : ℕ) (c : _) → P (Session s r c) → Q (record { place = place; session = s; rank = r; command = c }))
    → (ps : List Placed) → AllByRecursion (λ p. P p.content) ps → AllByRecursion Q (appearances ps)
appearances-has P Q each [] h = tt
appearances-has P Q each (p ∷ ps) h = by_content p.content h.0 (appearances-has P Q each ps h.1)
  where
    by_content : (c : Content) → P c → AllByRecursion Q (appearances ps) → AllByRecursion Q (cons_option (appearance_of p.place c) (appearances ps))
    by_content (Session s r c) h k = (each p.place s r c h, k)
    by_content (Alive node position) h k = k
    by_content (Leave node) h k = k
    by_content (Trim position) h k = k
