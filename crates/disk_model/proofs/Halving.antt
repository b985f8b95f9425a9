-- The last of the changes since the last sync.
use Rattle.std.proofs.Common.{◌≡◌, ℕ, ◌+◌, ◌-◌, ◌/◌, ◌<◌, ◌≤◌, List, [], ◌∷◌, ◌++◌, length, get_or, take, refl, sym, ◌∙◌, ap, subst, arith, length-append, length-take}
use Rattle.std.proofs.lemmas.List.{append-nil, take_all, take_more}
use Rattle.disk_model.specs.Disk.{Change, Written, CutTo, changed, replayed}
use Rattle.disk_model.specs.Crash.{high}
use Rattle.disk_model.specs.Memory.{halved, changes_of}
use Rattle.disk_model.specs.declared.event.Event.{Event}
use Rattle.disk_model.specs.declared.event.Event.TheVariants.{Write, Cut, Sync, Reopen}
use Rattle.disk_model.proofs.Images.{high_start, length-changed}
use Rattle.disk_model.proofs.Keeping.{changes_append, replayed_push, high_push}

pub changes_fewer : (es : List Event) → length (changes_of es) ≤ length es
changes_fewer [] = omega arith
changes_fewer (Write at v ∷ es) = omega (arith, changes_fewer es)
changes_fewer (Cut n ∷ es) = omega (arith, changes_fewer es)
changes_fewer (Sync ∷ es) = omega (arith, changes_fewer es)
changes_fewer (Reopen w ∷ es) = omega (arith, changes_fewer es)

abbrev half : Change → List Change
half (Written at bytes) = Written at (take (length bytes / 2) bytes) ∷ []
half (CutTo n) = []

halved_push : (cs : List Change) (c : Change) → halved (cs ++ c ∷ []) ≡ cs ++ half c
halved_push [] (Written at bytes) = refl
halved_push [] (CutTo n) = refl
halved_push (Written at bytes ∷ []) c = ap (λ (l : List Change). Written at bytes ∷ l) (halved_push [] c)
halved_push (CutTo n ∷ []) c = ap (λ (l : List Change). CutTo n ∷ l) (halved_push [] c)
halved_push (Written at bytes ∷ e ∷ cs) c = ap (λ (l : List Change). Written at bytes ∷ l) (halved_push (e ∷ cs) c)
halved_push (CutTo n ∷ e ∷ cs) c = ap (λ (l : List Change). CutTo n ∷ l) (halved_push (e ∷ cs) c)

high_front : (xs ys : List Change) (b : List ℕ) (room : ℕ) → high (xs ++ ys) b ≤ room → high xs b ≤ room
high_front [] ys b room le = omega (arith, high_start ys b, le)
high_front (x ∷ xs) ys b room le = omega (arith, high_front xs ys (changed x b) room (omega (arith, le)), le)

module _ (front : List Event) (b : List ℕ) where
  abbrev cs : List Change
  cs = changes_of front

  pub half_write : (at : ℕ) (v : _) (all : List Event) → all ≡ front ++ Write at v ∷ [] → replayed (halved (changes_of all)) b ≡ changed (Written at (take (length v.items / 2) v.items)) (replayed cs b)
  half_write at v all is =
      let one : changes_of all ≡ cs ++ Written at v.items ∷ [] = ap changes_of is ∙ changes_append front (Write at v ∷ []) in
      ap (λ (l : List Change). replayed (halved l) b) one ∙ ap (λ (l : List Change). replayed l b) (halved_push cs (Written at v.items))
      ∙ replayed_push cs (Written at (take (length v.items / 2) v.items)) b

  pub half_cut : (n : ℕ) (all : List Event) → all ≡ front ++ Cut n ∷ [] → replayed (halved (changes_of all)) b ≡ replayed cs b
  half_cut n all is =
      let one : changes_of all ≡ cs ++ CutTo n ∷ [] = ap changes_of is ∙ changes_append front (Cut n ∷ []) in
      ap (λ (l : List Change). replayed (halved l) b) one ∙ ap (λ (l : List Change). replayed l b) (halved_push cs (CutTo n) ∙ append-nil cs)

  pub front_room : (last : Event) (all : List Event) (room : ℕ) → all ≡ front ++ last ∷ [] → high (changes_of all) b ≤ room → high cs b ≤ room
  front_room last all room is le = high_front cs (changes_of (last ∷ [])) b room (subst (λ (l : List Change). high l b ≤ room) (ap changes_of is ∙ changes_append front (last ∷ [])) le)

  pub half_room : (at : ℕ) (v : _) (all : List Event) (room : ℕ) (half_bytes x : List ℕ) → all ≡ front ++ Write at v ∷ [] → high (changes_of all) b ≤ room → length half_bytes ≤ length v.items → x ≡ replayed cs b → length (changed (Written at half_bytes) x) ≤ room
  half_room at v all room half_bytes x is le short same =
      let one : changes_of all ≡ cs ++ Written at v.items ∷ [] = ap changes_of is ∙ changes_append front (Write at v ∷ []) in
      let most : high (cs ++ Written at v.items ∷ []) b ≤ room = subst (λ (l : List Change). high l b ≤ room) one le in
      omega (arith, most, high_push cs (Written at v.items) b, length-changed at v.items (replayed cs b), length-changed at half_bytes x, ap length same, short)

pub last_split : (es : List Event) (n : ℕ) (e : Event) → n ≡ length es - 1 → 0 < length es → e ≡ get_or es n e → es ≡ take n es ++ e ∷ []
last_split es n e is some at = sym (take_all (n + 1) es (omega (arith, is, some))) ∙ take_more es n e (omega (arith, is, some)) ∙ ap (λ (x : Event). take n es ++ x ∷ []) (sym at)

pub last_any : (es : List Event) (n : ℕ) → n ≡ length es - 1 → 0 < length es → es ≡ take n es ++ get_or es n Sync ∷ []
last_any es n is some = sym (take_all (n + 1) es (omega (arith, is, some))) ∙ take_more es n Sync (omega (arith, is, some))

-- no other event stands there
pub not_last : (es : List Event) (n : ℕ) (e : Event) → n ≡ length es - 1 → 0 < length es → length (changes_of es) ≡ length es → es ≡ take n es ++ e ∷ [] → changes_of (e ∷ []) ≡ [] → ⊥
not_last es n e is some all split none = omega (
  arith,
  all,
  some,
  is,
  changes_fewer (take n es),
  length-take n es,
  ap (λ (l : List Event). length (changes_of l)) split,
  ap length (changes_append (take n es) (e ∷ [])),
  length-append (changes_of (take n es)) (changes_of (e ∷ [])),
  ap length none,
)
