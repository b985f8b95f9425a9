-- The steps of the loops that read an entry.
use Rattle.std.proofs.Common.{◌≡◌, refl, sym, ap, ◌∙◌, ℕ, suc, ◌+◌, ◌<◌, ◌≤◌, true, false, cond, List, [], ◌∷◌, ◌++◌, Option, Some, None, arith, take, drop, get_or, length, append_assoc, append-nil, add-one, ◌*◌, ◌-◌, length-drop, length-append}
use Rattle.std.specs.Prelude.{nat_le}
use Rattle.std.specs.Option.{option_map, option_and_then}
use Rattle.std.proofs.lemmas.Bool.Decides.{nat_tests}
use Rattle.std.proofs.Math.Seq.{drop-cons}
use Rattle.delos_types.specs.Numbers.{Splits, u16_of}
use Rattle.delos_types.specs.declared.item.Item.{Item}
use Rattle.entry_codec.specs.Reading.{item_of}
use Rattle.engine_api.specs.declared.content.Content.{Content}
use Rattle.engine_api.specs.declared.content.Placed.{Placed}
use Rattle.engine_api.specs.Items.{lengths_of, items_from, content_of, contents_of, placed_from, placed_at}

-- these in front, where there are others
abbrev pub in_front : {A : Type 0} → List A → Option (List A) → Option (List A)
in_front xs None = None
in_front xs (Some ys) = Some (xs ++ ys)

pub lengths_of-none : (bytes : List ℕ) → length bytes < 2 → lengths_of bytes ≡ []
lengths_of-none [] h = refl
lengths_of-none (a ∷ []) h = refl
lengths_of-none (a ∷ b ∷ rest) h = absurd (omega arith)

pub lengths_of-split : (bytes : List ℕ) (n : ℕ) (rest : List ℕ) → Splits 2 u16_of bytes n rest → lengths_of bytes ≡ n ∷ lengths_of rest
lengths_of-split [] n rest h = absurd (let no : 2 ≤ 0 = h.long in omega arith)
lengths_of-split (a ∷ []) n rest h = absurd (let no : 2 ≤ 1 = h.long in omega arith)
lengths_of-split (a ∷ b ∷ bytes) n rest h = ap (λ m. m ∷ lengths_of bytes) (sym h.value) ∙ ap (λ l. n ∷ lengths_of l) (sym h.after)

pub fits_is : (n m : ℕ) → n ≤ m → nat_le n m ≡ true
fits_is n m h = grind (arith, nat_tests)

fits_not : (n m : ℕ) → m < n → nat_le n m ≡ false
fits_not n m h = grind (arith, nat_tests)

front_more : {A : Type 0} (xs : List A) (x : A) (o : Option (List A)) → in_front xs (option_map (λ ys. x ∷ ys) o) ≡ in_front (xs ++ x ∷ []) o
front_more xs x None = refl
front_more xs x (Some ys) = ap Some (sym (append_assoc xs (x ∷ []) ys))

pub items_from-more : (items : List Item) (n : ℕ) (ns rest : List ℕ) (i : Item) (total : Option (List Item)) → n ≤ length rest → item_of (take n rest) ≡ Some i → in_front items (items_from (n ∷ ns) rest) ≡ total → in_front (items ++ i ∷ []) (items_from ns (drop n rest)) ≡ total
items_from-more items n ns rest i total fits is e =
    sym (front_more items i (items_from ns (drop n rest)))
    ∙ ap (in_front items) (sym (ap (λ b. cond b (option_and_then (λ j. option_map (λ js. j ∷ js) (items_from ns (drop n rest))) (item_of (take n rest))) None) (fits_is n (length rest) fits)
    ∙ ap (option_and_then (λ j. option_map (λ js. j ∷ js) (items_from ns (drop n rest)))) is)) ∙ e

pub items_from-short : (items : List Item) (n : ℕ) (ns rest : List ℕ) (total : Option (List Item)) → length rest < n → in_front items (items_from (n ∷ ns) rest) ≡ total → None ≡ total
items_from-short items n ns rest total short e =
    ap (in_front items) (sym (ap (λ b. cond b (option_and_then (λ j. option_map (λ js. j ∷ js) (items_from ns (drop n rest))) (item_of (take n rest))) None) (fits_not n (length rest) short))) ∙ e

pub items_from-bad : (items : List Item) (n : ℕ) (ns rest : List ℕ) (total : Option (List Item)) → n ≤ length rest → item_of (take n rest) ≡ None → in_front items (items_from (n ∷ ns) rest) ≡ total → None ≡ total
items_from-bad items n ns rest total fits is e =
    ap (in_front items) (sym (ap (λ b. cond b (option_and_then (λ j. option_map (λ js. j ∷ js) (items_from ns (drop n rest))) (item_of (take n rest))) None) (fits_is n (length rest) fits)
    ∙ ap (option_and_then (λ j. option_map (λ js. j ∷ js) (items_from ns (drop n rest)))) is)) ∙ e

pub items_from-end : (items : List Item) (rest : List ℕ) (total : Option (List Item)) → rest ≡ [] → in_front items (items_from [] rest) ≡ total → Some items ≡ total
items_from-end items rest total none e = ap Some (sym (append-nil items)) ∙ ap (λ r. in_front items (items_from [] r)) (sym none) ∙ e

pub items_from-left : (items rest : _) (total : Option (List Item)) → 0 < length rest → in_front items (items_from [] rest) ≡ total → None ≡ total
items_from-left items [] total some e = absurd (omega arith)
items_from-left items (b ∷ bs) total some e = e

-- what stands in front, and the contents behind it
abbrev pub placed_behind : List Placed → ℕ → ℕ → Option (List Content) → List Placed
placed_behind front pos sub None = []
placed_behind front pos sub (Some cs) = front ++ placed_from pos sub cs

behind_more : (front : List Placed) (pos sub : ℕ) (c : Content) (o : Option (List Content)) → placed_behind front pos sub (option_map (λ cs. c ∷ cs) o) ≡ placed_behind (front ++ record { place = record { pos = pos; sub = sub }; content = c } ∷ []) pos (sub + 1) o
behind_more front pos sub c None = refl
behind_more front pos sub c (Some cs) = sym (append_assoc front (record { place = record { pos = pos; sub = sub }; content = c } ∷ []) (placed_from pos (sub + 1) cs))

pub placed-more : (front : List Placed) (pos sub : ℕ) (items : List Item) (i : Item) (c : Content) (total : List Placed) → sub < length items → i ≡ get_or items sub i → content_of i ≡ Some c
    → placed_behind front pos sub (contents_of (drop sub items)) ≡ total → placed_behind (front ++ record { place = record { pos = pos; sub = sub }; content = c } ∷ []) pos (sub + 1) (contents_of (drop (sub + 1) items)) ≡ total
placed-more front pos sub items i c total inside at is e =
    let rest = contents_of (drop (sub + 1) items) in
    let next : drop sub items ≡ i ∷ drop (sub + 1) items = drop-cons items sub i inside ∙ ap (λ y. y ∷ drop (suc sub) items) (sym at) ∙ ap (λ n. i ∷ drop n items) (sym (add-one sub)) in
    sym (behind_more front pos sub c rest)
    ∙ sym (ap (λ l. placed_behind front pos sub (contents_of l)) next ∙ ap (λ o. placed_behind front pos sub (option_and_then (λ d. option_map (λ cs. d ∷ cs) rest) o)) is) ∙ e

pub placed-bad : (front : List Placed) (pos sub : ℕ) (items : List Item) (i : Item) (total : List Placed) → sub < length items → i ≡ get_or items sub i → content_of i ≡ None
    → placed_behind front pos sub (contents_of (drop sub items)) ≡ total → [] ≡ total
placed-bad front pos sub items i total inside at is e =
    let rest = contents_of (drop (sub + 1) items) in
    let next : drop sub items ≡ i ∷ drop (sub + 1) items = drop-cons items sub i inside ∙ ap (λ y. y ∷ drop (suc sub) items) (sym at) ∙ ap (λ n. i ∷ drop n items) (sym (add-one sub)) in
    sym (ap (λ l. placed_behind front pos sub (contents_of l)) next ∙ ap (λ o. placed_behind front pos sub (option_and_then (λ d. option_map (λ cs. d ∷ cs) rest) o)) is) ∙ e

begins_at : (pos : ℕ) (o : Option (List Content)) → placed_behind [] pos 0 o ≡ placed_at pos o
begins_at pos None = refl
begins_at pos (Some cs) = refl

pub placed-none : (pos : ℕ) (items : List Item) → placed_behind [] pos 0 (contents_of (drop 0 items)) ≡ placed_at pos (contents_of items)
placed-none pos items = begins_at pos (contents_of items)

pub few-more : (items : List Item) (i : Item) (left : List ℕ) (n : ℕ) (rest : List ℕ) (total : ℕ) → Splits 2 u16_of left n rest → 2 * length items + length left ≤ total → 2 * length (items ++ i ∷ []) + length rest ≤ total
few-more items i left n rest total s few =
    let long : 2 ≤ length left = s.long in
    let shorter : length rest ≡ length left - 2 = ap length s.after ∙ length-drop 2 left in
    omega (arith, length-append items (i ∷ []))
