-- What is packed is unpacked.
use Rattle.std.proofs.Common.{◌≡◌, refl, sym, ap, subst, ◌∙◌, ℕ, ◌+◌, ◌*◌, ◌<◌, ◌≤◌, ◌^◌, Bool, true, false, cond, ◌&&◌, List, [], ◌∷◌, ◌++◌, Option, Some, None, Result, Ok, Err, arith, take, drop, length, length-append}
use Rattle.std.specs.Prelude.{◌==◌, nat_le, IsSome, IfOk, map, filter_map, flat_map}
use Rattle.std.specs.List.{AllByRecursion, cons_option}
use Rattle.std.specs.Option.{option_map, option_and_then}
use Rattle.std.specs.Result.{result_ok}
use Rattle.std.proofs.lemmas.Bool.Decides.{nat_tests}
use Rattle.std.proofs.lemmas.List.Elements.{All-from_recursion, recursion_from_All}
use Rattle.std.proofs.lemmas.List.Concat.{flat_map-cons}
use Rattle.std.proofs.Math.Seq.{take-append_seam, drop-append_seam}
use Rattle.delos_types.specs.Numbers.{u16_bytes, u64_bytes, u16_of, u64_of}
use Rattle.delos_types.proofs.NumberLaws.{length-u16_bytes, length-u64_bytes, u16_of-u16_bytes, u64_of-u64_bytes}
use Rattle.delos_types.specs.Spelling.{IsSpellable, IsSpellableItem, item_length}
use Rattle.delos_types.specs.declared.item.Header.{Header}
use Rattle.delos_types.specs.declared.item.Item.{Item}
use Rattle.delos_types.specs.declared.entry.Entry.{Entry}
use Rattle.entry_codec.specs.Format.{item_bytes}
use Rattle.entry_codec.specs.Reading.{item_of}
use Rattle.entry_codec.proofs.Spellings.{item_again}
use Rattle.entry_codec.proofs.HeaderLaws.{length-item_bytes}
use Rattle.table_core.specs.Spelling as command_spelling
use Rattle.table_core.specs.Reading.{command_of}
use Rattle.table_core.proofs.Spellings.{command_of-text, length-command_text}
use Rattle.table_core.specs.declared.command.Command.{Command}
use Rattle.engine_api.specs.declared.content.Content.{Content}
use Rattle.engine_api.specs.declared.content.Content.TheVariants.{Session, Alive, Leave, Trim}
use Rattle.engine_api.specs.Items.{session_in, rank_in, is_session_body, view_word, lengths_of, items_from, batch_lengths, items_of, content_of, contents_of, placed_from, placed_at, unpack}
use Rattle.engine_api.specs.Packing.{item_under, session_item, view_body, alive_item, leave_item, trim_item, batch_body, packed, IsProposable, IsBatch}
use Rattle.engine_api.proofs.Unpacked.{fits_is}

-- what an item says

take_two : (n : ℕ) (rest : List ℕ) → take 2 (u16_bytes n ++ rest) ≡ u16_bytes n
take_two n rest = ap (λ k. take k (u16_bytes n ++ rest)) (sym (length-u16_bytes n)) ∙ take-append_seam (u16_bytes n) rest

drop_two : (n : ℕ) (rest : List ℕ) → drop 2 (u16_bytes n ++ rest) ≡ rest
drop_two n rest = ap (λ k. drop k (u16_bytes n ++ rest)) (sym (length-u16_bytes n)) ∙ drop-append_seam (u16_bytes n) rest

session_in-body : (s r : ℕ) → s < 2 ^ 16 → session_in (u16_bytes s ++ u64_bytes r) ≡ s
session_in-body s r small = ap u16_of (take_two s (u64_bytes r)) ∙ u16_of-u16_bytes s small

rank_in-body : (s r : ℕ) → r < 2 ^ 64 → rank_in (u16_bytes s ++ u64_bytes r) ≡ r
rank_in-body s r small = ap u64_of (drop_two s (u64_bytes r)) ∙ u64_of-u64_bytes r small

length-session_body : (s r : ℕ) → length (u16_bytes s ++ u64_bytes r) ≡ 10
length-session_body s r = omega (arith, length-append (u16_bytes s) (u64_bytes r), length-u16_bytes s, length-u64_bytes r)

is_number : (a b : ℕ) → a ≡ b → (a == b) ≡ true
is_number a b e = grind (arith, nat_tests)

three : (a b c : Bool) → a ≡ true → b ≡ true → c ≡ true → (a && b && c) ≡ true
three a b c p q r = cc (ap (λ x. x && b && c) p, ap (λ y. true && y && c) q, r)

is_session_body-true : (s r : ℕ) → s ≤ 63 → 1 ≤ r → r < 2 ^ 64 → is_session_body (u16_bytes s ++ u64_bytes r) ≡ true
is_session_body-true s r low one small =
    let body = u16_bytes s ++ u64_bytes r in
    three _ _ _ (is_number _ _ (length-session_body s r))
    (ap (λ n. nat_le n 63) (session_in-body s r (omega arith)) ∙ fits_is s 63 low)
    (ap (λ n. nat_le 1 n) (rank_in-body s r small) ∙ fits_is 1 r one)

pub content_of-session : (s r : ℕ) (c : Command) → s ≤ 63 → 1 ≤ r → r < 2 ^ 64 → command_spelling.IsSpellable c → content_of (session_item s r c) ≡ Some (Session s r (Some c))
content_of-session s r c low one small spellable =
    let body = u16_bytes s ++ u64_bytes r in
    ap (λ b. cond b (Some (Session (session_in body) (rank_in body) (command_of (command_spelling.command_text c)))) None) (is_session_body-true s r low one small)
    ∙ ap (λ n. Some (Session n (rank_in body) (command_of (command_spelling.command_text c)))) (session_in-body s r (omega arith))
    ∙ ap (λ n. Some (Session s n (command_of (command_spelling.command_text c)))) (rank_in-body s r small)
    ∙ ap (λ o. Some (Session s r o)) (command_of-text c spellable)

view_content-is : (tag node position : ℕ) → 1 ≤ node → node ≤ 8 → position < 2 ^ 64 → content_of (item_under 3 (view_body tag node position) []) ≡ view_word tag node position
view_content-is tag node position low high small =
    ap (λ b. cond b (view_word tag node (u64_of (u64_bytes position))) None) (three _ _ _ (is_number _ _ (length-u64_bytes position)) (fits_is 1 node low) (fits_is node 8 high))
    ∙ ap (view_word tag node) (u64_of-u64_bytes position small)

pub content_of-alive : (node position : ℕ) → 1 ≤ node → node ≤ 8 → position < 2 ^ 64 → content_of (alive_item node position) ≡ Some (Alive node position)
content_of-alive node position low high small = view_content-is 1 node position low high small

pub content_of-leave : (node : ℕ) → 1 ≤ node → node ≤ 8 → content_of (leave_item node) ≡ Some (Leave node)
content_of-leave node low high = view_content-is 2 node 0 low high (omega arith)

pub content_of-trim : (position : ℕ) → position < 2 ^ 64 → content_of (trim_item position) ≡ Some (Trim position)
content_of-trim position small =
    ap (λ b. cond b (Some (Trim (u64_of (u64_bytes position)))) None) (is_number _ _ (length-u64_bytes position)) ∙ ap (λ n. Some (Trim n)) (u64_of-u64_bytes position small)

-- an entry may hold it

proposable : (kind : ℕ) (body payload : List ℕ) (c : Content) → 1 ≤ kind → kind < 256 → length body + length payload ≤ 994 → content_of (item_under kind body payload) ≡ Some c → IsProposable (item_under kind body payload)
proposable kind body payload c low high small says = record {
  spellable = record {
    rising = (low, high, tt);
    bodies = All-from_recursion (λ (h : Header). length h.body < 2 ^ 16) (record { kind = kind; body = body } ∷ []) (let short : length body < 2 ^ 16 = omega arith in (short, tt));
    payload = omega arith;
  };
  small = omega arith;
  says = subst IsSome (sym says) refl;
}

pub proposable-session : (s r : ℕ) (c : Command) → s ≤ 63 → 1 ≤ r → r < 2 ^ 64 → command_spelling.IsSpellable c → command_spelling.command_length c ≤ 984 → IsProposable (session_item s r c)
proposable-session s r c low one small spellable short =
    proposable 2 (u16_bytes s ++ u64_bytes r) (command_spelling.command_text c) (Session s r (Some c)) (omega arith) (omega arith)
    (omega (arith, length-session_body s r, length-command_text c)) (content_of-session s r c low one small spellable)

pub proposable-alive : (node position : ℕ) → 1 ≤ node → node ≤ 8 → position < 2 ^ 64 → IsProposable (alive_item node position)
proposable-alive node position low high small =
    proposable 3 (view_body 1 node position) [] (Alive node position) (omega arith) (omega arith) (omega (arith, length-u64_bytes position)) (content_of-alive node position low high small)

pub proposable-leave : (node : ℕ) → 1 ≤ node → node ≤ 8 → IsProposable (leave_item node)
proposable-leave node low high =
    proposable 3 (view_body 2 node 0) [] (Leave node) (omega arith) (omega arith) (omega (arith, length-u64_bytes 0)) (content_of-leave node low high)

pub proposable-trim : (position : ℕ) → position < 2 ^ 64 → IsProposable (trim_item position)
proposable-trim position small =
    proposable 4 (u64_bytes position) [] (Trim position) (omega arith) (omega arith) (omega (arith, length-u64_bytes position)) (content_of-trim position small)

-- what was made is this item
pub ok_item : {E : Type 0} (r : Result Item E) (P : Item → Type 0) (i : Item) → P i → IfOk r (λ made. made ≡ i) → IfOk r P
ok_item (Ok made) P i h e = subst P (sym e) h
ok_item (Err x) P i h e = tt

-- what an entry holds

lengths_of-append : (n : ℕ) (rest : List ℕ) → n < 2 ^ 16 → lengths_of (u16_bytes n ++ rest) ≡ n ∷ lengths_of rest
unfolding u16_bytes
lengths_of-append n rest small = ap (λ m. m ∷ lengths_of rest) (u16_of-u16_bytes n small)

lengths_of-items : (items : List Item) → AllByRecursion IsProposable items → lengths_of (flat_map (λ i. u16_bytes (item_length i)) items) ≡ map item_length items
lengths_of-items [] each = refl
lengths_of-items (i ∷ is) each =
    ap lengths_of (flat_map-cons (λ (j : Item). u16_bytes (item_length j)) i is)
    ∙ lengths_of-append (item_length i) (flat_map (λ j. u16_bytes (item_length j)) is) (let small : item_length i < 2 ^ 16 = omega (arith, each.0.small) in small)
    ∙ ap (λ l. item_length i ∷ l) (lengths_of-items is each.1)

item_of-bytes : (i : Item) → IsSpellableItem i → item_of (item_bytes i) ≡ Some i
item_of-bytes i s = ap result_ok (item_again (item_bytes i) i (refl, s))

items_from-one : (i : Item) (ns rest : List ℕ) → IsSpellableItem i → items_from (item_length i ∷ ns) (item_bytes i ++ rest) ≡ option_map (λ is. i ∷ is) (items_from ns rest)
items_from-one i ns rest s =
    let bytes = item_bytes i ++ rest in
    let long : item_length i ≤ length bytes = omega (arith, length-append (item_bytes i) rest, length-item_bytes i) in
    let front : take (item_length i) bytes ≡ item_bytes i = ap (λ n. take n bytes) (sym (length-item_bytes i)) ∙ take-append_seam (item_bytes i) rest in
    let behind : drop (item_length i) bytes ≡ rest = ap (λ n. drop n bytes) (sym (length-item_bytes i)) ∙ drop-append_seam (item_bytes i) rest in
    ap (λ b. cond b (option_and_then (λ j. option_map (λ js. j ∷ js) (items_from ns (drop (item_length i) bytes))) (item_of (take (item_length i) bytes))) None) (fits_is (item_length i) (length bytes) long)
    ∙ ap (λ l. option_and_then (λ j. option_map (λ js. j ∷ js) (items_from ns (drop (item_length i) bytes))) (item_of l)) front
    ∙ ap (option_and_then (λ j. option_map (λ js. j ∷ js) (items_from ns (drop (item_length i) bytes)))) (item_of-bytes i s)
    ∙ ap (λ l. option_map (λ js. i ∷ js) (items_from ns l)) behind

items_from-items : (items : List Item) → AllByRecursion IsProposable items → items_from (map item_length items) (flat_map item_bytes items) ≡ Some items
items_from-items [] each = refl
items_from-items (i ∷ is) each =
    ap (items_from (item_length i ∷ map item_length is)) (flat_map-cons item_bytes i is)
    ∙ items_from-one i (map item_length is) (flat_map item_bytes is) each.0.spellable
    ∙ ap (option_map (λ js. i ∷ js)) (items_from-items is each.1)

contents_of-one : (i : Item) (is : List Item) (o : Option Content) → content_of i ≡ o → IsSome o → contents_of is ≡ Some (filter_map content_of is) → contents_of (i ∷ is) ≡ Some (filter_map content_of (i ∷ is))
contents_of-one i is None e says rest = absurd (let no : false ≡ true = says in cc)
contents_of-one i is (Some c) e says rest =
    ap (option_and_then (λ d. option_map (λ cs. d ∷ cs) (contents_of is))) e ∙ ap (option_map (λ cs. c ∷ cs)) rest
    ∙ ap Some (sym (ap (λ o. cons_option o (filter_map content_of is)) e))

contents_of-items : (items : List Item) → AllByRecursion IsProposable items → contents_of items ≡ Some (filter_map content_of items)
contents_of-items [] each = refl
contents_of-items (i ∷ is) each = contents_of-one i is (content_of i) refl each.0.says (contents_of-items is each.1)

length-lengths : (items : List Item) → length (flat_map (λ i. u16_bytes (item_length i)) items) ≡ 2 * length items
length-lengths [] = refl
length-lengths (i ∷ is) =
    let parts : length (flat_map (λ j. u16_bytes (item_length j)) (i ∷ is)) ≡ length (u16_bytes (item_length i)) + length (flat_map (λ j. u16_bytes (item_length j)) is) =
    ap length (flat_map-cons (λ (j : Item). u16_bytes (item_length j)) i is) ∙ length-append (u16_bytes (item_length i)) (flat_map (λ j. u16_bytes (item_length j)) is) in
    omega (arith, parts, length-u16_bytes (item_length i), length-lengths is)

length-items : (items : List Item) → AllByRecursion IsProposable items → length (flat_map item_bytes items) ≤ 1000 * length items
length-items [] each = omega arith
length-items (i ∷ is) each =
    let parts : length (flat_map item_bytes (i ∷ is)) ≡ length (item_bytes i) + length (flat_map item_bytes is) = ap length (flat_map-cons item_bytes i is) ∙ length-append (item_bytes i) (flat_map item_bytes is) in
    omega (arith, parts, length-item_bytes i, each.0.small, length-items is each.1)

batch_lengths-body : (items : List Item) → IsBatch items → batch_lengths (batch_body items) ≡ Some (map item_length items)
batch_lengths-body items b =
    let each : AllByRecursion IsProposable items = recursion_from_All IsProposable items b.each in
    ap (λ t. cond t (Some (lengths_of (flat_map (λ i. u16_bytes (item_length i)) items))) None)
    (three _ _ _ (fits_is 1 (length items) b.some) (fits_is (length items) 16 b.few) (is_number _ _ (length-lengths items)))
    ∙ ap Some (lengths_of-items items each)

pub items_of-packed : (origin : ℕ) (items : List Item) → IsBatch items → items_of (packed origin items) ≡ Some items
items_of-packed origin items b =
    ap (option_and_then (λ ns. items_from ns (flat_map item_bytes items))) (batch_lengths-body items b)
    ∙ items_from-items items (recursion_from_All IsProposable items b.each)

pub unpack-packed : (origin : ℕ) (items : List Item) (pos : ℕ) → IsBatch items → unpack pos (packed origin items) ≡ placed_from pos 0 (filter_map content_of items)
unpack-packed origin items pos b =
    ap (λ o. placed_at pos (option_and_then contents_of o)) (items_of-packed origin items b)
    ∙ ap (placed_at pos) (contents_of-items items (recursion_from_All IsProposable items b.each))

pub spellable-packed : (origin : ℕ) (items : List Item) → 1 ≤ origin → origin ≤ 8 → IsBatch items → IsSpellable (packed origin items)
spellable-packed origin items low high b = record {
  origin = (low, high);
  rising = (omega arith, omega arith, tt);
  small = omega (arith, length-lengths items, length-items items (recursion_from_All IsProposable items b.each), b.few);
}

-- the entry that was made is the packed one
pub ok_entry : {E : Type 0} (r : Result Entry E) (P : Entry → Type 0) (e : Entry) → P e → IfOk r (λ made. made ≡ e) → IfOk r P
ok_entry (Ok made) P i h e = subst P (sym e) h
ok_entry (Err x) P i h e = tt
