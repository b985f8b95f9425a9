-- What an entry holds by which a node reports or leaves, whatever the node's number.
use Rattle.std.proofs.Common.{◌≡◌, refl, sym, ap, ◌∙◌, ◌⊎◌, inl, inr, ℕ, ◌<◌, ◌≤◌, ◌^◌, ◌&&◌, ◌==◌, Bool, true, false, cond, [], ◌∷◌, ◌++◌, Some, None, length, take, drop, nat_le, arith, length-append, eq-eqb, leb-true}
use Rattle.std.specs.Prelude.{flat_map}
use Rattle.std.specs.Option.{option_map, option_and_then}
use Rattle.std.specs.Result.{result_ok}
use Rattle.std.proofs.lemmas.Bool.{and_parts}
use Rattle.std.proofs.lemmas.List.Elements.{All-from_recursion}
use Rattle.std.proofs.lemmas.List.Concat.{flat_map-cons}
use Rattle.std.proofs.Math.Seq.{take-append_seam, drop-append_seam}
use Rattle.delos_types.specs.Numbers.{u16_bytes, u64_bytes, u64_of}
use Rattle.delos_types.proofs.NumberLaws.{length-u16_bytes, length-u64_bytes, u16_of-u16_bytes}
use Rattle.delos_types.specs.Spelling.{IsSpellableItem, item_length}
use Rattle.delos_types.specs.declared.item.Header.{Header}
use Rattle.delos_types.specs.declared.item.Item.{Item}
use Rattle.entry_codec.specs.Format.{item_bytes}
use Rattle.entry_codec.specs.Reading.{item_of}
use Rattle.entry_codec.proofs.Spellings.{item_again}
use Rattle.entry_codec.proofs.HeaderLaws.{length-item_bytes}
use Rattle.engine_api.specs.Items.{lengths_of, items_from, batch_lengths, items_of, content_of, contents_of, placed_at, view_word, unpack}
use Rattle.engine_api.specs.Packing.{item_under, view_body, batch_body, packed}
use Rattle.engine_api.proofs.Unpacked.{fits_is}

-- a node's number, of which there are eight
abbrev pub IsNumber : ℕ → Type 0
IsNumber node = (1 ≤ node) × (node ≤ 8)

lengths_one : (n : ℕ) → n < 2 ^ 16 → lengths_of (u16_bytes n ++ []) ≡ n ∷ []
unfolding u16_bytes
lengths_one n small = ap (λ m. m ∷ []) (u16_of-u16_bytes n small)

module _ (tag node position : ℕ) where
  abbrev pub view : Item
  view = item_under 3 (view_body tag node position) []

  abbrev in_range : Bool
  in_range = (length (u64_bytes position) == 8) && nat_le 1 node && nat_le node 8

  -- of no node it says nothing
  pub view_number : IsNumber node ⊎ (content_of view ≡ None)
  view_number = by in_range refl
    where
      by : (b : Bool) → in_range ≡ b → IsNumber node ⊎ (content_of view ≡ None)
      by true e =
          let parts = and_parts ((length (u64_bytes position) == 8) && nat_le 1 node) (nat_le node 8) e in
          let low = (and_parts (length (u64_bytes position) == 8) (nat_le 1 node) parts.0).1 in
          inl (leb-true 1 node low, leb-true node 8 parts.1)
      by false e = inr (ap (λ b. cond b (view_word tag node (u64_of (u64_bytes position))) None) e)

  size : item_length view ≡ 16
  size = omega (arith, length-u64_bytes position)

  spelled : IsSpellableItem view
  spelled = record {
    rising = (omega arith, omega arith, tt);
    bodies = All-from_recursion (λ (h : Header). length h.body < 2 ^ 16) view.headers (let short : length (view_body tag node position) < 2 ^ 16 = omega (arith, length-u64_bytes position) in short, tt);
    payload = omega arith;
  }

  read_lengths : batch_lengths (batch_body (view ∷ [])) ≡ Some (item_length view ∷ [])
  read_lengths =
      let bytes = u16_bytes (item_length view) in
      let two : (length (bytes ++ []) == 2) ≡ true = eq-eqb (length (bytes ++ [])) 2 (omega (arith, length-append bytes [], length-u16_bytes (item_length view))) in
      ap (λ rest. cond (length rest == 2) (Some (lengths_of rest)) None) (flat_map-cons (λ (i : Item). u16_bytes (item_length i)) view [])
      ∙ ap (λ b. cond b (Some (lengths_of (bytes ++ []))) None) two
      ∙ ap Some (lengths_one (item_length view) (omega (arith, size)))

  read_item : items_from (item_length view ∷ []) (item_bytes view ++ []) ≡ Some (view ∷ [])
  read_item =
      let n = item_length view in
      let bytes = item_bytes view ++ [] in
      let long : n ≤ length bytes = omega (arith, length-append (item_bytes view) [], length-item_bytes view) in
      let front : take n bytes ≡ item_bytes view = ap (λ k. take k bytes) (sym (length-item_bytes view)) ∙ take-append_seam (item_bytes view) [] in
      let behind : drop n bytes ≡ [] = ap (λ k. drop k bytes) (sym (length-item_bytes view)) ∙ drop-append_seam (item_bytes view) [] in
      ap (λ b. cond b (option_and_then (λ i. option_map (λ is. i ∷ is) (items_from [] (drop n bytes))) (item_of (take n bytes))) None) (fits_is n (length bytes) long)
      ∙ ap (λ l. option_and_then (λ i. option_map (λ is. i ∷ is) (items_from [] (drop n bytes))) (item_of l)) front
      ∙ ap (option_and_then (λ i. option_map (λ is. i ∷ is) (items_from [] (drop n bytes)))) (ap result_ok (item_again (item_bytes view) view (refl, spelled)))
      ∙ ap (λ l. option_map (λ is. view ∷ is) (items_from [] l)) behind

  items_are : items_of (packed node (view ∷ [])) ≡ Some (view ∷ [])
  items_are =
      ap (option_and_then (λ ns. items_from ns (flat_map item_bytes (view ∷ [])))) read_lengths
      ∙ ap (items_from (item_length view ∷ [])) (flat_map-cons item_bytes view [])
      ∙ read_item

  -- the entry of one that says nothing holds none
  pub view_unpack : content_of view ≡ None → unpack 0 (packed node (view ∷ [])) ≡ []
  view_unpack none =
      ap (λ o. placed_at 0 (option_and_then contents_of o)) items_are
      ∙ ap (λ o. placed_at 0 (option_and_then (λ c. option_map (λ cs. c ∷ cs) (contents_of [])) o)) none
