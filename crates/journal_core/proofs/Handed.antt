-- Records that an opening handed out, taken one by one.
use Rattle.std.proofs.Common.{◌≡◌, ℕ, ◌+◌, ◌<◌, List, [], ◌∷◌, length, take, drop, slice_index_or, ◌∙◌, ap, arith, length-drop}
use Rattle.std.proofs.lemmas.List.{drop_more, take_all}

-- the record at this place is this one, and these stand behind it
pub record IsNext (records : List (List ℕ)) (index : ℕ) (next : List ℕ) (behind : List (List ℕ)) : Type 0 where
  pub within : index < length records
  pub value : next ≡ slice_index_or records index []
  pub behind_is : behind ≡ drop (index + 1) records

pub next_is : (records : List (List ℕ)) (index : ℕ) (next : List ℕ) (behind : List (List ℕ)) → next ∷ behind ≡ drop index records → IsNext records index next behind
next_is records index next behind is =
    let within : index < length records = omega (arith, ap length is, length-drop index records) in
    let split : next ∷ behind ≡ slice_index_or records index [] ∷ drop (index + 1) records = is ∙ drop_more records index [] within in
    record { within = within; value = cc; behind_is = cc }

-- the last of them was taken
pub all_taken : (records : List (List ℕ)) (index : ℕ) (behind : List (List ℕ)) → behind ≡ drop index records → length behind ≡ 0 → take index records ≡ records
all_taken records index behind is none = take_all index records (omega (arith, ap length is, none, length-drop index records))
