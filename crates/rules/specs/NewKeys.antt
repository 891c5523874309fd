-- The body of PUT KEY, 67 bytes: a version, 01 to 7F, and three keys; each is an algorithm byte, 10, the sixteen bytes of the
-- key as it comes, enciphered, 03, and three check bytes.
use Rattle.std.specs.Prelude.{ℕ, cond, ◌&&◌, List, [], ◌∷◌, ◌++◌, length, take, drop, Some, None, Option, ◌==◌, slice_index}
use Rattle.std.specs.Option.{option_map}
use Rattle.contents.specs.Changes.{is_version}
use Rattle.rules.specs.declared.new_keys.KeyField.{KeyField}
use Rattle.rules.specs.declared.new_keys.NewKeys.{NewKeys}
use Rattle.rules.specs.declared.new_keys.KeyReceipt.{KeyReceipt}
use Rattle.rules.specs.Rules.{and_then}

abbrev pub field_of : List ℕ → KeyField
field_of f = record { algorithm = slice_index f 0; key = take 16 (drop 2 f); check = take 3 (drop 19 f) }

abbrev pub field_in : List ℕ → Option KeyField
field_in f = cond (slice_index f 1 == 0x10 && slice_index f 18 == 0x03) (Some (field_of f)) None

-- a field alone
abbrev pub whole_field : List ℕ → Option KeyField
whole_field f = cond (length f == 22) (field_in f) None

abbrev pub fields_in : List ℕ → Option NewKeys
fields_in body =
    and_then (field_in (take 22 (drop 1 body)))
    (λ enc. and_then (field_in (take 22 (drop 23 body)))
    (λ mac. option_map (λ kek. record { version = slice_index body 0; enc = enc; mac = mac; kek = kek }) (field_in (take 22 (drop 45 body)))))

abbrev pub new_keys_in : List ℕ → Option NewKeys
new_keys_in body = cond (length body == 67 && is_version (slice_index body 0)) (fields_in body) None

-- the keys of the three fields, as they come
abbrev pub keys_in : List ℕ → List (List ℕ)
keys_in body = (field_of (take 22 (drop 1 body))).key ∷ (field_of (take 22 (drop 23 body))).key ∷ (field_of (take 22 (drop 45 body))).key ∷ []

-- the version and the check bytes, as they came
abbrev pub receipt_of : NewKeys → List ℕ
receipt_of n = n.version ∷ (n.enc.check ++ (n.mac.check ++ n.kek.check))

abbrev pub key_receipt_bytes : KeyReceipt → List ℕ
key_receipt_bytes r = r.bytes
