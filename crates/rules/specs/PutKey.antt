-- PUT KEY: P1 is 00, or the version of the set to replace, up to 7F, and P2 is 81, or 6A86; a card in CM_LOCKED answers 6985.
-- A body of another form is 6A80. A key for another algorithm is 9484. Without a set of version P1, 6A88; where the new version
-- is that of a set that is not replaced, 6A80; where P1 is 00 and there are four sets, 6A84. The keys are deciphered under the
-- key-encrypting key, and eight bytes 00 enciphered under each must begin with its check bytes, or 9485. A new set comes last, a
-- replaced one stays in its place. The answer is the version and the nine check bytes.
use Rattle.std.specs.Prelude.{ℕ, Bool, cond, not, ◌&&◌, List, [], ◌++◌, map, length, take, drop, Some, None, Ok, Err, Option, Result, ◌==◌, nat_le, slice_index_or}
use Rattle.std.specs.Option.{option_map}
use Rattle.std.specs.Str.{bytes_eq}
use Rattle.answers.specs.declared.StatusWord.{StatusWord}
use Rattle.answers.specs.declared.StatusWord.TheVariants.{Success, WrongParameters, WrongData, NotFound, NotEnoughSpace, AlgorithmUnknown, CheckValueWrong}
use Rattle.answers.specs.Replies.{Reply, reply}
use Rattle.cipher.specs.Blocks.{Direction, Algorithm, zeros}
use Rattle.contents.specs.declared.records.KeySet.{KeySet}
use Rattle.contents.specs.Records.{has_version}
use Rattle.contents.specs.Held.{Held, any}
use Rattle.contents.specs.Changes.{borne_by_other, with_new_set, with_replaced_set}
use Rattle.rules.specs.declared.new_keys.KeyField.{KeyField}
use Rattle.rules.specs.declared.new_keys.NewKeys.{NewKeys}
use Rattle.rules.specs.Rules.{refused, unless_locked, and_then}
use Rattle.rules.specs.NewKeys.{new_keys_in, keys_in, receipt_of}

-- each half deciphered
abbrev pub unwrapped : (List ℕ → List ℕ) → List ℕ → List ℕ
unwrapped dec key = dec (take 8 (drop 0 key)) ++ dec (take 8 (drop 8 key))

abbrev pub passing : Direction → List ℕ → List ℕ → Option (List ℕ)
passing enc check key = cond (bytes_eq (take 3 (enc key zeros)) check) (Some key) None

-- the key of a field, if its check bytes are right
abbrev pub key_in : Direction → (List ℕ → List ℕ) → KeyField → Option (List ℕ)
key_in enc dec f = passing enc f.check (unwrapped dec f.key)

abbrev pub key_set_from : Direction → (List ℕ → List ℕ) → NewKeys → Option KeySet
key_set_from enc dec n =
    and_then (key_in enc dec n.enc)
    (λ e. and_then (key_in enc dec n.mac)
    (λ m. option_map (λ k. record { version = n.version; keys = record { enc = e; mac = m; kek = k } }) (key_in enc dec n.kek)))

abbrev pub own_algorithm : ℕ → NewKeys → Bool
own_algorithm own n =
    (n.enc.algorithm == own) && (n.mac.algorithm == own && n.kek.algorithm == own)

-- whether there is a place for a set of a new version
abbrev pub place_for : ℕ → ℕ → List KeySet → Result (Unit {0}) StatusWord
place_for p1 new ks =
    cond (not (p1 == 0x00) && not (any (has_version p1) ks)) (Err NotFound)
    (cond (borne_by_other p1 new ks) (Err WrongData)
    (cond (p1 == 0x00 && nat_le 4 (length ks)) (Err NotEnoughSpace)
    (Ok tt)))

-- the three keys of a body, deciphered
abbrev pub deciphered_keys : (List ℕ → List ℕ) → List ℕ → List (List ℕ)
deciphered_keys dec body = map (unwrapped dec) (keys_in body)

-- the key set of a version and three keys
abbrev pub key_set_of : ℕ → List (List ℕ) → KeySet
key_set_of version keys = record { version = version; keys = record { enc = slice_index_or keys 0 []; mac = slice_index_or keys 1 []; kek = slice_index_or keys 2 [] } }

-- the set comes last where P1 is 00, and otherwise in the place of the one of version P1
abbrev pub with_set_put : ℕ → KeySet → Held → Held
with_set_put p1 k h = cond (p1 == 0x00) (with_new_set k h) (with_replaced_set p1 k h)

abbrev pub set_put : Held → ℕ → NewKeys → Option KeySet → Held × Reply
set_put h p1 n None = refused h CheckValueWrong
set_put h p1 n (Some k) = (with_set_put p1 k h, reply (receipt_of n) Success)

abbrev pub placed_put : Algorithm → List ℕ → Held → ℕ → NewKeys → Result (Unit {0}) StatusWord → Held × Reply
placed_put cipher kek h p1 n (Err status) = refused h status
placed_put cipher kek h p1 n (Ok u) = set_put h p1 n (key_set_from cipher.enc (cipher.dec kek) n)

abbrev pub keys_put : Algorithm → List ℕ → Held → ℕ → NewKeys → Held × Reply
keys_put cipher kek h p1 n =
    cond (own_algorithm cipher.identifier n) (placed_put cipher kek h p1 n (place_for p1 n.version h.sets)) (refused h AlgorithmUnknown)

abbrev pub body_put : Algorithm → List ℕ → Held → ℕ → Option NewKeys → Held × Reply
body_put cipher kek h p1 None = refused h WrongData
body_put cipher kek h p1 (Some n) = keys_put cipher kek h p1 n

unfoldable pub key_put : Algorithm → List ℕ → Held → ℕ → ℕ → List ℕ → Held × Reply
key_put cipher kek h p1 p2 body =
    cond (nat_le p1 0x7F && p2 == 0x81) (unless_locked h (body_put cipher kek h p1 (new_keys_in body))) (refused h WrongParameters)
