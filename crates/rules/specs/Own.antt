-- The own rule of each channel command, and what it changes.
use Rattle.std.specs.Prelude.{ℕ, Bool, true, false, cond, List, [], Some, None, Option, ◌==◌, slice_index}
use Rattle.answers.specs.declared.StatusWord.{StatusWord}
use Rattle.answers.specs.declared.StatusWord.TheVariants as sw
use Rattle.answers.specs.Replies.{Reply, only}
use Rattle.apdu.specs.declared.NoCommand.{NoCommand}
use Rattle.apdu.specs.declared.Management.{Management}
use Rattle.apdu.specs.declared.Management.TheVariants.{GetStatus, SetStatus, Install, Delete, PutKey}
use Rattle.cipher.specs.Blocks.{Algorithm}
use Rattle.contents.specs.Held.{Held}
use Rattle.contents.specs.Life.{card_state, application_state}
use Rattle.contents.specs.Changes.{in_card_state, in_state_named, with_application, without_entry}
use Rattle.rules.specs.declared.manage.Receipt.{Receipt}
use Rattle.rules.specs.declared.manage.Receipt.TheVariants.{Nothing, Listed, Confirmed, Keyed}
use Rattle.rules.specs.GetStatus.{got_status}
use Rattle.rules.specs.Listings.{listing_bytes}
use Rattle.rules.specs.SetStatus.{set_status}
use Rattle.rules.specs.Install.{Asked, state_by_p1, installation_in, installed}
use Rattle.rules.specs.Delete.{deleted_name, deleted}
use Rattle.rules.specs.NewKeys.{key_receipt_bytes}
use Rattle.rules.specs.PutKey.{deciphered_keys, key_set_of, with_set_put, key_put}

-- what the commands M inside a channel do: from what the card holds, the channel's key-encrypting key and the command to what the
-- card holds then, and the reply
abbrev pub Rule : Type 0 → Type 0
Rule M = Algorithm → List ℕ → Held → M → ℕ → ℕ → List ℕ → Held × Reply

unfoldable pub own_rule : Rule Management
own_rule cipher kek h GetStatus p1 p2 body = (h, got_status h p1 p2 body)
own_rule cipher kek h SetStatus p1 p2 body = set_status h p1 p2 body
own_rule cipher kek h Install p1 p2 body = installed h p1 p2 body
own_rule cipher kek h Delete p1 p2 body = deleted h p1 p2 body
own_rule cipher kek h PutKey p1 p2 body = key_put cipher kek h p1 p2 body

-- where a card takes no commands inside a channel, no byte names one, and the one that stands for them is unknown
abbrev pub no_rule : Rule NoCommand
no_rule cipher kek h i p1 p2 body = (h, only sw.InstructionUnknown)

abbrev pub is_success : StatusWord → Bool
is_success sw.Success = true
is_success sw.SelectedLocked = false
is_success sw.CryptogramRejected = false
is_success sw.WrongLength = false
is_success sw.SecurityNotSatisfied = false
is_success sw.ConditionsNotSatisfied = false
is_success sw.WrongData = false
is_success sw.FunctionNotSupported = false
is_success sw.FileNotFound = false
is_success sw.NotEnoughSpace = false
is_success sw.WrongParameters = false
is_success sw.NotFound = false
is_success sw.InstructionUnknown = false
is_success sw.ClassUnknown = false
is_success sw.NoDiagnosis = false
is_success sw.AlgorithmUnknown = false
is_success sw.CheckValueWrong = false

-- A change: instruction, P1, P2 and body of a changing command; and the keys of PUT KEY, deciphered.
pub record Change : Type 0 where
  pub management : Management
  pub p1 : ℕ
  pub p2 : ℕ
  pub body : List ℕ
  pub keys : List (List ℕ)

-- the keys in a body, deciphered under the channel's key-encrypting key; only PUT KEY has some
abbrev pub keys_for : Algorithm → List ℕ → Management → List ℕ → List (List ℕ)
keys_for cipher kek GetStatus body = []
keys_for cipher kek SetStatus body = []
keys_for cipher kek Install body = []
keys_for cipher kek Delete body = []
keys_for cipher kek PutKey body = deciphered_keys (cipher.dec kek) body

abbrev pub change_of : Algorithm → List ℕ → Management → ℕ → ℕ → List ℕ → Change
change_of cipher kek i p1 p2 body = record { management = i; p1 = p1; p2 = p2; body = body; keys = keys_for cipher kek i body }

-- a change by what was read, and none where nothing was
abbrev pub changed_by : {X : Type 0} → (X → Held → Held) → Option X → Held → Held
changed_by f None h = h
changed_by f (Some x) h = f x h

-- SET STATUS: the card, or the application of the name in the body, is in the state of value P2
abbrev pub with_status : ℕ → ℕ → List ℕ → Held → Held
with_status p1 p2 body h =
    cond (p1 == 0x80) (changed_by in_card_state (card_state p2) h) (changed_by (in_state_named body) (application_state p2) h)

-- INSTALL: the application in the body comes last, in the state by P1
abbrev pub with_asked : ℕ → Asked → Held → Held
with_asked p1 x h = changed_by (λ s. with_application x.name s x.privileges) (state_by_p1 p1) h

abbrev pub with_installed : ℕ → List ℕ → Held → Held
with_installed p1 body h = changed_by (with_asked p1) (installation_in body) h

-- DELETE: the entry of the name in the body is gone
abbrev pub without_deleted : List ℕ → Held → Held
without_deleted body h = changed_by without_entry (deleted_name body) h

-- PUT KEY: the set of the version in the body and of the keys comes last, or in the place of the one of version P1
abbrev pub with_keys : ℕ → List ℕ → List (List ℕ) → Held → Held
with_keys p1 body keys h = with_set_put p1 (key_set_of (slice_index body 0) keys) h

abbrev pub applied_by : Held → Management → Change → Held
applied_by h GetStatus c = h
applied_by h SetStatus c = with_status c.p1 c.p2 c.body h
applied_by h Install c = with_installed c.p1 c.body h
applied_by h Delete c = without_deleted c.body h
applied_by h PutKey c = with_keys c.p1 c.body c.keys h

-- what a card holds once a change is made
unfoldable pub applied : Held → Change → Held
applied h c = applied_by h c.management c

abbrev pub receipt_bytes : Receipt → List ℕ
receipt_bytes Nothing = []
receipt_bytes (Listed listing) = listing_bytes listing
receipt_bytes (Confirmed bytes) = bytes
receipt_bytes (Keyed keys) = key_receipt_bytes keys
