-- a value that names a state or a kind is the value of what it names, and each is named by its value
use Rattle.std.proofs.Common.{◌≡◌, ℕ, true, Some, refl, arith}
use Rattle.std.proofs.lemmas.Bool.Decides.{nat_tests}
use Rattle.contents.specs.declared.life.CardState.{CardState}
use Rattle.contents.specs.declared.life.CardState.TheVariants.{OpReady, Initialized, Secured, CmLocked, Terminated}
use Rattle.contents.specs.declared.life.EntryKind.{EntryKind}
use Rattle.contents.specs.declared.life.EntryKind.TheVariants.{LoadFile, Application}
use Rattle.contents.specs.declared.life.EntryState.{EntryState}
use Rattle.contents.specs.declared.life.EntryState.TheVariants.{Loaded, Installed, Selectable, Personalized, Blocked}
use Rattle.contents.specs.Life.{card_state_value, card_state, kind_value, entry_kind, entry_state_value, entry_state}
use Rattle.contents.specs.Held.{state_fits}

pub card_state_back : (v : ℕ) (s : CardState) → card_state v ≡ Some s → card_state_value s ≡ v
card_state_back v s e = grind (arith, nat_tests)

pub card_state_named : (s : CardState) → card_state (card_state_value s) ≡ Some s
card_state_named OpReady = refl
card_state_named Initialized = refl
card_state_named Secured = refl
card_state_named CmLocked = refl
card_state_named Terminated = refl

pub kind_back : (v : ℕ) (k : EntryKind) → entry_kind v ≡ Some k → kind_value k ≡ v
kind_back v k e = grind (arith, nat_tests)

pub kind_named : (k : EntryKind) → entry_kind (kind_value k) ≡ Some k
kind_named LoadFile = refl
kind_named Application = refl

pub entry_state_back : (k : EntryKind) (v : ℕ) (s : EntryState) → entry_state k v ≡ Some s → entry_state_value s ≡ v
entry_state_back LoadFile v s e = grind (arith, nat_tests)
entry_state_back Application v s e = grind (arith, nat_tests)

pub entry_state_fits : (k : EntryKind) (v : ℕ) (s : EntryState) → entry_state k v ≡ Some s → state_fits k s ≡ true
entry_state_fits LoadFile v s e = grind (arith, nat_tests)
entry_state_fits Application v s e = grind (arith, nat_tests)

pub entry_state_named : (k : EntryKind) (s : EntryState) → state_fits k s ≡ true → entry_state k (entry_state_value s) ≡ Some s
entry_state_named LoadFile Loaded h = refl
entry_state_named LoadFile Installed h = grind arith
entry_state_named LoadFile Selectable h = grind arith
entry_state_named LoadFile Personalized h = grind arith
entry_state_named LoadFile Blocked h = grind arith
entry_state_named Application Loaded h = grind arith
entry_state_named Application Installed h = refl
entry_state_named Application Selectable h = refl
entry_state_named Application Personalized h = refl
entry_state_named Application Blocked h = refl
